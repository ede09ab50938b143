use Rattle.std.proofs.Common.{ap, sym, ◌∙◌, ◌++◌, flat_map, length}
use Rattle.gm_types.specs.declared.index.IndexKind.TheVariants.{Id, Z2, Z3, Xz2, Xz3}
use Rattle.gm_types.specs.declared.index.IndexKind.{IndexKind}
use Rattle.gm_types.specs.Index.{attribute_indexes}
use Rattle.gm_keys.specs.Key.{keys_in}
use Rattle.gm_keys.proofs.KeyLists.{keys_as_parts, all_keys}
use Rattle.gm_keys.proofs.key.keys_of.Goals as goal

pub returns : goal.returns
returns c =
    let t = c.args.of.now in
    let f = c.args.feature.now in
    let k = λ (kind : IndexKind). keys_in t kind f in
    let rest = flat_map k (attribute_indexes 0 (length t.attributes)) in
    let one = c.in_ok-push_key.ensures ∙ ap (λ x. x ++ k Id) c.new-keys.ensures.items in
    let two = c.in_ok-push_key-2.ensures ∙ ap (λ x. x ++ k Z2) one in
    let three = c.in_ok-push_key-3.ensures ∙ ap (λ x. x ++ k Z3) two in
    let four = c.in_ok-push_key-4.ensures ∙ ap (λ x. x ++ k Xz2) three in
    let five = c.in_ok-push_key-5.ensures ∙ ap (λ x. x ++ k Xz3) four in
    c.from_vec.ensures ∙ c.in_ok-push_value_keys.ensures ∙ ap (λ x. x ++ rest) five
    ∙ all_keys (k Id) (k Z2) (k Z3) (k Xz2) (k Xz3) rest ∙ sym (keys_as_parts t f)
