use Rattle.std.proofs.Common.{◌≡◌, ℕ, ap, sym, ◌∙◌, ◌++◌, append_assoc, flat_map, length, arith}
use Rattle.gm_types.specs.declared.index.IndexKind.TheVariants.{Attr}
use Rattle.gm_types.specs.declared.index.IndexKind.{IndexKind}
use Rattle.gm_types.specs.Index.{attribute_indexes}
use Rattle.gm_keys.specs.Key.{keys_in}
use Rattle.gm_keys.proofs.KeyLists.{keys_more}
use Rattle.gm_keys.proofs.key.push_value_keys.Goals as goal

pub attributes-preserved : goal.attributes-preserved
attributes-preserved c =
    let f = λ (kind : IndexKind). keys_in c.args.of.now kind c.args.feature.now in
    let n = c.attributes.attribute in
    let before = flat_map f (attribute_indexes 0 n) in
    c.in_ok-push_key.ensures ∙ ap (λ x. x ++ f (Attr n)) c.attributes.invariant
    ∙ append_assoc c.args.keys.now.items before (f (Attr n))
    ∙ ap (λ x. c.args.keys.now.items ++ x) (sym (keys_more f n))

pub returns : goal.returns
returns c =
    let f = λ (kind : IndexKind). keys_in c.args.of.now kind c.args.feature.now in
    let all : c.attributes.attribute ≡ length c.args.of.now.attributes =
    omega (
      arith,
      c.attributes-test.false,
      c.attributes.auto.attribute-end,
      c.len-count.ensures,
      ap length c.attributes-2.ensures.list,
    ) in
    c.attributes.invariant
    ∙ ap (λ (n : ℕ). c.args.keys.now.items ++ flat_map f (attribute_indexes 0 n)) all
