use Rattle.std.proofs.Common.{◌≡◌, ◌∙◌, sym, ap, subst}
use Rattle.std.specs.Ordering.{nat_cmp, is_lt}
use Rattle.std.specs.Cmp.Lexicographic.{slice_cmp}
use Rattle.gm_base.proofs.Numbers.{less_of}
use Rattle.gm_block.specs.Block.{IsAbove}
use Rattle.gm_block.proofs.Rising.{above-last, last-above}
use Rattle.gm_block.proofs.block.is_above.Goals as goal

pub returns-in-Some : goal.returns-in-Some
returns-in-Some c =
    let key = c.args.key.now in
    let last = c.in-Some.last.now in
    let front = c.in-Some.field-0-1.now in
    let parts = c.in-Some.ensures.cases.0 in
    let told : c.is_lt.result ≡ is_lt (slice_cmp nat_cmp last.key key) =
    c.is_lt.ensures
    ∙ ap is_lt (c.cmp.ensures
    ∙ ap (λ bytes. slice_cmp nat_cmp bytes key) c.as_slice.ensures) in (
      λ yes. subst (λ rows. IsAbove rows key) (sym parts)
          (above-last front last key (less_of _ (sym told ∙ yes))),
      λ above. told ∙ ap is_lt
          (last-above front last key (subst (λ rows. IsAbove rows key) parts above)),
    )
