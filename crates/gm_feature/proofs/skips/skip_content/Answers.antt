use Rattle.std.proofs.Common.{ℤ, Bool, ◌∙◌}
use Rattle.std.specs.Int.{w32, w64}
use Rattle.gm_feature.specs.declared.value.Value.TheVariants as value
use Rattle.gm_feature.specs.Reader.{signed_from, truth_from, instant_from}
use Rattle.gm_feature.proofs.Leaps.{made_leaps, signed_sized, truth_sized, instant_number}
use Rattle.gm_feature.proofs.skips.skip_content.Goals as goal

pub returns-in-Integer : goal.returns-in-Integer
returns-in-Integer c = λ x e.
    made_leaps (λ (z : ℤ). value.Integer z) (signed_from w32 c.args.bytes.now) c.behind.result.now
    (λ y f. let s = signed_sized w32 c.args.bytes.now y f in c.behind.ensures s.0 ∙ s.1) x
    (rw c.in-Integer.is at e)

pub returns-in-Long : goal.returns-in-Long
returns-in-Long c = λ x e.
    made_leaps (λ (z : ℤ). value.Long z) (signed_from w64 c.args.bytes.now)
    c.behind-in-Long.result.now
    (λ y f. let s = signed_sized w64 c.args.bytes.now y f in c.behind-in-Long.ensures s.0 ∙ s.1) x
    (rw c.in-Long.is at e)

pub returns-in-Boolean : goal.returns-in-Boolean
returns-in-Boolean c = λ x e.
    made_leaps (λ (b : Bool). value.Boolean b) (truth_from c.args.bytes.now)
    c.behind-in-Boolean.result.now
    (λ y f. let s = truth_sized c.args.bytes.now y f in c.behind-in-Boolean.ensures s.0 ∙ s.1) x
    (rw c.in-Boolean.is at e)

pub returns-in-Date : goal.returns-in-Date
returns-in-Date c = λ x e.
    made_leaps (λ (at : ℤ). value.Date at) (instant_from c.args.bytes.now)
    c.behind-in-Date.result.now
    (λ y f. let s = signed_sized w64 c.args.bytes.now y (instant_number c.args.bytes.now y f).0 in
    c.behind-in-Date.ensures s.0 ∙ s.1) x (rw c.in-Date.is at e)
