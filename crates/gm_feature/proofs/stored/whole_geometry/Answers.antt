use Rattle.std.proofs.Common.{◌≡◌, ℕ, List, [], ◌++◌, Option, Some, None, sym, ap, ◌∙◌, append-nil}
use Rattle.std.proofs.Common.{arith}
use Rattle.std.specs.Prelude.{is_none}
use Rattle.std.proofs.lemmas.Grind.{common_steps}
use Rattle.gm_base.proofs.Options.{none_is}
use Rattle.std.proofs.lemmas.Bool.{and_parts}
use Rattle.gm_geom.specs.declared.geometry.Geometry.{Geometry}
use Rattle.gm_geom.specs.Validity.{fault_of}
use Rattle.gm_types.specs.declared.kind.GeoKind.TheVariants as shape
use Rattle.gm_feature.specs.Reader.{geometry_from}
use Rattle.gm_feature.specs.Shape.{has_shape}
use Rattle.gm_feature.specs.Writer.{geometry_bytes}
use Rattle.gm_feature.proofs.Fields.{some_is}
use Rattle.gm_feature.proofs.Seen.{whole_again}
use Rattle.gm_feature.proofs.Shapes.{geometry_takes}
use Rattle.gm_feature.proofs.stored.whole_geometry.Goals as goal

pub returns-then-is_empty-clause-found : goal.returns-then-is_empty-clause-found
returns-then-is_empty-clause-found c =
    let g = c.in-Ok.geometry in
    let nothing : c.in-Ok.rest.now ≡ [] =
    grind (arith, common_steps, c.is_empty.ensures, c.if-is_empty.true) in
    let taken = geometry_takes shape.Any c.args.bytes.now (g, c.in-Ok.rest.now)
    (λ i. omega (arith, c.type_inv.bytes i)) c.in-Ok.ensures in (
      none_is (fault_of g) (and_parts (has_shape shape.Any g) (is_none (fault_of g)) taken.1).1,
      taken.0.parts ∙ ap (λ (r : List ℕ). geometry_bytes g ++ r) nothing
          ∙ append-nil (geometry_bytes g),
    )

pub returns-then-is_empty-clause-only : goal.returns-then-is_empty-clause-only
returns-then-is_empty-clause-only c = λ g fine is.
    ap (λ (p : Geometry × List ℕ). Some p.0)
    (some_is (c.in-Ok.geometry, c.in-Ok.rest.now) (g, [])
    (sym c.in-Ok.ensures ∙ whole_again g c.args.bytes.now fine is))

pub returns-else-is_empty-clause-only : goal.returns-else-is_empty-clause-only
returns-else-is_empty-clause-only c = λ g fine is.
    let nothing : c.in-Ok.rest.now ≡ [] = ap (λ (p : Geometry × List ℕ). p.1)
    (some_is (c.in-Ok.geometry, c.in-Ok.rest.now) (g, [])
    (sym c.in-Ok.ensures ∙ whole_again g c.args.bytes.now fine is)) in
    absurd (grind (arith, common_steps, nothing, c.is_empty.ensures, c.if-is_empty.false))

pub returns-else-is_empty-clause-none : goal.returns-else-is_empty-clause-none
returns-else-is_empty-clause-none c = λ g fine is.
    let nothing : c.in-Ok.rest.now ≡ [] = ap (λ (p : Geometry × List ℕ). p.1)
    (some_is (c.in-Ok.geometry, c.in-Ok.rest.now) (g, [])
    (sym c.in-Ok.ensures ∙ whole_again g c.args.bytes.now fine is)) in
    grind (arith, common_steps, nothing, c.is_empty.ensures, c.if-is_empty.false)

pub returns-in-Err-Refused-clause-only : goal.returns-in-Err-Refused-clause-only
returns-in-Err-Refused-clause-only c = λ g fine is.
    let none : Option (Geometry × List ℕ) = None in
    let refused : geometry_from shape.Any c.args.bytes.now ≡ none =
    rw c.in-Err-Refused.field-0-is at c.in-Err-Refused.ensures in
    let both : none ≡ Some (g, []) = sym refused ∙ whole_again g c.args.bytes.now fine is in
    absurd cc

pub returns-in-Err-Refused-clause-none : goal.returns-in-Err-Refused-clause-none
returns-in-Err-Refused-clause-none c = λ g fine is.
    let none : Option (Geometry × List ℕ) = None in
    let refused : geometry_from shape.Any c.args.bytes.now ≡ none =
    rw c.in-Err-Refused.field-0-is at c.in-Err-Refused.ensures in
    let both : none ≡ Some (g, []) = sym refused ∙ whole_again g c.args.bytes.now fine is in
    absurd cc
