use Rattle.std.proofs.Common.{length, get_or, sym, ap, ◌∙◌, arith}
use Rattle.std.specs.Prelude.{is_none}
use Rattle.gm_base.proofs.Options.{none_is}
use Rattle.std.proofs.lemmas.Bool.{and_parts}
use Rattle.gm_geom.specs.declared.geometry.Geometry.{Geometry}
use Rattle.gm_geom.specs.declared.geometry.Geometry.TheVariants as geo
use Rattle.gm_geom.specs.Validity.{fault_of}
use Rattle.gm_feature.specs.declared.value.Value.TheVariants as value
use Rattle.gm_feature.specs.Reader.{point_from}
use Rattle.gm_feature.specs.Shape.{has_shape}
use Rattle.gm_feature.proofs.Leaps.{no_geometry, tagged_body, tail_of, body_1}
use Rattle.gm_feature.proofs.Seen.{made_is, not_point, first_byte}
use Rattle.gm_feature.proofs.Shapes.{geometry_takes}
use Rattle.gm_feature.proofs.stored.stored_geometry.Goals as goal

pub returns-in-empty : goal.returns-in-empty
returns-in-empty c =
    λ shape x e. absurd
    (no_geometry shape c.args.bytes.now x (omega (arith, c.in-empty.len_below)) e)

pub returns-then-tag-eq-POINT_TAG : goal.returns-then-tag-eq-POINT_TAG
returns-then-tag-eq-POINT_TAG c = λ shape x e.
    let bytes = c.args.bytes.now in
    let body = tagged_body shape bytes x (omega (arith, c.in-len1-up.len_at_least)) e in
    let is = body_1 (get_or bytes 0 0) (tail_of bytes) c.if-tag-eq-POINT_TAG.true in
    let same =
    made_is (λ p. geo.Point p) (point_from (tail_of bytes)) c.point_at.result.0
    (λ y f. (c.point_at.ensures y f).0) x (sym is ∙ body.0) in
    let fine = none_is (fault_of x.0)
    (and_parts (has_shape shape x.0) (is_none (fault_of x.0)) body.1).1 in
    (ap (λ (g : Geometry). fault_of g) (sym same) ∙ fine, ap (λ (g : Geometry). value.Geo g) same)

pub returns-else-tag-eq-POINT_TAG : goal.returns-else-tag-eq-POINT_TAG
returns-else-tag-eq-POINT_TAG c = λ shape x e.
    let bytes = c.args.bytes.now in
    let body = tagged_body shape bytes x (omega (arith, c.in-len1-up.len_at_least)) e in
    let span = c.span_at-extent.ensures x body.0 in
    let taken = (geometry_takes shape bytes x (λ i. omega (arith, c.type_inv.bytes i)) e).0 in
    let fine = none_is (fault_of x.0)
    (and_parts (has_shape shape x.0) (is_none (fault_of x.0)) body.1).1 in
    let many = not_point x.0
    (λ one. c.if-tag-eq-POINT_TAG.false (first_byte bytes x.1 x.0 taken.parts ∙ one)) in
    c.stored_lists.ensures x.0 x.1 taken.parts (ap length span.1) fine many span.0
