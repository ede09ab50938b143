use Rattle.std.proofs.Common.{◌≡◌, None, sym, ap, ◌∙◌, arith}
use Rattle.std.proofs.lemmas.Int.{ints}
use mir.Val.{to_z, of_z}
use Rattle.std.specs.Int.{w32}
use Rattle.gm_geom.specs.Validity.{fault_of}
use Rattle.gm_prepared.proofs.Between.{between_ends}
use Rattle.gm_prepared.proofs.Ends.{ends_are_points}
use Rattle.gm_prepared.proofs.Meets.{between_same}
use Rattle.gm_prepared.proofs.prepared.Prepared.has_vertex_in.Goals as goal

pub any_between-requires : goal.any_between-requires
any_between-requires g c =
    let low : to_z w32 (of_z w32 c.args.area.low.y) ≡ c.args.area.low.y = omega (arith, ints) in
    let high : to_z w32 (of_z w32 c.args.area.high.y) ≡ c.args.area.high.y = omega (arith, ints) in
    λ e passes. between_same c.args.area.low.y c.args.area.high.y _ _ e low high
    (between_ends (g.R.Region.held c.args.region.now) c.args.area c.requires e passes)

pub returns : goal.returns
returns g c =
    let kept : fault_of c.args.self.now ≡ None =
    sym (ap fault_of c.self.view_is) ∙ c.self.invariant.kept in
    c.any_between.ensures ∙ ends_are_points (g.R.Region.held c.args.region.now) c.args.self.now kept
