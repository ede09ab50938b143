use Rattle.std.proofs.Common.{sym, ◌∙◌, subst, Option}
use Rattle.std.specs.Option.{IsSome}
use Rattle.gm_geom.specs.declared.point.Box2.{Box2}
use Rattle.gm_geom.proofs.Extents.{extent_is_least, extent_some}
use Rattle.gm_geom.proofs.extent.bounds.Goals as goal

pub unwrap-requires : goal.unwrap-requires
unwrap-requires c = let P : Option Box2 → Type 0 = λ o. IsSome o in
    subst P (sym c.extent_of.ensures) (extent_some c.args.geometry.now c.requires)

pub returns-clause-least : goal.returns-clause-least
returns-clause-least c = extent_is_least _ _ (sym c.extent_of.ensures ∙ c.unwrap.ensures)
