use Rattle.gm_types.specs.Reader.{is_starred, stars_of}
use Rattle.gm_types.proofs.ReadParts.{last_mapped, next_mapped}
use Rattle.gm_types.proofs.attribute_reader.read_stars.Goals as goal

pub returns-in_default : goal.returns-in_default
returns-in_default c =
    last_mapped is_starred 44 (stars_of c.args.text.now) c.parts.stars.items c.push.new.self.items
    c.is_starred.result
    c.parts.rest.now c.parts.invariant c.in_default.ensures.cut c.is_starred.ensures
    c.in_ok-push.ensures.items

pub parts-preserved : goal.parts-preserved
parts-preserved c =
    next_mapped is_starred 44 (stars_of c.args.text.now) c.parts.stars.items
    c.push-in-parts.new.self.items
    c.is_starred-in-parts.result c.parts.rest.now c.in-Some.part.now c.in-Some.behind.now
    c.parts.invariant c.in-Some.ensures.cut
    c.is_starred-in-parts.ensures c.in_ok-push-2.ensures.items
