use Rattle.std.proofs.Common.{◌≡◌, length}
use Rattle.gm_types.specs.Index.{is_member}
use Rattle.gm_types.proofs.fits.is_member.Given as goal

abbrev pub invariant-parts : goal.invariant-parts
invariant-parts l = is_member l.word l.list ≡ is_member l.word l.rest

abbrev pub decreases-parts : goal.decreases-parts
decreases-parts l = length l.rest
