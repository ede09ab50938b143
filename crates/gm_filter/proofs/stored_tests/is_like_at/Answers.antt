use Rattle.gm_types.specs.Specification.{kinds_of}
use Rattle.gm_feature.specs.Feature.{value_at}
use Rattle.gm_filter.proofs.Trials.{sound_at}
use Rattle.gm_filter.proofs.stored_tests.is_like_at.Goals as goal

pub is_stored_like-requires : goal.is_stored_like-requires
is_stored_like-requires c =
    let f = c.requires.feature in
    let is = c.requires.same in
    let at = c.args.at in (
      value_at f at,
      c.value.ensures f is,
      sound_at (kinds_of c.args.stored.now.of.now) f.values at is.fits.each,
    )
