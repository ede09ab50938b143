use Rattle.std.proofs.Common.{ℕ, ◌<◌, length}
use Rattle.std.proofs.lemmas.List.Elements.{All-take}
use Rattle.gm_bounds.proofs.InForms.{FormLaws}
use Rattle.gm_bounds.proofs.InRanges.{RangeLaws, found_in_ranges}
use Rattle.gm_bounds.proofs.InValues.{EndLaws}
use Rattle.gm_bounds.proofs.laws.forms_and_more_are_in_ranges.Goals as goal

pub returns : goal.returns
returns c =
    let ends : EndLaws = record {
      begins = λ bytes other small. c.begins_where_within.ensures bytes other
          (All-take (λ (byte : ℕ). byte < 256) (length bytes) other small);
      front = λ high other small. c.fronts_decide.ensures.high high other
          (All-take (λ (byte : ℕ). byte < 256) (length high) other small);
    } in
    let forms : FormLaws = record {
      ints = c.values_in_order.ensures.ints;
      longs = c.values_in_order.ensures.longs;
      texts = c.values_in_order.ensures.texts;
      ints_apart = c.no_value_is_a_front.ensures.ints;
      longs_apart = c.no_value_is_a_front.ensures.longs;
      texts_apart = c.no_value_is_a_front.ensures.texts;
    } in
    let laws : RangeLaws =
    record {
      ends = ends;
      forms = forms;
      front = c.like_begins.ensures.front;
      whole = c.like_begins.ensures.whole;
    } in
    λ s t f d rest suit fits e small. found_in_ranges laws rest small s t f d
    (λ k at. c.fitting_features_have_values.ensures.value s f d k fits at) suit e
