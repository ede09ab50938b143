use Rattle.std.proofs.Common.{ℕ, ◌<◌, []}
use Rattle.std.proofs.lemmas.List.Elements.{All-from_recursion}
use Rattle.gm_bounds.proofs.InRanges.{found_alone}
use Rattle.gm_bounds.specs.Values.{form_of, byte_ranges_of}
use Rattle.gm_feature.specs.Feature.{value_at}
use Rattle.gm_bounds.proofs.laws.forms_are_in_ranges.Goals as goal

pub returns : goal.returns
returns c =
    λ s t f d suit fits e. found_alone (form_of (value_at f d)) (byte_ranges_of s d t)
    (c.forms_and_more_are_in_ranges.ensures s t f d [] suit fits e
    (All-from_recursion (λ (byte : ℕ). byte < 256) [] tt))
