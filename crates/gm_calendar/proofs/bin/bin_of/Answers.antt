use Rattle.std.proofs.Common.{arith, rules}
use Rattle.jiff_core.proofs.SignedLemmas.{signed_casts, one_part}
use Rattle.gm_calendar.proofs.BinLaws.{bin_from_place, none_from_place, bin_at_place, bin_at_past}
use Rattle.gm_calendar.proofs.BinLaws.{bin_at_before, rest_within_span}
use Rattle.gm_calendar.proofs.bin.bin_of.Goals as goal

pub returns-then-ms-lt0-clause-value : goal.returns-then-ms-lt0-clause-value
returns-then-ms-lt0-clause-value c =
    bin_at_before c.args.period c.args.at (omega (arith, signed_casts))

pub returns-then-bin_place-from : goal.returns-then-bin_place-from
returns-then-bin_place-from c =
    record {
      by_starts = none_from_place c.args.period c.args.at _ c.bin_place_of-bin_place.result
          c.bin_place_of-bin_place.ensures (omega (arith, signed_casts, one_part)) (omega arith);
      value = bin_at_past c.args.period c.args.at _ c.bin_place_of-bin_place.result
          c.bin_place_of-bin_place.ensures (omega (arith, signed_casts, one_part)) (omega arith);
      offset = search rules;
    }

pub returns : goal.returns
returns c =
    record {
      by_starts = bin_from_place c.args.period c.args.at _ c.bin_place_of-bin_place.result _
          c.bin_place_of-bin_place.ensures (omega (arith, signed_casts, one_part)) (omega arith)
          c.unit_ms.ensures;
      value = bin_at_place c.args.period c.args.at _ c.bin_place_of-bin_place.result _
          c.bin_place_of-bin_place.ensures (omega (arith, signed_casts, one_part)) (omega arith)
          c.unit_ms.ensures;
      offset = rw c.unit_ms.ensures
          (rest_within_span c.args.period _ _ c.bin_place_of-bin_place.ensures.below);
    }
