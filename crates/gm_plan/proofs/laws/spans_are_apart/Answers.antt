use Rattle.gm_plan.proofs.Apart.{ApartLaws, spans_apart}
use Rattle.gm_plan.proofs.laws.spans_are_apart.Goals as goal

pub returns : goal.returns
returns c =
    let laws : ApartLaws = record {
      bytes = record
          { high = c.fronts_decide.ensures.high; shared = c.big_bytes_in_order.ensures.shared };
      codes = record {
        codes = c.keys_between_codes.ensures.codes;
        in_bin = c.keys_between_codes.ensures.in_bin;
        bins =
            c.keys_between_codes.ensures.bins;
      };
      one = record {
        one = c.keys_of_one_identifier.ensures;
        shared = c.big_bytes_in_order.ensures.shared;
      };
      z2 = c.z2_curve.ensures;
      z3 = c.z3_curve.ensures;
      xz2 = c.xz2_curve.ensures;
      xz3 = c.xz3_curve.ensures;
    } in
    spans_apart laws
