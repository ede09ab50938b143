use Rattle.std.proofs.Common.{length, ap, ◌∙◌, arith}
use Rattle.gm_types.specs.Specification.{kinds_of}
use Rattle.gm_feature.specs.Feature.{values_fit}
use Rattle.gm_feature.proofs.Fitting.{sound_at}
use Rattle.gm_feature.proofs.writer.to_bytes.Goals as goal

pub put_value-requires : goal.put_value-requires
put_value-requires c =
    let fit = ap (values_fit (kinds_of c.args.of.now)) c.as_slice-value-items.ensures
    ∙ c.requires.each in
    sound_at (kinds_of c.args.of.now) c.as_slice-value-items.result.now c.values.value-index
    c.value-item.result fit c.values-test.true c.value-item.is

pub overflow_mul-room : goal.overflow_mul-room
overflow_mul-room c =
    omega (
      arith,
      c.attributes.ensures.form.few,
      c.len-room.ensures,
      ap length c.attributes.ensures.list,
    )
