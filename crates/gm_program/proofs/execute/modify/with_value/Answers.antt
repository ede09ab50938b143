use Rattle.std.proofs.Common.{◌≡◌, ap, length, rules, vec_len, arith}
use Rattle.gm_program.proofs.Values.{has_place}
use Rattle.gm_program.proofs.execute.modify.with_value.Goals as goal

pub index_mut-requires : goal.index_mut-requires
index_mut-requires c =
    let values : c.into_vec-values.result.items ≡ c.args.feature.now.values = search rules in
    let within = has_place c.args.of.now c.args.feature.now c.args.attribute c.args.value.now
    c.requires.fits c.requires.takes in
    let many : vec_len c.into_vec-values.result ≡ length c.into_vec-values.result.items =
    search rules in
    omega (arith, many, ap length values, within, c.from.ensures)
