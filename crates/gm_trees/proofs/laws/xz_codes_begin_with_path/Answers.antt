use Rattle.gm_trees.proofs.Numbering.{codes_begin, beginning_codes}
use Rattle.gm_trees.proofs.laws.xz_codes_begin_with_path.Goals as goal

pub returns : goal.returns
returns g c = λ path code short
    members. (
      codes_begin g.row.D g.row.G path code short members,
      (λ h. beginning_codes g.row.D g.row.G path code short members h.0 h.1),
    )
