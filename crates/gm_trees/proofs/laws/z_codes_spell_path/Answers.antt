use Rattle.gm_trees.proofs.Spelling.{spelled_codes, codes_spelled}
use Rattle.gm_trees.proofs.laws.z_codes_spell_path.Goals as goal

pub returns : goal.returns
returns g c = λ path code deep
    members. (
      spelled_codes g.row.D g.row.B path code deep members,
      (λ h. codes_spelled g.row.D g.row.B path code deep members h.1),
    )
