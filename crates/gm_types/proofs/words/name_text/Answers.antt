use Rattle.gm_types.proofs.Texts.{name_reads}
use Rattle.gm_types.proofs.words.name_text.Goals as goal

pub returns : goal.returns
returns c = name_reads c.args.bytes.now c.is_name.result c.is_name.ensures c.text_if.result
    c.text_if.ensures
