use Rattle.gm_types.proofs.Texts.{key_reads}
use Rattle.gm_types.proofs.words.key_text.Goals as goal

pub returns : goal.returns
returns c = key_reads c.args.bytes.now c.is_key.result c.is_key.ensures c.text_if.result
    c.text_if.ensures
