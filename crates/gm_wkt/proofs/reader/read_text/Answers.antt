use Rattle.gm_wkt.proofs.Keywords.{text_found}
use Rattle.gm_wkt.proofs.Wholes.{keyword_none, keyword_same, body_spells}
use Rattle.gm_wkt.proofs.Readers.{ok_maps}
use Rattle.gm_wkt.proofs.reader.read_text.Goals as goal

pub returns-in-None-clause-only : goal.returns-in-None-clause-only
returns-in-None-clause-only c =
    λ g s. keyword_none c.args.text.now c.split_word.result.0.now g c.in-None.ensures
    c.split_word.ensures.front s

pub returns-in-Some-clause-found : goal.returns-in-Some-clause-found
returns-in-Some-clause-found c =
    ok_maps c.read_body.result _ _
    (λ h s. text_found c.args.text.now c.split_word.result.0.now c.split_word.result.1.now
    c.skip_blanks.result.now c.in-Some.keyword h c.split_word.ensures.front
    c.split_word.ensures.back c.skip_blanks.ensures c.in-Some.ensures s.0 s.1)
    c.read_body.ensures.found

pub returns-in-Some-clause-only : goal.returns-in-Some-clause-only
returns-in-Some-clause-only c =
    λ g s. c.read_body.ensures.only g
    (keyword_same c.args.text.now c.split_word.result.0.now c.in-Some.keyword g
    c.in-Some.ensures c.split_word.ensures.front s)
    (body_spells c.args.text.now c.split_word.result.1.now c.skip_blanks.result.now g
    c.split_word.ensures.back c.skip_blanks.ensures s)
