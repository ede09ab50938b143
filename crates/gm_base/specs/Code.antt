-- The codes of refused lines, as they are printed.
use Rattle.std.specs.Prelude.{ℕ, List, codes}
use Rattle.gm_base.specs.declared.code.Code.{Code}
use Rattle.gm_base.specs.declared.code.Code.TheVariants.{E01, E02, E03, E04, E05, E06, E07, E08}
use Rattle.gm_base.specs.declared.code.Code.TheVariants.{E09, E10, E11, E12, E13, E14, E15, E16}
use Rattle.gm_base.specs.declared.code.Code.TheVariants.{E17, E18, E19}

abbrev pub code_name : Code → List ℕ
code_name E01 = codes "E01"
code_name E02 = codes "E02"
code_name E03 = codes "E03"
code_name E04 = codes "E04"
code_name E05 = codes "E05"
code_name E06 = codes "E06"
code_name E07 = codes "E07"
code_name E08 = codes "E08"
code_name E09 = codes "E09"
code_name E10 = codes "E10"
code_name E11 = codes "E11"
code_name E12 = codes "E12"
code_name E13 = codes "E13"
code_name E14 = codes "E14"
code_name E15 = codes "E15"
code_name E16 = codes "E16"
code_name E17 = codes "E17"
code_name E18 = codes "E18"
code_name E19 = codes "E19"

abbrev pub code_phrase : Code → List ℕ
code_phrase E01 = codes "line too long"
code_phrase E02 = codes "not UTF-8"
code_phrase E03 = codes "unknown command"
code_phrase E04 = codes "command form"
code_phrase E05 = codes "type exists"
code_phrase E06 = codes "no such type"
code_phrase E07 = codes "type specification"
code_phrase E08 = codes "field count"
code_phrase E09 = codes "unreadable value"
code_phrase E10 = codes "geometry"
code_phrase E11 = codes "date outside the bins"
code_phrase E12 = codes "identifier"
code_phrase E13 = codes "no such feature"
code_phrase E14 = codes "filter syntax"
code_phrase E15 = codes "unknown attribute"
code_phrase E16 = codes "literal"
code_phrase E17 = codes "no such index"
code_phrase E18 = codes "index not applicable"
code_phrase E19 = codes "limit"
