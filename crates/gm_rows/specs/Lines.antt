-- Features whose row is one line.
use Rattle.std.specs.Prelude.{◌≡◌, false, ⊤, List, [], ◌∷◌}
use Rattle.gm_feature.specs.declared.value.Value.{Value}
use Rattle.gm_feature.specs.declared.value.Value.TheVariants as value
use Rattle.gm_rows.specs.Printer.{has_line_feed}

-- no text has a byte 0x0A
abbrev pub IsOnOneLine : Value → Type 0
IsOnOneLine value.Null = ⊤
IsOnOneLine (value.Text text) = has_line_feed text ≡ false
IsOnOneLine (value.Integer whole) = ⊤
IsOnOneLine (value.Long whole) = ⊤
IsOnOneLine (value.Boolean truth) = ⊤
IsOnOneLine (value.Date at) = ⊤
IsOnOneLine (value.Geo geometry) = ⊤

abbrev pub AreOnOneLine : List Value → Type 0
AreOnOneLine [] = ⊤
AreOnOneLine (value ∷ values) = IsOnOneLine value × AreOnOneLine values
