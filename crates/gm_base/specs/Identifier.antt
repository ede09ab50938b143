-- What an identifier is.
use Rattle.std.specs.Prelude.{◌≡◌, ℕ, Bool, true, false, not, ◌&&◌, ◌==◌, nat_le, List, length}
use Rattle.std.specs.List.{list_all}
use Rattle.std.specs.Str.{is_utf8}
use Rattle.gm_base.specs.Ascii.{space, delete}
use Rattle.gm_base.specs.declared.identifier.IdFault.{IdFault}
use Rattle.gm_base.specs.declared.identifier.IdFault.TheVariants.{Form, NoMemory}

-- the most bytes of an identifier
abbrev pub identifier_limit : ℕ
identifier_limit = 128

-- no control character: not below 0x20, and not 0x7F
abbrev pub is_printable : ℕ → Bool
is_printable byte = nat_le space byte && not (byte == delete)

-- 1 to 128 bytes, none of them a control character
abbrev pub has_identifier_form : List ℕ → Bool
has_identifier_form bytes =
    (nat_le 1 (length bytes) && nat_le (length bytes) identifier_limit)
    && list_all is_printable bytes

-- UTF-8 of that form
abbrev pub is_identifier : List ℕ → Bool
is_identifier bytes = is_utf8 bytes && has_identifier_form bytes

-- Form comes exactly where the bytes are no identifier
abbrev pub Fault : List ℕ → IdFault → Type 0
Fault bytes Form = is_identifier bytes ≡ false
Fault bytes NoMemory = is_identifier bytes ≡ true
