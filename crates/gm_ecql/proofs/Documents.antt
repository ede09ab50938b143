-- What is spelled has its texts in UTF-8, and what is read of it without a fault suits.
use Rattle.std.proofs.Common.{◌≡◌, ℕ, Bool, true, ◌&&◌, List, [], ◌∷◌, Some, refl, ◌∙◌, ap}
use Rattle.std.proofs.lemmas.Str.{is_utf8-from_IsUtf8}
use Rattle.gm_types.specs.Specification.{Specification}
use Rattle.gm_filter.specs.Suitability.{Suits}
use Rattle.gm_ecql.specs.Judging.{Judged, faultless}
use Rattle.gm_ecql.specs.Parser.{document}
use Rattle.gm_ecql.specs.Token.{Seen, a_keyword, a_name, a_text, an_instant, a_number, a_symbol}
use Rattle.gm_ecql.specs.Token.{IsPiece, Spells, SpellsTokens, unspaced}
use Rattle.gm_ecql.proofs.GrammarSound.{document_sound}
use Rattle.gm_ecql.proofs.Suiting.{has_utf8, are_utf8, spelled_suits}
use Rattle.gm_ecql.proofs.Undoubling.{plain_utf8}

piece_utf8 : (t : Seen) (piece rest : List ℕ) → IsPiece piece t rest → has_utf8 t ≡ true
piece_utf8 (a_keyword k) piece rest p = refl
piece_utf8 (a_name bytes) piece rest p = refl
piece_utf8 (a_text bytes) piece rest p = is_utf8-from_IsUtf8 bytes (plain_utf8 bytes p.utf8)
piece_utf8 (an_instant at) piece rest p = refl
piece_utf8 (a_number bytes) piece rest p = refl
piece_utf8 (a_symbol s) piece rest p = refl

pieces_utf8 : (bytes : List ℕ) (ts : List (Bool × Seen)) → Spells bytes ts
    → are_utf8 (unspaced ts) ≡ true
pieces_utf8 bytes [] s = refl
pieces_utf8 bytes (t ∷ ts) s =
    ap (λ x. x && are_utf8 (unspaced ts)) (piece_utf8 t.1 s.1.piece s.0 s.1.spelled)
    ∙ pieces_utf8 s.0 ts s.2

pub spelled_utf8 : (text : List ℕ) (ts : List (Bool × Seen)) → SpellsTokens text ts
    → are_utf8 (unspaced ts) ≡ true
spelled_utf8 text ts s = pieces_utf8 text ts s.spelled

pub document_suits : (s : Specification) (ts : List Seen) (j : Judged) → are_utf8 ts ≡ true
    → document s ts ≡ Some j → j.faults ≡ faultless → Suits s j.meaning
document_suits s ts j u h e = spelled_suits s ts j u (document_sound s ts j h) e
