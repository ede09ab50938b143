-- Printed literals are pieces of their tokens, which stand for them again.
use Rattle.std.proofs.Common.{◌≡◌, ℤ, pos, negsuc, ◌^◌, Bool, true, false, List, [], ◌∷◌, take, map}
use Rattle.std.proofs.Common.{Some, option_map, refl, ◌∙◌, ap, arith}
use Rattle.std.specs.List.{list_all}
use Rattle.std.proofs.lemmas.Bool.Decides.{nat_tests}
use Rattle.std.proofs.lemmas.Str.{IsUtf8-from_is_utf8}
use Rattle.std.proofs.lemmas.Bool.{and_parts}
use Rattle.gm_calendar.specs.Instant.{IsInstant, is_instant}
use Rattle.gm_calendar.specs.Spelling.{instant_text, instant_of, has_date_form, is_instant_byte}
use Rattle.gm_feature.specs.Value.{is_below}
use Rattle.gm_filter.specs.declared.filter.Literal.{Literal}
use Rattle.gm_filter.specs.declared.filter.Literal.TheVariants as literal
use Rattle.gm_filter.specs.Suitability.{is_literal_of}
use Rattle.gm_types.specs.declared.kind.Kind.{Kind}
use Rattle.gm_types.specs.declared.kind.Kind.TheVariants as kind
use Rattle.gm_types.specs.Kind.{is_date}
use Rattle.gm_ecql.specs.declared.keyword.Keyword.TheVariants as keyword
use Rattle.gm_ecql.specs.Grammar.{literal_token, by_commas, comma}
use Rattle.gm_ecql.specs.Judging.{literal_of, literals_of, add_first}
use Rattle.gm_ecql.specs.Printer.{literal_text, truth_text}
use Rattle.gm_ecql.specs.Test.{Written, of_text, of_number, of_instant, of_truth}
use Rattle.gm_ecql.specs.Token.{an_instant}
use Rattle.gm_ecql.proofs.Doubling.{doubled_utf8}
use Rattle.gm_ecql.proofs.Fixed.{whole_printed}
use Rattle.gm_ecql.proofs.Lexemes.{ends_instant}
use Rattle.gm_ecql.proofs.PrintedWords.{keyword_piece, text_piece}
use Rattle.gm_ecql.proofs.Sequences.{Printed}
use Rattle.gm_ecql.proofs.Wholes.{reads_again}
use Rattle.std.specs.Fmt.{signed_decimal}

-- what is said of printed instants
pub record PrintsInstants : Type 0 where
  pub tested : (at : ℤ) → is_instant at ≡ true → IsInstant at
  pub reads : (at : ℤ) → IsInstant at → instant_of (instant_text at) ≡ Some at
  pub date : (at : ℤ) → IsInstant at → has_date_form (take 10 (instant_text at)) ≡ true
  pub bytes : (at : ℤ) → IsInstant at → list_all is_instant_byte (instant_text at) ≡ true

pub instant_printed : PrintsInstants → (at : ℤ) → is_instant at ≡ true
    → Printed (instant_text at) (an_instant at)
instant_printed f at h rest e =
    let is = f.tested at h in
    record {
      date = f.date at is;
      all = f.bytes at is;
      ends = ends_instant rest e;
      spelled = f.reads at is;
    }

truth_printed : (b : Bool) → Printed (truth_text b) (literal_token (of_truth b))
truth_printed true = keyword_piece keyword.True
truth_printed false = keyword_piece keyword.False

abbrev pub written_of : Literal → Written
written_of (literal.Text t) = of_text t
written_of (literal.Number z) = of_number (signed_decimal z)
written_of (literal.Truth b) = of_truth b
written_of (literal.Date at) = of_instant at

-- a number of 32 bits is one of 64
wide : (z : ℤ) → is_below (2 ^ 31) z ≡ true → is_below (2 ^ 63) z ≡ true
wide (pos n) e = grind (arith, nat_tests)
wide (negsuc n) e = grind (arith, nat_tests)

no : {P : Type 0} → false ≡ true → P
no e = absurd (cc)

pub literal_printed : PrintsInstants → (k : Kind) (l : Literal) → is_literal_of k l ≡ true
    → Printed (literal_text l) (literal_token (written_of l))
literal_printed f kind.Text (literal.Text t) h =
    text_piece t (doubled_utf8 t (IsUtf8-from_is_utf8 t h))
literal_printed f kind.Text (literal.Number z) h = no h
literal_printed f kind.Text (literal.Truth b) h = no h
literal_printed f kind.Text (literal.Date at) h = no h
literal_printed f kind.Integer (literal.Text t) h = no h
literal_printed f kind.Integer (literal.Number z) h = whole_printed z (wide z h)
literal_printed f kind.Integer (literal.Truth b) h = no h
literal_printed f kind.Integer (literal.Date at) h = no h
literal_printed f kind.Long (literal.Text t) h = no h
literal_printed f kind.Long (literal.Number z) h = whole_printed z h
literal_printed f kind.Long (literal.Truth b) h = no h
literal_printed f kind.Long (literal.Date at) h = no h
literal_printed f kind.Boolean (literal.Text t) h = no h
literal_printed f kind.Boolean (literal.Number z) h = no h
literal_printed f kind.Boolean (literal.Truth b) h = truth_printed b
literal_printed f kind.Boolean (literal.Date at) h = no h
literal_printed f kind.Date (literal.Text t) h = no h
literal_printed f kind.Date (literal.Number z) h = no h
literal_printed f kind.Date (literal.Truth b) h = no h
literal_printed f kind.Date (literal.Date at) h = instant_printed f at h
literal_printed f (kind.Geo g) (literal.Text t) h = no h
literal_printed f (kind.Geo g) (literal.Number z) h = no h
literal_printed f (kind.Geo g) (literal.Truth b) h = no h
literal_printed f (kind.Geo g) (literal.Date at) h = no h

pub literal_means : (k : Kind) (l : Literal) → is_literal_of k l ≡ true
    → literal_of (is_date k) (written_of l) ≡ Some l
literal_means kind.Text (literal.Text t) h = refl
literal_means kind.Text (literal.Number z) h = no h
literal_means kind.Text (literal.Truth b) h = no h
literal_means kind.Text (literal.Date at) h = no h
literal_means kind.Integer (literal.Text t) h = no h
literal_means kind.Integer (literal.Number z) h =
    ap (option_map (λ z. literal.Number z)) (reads_again z (wide z h))
literal_means kind.Integer (literal.Truth b) h = no h
literal_means kind.Integer (literal.Date at) h = no h
literal_means kind.Long (literal.Text t) h = no h
literal_means kind.Long (literal.Number z) h =
    ap (option_map (λ z. literal.Number z)) (reads_again z h)
literal_means kind.Long (literal.Truth b) h = no h
literal_means kind.Long (literal.Date at) h = no h
literal_means kind.Boolean (literal.Text t) h = no h
literal_means kind.Boolean (literal.Number z) h = no h
literal_means kind.Boolean (literal.Truth b) h = refl
literal_means kind.Boolean (literal.Date at) h = no h
literal_means kind.Date (literal.Text t) h = no h
literal_means kind.Date (literal.Number z) h = no h
literal_means kind.Date (literal.Truth b) h = no h
literal_means kind.Date (literal.Date at) h = refl
literal_means (kind.Geo g) (literal.Text t) h = no h
literal_means (kind.Geo g) (literal.Number z) h = no h
literal_means (kind.Geo g) (literal.Truth b) h = no h
literal_means (kind.Geo g) (literal.Date at) h = no h

pub literals_mean : (k : Kind) (ls : List Literal) → list_all (is_literal_of k) ls ≡ true
    → literals_of (is_date k) (map written_of ls) ≡ Some ls
literals_mean k [] h = refl
literals_mean k (l ∷ ls) h =
    let p = and_parts (is_literal_of k l) (list_all (is_literal_of k) ls) h in
    ap (λ o. add_first o (literals_of (is_date k) (map written_of ls))) (literal_means k l p.0)
    ∙ ap (add_first (Some l)) (literals_mean k ls p.1)

pub commas_written : (ls : List Literal)
    → by_commas literal_token (map written_of ls) ≡ by_commas (λ l. literal_token (written_of l)) ls
commas_written [] = refl
commas_written (l ∷ []) = refl
commas_written (l ∷ m ∷ ms) =
    ap (λ z. literal_token (written_of l) ∷ comma ∷ z) (commas_written (m ∷ ms))
