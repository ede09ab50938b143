-- What is printed as a record is read as exactly one record of the same fields.
use Rattle.std.proofs.Common.{◌≡◌, ◌≢◌, ◌==◌, ◌++◌, ◌∷◌, ◌∙◌, [], ℕ, List, Bool, Some, None, refl}
use Rattle.std.proofs.Common.{sym, ap, subst, true, false, append_assoc, inl, inr}
use Rattle.std.specs.Prelude.{◌||◌, ◌&&◌}
use Rattle.std.specs.List.{list_any}
use Rattle.std.proofs.lemmas.List.{append-nil}
use Rattle.std.proofs.lemmas.Bool.{cases_Bool, eqb-true}
use Rattle.csv.specs.Machine.{next_record}
use Rattle.csv.specs.Reading.{default_config, is_bom, strip_bom}
use Rattle.csv.specs.declared.parser.State.TheVariants as state
use Rattle.gm_base.proofs.Booleans.{and_false}
use Rattle.gm_rows.specs.Printer.{is_marked, begins_with_mark, is_quoted, doubled, printed}
use Rattle.gm_rows.specs.Printer.{further, record_text, has_line_feed, HaveNoLineFeed}
use Rattle.gm_rows.specs.Reader.{first_record, record_of}

or-left : (a b : Bool) → (a || b) ≡ false → a ≡ false
or-left false b e = refl
or-left true b e = cc e

or-right : (a b : Bool) → (a || b) ≡ false → b ≡ false
or-right false b e = e
or-right true b e = cc e

-- a byte that is no mark
plain_byte : (b : ℕ) → is_marked b ≡ false
    → ((b == 44) ≡ false) × ((b == 34) ≡ false) × ((b == 13) ≡ false)
plain_byte b e = (
  or-left (b == 44) (b == 34) (or-left ((b == 44) || (b == 34)) (b == 13) e),
  or-right (b == 44) (b == 34) (or-left ((b == 44) || (b == 34)) (b == 13) e),
  or-right ((b == 44) || (b == 34)) (b == 13) e,
)

-- the bytes of a field with no mark and no line feed join it
pub plain_run : (fields : List (List ℕ)) (field x tail : List ℕ) → list_any is_marked x ≡ false
    → has_line_feed x ≡ false
    → next_record default_config state.InField fields field (x ++ tail)
    ≡ next_record default_config state.InField fields (field ++ x) tail
unfolding next_record
plain_run fields field [] tail e l = rw (append-nil field) refl
plain_run fields field (b ∷ rest) tail e l =
    let q = plain_byte b (or-left _ _ e) in
    let feed : (b == 10) ≡ false = or-left _ _ l in
    rw (q.0, q.2, feed)
    (plain_run fields (field ++ (b ∷ [])) rest tail (or-right _ _ e) (or-right _ _ l)
    ∙ ap (λ (f : List ℕ). next_record default_config state.InField fields f tail)
    (append_assoc field (b ∷ []) rest))

-- a byte that is no quote, between quotes
inner_plain : (fields : List (List ℕ)) (field : List ℕ) (b : ℕ) (tail : List ℕ) → (b == 34) ≡ false
    → next_record default_config state.InQuoted fields field (b ∷ tail)
    ≡ next_record default_config state.InQuoted fields (field ++ (b ∷ [])) tail
unfolding next_record
inner_plain fields field b tail n = rw n refl

inner_quote : (fields : List (List ℕ)) (field tail : List ℕ)
    → next_record default_config state.InQuoted fields field (34 ∷ 34 ∷ tail)
    ≡ next_record default_config state.InQuoted fields (field ++ (34 ∷ [])) tail
unfolding next_record
inner_quote fields field tail = refl

doubled-plain : (b : ℕ) (rest : List ℕ) → (b == 34) ≡ false → doubled (b ∷ rest) ≡ b ∷ doubled rest
unfolding doubled
doubled-plain b rest n = rw n refl

doubled-quote : (rest : List ℕ) → doubled (34 ∷ rest) ≡ 34 ∷ 34 ∷ doubled rest
unfolding doubled
doubled-quote rest = refl

doubled-nil : doubled [] ≡ []
unfolding doubled
doubled-nil = refl

quote_ends : (fields : List (List ℕ)) (field tail : List ℕ)
    → next_record default_config state.InQuoted fields field (34 ∷ tail)
    ≡ next_record default_config state.AfterQuote fields field tail
unfolding next_record
quote_ends fields field tail = refl

-- the bytes between quotes, and the quote that ends them
quoted_run : (fields : List (List ℕ)) (field x tail : List ℕ)
    → next_record default_config state.InQuoted fields field (doubled x ++ (34 ∷ tail))
    ≡ next_record default_config state.AfterQuote fields (field ++ x) tail
quoted_run fields field [] tail = rw (doubled-nil, append-nil field) (quote_ends fields field tail)
quoted_run fields field (b ∷ rest) tail = elim (cases_Bool (b == 34)) [
  | inl same ↦
      subst (λ (z : ℕ). next_record default_config state.InQuoted fields field
      (doubled (z ∷ rest) ++ (34 ∷ tail))
      ≡ next_record default_config state.AfterQuote fields (field ++ (z ∷ rest)) tail)
      (sym (eqb-true b 34 same))
      (rw (doubled-quote rest) (inner_quote fields field (doubled rest ++ (34 ∷ tail))
      ∙ quoted_run fields (field ++ (34 ∷ [])) rest tail
      ∙ ap (λ (f : List ℕ). next_record default_config state.AfterQuote fields f tail)
      (append_assoc field (34 ∷ []) rest)))
  | inr other ↦
      rw (doubled-plain b rest other) (inner_plain fields field b _ other
      ∙ quoted_run fields (field ++ (b ∷ [])) rest tail
      ∙ ap (λ (f : List ℕ). next_record default_config state.AfterQuote fields f tail)
      (append_assoc field (b ∷ []) rest))
]

-- further fields do the same after a quote, at the start of a field and in one
after_quote : (fields : List (List ℕ)) (field : List ℕ) (rest : List (List ℕ))
    → next_record default_config state.AfterQuote fields field (further rest)
    ≡ next_record default_config state.InField fields field (further rest)
unfolding next_record further
after_quote fields field [] = refl
after_quote fields field (y ∷ ys) = refl

pub no_field : (fields : List (List ℕ)) (rest : List (List ℕ))
    → next_record default_config state.StartField fields [] (further rest)
    ≡ next_record default_config state.InField fields [] (further rest)
unfolding next_record further
no_field fields [] = refl
no_field fields (y ∷ ys) = refl

pub start_plain : (fields : List (List ℕ)) (b : ℕ) (tail : List ℕ) → (b == 34) ≡ false
    → next_record default_config state.StartField fields [] (b ∷ tail)
    ≡ next_record default_config state.InField fields [] (b ∷ tail)
unfolding next_record
start_plain fields b tail n = rw n refl

start_quote : (fields : List (List ℕ)) (tail : List ℕ)
    → next_record default_config state.StartField fields [] (34 ∷ tail)
    ≡ next_record default_config state.InQuoted fields [] tail
unfolding next_record
start_quote fields tail = refl

printed-quoted : (x tail : List ℕ) → is_quoted x ≡ true
    → printed x ++ tail ≡ 34 ∷ (doubled x ++ (34 ∷ tail))
printed-quoted x tail needs =
    rw needs (ap (λ (t : List ℕ). 34 ∷ t) (append_assoc (doubled x) (34 ∷ []) tail))

printed-plain : (x : List ℕ) → is_quoted x ≡ false → printed x ≡ x
printed-plain x plain = rw plain refl

-- a field with no mark in it, and what stands behind it
plain_field : (fields : List (List ℕ)) (x : List ℕ) (rest : List (List ℕ))
    → list_any is_marked x ≡ false → has_line_feed x ≡ false
    → next_record default_config state.StartField fields [] (x ++ further rest)
    ≡ next_record default_config state.InField fields x (further rest)
plain_field fields [] rest p l = no_field fields rest
plain_field fields (b ∷ x) rest p l =
    start_plain fields b (x ++ further rest) (plain_byte b (or-left _ _ p)).1
    ∙ plain_run fields [] (b ∷ x) (further rest) p l

-- a field, and what stands behind it
field_run : (fields : List (List ℕ)) (x : List ℕ) (rest : List (List ℕ)) → has_line_feed x ≡ false
    → next_record default_config state.StartField fields [] (printed x ++ further rest)
    ≡ next_record default_config state.InField fields x (further rest)
field_run fields x rest l = elim (cases_Bool (is_quoted x)) [
  | inl needs ↦
      rw (printed-quoted x (further rest) needs)
      (start_quote fields _ ∙ quoted_run fields [] x (further rest) ∙ after_quote fields x rest)
  | inr plain ↦ rw (printed-plain x plain) (plain_field fields x rest (or-left _ _ plain) l)
]

-- a comma ends a field
pub end_field : (fields : List (List ℕ)) (x u : List ℕ)
    → next_record default_config state.InField fields x (44 ∷ u)
    ≡ next_record default_config state.StartField (fields ++ (x ∷ [])) [] u
unfolding next_record
end_field fields x u = refl

pub end_row : (fields : List (List ℕ)) (x : List ℕ)
    → next_record default_config state.InField fields x (further [])
    ≡ Some (fields ++ (x ∷ []), state.StartRecord, [])
unfolding next_record further
end_row fields x = refl

further-more : (y : List ℕ) (ys : List (List ℕ)) → further (y ∷ ys) ≡ 44 ∷ (printed y ++ further ys)
unfolding further
further-more y ys = refl

-- the rest of a record, behind a field
rest_run : (fields : List (List ℕ)) (x : List ℕ) (rest : List (List ℕ)) → HaveNoLineFeed rest
    → next_record default_config state.InField fields x (further rest)
    ≡ Some (fields ++ (x ∷ rest), state.StartRecord, [])
rest_run fields x [] l = end_row fields x
rest_run fields x (y ∷ ys) l =
    rw (further-more y ys)
    (end_field fields x _ ∙ field_run (fields ++ (x ∷ [])) y ys l.0
    ∙ rest_run (fields ++ (x ∷ [])) y ys l.1
    ∙ ap (λ (fs : List (List ℕ)). Some (fs, state.StartRecord, []))
    (append_assoc fields (x ∷ []) (y ∷ ys)))

record_quote : (tail : List ℕ)
    → next_record default_config state.StartRecord [] [] (34 ∷ tail)
    ≡ next_record default_config state.StartField [] [] (34 ∷ tail)
unfolding next_record
record_quote tail = refl

pub record_plain : (b : ℕ) (tail : List ℕ) → (b == 13) ≡ false → (b == 10) ≡ false
    → next_record default_config state.StartRecord [] [] (b ∷ tail)
    ≡ next_record default_config state.StartField [] [] (b ∷ tail)
unfolding next_record
record_plain b tail r n = rw (r, n) refl

starts_plain : (x : List ℕ) (rest : List (List ℕ)) → x ≢ [] → list_any is_marked x ≡ false
    → has_line_feed x ≡ false
    → next_record default_config state.StartRecord [] [] (x ++ further rest)
    ≡ next_record default_config state.StartField [] [] (x ++ further rest)
starts_plain [] rest some p l = absurd (some refl)
starts_plain (b ∷ x) rest some p l =
    record_plain b (x ++ further rest) (plain_byte b (or-left _ _ p)).2 (or-left (b == 10) _ l)

strip-quote : (tail : List ℕ) → strip_bom (34 ∷ tail) ≡ 34 ∷ tail
unfolding strip_bom
strip-quote [] = refl
strip-quote (b ∷ []) = refl
strip-quote (b ∷ c ∷ rest) = refl

pub not-bom : (a b c : ℕ) (rest : List ℕ) → is_bom a b c ≡ false
    → strip_bom (a ∷ b ∷ c ∷ rest) ≡ a ∷ b ∷ c ∷ rest
unfolding strip_bom
not-bom a b c rest e = rw e refl

pub short-strip : (a b : ℕ) → (strip_bom (a ∷ []) ≡ a ∷ []) × (strip_bom (a ∷ b ∷ []) ≡ a ∷ b ∷ [])
unfolding strip_bom
short-strip a b = (refl, refl)

and-false : (a b : Bool) → (a && false && b) ≡ false
and-false true b = refl
and-false false b = refl

strip-one : (a : ℕ) (tail : List ℕ) → strip_bom (a ∷ 44 ∷ tail) ≡ a ∷ 44 ∷ tail
strip-one a [] = (short-strip a 44).1
strip-one a (c ∷ rest) = not-bom a 44 c rest (and-false (a == 0xEF) (c == 0xBF))

strip-plain : (x : List ℕ) (rest : List (List ℕ)) → x ≢ [] → begins_with_mark x ≡ false
    → strip_bom (x ++ further rest) ≡ x ++ further rest
unfolding further
strip-plain [] rest some n = absurd (some refl)
strip-plain (a ∷ []) [] some n = (short-strip a a).0
strip-plain (a ∷ []) (y ∷ ys) some n = strip-one a (printed y ++ further ys)
strip-plain (a ∷ b ∷ []) [] some n = (short-strip a b).1
strip-plain (a ∷ b ∷ []) (y ∷ ys) some n =
    not-bom a b 44 (printed y ++ further ys) (and_false ((a == 0xEF) && (b == 0xBB)))
strip-plain (a ∷ b ∷ c ∷ x) rest some n = not-bom a b c (x ++ further rest) n

-- a row's text starts as a field's does, where its first field is not empty
starts : (x : List ℕ) (rest : List (List ℕ)) → x ≢ [] → has_line_feed x ≡ false
    → next_record default_config state.StartRecord [] [] (printed x ++ further rest)
    ≡ next_record default_config state.StartField [] [] (printed x ++ further rest)
starts x rest some l = elim (cases_Bool (is_quoted x)) [
  | inl needs ↦ rw (printed-quoted x (further rest) needs) (record_quote _)
  | inr plain ↦ rw (printed-plain x plain) (starts_plain x rest some (or-left _ _ plain) l)
]

-- the byte order mark is not at its head
pub no_mark : (x : List ℕ) (rest : List (List ℕ)) → x ≢ []
    → strip_bom (printed x ++ further rest) ≡ printed x ++ further rest
no_mark x rest some = elim (cases_Bool (is_quoted x)) [
  | inl needs ↦ rw (printed-quoted x (further rest) needs) (strip-quote _)
  | inr plain ↦ rw (printed-plain x plain) (strip-plain x rest some (or-right _ _ plain))
]

-- what is printed as a record is read as it, and nothing is left
pub read_first : (x : List ℕ) (rest : List (List ℕ)) → x ≢ [] → HaveNoLineFeed (x ∷ rest)
    → first_record (record_text x rest) ≡ Some (x ∷ rest, state.StartRecord, [])
read_first x rest some l =
    rw (no_mark x rest some)
    (starts x rest some l.0 ∙ field_run [] x rest l.0 ∙ rest_run [] x rest l.1)

pub nothing_more : next_record default_config state.StartRecord [] [] [] ≡ None
unfolding next_record
nothing_more = refl

pub read_record : (x : List ℕ) (rest : List (List ℕ)) → x ≢ [] → HaveNoLineFeed (x ∷ rest)
    → record_of (record_text x rest) ≡ Some (x ∷ rest)
read_record x rest some l = rw (read_first x rest some l, nothing_more) refl
