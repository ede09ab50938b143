-- Lines that are laid end to end are cut at their words again.
use Rattle.std.proofs.Common.{◌≡◌, ℕ, ◌+◌, ◌-◌, ◌<◌, ◌≤◌, Bool, true, false, cond, not, List, []}
use Rattle.std.proofs.Common.{◌∷◌, ◌++◌, length, take, drop, refl, ◌∙◌, ap, inl, inr, arith, Ok}
use Rattle.std.specs.Prelude.{◌⊎◌, if◌then◌else◌, nat_eq}
use Rattle.std.specs.List.{list_all, prefix_len, ends_with}
use Rattle.std.specs.Cmp.Lexicographic.{pointwise}
use Rattle.std.specs.Str.{is_utf8}
use Rattle.std.proofs.Math.Seq.{take-append_seam, drop-append_seam}
use Rattle.std.proofs.lemmas.Bool.{and_parts, le-ltb}
use Rattle.std.proofs.lemmas.List.{length-append}
use Rattle.gm_base.proofs.Booleans.{false_of_not}
use Rattle.gm_base.specs.declared.code.Code.TheVariants.{E01, E02}
use Rattle.gm_types.specs.Specification.{Specification}
use Rattle.gm_script.specs.Laid.{IsLaid, IsOnLine, IsLineOf}
use Rattle.gm_script.specs.Line.{without_return, says_nothing}
use Rattle.gm_script.specs.Order as order
use Rattle.gm_script.specs.Reading.{refused, reading, reading_of, command_in, command_of}
use Rattle.gm_base.specs.Ascii.{is_blank}
use Rattle.gm_script.specs.Words.{is_no_blank, past_blanks, word_of, behind_word}
use Rattle.gm_script.specs.Words.{AreBlanks, are_no_blanks, is_word, begins_without_blank}

-- those at the front that pass, and then those behind them
pub front_len : (p : ℕ → Bool) (xs ys : List ℕ) → list_all p xs ≡ true
    → prefix_len p (xs ++ ys) ≡ length xs + prefix_len p ys
front_len p [] ys all = omega arith
front_len p (x ∷ xs) ys all =
    let both = and_parts (p x) (list_all p xs) all in
    let first : prefix_len p ((x ∷ xs) ++ ys) ≡ 1 + prefix_len p (xs ++ ys)
    = ap (λ t. cond t (1 + prefix_len p (xs ++ ys)) 0) both.0 in
    omega (arith, first, front_len p xs ys both.1)

pub taken_front : (p : ℕ → Bool) (xs ys : List ℕ) → list_all p xs ≡ true → prefix_len p ys ≡ 0
    → take (prefix_len p (xs ++ ys)) (xs ++ ys) ≡ xs
taken_front p xs ys all stop =
    let len : prefix_len p (xs ++ ys) ≡ length xs = omega (arith, front_len p xs ys all, stop) in
    ap (λ n. take n (xs ++ ys)) len ∙ take-append_seam xs ys

pub dropped_front : (p : ℕ → Bool) (xs ys : List ℕ) → list_all p xs ≡ true → prefix_len p ys ≡ 0
    → drop (prefix_len p (xs ++ ys)) (xs ++ ys) ≡ ys
dropped_front p xs ys all stop =
    let len : prefix_len p (xs ++ ys) ≡ length xs = omega (arith, front_len p xs ys all, stop) in
    ap (λ n. drop n (xs ++ ys)) len ∙ drop-append_seam xs ys

no_blank_first : (rest : List ℕ) → begins_without_blank rest ≡ true → prefix_len is_blank rest ≡ 0
no_blank_first [] e = refl
no_blank_first (b ∷ bs) e =
    ap (λ t. cond t (1 + prefix_len is_blank bs) 0) (false_of_not (is_blank b) e)

-- a word stops where nothing follows, or blanks
pub word_stops : (blanks rest : List ℕ) → AreBlanks blanks → ((rest ≡ []) ⊎ (0 < length blanks))
    → prefix_len is_no_blank (blanks ++ rest) ≡ 0
word_stops [] rest all (inl none) = ap (λ r. prefix_len is_no_blank r) none
word_stops [] rest all (inr some) = absurd (omega (arith, some))
word_stops (b ∷ bs) rest all why =
    let both = and_parts (is_blank b) (list_all is_blank bs) all in
    ap (λ t. cond (not t) (1 + prefix_len is_no_blank (bs ++ rest)) 0) both.0

pub past_laid : (blanks rest : List ℕ) → AreBlanks blanks → begins_without_blank rest ≡ true
    → past_blanks (blanks ++ rest) ≡ rest
past_laid blanks rest all begins =
    dropped_front is_blank blanks rest all (no_blank_first rest begins)

pub word_begins : (word tail : List ℕ) → is_word word ≡ true
    → begins_without_blank (word ++ tail) ≡ true
word_begins [] tail e = absurd (cc)
word_begins (b ∷ bs) tail e = (and_parts (is_no_blank b) (are_no_blanks bs) e).0

pub word_passes : (word : List ℕ) → is_word word ≡ true → list_all is_no_blank word ≡ true
word_passes [] e = absurd (cc)
word_passes (b ∷ bs) e = e

-- blanks, a word, and something that ends it
pub first_word : (before word tail : List ℕ) → AreBlanks before → is_word word ≡ true
    → prefix_len is_no_blank tail ≡ 0 → word_of (before ++ (word ++ tail)) ≡ word
first_word before word tail blanks is stop =
    ap (λ t. take (prefix_len is_no_blank t) t)
    (past_laid before (word ++ tail) blanks (word_begins word tail is))
    ∙ taken_front is_no_blank word tail (word_passes word is) stop

pub after_word : (before word tail : List ℕ) → AreBlanks before → is_word word ≡ true
    → prefix_len is_no_blank tail ≡ 0 → behind_word (before ++ (word ++ tail)) ≡ past_blanks tail
after_word before word tail blanks is stop =
    ap (λ t. past_blanks (drop (prefix_len is_no_blank t) t))
    (past_laid before (word ++ tail) blanks (word_begins word tail is))
    ∙ ap past_blanks (dropped_front is_no_blank word tail (word_passes word is) stop)

-- what a laid text is cut into
pub record IsCut (word name rest text : List ℕ) : Type 0 where
  pub shown : List ℕ
  pub begins : past_blanks text ≡ word ++ shown
  pub first : word_of text ≡ word
  pub second : word_of (behind_word text) ≡ name
  pub left : behind_word (behind_word text) ≡ rest

cut_text : (word name rest text : List ℕ) → is_word word ≡ true → IsLaid word name rest text
    → IsCut word name rest text
cut_text word name rest text is h =
    let tail = h.gap ++ (name ++ (h.behind ++ rest)) in
    let stop = word_stops h.gap (name ++ (h.behind ++ rest)) h.gap_blanks.blanks
    (inr h.gap_blanks.some) in
    let name_stop = word_stops h.behind rest h.behind_blanks h.apart in
    let named = past_laid h.gap (name ++ (h.behind ++ rest)) h.gap_blanks.blanks
    (word_begins name (h.behind ++ rest) h.name_word) in
    let behind : behind_word text ≡ name ++ (h.behind ++ rest)
    = ap behind_word h.laid ∙ after_word h.before word tail h.before_blanks is stop ∙ named in
    record {
      shown = tail;
      begins = ap past_blanks h.laid
          ∙ past_laid h.before (word ++ tail) h.before_blanks (word_begins word tail is);
      first = ap word_of h.laid ∙ first_word h.before word tail h.before_blanks is stop;
      second = ap word_of behind ∙ first_word [] name (h.behind ++ rest) refl h.name_word name_stop;
      left = ap behind_word behind
          ∙ after_word [] name (h.behind ++ rest) refl h.name_word name_stop
          ∙ past_laid h.behind rest h.behind_blanks h.rest_begins;
    }

-- the end of a line
last_is : (text : List ℕ) → ends_with nat_eq (text ++ 13 ∷ []) (13 ∷ []) ≡ true
last_is text =
    let len : length (text ++ 13 ∷ []) - 1 ≡ length text =
    omega (arith, length-append text (13 ∷ [])) in
    ap (λ t. pointwise nat_eq (13 ∷ []) t)
    (ap (λ n. drop n (text ++ 13 ∷ [])) len ∙ drop-append_seam text (13 ∷ []))

returned : (text : List ℕ) → without_return (text ++ 13 ∷ []) ≡ text
returned text =
    let len : length (text ++ 13 ∷ []) - 1 ≡ length text =
    omega (arith, length-append text (13 ∷ [])) in
    ap (λ b. if b then take (length (text ++ 13 ∷ []) - 1) (text ++ 13 ∷ []) else text ++ 13 ∷ [])
    (last_is text)
    ∙ ap (λ n. take n (text ++ 13 ∷ [])) len ∙ take-append_seam text (13 ∷ [])

pub without_end : (text line : List ℕ) → IsOnLine text line → without_return line ≡ text
without_end text line h = elim h.ended [
  | inl p ↦ ap without_return p.0
      ∙ ap (λ b. if b then take (length text - 1) text else text) p.1
  | inr p ↦ ap without_return p ∙ returned text
]

pub is_short : (types : List Specification) (line : List ℕ) → length line ≤ 1048576
    → reading types line ≡ reading_of types (without_return line)
unfolding reading
is_short types line h =
    ap (λ b. if b then refused E01 else reading_of types (without_return line))
    (le-ltb 1048576 (length line) h)

-- a line of a command, by its word, its name and the rest
pub read_laid : (types : List Specification) (word name rest line : List ℕ) → is_word word ≡ true
    → says_nothing word ≡ false → IsLineOf word name rest line
    → reading types line ≡ command_of types word name rest
read_laid types [] name rest line is told h = absurd (cc)
read_laid types (b ∷ bs) name rest line is told h =
    let cut = cut_text (b ∷ bs) name rest h.text is h.laid in
    let on = ap (λ t. reading_of types t) (without_end h.text line h.on_line) in
    let says : says_nothing (past_blanks h.text) ≡ false = ap says_nothing cut.begins ∙ told in
    let whole : reading_of types h.text ≡ command_in types h.text
    = ap (λ b. if b then Ok order.nothing else if is_utf8 h.text then command_in types h.text
    else refused E02) says
    ∙ ap (λ b. if b then command_in types h.text else refused E02) h.utf8 in
    is_short types line h.on_line.short ∙ on ∙ whole
    ∙ ap (λ w. command_of types w (word_of (behind_word h.text)) (behind_word (behind_word h.text)))
    cut.first
    ∙ ap (λ n. command_of types (b ∷ bs) n (behind_word (behind_word h.text))) cut.second
    ∙ ap (λ r. command_of types (b ∷ bs) name r) cut.left
