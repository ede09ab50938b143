-- The words of a question are found where they are laid.
use Rattle.std.proofs.Common.{◌≡◌, ℕ, true, false, List, [], ◌∷◌, ◌++◌, length, take, drop, refl}
use Rattle.std.proofs.Common.{sym, ◌∙◌, ap, ap₂, inl, inr, Option, Some, None, append_assoc, Result}
use Rattle.std.specs.Prelude.{◌⊎◌, ◌&&◌, if◌then◌else◌, codes}
use Rattle.std.proofs.Math.Seq.{take-append_seam, drop-append_seam}
use Rattle.std.proofs.lemmas.Bool.{and_parts, eq-eqb}
use Rattle.gm_base.specs.declared.code.Code.TheVariants.{E04}
use Rattle.gm_types.specs.Specification.{Specification}
use Rattle.gm_types.specs.Words.{same_text, is_name}
use Rattle.gm_ecql.specs.Outcome.{filter_outcome}
use Rattle.gm_script.specs.declared.fault.LineFault.{LineFault}
use Rattle.gm_script.specs.Ask.{has_option, option_in, past_option, hint_in, target_in, past_words}
use Rattle.gm_script.specs.Ask.{target_of, hinted}
use Rattle.gm_script.specs.Laid.{IsBehind, AreAskWords, IsAskLine, IsFormedAsk, IsUnformedAsk}
use Rattle.gm_script.specs.Laid.{IsLineOf, Question, for_features, for_their_number, for_ranges}
use Rattle.gm_script.specs.Laid.{question, question_word}
use Rattle.gm_script.specs.Order.{Asked}
use Rattle.gm_script.specs.Reading.{reading, ask_of, ask_from, ask_read, asks, refused, on_type}
use Rattle.gm_script.specs.Reading.{type_named}
use Rattle.gm_script.specs.Words.{is_no_blank, word_of, behind_word, are_no_blanks, is_word}
use Rattle.gm_script.proofs.FormedLines.{unformed, formed}
use Rattle.gm_script.proofs.LaidLines.{read_laid, first_word, after_word, word_stops, past_laid}

same_self : (xs : List ℕ) → same_text xs xs ≡ true
same_self [] = refl
same_self (x ∷ xs) = ap₂ (λ a b. a && b) (eq-eqb x x refl) (same_self xs)

all_both : (xs ys : List ℕ) → are_no_blanks xs ≡ true → are_no_blanks ys ≡ true
    → are_no_blanks (xs ++ ys) ≡ true
all_both [] ys all more = more
all_both (x ∷ xs) ys all more =
    let both = and_parts (is_no_blank x) (are_no_blanks xs) all in
    ap₂ (λ a b. a && b) both.0 (all_both xs ys both.1 more)

longer_word : (xs ys : List ℕ) → is_word xs ≡ true → are_no_blanks ys ≡ true
    → is_word (xs ++ ys) ≡ true
longer_word [] ys is more = absurd (cc)
longer_word (x ∷ xs) ys is more = all_both (x ∷ xs) ys is more

-- an option as it is laid is found
pub record IsFound (key : List ℕ) (value : Option (List ℕ)) (rest text : List ℕ) : Type 0 where
  pub option : option_in key text ≡ value
  pub past : past_option key text ≡ rest

pub find_option : (key : List ℕ) (value : Option (List ℕ)) (rest text : List ℕ) → is_word key ≡ true
    → IsBehind key value rest text → IsFound key value rest text
find_option key None rest text is h =
    let no : has_option key text ≡ false = ap (has_option key) h.0 ∙ h.1 in
    record {
      option = ap (λ b. if b then Some (drop (length key) (word_of text)) else None) no;
      past = ap (λ b. if b then behind_word text else text) no ∙ h.0;
    }
find_option key (Some value) rest text is h =
    let whole : text ≡ (key ++ value) ++ (h.gap ++ rest) =
    h.laid ∙ sym (append_assoc key value (h.gap ++ rest)) in
    let long = longer_word key value is h.value_blanks in
    let stop = word_stops h.gap rest h.gap_blanks.blanks (inr h.gap_blanks.some) in
    let word : word_of text ≡ key ++ value =
    ap word_of whole ∙ first_word [] (key ++ value) (h.gap ++ rest) refl long stop in
    let yes : has_option key text ≡ true
    = ap (λ w. same_text (take (length key) w) key) word
    ∙ ap (λ w. same_text w key) (take-append_seam key value) ∙ same_self key in
    record {
      option = ap (λ b. if b then Some (drop (length key) (word_of text)) else None) yes
          ∙ ap (λ w. Some (drop (length key) w)) word ∙ ap Some (drop-append_seam key value);
      past = ap (λ b. if b then behind_word text else text) yes
          ∙ ap behind_word whole ∙ after_word [] (key ++ value) (h.gap ++ rest) refl long stop
          ∙ past_laid h.gap rest h.gap_blanks.blanks h.rest_begins;
    }

-- the three parts
pub record AreFound (hint target : Option (List ℕ)) (filter rest : List ℕ) : Type 0 where
  pub hint_is : hint_in rest ≡ hint
  pub target_is : target_in rest ≡ target
  pub filter_is : past_words rest ≡ filter

pub find_words : (hint target : Option (List ℕ)) (filter rest : List ℕ)
    → AreAskWords hint target filter rest
    → AreFound hint target filter rest
find_words hint target filter rest h =
    let one = find_option (codes "index=") hint h.middle rest refl h.hint_behind in
    let two = find_option (codes "target=") target filter h.middle refl h.target_behind in
    record {
      hint_is = one.option;
      target_is = ap (option_in (codes "target=")) one.past ∙ two.option;
      filter_is = ap (past_option (codes "target=")) one.past ∙ two.past;
    }

read_question : (types : List Specification) (q : Question) (name rest line : List ℕ)
    → IsLineOf (question_word q) name rest line
    → reading types line ≡ asks (question q) (ask_of types name rest)
read_question types for_features name rest line h =
    read_laid types (codes "query") name rest line refl refl h
read_question types for_their_number name rest line h =
    read_laid types (codes "count") name rest line refl refl h
read_question types for_ranges name rest line h =
    read_laid types (codes "explain") name rest line refl refl h

-- a question by its parts
by_parts : (types : List Specification) (name rest : List ℕ) (hint digits : Option (List ℕ))
    (text : List ℕ)
    → AreFound hint digits text rest
    → ask_of types name rest ≡ ask_from types name hint (target_of digits) text
unfolding ask_of
by_parts types name rest hint digits text f =
    ap (λ d. ask_from types name (hint_in rest) (target_of d) (past_words rest)) f.target_is
    ∙ ap₂ (λ i t. ask_from types name i (target_of digits) t) f.hint_is f.filter_is

pub read_asked : (types : List Specification) (q : Question) (name : List ℕ)
    (hint digits : Option (List ℕ)) (text line : List ℕ)
    → IsAskLine q name hint digits text line
    → reading types line ≡ asks (question q) (ask_from types name hint (target_of digits) text)
read_asked types q name hint digits text line h =
    let found = find_words hint digits text h.rest h.words in
    read_question types q name h.rest line h.of
    ∙ ap (asks (question q)) (by_parts types name h.rest hint digits text found)

-- what is asked of the type with that name
abbrev pub on_parts : Option (List ℕ) → ℕ → List ℕ → ℕ → Specification → Result Asked LineFault
on_parts hint target text n t = ask_read n target (hinted t hint) (filter_outcome t text)

pub read_unformed : (types : List Specification) (q : Question) (name : List ℕ)
    (hint digits : Option (List ℕ)) (text line : List ℕ)
    → IsUnformedAsk q name hint digits text line → reading types line ≡ refused E04
read_unformed types q name hint digits text line h =
    read_asked types q name hint digits text line h.of ∙ ap (asks (question q)) (go h.lacks)
  where
    either : (o : Option ℕ) → ((is_name name ≡ false) ⊎ (text ≡ []))
        → ask_from types name hint o text ≡ refused E04
    either None why = refl
    either (Some target) why = unformed types name text (on_parts hint target text) why

    go : ((is_name name ≡ false) ⊎ ((target_of digits ≡ None) ⊎ (text ≡ [])))
        → ask_from types name hint (target_of digits) text ≡ refused E04
    go (inl e) = either (target_of digits) (inl e)
    go (inr (inl e)) = ap (λ o. ask_from types name hint o text) e
    go (inr (inr e)) = either (target_of digits) (inr e)

pub read_formed : (types : List Specification) (q : Question) (name : List ℕ)
    (hint digits : Option (List ℕ)) (target : ℕ) (text line : List ℕ)
    → IsFormedAsk q name hint digits target text line
    → reading types line
    ≡ asks (question q) (on_type (on_parts hint target text) (type_named types name))
read_formed types q name hint digits target text line h =
    read_asked types q name hint digits text line h.of
    ∙ ap (λ o. asks (question q) (ask_from types name hint o text)) h.counted
    ∙ ap (asks (question q)) (formed types name text (on_parts hint target text) h.named h.some)
