-- What the loops over members in brackets keep.
use Rattle.std.proofs.Common.{◌≡◌, ℕ, zero, suc, ◌≤◌, ◌<◌, Bool, true, false, List, [], ◌∷◌}
use Rattle.std.proofs.Common.{◌++◌, length, map, Option, Some, None, option_map, Result, Err}
use Rattle.std.proofs.Common.{refl, sym, ◌∙◌, ap, subst, arith, append_assoc}
use Rattle.std.specs.Prelude.{ok_or}
use Rattle.gm_ecql.specs.declared.halt.Halt.{Halt}
use Rattle.gm_ecql.specs.declared.halt.Halt.TheVariants as halt
use Rattle.gm_ecql.specs.declared.token.Symbol.TheVariants as symbol
use Rattle.gm_ecql.specs.Halt.{Halts}
use Rattle.gm_ecql.specs.Reader.{Reader, ◌>>=◌, after_symbol, text_at, constant_at, separator_at}
use Rattle.gm_ecql.specs.Reader.{member_then, members_at, list_at}
use Rattle.gm_ecql.specs.Test.{Written}
use Rattle.gm_ecql.specs.Token.{Seen}
use Rattle.gm_ecql.proofs.Readers.{text_first}
use Rattle.gm_ecql.proofs.TestFirst.{constant_first, separator_first}

abbrev pub behind : {A : Type 0} → List A → Option (List A × List Seen)
    → Option (List A × List Seen)
behind front r = option_map (λ r. (front ++ r.0, r.1)) r

pub record Gathering {A : Type 0} (item : Reader A) (front : List A) (rest : List Seen)
    (whole : Option (List A × List Seen)) : Type 0 where
  pub turns : ℕ
  pub enough : length rest ≤ turns
  pub same : behind front (members_at item turns rest) ≡ whole

module _ {A : Type 0} (item : Reader A) where
  behind_none : (r : Option (List A × List Seen)) → behind [] r ≡ r
  behind_none None = refl
  behind_none (Some r) = refl

  pub gathering_start : (ts inside : List Seen) → after_symbol symbol.Opening ts ≡ Some inside
      → Gathering item [] inside (list_at item ts)
  gathering_start ts inside h = record {
    turns = length inside;
    enough = omega arith;
    same = behind_none (members_at item (length inside) inside)
        ∙ ap (λ o. o >>= (λ inside. members_at item (length inside) inside)) (sym h);
  }

  turn_some : (n : ℕ) (rest after later : List Seen) (x : A) (more : Bool)
      → item rest ≡ Some (x, after) → separator_at after ≡ Some (more, later)
      → members_at item (suc n) rest ≡ member_then (members_at item n) x more later
  unfolding members_at
  turn_some n rest after later x more h i = rw (h, i) refl

  turn_none : (n : ℕ) (rest : List Seen) → item rest ≡ None → members_at item n rest ≡ None
  unfolding members_at
  turn_none zero rest h = refl
  turn_none (suc n) rest h = rw h refl

  end_none : (n : ℕ) (rest after : List Seen) (x : A) → item rest ≡ Some (x, after)
      → separator_at after ≡ None → members_at item n rest ≡ None
  unfolding members_at
  end_none zero rest after x h i = refl
  end_none (suc n) rest after x h i = rw (h, i) refl

  joined : (front : List A) (x : A) (r : Option (List A × List Seen))
      → behind (front ++ x ∷ []) r ≡ behind front (option_map (λ r. (x ∷ r.0, r.1)) r)
  joined front x None = refl
  joined front x (Some r) = ap (λ z. Some (z, r.1)) (append_assoc front (x ∷ []) r.0)

  pub gathering_more : (front : List A) (rest after later : List Seen) (x : A)
      (whole : Option (List A × List Seen)) → item rest ≡ Some (x, after)
      → separator_at after ≡ Some (true, later) → length later < length rest
      → Gathering item front rest whole → Gathering item (front ++ x ∷ []) later whole
  gathering_more front rest after later x whole h i fewer g = by_turns g.turns g.enough g.same
    where
      by_turns : (n : ℕ) → length rest ≤ n → behind front (members_at item n rest) ≡ whole
          → Gathering item (front ++ x ∷ []) later whole
      by_turns zero enough same = absurd (omega arith)
      by_turns (suc n) enough same = record {
        turns = n;
        enough = omega arith;
        same = joined front x (members_at item n later)
            ∙ ap (behind front) (sym (turn_some n rest after later x true h i)) ∙ same;
      }

  pub gathering_end : (front : List A) (rest after later : List Seen) (x : A)
      (whole : Option (List A × List Seen)) → item rest ≡ Some (x, after)
      → separator_at after ≡ Some (false, later) → length later < length rest
      → Gathering item front rest whole → whole ≡ Some (front ++ x ∷ [], later)
  gathering_end front rest after later x whole h i fewer g = by_turns g.turns g.enough g.same
    where
      by_turns : (n : ℕ) → length rest ≤ n → behind front (members_at item n rest) ≡ whole
          → whole ≡ Some (front ++ x ∷ [], later)
      by_turns zero enough same = absurd (omega arith)
      by_turns (suc n) enough same =
          sym same ∙ ap (behind front) (turn_some n rest after later x false h i)

  pub gathering_none : (front : List A) (rest : List Seen) (whole : Option (List A × List Seen))
      → item rest ≡ None → Gathering item front rest whole → whole ≡ None
  gathering_none front rest whole h g = sym g.same ∙ ap (behind front) (turn_none g.turns rest h)

  pub gathering_open : (front : List A) (rest after : List Seen) (x : A)
      (whole : Option (List A × List Seen)) → item rest ≡ Some (x, after)
      → separator_at after ≡ None → Gathering item front rest whole → whole ≡ None
  gathering_open front rest after x whole h i g =
      sym g.same ∙ ap (behind front) (end_none g.turns rest after x h i)

pub map_push : {A B : Type 0} (f : A → B) (xs ys : List A) (y : A) → xs ≡ ys ++ y ∷ []
    → map f xs ≡ map f ys ++ f y ∷ []
map_push f xs ys y e = ap (map f) e ∙ pushed ys
  where
    pushed : (ys : _) → map f (ys ++ y ∷ []) ≡ map f ys ++ f y ∷ []
    pushed [] = refl
    pushed (z ∷ zs) = ap (λ r. f z ∷ r) (pushed zs)

pub not_there : {A B : Type 0} (f : A → B) (o : Option A) (p : Option B) → option_map f o ≡ p
    → o ≡ None → p ≡ None
not_there f o p h e = sym h ∙ ap (option_map f) e

pub there : {A B : Type 0} (f : A → B) (o : Option A) (p : Option B) (x : A) → option_map f o ≡ p
    → o ≡ Some x → p ≡ Some (f x)
there f o p x h e = sym h ∙ ap (option_map f) e

-- the fault of a step that found nothing
pub halts_none : {A Y : Type 0} (wanted : Option Y) (o : Option A) (e : Halt)
    → ◌≡◌ {A = Result A Halt} (Err e) (ok_or o halt.Syntax) → (o ≡ None → wanted ≡ None)
    → Halts wanted e
halts_none {A = A} wanted None e h f =
    subst (λ z. Halts wanted z) (sym (same e halt.Syntax h)) (f refl)
  where
    same : (e f : Halt) → ◌≡◌ {A = Result A Halt} (Err e) (Err f) → e ≡ f
    same e f h = cc
halts_none wanted (Some x) e h f = absurd (cc)

text_shorter : (ts after : List Seen) (x : List ℕ) → text_at ts ≡ Some (x, after)
    → length after < length ts
text_shorter ts after x h = omega (arith, ap length (text_first ts after x h))

constant_shorter : (ts : List Seen) (r : Written × List Seen) → constant_at ts ≡ Some r
    → length r.1 < length ts
constant_shorter ts r h = omega (arith, ap length (constant_first ts r h))

separator_shorter : (ts : List Seen) (r : Bool × List Seen) → separator_at ts ≡ Some r
    → length r.1 < length ts
separator_shorter ts r h = omega (arith, ap length (separator_first ts r h))

pub text_turn : (ts after later : List Seen) (x : List ℕ) (more : Bool)
    → text_at ts ≡ Some (x, after) → separator_at after ≡ Some (more, later)
    → length later < length ts
text_turn ts after later x more h i =
    omega (arith, text_shorter ts after x h, separator_shorter after (more, later) i)

pub constant_turn : (ts after later : List Seen) (x : Written) (more : Bool)
    → constant_at ts ≡ Some (x, after) → separator_at after ≡ Some (more, later)
    → length later < length ts
constant_turn ts after later x more h i =
    omega (arith, constant_shorter ts (x, after) h, separator_shorter after (more, later) i)
