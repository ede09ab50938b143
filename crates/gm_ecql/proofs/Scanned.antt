-- The loops of the scanner, a turn at a time.
use Rattle.std.proofs.Common.{◌≡◌, ◌≢◌, ℕ, zero, suc, ◌+◌, ◌-◌, ◌<◌, ◌≤◌, Bool, true, false, not}
use Rattle.std.proofs.Common.{◌==◌, cond, List, [], ◌∷◌, length, drop, get_or, Some}
use Rattle.std.proofs.Common.{None, refl, sym, ap, ◌∙◌, arith, eq-eqb, ne_eqb}
use Rattle.gm_ecql.specs.Scanner.{text_end, number_end, goes_on, is_e}

ahead : (bytes : List ℕ) (i : ℕ) → i < length bytes
    → drop i bytes ≡ get_or bytes i 0 ∷ drop (i + 1) bytes
ahead [] i h = absurd (omega arith)
ahead (b ∷ bs) zero h = refl
ahead (b ∷ bs) (suc i) h = ahead bs i (omega arith) ∙ ap (λ n. get_or bs i 0 ∷ drop n (b ∷ bs)) more
  where
    more : suc (i + 1) ≡ suc i + 1
    more = omega arith

over : (bytes : List ℕ) (i : ℕ) → length bytes ≤ i → drop i bytes ≡ []
over [] zero h = refl
over [] (suc i) h = refl
over (b ∷ bs) zero h = absurd (omega arith)
over (b ∷ bs) (suc i) h = over bs i (omega arith)

number_cons : (i b : ℕ) (sign : Bool) (bs : List ℕ)
    → number_end i sign (b ∷ bs) ≡ cond (goes_on sign b) (number_end (i + 1) (is_e b) bs) i
unfolding number_end
number_cons i b sign bs = refl

pub number_more : (bytes : List ℕ) (i b : ℕ) (sign next : Bool) → i < length bytes
    → b ≡ get_or bytes i 0 → goes_on sign b ≡ true → next ≡ is_e b
    → number_end i sign (drop i bytes) ≡ number_end (i + 1) next (drop (i + 1) bytes)
number_more bytes i b sign next h e g n =
    ap (number_end i sign) (ahead bytes i h ∙ ap (λ z. z ∷ drop (i + 1) bytes) (sym e))
    ∙ number_cons i b sign (drop (i + 1) bytes)
    ∙ ap (λ t. cond t (number_end (i + 1) (is_e b) (drop (i + 1) bytes)) i) g
    ∙ ap (λ t. number_end (i + 1) t (drop (i + 1) bytes)) (sym n)

pub number_here : (bytes : List ℕ) (i b : ℕ) (sign : Bool) → i < length bytes → b ≡ get_or bytes i 0
    → goes_on sign b ≡ false → number_end i sign (drop i bytes) ≡ i
number_here bytes i b sign h e g =
    ap (number_end i sign) (ahead bytes i h ∙ ap (λ z. z ∷ drop (i + 1) bytes) (sym e))
    ∙ number_cons i b sign (drop (i + 1) bytes)
    ∙ ap (λ t. cond t (number_end (i + 1) (is_e b) (drop (i + 1) bytes)) i) g

number_nil : (i : ℕ) (sign : Bool) → number_end i sign [] ≡ i
unfolding number_end
number_nil i sign = refl

pub number_over : (bytes : List ℕ) (i : ℕ) (sign : Bool) → length bytes ≤ i
    → number_end i sign (drop i bytes) ≡ i
number_over bytes i sign h = ap (number_end i sign) (over bytes i h) ∙ number_nil i sign

text_cons : (i b : ℕ) (pending : Bool) (bs : List ℕ)
    → text_end i pending (b ∷ bs)
    ≡ cond (b == 39) (text_end (i + 1) (not pending) bs)
    (cond pending (Some (i - 1)) (text_end (i + 1) false bs))
unfolding text_end
text_cons i b true bs = refl
text_cons i b false bs = refl

text_at_byte : (bytes : List ℕ) (i b : ℕ) (pending : Bool) → i < length bytes → b ≡ get_or bytes i 0
    → text_end i pending (drop i bytes)
    ≡ cond (b == 39) (text_end (i + 1) (not pending) (drop (i + 1) bytes))
    (cond pending (Some (i - 1)) (text_end (i + 1) false (drop (i + 1) bytes)))
text_at_byte bytes i b pending h e =
    ap (text_end i pending) (ahead bytes i h ∙ ap (λ z. z ∷ drop (i + 1) bytes) (sym e))
    ∙ text_cons i b pending (drop (i + 1) bytes)

pub text_turns : (bytes : List ℕ) (i b : ℕ) (pending : Bool) → i < length bytes
    → b ≡ get_or bytes i 0 → b ≡ 39
    → text_end i pending (drop i bytes) ≡ text_end (i + 1) (not pending) (drop (i + 1) bytes)
text_turns bytes i b pending h e k =
    text_at_byte bytes i b pending h e
    ∙ ap (λ t. cond t (text_end (i + 1) (not pending) (drop (i + 1) bytes))
    (cond pending (Some (i - 1)) (text_end (i + 1) false (drop (i + 1) bytes))))
    (eq-eqb b 39 k)

pub text_goes_on : (bytes : List ℕ) (i b : ℕ) (pending : Bool) → i < length bytes
    → b ≡ get_or bytes i 0 → b ≢ 39 → pending ≡ false
    → text_end i pending (drop i bytes) ≡ text_end (i + 1) pending (drop (i + 1) bytes)
text_goes_on bytes i b pending h e k p =
    text_at_byte bytes i b pending h e
    ∙ ap (λ t. cond t (text_end (i + 1) (not pending) (drop (i + 1) bytes))
    (cond pending (Some (i - 1)) (text_end (i + 1) false (drop (i + 1) bytes))))
    (ne_eqb b 39 k)
    ∙ ap (λ t. cond t (Some (i - 1)) (text_end (i + 1) false (drop (i + 1) bytes))) p
    ∙ ap (λ t. text_end (i + 1) t (drop (i + 1) bytes)) (sym p)

pub text_here : (bytes : List ℕ) (i b : ℕ) (pending : Bool) → i < length bytes
    → b ≡ get_or bytes i 0 → b ≢ 39 → pending ≡ true
    → text_end i pending (drop i bytes) ≡ Some (i - 1)
text_here bytes i b pending h e k p =
    text_at_byte bytes i b pending h e
    ∙ ap (λ t. cond t (text_end (i + 1) (not pending) (drop (i + 1) bytes))
    (cond pending (Some (i - 1)) (text_end (i + 1) false (drop (i + 1) bytes))))
    (ne_eqb b 39 k)
    ∙ ap (λ t. cond t (Some (i - 1)) (text_end (i + 1) false (drop (i + 1) bytes))) p

text_nil : (i : ℕ) (pending : Bool) → text_end i pending [] ≡ cond pending (Some (i - 1)) None
unfolding text_end
text_nil i true = refl
text_nil i false = refl

pub text_over : (bytes : List ℕ) (i : ℕ) (pending : Bool) → length bytes ≤ i → pending ≡ true
    → text_end i pending (drop i bytes) ≡ Some (i - 1)
text_over bytes i pending h p =
    ap (text_end i pending) (over bytes i h) ∙ text_nil i pending
    ∙ ap (λ t. cond t (Some (i - 1)) None) p

pub text_open : (bytes : List ℕ) (i : ℕ) (pending : Bool) → length bytes ≤ i → pending ≡ false
    → text_end i pending (drop i bytes) ≡ None
text_open bytes i pending h p =
    ap (text_end i pending) (over bytes i h) ∙ text_nil i pending
    ∙ ap (λ t. cond t (Some (i - 1)) None) p

-- what a turn of each loop makes of what is ahead
pub ruleset number_turns = (number_more, number_here, number_over)

pub ruleset quote_turns = (text_turns, text_goes_on, text_here, text_over, text_open)
