-- Lines that are held in part.
use Rattle.std.proofs.Common.{◌≡◌, ℕ, zero, suc, ◌+◌, ◌-◌, ◌<◌, ◌≤◌, true, false, cond, List, []}
use Rattle.std.proofs.Common.{◌∷◌, ◌++◌, length, take, drop, min, Some, None, refl, sym, ap, ◌∙◌}
use Rattle.std.proofs.Common.{subst, arith, append_assoc}
use Rattle.std.proofs.lemmas.Bool.Decides.{nat_tests}
use Rattle.memchr.specs.Find.{IsFirstByte, is_byte}
use Rattle.std.proofs.Math.Nat.{min_comm}
use Rattle.std.proofs.Math.Seq.{take-add}
use Rattle.std.specs.Prelude.{◌==◌, slice_index}
use Rattle.std.proofs.lemmas.Grind.{common_steps}
use Rattle.std.proofs.lemmas.List.{append-nil, take-append-drop, take_min, length-drop}
use Rattle.gm_base.proofs.Lists.{rest_whole}
use Rattle.gm_program.specs.Lines.{complete_from, partial_from, last_line, cut}

pub complete_from-append : (held xs ys : List ℕ)
    → complete_from held (xs ++ ys)
    ≡ complete_from held xs ++ complete_from (partial_from held xs) ys
complete_from-append held [] ys = refl
complete_from-append held (x ∷ xs) ys =
    elim (x == 10) as
    (λ b. cond b (held ∷ complete_from [] (xs ++ ys))
    (complete_from (held ++ x ∷ []) (xs ++ ys))
    ≡ cond b (held ∷ complete_from [] xs) (complete_from (held ++ x ∷ []) xs)
    ++ complete_from (cond b (partial_from [] xs) (partial_from (held ++ x ∷ []) xs)) ys) [
      | true ↦ ap (λ rest. held ∷ rest) (complete_from-append [] xs ys)
      | false ↦ complete_from-append (held ++ x ∷ []) xs ys
    ]

pub partial_from-append : (held xs ys : List ℕ)
    → partial_from held (xs ++ ys) ≡ partial_from (partial_from held xs) ys
partial_from-append held [] ys = refl
partial_from-append held (x ∷ xs) ys =
    elim (x == 10) as
    (λ b. cond b (partial_from [] (xs ++ ys)) (partial_from (held ++ x ∷ []) (xs ++ ys))
    ≡ partial_from (cond b (partial_from [] xs) (partial_from (held ++ x ∷ []) xs)) ys) [
      | true ↦ partial_from-append [] xs ys
      | false ↦ partial_from-append (held ++ x ∷ []) xs ys
    ]

pub cut-none : cut [] ≡ []
unfolding cut
cut-none = refl

-- a line of which nothing is held is empty
take-empty : {X : Type 0} (n : ℕ) (xs : List X) → 0 < n → take n xs ≡ [] → xs ≡ []
take-empty zero xs some none = absurd (omega arith)
take-empty (suc n) [] some none = refl
take-empty (suc n) (x ∷ xs) some none = cc

pub none_held : (start : List ℕ) → [] ≡ cut start → start ≡ []
unfolding cut
none_held start none = take-empty 1048577 start (omega arith) (sym none)

-- no byte ends a line
pub IsInsideLine : List ℕ → Type 0
IsInsideLine bytes = (k : ℕ) → k < length bytes → (slice_index bytes k == 10) ≡ false

inside_rest : (byte : ℕ) (bytes : List ℕ) → IsInsideLine (byte ∷ bytes) → IsInsideLine bytes
unfolding IsInsideLine
inside_rest byte bytes inside k fits = inside (suc k) (omega arith)

inside_first : (byte : ℕ) (bytes : List ℕ) → IsInsideLine (byte ∷ bytes) → (byte == 10) ≡ false
unfolding IsInsideLine
inside_first byte bytes inside = inside zero (omega arith)

pub complete_from-inside : (start bytes : List ℕ) → IsInsideLine bytes
    → complete_from start bytes ≡ []
complete_from-inside start [] inside = refl
complete_from-inside start (byte ∷ bytes) inside =
    ap (λ b. cond b (start ∷ complete_from [] bytes) (complete_from (start ++ byte ∷ []) bytes))
    (inside_first byte bytes inside)
    ∙ complete_from-inside (start ++ byte ∷ []) bytes (inside_rest byte bytes inside)

pub partial_from-inside : (start bytes : List ℕ) → IsInsideLine bytes
    → partial_from start bytes ≡ start ++ bytes
partial_from-inside start [] inside = sym (append-nil start)
partial_from-inside start (byte ∷ bytes) inside =
    ap (λ b. cond b (partial_from [] bytes) (partial_from (start ++ byte ∷ []) bytes))
    (inside_first byte bytes inside)
    ∙ partial_from-inside (start ++ byte ∷ []) bytes (inside_rest byte bytes inside)
    ∙ append_assoc start (byte ∷ []) bytes

pub complete_from-ended : (start bytes : List ℕ) → IsInsideLine bytes
    → complete_from start (bytes ++ 10 ∷ []) ≡ (start ++ bytes) ∷ []
complete_from-ended start [] inside = ap (λ line. line ∷ []) (sym (append-nil start))
complete_from-ended start (byte ∷ bytes) inside =
    ap (λ b. cond b (start ∷ complete_from [] (bytes ++ 10 ∷ []))
    (complete_from (start ++ byte ∷ []) (bytes ++ 10 ∷ []))) (inside_first byte bytes inside)
    ∙ complete_from-ended (start ++ byte ∷ []) bytes (inside_rest byte bytes inside)
    ∙ ap (λ line. line ∷ []) (append_assoc start (byte ∷ []) bytes)

pub partial_from-ended : (start bytes : List ℕ) → IsInsideLine bytes
    → partial_from start (bytes ++ 10 ∷ []) ≡ []
partial_from-ended start [] inside = refl
partial_from-ended start (byte ∷ bytes) inside =
    ap (λ b. cond b (partial_from [] (bytes ++ 10 ∷ []))
    (partial_from (start ++ byte ∷ []) (bytes ++ 10 ∷ []))) (inside_first byte bytes inside)
    ∙ partial_from-ended (start ++ byte ∷ []) bytes (inside_rest byte bytes inside)

-- bytes up to a line's end, and the rest of them
pub ended_at : (bytes : List ℕ) (n : ℕ) → n < length bytes → slice_index bytes n ≡ 10
    → take (n + 1) bytes ≡ take n bytes ++ 10 ∷ []
ended_at bytes n inside is = grind (arith, common_steps)

pub inside_front : (bytes : List ℕ) (n : ℕ) → n ≤ length bytes
    → ((k : ℕ) → k < n → (slice_index bytes k == 10) ≡ false) → IsInsideLine (take n bytes)
unfolding IsInsideLine
inside_front bytes n fits before k below = grind (arith, common_steps, before k)

take-short : {X : Type 0} (n m : ℕ) (xs ys : List X) → m ≡ n - length (take n xs)
    → take n xs ++ take m ys ≡ take n (xs ++ ys)
take-short zero m xs ys room = rw room refl
take-short (suc n) m [] ys room = let e : m ≡ suc n = omega (arith, room) in ap (λ k. take k ys) e
take-short (suc n) m (x ∷ xs) ys room =
    ap (λ rest. x ∷ rest) (take-short n m xs ys (omega (arith, room)))

-- what is held with as much of a further part as there is room for
pub cut-held : (start held part : List ℕ) → held ≡ cut start
    → held ++ take (1048577 - length held) part ≡ cut (start ++ part)
unfolding cut
cut-held start held part is =
    rw is (take-short 1048577 (1048577 - length (take 1048577 start)) start part refl)

-- a line that ends in some bytes, behind others
pub complete_from-more : (start front part : List ℕ) → IsInsideLine part
    → complete_from start (front ++ (part ++ 10 ∷ []))
    ≡ complete_from start front ++ (partial_from start front ++ part) ∷ []
complete_from-more start front part inside =
    complete_from-append start front (part ++ 10 ∷ [])
    ∙ ap (λ ls. complete_from start front ++ ls)
    (complete_from-ended (partial_from start front) part inside)

pub partial_from-more : (start front part : List ℕ) → IsInsideLine part
    → partial_from start (front ++ (part ++ 10 ∷ [])) ≡ []
partial_from-more start front part inside =
    partial_from-append start front (part ++ 10 ∷ [])
    ∙ partial_from-ended (partial_from start front) part inside

-- bytes in which no line ends, behind others
pub complete_from-rest : (start front rest : List ℕ) → IsInsideLine rest
    → complete_from start (front ++ rest) ≡ complete_from start front
complete_from-rest start front rest inside =
    complete_from-append start front rest
    ∙ ap (λ ls. complete_from start front ++ ls)
    (complete_from-inside (partial_from start front) rest inside)
    ∙ append-nil (complete_from start front)

pub partial_from-rest : (start front rest : List ℕ) → IsInsideLine rest
    → partial_from start (front ++ rest) ≡ partial_from start front ++ rest
partial_from-rest start front rest inside =
    partial_from-append start front rest
    ∙ partial_from-inside (partial_from start front) rest inside

-- where memchr finds no end of a line, or one behind n bytes
pub no_end : (bytes : List ℕ) → IsFirstByte (is_byte 10) bytes None → IsInsideLine bytes
unfolding IsInsideLine
no_end bytes none k fits =
    elim (slice_index bytes k == 10) as (λ b. (slice_index bytes k == 10) ≡ b → b ≡ false)
    [ true ↦ λ e. absurd (none k (omega arith) fits e) | false ↦ λ _. refl ] refl

pub no_end_before : (bytes : List ℕ) (n : ℕ) → IsFirstByte (is_byte 10) bytes (Some n)
    → IsInsideLine (take n bytes)
no_end_before bytes n (first, ends) = inside_front bytes n (omega (arith, first.high))
    (λ k below. elim (slice_index bytes k == 10) as
    (λ b. (slice_index bytes k == 10) ≡ b → b ≡ false)
    [ true ↦ λ e. absurd (first.before k (omega arith) below e) | false ↦ λ _. refl ] refl)

pub end_there : (bytes : List ℕ) (n : ℕ) → IsFirstByte (is_byte 10) bytes (Some n)
    → slice_index bytes n ≡ 10
end_there bytes n (first, ends) = grind (arith, nat_tests)

-- as much of the bytes as there is room for
pub take-room : (n room limit : ℕ) (xs : List ℕ) → n ≡ min (length xs) room → room ≡ limit
    → take n xs ≡ take limit xs
take-room n room limit xs is same = rw (is, same, min_comm (length xs) limit) (take_min limit xs)

-- the part of a line of which nothing is held yet
pub cut-part : (n : ℕ) (part : List ℕ) → n ≡ min (length part) 1048577 → take n part ≡ cut part
unfolding cut
cut-part n part is = take-room n 1048577 1048577 part is refl

-- bytes from a place on, up to the first end of a line
pub taken_to_end : (bytes : List ℕ) (at n : ℕ) → IsFirstByte (is_byte 10) (drop at bytes) (Some n)
    → take (at + (n + 1)) bytes ≡ take at bytes ++ (take n (drop at bytes) ++ 10 ∷ [])
taken_to_end bytes at n found =
    take-add at (n + 1) bytes
    ∙ ap (λ part. take at bytes ++ part)
    (ended_at (drop at bytes) n (found.0).high (end_there (drop at bytes) n found))

pub all_to_end : (bytes : List ℕ) (at n : ℕ) → IsFirstByte (is_byte 10) (drop at bytes) (Some n)
    → bytes ≡ (take at bytes ++ (take n (drop at bytes) ++ 10 ∷ [])) ++ drop (at + (n + 1)) bytes
all_to_end bytes at n found =
    sym (take-append-drop (at + (n + 1)) bytes)
    ∙ ap (λ front. front ++ drop (at + (n + 1)) bytes) (taken_to_end bytes at n found)

-- where no line ends from a place on
pub complete_from-all : (start : List ℕ) (at : ℕ) (bytes : List ℕ) → IsInsideLine (drop at bytes)
    → complete_from start bytes ≡ complete_from start (take at bytes)
complete_from-all start at bytes inside =
    ap (complete_from start) (sym (take-append-drop at bytes))
    ∙ complete_from-rest start (take at bytes) (drop at bytes) inside

pub partial_from-all : (start : List ℕ) (at : ℕ) (bytes : List ℕ) → IsInsideLine (drop at bytes)
    → partial_from start bytes ≡ partial_from start (take at bytes) ++ drop at bytes
partial_from-all start at bytes inside =
    ap (partial_from start) (sym (take-append-drop at bytes))
    ∙ partial_from-rest start (take at bytes) (drop at bytes) inside

pub found_from : (bytes : List ℕ) (at n : ℕ)
    → IsFirstByte (is_byte 10) (take (length bytes - at) (drop at bytes)) (Some n)
    → IsFirstByte (is_byte 10) (drop at bytes) (Some n)
found_from bytes at n found =
    subst (λ rest. IsFirstByte (is_byte 10) rest (Some n)) (rest_whole bytes at) found

pub none_from : (bytes : List ℕ) (at : ℕ)
    → IsFirstByte (is_byte 10) (take (length bytes - at) (drop at bytes)) None
    → IsInsideLine (drop at bytes)
none_from bytes at none =
    no_end (drop at bytes)
    (subst (λ rest. IsFirstByte (is_byte 10) rest None) (rest_whole bytes at) none)

part_of : (bytes : List ℕ) (at n : ℕ) → take (at + n - at) (drop at bytes) ≡ take n (drop at bytes)
part_of bytes at n = let e : at + n - at ≡ n = omega arith in ap (λ k. take k (drop at bytes)) e

-- the part that memchr finds before an end of a line, as the code lends it
pub part_inside : (bytes : List ℕ) (at n : ℕ)
    → IsFirstByte (is_byte 10) (take (length bytes - at) (drop at bytes)) (Some n)
    → IsInsideLine (take (at + n - at) (drop at bytes))
part_inside bytes at n found =
    subst IsInsideLine (sym (part_of bytes at n))
    (no_end_before (drop at bytes) n (found_from bytes at n found))

pub part_whole_line : (bytes : List ℕ) (at n : ℕ)
    → IsFirstByte (is_byte 10) (take (length bytes - at) (drop at bytes)) (Some n)
    → take (at + (n + 1)) bytes ≡ take at bytes ++ (take (at + n - at) (drop at bytes) ++ 10 ∷ [])
part_whole_line bytes at n found =
    taken_to_end bytes at n (found_from bytes at n found)
    ∙ ap (λ part. take at bytes ++ (part ++ 10 ∷ [])) (sym (part_of bytes at n))

pub part_and_rest : (bytes : List ℕ) (at n : ℕ)
    → IsFirstByte (is_byte 10) (take (length bytes - at) (drop at bytes)) (Some n)
    → bytes ≡ (take at bytes ++ (take (at + n - at) (drop at bytes) ++ 10 ∷ []))
    ++ drop (at + (n + 1)) bytes
part_and_rest bytes at n found =
    all_to_end bytes at n (found_from bytes at n found)
    ∙ ap (λ part. (take at bytes ++ (part ++ 10 ∷ [])) ++ drop (at + (n + 1)) bytes)
    (sym (part_of bytes at n))

pub part_fits : (bytes : List ℕ) (at n : ℕ) → at ≤ length bytes
    → IsFirstByte (is_byte 10) (take (length bytes - at) (drop at bytes)) (Some n)
    → at + (n + 1) ≤ length bytes
part_fits bytes at n fits found =
    omega (arith, (found_from bytes at n found).0.high, length-drop at bytes)

-- what is left of a script is a line of its own, where anything is left
pub last_line-some : (start held : List ℕ) → held ≡ cut start → (held ≡ [] → ⊥)
    → last_line start ≡ start ∷ []
last_line-some [] held is some = absurd (some (is ∙ cut-none))
last_line-some (byte ∷ bytes) held is some = refl

pub last_line-none : (start held : List ℕ) → held ≡ cut start → held ≡ [] → last_line start ≡ []
last_line-none start held is none = ap last_line (none_held start (sym none ∙ is))
