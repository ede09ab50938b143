-- The end of what begins with bytes, and of what begins with others before them.
use Rattle.std.proofs.Common.{◌≡◌, ◌≢◌, ◌<◌, ◌≤◌, ℕ, ◌+◌, ◌-◌, false, cond, List, []}
use Rattle.std.proofs.Common.{◌∷◌, ◌++◌, Some, None, nat_eq, length, take, slice_index}
use Rattle.std.proofs.Common.{slice_set, refl, sym, ap, ◌∙◌, arith}
use Rattle.std.proofs.lemmas.List.{take_more}
use Rattle.std.proofs.lemmas.Bool.Decides.{nat_tests}
use Rattle.std.proofs.lemmas.Grind.{take-set_at}
use Rattle.gm_base.proofs.Numbers.{not_full}
use Rattle.gm_lexi.specs.Ends.{raised, after_of}
use Rattle.gm_plan.specs.Raised.{up_to}
use Rattle.gm_plan.specs.Spans.{from_to, end_or_none}

-- a byte 0xFF at the end does not count
without_last : (front : List ℕ) → after_of (front ++ 255 ∷ []) ≡ after_of front
without_last [] = refl
without_last (x ∷ front) = ap (raised x) (without_last front)

raised_last : (front : List ℕ) (byte : ℕ) → byte ≢ 255
    → after_of (front ++ byte ∷ []) ≡ Some (front ++ (byte + 1) ∷ [])
raised_last [] byte isnt = ap (λ t. cond t None (Some ((byte + 1) ∷ []))) (not_full byte isnt)
raised_last (x ∷ front) byte isnt = ap (raised x) (raised_last front byte isnt)

split_at : (bytes : List ℕ) (end : ℕ) → 0 < end → end ≤ length bytes
    → take end bytes ≡ take (end - 1) bytes ++ slice_index bytes (end - 1) ∷ []
split_at bytes end some within =
    let is : (end - 1) + 1 ≡ end = omega arith in
    ap (λ (n : ℕ). take n bytes) (sym is) ∙ take_more bytes (end - 1) 0 (omega arith)

pub shorter : (bytes : List ℕ) (end : ℕ) → 0 < end → end ≤ length bytes
    → slice_index bytes (end - 1) ≡ 255 → after_of (take end bytes) ≡ after_of bytes
    → after_of (take (end - 1) bytes) ≡ after_of bytes
shorter bytes end some within last same =
    sym (ap after_of
    (split_at bytes end some within ∙ ap (λ (x : ℕ). take (end - 1) bytes ++ x ∷ []) last)
    ∙ without_last (take (end - 1) bytes)) ∙ same

pub raised_at : (bytes : List ℕ) (end : ℕ) → 0 < end → end ≤ length bytes
    → slice_index bytes (end - 1) ≢ 255 → after_of (take end bytes) ≡ after_of bytes
    → after_of bytes ≡ Some (take (end - 1) bytes ++ (slice_index bytes (end - 1) + 1) ∷ [])
raised_at bytes end some within last same =
    sym same ∙ ap after_of (split_at bytes end some within)
    ∙ raised_last (take (end - 1) bytes) (slice_index bytes (end - 1)) last

zero_isnt : (n : ℕ) → n ≢ 0 → nat_eq n 0 ≡ false
zero_isnt n some = grind (arith, nat_tests)

pub raised_up_to : (bytes : List ℕ) (end byte : ℕ) → 0 < end → end ≤ length bytes
    → slice_index bytes (end - 1) ≡ byte → byte ≢ 255 → after_of (take end bytes) ≡ after_of bytes
    → after_of bytes ≡ up_to end (slice_set bytes (end - 1) (byte + 1))
raised_up_to bytes end byte some within is last same =
    raised_at bytes end some within (λ full. last (sym is ∙ full)) same
    ∙ ap (λ (x : ℕ). Some (take (end - 1) bytes ++ (x + 1) ∷ [])) is
    ∙ ap Some (sym (take-set_at bytes (end - 1) end (byte + 1) (omega arith) (omega arith)))
    ∙ ap (λ t. cond t None (Some (take end (slice_set bytes (end - 1) (byte + 1)))))
    (sym (zero_isnt end (λ none. omega (arith, none, some))))

-- the end behind other bytes
pub after_behind : (front bytes end : List ℕ) → after_of bytes ≡ Some end
    → after_of (front ++ bytes) ≡ Some (front ++ end)
after_behind [] bytes end is = is
after_behind (x ∷ front) bytes end is = ap (raised x) (after_behind front bytes end is)

pub span_behind_is : (front low high raised_bytes : List ℕ) (count : ℕ) → count ≢ 0
    → after_of high ≡ up_to count raised_bytes
    → (front ++ low, front ++ take count raised_bytes) ≡ from_to (front ++ low) (front ++ high)
span_behind_is front low high raised_bytes count some is =
    let end : after_of high ≡ Some (take count raised_bytes) =
    is ∙ ap (λ t. cond t None (Some (take count raised_bytes))) (zero_isnt count some) in
    ap (λ o. (front ++ low, end_or_none o))
    (sym (after_behind front high (take count raised_bytes) end))
