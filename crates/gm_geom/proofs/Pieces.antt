-- Pieces appended to a text one behind the other.
use Rattle.std.proofs.Common.{◌≡◌, ℕ, ◌+◌, ◌/◌, ◌%◌, ◌^◌, ◌<◌, ◌≤◌, List, [], ◌∷◌, ◌++◌, sym, ap}
use Rattle.std.proofs.Common.{◌∙◌, append_assoc}
use Rattle.std.specs.Fmt.{decimal}
use Rattle.std.proofs.lemmas.Fmt.{decimal_digit, decimal_step}

-- the last digit behind the others
pub last_digit : (start middle end : List ℕ) (n : ℕ) → 10 ≤ n → n < 2 ^ 64
    → middle ≡ start ++ decimal (n / 10) → end ≡ middle ++ (48 + n % 10) ∷ []
    → end ≡ start ++ decimal n
last_digit start middle end n large wide em ee =
    ee ∙ ap (λ t. t ++ (48 + n % 10) ∷ []) em
    ∙ append_assoc start (decimal (n / 10)) ((48 + n % 10) ∷ [])
    ∙ ap (λ t. start ++ t) (sym (decimal_step n large wide))

pub only_digit : (start end : List ℕ) (n : ℕ) → n < 10 → end ≡ start ++ (48 + n) ∷ []
    → end ≡ start ++ decimal n
only_digit start end n small e = e ∙ ap (λ t. start ++ t) (sym (decimal_digit n small))
