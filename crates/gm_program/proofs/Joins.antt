-- Texts that are appended one after the other.
use Rattle.std.proofs.Common.{◌≡◌, ◌<◌, ℕ, suc, ◌+◌, ◌-◌, List, ◌++◌, append_assoc}
use Rattle.std.proofs.Common.{sym, ap, ◌∙◌, arith}
use Rattle.gm_program.specs.Generator.{put_line, put_lines, behind}

pub one_more : (count place state : ℕ) → place < count
    → put_lines (count - place) (place + 1) state
    ≡ put_line (place + 1) state
    ++ put_lines (count - (place + 1)) (place + 1 + 1) (behind 5 state)
one_more count place state within =
    let is : count - place ≡ suc (count - (place + 1)) = omega (arith, within) in
    ap (λ n. put_lines n (place + 1) state) is

pub put_next : (held text : List ℕ) (count place state : ℕ) (all : List ℕ) → place < count
    → held ++ put_lines (count - place) (place + 1) state ≡ all
    → text ≡ held ++ put_line (place + 1) state
    → text ++ put_lines (count - (place + 1)) (place + 1 + 1) (behind 5 state) ≡ all
put_next held text count place state all within so_far is =
    ap (λ x. x ++ put_lines (count - (place + 1)) (place + 1 + 1) (behind 5 state)) is
    ∙ append_assoc held (put_line (place + 1) state)
    (put_lines (count - (place + 1)) (place + 1 + 1) (behind 5 state))
    ∙ ap (λ x. held ++ x) (sym (one_more count place state within)) ∙ so_far
