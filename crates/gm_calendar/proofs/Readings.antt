-- The parts of a text that spells an instant, put together.
use Rattle.std.proofs.Common.{◌≡◌, ℕ, List, ◌∷◌, take, drop, Some, refl, sym, ap, ◌∙◌, ℤ, ◌+ℤ◌}
use Rattle.std.specs.Char.{is_ascii_digit}
use Rattle.std.specs.List.{prefix_len}
use Rattle.gm_calendar.specs.Spelling.{fraction_of, zone_of, second_of, sum_of, behind_seconds}
use Rattle.gm_calendar.specs.Spelling.{behind_minutes, behind_date, date_of, instant_from}
use Rattle.gm_calendar.specs.Spelling.{instant_of}
use Rattle.gm_calendar.specs.Instant.{instant_at}

-- `.`, digits and a zone
pub point_digits_zone : (text rest digits zone : List ℕ) (mark count : ℕ) (a b : ℤ)
    → text ≡ mark ∷ rest → mark ≡ 46 → count ≡ prefix_len is_ascii_digit rest
    → digits ≡ take count rest → zone ≡ drop count rest → Some a ≡ fraction_of digits
    → Some b ≡ zone_of zone → Some (a +ℤ b) ≡ behind_seconds text
point_digits_zone text rest digits zone mark count a b whole point counted front back fraction end =
    let f : fraction_of (take (prefix_len is_ascii_digit rest) rest) ≡ Some a =
    sym (fraction ∙ ap fraction_of (front ∙ ap (λ (n : ℕ). take n rest) counted)) in
    let z : zone_of (drop (prefix_len is_ascii_digit rest) rest) ≡ Some b =
    sym (end ∙ ap zone_of (back ∙ ap (λ (n : ℕ). drop n rest) counted)) in
    ap (λ o. sum_of o (Some b)) (sym f)
    ∙ ap (λ o. sum_of (fraction_of (take (prefix_len is_ascii_digit rest) rest)) o) (sym z)
    ∙ rw (whole, point) refl

-- `:`, seconds and what follows
pub colon_seconds : (text rest front back : List ℕ) (mark : ℕ) (a b : ℤ) → text ≡ mark ∷ rest
    → mark ≡ 58 → front ≡ take 2 rest → back ≡ drop 2 rest → Some a ≡ second_of front
    → Some b ≡ behind_seconds back → Some (a +ℤ b) ≡ behind_minutes text
colon_seconds text rest front back mark a b whole colon first second seconds behind =
    let s : second_of (take 2 rest) ≡ Some a = sym (seconds ∙ ap second_of first) in
    let e : behind_seconds (drop 2 rest) ≡ Some b = sym (behind ∙ ap behind_seconds second) in
    ap (λ o. sum_of o (Some b)) (sym s) ∙ ap (λ o. sum_of (second_of (take 2 rest)) o) (sym e)
    ∙ rw (whole, colon) refl

-- a date and what follows
pub date_and_time : (text front back : List ℕ) (a b : ℤ) → front ≡ take 10 text
    → back ≡ drop 10 text → Some a ≡ date_of front → Some b ≡ behind_date back
    → instant_at (a +ℤ b) ≡ instant_of text
date_and_time text front back a b first second date behind =
    let d : date_of (take 10 text) ≡ Some a = sym (date ∙ ap date_of first) in
    let e : behind_date (drop 10 text) ≡ Some b = sym (behind ∙ ap behind_date second) in
    ap (λ o. instant_from (sum_of o (Some b))) (sym d)
    ∙ ap (λ o. instant_from (sum_of (date_of (take 10 text)) o)) (sym e)
