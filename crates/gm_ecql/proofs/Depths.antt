-- How deep brackets are behind one token more.
use Rattle.std.proofs.Common.{◌≡◌, ℕ, zero, suc, ◌+◌, ◌<◌, ◌≤◌, max, List, [], ◌∷◌}
use Rattle.std.proofs.Common.{length, get_or, drop, sym, ap, ◌∙◌, arith}
use Rattle.gm_ecql.specs.declared.token.Spaced.{Spaced}
use Rattle.gm_ecql.specs.declared.token.Symbol.TheVariants as symbol
use Rattle.gm_ecql.specs.Limits.{depth_behind, deepest}
use Rattle.gm_ecql.specs.Token.{Seen, a_keyword, a_name, a_text, an_instant, a_number, a_symbol}
use Rattle.gm_ecql.specs.Token.{seen, seen_all}

pub split_seen : (xs : List Spaced) (i : ℕ) (x : Spaced) → i < length xs → x ≡ get_or xs i x
    → seen_all (drop i xs) ≡ seen x.token ∷ seen_all (drop (i + 1) xs)
split_seen [] i x h is = absurd (omega (arith, h))
split_seen (y ∷ xs) zero x h is = ap (λ z. seen z.token ∷ seen_all xs) (sym is)
split_seen (y ∷ xs) (suc i) x h is =
    split_seen xs i x (omega (arith, h)) is
    ∙ ap (λ n. seen x.token ∷ seen_all (drop n (y ∷ xs))) more
  where
    more : suc (i + 1) ≡ suc i + 1
    more = omega arith

pub behind_few : (d : ℕ) (t : Seen) → depth_behind d t ≤ d + 1
behind_few d (a_keyword k) = omega arith
behind_few d (a_name bytes) = omega arith
behind_few d (a_text bytes) = omega arith
behind_few d (an_instant at) = omega arith
behind_few d (a_number bytes) = omega arith
behind_few d (a_symbol symbol.Opening) = omega arith
behind_few d (a_symbol symbol.Closing) = omega arith
behind_few d (a_symbol symbol.Comma) = omega arith
behind_few d (a_symbol symbol.Equal) = omega arith
behind_few d (a_symbol symbol.NotEqual) = omega arith
behind_few d (a_symbol symbol.Less) = omega arith
behind_few d (a_symbol symbol.AtMost) = omega arith
behind_few d (a_symbol symbol.More) = omega arith
behind_few d (a_symbol symbol.AtLeast) = omega arith
behind_few d (a_symbol symbol.Slash) = omega arith

at_least : (d : ℕ) (ts : List Seen) → d ≤ deepest d ts
at_least d [] = omega arith
at_least d (t ∷ ts) = omega arith

pub still_few : (d next i : ℕ) (t : Seen) → d ≤ i → next ≡ depth_behind d t → next ≤ i + 1
still_few d next i t few is = omega (arith, few, is, behind_few d t)

pub deeper : (xs : List Spaced) (i : ℕ) (x : Spaced) (depth most next more whole : ℕ)
    → i < length xs → x ≡ get_or xs i x → depth ≤ most
    → max most (deepest depth (seen_all (drop i xs))) ≡ whole
    → next ≡ depth_behind depth (seen x.token) → more ≡ max most next
    → max more (deepest next (seen_all (drop (i + 1) xs))) ≡ whole
deeper xs i x depth most next more whole h is least same behind new =
    let later = seen_all (drop (i + 1) xs) in
    let shown : deepest depth (seen_all (drop i xs)) ≡ max depth (deepest next later) =
    ap (deepest depth) (split_seen xs i x h is)
    ∙ ap (λ n. max depth (deepest n later)) (sym behind) in
    omega (arith, same, shown, new, least, at_least next later)
