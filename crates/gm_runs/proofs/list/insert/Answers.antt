use Rattle.std.proofs.Common.{◌≡◌, ◌+◌, ◌-◌, ◌<◌, ◌≤◌, ℕ, length, get_or, set, max, sym, ap, ◌∙◌}
use Rattle.std.proofs.Common.{arith}
use Rattle.std.proofs.lemmas.Bool.{ltb-true, ltb-false}
use Rattle.gm_runs.proofs.Inserted.{appended, extended}
use Rattle.gm_runs.proofs.list.insert.Goals as goal

pub returns-then-is_apart-clause-ok : goal.returns-then-is_apart-clause-ok
returns-then-is_apart-clause-ok c =
    let xs = c.args.runs.now.items in
    let n = c.len-count.result - 1 in
    let size : length xs ≡ n + 1 = omega arith in
    let last : c.index-last.result.now ≡ get_or xs n c.index-last.result.now =
    c.index-last.ensures in
    let apart : (get_or xs n c.index-last.result.now).1 + 1 < c.args.low =
    rw (← last) (ltb-true _ _ (sym c.is_apart.ensures ∙ c.if-is_apart.true)) in
    c.in_ok-push-2.ensures.items
    ∙ sym (appended 0 c.args.low c.args.high n xs c.index-last.result.now c.requires.runs
    c.requires.rise size apart)

pub returns-then-last-low-clause-ok : goal.returns-then-last-low-clause-ok
returns-then-last-low-clause-ok c =
    let xs = c.args.runs.now.items in
    let n = c.len-count.result - 1 in
    let size : length xs ≡ n + 1 = omega arith in
    let last : c.index-last.result.now ≡ get_or xs n c.index-last.result.now =
    c.index-last.ensures in
    let near : c.args.low ≤ c.index-last.result.now.1 + 1 =
    ltb-false _ _ (sym c.is_apart.ensures ∙ c.if-is_apart.false) in
    let near_last : c.args.low ≤ (get_or xs n c.index-last.result.now).1 + 1 = rw (← last) near in
    let from_last : (get_or xs n c.index-last.result.now).0 ≤ c.args.low =
    rw (← last) c.if-last-low.true in
    rw c.max.ensures
    (ap (λ (p : ℕ × ℕ). set xs n (p.0, max p.1 c.args.high)) last
    ∙ sym (extended 0 c.args.low c.args.high n xs c.index-last.result.now c.requires.runs
    c.requires.rise size near_last from_last))
