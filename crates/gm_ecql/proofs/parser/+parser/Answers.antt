use Rattle.std.proofs.Common.{◌≤◌, ◌<◌, ◌∙◌, length, map, option_map, Some, sym, ap, arith}
use Rattle.std.proofs.lemmas.Result.{err_from_is_err_and}
use Rattle.gm_filter.specs.Tree.{tree, all, any}
use Rattle.gm_ecql.specs.declared.keyword.Keyword.TheVariants as keyword
use Rattle.gm_ecql.specs.declared.token.Symbol.TheVariants as symbol
use Rattle.gm_ecql.specs.Grammar.{negated_of}
use Rattle.gm_ecql.specs.Judging.{found_seen, faults_seen}
use Rattle.gm_ecql.specs.Parser.{closed, factor_at, term_with, filter_with}
use Rattle.gm_ecql.specs.Reader.{after_symbol}
use Rattle.gm_ecql.specs.Token.{seen_all}
use Rattle.gm_ecql.proofs.Pending.{pending_start, pending_more, pending_end}
use Rattle.gm_ecql.proofs.Turns.{halts_then, halts_some, halts_not, halts_chain, halts_pending}
use Rattle.gm_ecql.proofs.Turns.{factor_not, factor_lone, gives_as, gives_open, seen_length, pushed}
use Rattle.gm_ecql.proofs.Turns.{pushed_first, pushed_some}
use Rattle.gm_ecql.proofs.parser.+parser.Goals as goal

pub bracketed-returns-in_err-inner-clause-value : goal.bracketed-returns-in_err-inner-clause-value
bracketed-returns-in_err-inner-clause-value t c = λ n fits.
    let p = err_from_is_err_and c.from_residual.result c.from_residual.ensures.1 in
    rw (p.1, p.2) (halts_then
    (λ j. option_map (λ rest. (j.0, rest)) (after_symbol symbol.Closing j.1))
    (filter_with (factor_at c.args.of.now n) n (seen_all c.args.tokens.now))
    c.in_err-inner.field-0.0 (c.in_err-inner.ensures.value n fits))

pub bracketed-returns-in-Some-clause-value : goal.bracketed-returns-in-Some-clause-value
bracketed-returns-in-Some-clause-value t c = λ n fits.
    ap closed (c.in_ok-inner.ensures.value n fits)
    ∙ ap (option_map (λ rest. (found_seen c.in_ok-inner.inner, rest)))
    (sym c.in-Some.ensures.value)

pub bracketed-returns-clause-value : goal.bracketed-returns-clause-value
bracketed-returns-clause-value t c = λ n fits.
    ap closed (c.in_ok-inner.ensures.value n fits)
    ∙ ap (option_map (λ rest. (found_seen c.in_ok-inner.inner, rest)))
    (sym c.in-None.ensures.value)

pub factor-returns-in_err-inner-clause-value : goal.factor-returns-in_err-inner-clause-value
factor-returns-in_err-inner-clause-value t c = λ n fits.
    let p = err_from_is_err_and c.from_residual.result c.from_residual.ensures.1 in
    rw (p.1, p.2) (halts_not c.args.of.now (length c.args.tokens.now) (length c.in-Some.rest.now) n
    (seen_all c.args.tokens.now) (seen_all c.in-Some.rest.now) c.in_err-inner.field-0.0
    c.in-Some.ensures.shorter fits (sym c.in-Some.ensures.value) c.in_err-inner.ensures.value)

pub factor-returns-in_err-negated-clause-value : goal.factor-returns-in_err-negated-clause-value
factor-returns-in_err-negated-clause-value t c = λ n fits.
    let p = err_from_is_err_and c.from_residual-in_err-negated.result
    c.from_residual-in_err-negated.ensures.1 in
    rw (p.1, p.2) (halts_some (negated_of (found_seen c.in_ok-inner.inner))
    (factor_at c.args.of.now n (seen_all c.args.tokens.now)) c.in_err-negated.field-0.0
    c.in_err-negated.ensures)

pub factor-returns-in-Some-clause-value : goal.factor-returns-in-Some-clause-value
factor-returns-in-Some-clause-value t c = λ n fits.
    factor_not c.args.of.now (length c.args.tokens.now) (length c.in-Some.rest.now) n
    (seen_all c.args.tokens.now) (seen_all c.in-Some.rest.now)
    (Some (found_seen c.in_ok-inner.inner, seen_all c.in_ok-inner.rest.now))
    c.in-Some.ensures.shorter fits (sym c.in-Some.ensures.value) c.in_ok-inner.ensures.value
    ∙ ap (option_map (λ j. (j, seen_all c.in_ok-inner.rest.now))) c.in_ok-negated.ensures

pub factor-returns-in-Some-after_symbol-clause-value : goal.factor-returns-in-Some-after_symbol-clause-value
factor-returns-in-Some-after_symbol-clause-value t c = λ n fits.
    gives_open c.args.of.now (λ x. (found_seen x.0, seen_all x.1.now)) (length c.args.tokens.now)
    (length c.in-Some-after_symbol.rest.now) n (seen_all c.args.tokens.now)
    (seen_all c.in-Some-after_symbol.rest.now) c.bracketed.result
    c.in-Some-after_symbol.ensures.shorter fits (sym c.in_default.ensures.value)
    (sym c.in-Some-after_symbol.ensures.value) c.bracketed.ensures.value

pub factor-returns-clause-value : goal.factor-returns-clause-value
factor-returns-clause-value t c = λ n fits.
    let few : length (seen_all c.args.tokens.now) ≤ n =
    omega (arith, seen_length c.args.tokens.now, fits) in
    gives_as (λ x. (found_seen x.0, seen_all x.1.now)) _
    (factor_at c.args.of.now n (seen_all c.args.tokens.now)) c.judged_at.result
    (factor_lone c.args.of.now n (seen_all c.args.tokens.now) few (sym c.in_default.ensures.value)
    (sym c.in_default-after_symbol.ensures.value)) c.judged_at.ensures.value

pub term-returns-in_err-first-clause-value : goal.term-returns-in_err-first-clause-value
term-returns-in_err-first-clause-value t c = λ n fits.
    let p = err_from_is_err_and c.from_residual.result c.from_residual.ensures.1 in
    rw (p.1, p.2) (halts_chain keyword.And all (factor_at c.args.of.now n) n
    (seen_all c.args.tokens.now) c.in_err-first.field-0.0 (c.in_err-first.ensures.value n fits))

pub term-factors-init : goal.term-factors-init
term-factors-init t c = record {
  some = pushed_some _ _ _ c.in_ok-push.ensures.items;
  shorter = c.in_ok-first.ensures.shorter;
  pending = λ n fits.
      let front = pushed_first _ _ c.in_ok-first.first.filter c.in_ok-push.ensures.items
      c.new-members.ensures.items in
      let few : length (seen_all c.in_ok-first.rest.now) ≤ n =
      omega (arith, c.in_ok-first.ensures.shorter, seen_length c.in_ok-first.rest.now, fits) in
      rw front (pending_start keyword.And all (factor_at c.args.of.now n) n
      (seen_all c.args.tokens.now) (seen_all c.in_ok-first.rest.now)
      (found_seen c.in_ok-first.first) (c.in_ok-first.ensures.value n fits) few);
}

pub term-returns-in_err-next-clause-value : goal.term-returns-in_err-next-clause-value
term-returns-in_err-next-clause-value t c = λ n fits.
    let p = err_from_is_err_and c.from_residual-in_err-next.result
    c.from_residual-in_err-next.ensures.1 in
    let fewer : length c.in-Some.later.now ≤ n =
    omega (arith, c.in-Some.ensures.shorter, c.factors.invariant.shorter, fits) in
    rw (p.1, p.2) (halts_pending keyword.And all (factor_at c.args.of.now n)
    (record {
      members = map tree c.factors.members.items;
      faults = faults_seen c.factors.faults;
    }) (seen_all c.factors.rest.now)
    (seen_all c.in-Some.later.now)
    (term_with (factor_at c.args.of.now n) n (seen_all c.args.tokens.now)) c.in_err-next.field-0.0
    (sym c.in-Some.ensures.value) (c.in_err-next.ensures.value n fewer)
    (c.factors.invariant.pending n fits))

pub term-factors-preserved : goal.term-factors-preserved
term-factors-preserved t c =
    let fewer : length (seen_all c.in_ok-next.after.now) < length (seen_all c.factors.rest.now) =
    omega (
      arith,
      c.in-Some.ensures.shorter,
      c.in_ok-next.ensures.shorter,
      seen_length c.in_ok-next.after.now,
      seen_length c.factors.rest.now,
    ) in
    record {
      some = pushed_some _ _ _ c.in_ok-push-2.ensures.items;
      shorter = omega (
        arith,
        c.in-Some.ensures.shorter,
        c.in_ok-next.ensures.shorter,
        c.factors.invariant.shorter,
      );
      pending = λ n fits.
          let front = pushed _ _ c.in_ok-next.next.filter c.in_ok-push-2.ensures.items in
          let less : length c.in-Some.later.now ≤ n =
          omega (arith, c.in-Some.ensures.shorter, c.factors.invariant.shorter, fits) in
          rw (front, c.first_faults-faults.ensures)
          (pending_more keyword.And all (factor_at c.args.of.now n)
          (record {
            members = map tree c.factors.members.items;
            faults = faults_seen c.factors.faults;
          }) (seen_all c.factors.rest.now)
          (seen_all c.in-Some.later.now) (seen_all c.in_ok-next.after.now)
          (found_seen c.in_ok-next.next)
          (term_with (factor_at c.args.of.now n) n (seen_all c.args.tokens.now))
          (sym c.in-Some.ensures.value) (c.in_ok-next.ensures.value n less) fewer
          (c.factors.invariant.pending n fits));
    }

pub term-returns-clause-value : goal.term-returns-clause-value
term-returns-clause-value t c = λ n fits.
    rw c.conjunction-filter.ensures
    (pending_end keyword.And all (factor_at c.args.of.now n)
    (record {
      members = map tree c.factors.members.items;
      faults = faults_seen c.factors.faults;
    }) (seen_all c.factors.rest.now)
    (term_with (factor_at c.args.of.now n) n (seen_all c.args.tokens.now))
    (sym c.in_default.ensures.value) (c.factors.invariant.pending n fits))

pub filter-returns-in_err-first-clause-value : goal.filter-returns-in_err-first-clause-value
filter-returns-in_err-first-clause-value t c = λ n fits.
    let p = err_from_is_err_and c.from_residual.result c.from_residual.ensures.1 in
    rw (p.1, p.2) (halts_chain keyword.Or any (term_with (factor_at c.args.of.now n) n) n
    (seen_all c.args.tokens.now) c.in_err-first.field-0.0 (c.in_err-first.ensures.value n fits))

pub filter-terms-init : goal.filter-terms-init
filter-terms-init t c = record {
  some = pushed_some _ _ _ c.in_ok-push.ensures.items;
  shorter = c.in_ok-first.ensures.shorter;
  pending = λ n fits.
      let front = pushed_first _ _ c.in_ok-first.first.filter c.in_ok-push.ensures.items
      c.new-members.ensures.items in
      let few : length (seen_all c.in_ok-first.rest.now) ≤ n =
      omega (arith, c.in_ok-first.ensures.shorter, seen_length c.in_ok-first.rest.now, fits) in
      rw front (pending_start keyword.Or any (term_with (factor_at c.args.of.now n) n) n
      (seen_all c.args.tokens.now) (seen_all c.in_ok-first.rest.now)
      (found_seen c.in_ok-first.first) (c.in_ok-first.ensures.value n fits) few);
}

pub filter-returns-in_err-next-clause-value : goal.filter-returns-in_err-next-clause-value
filter-returns-in_err-next-clause-value t c = λ n fits.
    let p = err_from_is_err_and c.from_residual-in_err-next.result
    c.from_residual-in_err-next.ensures.1 in
    let fewer : length c.in-Some.later.now ≤ n =
    omega (arith, c.in-Some.ensures.shorter, c.terms.invariant.shorter, fits) in
    rw (p.1, p.2) (halts_pending keyword.Or any (term_with (factor_at c.args.of.now n) n)
    (record { members = map tree c.terms.members.items; faults = faults_seen c.terms.faults })
    (seen_all c.terms.rest.now) (seen_all c.in-Some.later.now)
    (filter_with (factor_at c.args.of.now n) n (seen_all c.args.tokens.now)) c.in_err-next.field-0.0
    (sym c.in-Some.ensures.value) (c.in_err-next.ensures.value n fewer)
    (c.terms.invariant.pending n fits))

pub filter-terms-preserved : goal.filter-terms-preserved
filter-terms-preserved t c =
    let fewer : length (seen_all c.in_ok-next.after.now) < length (seen_all c.terms.rest.now) =
    omega (
      arith,
      c.in-Some.ensures.shorter,
      c.in_ok-next.ensures.shorter,
      seen_length c.in_ok-next.after.now,
      seen_length c.terms.rest.now,
    ) in
    record {
      some = pushed_some _ _ _ c.in_ok-push-2.ensures.items;
      shorter = omega (
        arith,
        c.in-Some.ensures.shorter,
        c.in_ok-next.ensures.shorter,
        c.terms.invariant.shorter,
      );
      pending = λ n fits.
          let front = pushed _ _ c.in_ok-next.next.filter c.in_ok-push-2.ensures.items in
          let less : length c.in-Some.later.now ≤ n =
          omega (arith, c.in-Some.ensures.shorter, c.terms.invariant.shorter, fits) in
          rw (front, c.first_faults-faults.ensures)
          (pending_more keyword.Or any (term_with (factor_at c.args.of.now n) n)
          (record {
            members = map tree c.terms.members.items;
            faults = faults_seen c.terms.faults;
          }) (seen_all c.terms.rest.now)
          (seen_all c.in-Some.later.now) (seen_all c.in_ok-next.after.now)
          (found_seen c.in_ok-next.next)
          (filter_with (factor_at c.args.of.now n) n (seen_all c.args.tokens.now))
          (sym c.in-Some.ensures.value) (c.in_ok-next.ensures.value n less) fewer
          (c.terms.invariant.pending n fits));
    }

pub filter-returns-clause-value : goal.filter-returns-clause-value
filter-returns-clause-value t c = λ n fits.
    rw c.disjunction-filter.ensures
    (pending_end keyword.Or any (term_with (factor_at c.args.of.now n) n)
    (record {
      members = map tree c.terms.members.items;
      faults = faults_seen c.terms.faults;
    }) (seen_all c.terms.rest.now)
    (filter_with (factor_at c.args.of.now n) n (seen_all c.args.tokens.now))
    (sym c.in_default.ensures.value) (c.terms.invariant.pending n fits))
