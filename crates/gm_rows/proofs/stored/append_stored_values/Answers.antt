use Rattle.std.proofs.Common.{[], ◌∷◌, ◌<◌, ◌+◌, length, drop, get_or, subst, sym, ◌∙◌, refl, arith}
use Rattle.std.specs.String.{string_bytes}
use Rattle.std.proofs.lemmas.List.{append-nil}
use Rattle.gm_base.proofs.Lists.{begins_further, laid_behind}
use Rattle.gm_feature.specs.declared.value.Value.TheVariants as value
use Rattle.gm_feature.specs.Stored.{AreStored}
use Rattle.gm_rows.proofs.Pushing.{as_many, from_place, still_pushed, pushed_all}
use Rattle.gm_rows.proofs.stored.append_stored_values.Goals as goal

pub values-init : goal.values-init
values-init c = record {
  kept = ([], sym (append-nil (string_bytes c.args.row.now)));
  text = λ f is. record { stored = c.values-left.ensures f is; same = refl };
}

pub values-preserved : goal.values-preserved
values-preserved c = record {
  kept = begins_further (string_bytes c.args.row.now) (string_bytes c.push_str.new.self)
      (string_bytes c.append_next.new.row)
      (laid_behind (string_bytes c.args.row.now) (string_bytes c.values.row)
      (string_bytes c.push_str.new.self) (44 ∷ []) c.values.invariant.kept
      c.in_ok-push_str.ensures.bytes)
      c.append_next.ensures.kept;
  text = λ f is.
      let i = c.values.counter in
      let before = c.values.invariant.text f is in
      let many = as_many c.args.stored.now.of.now c.attributes.result.now f.values
      c.attributes.ensures.list
      (c.fitting_features_have_values.ensures.count c.args.stored.now.of.now f is.fits) in
      let low : i < length f.values =
      omega (arith, many, c.len-count.ensures, c.values-test.true) in
      let first = get_or f.values i value.Null in
      let others = drop (i + 1) f.values in
      let there : AreStored c.values.left (first ∷ others) =
      subst (AreStored c.values.left) (from_place f.values i low) before.stored in
      still_pushed c.values.left c.append_next.new.left f.values i (string_bytes c.values.row)
      (string_bytes c.push_str.new.self) (string_bytes c.append_next.new.row) _ low before
      (c.append_next.ensures.rest first others there) c.in_ok-push_str.ensures.bytes
      (c.in_ok-append_next.ensures.pushed first others there);
}

pub returns-clause-text : goal.returns-clause-text
returns-clause-text c = λ f is.
    let before = c.values.invariant.text f is in
    let many = as_many c.args.stored.now.of.now c.attributes.result.now f.values
    c.attributes.ensures.list
    (c.fitting_features_have_values.ensures.count c.args.stored.now.of.now f is.fits) in
    sym (pushed_all f.values c.values.counter (string_bytes c.values.row)
    (omega (arith, many, c.len-count.ensures, c.values-test.false))) ∙ before.same
