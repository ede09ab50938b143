use Rattle.std.proofs.Common.{◌≡◌, Some, None, sym, ◌∙◌, ap}
use Rattle.std.specs.Prelude.{if◌then◌else◌}
use Rattle.gm_types.specs.Index.{index_if, index_of_name}
use Rattle.gm_types.proofs.NamedIndexes.{index_is_meant, index_named_so, no_index_named_so}
use Rattle.gm_types.proofs.feature_type.FeatureType.index_named.Goals as goal

pub returns-in_err-kind : goal.returns-in_err-kind
returns-in_err-kind c =
    let is : index_of_name c.args.self.now c.args.name.now ≡ None =
    index_is_meant c.args.self.now c.args.name.now c.index_meant.ensures.typed.valid.names
    ∙ ap (index_if c.args.self.now) (sym c.in_err-kind.ensures.meant) in
    record {
      value = c.from_residual.ensures ∙ sym is;
      named = rw c.from_residual.ensures tt;
      none = rw c.from_residual.ensures (no_index_named_so c.args.self.now c.args.name.now is);
    }

pub returns-then-has : goal.returns-then-has
returns-then-has c =
    let is : index_of_name c.args.self.now c.args.name.now ≡ Some c.in_ok-kind.kind =
    index_is_meant c.args.self.now c.args.name.now c.index_meant.ensures.typed.valid.names
    ∙ ap (index_if c.args.self.now) (sym c.in_ok-kind.ensures.meant)
    ∙ ap (λ b. if b then Some c.in_ok-kind.kind else None) (sym c.if-has.ensures.value) in
    record {
      value = sym is;
      named = index_named_so c.args.self.now c.args.name.now c.in_ok-kind.kind is;
      none = tt;
    }

pub returns : goal.returns
returns c =
    let is : index_of_name c.args.self.now c.args.name.now ≡ None =
    index_is_meant c.args.self.now c.args.name.now c.index_meant.ensures.typed.valid.names
    ∙ ap (index_if c.args.self.now) (sym c.in_ok-kind.ensures.meant)
    ∙ ap (λ b. if b then Some c.in_ok-kind.kind else None) (sym c.if-has.ensures.value) in
    record {
      value = sym is;
      named = tt;
      none = no_index_named_so c.args.self.now c.args.name.now is;
    }
