use Rattle.std.proofs.Common.{◌≡◌, take}
use Rattle.std.specs.List.{fold}
use Rattle.gm_types.specs.declared.index.IndexKind.{IndexKind}
use Rattle.gm_types.specs.declared.index.IndexKind.TheVariants.{Id}
use Rattle.gm_filter.specs.Tree.{tree}
use Rattle.gm_strategy.specs.declared.choice.Choice.{Choice}
use Rattle.gm_strategy.specs.Choice.{choice, cheaper}
use Rattle.gm_strategy.specs.Cost.{price_of, cost_of}
use Rattle.gm_strategy.proofs.choice.choice_for.Given as goal

abbrev pub invariant-kinds : goal.invariant-kinds
invariant-kinds l =
    l.held ≡ fold (λ (held : Choice) (kind : IndexKind). cheaper held kind
    (cost_of l.of kind (tree l.filter)))
    (choice Id (price_of l.of Id (tree l.filter))) (take l.kind-index l.kind-items)
