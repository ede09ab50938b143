-- What a line asks for, as contracts see it: a command with the trees of its filters.
use Rattle.std.specs.Prelude.{ℕ, List, Option}
use Rattle.gm_types.specs.declared.index.IndexKind.{IndexKind}
use Rattle.gm_types.specs.Specification.{Specification}
use Rattle.gm_feature.specs.declared.feature.Feature.{Feature}
use Rattle.gm_feature.specs.declared.value.Value.{Value}
use Rattle.gm_filter.specs.Tree.{Tree, tree}
use Rattle.gm_script.specs.declared.command.Ask.{Ask}
use Rattle.gm_script.specs.declared.command.Command.{Command}
use Rattle.gm_script.specs.declared.command.Command.TheVariants as command

-- a question: of the type with a number, through the hinted index if there is one, with a target,
-- for what is wanted
pub record Asked : Type 0 where
  pub number : ℕ
  pub hint : Option IndexKind
  pub target : ℕ
  pub wanted : Tree

-- an order, where the first number is that of a type
pub data Order : Type 0 where
  nothing : Order
  create : Specification → Order
  put : ℕ → Feature → Order
  delete : ℕ → List ℕ → Order
  remove : ℕ → Tree → Order
  modify : ℕ → ℕ → Value → Tree → Order
  query : Asked → Order
  count : Asked → Order
  explain : Asked → Order
  describe : ℕ → Order

abbrev pub asked : ℕ → Option IndexKind → ℕ → Tree → Asked
asked n i t w = record { number = n; hint = i; target = t; wanted = w }

abbrev pub asked_by : Ask → Asked
asked_by a = asked a.number a.hint a.target (tree a.filter)

abbrev pub order_of : Command → Order
order_of command.Nothing = nothing
order_of (command.Create t) = create t
order_of (command.Put n feature) = put n feature
order_of (command.Delete n id) = delete n id
order_of (command.Remove n f) = remove n (tree f)
order_of (command.Modify n c) = modify n c.attribute c.value (tree c.filter)
order_of (command.Query a) = query (asked_by a)
order_of (command.Count a) = count (asked_by a)
order_of (command.Explain a) = explain (asked_by a)
order_of (command.Describe n) = describe n
