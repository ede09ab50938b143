-- Several features at once that go, or give their place to others.
use Rattle.std.specs.Prelude.{◌≡◌, ℕ, if◌then◌else◌, List, [], ◌∷◌, map, Option, Some}
use Rattle.std.specs.Option.{ForSome}
use Rattle.std.specs.List.{flat_map}
use Rattle.std.specs.Ordering.{nat_cmp}
use Rattle.std.specs.Cmp.Lexicographic.{slice_cmp}
use Rattle.std.specs.BTreeMap.{is_at}
use Rattle.gm_table.specs.declared.row.Row.{Row}
use Rattle.gm_types.specs.Specification.{Specification}
use Rattle.gm_feature.specs.declared.feature.Feature.{Feature}
use Rattle.gm_feature.specs.Feature.{Fits}
use Rattle.gm_engine_rows.specs.declared.exchange.Exchange.{Exchange}
use Rattle.gm_engine_rows.specs.State.{State, IsHeld, feature_at, changed_in}
use Rattle.gm_engine_rows.specs.Change.{keys_at, removes_of, puts_of}

-- whose identifiers they have
abbrev pub owners_of : List Exchange → List (List ℕ)
owners_of exchanges = map (λ e. e.old.id) exchanges

-- all keys that go, and all rows that come
abbrev pub removes_of_all : Specification → List Exchange → List (List ℕ)
removes_of_all t exchanges = flat_map (λ e. removes_of t (Some e.old) e.new) exchanges

abbrev pub puts_of_all : Specification → List Exchange → List Row
puts_of_all t exchanges = flat_map (λ e. puts_of t e.new) exchanges

-- the keys of the old features, and those of the new
abbrev pub old_keys : Specification → List Exchange → List (List ℕ)
old_keys t exchanges = flat_map (λ e. keys_at t (Some e.old)) exchanges

abbrev pub new_keys : Specification → List Exchange → List (List ℕ)
new_keys t exchanges = flat_map (λ e. keys_at t e.new) exchanges

-- one after the other in the type with this number
abbrev pub exchanged_in : ℕ → List Exchange → State → State
exchanged_in n [] s = s
exchanged_in n (e ∷ exchanges) s = exchanged_in n exchanges (changed_in n e.old.id e.new s)

-- what an identifier has afterwards that had `before`
abbrev pub exchanged_at : List ℕ → List Exchange → Option Feature → Option Feature
exchanged_at id [] before = before
exchanged_at id (e ∷ exchanges) before =
    exchanged_at id exchanges (if is_at (slice_cmp nat_cmp id) e.old.id then e.new else before)

-- both features fit the type, and have one identifier
pub record IsExchange (t : Specification) (e : Exchange) : Type 0 where
  pub old : Fits t e.old
  pub new : ForSome e.new (IsHeld t e.old.id)

-- the old feature is that of the state
pub record IsExchangeIn (s : State) (n : ℕ) (t : Specification) (e : Exchange) : Type 0 where
  pub held : feature_at n e.old.id s ≡ Some e.old
  pub new : ForSome e.new (IsHeld t e.old.id)
