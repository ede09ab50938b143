-- One turn of the parser: what its answer is, by that of the inner call.
use Rattle.std.proofs.Common.{◌≡◌, ℕ, zero, suc, ◌≤◌, ◌<◌, List, [], ◌∷◌, ◌++◌, length, map, Option}
use Rattle.std.proofs.Common.{Some, None, option_map, refl, sym, ◌∙◌, ap, subst, arith}
use Rattle.std.proofs.Common.{length-append}
use Rattle.std.specs.Prelude.{Result, Ok, Err}
use Rattle.gm_types.specs.Specification.{Specification}
use Rattle.gm_filter.specs.declared.filter.Filter.{Filter}
use Rattle.gm_filter.specs.declared.filter.Filter.TheVariants as variant
use Rattle.gm_filter.specs.declared.filter.Filter.TheOpen as open_filter
use Rattle.gm_filter.specs.declared.filter.Filter.TheFolds.{fold-roll-Filter}
use Rattle.gm_geom.specs.declared.geometry.Geometry.{Geometry}
use Rattle.gm_filter.specs.Tree.{Tree, Trees, tree, intersects, layer}
use Rattle.gm_ecql.specs.declared.halt.Halt.{Halt}
use Rattle.gm_ecql.specs.declared.halt.Halt.TheVariants as halt
use Rattle.gm_ecql.specs.declared.keyword.Keyword.{Keyword}
use Rattle.gm_ecql.specs.declared.keyword.Keyword.TheVariants as keyword
use Rattle.gm_ecql.specs.declared.token.Spaced.{Spaced}
use Rattle.gm_ecql.specs.declared.token.Symbol.TheVariants as symbol
use Rattle.gm_ecql.specs.Grammar.{Members, negated_of, grouped}
use Rattle.gm_ecql.specs.Halt.{Gives, Halts}
use Rattle.gm_ecql.specs.Judging.{Judged}
use Rattle.gm_ecql.specs.Parser.{judged_at, closed, filter_with, factor_at, chain}
use Rattle.gm_ecql.specs.Parser.{more, members_with}
use Rattle.gm_ecql.specs.Reader.{Reader, ◌>>=◌, after_keyword, after_symbol, test_at}
use Rattle.gm_ecql.specs.Token.{Seen, seen_all}
use Rattle.gm_ecql.proofs.Pending.{Pending, pending_fails}

pub halts_then : {A B : Type 0} (f : A → Option B) (o : Option A) (e : Halt) → Halts o e
    → Halts (o >>= f) e
halts_then f o halt.Syntax h = ap (λ z. z >>= f) h
halts_then f o halt.NoMemory h = tt

-- where something is wanted, only memory runs out
pub halts_some : {A B : Type 0} (x : A) (o : Option B) (e : Halt) → Halts (Some x) e → Halts o e
halts_some x o halt.Syntax h = absurd (cc)
halts_some x o halt.NoMemory h = tt

pub seen_length : (ts : List Spaced) → length (seen_all ts) ≡ length ts
seen_length [] = refl
seen_length (t ∷ ts) = ap suc (seen_length ts)

pub one_less : (a b n : ℕ) → b < a → a ≤ n → (m : ℕ) × (n ≡ suc m) × (b ≤ m)
one_less a b zero f g = absurd (omega arith)
one_less a b (suc m) f g = (m, refl, omega arith)

module _ (s : Specification) where
  not_step : (m : ℕ) (ts rest : List Seen) → after_keyword keyword.Not ts ≡ Some rest
      → factor_at s (suc m) ts ≡ option_map (λ j. (negated_of j.0, j.1)) (factor_at s m rest)
  unfolding factor_at
  not_step m ts rest h = rw h refl

  open_step : (m : ℕ) (ts rest : List Seen) → after_keyword keyword.Not ts ≡ None
      → after_symbol symbol.Opening ts ≡ Some rest
      → factor_at s (suc m) ts ≡ closed (filter_with (factor_at s m) m rest)
  unfolding factor_at
  open_step m ts rest h i = rw (h, i) refl

  lone_step : (m : ℕ) (ts : List Seen) → after_keyword keyword.Not ts ≡ None
      → after_symbol symbol.Opening ts ≡ None
      → factor_at s (suc m) ts ≡ judged_at s ts
  unfolding factor_at
  lone_step m ts h i = rw (h, i) refl

  none_step : factor_at s 0 [] ≡ judged_at s []
  unfolding factor_at test_at
  none_step = refl

  pub factor_lone : (n : ℕ) (ts : List Seen) → length ts ≤ n → after_keyword keyword.Not ts ≡ None
      → after_symbol symbol.Opening ts ≡ None
      → factor_at s n ts ≡ judged_at s ts
  factor_lone zero [] f h i = none_step
  factor_lone zero (t ∷ ts) f h i = absurd (omega arith)
  factor_lone (suc m) ts f h i = lone_step m ts h i

  pub factor_not : (a b n : ℕ) (ts rest : List Seen) (r : Option (Judged × List Seen))
      → b < a → a ≤ n
      → after_keyword keyword.Not ts ≡ Some rest → ((m : ℕ) → b ≤ m → factor_at s m rest ≡ r)
      → factor_at s n ts ≡ option_map (λ j. (negated_of j.0, j.1)) r
  factor_not a b n ts rest r f g h inner =
      let k = one_less a b n f g in
      ap (λ k. factor_at s k ts) k.1 ∙ not_step k.0 ts rest h
      ∙ ap (option_map (λ j. (negated_of j.0, j.1))) (inner k.0 k.2)

  pub halts_not : (a b n : ℕ) (ts rest : List Seen) (e : Halt) → b < a → a ≤ n
      → after_keyword keyword.Not ts ≡ Some rest → ((m : ℕ) → b ≤ m → Halts (factor_at s m rest) e)
      → Halts (factor_at s n ts) e
  halts_not a b n ts rest halt.Syntax f g h inner = factor_not a b n ts rest None f g h inner
  halts_not a b n ts rest halt.NoMemory f g h inner = tt

  pub factor_open : (a b n : ℕ) (ts rest : List Seen) (r : Option (Judged × List Seen))
      → b < a → a ≤ n
      → after_keyword keyword.Not ts ≡ None → after_symbol symbol.Opening ts ≡ Some rest
      → ((m : ℕ) → b ≤ m → closed (filter_with (factor_at s m) m rest) ≡ r) → factor_at s n ts ≡ r
  factor_open a b n ts rest r f g h i inner =
      let k = one_less a b n f g in
      ap (λ k. factor_at s k ts) k.1 ∙ open_step k.0 ts rest h i ∙ inner k.0 k.2

  pub halts_open : (a b n : ℕ) (ts rest : List Seen) (e : Halt) → b < a → a ≤ n
      → after_keyword keyword.Not ts ≡ None → after_symbol symbol.Opening ts ≡ Some rest
      → ((m : ℕ) → b ≤ m → Halts (closed (filter_with (factor_at s m) m rest)) e)
      → Halts (factor_at s n ts) e
  halts_open a b n ts rest halt.Syntax f g h i inner = factor_open a b n ts rest None f g h i inner
  halts_open a b n ts rest halt.NoMemory f g h i inner = tt

pub halts_pending : (word : Keyword) (make : Trees → Tree) (item : Reader Judged) (front : Members)
    (rest later : List Seen)
    (whole : Option (Judged × List Seen)) (e : Halt) → after_keyword word rest ≡ Some later
    → Halts (item later) e
    → Pending word make item front rest whole → Halts whole e
halts_pending word make item front rest later whole halt.Syntax a h p =
    pending_fails word make item front rest later whole a h p
halts_pending word make item front rest later whole halt.NoMemory a h p = tt

pub map_push : (fs : List Filter) (f : Filter)
    → map tree (fs ++ f ∷ []) ≡ map tree fs ++ tree f ∷ []
map_push [] f = refl
map_push (g ∷ fs) f = ap (λ ts. tree g ∷ ts) (map_push fs f)

pub pushed_some : (new old : List Filter) (f : Filter) → new ≡ old ++ f ∷ [] → 1 ≤ length new
pushed_some new old f h = omega (arith, ap length h, length-append old (f ∷ []))

pub pushed : (new old : List Filter) (f : Filter) → new ≡ old ++ f ∷ []
    → map tree new ≡ map tree old ++ tree f ∷ []
pushed new old f h = ap (map tree) h ∙ map_push old f

pub pushed_first : (new old : List Filter) (f : Filter) → new ≡ old ++ f ∷ [] → old ≡ []
    → map tree new ≡ tree f ∷ []
pushed_first new old f h e = ap (map tree) (h ∙ ap (λ z. z ++ f ∷ []) e)

pub tree_intersects : (a : ℕ) (g : Geometry) → tree (variant.Intersects a g) ≡ intersects a g
tree_intersects a g =
    ap tree (sym (variant.rolls-Intersects a g))
    ∙ fold-roll-Filter Tree layer (open_filter.Intersects a g)

pub halts_chain : (word : Keyword) (make : Trees → Tree) (item : Reader Judged) (n : ℕ)
    (ts : List Seen) (e : Halt) → Halts (item ts) e
    → Halts (chain word make item n ts) e
halts_chain word make item n ts halt.Syntax h =
    ap (λ o. o >>= (λ j. option_map (λ ms. (grouped make ms.0, ms.1))
    (members_with j.0 (more word item n j.1)))) h
halts_chain word make item n ts halt.NoMemory h = tt

pub gives_as : {X Y : Type 0} (view : X → Y) (o p : Option Y) (r : Result X Halt) → p ≡ o
    → Gives view o r → Gives view p r
gives_as view o p r e h = subst (λ z. Gives view z r) (sym e) h

pub gives_open : {X : Type 0} (s : Specification) (view : X → Judged × List Seen) (a b n : ℕ)
    (ts rest : List Seen) (r : Result X Halt) → b < a → a ≤ n
    → after_keyword keyword.Not ts ≡ None → after_symbol symbol.Opening ts ≡ Some rest
    → ((m : ℕ) → b ≤ m → Gives view (closed (filter_with (factor_at s m) m rest)) r)
    → Gives view (factor_at s n ts) r
gives_open s view a b n ts rest (Ok x) f g h i inner =
    factor_open s a b n ts rest (Some (view x)) f g h i inner
gives_open s view a b n ts rest (Err e) f g h i inner = halts_open s a b n ts rest e f g h i inner
