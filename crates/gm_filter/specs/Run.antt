-- How far a pattern matches before its first `%`.
use Rattle.std.specs.Prelude.{◌≡◌, ◌≢◌, ℕ, ◌≤◌, if◌then◌else◌, ◌==◌, List, [], ◌∷◌, ◌++◌, length}
use Rattle.std.specs.Prelude.{drop}
use Rattle.std.specs.List.{AllByRecursion}
use Rattle.gm_base.specs.Ascii.{percent_sign, underscore}
use Rattle.gm_filter.specs.declared.wildcards.Run.{Run}
use Rattle.gm_filter.specs.declared.wildcards.Run.TheVariants.{Ends, Percent}
use Rattle.gm_filter.specs.Wildcards.{past_continuation, some_suffix_from, matches}

-- what is left of a text behind a part of a pattern with no `%`, whether or not it matches
abbrev pub advance : List ℕ → List ℕ → List ℕ
advance [] t = t
advance (p ∷ ps) t = advance ps (if p == underscore then past_continuation (drop 1 t) else drop 1 t)

pub record ReachesPercent (pattern text later left : List ℕ) : Type 0 where
  pub part : List ℕ
  pub plain : AllByRecursion (λ p. p ≢ percent_sign) part
  pub split : pattern ≡ part ++ percent_sign ∷ later
  pub advanced : left ≡ advance part text
  pub shorter : length left ≤ length text
  pub same : matches pattern text ≡ some_suffix_from (matches later) left

abbrev pub IsRun : List ℕ → List ℕ → Run → Type 0
IsRun pattern text (Ends answer) = answer ≡ matches pattern text
IsRun pattern text (Percent later left) = ReachesPercent pattern text later.now left.now
