-- Sets of texts.
use Rattle.std.specs.Prelude.{ℕ, Bool, List}
use Rattle.std.specs.BTreeSet.{contains_by}
use Rattle.std.specs.Cmp.Lexicographic.{slice_cmp}
use Rattle.std.specs.Ordering.{nat_cmp}
use Rattle.gm_scan.specs.declared.texts.Texts.{Texts}

-- whether it is one of the texts
abbrev pub has_text : Texts → List ℕ → Bool
has_text texts text = contains_by (λ key. slice_cmp nat_cmp text key.now) texts.sorted
