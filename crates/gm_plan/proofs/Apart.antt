-- No key is inside two of the spans that a query reads.
use Rattle.std.proofs.Common.{ℕ, ◌≤◌}
use Rattle.gm_table.specs.Apart.{AreApart}
use Rattle.gm_trees.specs.Z.{z_shape}
use Rattle.gm_trees.specs.Xz.{xz_shape}
use Rattle.gm_types.specs.declared.index.IndexKind.{IndexKind}
use Rattle.gm_types.specs.declared.index.IndexKind.TheVariants.{Id, Z2, Z3, Xz2, Xz3, Attr}
use Rattle.gm_types.specs.Specification.{Specification, period_of, z2_bits_of, z3_bits_of}
use Rattle.gm_types.specs.Specification.{precision_of}
use Rattle.gm_filter.specs.Tree.{Tree}
use Rattle.gm_keys.specs.Key.{prefix_of}
use Rattle.gm_bounds.specs.Space.{boxes_of}
use Rattle.gm_bounds.specs.Time.{intervals_of}
use Rattle.gm_plan.specs.Covering.{CoversPoints, CoversObjects}
use Rattle.gm_plan.specs.Inside.{read_spans}
use Rattle.gm_plan.specs.KeyRanges.{list_of}
use Rattle.gm_plan.specs.Windows.{windows_of}
use Rattle.gm_plan.proofs.ApartBins.{all_plane, all_space}
use Rattle.gm_plan.proofs.ApartCodes.{ByteLaws}
use Rattle.gm_plan.proofs.ApartIds.{OneLaws, all_ids}
use Rattle.gm_plan.proofs.ApartSpans.{AreExclusive, exclusive_are_apart}
use Rattle.gm_plan.proofs.ApartValues.{all_values}
use Rattle.gm_plan.proofs.Within.{CodeLaws}

pub record ApartLaws : Type 0 where
  pub bytes : ByteLaws
  pub codes : CodeLaws
  pub one : OneLaws
  pub z2 : (s : Specification) → CoversPoints 2 (z2_bits_of s)
  pub z3 : (s : Specification) → CoversPoints 3 (z3_bits_of s)
  pub xz2 : (s : Specification) → CoversObjects 2 (precision_of s)
  pub xz3 : (s : Specification) → CoversObjects 3 (precision_of s)

exclusive : ApartLaws → (s : Specification) (kind : IndexKind) (t : Tree) (target : ℕ) → 1 ≤ target
    → AreExclusive (read_spans s kind t target)
exclusive laws s Id t target some = all_ids laws.one (prefix_of s Id) t
exclusive laws s Z2 t target some =
    all_plane laws.bytes laws.codes s Z2 (z_shape 2 (z2_bits_of s)) (laws.z2 s).curve
    (windows_of (z2_bits_of s) (list_of (boxes_of s t))) target some
exclusive laws s Z3 t target some =
    all_space laws.bytes laws.codes s Z3 (z_shape 3 (z3_bits_of s)) (laws.z3 s).curve (period_of s)
    (z3_bits_of s) (list_of (boxes_of s t)) (list_of (intervals_of s t)) target
exclusive laws s Xz2 t target some =
    all_plane laws.bytes laws.codes s Xz2 (xz_shape 2 (precision_of s)) (laws.xz2 s).curve
    (windows_of (precision_of s) (list_of (boxes_of s t))) target some
exclusive laws s Xz3 t target some =
    all_space laws.bytes laws.codes s Xz3 (xz_shape 3 (precision_of s)) (laws.xz3 s).curve
    (period_of s) (precision_of s) (list_of (boxes_of s t)) (list_of (intervals_of s t)) target
exclusive laws s (Attr number) t target some =
    all_values laws.one.shared (prefix_of s (Attr number)) s number t

pub spans_apart : ApartLaws → (s : Specification) (kind : IndexKind) (t : Tree) (target : ℕ)
    → 1 ≤ target → AreApart (read_spans s kind t target)
spans_apart laws s kind t target some =
    exclusive_are_apart (read_spans s kind t target) (exclusive laws s kind t target some)
