-- The nodes of cells and of objects are those of their codes.
use Rattle.std.proofs.Common.{◌≡◌, inl, inr, ⊎_elim, ℕ, List, length, sym, subst, arith}
use Rattle.std.specs.Prelude.{true}
use Rattle.std.proofs.lemmas.Bool.{cases_lt}
use Rattle.gm_base.proofs.Options.{same_some}
use Rattle.gm_curve.specs.Curve.{z_code}
use Rattle.gm_curve.specs.Xz.{xz_code}
use Rattle.gm_trees.specs.declared.window.Window.{Window}
use Rattle.gm_trees.specs.declared.window.Node3.{Node3}
use Rattle.gm_trees.specs.Tree.{walk}
use Rattle.gm_trees.specs.Paths.{cell_of}
use Rattle.gm_trees.specs.Z.{z_shape, z_root, IsCellPath}
use Rattle.gm_trees.specs.Xz.{xz_shape, IsObjectPath}
use Rattle.gm_split.specs.Windows.{meets}
use Rattle.gm_split.specs.Levels.{IsNodeOfCode}
use Rattle.gm_split.proofs.Parts.{meets_parent}

pub cell_is_node : (D B : ℕ) (at path : List ℕ) → IsCellPath D B at path
    → IsNodeOfCode D (z_shape D B) (z_code D B at) path
cell_is_node D B at path is =
    record {
      members = is.members;
      stands = inl (is.deep, ((omega (arith, is.code)), omega (arith, is.code)));
    }

pub cell_meets : (D B : ℕ) (ws : List Window) (at path : List ℕ) → IsCellPath D B at path
    → meets D ws (cell_of at, cell_of at) ≡ true
    → meets D ws ((z_shape D B).reach (walk (z_shape D B) z_root path)) ≡ true
cell_meets D B ws at path is meet =
    let both : Node3 → Node3 → Node3 × Node3 = λ a b. (a, b) in
    subst (λ a. meets D ws (both a ((z_shape D B).reach (walk (z_shape D B) z_root path)).1) ≡ true)
    (sym is.low) (subst (λ b. meets D ws (both (cell_of at) b) ≡ true) (sym is.high) meet)

pub object_is_node : (D G : ℕ) (low high path : List ℕ) → IsObjectPath D G low high path
    → IsNodeOfCode D (xz_shape D G) (xz_code D G low high) path
object_is_node D G low high path is =
    let e : (walk (xz_shape D G) z_root path).first ≡ xz_code D G low high =
    same_some _ _ is.code in
    record {
      members = is.members;
      stands = ⊎_elim (λ less. inr (less, is.code))
          (λ deep. inl ((omega (arith, deep, is.deep)), ((omega (arith, e)), omega (arith, e))))
          (cases_lt (length path) G);
    }

pub object_meets : (D G : ℕ) (ws : List Window) (low high path : List ℕ)
    → IsObjectPath D G low high path → meets D ws (cell_of low, cell_of high) ≡ true
    → meets D ws ((xz_shape D G).reach (walk (xz_shape D G) z_root path)) ≡ true
object_meets D G ws low high path is meet =
    meets_parent D (cell_of low, cell_of high)
    ((xz_shape D G).reach (walk (xz_shape D G) z_root path)) ws
    (record { low = is.holds_low; high = is.holds_high }) meet
