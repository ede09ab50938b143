-- Keys that are the same.
use Rattle.std.proofs.Common.{◌≡◌, ℕ, List, true, ap}
use Rattle.std.specs.Ordering.{nat_cmp, is_eq}
use Rattle.std.specs.Cmp.{eq_by_cmp_equiv, tied_itself, Equal-is}
use Rattle.std.specs.Cmp.Lexicographic.{slice_cmp, nat_list_cmp_total}
use Rattle.std.specs.BTreeMap.{is_at}
use Rattle.std.specs.FinMap.{slice_cmp-IsAntisymmetric, nat_cmp-IsAntisymmetric}

pub itself : (key : List ℕ) → is_at (slice_cmp nat_cmp key) key ≡ true
itself key = ap is_eq (tied_itself nat_list_cmp_total key)

-- it does not matter which key is asked for
pub turned : (key other : List ℕ)
    → is_at (slice_cmp nat_cmp key) other ≡ is_at (slice_cmp nat_cmp other) key
turned = (eq_by_cmp_equiv nat_list_cmp_total).symm

pub same_key : (key other : List ℕ) → is_at (slice_cmp nat_cmp key) other ≡ true → key ≡ other
same_key key other same =
    slice_cmp-IsAntisymmetric nat_cmp-IsAntisymmetric key other ((Equal-is _).0 same)
