-- What it means that a value passes a comparison with a literal.
use Rattle.std.specs.Prelude.{Bool, false, not}
use Rattle.std.specs.Ordering.{is_eq, is_ne, is_lt, is_le, is_gt, is_ge, int_cmp, nat_cmp, bool_cmp}
use Rattle.std.specs.declared.cmp.Ordering.{Ordering}
use Rattle.std.specs.Cmp.Lexicographic.{slice_cmp}
use Rattle.gm_feature.specs.declared.value.Value.{Value}
use Rattle.gm_feature.specs.declared.value.Value.TheVariants as value
use Rattle.gm_filter.specs.declared.filter.Op.{Op}
use Rattle.gm_filter.specs.declared.filter.Op.TheVariants.{Eq, Ne, Lt, Le, Gt, Ge}
use Rattle.gm_filter.specs.declared.filter.Literal.{Literal}
use Rattle.gm_filter.specs.declared.filter.Literal.TheVariants as literal

-- of how the value stands to the literal
abbrev pub passes : Op → Ordering → Bool
passes Eq o = is_eq o
passes Ne o = is_ne o
passes Lt o = is_lt o
passes Le o = is_le o
passes Gt o = is_gt o
passes Ge o = is_ge o

-- of whether the two are the same, where there is no order
abbrev pub passes_unordered : Op → Bool → Bool
passes_unordered Eq same = same
passes_unordered Ne same = not same
passes_unordered Lt same = false
passes_unordered Le same = false
passes_unordered Gt same = false
passes_unordered Ge same = false

-- Numbers and instants compare by value, texts by their bytes, truths for equality alone. Values of
-- other kinds than the literal pass no comparison, null among them.
abbrev pub compares : Op → Value → Literal → Bool
compares op (value.Text t) (literal.Text u) = passes op (slice_cmp nat_cmp t u)
compares op (value.Integer m) (literal.Number n) = passes op (int_cmp m n)
compares op (value.Long m) (literal.Number n) = passes op (int_cmp m n)
compares op (value.Boolean c) (literal.Truth b) = passes_unordered op (is_eq (bool_cmp c b))
compares op (value.Date at) (literal.Date to) = passes op (int_cmp at to)
compares op _ _ = false
