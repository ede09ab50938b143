-- One text or literal more among those that are sorted.
use Rattle.std.proofs.Common.{◌≡◌, ℕ, Bool, true, false, ◌||◌, cond, List, refl, sym, ap, ◌∙◌}
use Rattle.std.proofs.lemmas.Cmp.{nat_list_cmp_total}
use Rattle.std.proofs.lemmas.Map.Text.{is_eq-slice_cmp}
use Rattle.std.specs.Cmp.Lexicographic.{slice_cmp}
use Rattle.std.specs.Ordering.{nat_cmp, is_eq, ordering_reverse}
use Rattle.std.specs.Str.{bytes_eq}
use Rattle.std.specs.declared.cmp.Ordering.{Ordering}
use Rattle.std.specs.declared.cmp.Ordering.TheVariants.{Less, Equal, Greater}
use Rattle.gm_base.proofs.Booleans.{or_false}
use Rattle.gm_feature.specs.declared.value.Value.{Value}
use Rattle.gm_feature.specs.declared.value.Value.TheVariants as value
use Rattle.gm_filter.specs.declared.filter.Literal.{Literal}
use Rattle.gm_filter.specs.declared.filter.Literal.TheVariants as literal
use Rattle.gm_filter.specs.declared.filter.Op.TheVariants.{Eq}
use Rattle.gm_filter.specs.Comparison.{compares}
use Rattle.gm_scan.specs.declared.literals.SortedLiterals.{SortedLiterals}
use Rattle.gm_scan.specs.declared.texts.Texts.{Texts}
use Rattle.gm_scan.specs.Literals.{has_value}
use Rattle.gm_scan.specs.Texts.{has_text}

reversed : (o : Ordering) → is_eq (ordering_reverse o) ≡ is_eq o
reversed Less = refl
reversed Equal = refl
reversed Greater = refl

or_else : (a b : Bool) → cond a true b ≡ (b || a)
or_else true true = refl
or_else true false = refl
or_else false true = refl
or_else false false = refl

-- there before, or equal to the new one
pub text_added : (text other : List ℕ) (before after : Bool)
    → after ≡ cond (is_eq (slice_cmp nat_cmp text other)) true before
    → after ≡ (before || bytes_eq other text)
text_added text other before after e =
    let turned = ap is_eq (nat_list_cmp_total.antisymm text other)
    ∙ reversed (slice_cmp nat_cmp other text) ∙ is_eq-slice_cmp other text in
    e ∙ or_else _ before ∙ ap (λ b. before || b) turned

-- those with other texts
abbrev pub with_texts : SortedLiterals → Texts → SortedLiterals
with_texts literals texts =
    record {
      numbers = literals.numbers;
      texts = texts;
      dates = literals.dates;
      has_true = literals.has_true;
      has_false = literals.has_false;
    }

pub text_more : (literals : SortedLiterals) (texts : Texts) (text : List ℕ) (l : Literal)
    → l ≡ literal.Text text
    → ((other : List ℕ)
    → has_text texts other ≡ (has_text literals.texts other || bytes_eq other text))
    → (v : Value) → has_value (with_texts literals texts) v
    ≡ (has_value literals v || compares Eq v l)
text_more literals texts text l is more v =
    by_kind v ∙ ap (λ k. has_value literals v || compares Eq v k) (sym is)
  where
    by_kind : (v : Value)
        → has_value (with_texts literals texts) v
        ≡ (has_value literals v || compares Eq v (literal.Text text))
    by_kind value.Null = refl
    by_kind (value.Text other) =
        more other ∙ ap (λ b. has_text literals.texts other || b) (sym (is_eq-slice_cmp other text))
    by_kind (value.Integer number) = or_false _
    by_kind (value.Long number) = or_false _
    by_kind (value.Boolean truth) = or_false _
    by_kind (value.Date at) = or_false _
    by_kind (value.Geo g) = refl
