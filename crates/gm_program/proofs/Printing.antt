-- Rows printed one after the other.
use Rattle.std.proofs.Common.{◌≡◌, ◌<◌, ◌+◌, ℕ, zero, suc, List, [], ◌∷◌, ◌++◌, map, take, length}
use Rattle.std.proofs.Common.{get_or, refl, sym, ap, ◌∙◌, arith, append_assoc, append-nil, Bor}
use Rattle.std.specs.List.{flat_map, AllByRecursion}
use Rattle.gm_types.specs.Specification.{Specification}
use Rattle.gm_feature.specs.declared.feature.Feature.{Feature}
use Rattle.gm_feature.specs.Feature.{Fits}
use Rattle.gm_feature.specs.Writer.{feature_bytes}
use Rattle.gm_scan.specs.FoundRows.{FoundRow, row_of}
use Rattle.gm_script.specs.Reply.{row_line}
use Rattle.gm_program.specs.InOrder.{seen}

abbrev Lent : Type 0
Lent = Bor (List ℕ) × Bor (List ℕ)

-- the feature whose row stands at a place, with the lines up to it
pub record IsAt (t : Specification) (bytes : List ℕ) (features : List Feature)
    (i : ℕ) : Type 0 where
  pub feature : Feature
  pub fits : Fits t feature
  pub same : bytes ≡ feature_bytes feature
  pub lines : flat_map row_line (take (i + 1) features)
      ≡ flat_map row_line (take i features) ++ row_line feature

second_is : (x y : FoundRow) (xs ys : List FoundRow) → x ∷ xs ≡ y ∷ ys → x.1 ≡ y.1
second_is x y xs ys same = ap (λ (row : FoundRow). row.1) (head_is x y xs ys same)
  where
    head_is : (x y : FoundRow) (xs ys : List FoundRow) → x ∷ xs ≡ y ∷ ys → x ≡ y
    head_is x y xs ys same = cc

rest_is : (x y : FoundRow) (xs ys : List FoundRow) → x ∷ xs ≡ y ∷ ys → xs ≡ ys
rest_is x y xs ys same = cc

pub row_at : (t : Specification) (rows : List Lent) (d : Lent) (features : List Feature) (i : ℕ)
    → i < length rows
    → AllByRecursion (Fits t) features → map seen rows ≡ map row_of features
    → IsAt t (get_or rows i d).1.now features i
row_at t [] d features i within fit are = absurd (omega (arith, within))
row_at t (r ∷ rows) d [] i within fit are = cc
row_at t (r ∷ rows) d (f ∷ features) zero within fit are = record {
  feature = f;
  fits = fit.0;
  same = second_is (seen r) (row_of f) (map seen rows) (map row_of features) are;
  lines = append-nil (row_line f);
}
row_at t (r ∷ rows) d (f ∷ features) (suc i) within fit are =
    let rest = row_at t rows d features i (omega (arith, within)) fit.1
    (rest_is (seen r) (row_of f) (map seen rows) (map row_of features) are) in
    let next : suc i + 1 ≡ suc (i + 1) = omega arith in
    record {
      feature = rest.feature;
      fits = rest.fits;
      same = rest.same;
      lines = ap (λ (n : ℕ). flat_map row_line (take n (f ∷ features))) next
          ∙ ap (λ lines. row_line f ++ lines) rest.lines
          ∙ sym (append_assoc (row_line f) (flat_map row_line (take i features))
          (row_line rest.feature));
    }

pub same_count : (rows : List Lent) (features : List Feature) → map seen rows ≡ map row_of features
    → length rows ≡ length features
same_count [] [] are = refl
same_count [] (f ∷ features) are = cc
same_count (r ∷ rows) [] are = cc
same_count (r ∷ rows) (f ∷ features) are = let rest =
    same_count rows features
    (rest_is (seen r) (row_of f) (map seen rows) (map row_of features) are) in
    omega (arith, rest)

pub line_more : (text row now old lines line all : List ℕ) → text ≡ row ++ 10 ∷ []
    → row ≡ now ++ line → now ≡ old ++ lines → all ≡ lines ++ (line ++ 10 ∷ []) → text ≡ old ++ all
line_more text row now old lines line all last one before are =
    last ∙ ap (λ x. x ++ 10 ∷ []) (one ∙ ap (λ x. x ++ line) before ∙ append_assoc old lines line)
    ∙ append_assoc old (lines ++ line) (10 ∷ [])
    ∙ ap (λ x. old ++ x) (append_assoc lines line (10 ∷ []) ∙ sym are)
