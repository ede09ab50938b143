-- Level sets by recursion from a node downward, and the pieces of a level.
use Rattle.std.proofs.Common.{◌≡◌, ◌⊎◌, inl, inr, ⊎_elim, ℕ, zero, suc, ◌+◌, ◌^◌, ◌<◌, ◌≤◌, List}
use Rattle.std.proofs.Common.{[], ◌∷◌, ◌++◌, refl, sym, ap, ◌∙◌, subst, arith}
use Rattle.std.specs.Prelude.{Bool, true, false, cond, not, Option, Some, None, option_to_list}
use Rattle.std.specs.List.{AllByRecursion}
use Rattle.std.proofs.lemmas.Bool.{cases_lt, cases_Bool, both_ways, and_right, and_left, cond-true}
use Rattle.std.proofs.lemmas.Bool.{cond-false, not_from_true, not_from_false, and_from, and_parts}
use Rattle.gm_base.proofs.Lists.{all_append}
use Rattle.gm_trees.specs.declared.node.Node.{Node}
use Rattle.gm_trees.specs.declared.window.Window.{Window}
use Rattle.gm_trees.specs.Tree.{Shape, HasCode, IsTree}
use Rattle.gm_split.specs.declared.pieces.Piece.{Piece}
use Rattle.gm_split.specs.declared.pieces.Piece.TheVariants.{Codes, Partial}
use Rattle.gm_split.specs.Near.{near_of}
use Rattle.gm_split.specs.Windows.{meets, is_inside, is_partial}
use Rattle.gm_split.specs.Levels.{partial_count, sum_below}
use Rattle.gm_split.specs.Opening.{piece_of, own_pieces, child_pieces, opened, opened_all}
use Rattle.gm_split.specs.Opening.{IsPieceAt}
use Rattle.gm_split.proofs.Parts.{child_inside, meets_parent, inside_child, inside_meets, code_up}
use Rattle.gm_split.proofs.Parts.{code_down, own_code}

-- a code of the level set k levels below a node, among the node's codes
abbrev pub InBelow : ℕ → Shape → List Window → ℕ → Node → ℕ → Type 0
InBelow D s ws zero n c = HasCode s n c × (meets D ws (s.reach n) ≡ true)
InBelow D s ws (suc k) n c =
    ((s.own n ≡ Some c) × (meets D ws (s.reach n) ≡ true))
    ⊎ ((q : ℕ) × (q < 2 ^ D) × InBelow D s ws k (s.child n q) c)

-- what the level set k levels below has of a piece
abbrev pub InPiece : ℕ → Shape → List Window → ℕ → Piece → ℕ → Type 0
InPiece D s ws k (Codes low high) c = (low ≤ c) × (c ≤ high)
InPiece D s ws k (Partial n near) c = InBelow D s ws k n c

abbrev pub InPieces : ℕ → Shape → List Window → ℕ → List Piece → ℕ → Type 0
InPieces D s ws k [] c = ⊥
InPieces D s ws k (p ∷ ps) c = InPiece D s ws k p c ⊎ InPieces D s ws k ps c

-- how many partial nodes it has there
abbrev pub piece_count : ℕ → Shape → List Window → ℕ → Piece → ℕ
piece_count D s ws k (Codes low high) = 0
piece_count D s ws k (Partial n near) = partial_count D s ws k n

abbrev pub pieces_count : ℕ → Shape → List Window → ℕ → List Piece → ℕ
pieces_count D s ws k [] = 0
pieces_count D s ws k (p ∷ ps) = piece_count D s ws k p + pieces_count D s ws k ps

-- ---- sums
pub sum_zero : (n : ℕ) (f : ℕ → ℕ) → ((q : ℕ) → q < n → f q ≡ 0) → sum_below n f ≡ 0
sum_zero zero f each = refl
sum_zero (suc n) f each =
    omega (arith, sum_zero n f (λ q h. each q (omega arith)), each n (omega arith))

-- ---- joined lists
pub pieces_join : (D : ℕ) (s : Shape) (ws : List Window) (k : ℕ) (xs ys : List Piece) (c : ℕ)
    → InPieces D s ws k xs c ⊎ InPieces D s ws k ys c → InPieces D s ws k (xs ++ ys) c
pieces_join D s ws k [] ys c h = ⊎_elim (λ n. absurd n) (λ y. y) h
pieces_join D s ws k (x ∷ xs) ys c h =
    ⊎_elim (λ front. ⊎_elim (λ here. inl here)
    (λ there. inr (pieces_join D s ws k xs ys c (inl there))) front)
    (λ back. inr (pieces_join D s ws k xs ys c (inr back))) h

pub pieces_parts : (D : ℕ) (s : Shape) (ws : List Window) (k : ℕ) (xs ys : List Piece) (c : ℕ)
    → InPieces D s ws k (xs ++ ys) c → InPieces D s ws k xs c ⊎ InPieces D s ws k ys c
pieces_parts D s ws k [] ys c h = inr h
pieces_parts D s ws k (x ∷ xs) ys c h =
    ⊎_elim (λ here. inl (inl here))
    (λ there. ⊎_elim (λ front. inl (inr front)) (λ back. inr back)
    (pieces_parts D s ws k xs ys c there)) h

pub count_join : (D : ℕ) (s : Shape) (ws : List Window) (k : ℕ) (xs ys : List Piece)
    → pieces_count D s ws k (xs ++ ys) ≡ pieces_count D s ws k xs + pieces_count D s ws k ys
count_join D s ws k [] ys = omega arith
count_join D s ws k (x ∷ xs) ys = omega (arith, count_join D s ws k xs ys)

-- how a node lies to the windows
pub data Lies (D : ℕ) (s : Shape) (ws : List Window) (n : Node) : Type 0 where
  is_in : is_inside D ws (s.reach n) ≡ true → Lies D s ws n
  is_partly : is_inside D ws (s.reach n) ≡ false → meets D ws (s.reach n) ≡ true → Lies D s ws n
  is_apart : is_inside D ws (s.reach n) ≡ false → meets D ws (s.reach n) ≡ false → Lies D s ws n

pub lies : (D : ℕ) (s : Shape) (ws : List Window) (n : Node) → Lies D s ws n
lies D s ws n =
    ⊎_elim (λ t. is_in t)
    (λ f. ⊎_elim (λ t. is_partly f t) (λ g. is_apart f g) (cases_Bool (meets D ws (s.reach n))))
    (cases_Bool (is_inside D ws (s.reach n)))

no_partial : (b : Bool) → b ≡ false → cond {A = ℕ} b 1 0 ≡ 0
no_partial b e = cond-false {A = ℕ} b 1 0 e

module _ (D : ℕ) (s : Shape) (ws : List Window) (Comes : Node → Type 0)
    (tree : IsTree D s Comes) where
  child_apart : (n : Node) (q : ℕ) → Comes n → n.level < s.depth → q < 2 ^ D
      → meets D ws (s.reach n) ≡ false → meets D ws (s.reach (s.child n q)) ≡ false
  child_apart n q comes level few apart =
      ⊎_elim (λ t. absurd
      (both_ways _ apart
      (meets_parent D (s.reach (s.child n q)) (s.reach n) ws
      (child_inside D s Comes tree n q comes level few) t))) (λ f. f)
      (cases_Bool (meets D ws (s.reach (s.child n q))))

  child_kept : (n : Node) (q : ℕ) → Comes n → n.level < s.depth → q < 2 ^ D
      → is_inside D ws (s.reach n) ≡ true → is_inside D ws (s.reach (s.child n q)) ≡ true
  child_kept n q comes level few inside =
      inside_child D (s.reach (s.child n q)) (s.reach n) ws
      (child_inside D s Comes tree n q comes level few) inside

  -- ---- a node that no window meets
  pub apart_none : (k : ℕ) (n : Node) (c : ℕ) → Comes n → n.level + k ≤ s.depth
      → meets D ws (s.reach n) ≡ false → InBelow D s ws k n c → ⊥
  apart_none zero n c comes deep apart h = both_ways _ apart h.1
  apart_none (suc k) n c comes deep apart h =
      ⊎_elim (λ own. both_ways _ apart own.1)
      (λ below. let level : n.level < s.depth = omega arith in
      apart_none k (s.child n below.0) c (tree.child_comes n below.0 comes level below.1)
      (omega (arith, tree.child_level n below.0 comes level below.1))
      (child_apart n below.0 comes level below.1 apart) below.2) h

  pub apart_count : (k : ℕ) (n : Node) → Comes n → n.level + k ≤ s.depth
      → meets D ws (s.reach n) ≡ false → partial_count D s ws k n ≡ 0
  apart_count zero n comes deep apart =
      no_partial (is_partial D ws (s.reach n))
      (and_left (meets D ws (s.reach n)) (not (is_inside D ws (s.reach n))) apart)
  apart_count (suc k) n comes deep apart =
      sum_zero (2 ^ D) (λ q. partial_count D s ws k (s.child n q)) (λ q few.
      let level : n.level < s.depth = omega arith in
      apart_count k (s.child n q) (tree.child_comes n q comes level few)
      (omega (arith, tree.child_level n q comes level few))
      (child_apart n q comes level few apart))

  -- ---- a node inside a window
  pub inside_out : (k : ℕ) (n : Node) (c : ℕ) → Comes n → n.level + k ≤ s.depth
      → InBelow D s ws k n c → HasCode s n c
  inside_out zero n c comes deep h = h.0
  inside_out (suc k) n c comes deep h =
      let level : n.level < s.depth = omega arith in
      ⊎_elim (λ own. let e =
      own_code (s.own n) n.first c (tree.inner n comes level).own_first own.0 in
      (omega (arith, e), omega (arith, e, tree.some_code n comes)))
      (λ below. code_up D s Comes tree n below.0 c comes level below.1
      (inside_out k (s.child n below.0) c (tree.child_comes n below.0 comes level below.1)
      (omega (arith, tree.child_level n below.0 comes level below.1)) below.2)) h

  pub inside_into : (k : ℕ) (n : Node) (c : ℕ) → Comes n → n.level + k ≤ s.depth
      → is_inside D ws (s.reach n) ≡ true → HasCode s n c → InBelow D s ws k n c
  inside_into zero n c comes deep inside has =
      (has, inside_meets D (s.reach n) ws (tree.rising n comes) inside)
  inside_into (suc k) n c comes deep inside has =
      let level : n.level < s.depth = omega arith in
      ⊎_elim (λ own. inl (own, inside_meets D (s.reach n) ws (tree.rising n comes) inside))
      (λ below. inr (
        below.0,
        below.1,
        inside_into k (s.child n below.0) c (tree.child_comes n below.0 comes level below.1)
            (omega (arith, tree.child_level n below.0 comes level below.1))
            (child_kept n below.0 comes level below.1 inside) below.2,
      ))
      (code_down D s Comes tree n c comes level has)

  pub inside_count : (k : ℕ) (n : Node) → Comes n → n.level + k ≤ s.depth
      → is_inside D ws (s.reach n) ≡ true → partial_count D s ws k n ≡ 0
  inside_count zero n comes deep inside =
      no_partial (is_partial D ws (s.reach n))
      (and_right (meets D ws (s.reach n)) (not (is_inside D ws (s.reach n)))
      (not_from_true (is_inside D ws (s.reach n)) inside))
  inside_count (suc k) n comes deep inside =
      sum_zero (2 ^ D) (λ q. partial_count D s ws k (s.child n q)) (λ q few.
      let level : n.level < s.depth = omega arith in
      inside_count k (s.child n q) (tree.child_comes n q comes level few)
      (omega (arith, tree.child_level n q comes level few))
      (child_kept n q comes level few inside))

  -- ---- what stands of a node
  pub inside_piece : (n : Node) → is_inside D ws (s.reach n) ≡ true
      → piece_of D s ws n ≡ Some (Codes n.first (s.last n))
  inside_piece n t = cond-true (is_inside D ws (s.reach n)) _ _ t

  pub partly_piece : (n : Node) → is_inside D ws (s.reach n) ≡ false → meets D ws (s.reach n) ≡ true
      → piece_of D s ws n ≡ Some (Partial n (near_of D ws (s.reach n)))
  partly_piece n f t =
      cond-false (is_inside D ws (s.reach n)) _ _ f ∙ cond-true (meets D ws (s.reach n)) _ _ t

  pub apart_piece : (n : Node) → is_inside D ws (s.reach n) ≡ false → meets D ws (s.reach n) ≡ false
      → piece_of D s ws n ≡ None
  apart_piece n f g =
      cond-false (is_inside D ws (s.reach n)) _ _ f ∙ cond-false (meets D ws (s.reach n)) _ _ g

  pub piece_into : (k : ℕ) (n : Node) (c : ℕ) → Comes n → n.level + k ≤ s.depth
      → InBelow D s ws k n c → InPieces D s ws k (option_to_list (piece_of D s ws n)) c
  piece_into k n c comes deep h =
      elim (lies D s ws n) [
        | is_in t ↦ subst (λ o. InPieces D s ws k (option_to_list o) c) (sym (inside_piece n t))
            (inl (inside_out k n c comes deep h))
        | is_partly f t ↦
            subst (λ o. InPieces D s ws k (option_to_list o) c) (sym (partly_piece n f t)) (inl h)
        | is_apart f g ↦ absurd (apart_none k n c comes deep g h)
      ]

  pub piece_out : (k : ℕ) (n : Node) (c : ℕ) → Comes n → n.level + k ≤ s.depth
      → InPieces D s ws k (option_to_list (piece_of D s ws n)) c → InBelow D s ws k n c
  piece_out k n c comes deep h =
      elim (lies D s ws n) [
        | is_in t ↦ ⊎_elim (λ has. inside_into k n c comes deep t has) (λ none. absurd none)
            (subst (λ o. InPieces D s ws k (option_to_list o) c) (inside_piece n t) h)
        | is_partly f t ↦
            ⊎_elim (λ below. below) (λ none. absurd none)
            (subst (λ o. InPieces D s ws k (option_to_list o) c) (partly_piece n f t) h)
        | is_apart f g ↦
            absurd (subst (λ o. InPieces D s ws k (option_to_list o) c) (apart_piece n f g) h)
      ]

  pub piece_counts : (k : ℕ) (n : Node) → Comes n → n.level + k ≤ s.depth
      → pieces_count D s ws k (option_to_list (piece_of D s ws n)) ≡ partial_count D s ws k n
  piece_counts k n comes deep =
      elim (lies D s ws n) [
        | is_in t ↦ ap (λ o. pieces_count D s ws k (option_to_list o)) (inside_piece n t)
            ∙ sym (inside_count k n comes deep t)
        | is_partly f t ↦
            ap (λ o. pieces_count D s ws k (option_to_list o)) (partly_piece n f t) ∙ omega arith
        | is_apart f g ↦
            ap (λ o. pieces_count D s ws k (option_to_list o)) (apart_piece n f g)
            ∙ sym (apart_count k n comes deep g)
      ]

  pub piece_stands : (n : Node) (l : ℕ) → Comes n → n.level ≡ l
      → AllByRecursion (IsPieceAt D s Comes ws l) (option_to_list (piece_of D s ws n))
  piece_stands n l comes at =
      elim (lies D s ws n) [
        | is_in t ↦ subst (λ o. AllByRecursion (IsPieceAt D s Comes ws l) (option_to_list o))
            (sym (inside_piece n t)) (tree.some_code n comes, tt)
        | is_partly f t ↦
            subst (λ o. AllByRecursion (IsPieceAt D s Comes ws l) (option_to_list o))
            (sym (partly_piece n f t)) (
              (
                comes,
                at,
                and_from (meets D ws (s.reach n))
                    (not (is_inside D ws (s.reach n))) t
                    (not_from_false (is_inside D ws (s.reach n)) f),
                refl,
              ),
              tt,
            )
        | is_apart f g ↦
            subst (λ o. AllByRecursion (IsPieceAt D s Comes ws l) (option_to_list o))
            (sym (apart_piece n f g)) tt
      ]

  -- ---- the children below m
  pub children_into : (k : ℕ) (n : Node) (m : ℕ) (c : ℕ) → Comes n → n.level + suc k ≤ s.depth
      → m ≤ 2 ^ D → (q : ℕ) → q < m → InBelow D s ws k (s.child n q) c
      → InPieces D s ws k (child_pieces D s ws n m) c
  children_into k n zero c comes deep most q less h = absurd (omega arith)
  children_into k n (suc m) c comes deep most q less h =
      let level : n.level < s.depth = omega arith in
      let few : m < 2 ^ D = omega arith in
      pieces_join D s ws k (child_pieces D s ws n m)
      (option_to_list (piece_of D s ws (s.child n m))) c
      (⊎_elim (λ earlier. inl (children_into k n m c comes deep (omega arith) q earlier h))
      (λ late. let e : q ≡ m = omega arith in
      inr (piece_into k (s.child n m) c (tree.child_comes n m comes level few)
      (omega (arith, tree.child_level n m comes level few))
      (subst (λ i. InBelow D s ws k (s.child n i) c) e h)))
      (cases_lt q m))

  pub children_out : (k : ℕ) (n : Node) (m : ℕ) (c : ℕ) → Comes n → n.level + suc k ≤ s.depth
      → m ≤ 2 ^ D → InPieces D s ws k (child_pieces D s ws n m) c
      → (q : ℕ) × (q < 2 ^ D) × InBelow D s ws k (s.child n q) c
  children_out k n zero c comes deep most h = absurd h
  children_out k n (suc m) c comes deep most h =
      let level : n.level < s.depth = omega arith in
      let few : m < 2 ^ D = omega arith in
      ⊎_elim (λ front. children_out k n m c comes deep (omega arith) front)
      (λ back. (
        m,
        few,
        piece_out k (s.child n m) c (tree.child_comes n m comes level few)
            (omega (arith, tree.child_level n m comes level few)) back,
      ))
      (pieces_parts D s ws k (child_pieces D s ws n m)
      (option_to_list (piece_of D s ws (s.child n m))) c h)

  pub children_count : (k : ℕ) (n : Node) (m : ℕ) → Comes n → n.level + suc k ≤ s.depth → m ≤ 2 ^ D
      → pieces_count D s ws k (child_pieces D s ws n m)
      ≡ sum_below m (λ q. partial_count D s ws k (s.child n q))
  children_count k n zero comes deep most = refl
  children_count k n (suc m) comes deep most =
      let level : n.level < s.depth = omega arith in
      let few : m < 2 ^ D = omega arith in
      omega (
        arith,
        count_join D s ws k (child_pieces D s ws n m)
            (option_to_list (piece_of D s ws (s.child n m))),
        children_count k n m comes deep (omega arith),
        piece_counts k (s.child n m) (tree.child_comes n m comes level few)
            (omega (arith, tree.child_level n m comes level few)),
      )

  pub children_stand : (n : Node) (l m : ℕ) → Comes n → n.level < s.depth → n.level ≡ l → m ≤ 2 ^ D
      → AllByRecursion (IsPieceAt D s Comes ws (l + 1)) (child_pieces D s ws n m)
  children_stand n l zero comes level at most = tt
  children_stand n l (suc m) comes level at most =
      let few : m < 2 ^ D = omega arith in
      all_append (IsPieceAt D s Comes ws (l + 1)) (child_pieces D s ws n m)
      (option_to_list (piece_of D s ws (s.child n m)))
      (children_stand n l m comes level at (omega arith))
      (piece_stands (s.child n m) (l + 1) (tree.child_comes n m comes level few)
      (omega (arith, tree.child_level n m comes level few)))

  -- ---- a partial node, opened
  own_into : (k : ℕ) (o : Option ℕ) (c : ℕ) → o ≡ Some c → InPieces D s ws k (own_pieces o) c
  own_into k None c h = absurd cc
  own_into k (Some d) c h = let e : d ≡ c = cc in inl ((omega (arith, e)), omega (arith, e))

  own_out : (k : ℕ) (o : Option ℕ) (c : ℕ) → InPieces D s ws k (own_pieces o) c → o ≡ Some c
  own_out k None c h = absurd h
  own_out k (Some d) c h =
      ⊎_elim (λ here. let e : d ≡ c = omega arith in ap (λ n. Some n) e) (λ none. absurd none) h

  own_count : (k : ℕ) (o : Option ℕ) → pieces_count D s ws k (own_pieces o) ≡ 0
  own_count k None = refl
  own_count k (Some d) = omega arith

  own_stand : (l : ℕ) (o : Option ℕ) → AllByRecursion (IsPieceAt D s Comes ws l) (own_pieces o)
  own_stand l None = tt
  own_stand l (Some d) = (omega arith, tt)

  pub opened_into : (k : ℕ) (n : Node) (c : ℕ) → Comes n → n.level + suc k ≤ s.depth
      → InBelow D s ws (suc k) n c → InPieces D s ws k (opened D s ws n) c
  opened_into k n c comes deep h =
      pieces_join D s ws k (own_pieces (s.own n)) (child_pieces D s ws n (2 ^ D)) c
      (⊎_elim (λ own. inl (own_into k (s.own n) c own.0))
      (λ below. inr (children_into k n (2 ^ D) c comes deep (omega arith) below.0
      below.1 below.2)) h)

  pub opened_out : (k : ℕ) (n : Node) (c : ℕ) → Comes n → n.level + suc k ≤ s.depth
      → meets D ws (s.reach n) ≡ true → InPieces D s ws k (opened D s ws n) c
      → InBelow D s ws (suc k) n c
  opened_out k n c comes deep meet h =
      ⊎_elim (λ own. inl (own_out k (s.own n) c own, meet))
      (λ below. inr (children_out k n (2 ^ D) c comes deep (omega arith) below))
      (pieces_parts D s ws k (own_pieces (s.own n)) (child_pieces D s ws n (2 ^ D)) c h)

  pub opened_count : (k : ℕ) (n : Node) → Comes n → n.level + suc k ≤ s.depth
      → pieces_count D s ws k (opened D s ws n) ≡ partial_count D s ws (suc k) n
  opened_count k n comes deep =
      omega (
        arith,
        count_join D s ws k (own_pieces (s.own n)) (child_pieces D s ws n (2 ^ D)),
        own_count k (s.own n),
        children_count k n (2 ^ D) comes deep (omega arith),
      )

  pub opened_stand : (n : Node) (l : ℕ) → Comes n → n.level < s.depth → n.level ≡ l
      → AllByRecursion (IsPieceAt D s Comes ws (l + 1)) (opened D s ws n)
  opened_stand n l comes level at =
      all_append (IsPieceAt D s Comes ws (l + 1)) (own_pieces (s.own n))
      (child_pieces D s ws n (2 ^ D)) (own_stand (l + 1) (s.own n))
      (children_stand n l (2 ^ D) comes level at (omega arith))

  -- ---- all pieces of a level, opened
  pub all_into : (k l : ℕ) (ps : List Piece) (c : ℕ) → AllByRecursion (IsPieceAt D s Comes ws l) ps
      → l + suc k ≤ s.depth → InPieces D s ws (suc k) ps c
      → InPieces D s ws k (opened_all D s ws ps) c
  all_into k l [] c stand deep h = absurd h
  all_into k l (Codes low high ∷ ps) c stand deep h =
      ⊎_elim (λ here. inl here) (λ there. inr (all_into k l ps c stand.1 deep there)) h
  all_into k l (Partial n near ∷ ps) c stand deep h =
      pieces_join D s ws k (opened D s ws n) (opened_all D s ws ps) c
      (⊎_elim (λ here. inl (opened_into k n c stand.0.0 (omega (arith, stand.0.1)) here))
      (λ there. inr (all_into k l ps c stand.1 deep there)) h)

  pub all_out : (k l : ℕ) (ps : List Piece) (c : ℕ) → AllByRecursion (IsPieceAt D s Comes ws l) ps
      → l + suc k ≤ s.depth → InPieces D s ws k (opened_all D s ws ps) c
      → InPieces D s ws (suc k) ps c
  all_out k l [] c stand deep h = absurd h
  all_out k l (Codes low high ∷ ps) c stand deep h =
      ⊎_elim (λ here. inl here) (λ there. inr (all_out k l ps c stand.1 deep there)) h
  all_out k l (Partial n near ∷ ps) c stand deep h =
      ⊎_elim (λ here. inl
      (opened_out k n c stand.0.0 (omega (arith, stand.0.1))
      (and_parts (meets D ws (s.reach n)) (not (is_inside D ws (s.reach n))) stand.0.2).0
      here)) (λ there. inr (all_out k l ps c stand.1 deep there))
      (pieces_parts D s ws k (opened D s ws n) (opened_all D s ws ps) c h)

  pub all_count : (k l : ℕ) (ps : List Piece) → AllByRecursion (IsPieceAt D s Comes ws l) ps
      → l + suc k ≤ s.depth
      → pieces_count D s ws k (opened_all D s ws ps) ≡ pieces_count D s ws (suc k) ps
  all_count k l [] stand deep = refl
  all_count k l (Codes low high ∷ ps) stand deep = omega (arith, all_count k l ps stand.1 deep)
  all_count k l (Partial n near ∷ ps) stand deep =
      omega (
        arith,
        count_join D s ws k (opened D s ws n) (opened_all D s ws ps),
        opened_count k n stand.0.0 (omega (arith, stand.0.1)),
        all_count k l ps stand.1 deep,
      )

  pub all_stand : (l : ℕ) (ps : List Piece) → AllByRecursion (IsPieceAt D s Comes ws l) ps
      → l < s.depth → AllByRecursion (IsPieceAt D s Comes ws (l + 1)) (opened_all D s ws ps)
  all_stand l [] stand deep = tt
  all_stand l (Codes low high ∷ ps) stand deep = (stand.0, all_stand l ps stand.1 deep)
  all_stand l (Partial n near ∷ ps) stand deep =
      all_append (IsPieceAt D s Comes ws (l + 1)) (opened D s ws n) (opened_all D s ws ps)
      (opened_stand n l stand.0.0 (omega (arith, stand.0.1)) stand.0.1)
      (all_stand l ps stand.1 deep)
