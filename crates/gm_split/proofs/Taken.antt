-- What is taken piece by piece.
use Rattle.std.proofs.Common.{◌≡◌, ◌⊎◌, inl, inr, ⊎_elim, ℕ, zero, suc, ◌+◌, ◌*◌, ◌<◌, ◌≤◌, List}
use Rattle.std.proofs.Common.{[], ◌∷◌, ◌++◌, length, take, drop, get_or, refl, sym, ap, ◌∙◌, subst}
use Rattle.std.proofs.Common.{arith}
use Rattle.std.specs.Prelude.{true, false, cond, Option, Some, None, option_to_list}
use Rattle.std.proofs.lemmas.List.{append_assoc, append-nil, length-append, take_more, take_all}
use Rattle.std.proofs.lemmas.List.{take-append-drop}
use Rattle.std.proofs.lemmas.Bool.{cases_Bool, cond-true, cond-false}
use Rattle.gm_trees.specs.declared.node.Node.{Node}
use Rattle.gm_trees.specs.declared.window.Window.{Window}
use Rattle.gm_trees.specs.Tree.{Shape}
use Rattle.gm_split.specs.declared.pieces.Piece.{Piece}
use Rattle.gm_split.specs.declared.pieces.Piece.TheVariants.{Codes, Partial}
use Rattle.gm_split.specs.declared.front.Front.{Front}
use Rattle.gm_split.specs.Opening.{piece_of, own_pieces, child_pieces, opened_piece, opened_all}
use Rattle.gm_split.specs.Opening.{partials, ends}
use Rattle.gm_split.specs.Front.{joined, joined_after, growing_of, last_of, follows, runs_behind}
use Rattle.gm_split.specs.Front.{last_behind, HasTaken, Takes, HasNext, HasFirst}

-- ---- joined lists
module _ (s : Shape) where
  pub last_join : (last : Option ℕ) (xs ys : List Piece)
      → last_behind s last (xs ++ ys) ≡ last_behind s (last_behind s last xs) ys
  last_join last [] ys = refl
  last_join last (x ∷ xs) ys = last_join (Some (ends s x).1) xs ys

  pub runs_join : (last : Option ℕ) (xs ys : List Piece)
      → runs_behind s last (xs ++ ys)
      ≡ runs_behind s last xs + runs_behind s (last_behind s last xs) ys
  runs_join last [] ys = omega arith
  runs_join last (x ∷ xs) ys = omega (arith, runs_join (Some (ends s x).1) xs ys)

  pub partials_join : (xs ys : List Piece) → partials (xs ++ ys) ≡ partials xs + partials ys
  partials_join [] ys = omega arith
  partials_join (x ∷ xs) ys = omega (arith, partials_join xs ys)

  -- a front has no more than the whole
  pub front_runs : (last : Option ℕ) (xs ys : List Piece)
      → runs_behind s last xs ≤ runs_behind s last (xs ++ ys)
  front_runs last xs ys = omega (arith, runs_join last xs ys)

  pub front_partials : (xs ys : List Piece) → partials xs ≤ partials (xs ++ ys)
  front_partials xs ys = omega (arith, partials_join xs ys)

  -- a piece begins one run at most, and is one partial node at most
  few_runs : (last : Option ℕ) (ps : List Piece) → runs_behind s last ps ≤ length ps
  few_runs last [] = omega arith
  few_runs last (p ∷ ps) =
      let rest = few_runs (Some (ends s p).1) ps in
      let one : cond {A = ℕ} (follows last (ends s p).0) 0 1 ≤ 1 =
      ⊎_elim (λ t. let e = cond-true {A = ℕ} (follows last (ends s p).0) 0 1 t in omega (arith, e))
      (λ f. let e = cond-false {A = ℕ} (follows last (ends s p).0) 0 1 f in omega (arith, e))
      (cases_Bool (follows last (ends s p).0)) in
      omega (arith, rest, one)

  few_partials : (ps : List Piece) → partials ps ≤ length ps
  few_partials [] = omega arith
  few_partials (Codes low high ∷ ps) = omega (arith, few_partials ps)
  few_partials (Partial n near ∷ ps) = omega (arith, few_partials ps)

  -- ---- one after another
  pub takes_none : (a : Front) → Takes s [] a a
  takes_none a =
      record { joined = λ rest. refl; last = refl; runs = omega arith; partial = omega arith }

  pub takes_both : (xs ys : List Piece) (a b c : Front) → Takes s xs a b → Takes s ys b c
      → Takes s (xs ++ ys) a c
  takes_both xs ys a b c one two = record {
    joined = λ rest. two.joined rest ∙ one.joined (ys ++ rest)
        ∙ ap (λ k. a.pieces.items ++ joined_after (growing_of a.tail) k)
        (sym (append_assoc xs ys rest));
    last = two.last ∙ ap (λ l. last_behind s l ys) one.last
        ∙ sym (last_join (last_of a.tail) xs ys);
    runs = let e = ap (λ l. runs_behind s l ys) one.last in
        omega (arith, two.runs, one.runs, e, runs_join (last_of a.tail) xs ys);
    partial = omega (arith, two.partial, one.partial, partials_join xs ys);
  }

  pub taken_more : (done ps : List Piece) (a b : Front) → HasTaken s done a → Takes s ps a b
      → HasTaken s (done ++ ps) b
  taken_more done ps a b so more = record {
    joined = λ rest. more.joined rest ∙ so.joined (ps ++ rest)
        ∙ ap joined (sym (append_assoc done ps rest));
    last = more.last ∙ ap (λ l. last_behind s l ps) so.last ∙ sym (last_join None done ps);
    runs = let e = ap (λ l. runs_behind s l ps) so.last in
        omega (arith, more.runs, so.runs, e, runs_join None done ps);
    partial = omega (arith, more.partial, so.partial, partials_join done ps);
  }

  pub few_more : (k : ℕ) (ps : List Piece) (a b : Front) → length ps ≤ k → Takes s ps a b
      → (b.runs ≤ a.runs + k) × (b.partial ≤ a.partial + k)
  few_more k ps a b few more = (
    (omega (arith, few, more.runs, few_runs (last_of a.tail) ps)),
    omega (arith, few, more.partial, few_partials ps),
  )

-- ---- the turns of the loops
few_own : (o : Option ℕ) → length (own_pieces o) ≤ 1
few_own None = omega arith
few_own (Some c) = omega arith

few_option : (o : Option Piece) → length (option_to_list o) ≤ 1
few_option None = omega arith
few_option (Some p) = omega arith

module _ (D : ℕ) (s : Shape) (ws : List Window) where
  few_children : (n : Node) (q : ℕ) → length (child_pieces D s ws n q) ≤ q
  few_children n zero = omega arith
  few_children n (suc q) =
      omega (
        arith,
        few_children n q,
        few_option (piece_of D s ws (s.child n q)),
        length-append (child_pieces D s ws n q) (option_to_list (piece_of D s ws (s.child n q))),
      )

  pub few_opened : (n : Node) (q : ℕ)
      → length (own_pieces (s.own n) ++ child_pieces D s ws n q) ≤ 1 + q
  few_opened n q =
      omega (
        arith,
        few_own (s.own n),
        few_children n q,
        length-append (own_pieces (s.own n)) (child_pieces D s ws n q),
      )

  -- its own code first
  pub own_taken : (n : Node) (o : Option ℕ) (a b : Front) → o ≡ s.own n → Takes s (own_pieces o) a b
      → Takes s (own_pieces (s.own n) ++ child_pieces D s ws n 0) a b
  own_taken n o a b at more =
      subst (λ ps. Takes s ps a b) (ap own_pieces at ∙ sym (append-nil (own_pieces (s.own n)))) more

  -- the root alone
  pub first_taken : (n : Node) (a b c : Front) → n ≡ s.root → HasTaken s [] a
      → Takes s (option_to_list (piece_of D s ws n)) a b
      → c.pieces.items ≡ b.pieces.items ++ joined_after (growing_of b.tail) []
      → c.partial ≡ b.partial → HasFirst D s ws c
  first_taken n a b c at none more close same =
      let ps = option_to_list (piece_of D s ws s.root) in
      let taken : HasTaken s ps b =
      taken_more s [] ps a b none
      (subst (λ m. Takes s (option_to_list (piece_of D s ws m)) a b) at more) in
      record {
        pieces = close ∙ taken.joined [] ∙ ap joined (append-nil ps);
        partial = omega (arith, same, taken.partial);
      }

  -- one child more
  pub child_taken : (n m : Node) (q : ℕ) (a b c : Front) → m ≡ s.child n q
      → Takes s (own_pieces (s.own n) ++ child_pieces D s ws n q) a b
      → Takes s (option_to_list (piece_of D s ws m)) b c
      → Takes s (own_pieces (s.own n) ++ child_pieces D s ws n (q + 1)) a c
  child_taken n m q a b c at before more =
      let own = own_pieces (s.own n) in
      let x = option_to_list (piece_of D s ws (s.child n q)) in
      let both = takes_both s (own ++ child_pieces D s ws n q) x a b c before
      (subst (λ k. Takes s (option_to_list (piece_of D s ws k)) b c) at more) in
      let e : suc q ≡ q + 1 = omega arith in
      subst (λ ps. Takes s ps a c)
      (append_assoc own (child_pieces D s ws n q) x
      ∙ ap (λ k. own ++ child_pieces D s ws n k) e) both

  -- ---- one piece more
  pub opened_join : (xs ys : List Piece)
      → opened_all D s ws (xs ++ ys) ≡ opened_all D s ws xs ++ opened_all D s ws ys
  opened_join [] ys = refl
  opened_join (x ∷ xs) ys =
      ap (λ k. opened_piece D s ws x ++ k) (opened_join xs ys)
      ∙ sym (append_assoc (opened_piece D s ws x) (opened_all D s ws xs) (opened_all D s ws ys))

  pub piece_taken : (ps : List Piece) (i : ℕ) (d : Piece) (a b : Front) → i < length ps
      → HasTaken s (opened_all D s ws (take i ps)) a
      → Takes s (opened_piece D s ws (get_or ps i d)) a b
      → HasTaken s (opened_all D s ws (take (i + 1) ps)) b
  piece_taken ps i d a b inside before more =
      let x = get_or ps i d in
      let both = taken_more s (opened_all D s ws (take i ps)) (opened_piece D s ws x) a b
      before more in
      let e : opened_all D s ws (take (i + 1) ps)
      ≡ opened_all D s ws (take i ps) ++ opened_piece D s ws x =
      ap (opened_all D s ws) (take_more ps i d inside) ∙ opened_join (take i ps) (x ∷ [])
      ∙ ap (λ k. opened_all D s ws (take i ps) ++ k) (append-nil (opened_piece D s ws x)) in
      subst (λ k. HasTaken s k b) (sym e) both

  whole : (ps : List Piece) (k : ℕ)
      → opened_all D s ws ps ≡ opened_all D s ws (take k ps) ++ opened_all D s ws (drop k ps)
  whole ps k = ap (opened_all D s ws) (sym (take-append-drop k ps))
      ∙ opened_join (take k ps) (drop k ps)

  -- where the first pieces give too many, all do
  pub many_taken : (target : ℕ) (ps : List Piece) (k : ℕ) (a : Front)
      → HasTaken s (opened_all D s ws (take k ps)) a → (target < a.runs) ⊎ (4 * target < a.partial)
      → HasNext D s ws target ps a false
  many_taken target ps k a so many =
      let xs = opened_all D s ws (take k ps) in
      let ys = opened_all D s ws (drop k ps) in
      let e = ap (runs_behind s None) (whole ps k) in
      let f = ap partials (whole ps k) in
      ⊎_elim (λ runs. inl (omega (arith, runs, so.runs, e, front_runs s None xs ys)))
      (λ partial. inr (omega (arith, partial, so.partial, f, front_partials s xs ys))) many

  pub all_taken : (target : ℕ) (ps : List Piece) (k : ℕ) (a b : Front) → length ps ≤ k
      → HasTaken s (opened_all D s ws (take k ps)) a → a.runs ≤ target → a.partial ≤ 4 * target
      → b.pieces.items ≡ a.pieces.items ++ joined_after (growing_of a.tail) []
      → b.partial ≡ a.partial → HasNext D s ws target ps b true
  all_taken target ps k a b most so few_runs few_partial at same =
      let e : opened_all D s ws (take k ps) ≡ opened_all D s ws ps =
      ap (opened_all D s ws) (take_all k ps most) in
      let f = ap (runs_behind s None) e in
      let g = ap partials e in (
        at ∙ so.joined [] ∙ ap joined (append-nil (opened_all D s ws (take k ps)) ∙ e),
        (omega (arith, few_runs, so.runs, f)),
        (omega (arith, same, so.partial, g)),
        omega (arith, few_partial, so.partial, g),
      )
