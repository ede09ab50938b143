-- What the loops over AND and OR keep.
use Rattle.std.proofs.Common.{◌≡◌, ℕ, zero, suc, ◌≤◌, ◌<◌, List, [], ◌∷◌, ◌++◌, length, Option}
use Rattle.std.proofs.Common.{Some, None, option_map, refl, sym, ◌∙◌, ap, arith, append_assoc}
use Rattle.std.proofs.Common.{append-nil}
use Rattle.gm_filter.specs.Tree.{Tree, Trees}
use Rattle.gm_ecql.specs.declared.keyword.Keyword.{Keyword}
use Rattle.gm_ecql.specs.Grammar.{Members, no_members, add_member, grouped}
use Rattle.gm_ecql.specs.Judging.{Judged, first_faults, first_name, faultless}
use Rattle.gm_ecql.specs.Parser.{more, chain, members_with}
use Rattle.gm_ecql.specs.Reader.{Reader, after_keyword}
use Rattle.gm_ecql.specs.Token.{Seen}

-- members in front of others
abbrev pub joined : Members → Members → Members
joined front ms =
    record { members = front.members ++ ms.members; faults = first_faults front.faults ms.faults }

abbrev pub single : Judged → Members
single j = record { members = j.meaning ∷ []; faults = j.faults }

-- one more behind those in front
abbrev pub extended : Members → Judged → Members
extended front j =
    record {
      members = front.members ++ j.meaning ∷ [];
      faults = first_faults front.faults j.faults;
    }

name_last : (x : Option (List ℕ)) → first_name x None ≡ x
name_last None = refl
name_last (Some n) = refl

name_assoc : (x y z : Option (List ℕ))
    → first_name (first_name x y) z ≡ first_name x (first_name y z)
name_assoc None y z = refl
name_assoc (Some n) y z = refl

joined_none : (front : Members) → joined front no_members ≡ front
joined_none front =
    ap (λ z. record { members = z; faults = first_faults front.faults faultless })
    (append-nil front.members)
    ∙ ap (λ u. record {
      members = front.members;
      faults = record { unknown = u; bad = first_name front.faults.bad None };
    })
    (name_last front.faults.unknown)
    ∙ ap (λ b. record
    { members = front.members; faults = record { unknown = front.faults.unknown; bad = b } })
    (name_last front.faults.bad)

joined_more : (front ms : Members) (j : Judged)
    → joined (extended front j) ms ≡ joined front (add_member j ms)
joined_more front ms j =
    let f = front.faults in
    let g = j.faults in
    let h = ms.faults in
    ap (λ z. record { members = z; faults = first_faults (first_faults f g) h })
    (append_assoc front.members (j.meaning ∷ []) ms.members)
    ∙ ap (λ u. record {
      members = front.members ++ j.meaning ∷ ms.members;
      faults = record { unknown = u; bad = first_name (first_name f.bad g.bad) h.bad };
    })
    (name_assoc f.unknown g.unknown h.unknown)
    ∙ ap (λ b. record {
      members = front.members ++ j.meaning ∷ ms.members;
      faults = record
          { unknown = first_name f.unknown (first_name g.unknown h.unknown); bad = b };
    })
    (name_assoc f.bad g.bad h.bad)

abbrev pub finish : (Trees → Tree) → Members → Option (Members × List Seen)
    → Option (Judged × List Seen)
finish make front r = option_map (λ ms. (grouped make (joined front ms.0), ms.1)) r

pub record Pending
    (word : Keyword) (make : Trees → Tree) (item : Reader Judged) (front : Members)
    (rest : List Seen)
    (whole : Option (Judged × List Seen)) : Type 0 where
  pub turns : ℕ
  pub enough : length rest ≤ turns
  pub same : finish make front (more word item turns rest) ≡ whole

module _ (word : Keyword) (make : Trees → Tree) (item : Reader Judged) where
  pub pending_start : (n : ℕ) (ts rest : List Seen) (j : Judged) → item ts ≡ Some (j, rest)
      → length rest ≤ n
      → Pending word make item (single j) rest (chain word make item n ts)
  pending_start n ts rest j h fits =
      record { turns = n; enough = fits; same = start (more word item n rest) ∙ rw h refl }
    where
      start : (r : Option (Members × List Seen))
          → finish make (single j) r
          ≡ option_map (λ ms. (grouped make ms.0, ms.1)) (members_with j r)
      start None = refl
      start (Some p) = refl

  finish_more : (front : Members) (j : Judged) (r : Option (Members × List Seen))
      → finish make (extended front j) r ≡ finish make front (members_with j r)
  finish_more front j None = refl
  finish_more front j (Some p) = ap (λ ms. Some (grouped make ms, p.1)) (joined_more front p.0 j)

  more_some : (n : ℕ) (rest later next : List Seen) (j : Judged)
      → after_keyword word rest ≡ Some later
      → item later ≡ Some (j, next)
      → more word item (suc n) rest ≡ members_with j (more word item n next)
  unfolding more
  more_some n rest later next j a h = rw (a, h) refl

  more_none : (n : ℕ) (rest : List Seen) → after_keyword word rest ≡ None
      → more word item n rest ≡ Some (no_members, rest)
  unfolding more
  more_none zero rest a = rw a refl
  more_none (suc n) rest a = rw a refl

  more_fails : (n : ℕ) (rest later : List Seen) → after_keyword word rest ≡ Some later
      → item later ≡ None
      → more word item n rest ≡ None
  unfolding more
  more_fails zero rest later a h = rw a refl
  more_fails (suc n) rest later a h = rw (a, h) refl

  more_with : (front : Members) (rest later next : List Seen) (j : Judged) (n : ℕ)
      (whole : Option (Judged × List Seen))
      → after_keyword word rest ≡ Some later → item later ≡ Some (j, next)
      → length next < length rest → length rest ≤ n
      → finish make front (more word item n rest) ≡ whole
      → Pending word make item (extended front j) next whole
  more_with front rest later next j zero whole a h fewer enough same = absurd (omega arith)
  more_with front rest later next j (suc n) whole a h fewer enough same = record {
    turns = n;
    enough = omega arith;
    same = finish_more front j (more word item n next)
        ∙ ap (finish make front) (sym (more_some n rest later next j a h)) ∙ same;
  }

  pub pending_more : (front : Members) (rest later next : List Seen) (j : Judged)
      (whole : Option (Judged × List Seen))
      → after_keyword word rest ≡ Some later → item later ≡ Some (j, next)
      → length next < length rest
      → Pending word make item front rest whole
      → Pending word make item (extended front j) next whole
  pending_more front rest later next j whole a h fewer p =
      more_with front rest later next j p.turns whole a h fewer p.enough p.same

  pub pending_end : (front : Members) (rest : List Seen) (whole : Option (Judged × List Seen))
      → after_keyword word rest ≡ None
      → Pending word make item front rest whole → whole ≡ Some (grouped make front, rest)
  pending_end front rest whole a p =
      sym p.same ∙ ap (finish make front) (more_none p.turns rest a)
      ∙ ap (λ ms. Some (grouped make ms, rest)) (joined_none front)

  pub pending_fails : (front : Members) (rest later : List Seen)
      (whole : Option (Judged × List Seen))
      → after_keyword word rest ≡ Some later → item later ≡ None
      → Pending word make item front rest whole → whole ≡ None
  pending_fails front rest later whole a h p =
      sym p.same ∙ ap (finish make front) (more_fails p.turns rest later a h)
