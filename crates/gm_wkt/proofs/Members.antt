-- Members of a list: from the front of a text to its closing bracket.
use Rattle.std.proofs.Common.{◌≡◌, ℕ, Bool, true, false, ◌==◌, cond, List, [], ◌∷◌, ◌++◌, Some}
use Rattle.std.proofs.Common.{None, refl, sym, ap, ◌∙◌, append_assoc, append-nil, eqb-true}
use Rattle.gm_base.proofs.Options.{same_some}
use Rattle.gm_geom.specs.Number.{is_number_byte}
use Rattle.gm_wkt.specs.Grammar.{SpellsMember, SpellsMembers, SpellsList}
use Rattle.gm_wkt.specs.Reader.{skip_blanks, separator, separator_first, separator_at, Starts}
use Rattle.gm_wkt.specs.Reader.{Ends, Takes, UpTo}
use Rattle.gm_wkt.proofs.Scans.{skip_over, skipped, ends_behind}

-- members in brackets stand at the front of a text, and the other way round
rest_of : {A : Type 0} (Item : List ℕ → A → Type 0) (bytes : List ℕ) (x : A) (rest tail : List ℕ)
    → SpellsMember Item bytes x rest → SpellsMember Item (bytes ++ tail) x (rest ++ tail)
rest_of Item bytes x rest tail m = record {
  before = m.before;
  item = m.item;
  after = m.after;
  blanks_before = m.blanks_before;
  spells = m.spells;
  blanks_after = m.blanks_after;
  written = ap (λ t. t ++ tail) m.written ∙ regroup m.before m.item m.after rest tail;
}
  where
    regroup : (a b c d e : List ℕ) → (a ++ (b ++ (c ++ d))) ++ e ≡ a ++ (b ++ (c ++ (d ++ e)))
    regroup a b c d e = simp append_assoc

pub up_to : {A : Type 0} (Item : List ℕ → A → Type 0) (inside : List ℕ) (xs : List A)
    (tail : List ℕ) → SpellsMembers Item inside xs → UpTo Item (inside ++ 41 ∷ tail) xs tail
up_to Item inside [] tail m = m
up_to Item inside (x ∷ []) tail m = rest_of Item inside x [] (41 ∷ tail) m
up_to Item inside (x ∷ y ∷ xs) tail m = (
  m.0 ++ 41 ∷ tail,
  rest_of Item inside x (44 ∷ m.0) (41 ∷ tail) m.1,
  up_to Item m.0 (y ∷ xs) tail m.2,
)

pub list_at_front : {A : Type 0} (Item : List ℕ → A → Type 0) (front : List ℕ) (xs : List A)
    (tail : List ℕ) → SpellsList Item front xs
    → (inside : List ℕ) × UpTo Item inside xs tail × (front ++ tail ≡ 40 ∷ inside)
list_at_front Item front xs tail l = (
  l.0 ++ 41 ∷ tail,
  up_to Item l.0 xs tail l.1,
  ap (λ t. t ++ tail) l.2
      ∙ ap (λ t. 40 ∷ t) (append_assoc l.0 (41 ∷ []) tail),
)

member_inside : {A : Type 0} (Item : List ℕ → A → Type 0) (text : List ℕ) (x : A) (rest : List ℕ)
    → SpellsMember Item text x rest
    → (front : List ℕ) × (SpellsMember Item front x []) × (text ≡ front ++ rest)
member_inside Item text x rest m = (
  m.before ++ (m.item ++ (m.after ++ [])),
  record {
    before = m.before;
    item = m.item;
    after = m.after;
    blanks_before = m.blanks_before;
    spells = m.spells;
    blanks_after = m.blanks_after;
    written = refl;
  },
  m.written ∙ regroup m.before m.item m.after rest,
)
  where
    regroup : (a b c d : List ℕ) → a ++ (b ++ (c ++ d)) ≡ (a ++ (b ++ (c ++ []))) ++ d
    regroup a b c d = simp (append_assoc, append-nil)

pub inside_of : {A : Type 0} (Item : List ℕ → A → Type 0) (text : List ℕ) (xs : List A)
    (tail : List ℕ) → UpTo Item text xs tail
    → (inside : List ℕ) × SpellsMembers Item inside xs × (text ≡ inside ++ 41 ∷ tail)
inside_of Item text [] tail u = absurd u
inside_of Item text (x ∷ []) tail u = member_inside Item text x (41 ∷ tail) u
inside_of Item text (x ∷ y ∷ xs) tail u =
    let later = inside_of Item u.0 (y ∷ xs) tail u.2 in
    let m = u.1 in (
      m.before ++ (m.item ++ (m.after ++ 44 ∷ later.0)),
      (
        later.0,
        record {
          before = m.before;
          item = m.item;
          after = m.after;
          blanks_before = m.blanks_before;
          spells = m.spells;
          blanks_after = m.blanks_after;
          written = refl;
        },
        later.1,
      ),
      m.written ∙ ap (λ t. m.before ++ (m.item ++ (m.after ++ 44 ∷ t))) later.2
          ∙ regroup m.before m.item m.after (44 ∷ later.0) (41 ∷ tail),
    )
  where
    regroup : (a b c d e : List ℕ) → a ++ (b ++ (c ++ (d ++ e))) ≡ (a ++ (b ++ (c ++ d))) ++ e
    regroup a b c d e = simp append_assoc

pub list_found : {A : Type 0} (Item : List ℕ → A → Type 0) (text inside : List ℕ) (xs : List A)
    (tail : List ℕ) → text ≡ 40 ∷ inside → UpTo Item inside xs tail
    → Takes (SpellsList Item) text xs tail
list_found Item text inside xs tail e u =
    let read = inside_of Item inside xs tail u in record {
      front = 40 ∷ (read.0 ++ 41 ∷ []);
      spells = (read.0, read.1, refl);
      written = e ∙ ap (λ t. 40 ∷ t) (read.2 ∙ sym (append_assoc read.0 (41 ∷ []) tail));
    }

-- a member and the separator behind it
separator_ends : (more : Bool) → is_number_byte (separator more) ≡ false
separator_ends true = refl
separator_ends false = refl

separator_starts : (more : Bool) (rest : List ℕ) → Starts (separator more ∷ rest)
separator_starts true rest = refl
separator_starts false rest = refl

separator_is : (more : Bool) (rest : List ℕ)
    → separator_first (separator more ∷ rest) ≡ Some (more, rest)
separator_is true rest = refl
separator_is false rest = refl

separator_was : (bytes : List ℕ) (r : Bool × List ℕ) → separator_first bytes ≡ Some r
    → bytes ≡ separator r.0 ∷ r.1
separator_was [] r e = absurd (cc)
separator_was (b ∷ bytes) r e = by_comma (b == 44) refl e
  where
    by_bracket : (t : Bool) → (b == 41) ≡ t → cond t (Some (false, bytes)) None ≡ Some r
        → b ∷ bytes ≡ separator r.0 ∷ r.1
    by_bracket true is e =
        ap (λ n. n ∷ bytes) (eqb-true b 41 is)
        ∙ ap (λ (q : Bool × List ℕ). separator q.0 ∷ q.1)
        (same_some {A = Bool × List ℕ} (false, bytes) r e)
    by_bracket false is e = absurd (cc)

    by_comma : (t : Bool) → (b == 44) ≡ t
        → cond t (Some (true, bytes)) (cond (b == 41) (Some (false, bytes)) None) ≡ Some r
        → b ∷ bytes ≡ separator r.0 ∷ r.1
    by_comma true is e =
        ap (λ n. n ∷ bytes) (eqb-true b 44 is)
        ∙ ap (λ (q : Bool × List ℕ). separator q.0 ∷ q.1)
        (same_some {A = Bool × List ℕ} (true, bytes) r e)
    by_comma false is e = by_bracket (b == 41) refl e

pub member_found : {A : Type 0} (Item : List ℕ → A → Type 0) (text after : List ℕ) (x : A)
    (r : Bool × List ℕ) → Takes Item (skip_blanks text) x after → separator_at after ≡ Some r
    → SpellsMember Item text x (separator r.0 ∷ r.1)
member_found Item text after x r item e =
    let front = skipped text in
    let gap = skipped after in record {
      before = front.0;
      item = item.front;
      after = gap.0;
      blanks_before = front.1;
      spells = item.spells;
      blanks_after = gap.1;
      written = front.2
          ∙ ap (λ t. front.0 ++ t)
          (item.written ∙ ap (λ t. item.front ++ t)
          (gap.2 ∙ ap (λ t. gap.0 ++ t) (separator_was (skip_blanks after) r e)));
    }

-- where the item of a member is read, and what follows it
pub member_item : {A : Type 0} (Item : List ℕ → A → Type 0)
    (starts : (bytes : List ℕ) (x : A) → Item bytes x → Starts bytes) (text : List ℕ) (x : A)
    (more : Bool) (rest : List ℕ) → SpellsMember Item text x (separator more ∷ rest)
    → (front tail : List ℕ) × (Item front x) × (Ends tail)
    × (skip_blanks text ≡ front ++ tail) × (separator_at tail ≡ Some (more, rest))
member_item Item starts text x more rest m = (
  m.item,
  m.after ++ separator more ∷ rest,
  m.spells,
  ends_behind m.after (separator more) rest m.blanks_after (separator_ends more),
  ap skip_blanks m.written
      ∙ skip_over m.before (m.item ++ (m.after ++ separator more ∷ rest)) m.blanks_before
      (still m.item (m.after ++ separator more ∷ rest) (starts m.item x m.spells)),
  ap separator_first
      (skip_over m.after (separator more ∷ rest) m.blanks_after (separator_starts more rest))
      ∙ separator_is more rest,
)
  where
    still : (front tail : List ℕ) → Starts front → Starts (front ++ tail)
    still [] tail s = absurd s
    still (b ∷ front) tail s = s
