-- What readers answer, from what the readers of parts answer.
use Rattle.std.proofs.Common.{◌≡◌, ℕ, Bool, true, false, ◌&&◌, ◌||◌, List, map, [], ◌∷◌, ◌++◌}
use Rattle.std.proofs.Common.{Option, Some, None, Ok, Err, refl, sym, ◌∙◌, ap, append_assoc}
use Rattle.std.specs.List.{list_all, list_any}
use Rattle.std.proofs.Math.Bool.{and-true, or-false}
use Rattle.std.proofs.lemmas.Bool.{and_right}
use Rattle.gm_types.specs.declared.halt.Halt.{Halt}
use Rattle.gm_types.specs.declared.halt.Halt.TheVariants as halt
use Rattle.gm_types.specs.declared.kind.Kind.{Kind}
use Rattle.gm_types.specs.Attribute.{may_have}
use Rattle.gm_types.specs.Halt.{Reads, Adds}
use Rattle.gm_types.specs.Parts.{parts_of, cut_once}
use Rattle.gm_types.specs.Reader.{value_if, read_before, read_all, option_pair, option_if}
use Rattle.gm_types.specs.Reader.{option_with}
use Rattle.gm_types.specs.Words.{is_key, is_bare}
use Rattle.gm_types.proofs.Cuts.{parts_none, parts_some}

-- a reader that stops where a reader of a part stopped
pub stopped : {A B : Type 0} (wanted : Option A) (part : Option B) (h : Halt) → Reads part (Err h)
    → (part ≡ None → wanted ≡ None) → Reads wanted (Err h)
stopped wanted part halt.Broken r f = f r
stopped wanted part halt.NoMemory r f = tt

-- the same where the part was to be added
pub stopped_adding : {A B : Type 0} (wanted : Option A) (part : Option B) (before after : List B)
    (h : Halt) → Adds part before after (Err h)
    → (part ≡ None → wanted ≡ None) → Reads wanted (Err h)
stopped_adding wanted part before after halt.Broken r f = f r
stopped_adding wanted part before after halt.NoMemory r f = tt

pub value_refused : (formed : Bool) (value : List ℕ) → value_if formed value ≡ None → formed ≡ false
value_refused true value e = absurd (cc)
value_refused false value e = refl

pub value_taken : (formed : Bool) (value text : List ℕ) → value_if formed value ≡ Some text
    → (formed ≡ true) × (value ≡ text)
value_taken true value text e = let same : value ≡ text = cc in (refl, same)
value_taken false value text e = absurd (cc)

pub option_refused : (kind : Kind) (key value : List ℕ) → may_have kind key value ≡ false
    → option_with kind key value ≡ None
option_refused kind key value e =
    ap (λ b. option_if (b && (is_key key && is_bare value)) key value) e

pub option_at : (kind : Kind) (key value : List ℕ) (k v : Bool) → may_have kind key value ≡ true
    → is_key key ≡ k → is_bare value ≡ v
    → option_with kind key value ≡ option_if (k && v) key value
option_at kind key value k v may ek ev =
    ap (λ b. option_if (b && (is_key key && is_bare value)) key value) may
    ∙ ap (λ b. option_if (b && is_bare value) key value) ek
    ∙ ap (λ b. option_if (k && b) key value) ev

pub option_without_key : (kind : Kind) (key value : List ℕ) → may_have kind key value ≡ true
    → value_if (is_key key) key ≡ None
    → option_with kind key value ≡ None
option_without_key kind key value may e =
    option_at kind key value false (is_bare value) may (value_refused (is_key key) key e) refl

pub option_without_value : (kind : Kind) (key value : List ℕ) → may_have kind key value ≡ true
    → value_if (is_bare value) value ≡ None
    → option_with kind key value ≡ None
option_without_value kind key value may e =
    option_at kind key value (is_key key) false may refl (value_refused (is_bare value) value e)
    ∙ ap (λ b. option_if b key value) (and_right (is_key key) false refl)

pub option_taken : (kind : Kind) (key value k v : List ℕ) → may_have kind key value ≡ true
    → value_if (is_key key) key ≡ Some k
    → value_if (is_bare value) value ≡ Some v → option_with kind key value ≡ Some (option_pair k v)
option_taken kind key value k v may ek ev =
    let keyed = value_taken (is_key key) key k ek in
    let valued = value_taken (is_bare value) value v ev in
    option_at kind key value true true may keyed.0 valued.0
    ∙ ap (λ t. Some (option_pair t value)) keyed.1 ∙ ap (λ t. Some (option_pair k t)) valued.1

-- what is read of all parts, behind those that are read already
abbrev pub appended : {A : Type 0} → List A → Option (List A) → Option (List A)
appended done None = None
appended done (Some xs) = Some (done ++ xs)

appended_next : {A : Type 0} (done : List A) (x : A) (rest : Option (List A))
    → appended done (read_before (Some x) rest) ≡ appended (done ++ x ∷ []) rest
appended_next done x None = refl
appended_next done x (Some xs) = ap Some (sym (append_assoc done (x ∷ []) xs))

-- the last part is read
pub last_read : {A : Type 0} (read : List ℕ → Option A) (mark : ℕ) (wanted : Option (List A))
    (before after : List A) (rest : List ℕ)
    → wanted ≡ appended before (read_all read (parts_of mark rest)) → cut_once mark rest ≡ None
    → Adds (read rest) before after (Ok tt) → wanted ≡ Some after
last_read read mark wanted before after rest so_far cut adds =
    so_far ∙ ap (λ parts. appended before (read_all read parts)) (parts_none mark rest cut)
    ∙ ap (λ o. appended before (read_before o (Some []))) adds.1 ∙ ap Some (sym adds.2)

pub last_refused : {A : Type 0} (read : List ℕ → Option A) (mark : ℕ) (wanted : Option (List A))
    (before : List A) (rest : List ℕ)
    → wanted ≡ appended before (read_all read (parts_of mark rest)) → cut_once mark rest ≡ None
    → read rest ≡ None → wanted ≡ None
last_refused read mark wanted before rest so_far cut e =
    so_far ∙ ap (λ parts. appended before (read_all read parts)) (parts_none mark rest cut)
    ∙ ap (λ o. appended before (read_before o (Some []))) e

-- a further part is read
pub next_read : {A : Type 0} (read : List ℕ → Option A) (mark : ℕ) (wanted : Option (List A))
    (before after : List A) (rest part behind : List ℕ)
    → wanted ≡ appended before (read_all read (parts_of mark rest))
    → cut_once mark rest ≡ Some (part, behind)
    → Adds (read part) before after (Ok tt)
    → wanted ≡ appended after (read_all read (parts_of mark behind))
next_read read mark wanted before after rest part behind so_far cut adds =
    so_far ∙ ap (λ parts. appended before (read_all read parts))
    (parts_some mark rest part behind cut)
    ∙ ap (λ o. appended before (read_before o (read_all read (parts_of mark behind)))) adds.1
    ∙ appended_next before adds.0 (read_all read (parts_of mark behind))
    ∙ ap (λ done. appended done (read_all read (parts_of mark behind))) (sym adds.2)

pub next_refused : {A : Type 0} (read : List ℕ → Option A) (mark : ℕ) (wanted : Option (List A))
    (before : List A) (rest part behind : List ℕ)
    → wanted ≡ appended before (read_all read (parts_of mark rest))
    → cut_once mark rest ≡ Some (part, behind) → read part ≡ None → wanted ≡ None
next_refused read mark wanted before rest part behind so_far cut e =
    so_far ∙ ap (λ parts. appended before (read_all read parts))
    (parts_some mark rest part behind cut)
    ∙ ap (λ o. appended before (read_before o (read_all read (parts_of mark behind)))) e

-- the same where each part gives something
pub last_mapped : {A : Type 0} (f : List ℕ → A) (mark : ℕ) (wanted before after : List A) (x : A)
    (rest : List ℕ)
    → wanted ≡ before ++ map f (parts_of mark rest) → cut_once mark rest ≡ None → x ≡ f rest
    → after ≡ before ++ x ∷ [] → after ≡ wanted
last_mapped f mark wanted before after x rest so_far cut is added =
    added ∙ ap (λ y. before ++ y ∷ []) is
    ∙ ap (λ parts. before ++ map f parts) (sym (parts_none mark rest cut)) ∙ sym so_far

pub next_mapped : {A : Type 0} (f : List ℕ → A) (mark : ℕ) (wanted before after : List A) (x : A)
    (rest part behind : List ℕ)
    → wanted ≡ before ++ map f (parts_of mark rest) → cut_once mark rest ≡ Some (part, behind)
    → x ≡ f part → after ≡ before ++ x ∷ []
    → wanted ≡ after ++ map f (parts_of mark behind)
next_mapped f mark wanted before after x rest part behind so_far cut is added =
    so_far ∙ ap (λ parts. before ++ map f parts) (parts_some mark rest part behind cut)
    ∙ sym (append_assoc before (f part ∷ []) (map f (parts_of mark behind)))
    ∙ ap (λ y. (before ++ y ∷ []) ++ map f (parts_of mark behind)) (sym is)
    ∙ ap (λ l. l ++ map f (parts_of mark behind)) (sym added)

-- a test of all parts, and of some part
pub all_last : (test : List ℕ → Bool) (mark : ℕ) (wanted b : Bool) (rest : List ℕ)
    → wanted ≡ list_all test (parts_of mark rest)
    → cut_once mark rest ≡ None → b ≡ test rest → b ≡ wanted
all_last test mark wanted b rest so_far cut is =
    is ∙ sym (and-true (test rest))
    ∙ ap (list_all test) (sym (parts_none mark rest cut)) ∙ sym so_far

pub all_next : (test : List ℕ → Bool) (mark : ℕ) (wanted b : Bool) (rest part behind : List ℕ)
    → wanted ≡ list_all test (parts_of mark rest)
    → cut_once mark rest ≡ Some (part, behind) → b ≡ test part
    → wanted ≡ (b && list_all test (parts_of mark behind))
all_next test mark wanted b rest part behind so_far cut is =
    so_far ∙ ap (list_all test) (parts_some mark rest part behind cut)
    ∙ ap (λ t. t && list_all test (parts_of mark behind)) (sym is)

pub any_last : (test : List ℕ → Bool) (mark : ℕ) (wanted b : Bool) (rest : List ℕ)
    → wanted ≡ list_any test (parts_of mark rest)
    → cut_once mark rest ≡ None → b ≡ test rest → b ≡ wanted
any_last test mark wanted b rest so_far cut is =
    is ∙ sym (or-false (test rest))
    ∙ ap (list_any test) (sym (parts_none mark rest cut)) ∙ sym so_far

pub any_next : (test : List ℕ → Bool) (mark : ℕ) (wanted b : Bool) (rest part behind : List ℕ)
    → wanted ≡ list_any test (parts_of mark rest)
    → cut_once mark rest ≡ Some (part, behind) → b ≡ test part
    → wanted ≡ (b || list_any test (parts_of mark behind))
any_next test mark wanted b rest part behind so_far cut is =
    so_far ∙ ap (list_any test) (parts_some mark rest part behind cut)
    ∙ ap (λ t. t || list_any test (parts_of mark behind)) (sym is)
