-- The parts of a test's reading.
use Rattle.std.proofs.Common.{◌≡◌, ℕ, ◌≤◌, ◌<◌, List, ◌++◌, length, Option, Some, None, option_map}
use Rattle.std.proofs.Common.{refl, sym, ap, arith, length-append}
use Rattle.std.specs.Prelude.{ok_or, IfOk}
use Rattle.gm_ecql.specs.declared.halt.Halt.{Halt}
use Rattle.gm_ecql.specs.declared.halt.Halt.TheVariants as halt
use Rattle.gm_ecql.specs.declared.keyword.Keyword.TheVariants as keyword
use Rattle.gm_ecql.specs.Grammar.{test_tokens}
use Rattle.gm_ecql.specs.Halt.{Gives, Halts}
use Rattle.gm_ecql.specs.Reader.{after_keyword, name_at, texts_at, asked_at, lone_test_at, test_at}
use Rattle.gm_ecql.specs.Test.{Question, Trial, named, ids, include, exclude, in_box, related}
use Rattle.gm_ecql.specs.Test.{compared, between, like, one_of, null, during, timed}
use Rattle.gm_ecql.specs.Token.{Seen}
use Rattle.gm_ecql.proofs.TestSound.{test_there}

tokens_some : (t : Trial) → 1 ≤ length (test_tokens t)
tokens_some include = omega arith
tokens_some exclude = omega arith
tokens_some (ids texts) = omega arith
tokens_some (named name (in_box sides system)) = omega arith
tokens_some (named name (related r piece)) = omega arith
tokens_some (named name (compared o w)) = omega arith
tokens_some (named name (between n low high)) = omega arith
tokens_some (named name (like n pattern)) = omega arith
tokens_some (named name (one_of n ws)) = omega arith
tokens_some (named name (null n)) = omega arith
tokens_some (named name (during low high)) = omega arith
tokens_some (named name (timed t at)) = omega arith

pub test_shorter : (ts : List Seen) (r : Trial × List Seen) → test_at ts ≡ Some r
    → length r.1 < length ts
test_shorter ts r h =
    let p = test_there ts r h in
    let l : length ts ≡ length (test_tokens r.0 ++ r.1) = ap length p.written in
    omega (arith, l, tokens_some r.0, length-append (test_tokens r.0) r.1)

module _ (ts : List Seen) where
  pub named_is : (name : List ℕ) (behind : List Seen) (o : Option (Question × List Seen))
      → name_at ts ≡ Some (name, behind) → asked_at behind ≡ o
      → test_at ts ≡ option_map (λ r. (named name r.0, r.1)) o
  unfolding test_at
  named_is name behind o h i = rw h (ap (option_map (λ r. (named name r.0, r.1))) i)

  pub named_halts : (name : List ℕ) (behind : List Seen) (e : Halt)
      → name_at ts ≡ Some (name, behind) → Halts (asked_at behind) e → Halts (test_at ts) e
  named_halts name behind halt.Syntax h i = named_is name behind None h i
  named_halts name behind halt.NoMemory h i = tt

  pub ids_are : (behind : List Seen) (o : Option (List (List ℕ) × List Seen)) → name_at ts ≡ None
      → after_keyword keyword.In ts ≡ Some behind → texts_at behind ≡ o
      → test_at ts ≡ option_map (λ r. (ids r.0, r.1)) o
  unfolding test_at
  ids_are behind o n h i = rw (n, h) (ap (option_map (λ r. (ids r.0, r.1))) i)

  pub ids_halt : (behind : List Seen) (e : Halt) → name_at ts ≡ None
      → after_keyword keyword.In ts ≡ Some behind → Halts (texts_at behind) e → Halts (test_at ts) e
  ids_halt behind halt.Syntax n h i = ids_are behind None n h i
  ids_halt behind halt.NoMemory n h i = tt

  pub lone_is : name_at ts ≡ None → after_keyword keyword.In ts ≡ None
      → test_at ts ≡ lone_test_at ts
  unfolding test_at
  lone_is n h = rw (n, h) refl

pub gives_or : {X Y : Type 0} (view : X → Y) (o : Option X) (wanted : Option Y)
    → option_map view o ≡ wanted → Gives view wanted (ok_or {E = Halt} o halt.Syntax)
gives_or view None wanted h = sym h
gives_or view (Some x) wanted h = sym h

pub shorter_or : {X : Type 0} (view : X → Trial × List Seen) (size : X → ℕ)
    (sized : (x : X) → length (view x).1 ≡ size x) (ts : List Seen) (n : ℕ) → length ts ≡ n
    → (o : Option X) → option_map view o ≡ test_at ts → IfOk (ok_or {E = Halt} o halt.Syntax)
    (λ x. size x < n)
shorter_or view size sized ts n l None h = tt
shorter_or view size sized ts n l (Some x) h =
    omega (arith, test_shorter ts (view x) (sym h), sized x, l)
