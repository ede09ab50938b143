-- What the words of a run ask for, and what is said of it.
use Rattle.std.proofs.Common.{◌≡◌, ◌≢◌, ◌⊎◌, ℕ, List, Option, Some, None, inl, inr, refl, sym, ap}
use Rattle.std.proofs.Common.{◌∙◌, subst}
use Rattle.std.proofs.lemmas.Option.{none-some}
use Rattle.std.specs.Prelude.{Result, Ok, Err, ⊤, OnOk, OnErr, IsErrOf, option_map, IsSome}
use Rattle.gm_base.proofs.Options.{same_some}
use Rattle.gm_engine_rows.specs.State.{State}
use Rattle.gm_outside.specs.declared.sink.SinkRefusal.{SinkRefusal}
use Rattle.gm_outside.specs.declared.sink.SinkRefusal.TheVariants as sink
use Rattle.gm_table.specs.Sorted.{Rows}
use Rattle.gm_program.specs.declared.options.Made.{Made}
use Rattle.gm_program.specs.declared.options.Options.{Options}
use Rattle.gm_program.specs.declared.options.WordsFault.{WordsFault}
use Rattle.gm_program.specs.declared.options.WordsFault.TheVariants.{Usage}
use Rattle.gm_program.specs.declared.setting.Setting.{Setting}
use Rattle.gm_program.specs.declared.status.Status.{Status}
use Rattle.gm_program.specs.declared.status.Status.TheVariants as status
use Rattle.gm_program.specs.Script.{Loads, NeedNoSource, made_output}
use Rattle.gm_program.specs.Serve.{WritesPart}
use Rattle.gm_program.specs.Status.{made_status}
use Rattle.gm_program.specs.Store.{Types}
use Rattle.gm_program.specs.Words.{Reads}
use Rattle.gm_program.proofs.Streaming.{part_whole}

-- ---- the options of the words
-- the options that are read are those of the words
pub asked : (o : Option Options) (known options : Options) (generate : Option Made) → o ≡ Some known
    → known.generate ≡ generate → o ≡ Some options → options.generate ≡ generate
asked o known options generate read is at =
    ap (λ x. x.generate) (sym (same_some known options (sym read ∙ at))) ∙ is

pub none_asked : {P : Type 0} (o : Option Options) (options : Options) → o ≡ None
    → o ≡ Some options → P
none_asked o options none some = absurd (none-some options (sym none ∙ some))

-- Usage comes only where there are none
pub usage_asked : (o : Option Options) (fault : WordsFault) → fault ≡ Usage
    → Reads o (Err fault) → o ≡ None
usage_asked o fault is reads = subst (λ f. Reads o (Err f)) is reads

pub source_asked : {P : Type 0} (o : Option Options) (known : Options) → o ≡ Some known
    → known.generate ≡ None → NeedNoSource o → P
source_asked o known read is need =
    absurd (none_needed (known.generate) is (subst NeedNoSource read need))
  where
    none_needed : (generate : Option Made) → generate ≡ None → IsSome generate → ⊥
    none_needed None is some = cc
    none_needed (Some made) is some = cc

pub from_mapped : (f : List ℕ → List ℕ) (o : Option (List ℕ)) (y : List ℕ) → option_map f o ≡ Some y
    → (x : List ℕ) × (o ≡ Some x) × (f x ≡ y)
from_mapped f None y is = cc
from_mapped f (Some x) y is = (x, refl, cc)

-- ---- how a made script ended
pub on_made_done : {P : Type 0} (r : Result ⊤ SinkRefusal) → OnOk r P
    → made_status r ≡ status.Done → P
on_made_done (Ok _) p is = p
on_made_done (Err sink.Failed) p is = cc
on_made_done (Err sink.NoMemory) p is = cc

pub on_made_write : {P : Type 0} (r : Result ⊤ SinkRefusal) → (IsErrOf r sink.Failed → P)
    → made_status r ≡ status.WriteFault → P
on_made_write (Ok _) p is = cc
on_made_write (Err sink.Failed) p is = p refl
on_made_write (Err sink.NoMemory) p is = cc

pub either_made : {P Q R : Type 0} (r : Result ⊤ SinkRefusal) → OnOk r Q → OnErr r R → (Q → P)
    → (R → P) → P
either_made (Ok _) q e ok err = ok q
either_made (Err _) q e ok err = err e

-- no status but Done, NoMemory and WriteFault comes of it
pub record IsOfSink (s : Status) : Type 0 where
  pub usage : s ≢ status.Usage
  pub read : s ≢ status.ReadFault
  pub folder : s ≢ status.FolderFault
  pub damaged : s ≢ status.Damaged
  pub limit : s ≢ status.TooLong

pub made_ends : (r : Result ⊤ SinkRefusal) → IsOfSink (made_status r)
made_ends (Ok _) =
    record {
      usage = λ is. cc;
      read = λ is. cc;
      folder = λ is. cc;
      damaged = λ is. cc;
      limit = λ is. cc;
    }
made_ends (Err sink.Failed) =
    record {
      usage = λ is. cc;
      read = λ is. cc;
      folder = λ is. cc;
      damaged = λ is. cc;
      limit = λ is. cc;
    }
made_ends (Err sink.NoMemory) =
    record {
      usage = λ is. cc;
      read = λ is. cc;
      folder = λ is. cc;
      damaged = λ is. cc;
      limit = λ is. cc;
    }

pub made_done_or_no_memory : (r : Result ⊤ SinkRefusal) → (IsErrOf r sink.Failed → ⊥)
    → (made_status r ≡ status.Done) ⊎ (made_status r ≡ status.NoMemory)
made_done_or_no_memory (Ok _) fault = inl refl
made_done_or_no_memory (Err sink.Failed) fault = absurd (fault refl)
made_done_or_no_memory (Err sink.NoMemory) fault = inr refl

-- all of its output is a part of it
pub part_of_loaded : (p : Setting) (s : State) (made : Made) (types : Types) (rows : Rows)
    (t0 t1 : ℕ) (w0 w1 : Option (List ℕ)) (flushed : ℕ)
    → Loads p s made types rows t0 t1 w0 w1 flushed → WritesPart (made_output p s made) w0 w1
part_of_loaded p s made types rows t0 t1 w0 w1 flushed loads =
    part_whole (made_output p s made) w0 w1 (λ before is. (loads.replies before is).0)
