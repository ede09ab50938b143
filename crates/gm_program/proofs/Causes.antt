-- What the status of a run says of how it ended.
use Rattle.std.proofs.Common.{◌≡◌, ◌≢◌, ◌≤◌, ◌⊎◌, ℕ, inl, inr, refl, ap, arith}
use Rattle.std.specs.Prelude.{Result, Ok, Err, ⊤, OnOk, IfErr, IsErrOf}
use Rattle.gm_outside.specs.Failed.{Rose}
use Rattle.gm_outside.specs.declared.sink.SinkRefusal.{SinkRefusal}
use Rattle.gm_outside.specs.declared.sink.SinkRefusal.TheVariants as sink
use Rattle.gm_program.specs.Serve.{HasCause}
use Rattle.gm_program.specs.Status.{status_from, stop_from}
use Rattle.gm_program.specs.declared.stop.Stop.{Stop}
use Rattle.gm_program.specs.declared.stop.Stop.TheVariants as stop
use Rattle.gm_program.specs.declared.status.Status.TheVariants as status

pub on_done : {P : Type 0} (r : Result ⊤ Stop) → OnOk r P → status_from r ≡ status.Done → P
on_done (Ok _) p is = p
on_done (Err stop.NoMemory) p is = cc
on_done (Err stop.ReadFault) p is = cc
on_done (Err stop.WriteFault) p is = cc
on_done (Err stop.TooLong) p is = cc

pub on_read : {P : Type 0} (r : Result ⊤ Stop) → (IsErrOf r stop.ReadFault → P)
    → status_from r ≡ status.ReadFault → P
on_read (Ok _) p is = cc
on_read (Err stop.NoMemory) p is = cc
on_read (Err stop.ReadFault) p is = p refl
on_read (Err stop.WriteFault) p is = cc
on_read (Err stop.TooLong) p is = cc

pub on_write : {P : Type 0} (r : Result ⊤ Stop) → (IsErrOf r stop.WriteFault → P)
    → status_from r ≡ status.WriteFault → P
on_write (Ok _) p is = cc
on_write (Err stop.NoMemory) p is = cc
on_write (Err stop.ReadFault) p is = cc
on_write (Err stop.WriteFault) p is = p refl
on_write (Err stop.TooLong) p is = cc

-- both ways to end
pub either_way : {P : Type 0} (r : Result ⊤ Stop) (Q : Type 0) (R : Stop → Type 0) → OnOk r Q
    → IfErr r R → (Q → P) → ((e : Stop) → R e → P) → P
either_way (Ok _) Q R q e ok err = ok q
either_way (Err error) Q R q e ok err = err error e

-- no status but these comes of it
pub other_status : (r : Result ⊤ Stop)
    → (status_from r ≢ status.Usage) × (status_from r ≢ status.FolderFault)
    × (status_from r ≢ status.Damaged)
other_status (Ok _) = ((λ is. cc), (λ is. cc), (λ is. cc))
other_status (Err stop.NoMemory) = ((λ is. cc), (λ is. cc), (λ is. cc))
other_status (Err stop.ReadFault) = ((λ is. cc), (λ is. cc), (λ is. cc))
other_status (Err stop.WriteFault) = ((λ is. cc), (λ is. cc), (λ is. cc))
other_status (Err stop.TooLong) = ((λ is. cc), (λ is. cc), (λ is. cc))

-- too long, or not
pub limit_or_not : {P : Type 0} (r : Result ⊤ Stop) (Q : Type 0) (R : Stop → Type 0)
    → OnOk r Q → IfErr r R
    → (Q → status_from r ≢ status.TooLong → P)
    → ((e : Stop) → R e
    → ((e ≡ stop.TooLong) × (status_from r ≡ status.TooLong))
    ⊎ ((e ≢ stop.TooLong) × (status_from r ≢ status.TooLong)) → P) → P
limit_or_not (Ok _) Q R q e ok err = ok q (λ is. cc)
limit_or_not (Err stop.NoMemory) Q R q e ok err = err stop.NoMemory e (inr ((λ is. cc), (λ is. cc)))
limit_or_not (Err stop.ReadFault) Q R q e ok err =
    err stop.ReadFault e (inr ((λ is. cc), (λ is. cc)))
limit_or_not (Err stop.WriteFault) Q R q e ok err =
    err stop.WriteFault e (inr ((λ is. cc), (λ is. cc)))
limit_or_not (Err stop.TooLong) Q R q e ok err = err stop.TooLong e (inl (refl, refl))

-- nothing failed
pub done_or_no_memory : (r : Result ⊤ Stop) → (IsErrOf r stop.ReadFault → ⊥)
    → (IsErrOf r stop.WriteFault → ⊥) → (IsErrOf r stop.TooLong → ⊥)
    → (status_from r ≡ status.Done) ⊎ (status_from r ≡ status.NoMemory)
done_or_no_memory (Ok _) read write long = inl refl
done_or_no_memory (Err stop.NoMemory) read write long = inr refl
done_or_no_memory (Err stop.ReadFault) read write long = absurd (read refl)
done_or_no_memory (Err stop.WriteFault) read write long = absurd (write refl)
done_or_no_memory (Err stop.TooLong) read write long = absurd (long refl)

-- ---- the causes of a stop
pub no_read : (refusal : SinkRefusal) (e : Stop) → e ≡ stop_from refusal → e ≡ stop.ReadFault → ⊥
no_read sink.Failed e is fault = cc
no_read sink.NoMemory e is fault = cc

pub no_limit : (refusal : SinkRefusal) (e : Stop) → e ≡ stop_from refusal → e ≡ stop.TooLong → ⊥
no_limit sink.Failed e is limit = cc
no_limit sink.NoMemory e is limit = cc

-- where a stop for a write comes of the sink
pub at_sink : (refusal : SinkRefusal) (e : Stop) → e ≡ stop_from refusal → e ≡ stop.WriteFault
    → refusal ≡ sink.Failed
at_sink sink.Failed e is fault = refl
at_sink sink.NoMemory e is fault = cc

err_same : {T : Type 0} (e f : Stop) → ◌≡◌ {A = Result T Stop} (Err e) (Err f) → e ≡ f
err_same e f is = cc

ok_no_error : {T : Type 0} (t : T) (f : Stop) → ◌≡◌ {A = Result T Stop} (Ok t) (Err f) → ⊥
ok_no_error t f is = cc

pub cause_of_ok : {T : Type 0} (t : T) (s0 s1 k0 k1 : ℕ) → s0 ≤ s1 → k0 ≤ k1
    → HasCause {T = T} (Ok t) s0 s1 k0 k1
cause_of_ok {T} t s0 s1 k0 k1 source sink = record {
  later_source = source;
  later_sink = sink;
  read = λ is. absurd (ok_no_error {T = T} t stop.ReadFault is);
  write = λ is. absurd (ok_no_error {T = T} t stop.WriteFault is);
}

-- a stop whose cause is known
pub cause_of_err : {T : Type 0} (e : Stop) (s0 s1 k0 k1 : ℕ) → s0 ≤ s1 → k0 ≤ k1
    → (e ≡ stop.ReadFault → Rose s0 s1) → (e ≡ stop.WriteFault → Rose k0 k1) → HasCause {T = T}
    (Err e) s0 s1 k0 k1
cause_of_err {T} e s0 s1 k0 k1 source sink read write = record {
  later_source = source;
  later_sink = sink;
  read = λ is. read (err_same {T = T} e stop.ReadFault is);
  write = λ is. write (err_same {T = T} e stop.WriteFault is);
}

-- the sink refused
pub cause_of_refusal : {T : Type 0} (r : SinkRefusal) (e : Stop) (s0 s1 k0 k1 k2 : ℕ)
    → e ≡ stop_from r → s0 ≤ s1 → k0 ≤ k1 → k1 ≤ k2 → (r ≡ sink.Failed → Rose k1 k2)
    → HasCause {T = T} (Err e) s0 s1 k0 k2
cause_of_refusal {T} r e s0 s1 k0 k1 k2 is source first later cause =
    cause_of_err {T = T} e s0 s1 k0 k2 source (omega (arith, first, later))
    (λ fault. absurd (no_read r e is fault))
    (λ fault. omega (arith, first, later, cause (at_sink r e is fault)))

-- what stood before does not lessen the cause
pub cause_later : {T U : Type 0} (e : Stop) (s0 s1 s2 k0 k1 k2 : ℕ) → s0 ≤ s1 → k0 ≤ k1
    → HasCause {T = T} (Err e) s1 s2 k1 k2 → HasCause {T = U} (Err e) s0 s2 k0 k2
cause_later {T} {U} e s0 s1 s2 k0 k1 k2 source sink cause = cause_of_err {T = U} e s0 s2 k0 k2
    (omega (arith, source, cause.later_source))
    (omega (arith, sink, cause.later_sink))
    (λ is. omega (arith, source, cause.later_source, cause.read (ap Err is)))
    (λ is. omega (arith, sink, cause.later_sink, cause.write (ap Err is)))
