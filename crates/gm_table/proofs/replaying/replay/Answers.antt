use Rattle.std.proofs.Common.{◌≡◌, ◌∙◌, ◌++◌, ◌∷◌, ◌+◌, ◌<◌, List, ℕ, [], Option, refl, sym, ap}
use Rattle.std.proofs.Common.{take, length, get_or}
use Rattle.std.proofs.lemmas.List.{take_more}
use Rattle.gm_table.specs.declared.batch.Batch.{Batch}
use Rattle.gm_table.specs.Batch.{applied_at}
use Rattle.gm_table.specs.Replaying.{replayed_at}
use Rattle.gm_table.proofs.replaying.replay.Goals as goal

-- one batch more
more : (key : List ℕ) (batches : List Batch) (batch : Batch) (before : Option (List ℕ))
    → replayed_at key (batches ++ batch ∷ []) before
    ≡ applied_at key batch.removes batch.puts (replayed_at key batches before)
more key [] batch before = refl
more key (first ∷ batches) batch before =
    more key batches batch (applied_at key first.removes first.puts before)

next : (key : List ℕ) (batches : List Batch) (i : ℕ) (batch : Batch) (before : Option (List ℕ))
    → i < length batches → batch ≡ get_or batches i batch
    → replayed_at key (take (i + 1) batches) before
    ≡ applied_at key batch.removes batch.puts (replayed_at key (take i batches) before)
next key batches i batch before inside is =
    ap (λ some. replayed_at key some before)
    (take_more batches i batch inside
    ∙ ap (λ (one : Batch). take i batches ++ one ∷ []) (sym is))
    ∙ more key (take i batches) batch before

pub loop-batch-preserved : goal.loop-batch-preserved
loop-batch-preserved g c = λ key.
    c.in_ok-apply.ensures.ok key
    ∙ ap (applied_at key c.batch-item.result.removes c.batch-item.result.puts)
    (c.loop-batch.invariant key)
    ∙ sym (next key c.as_slice-batch-items.result.now c.loop-batch.batch-index c.batch-item.result _
    c.loop-batch-test.true c.batch-item.is)
