use Rattle.std.proofs.Common.{◌≡◌, ◌∙◌, ◌++◌, ◌∷◌, [], ◌+◌, take, ap, sym}
use Rattle.std.proofs.lemmas.List.{take_more}
use Rattle.gm_table.proofs.Undoing.{removed-push}
use Rattle.gm_table.proofs.blocks.batches.remove_keys.Goals as goal

pub loop-key-preserved : goal.loop-key-preserved
loop-key-preserved c =
    let more : take (c.loop-key.key-index + 1) c.args.keys.now
    ≡ take c.loop-key.key-index c.args.keys.now ++ c.key-item.result ∷ [] =
    take_more _ _ c.key-item.result c.loop-key-test.true
    ∙ ap (λ item. take c.loop-key.key-index c.args.keys.now ++ item ∷ []) (sym c.key-item.is) in
    λ key. rw (
      more,
      removed-push key (take c.loop-key.key-index c.args.keys.now) c.key-item.result,
      ← c.loop-key.invariant key,
    ) (c.remove.ensures key)
