use Rattle.gm_filter.proofs.stored.holds_stored.Goals as goal

pub is_passed-requires-clause-stored : goal.is_passed-requires-clause-stored
is_passed-requires-clause-stored c =
    record { feature = c.requires.stored.0; same = c.requires.stored.1 }
