use Rattle.gm_scan.proofs.trial.Trial.passes.Goals as goal

pub passes-requires-clause-stored : goal.passes-requires-clause-stored
passes-requires-clause-stored c =
    (c.requires.0, record { fits = c.requires.1.fits; same = c.requires.1.same })

pub returns : goal.returns
returns c = λ f are. c.passes.ensures f (record { fits = are.fits; same = are.same })
