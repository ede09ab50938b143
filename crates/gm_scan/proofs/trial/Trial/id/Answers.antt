use Rattle.gm_scan.proofs.trial.Trial.id.Goals as goal

pub returns : goal.returns
returns c = λ f are. c.id.ensures f (record { fits = are.fits; same = are.same })
