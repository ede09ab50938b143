use Rattle.std.proofs.Common.{[]}
use Rattle.gm_program.proofs.Opening.{holds_nothing}
use Rattle.gm_program.proofs.store.Store.new.Goals as goal

pub returns-clause-kept : goal.returns-clause-kept
returns-clause-kept g c = ([], holds_nothing _ _ c.new.ensures c.requires)
