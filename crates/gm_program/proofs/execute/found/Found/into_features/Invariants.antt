use Rattle.std.proofs.Common.{◌≡◌, ◌++◌, map}
use Rattle.gm_program.specs.Collecting.{feature_of}
use Rattle.gm_program.proofs.execute.found.Found.into_features.Given as goal

abbrev pub invariant-loop-id : goal.invariant-loop-id
invariant-loop-id l =
    l.features ++ map feature_of l.id-iterator ≡ map feature_of l.fn.self.values.entries
