use Rattle.gm_feature.specs.Writer.{values_bytes}
use Rattle.gm_feature.proofs.Seen.{first_read, no_first}
use Rattle.gm_feature.proofs.cursor.StoredValues.next.Goals as goal

pub returns-in-None-clause-value : goal.returns-in-None-clause-value
returns-in-None-clause-value c =
    λ first others is. absurd (no_first c.args.self.now first others c.in-None.ensures.cases is)

pub returns-in-None-clause-sound : goal.returns-in-None-clause-sound
returns-in-None-clause-sound c =
    λ first others is. absurd (no_first c.args.self.now first others c.in-None.ensures.cases is)

pub returns-in-None-clause-left : goal.returns-in-None-clause-left
returns-in-None-clause-left c =
    λ first others is. absurd (no_first c.args.self.now first others c.in-None.ensures.cases is)

pub returns-in-Some-clause-value : goal.returns-in-Some-clause-value
returns-in-Some-clause-value c = λ first others is.
    let read = first_read c.args.self.now c.in-Some.attribute.now c.in-Some.others.now first others
    c.in-Some.ensures.cases.0 is in
    c.stored_value.ensures (first, values_bytes others) read.0

pub returns-in-Some-clause-sound : goal.returns-in-Some-clause-sound
returns-in-Some-clause-sound c = λ first others is.
    (first_read c.args.self.now c.in-Some.attribute.now c.in-Some.others.now first others
    c.in-Some.ensures.cases.0 is).1

pub returns-in-Some-clause-left : goal.returns-in-Some-clause-left
returns-in-Some-clause-left c = λ first others is.
    let read = first_read c.args.self.now c.in-Some.attribute.now c.in-Some.others.now first others
    c.in-Some.ensures.cases.0 is in
    record { fit = read.2; same = c.skip_value-self.ensures (first, values_bytes others) read.0 }
