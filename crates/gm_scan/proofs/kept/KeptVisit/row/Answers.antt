use Rattle.std.proofs.Common.{refl}
use Rattle.gm_scan.specs.Trial.{filter_of}
use Rattle.gm_scan.proofs.Visits.{kept_not, kept_one, on_ok}
use Rattle.gm_scan.proofs.kept.KeptVisit.row.Goals as goal

pub returns-then-not-branch : goal.returns-then-not-branch
returns-then-not-branch c =
    let it = c.args.self.now in
    record {
      same = refl;
      way = refl;
      keeps = λ f are. kept_not it.keeping (filter_of it.trial.now) f it.rows _
          (c.in_ok-passes.ensures f are) c.if-not-branch.true;
    }

pub returns : goal.returns
returns c =
    let it = c.args.self.now in
    record {
      same = refl;
      way = refl;
      keeps = λ f are. on_ok c.push.result
          (kept_one it.keeping (filter_of it.trial.now) f it.rows _ _ _ _
          (c.in_ok-passes.ensures f are) c.if-not-branch.false
          (c.id-id.ensures f are) (c.kept_bytes.ensures f are.same)) c.push.ensures.ok;
    }
