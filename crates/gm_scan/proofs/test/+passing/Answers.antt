use Rattle.std.proofs.Common.{rules}
use Rattle.gm_scan.specs.declared.test.Test.TheViews.{the_lemmas}
use Rattle.gm_scan.proofs.Testing.{next_suits}
use Rattle.gm_scan.proofs.test.+passing.Goals as goal

pub pass_all-passes-requires : goal.pass_all-passes-requires
pass_all-passes-requires t c = (
  search (rules, the_lemmas),
  (
    next_suits c.args.stored.now.of.now c.args.tests.now c.members.test-index c.test-item.result
        c.members-test.true c.test-item.is c.members.invariant.suits,
    c.requires.stored,
  ),
)

pub pass_any-passes-requires : goal.pass_any-passes-requires
pass_any-passes-requires t c = (
  search (rules, the_lemmas),
  (
    next_suits c.args.stored.now.of.now c.args.tests.now c.members.test-index c.test-item.result
        c.members-test.true c.test-item.is c.members.invariant.suits,
    c.requires.stored,
  ),
)
