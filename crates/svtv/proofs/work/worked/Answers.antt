use Rattle.std.proofs.Common.{refl, sym, subst}
use Rattle.svtv.specs.Outcomes.{IsWork}
use Rattle.svtv_words.specs.Commands.{command_is}
use Rattle.svtv_words.specs.declared.command.Command.{Command}
use Rattle.svtv.proofs.Counted.{test_counts, test_left}
use Rattle.svtv.proofs.work.worked.Goals as goal

pub returns-in-Selftest-clause-is : goal.returns-in-Selftest-clause-is
returns-in-Selftest-clause-is g c = subst (λ (x : Command). IsWork (g.F.Files.contents c.args.files.now) (command_is x) c.tested.result) (sym c.in-Selftest.is) (c.tested.ensures.is (g.F.Files.contents c.args.files.now))

pub returns-in-Selftest-clause-rose : goal.returns-in-Selftest-clause-rose
returns-in-Selftest-clause-rose g c = test_left _ _ c.tested.result c.tested.ensures.is

pub returns-in-Selftest-clause-counts : goal.returns-in-Selftest-clause-counts
returns-in-Selftest-clause-counts g c = test_counts _ c.tested.result _ _ c.tested.ensures.is refl
