use Rattle.std.proofs.Common.{take, IsTrue}
use Rattle.sv_lower.specs.Lowering.{each_of, each_of_picks, no_signal}
use Rattle.sv_lower.proofs.constants.+nameless.Given as goal

abbrev pub invariant-are_nameless-all : goal.invariant-are_nameless-all
invariant-are_nameless-all l = IsTrue (each_of no_signal (take l.typed-index l.all))

abbrev pub invariant-are_picks_nameless-picks : goal.invariant-are_picks_nameless-picks
invariant-are_picks_nameless-picks l = IsTrue (each_of_picks no_signal (take l.pick-index l.picks))
