use Rattle.sat_state.specs.Queue.{IsQueue}
use Rattle.sat_state.proofs.queue.Queue.bump_all.Given as goal

abbrev pub invariant-loop-var : goal.invariant-loop-var
invariant-loop-var l = IsQueue l.values l.self.list.items l.self.stamps.items l.self.clock l.self.next
