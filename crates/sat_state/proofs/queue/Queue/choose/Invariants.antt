use Rattle.sat_state.specs.Queue.{IsQueue, rank_of}
use Rattle.sat_state.proofs.queue.Queue.choose.Given as goal

abbrev pub invariant-loop-self : goal.invariant-loop-self
invariant-loop-self l = IsQueue l.values l.self.list.items l.self.stamps.items l.self.clock l.self.next

abbrev pub decreases-loop-self : goal.decreases-loop-self
decreases-loop-self l = rank_of l.self.stamps.items l.self.next
