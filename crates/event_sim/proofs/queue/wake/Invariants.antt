use Rattle.std.proofs.Common.{◌≡◌, take}
use Rattle.event_sim.specs.Queues.{IsWoken}
use Rattle.event_sim.proofs.queue.wake.Given as goal

abbrev pub invariant-loop-low : goal.invariant-loop-low
invariant-loop-low l = record {
  woken : IsWoken (take l.low-index l.lows) l.initial.waiting.items l.waiting.items;
  room : l.waiting.room ≡ l.initial.waiting.room;
}
