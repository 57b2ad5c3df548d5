use Rattle.std.proofs.Common.{take}
use Rattle.event_sim.specs.Passes.{IsToldOf}
use Rattle.event_sim.proofs.pass.tell_all.Given as goal

abbrev pub invariant-loop-gift : goal.invariant-loop-gift
invariant-loop-gift l = IsToldOf l.gifts l.values l.stim (take l.gift-index l.gifts) l.told
