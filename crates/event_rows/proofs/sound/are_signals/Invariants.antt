use Rattle.std.proofs.Common.{take}
use Rattle.std.specs.Prelude.{All}
use Rattle.flat_net.specs.Flats.{IsSignal}
use Rattle.event_rows.proofs.sound.are_signals.Given as goal

abbrev pub invariant-loop-wire : goal.invariant-loop-wire
invariant-loop-wire l = All IsSignal (take l.wire-index l.wires)
