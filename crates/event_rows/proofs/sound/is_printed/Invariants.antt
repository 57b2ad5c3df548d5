use Rattle.std.proofs.Common.{take}
use Rattle.event_rows.specs.Sound.{IsPrinted}
use Rattle.event_rows.proofs.sound.is_printed.Given as goal

abbrev pub invariant-loop-byte : goal.invariant-loop-byte
invariant-loop-byte l = IsPrinted (take l.byte-index l.path)
