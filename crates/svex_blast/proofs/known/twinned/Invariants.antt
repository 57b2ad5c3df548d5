use Rattle.std.proofs.Common.{◌≡◌, map, take}
use Rattle.svex_blast.specs.Knowns.{twin_of}
use Rattle.svex_blast.proofs.known.twinned.Given as goal

abbrev pub invariant-loop-i : goal.invariant-loop-i
invariant-loop-i l = l.twins.items ≡ map twin_of (take l.i l.word)
