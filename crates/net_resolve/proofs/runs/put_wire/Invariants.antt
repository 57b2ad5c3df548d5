use Rattle.std.proofs.Common.{◌≡◌, ◌++◌}
use Rattle.lhs_alias.specs.Segs.{seg_bits}
use Rattle.net_resolve.proofs.runs.put_wire.Given as goal

abbrev pub invariant-loop-at : goal.invariant-loop-at
invariant-loop-at l = l.bits.items ≡ l.initial.bits.items ++ seg_bits (record { wire = l.wire; lo = 0; width = l.at })
