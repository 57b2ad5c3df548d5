use Rattle.std.proofs.Common.{◌≡◌, map, take}
use Rattle.vcd_print.specs.Dumps.{last_phase, IsDump}
use Rattle.vcd_print.proofs.phases.print_vcd.Given as goal

-- the dump of the wires in the phases so far
abbrev pub invariant-phases : goal.invariant-phases
invariant-phases l = record {
  dump : IsDump l.wires (map (λ p. p.items) (take l.values-index l.phases)) l.dump;
  before : l.before ≡ last_phase (map (λ p. p.items) (take l.values-index l.phases));
}
