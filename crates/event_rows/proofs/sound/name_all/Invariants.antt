use Rattle.std.proofs.Common.{◌≡◌, length}
use Rattle.event_rows.specs.Sound.{AreNamed}
use Rattle.event_rows.proofs.sound.name_all.Given as goal

abbrev pub invariant-nodes : goal.invariant-nodes
invariant-nodes l = record {
  room : length l.done ≡ length l.arena;
  so_far : AreNamed l.widths l.arena l.done l.node;
}
