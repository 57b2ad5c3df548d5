use Rattle.std.proofs.Common.{◌≡◌, drop}
use Rattle.svex_arena.specs.Arenas.{Extends}
use Rattle.sv_targets.specs.Targets.{width_of_all}
use Rattle.sv_stores.specs.Scenes.{IsState}
use Rattle.sv_blocks.specs.Overlays.{over}
use Rattle.sv_blocks.proofs.Assigning.{WroteSome}
use Rattle.sv_blocks.proofs.assigns.write_targets.Given as goal

abbrev pub invariant-targets : goal.invariant-targets
invariant-targets l = record {
  stays : Extends l.fn.arena l.arena;
  state : IsState l.scene l.arena l.state;
  kept : over l.kept l.state.nodes ≡ over l.fn.kept l.fn.state.nodes;
  left : l.left ≡ width_of_all (drop l.target-index l.targets);
  made : WroteSome l.scene l.fn.arena l.arena l.fn.state.nodes l.state.nodes l.targets l.target-index l.left l.whole;
}
