use Rattle.std.proofs.Common.{List}
use Rattle.svex_shape.specs.declared.shape.Shape.{Shape}
use Rattle.svex_arena.specs.Arenas.{IsArena, Extends}
use Rattle.net_equations.specs.Equations.{IsResolved}
use Rattle.svex_compose.specs.Composed.{IsComposed, WasComposed}
use Rattle.svex_compose.proofs.Wiring.{Wired}
use Rattle.svex_compose.proofs.wires.wire_nodes.Given as goal

abbrev pub invariant-wires : goal.invariant-wires
invariant-wires l = record {
  extends : Extends l.fn.arena l.arena;
  arena : IsArena l.arena;
  was : WasComposed l.joins l.arena l.set l.composed.nodes;
  wired : (before : List Shape) → IsResolved l.joins before l.set → IsComposed l.joins before l.fn.arena l.set.eqs l.composed.nodes → Wired l.joins before l.arena l.set.eqs l.nodes.items l.wire;
}
