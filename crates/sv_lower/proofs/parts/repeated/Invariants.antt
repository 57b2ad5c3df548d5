use Rattle.std.proofs.Common.{◌*◌}
use Rattle.svex_shape.specs.Shapes.{width_at}
use Rattle.svex_arena.specs.Arenas.{Extends}
use Rattle.sv_meaning.specs.Meanings.{copies}
use Rattle.sv_lower.specs.Nodes.{FromOne}
use Rattle.sv_lower.proofs.parts.repeated.Given as goal

abbrev pub invariant-loop-more : goal.invariant-loop-more
invariant-loop-more l = record {
  stays : Extends l.fn.arena l.arena;
  made : FromOne l.fn.arena l.arena (copies l._more) l.a (l._more * width_at l.fn.arena l.a) l.node;
}
