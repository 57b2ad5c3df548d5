use Rattle.std.proofs.Common.{◌≡◌, drop, false}
use Rattle.sv_names.specs.Kinds.{layout_is}
use Rattle.sv_hierarchy.specs.Scopes as m
use Rattle.sv_walk.specs.Walks.{state_of}
use Rattle.sv_walk.proofs.walker.Walker.add_wires.Given as goal

abbrev pub invariant-words : goal.invariant-words
invariant-words l = m.walk_all (m.add_wire false (layout_is l.layout)) l.words (state_of l.fn.self l.fn.current) ≡ m.walk_all (m.add_wire false (layout_is l.layout)) (drop l.word-index l.words) (state_of l.self l.current)
