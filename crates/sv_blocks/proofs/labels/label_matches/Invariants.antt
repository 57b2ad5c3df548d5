use Rattle.std.proofs.Common.{◌≤◌, ◌++◌, length, drop}
use Rattle.svex_arena.specs.Arenas.{Extends}
use Rattle.sv_typed.specs.Typed.{names_of, names_together}
use Rattle.sv_actions.specs.Doing.{label_matches}
use Rattle.sv_stores.specs.Scenes.{Yields}
use Rattle.sv_blocks.proofs.labels.label_matches.Given as goal

abbrev pub invariant-labels : goal.invariant-labels
invariant-labels l = record {
  stays : Extends l.fn.arena l.arena;
  within : l.at ≤ length l.labels;
  made : Yields l.scene l.fn.arena l.arena l.state.nodes (λ read. label_matches l.case read (drop l.at l.labels)) (names_of l.case.value ++ names_together (drop l.at l.labels)) 1 l.node;
}

abbrev pub decreases-labels : goal.decreases-labels
decreases-labels l = l.at
