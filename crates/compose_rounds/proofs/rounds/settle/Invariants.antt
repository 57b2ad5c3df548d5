use Rattle.std.proofs.Common.{◌≡◌, ℕ, slice_index}
use Rattle.svex_arena.specs.Arenas.{Extends}
use Rattle.compose_rounds.specs.Rounds.{EachMember}
use Rattle.compose_rounds.specs.Turns.{IsReady, OnlyNodes}
use Rattle.compose_rounds.proofs.Turning.{Risen}
use Rattle.compose_rounds.proofs.rounds.settle.Given as goal

abbrev pub invariant-rounds : goal.invariant-rounds
invariant-rounds l = record {
  ready : IsReady l.joins l.arena l.scene l.replacer;
  others : (i : ℕ) → EachMember (λ j. i ≡ j → ⊥) l.members → slice_index l.scene.nodes.items i ≡ slice_index l.fn.scene.nodes.items i;
  only : OnlyNodes l.fn.scene l.scene;
  extends : Extends l.fn.arena l.arena;
  risen : Risen l.joins l.arena l.fn.scene.segments.eqs l.fn.scene.values.items l.members l.scene.nodes.items l._round l.bits;
}
