use Rattle.std.proofs.Common.{◌≡◌, List, length, map}
use Rattle.aig_words.specs.Words.{Grew}
use Rattle.svex_blast.specs.Sizes.{gates_to}
use Rattle.svex_blast.specs.Reads.{AreVectors}
use Rattle.pair_words.specs.declared.pairs.Pair.{Pair}
use Rattle.svex_blast.specs.Knowns.{AreShared}
use Rattle.svex_blast.proofs.walk.all_vectors.Given as goal

abbrev pub invariant-loop-node : goal.invariant-loop-node
invariant-loop-node l = record {
  grew : Grew (gates_to l.arena l.marks l.node) l.fn.aig l.aig;
  long : length l.done.items ≡ l.node;
  vectors : AreVectors l.arena l.marks l.vars l.aig l.done.items;
  shared : AreShared (map (λ (w : List Pair). length w) l.vars) l.arena l.marks l.done.items;
}
