use Rattle.std.proofs.Common.{◌≡◌, ℕ, ◌<◌, ◌*◌, Bool, take, if◌then◌else◌}
use Rattle.aig.specs.Graph.{holds, Obeys, IsGraph}
use Rattle.aig_words.specs.Words.{number, Grew, IsWord}
use Rattle.aig_words.proofs.picks.mux.Given as goal

abbrev pub invariant-loop-i : goal.invariant-loop-i
invariant-loop-i l = record {
  grew : Grew (3 * l.i) l.fn.aig l.aig;
  word : IsWord l.aig l.i l.word.items;
  graph : 0 < l.i → IsGraph l.aig;
  value : (v : ℕ → Bool) → Obeys v l.aig → number v l.word.items ≡ (if holds v l.c then number v (take l.i l.a) else number v (take l.i l.b));
}
