use Rattle.std.proofs.Common.{◌≡◌, ℕ, ◌<◌, ◌+◌, ◌*◌, ◌^◌, Bool, take}
use Rattle.aig.specs.Graph.{holds, Obeys, IsIn, IsGraph}
use Rattle.aig_words.specs.Words.{weight, number, Grew, IsWord}
use Rattle.aig_words.proofs.sums.sum_of.Given as goal

abbrev pub invariant-loop-i : goal.invariant-loop-i
invariant-loop-i l = record {
  grew : Grew (7 * l.i) l.fn.aig l.aig;
  word : IsWord l.aig l.i l.word.items;
  carry_out : IsIn l.aig l.last;
  graph : 0 < l.i → IsGraph l.aig;
  value : (v : ℕ → Bool) → Obeys v l.aig → number v l.word.items + 2 ^ l.i * weight (holds v l.last) ≡ number v (take l.i l.a) + number v (take l.i l.b) + weight (holds v l.fn.carry);
}
