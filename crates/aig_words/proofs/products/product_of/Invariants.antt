use Rattle.std.proofs.Common.{◌≡◌, ℕ, ◌<◌, ◌*◌, ◌^◌, ◌%◌, Bool, take, length}
use Rattle.aig.specs.Graph.{Obeys, IsGraph}
use Rattle.aig_words.specs.Words.{number, Grew, IsWord}
use Rattle.aig_words.proofs.products.product_of.Given as goal

abbrev pub invariant-loop-i : goal.invariant-loop-i
invariant-loop-i l = record {
  grew : Grew (10 * length l.a * l.i) l.fn.aig l.aig;
  word : IsWord l.aig (length l.a) l.total.items;
  graph : 0 < l.i → IsGraph l.aig;
  value : (v : ℕ → Bool) → Obeys v l.aig → number v l.total.items ≡ (number v l.a * number v (take l.i l.b)) % 2 ^ length l.a;
}
