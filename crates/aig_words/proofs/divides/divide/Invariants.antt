use Rattle.std.proofs.Common.{ℕ, ◌-◌, ◌*◌, ◌<◌, Bool, drop, length}
use Rattle.aig.specs.Graph.{Obeys, IsGraph}
use Rattle.aig_words.specs.Words.{Grew, IsWord, IsDivided}
use Rattle.aig_words.proofs.divides.divide.Given as goal

abbrev pub invariant-loop-i : goal.invariant-loop-i
invariant-loop-i l = record {
  grew : Grew (11 * length l.a * l.i) l.fn.aig l.aig;
  quotient : IsWord l.aig l.i l.quotient.items;
  rest : IsWord l.aig l.i l.rest.items;
  graph : 0 < l.i → IsGraph l.aig;
  value : (v : ℕ → Bool) → Obeys v l.aig → IsDivided (drop (length l.a - l.i) l.a) l.b l.quotient.items l.rest.items v;
}
