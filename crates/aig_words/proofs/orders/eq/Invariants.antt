use Rattle.std.proofs.Common.{◌≡◌, ℕ, ◌<◌, ◌*◌, Bool, take, eqb}
use Rattle.aig.specs.Graph.{holds, Obeys, IsIn, IsGraph}
use Rattle.aig_words.specs.Words.{number, Grew}
use Rattle.aig_words.proofs.orders.eq.Given as goal

abbrev pub invariant-loop-i : goal.invariant-loop-i
invariant-loop-i l = record {
  grew : Grew (4 * l.i) l.fn.aig l.aig;
  within : IsIn l.aig l.last;
  graph : 0 < l.i → IsGraph l.aig;
  value : (v : ℕ → Bool) → Obeys v l.aig → holds v l.last ≡ eqb (number v (take l.i l.a)) (number v (take l.i l.b));
}
