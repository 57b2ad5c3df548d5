use Rattle.std.proofs.Common.{◌≡◌, ℕ, ◌/◌, ◌%◌, ◌^◌, Bool, eqb, take}
use Rattle.aig.specs.Graph.{holds, Obeys, IsIn}
use Rattle.aig_words.specs.Words.{Grew, number}
use Rattle.pair_words.proofs.indexes.is_number.Given as goal

abbrev pub invariant-loop-i : goal.invariant-loop-i
invariant-loop-i l = record {
  grew : Grew l.i l.fn.aig l.aig;
  within : IsIn l.aig l.last;
  rest : l.rest ≡ l.k / 2 ^ l.i;
  value : (v : ℕ → Bool) → Obeys v l.aig → holds v l.last ≡ eqb (number v (take l.i l.word)) (l.k % 2 ^ l.i);
}
