use Rattle.std.proofs.Common.{◌≡◌, ℕ, ◌-◌, ◌*◌, ◌^◌, ◌≤◌, Bool, take, length, min}
use Rattle.aig.specs.Graph.{Obeys}
use Rattle.aig_words.specs.Words.{number, Grew, IsWord, shifted}
use Rattle.aig_words.proofs.shifts.shift.Given as goal

abbrev pub invariant-loop-j : goal.invariant-loop-j
invariant-loop-j l = record {
  grew : Grew (3 * length l.a * l.j) l.fn.aig l.aig;
  within : l.j ≤ length l.b;
  step : l.k ≡ min (2 ^ l.j) (2 ^ 64 - 1);
  word : IsWord l.aig (length l.a) l.word.items;
  value : (v : ℕ → Bool) → Obeys v l.aig → number v l.word.items ≡ shifted v l.way (length l.a) (number v l.a) (number v (take l.j l.b));
}

abbrev pub decreases-loop-j : goal.decreases-loop-j
decreases-loop-j l = length l.b - l.j
