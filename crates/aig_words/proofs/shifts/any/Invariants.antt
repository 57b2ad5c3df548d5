use Rattle.std.proofs.Common.{◌≡◌, ℕ, ◌-◌, Bool, drop, length, ltb}
use Rattle.aig.specs.Graph.{holds, Obeys, IsIn}
use Rattle.aig_words.specs.Words.{number, Grew}
use Rattle.aig_words.proofs.shifts.any.Given as goal

abbrev pub invariant-loop-i : goal.invariant-loop-i
invariant-loop-i l = record {
  grew : Grew l.i l.fn.aig l.aig;
  within : IsIn l.aig l.last;
  value : (v : ℕ → Bool) → Obeys v l.aig → holds v l.last ≡ ltb 0 (number v (drop (length l.a - l.i) l.a));
}
