use Rattle.std.proofs.Common.{◌≡◌, ℕ, ◌*◌, ◌-◌, Bool, length, drop}
use Rattle.aig.specs.Graph.{holds, Obeys, IsIn}
use Rattle.aig_words.specs.Words.{Grew}
use Rattle.fourvec.specs.Bits.{is_known}
use Rattle.pair_words.specs.Rails.{bits}
use Rattle.pair_words.proofs.vectors.known.Given as goal

abbrev pub invariant-loop-i : goal.invariant-loop-i
invariant-loop-i l = record {
  grew : Grew (4 * l.i) l.fn.aig l.aig;
  within : IsIn l.aig l.last;
  value : (v : ℕ → Bool) → Obeys v l.aig → holds v l.last ≡ is_known (bits v (drop (length l.a - l.i) l.a));
}
