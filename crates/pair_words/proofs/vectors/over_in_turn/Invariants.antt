use Rattle.std.proofs.Common.{◌≡◌, ℕ, ◌*◌, ◌-◌, Bool, length, drop}
use Rattle.aig.specs.Graph.{Obeys}
use Rattle.aig_words.specs.Words.{Grew}
use Rattle.fourvec.specs.Bits.{over}
use Rattle.pair_words.specs.Rails.{bit_at, bits, IsWired, two_value, two_nodes}
use Rattle.pair_words.proofs.vectors.over_in_turn.Given as goal

abbrev pub invariant-loop-i : goal.invariant-loop-i
invariant-loop-i l = record {
  grew : Grew (two_nodes l.op * l.i) l.fn.aig l.aig;
  within : IsWired l.aig l.last;
  value : (v : ℕ → Bool) → Obeys v l.aig → bit_at v l.last ≡ over (two_value l.op) (bit_at v l.fn.start) (bits v (drop (length l.a - l.i) l.a));
}
