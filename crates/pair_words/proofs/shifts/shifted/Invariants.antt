use Rattle.std.proofs.Common.{◌≡◌, ℕ, ◌*◌, ◌^◌, Bool, length, min, take}
use Rattle.aig.specs.Graph.{Obeys}
use Rattle.aig_words.specs.Words.{Grew, number}
use Rattle.pair_words.specs.Rails.{bits, IsVector}
use Rattle.pair_words.specs.Ways.{moved_bits}
use Rattle.pair_words.proofs.shifts.shifted.Given as goal

abbrev pub invariant-loop-j : goal.invariant-loop-j
invariant-loop-j l = record {
  grew : Grew (6 * length l.a * l.j) l.fn.aig l.aig;
  word : IsVector l.aig (length l.a) l.word.items;
  far : l.k ≡ min (2 ^ l.j) (length l.a);
  value : (v : ℕ → Bool) → Obeys v l.aig → bits v l.word.items ≡ moved_bits v l.way (number v (take l.j l.b)) (bits v l.a);
}
