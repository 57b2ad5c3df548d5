use Rattle.std.proofs.Common.{◌≡◌, ℕ, ◌*◌, Bool, length, take}
use Rattle.aig.specs.Graph.{Obeys}
use Rattle.aig_words.specs.Words.{Grew}
use Rattle.fourvec.specs.Bits.{each}
use Rattle.fourvec.specs.Spots.{kept_bit}
use Rattle.pair_words.specs.Rails.{bits, IsVector}
use Rattle.pair_words.proofs.places.kept_under.Given as goal

abbrev pub invariant-loop-j : goal.invariant-loop-j
invariant-loop-j l = record {
  grew : Grew (11 * length l.a * l.j) l.fn.aig l.aig;
  word : IsVector l.aig (length l.a) l.word.items;
  value : (v : ℕ → Bool) → Obeys v l.aig → bits v l.word.items ≡ each (kept_bit (bits v (take l.j l.put))) (bits v l.a);
}
