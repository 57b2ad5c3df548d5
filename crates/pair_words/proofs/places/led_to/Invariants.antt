use Rattle.std.proofs.Common.{◌≡◌, ℕ, ◌+◌, ◌*◌, Bool, length, map, take}
use Rattle.aig.specs.Graph.{holds, Obeys}
use Rattle.aig_words.specs.Words.{Grew, number}
use Rattle.pair_words.specs.Rails.{bits, IsVector}
use Rattle.pair_words.specs.Starts.{picked, begin_at}
use Rattle.pair_words.proofs.places.led_to.Given as goal

abbrev pub invariant-loop-t : goal.invariant-loop-t
invariant-loop-t l = record {
  grew : Grew ((2 * length l.far + 3 + 6 * length l.none) * l.t) l.fn.aig l.aig;
  word : IsVector l.aig (length l.none) l.word.items;
  value : (v : ℕ → Bool) → Obeys v l.aig → bits v l.word.items ≡ picked (map (bits v) (take l.t l.parts)) (begin_at (holds v l.back) (number v l.far) l.each l.start.back l.start.far) (bits v l.none);
}
