use Rattle.std.proofs.Common.{◌≡◌, ℕ, ◌*◌, Bool, take}
use Rattle.aig.specs.Graph.{Obeys}
use Rattle.aig_words.specs.Words.{Grew}
use Rattle.fourvec.specs.Bits.{each_pair}
use Rattle.pair_words.specs.Rails.{bits, IsVector}
use Rattle.pair_words.specs.Steps.{step_value, step_nodes}
use Rattle.pair_words.proofs.steps.each_place.Given as goal

abbrev pub invariant-loop-i : goal.invariant-loop-i
invariant-loop-i l = record {
  grew : Grew (step_nodes l.step * l.i) l.fn.aig l.aig;
  word : IsVector l.aig l.i l.word.items;
  value : (v : ℕ → Bool) → Obeys v l.aig → bits v l.word.items ≡ each_pair (step_value v l.step) (bits v (take l.i l.a)) (bits v (take l.i l.b));
}
