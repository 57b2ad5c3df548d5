use Rattle.std.proofs.Common.{◌≡◌, ◌<◌, ℕ, get_or}
use Rattle.std.specs.Prelude.{vec_len}
use Rattle.idx_list.specs.Ring.{to_zero}
use Rattle.idx_list.proofs.list.IdxList.new.Given as goal

abbrev pub invariant-loop-number : goal.invariant-loop-number
invariant-loop-number l = record {
  long : vec_len l.links ≡ l.number;
  same : (k : ℕ) → k < l.number → get_or l.links.items k to_zero ≡ record { prev = k; next = k };
}
