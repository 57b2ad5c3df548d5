use Rattle.std.proofs.Common.{◌≡◌, ℕ, true, take}
use Rattle.std.specs.List.{All}
use Rattle.sat_search.specs.Learn.{seen_at}
use Rattle.sat_search.proofs.learn.mark.Given as goal

abbrev pub invariant-loop-d : goal.invariant-loop-d
invariant-loop-d l = record {
  marked : All (λ d. seen_at l.seen d.var ≡ true) (take l.d-index l.clause);
  more : (v : ℕ) → seen_at l.fn.seen v ≡ true → seen_at l.seen v ≡ true;
}
