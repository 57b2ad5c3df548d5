use Rattle.std.proofs.Common.{◌≡◌, ◌⊎◌, ℕ, true, length, take}
use Rattle.std.specs.List.{All}
use Rattle.sat_search.specs.Learn.{seen_at, HasVariable}
use Rattle.sat_search.proofs.learn.mark_all.Given as goal

abbrev pub invariant-loop-d : goal.invariant-loop-d
invariant-loop-d l = record {
  width : length l.seen ≡ length l.fn.seen;
  marked : All (λ d. seen_at l.seen d.var ≡ true) (take l.d-index l.clause);
  more : (v : ℕ) → seen_at l.fn.seen v ≡ true → seen_at l.seen v ≡ true;
  only : (v : ℕ) → seen_at l.seen v ≡ true → (seen_at l.fn.seen v ≡ true) ⊎ HasVariable l.clause v;
}
