use Rattle.std.proofs.lemmas.List.Filters.{dedup_is}
use Rattle.std.proofs.lemmas.List.Kept.{Contains-dedup_nat}
use Rattle.std.proofs.lemmas.List.Sorted.{Contains-permutation}
use Rattle.std.proofs.lemmas.Map.Keys.{IsStrictlyIncreasing-dedup}
use Rattle.cert_names.proofs.numbers.distinct.Goals as goal

pub returns-clause-rising : goal.returns-clause-rising
returns-clause-rising c = rw (dedup_is _ _ _ c.dedup.ensures.filtered) (IsStrictlyIncreasing-dedup _ c.sort_unstable.ensures.sorted)

pub returns-clause-has : goal.returns-clause-has
returns-clause-has c = λ x h. rw (dedup_is _ _ _ c.dedup.ensures.filtered) (Contains-dedup_nat _ x (Contains-permutation _ _ x c.sort_unstable.ensures.permutation h))
