use Rattle.std.proofs.Common.{◌≡◌, ◌^◌, min}
use Rattle.pair_words.proofs.shifts.stages.Given as goal

abbrev pub invariant-loop-n : goal.invariant-loop-n
invariant-loop-n l = l.k ≡ min (2 ^ l.n) l.most
