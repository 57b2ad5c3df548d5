use Rattle.std.proofs.Common.{◌≡◌, ◌-◌, drop}
use Rattle.refute_check.proofs.reader.Reader.skip.Given as goal

-- behind those that are still to come stands what is to be left
abbrev pub invariant-loop : goal.invariant-loop
invariant-loop l = drop (l.count - l.counter) l.self ≡ drop l.fn.count l.fn.self
