use Rattle.std.proofs.Common.{◌≡◌, length}
use Rattle.cnf.specs.Clauses.{valuation}
use Rattle.refute_check.specs.Accepted.{HasRoom}
use Rattle.refute_check.proofs.Denials.{Denied}
use Rattle.refute_check.proofs.Reading.{Walk}
use Rattle.refute_check.proofs.marks.Marks.deny.Given as goal

abbrev pub decreases-loop-d : goal.decreases-loop-d
decreases-loop-d l = length l.literals

-- the literals so far are false, and nothing else has a value
abbrev pub invariant-loop-d : goal.invariant-loop-d
invariant-loop-d l = record {
  denied : Walk (Denied l.vars (valuation l.self)) l.literals l.fn.literals;
  width : length l.self ≡ length l.fn.self;
  room : HasRoom (length l.fn.self) l.vars l.literals;
}
