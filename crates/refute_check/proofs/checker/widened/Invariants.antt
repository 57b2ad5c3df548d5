use Rattle.std.proofs.Common.{ℕ, ◌≤◌, length}
use Rattle.refute_check.specs.Accepted.{HasRoom}
use Rattle.refute_check.proofs.Reading.{Walk}
use Rattle.refute_check.proofs.checker.widened.Given as goal

abbrev pub decreases-loop-d : goal.decreases-loop-d
decreases-loop-d l = length l.literals

-- there is room for the literals so far
abbrev pub invariant-loop-d : goal.invariant-loop-d
invariant-loop-d l = record {
  over : l.width ≤ l.wide;
  least : (bound : ℕ) → l.width ≤ bound → HasRoom bound l.vars l.fn.literals → l.wide ≤ bound;
  room : Walk (HasRoom l.wide l.vars) l.literals l.fn.literals;
}
