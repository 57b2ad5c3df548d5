use Rattle.std.proofs.Common.{ℕ, ◌≤◌, take}
use Rattle.std.specs.List.{All}
use Rattle.refute_check.specs.Accepted.{HasRoom}
use Rattle.refute_check.proofs.checker.with_steps.Given as goal

-- there is room for the steps so far
abbrev pub invariant-loop-step : goal.invariant-loop-step
invariant-loop-step l = record {
  over : l.width ≤ l.wide;
  least : (bound : ℕ) → l.width ≤ bound → All (λ s. HasRoom bound l.vars s.clause) l.steps → l.wide ≤ bound;
  room : All (λ s. HasRoom l.wide l.vars s.clause) (take l.step-index l.steps);
}
