use Rattle.std.proofs.Common.{◌≡◌, ℕ, ◌≤◌, take}
use Rattle.sv_expr_parser.specs.Ends.{CanEnd, all_after, nothing_open}
use Rattle.sv_expr_parser.proofs.ends.last_end.Given as goal

abbrev pub invariant-loop-i : goal.invariant-loop-i
invariant-loop-i l = record {
  open_is : l.behind ≡ all_after nothing_open (take l.i l.tokens);
  within : l.last ≤ l.i;
  last : (n : ℕ) → n ≤ l.i → CanEnd l.tokens n → n ≤ l.last;
}
