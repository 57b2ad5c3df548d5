use Rattle.std.proofs.Common.{◌≡◌, true, false, arith, rules, get_or}
use Rattle.std.specs.Prelude.{◌==◌}
use Rattle.sv_token.proofs.Runs.{first_left, past_line, past_column, past_ends}
use Rattle.sv_token.proofs.lexer.past.Goals as goal

pub loop-rest-preserved-then-b-eq10 : goal.loop-rest-preserved-then-b-eq10
loop-rest-preserved-then-b-eq10 c =
    let ends : (get_or c.loop-rest.rest.now 0 0 == 10) ≡ true = search rules in
    record {
      same = past_line c.loop-rest.place c.loop-rest.rest.now _ c.in-len1-up.len_at_least ends c.loop-rest.invariant.same;
      line = omega (arith, first_left c.loop-rest.rest.now c.in-len1-up.len_at_least, c.loop-rest.invariant.line);
      column = omega (arith, first_left c.loop-rest.rest.now c.in-len1-up.len_at_least, c.loop-rest.invariant.line);
    }

pub loop-rest-preserved : goal.loop-rest-preserved
loop-rest-preserved c =
    let goes : (get_or c.loop-rest.rest.now 0 0 == 10) ≡ false = search rules in
    record {
      same = past_column c.loop-rest.place c.loop-rest.rest.now _ c.in-len1-up.len_at_least goes c.loop-rest.invariant.same;
      line = omega (arith, first_left c.loop-rest.rest.now c.in-len1-up.len_at_least, c.loop-rest.invariant.line);
      column = omega (arith, first_left c.loop-rest.rest.now c.in-len1-up.len_at_least, c.loop-rest.invariant.column);
    }

pub returns : goal.returns
returns c = past_ends c.loop-rest.place c.loop-rest.rest.now _ c.in_default.len_below c.loop-rest.invariant.same
