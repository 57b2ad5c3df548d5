use Rattle.std.proofs.Common.{◌≡◌, true, false, rules, get_or}
use Rattle.std.specs.Prelude.{not}
use Rattle.sv_token.specs.Cut.{is_end_of_line}
use Rattle.sv_token.proofs.Runs.{run_more, run_stops, run_ends, room_more}
use Rattle.sv_token.proofs.scan.line_run.Goals as goal

pub loop-rest-preserved : goal.loop-rest-preserved
loop-rest-preserved c =
    let goes : not (is_end_of_line (get_or c.loop-rest.rest.now 0 0)) ≡ true = search rules in
    record {
      counted = run_more (λ b. not (is_end_of_line b)) c.loop-rest.n c.loop-rest.rest.now c.args.text.now c.in-len1-up.len_at_least goes c.loop-rest.invariant.counted;
      room = room_more c.loop-rest.n c.loop-rest.rest.now c.args.text.now c.in-len1-up.len_at_least c.loop-rest.invariant.room;
    }

pub returns-clause-run : goal.returns-clause-run
returns-clause-run c = run_ends (λ b. not (is_end_of_line b)) c.loop-rest.n c.loop-rest.rest.now c.args.text.now c.in_default.len_below c.loop-rest.invariant.counted

pub returns-then-b-eq10-clause-run : goal.returns-then-b-eq10-clause-run
returns-then-b-eq10-clause-run c =
    let stops : not (is_end_of_line (get_or c.loop-rest.rest.now 0 0)) ≡ false = search rules in
    run_stops (λ b. not (is_end_of_line b)) c.loop-rest.n c.loop-rest.rest.now c.args.text.now c.in-len1-up.len_at_least stops c.loop-rest.invariant.counted
