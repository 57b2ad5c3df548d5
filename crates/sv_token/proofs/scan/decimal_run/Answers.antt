use Rattle.std.proofs.Common.{sym, ◌∙◌}
use Rattle.sv_outside.specs.Literals.{goes_decimal}
use Rattle.sv_token.proofs.Runs.{run_more, run_stops, run_ends, room_more}
use Rattle.sv_token.proofs.scan.decimal_run.Goals as goal

pub loop-rest-preserved : goal.loop-rest-preserved
loop-rest-preserved c =
    record {
      counted = run_more goes_decimal c.loop-rest.n c.loop-rest.rest.now c.args.text.now c.in-len1-up.len_at_least (sym c.goes_decimal.ensures ∙ c.if-not-goes_decimal.false) c.loop-rest.invariant.counted;
      room = room_more c.loop-rest.n c.loop-rest.rest.now c.args.text.now c.in-len1-up.len_at_least c.loop-rest.invariant.room;
    }

pub returns-clause-run : goal.returns-clause-run
returns-clause-run c = run_ends goes_decimal c.loop-rest.n c.loop-rest.rest.now c.args.text.now c.in_default.len_below c.loop-rest.invariant.counted

pub returns-then-not-goes_decimal-clause-run : goal.returns-then-not-goes_decimal-clause-run
returns-then-not-goes_decimal-clause-run c = run_stops goes_decimal c.loop-rest.n c.loop-rest.rest.now c.args.text.now c.in-len1-up.len_at_least (sym c.goes_decimal.ensures ∙ c.if-not-goes_decimal.true) c.loop-rest.invariant.counted
