use Rattle.std.proofs.Common.{sym, ◌∙◌}
use Rattle.sv_outside.specs.Literals.{goes_value}
use Rattle.sv_token.proofs.Runs.{run_more, run_stops, run_ends, room_more}
use Rattle.sv_token.proofs.scan.value_run.Goals as goal

pub loop-rest-preserved : goal.loop-rest-preserved
loop-rest-preserved c =
    record {
      counted = run_more (goes_value c.args.base c.args.first) c.loop-rest.n c.loop-rest.rest.now c.args.text.now c.in-len1-up.len_at_least (sym c.goes_value.ensures ∙ c.if-not-goes_value.false) c.loop-rest.invariant.counted;
      room = room_more c.loop-rest.n c.loop-rest.rest.now c.args.text.now c.in-len1-up.len_at_least c.loop-rest.invariant.room;
    }

pub returns-clause-run : goal.returns-clause-run
returns-clause-run c = run_ends (goes_value c.args.base c.args.first) c.loop-rest.n c.loop-rest.rest.now c.args.text.now c.in_default.len_below c.loop-rest.invariant.counted

pub returns-then-not-goes_value-clause-run : goal.returns-then-not-goes_value-clause-run
returns-then-not-goes_value-clause-run c = run_stops (goes_value c.args.base c.args.first) c.loop-rest.n c.loop-rest.rest.now c.args.text.now c.in-len1-up.len_at_least (sym c.goes_value.ensures ∙ c.if-not-goes_value.true) c.loop-rest.invariant.counted
