use Rattle.std.proofs.Common.{◌∙◌}
use Rattle.std.proofs.lemmas.List.{take_all}
use Rattle.refute_check.proofs.Rows.{row_more}
use Rattle.refute_check.proofs.row.NumberRow.of.Goals as goal

pub loop-number-preserved : goal.loop-number-preserved
loop-number-preserved c = record {
  numbers = row_more c.args.numbers.now _ _ c.loop-number.number-index c.loop-number-test.true c.loop-number.invariant.numbers c.in_ok-push.ensures.numbers;
  begun = c.in_ok-push.ensures.begun;
}

pub returns : goal.returns
returns c = c.loop-number.invariant.numbers ∙ take_all _ _ c.loop-number-test.false
