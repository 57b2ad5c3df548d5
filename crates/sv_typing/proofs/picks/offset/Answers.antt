use Rattle.sv_typing.proofs.Differences.{few_bound, difference_fits, difference_is, difference_most, offset_chosen, when_true, when_false}
use Rattle.sv_typing.proofs.picks.offset.Goals as goal

pub overflow_sub-result : goal.overflow_sub-result
overflow_sub-result c = difference_fits c.args.shift c.args.row.now.right (few_bound c.args.shift c.requires.low c.requires.high) c.requires.row.right

pub overflow_sub-result-else-goes_down : goal.overflow_sub-result-else-goes_down
overflow_sub-result-else-goes_down c = difference_fits c.args.row.now.right c.args.shift c.requires.row.right (few_bound c.args.shift c.requires.low c.requires.high)

pub returns-then-goes_down-clause-is : goal.returns-then-goes_down-clause-is
returns-then-goes_down-clause-is c =
    offset_chosen c.args.row.now c.args.shift _ c.goes_down.result c.goes_down.ensures
    (when_true _ _ _ c.goes_down.result c.if-goes_down.true (difference_is c.args.shift c.args.row.now.right (few_bound c.args.shift c.requires.low c.requires.high) c.requires.row.right))

pub returns-then-goes_down-clause-most : goal.returns-then-goes_down-clause-most
returns-then-goes_down-clause-most c = difference_most c.args.shift c.args.row.now.right (few_bound c.args.shift c.requires.low c.requires.high) c.requires.row.right

pub returns-else-goes_down-clause-is : goal.returns-else-goes_down-clause-is
returns-else-goes_down-clause-is c =
    offset_chosen c.args.row.now c.args.shift _ c.goes_down.result c.goes_down.ensures
    (when_false _ _ _ c.goes_down.result c.if-goes_down.false (difference_is c.args.row.now.right c.args.shift c.requires.row.right (few_bound c.args.shift c.requires.low c.requires.high)))

pub returns-else-goes_down-clause-most : goal.returns-else-goes_down-clause-most
returns-else-goes_down-clause-most c = difference_most c.args.row.now.right c.args.shift c.requires.row.right (few_bound c.args.shift c.requires.low c.requires.high)
