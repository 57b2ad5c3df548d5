use Rattle.sv_typing.proofs.Differences.{difference_fits, difference_is, difference_most, lowest_chosen, when_true, when_false}
use Rattle.sv_typing.proofs.ranges.lowest.Goals as goal

pub overflow_sub-result : goal.overflow_sub-result
overflow_sub-result c = difference_fits c.args.row.now.right c.args.b c.requires.row.right c.requires.b

pub overflow_sub-result-else-is_turned : goal.overflow_sub-result-else-is_turned
overflow_sub-result-else-is_turned c = difference_fits c.args.b c.args.row.now.right c.requires.b c.requires.row.right

pub returns-then-is_turned-clause-is : goal.returns-then-is_turned-clause-is
returns-then-is_turned-clause-is c =
    lowest_chosen c.args.row.now c.args.a c.args.b _ c.is_turned.result c.ranges.a c.ranges.b c.is_turned.ensures
    (when_true _ _ _ c.is_turned.result c.if-is_turned.true (difference_is c.args.row.now.right c.args.b c.requires.row.right c.requires.b))

pub returns-then-is_turned-clause-most : goal.returns-then-is_turned-clause-most
returns-then-is_turned-clause-most c = difference_most c.args.row.now.right c.args.b c.requires.row.right c.requires.b

pub returns-else-is_turned-clause-is : goal.returns-else-is_turned-clause-is
returns-else-is_turned-clause-is c =
    lowest_chosen c.args.row.now c.args.a c.args.b _ c.is_turned.result c.ranges.a c.ranges.b c.is_turned.ensures
    (when_false _ _ _ c.is_turned.result c.if-is_turned.false (difference_is c.args.b c.args.row.now.right c.requires.b c.requires.row.right))

pub returns-else-is_turned-clause-most : goal.returns-else-is_turned-clause-most
returns-else-is_turned-clause-most c = difference_most c.args.b c.args.row.now.right c.requires.b c.requires.row.right
