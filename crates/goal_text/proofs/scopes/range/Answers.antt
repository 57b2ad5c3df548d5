use Rattle.goal_text.proofs.Scoped.{range_is, range_sound}
use Rattle.goal_text.proofs.scopes.range.Goals as goal

pub returns-clause-is : goal.returns-clause-is
returns-clause-is c = range_is c.args.left c.args.right c.in_ok-each.each c.scalar.result c.in_ok-each.ensures c.scalar.ensures.is c.requires.left c.requires.right

pub returns-clause-sound : goal.returns-clause-sound
returns-clause-sound c =
    range_sound c.args.left c.args.right c.in_ok-each.each c.scalar.result c.in_ok-each.ensures c.scalar.ensures.is c.requires.left c.requires.right
    c.args.width c.scalar.ensures.sound c.requires.bits c.requires.some c.requires.most
