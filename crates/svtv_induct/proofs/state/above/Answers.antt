use Rattle.svtv_induct.proofs.Nodes.{above_is, above_sized}
use Rattle.svtv_induct.proofs.state.above.Goals as goal

pub returns-clause-is : goal.returns-clause-is
returns-clause-is c = above_is c.args.arena.now c.intern.new.self c.args.high c.args.low c.intern.result c.intern.ensures.arena c.intern.ensures.extends c.requires.high c.requires.low c.intern.ensures.is

pub returns-clause-sized : goal.returns-clause-sized
returns-clause-sized c = above_sized c.args.arena.now c.intern.new.self c.args.high c.args.low c.intern.result c.intern.ensures.arena c.intern.ensures.extends c.requires.high c.requires.low c.intern.ensures.is
