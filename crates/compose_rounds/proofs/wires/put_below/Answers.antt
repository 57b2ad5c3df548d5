use Rattle.std.proofs.Common.{arith}
use Rattle.svex_arena.proofs.Steps.{width-extends}
use Rattle.lhs_alias.proofs.SegBits.{length-seg_bits}
use Rattle.compose_rounds.proofs.Making.{below_all}
use Rattle.compose_rounds.proofs.wires.put_below.Goals as goal

pub above-requires-clause-fits : goal.above-requires-clause-fits
above-requires-clause-fits c =
    let high = width-extends c.args.arena.now c.part.new.arena c.args.made c.in_ok-low.ensures.extends c.requires.made in
    let low = c.in_ok-low.ensures.made.wide in
    let fits = c.requires.fits in
    omega (arith, high, low, length-seg_bits c.args.piece, fits)

pub returns-clause-made : goal.returns-clause-made
returns-clause-made c =
    below_all c.args.arena.now c.part.new.arena c.above.new.arena c.args.nodes.now c.args.piece c.args.made c.in_ok-low.low c.above.result c.in_ok-low.ensures.extends c.in_ok-low.ensures.made c.above.ensures.joined
