use Rattle.std.proofs.Common.{◌∙◌, [], arith}
use Rattle.svex_arena.proofs.Steps.{width-extends}
use Rattle.svtv_induct.proofs.Nodes.{lower_is, there_in, wide_in}
use Rattle.svtv_induct.proofs.state.by_lower.Goals as goal

pub choose-requires-clause-one : goal.choose-requires-clause-one
choose-requires-clause-one c = there_in c.constant-2.ensures.extends (c.in_ok-set.ensures.is [])

pub choose-requires-clause-other : goal.choose-requires-clause-other
choose-requires-clause-other c = (c.in_ok-clear.ensures.is []).over.there

pub choose-requires-clause-by_wide : goal.choose-requires-clause-by_wide
choose-requires-clause-by_wide c =
    let l = c.requires.low in
    width-extends c.constant.new.arena c.constant-2.new.arena c.args.low c.constant-2.ensures.extends (omega (arith, l, c.constant.ensures.extends.longer))
    ∙ width-extends c.args.arena.now c.constant.new.arena c.args.low c.constant.ensures.extends l ∙ c.requires.wide

pub choose-requires-clause-one_wide : goal.choose-requires-clause-one_wide
choose-requires-clause-one_wide c = wide_in c.constant-2.ensures.extends (c.in_ok-set.ensures.is [])

pub choose-requires-clause-other_wide : goal.choose-requires-clause-other_wide
choose-requires-clause-other_wide c = (c.in_ok-clear.ensures.is []).over.wide

pub returns-clause-is : goal.returns-clause-is
returns-clause-is c =
    lower_is c.args.arena.now c.constant.new.arena c.constant-2.new.arena c.choose.new.arena c.args.low c.in_ok-set.set c.in_ok-clear.clear c.args.up c.bit_of.result c.bit_of-2.result c.choose.result c.bit_of.ensures c.bit_of-2.ensures
    c.constant.ensures.extends c.constant-2.ensures.extends c.in_ok-set.ensures.is c.in_ok-clear.ensures.is c.choose.ensures.is
