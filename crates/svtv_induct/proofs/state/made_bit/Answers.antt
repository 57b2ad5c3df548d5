use Rattle.std.proofs.Common.{◌<◌, arith}
use Rattle.svex_arena.proofs.Keeping.{extends_on}
use Rattle.svtv_induct.specs.States.{bit_in, width_of_var}
use Rattle.svtv_induct.proofs.Nodes.{bit_told, low_kept, made_bit_is, there_in, wide_in}
use Rattle.svtv_induct.proofs.state.made_bit.Goals as goal

pub by_lower-requires-2-clause-wide : goal.by_lower-requires-2-clause-wide
by_lower-requires-2-clause-wide c = wide_in c.by_lower.ensures.extends c.in_ok-low.ensures.is

pub choose-requires-clause-one : goal.choose-requires-clause-one
choose-requires-clause-one c =
    let vars = c.args.vars.now in
    let second = c.args.second in
    let at = c.args.at in
    let below : at < width_of_var vars second = (let s = c.requires.some in let w = c.requires.second.wide in omega (arith, s, w)) in
    there_in c.by_lower-2.ensures.extends (c.in_ok-set.ensures.is vars (λ choice. bit_in choice second at) (bit_told vars second at c.requires.second.there below) c.in_ok-low.ensures.is)

pub choose-requires-clause-other : goal.choose-requires-clause-other
choose-requires-clause-other c =
    let vars = c.args.vars.now in
    let second = c.args.second in
    let at = c.args.at in
    let below : at < width_of_var vars second = (let s = c.requires.some in let w = c.requires.second.wide in omega (arith, s, w)) in
    (c.in_ok-clear.ensures.is vars (λ choice. bit_in choice second at) (bit_told vars second at c.requires.second.there below)
    (low_kept vars c.bit_of_variable-2.new.arena c.by_lower.new.arena second at c.in_ok-low.low c.by_lower.ensures.extends c.in_ok-low.ensures.is)).over.there

pub choose-requires-clause-by_wide : goal.choose-requires-clause-by_wide
choose-requires-clause-by_wide c =
    wide_in (extends_on c.bit_of_variable.new.arena c.by_lower.new.arena c.by_lower-2.new.arena
    (extends_on c.bit_of_variable.new.arena c.bit_of_variable-2.new.arena c.by_lower.new.arena c.bit_of_variable-2.ensures.extends c.by_lower.ensures.extends) c.by_lower-2.ensures.extends) c.in_ok-up.ensures.is

pub choose-requires-clause-one_wide : goal.choose-requires-clause-one_wide
choose-requires-clause-one_wide c =
    let vars = c.args.vars.now in
    let second = c.args.second in
    let at = c.args.at in
    let below : at < width_of_var vars second = (let s = c.requires.some in let w = c.requires.second.wide in omega (arith, s, w)) in
    wide_in c.by_lower-2.ensures.extends (c.in_ok-set.ensures.is vars (λ choice. bit_in choice second at) (bit_told vars second at c.requires.second.there below) c.in_ok-low.ensures.is)

pub choose-requires-clause-other_wide : goal.choose-requires-clause-other_wide
choose-requires-clause-other_wide c =
    let vars = c.args.vars.now in
    let second = c.args.second in
    let at = c.args.at in
    let below : at < width_of_var vars second = (let s = c.requires.some in let w = c.requires.second.wide in omega (arith, s, w)) in
    (c.in_ok-clear.ensures.is vars (λ choice. bit_in choice second at) (bit_told vars second at c.requires.second.there below)
    (low_kept vars c.bit_of_variable-2.new.arena c.by_lower.new.arena second at c.in_ok-low.low c.by_lower.ensures.extends c.in_ok-low.ensures.is)).over.wide

pub returns-clause-is : goal.returns-clause-is
returns-clause-is c =
    let vars = c.args.vars.now in
    let first = c.args.first in
    let second = c.args.second in
    let at = c.args.at in
    let below : at < width_of_var vars second = (let s = c.requires.some in let w = c.requires.second.wide in omega (arith, s, w)) in
    let told = bit_told vars second at c.requires.second.there below in
    let low = c.in_ok-low.ensures.is in
    made_bit_is c.bit_of_variable.new.arena c.bit_of_variable-2.new.arena c.by_lower.new.arena c.by_lower-2.new.arena c.choose.new.arena vars first second at c.in_ok-up.up c.in_ok-low.low c.in_ok-set.set c.in_ok-clear.clear c.choose.result
    c.bit_of_variable-2.ensures.extends c.by_lower.ensures.extends c.by_lower-2.ensures.extends c.requires.first c.requires.second.there c.requires.some below
    c.in_ok-up.ensures.is low (c.in_ok-set.ensures.is vars (λ choice. bit_in choice second at) told low)
    (c.in_ok-clear.ensures.is vars (λ choice. bit_in choice second at) told (low_kept vars c.bit_of_variable-2.new.arena c.by_lower.new.arena second at c.in_ok-low.low c.by_lower.ensures.extends low))
    c.choose.ensures.is
