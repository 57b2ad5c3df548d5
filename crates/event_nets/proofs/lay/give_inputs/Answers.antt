use Rattle.std.proofs.lemmas.Result.{IfOk-from_err}
use Rattle.std.proofs.Common.{◌++◌, [], take, cond, sym, ap, ◌∙◌, arith, append_assoc}
use Rattle.lhs_alias.specs.Joined.{widths_of}
use Rattle.driver_resolve.specs.Drivers.{wire_bits}
use Rattle.event_nets.specs.declared.gift.Source.TheVariants.{Stimulus}
use Rattle.event_nets.specs.Gifts.{gifts_to, stimulus_gifts}
use Rattle.event_nets.specs.Tables.{home_of}
use Rattle.event_nets.proofs.Laying.{append-none, stimuli-more}
use Rattle.std.proofs.lemmas.List.{take_all}
use Rattle.event_nets.proofs.lay.give_inputs.Goals as goal

pub loop-wire-init : goal.loop-wire-init
unfolding stimulus_gifts
loop-wire-init c = λ links s. sym (append-none c.args.gifts.now.items)

pub loop-wire-preserved : goal.loop-wire-preserved
loop-wire-preserved c = λ links s.
    let wires = c.args.wires.now in
    let i = c.loop-wire.wire in
    let w = c.index-wires-wire.result in
    let old = c.args.gifts.now.items in
    let home = home_of links (widths_of c.args.joins.now) in
    let here = cond w.input (gifts_to home (Stimulus i) 0 (wire_bits i w.width)) [] in
    c.in_ok-give_wire.ensures links s
    ∙ ap (λ l. l ++ here) (c.loop-wire.invariant links s)
    ∙ append_assoc old (stimulus_gifts home 0 (take i wires)) here
    ∙ ap (λ l. old ++ l) (sym (stimuli-more home wires i w (omega arith) (sym c.index-wires-wire.is)))

pub returns-in_err-give_wire : goal.returns-in_err-give_wire
returns-in_err-give_wire c = IfOk-from_err _ _ c.from_residual.ensures.0

pub bounds-wires-wire : goal.bounds-wires-wire
bounds-wires-wire c = c.loop-wire-test.true

pub returns : goal.returns
returns c = λ links s.
    c.loop-wire.invariant links s
    ∙ ap (λ ws. c.args.gifts.now.items ++ stimulus_gifts (home_of links (widths_of c.args.joins.now)) 0 ws) (take_all c.loop-wire.wire c.args.wires.now c.loop-wire-test.false)

pub give_wire-requires-clause-fits : goal.give_wire-requires-clause-fits
give_wire-requires-clause-fits c = c.requires.fits

pub give_wire-requires-clause-starts : goal.give_wire-requires-clause-starts
give_wire-requires-clause-starts c = c.requires.starts
