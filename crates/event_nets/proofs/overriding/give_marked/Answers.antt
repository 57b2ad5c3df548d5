use Rattle.std.proofs.lemmas.Result.{IfOk-from_err}
use Rattle.std.proofs.Common.{◌<◌, ◌++◌, [], cond, length, take, sym, ap, ◌∙◌, arith, append_assoc}
use Rattle.std.proofs.lemmas.List.{take_all}
use Rattle.sv_outside.specs.declared.text.Signal.{Signal}
use Rattle.lhs_alias.specs.Joined.{widths_of}
use Rattle.driver_resolve.specs.Drivers.{wire_bits, has_wire}
use Rattle.event_nets.specs.declared.gift.Source.TheVariants.{Stimulus}
use Rattle.event_nets.specs.Gifts.{gifts_to, stimulus_gifts}
use Rattle.event_nets.specs.Tables.{home_of}
use Rattle.event_nets.proofs.Cutting.{as_input, as_inputs, length-as_inputs, input-here, gifts-as_inputs}
use Rattle.event_nets.proofs.Laying.{append-none, stimuli-more}
use Rattle.event_nets.proofs.overriding.give_marked.Goals as goal

pub loop-wire-init : goal.loop-wire-init
unfolding stimulus_gifts
loop-wire-init c = λ links over s marks. sym (append-none c.args.gifts.now.items)

pub loop-wire-preserved : goal.loop-wire-preserved
loop-wire-preserved c = λ links over s marks.
    let wires = c.args.wires.now in
    let i = c.loop-wire.wire in
    let lt : i < length wires = c.loop-wire-test.true in
    let w = c.index-wires-wire.result in
    let inputs = as_inputs 0 wires over in
    let x : Signal = as_input w (has_wire over i) in
    let old = c.args.gifts.now.items in
    let home = home_of links (widths_of c.args.joins.now) in
    let gifts = gifts_to home (Stimulus i) 0 (wire_bits i w.width) in
    let here = cond (has_wire over i) gifts [] in
    c.in_ok-give_wire.ensures links s
    ∙ ap (λ t. c.loop-wire.gifts.items ++ cond t gifts []) (marks i lt)
    ∙ ap (λ l. l ++ here) (c.loop-wire.invariant links over s marks)
    ∙ append_assoc old (stimulus_gifts home 0 (take i inputs)) here
    ∙ ap (λ l. old ++ l) (sym (stimuli-more home inputs i x (omega (arith, lt, length-as_inputs 0 wires over)) (input-here i wires over w x lt (sym c.index-wires-wire.is))))

pub returns : goal.returns
returns c = λ links over s marks.
    let wires = c.args.wires.now in
    let home = home_of links (widths_of c.args.joins.now) in
    let old = c.args.gifts.now.items in
    c.loop-wire.invariant links over s marks
    ∙ ap (λ ws. old ++ stimulus_gifts home 0 ws) (take_all c.loop-wire.wire (as_inputs 0 wires over) (omega (arith, c.loop-wire-test.false, length-as_inputs 0 wires over)))
    ∙ ap (λ l. old ++ l) (sym (gifts-as_inputs home 0 wires over))

pub returns-in_err-give_wire : goal.returns-in_err-give_wire
returns-in_err-give_wire c = IfOk-from_err _ _ c.from_residual.ensures.0
