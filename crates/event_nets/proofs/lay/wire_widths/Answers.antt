use Rattle.std.proofs.Common.{ℕ, ◌++◌, ◌∷◌, [], List, take, sym, ap, ◌∙◌, arith}
use Rattle.std.proofs.lemmas.Result.{IfOk-from_err}
use Rattle.std.proofs.lemmas.List.{map-append, take_all, take_more}
use Rattle.sv_outside.specs.declared.text.Signal.{Signal}
use Rattle.driver_resolve.specs.Drivers.{widths_of}
use Rattle.event_nets.proofs.lay.wire_widths.Goals as goal

pub loop-wire-init : goal.loop-wire-init
loop-wire-init c = c.new-widths.ensures.items

pub loop-wire-preserved : goal.loop-wire-preserved
loop-wire-preserved c =
    let wires = c.args.wires.now in
    let i = c.loop-wire.wire-index in
    let w : Signal = c.wire-item.result in
    c.in_ok-push.ensures.items
    ∙ ap (λ (l : List ℕ). l ++ w.width ∷ []) c.loop-wire.invariant
    ∙ sym (map-append (λ (s : Signal). s.width) (take i wires) (w ∷ []))
    ∙ ap (λ (s : Signal). widths_of (take i wires ++ s ∷ [])) c.wire-item.is
    ∙ ap (λ (l : List Signal). widths_of l) (sym (take_more wires i w (omega arith)))

pub returns : goal.returns
returns c = c.loop-wire.invariant ∙ ap (λ (l : List Signal). widths_of l) (take_all c.loop-wire.wire-index c.args.wires.now (omega arith))

pub returns-in_err-push : goal.returns-in_err-push
returns-in_err-push c = IfOk-from_err _ _ c.from_residual.ensures.0
