use Rattle.std.proofs.Common.{◌≡◌, ◌∙◌}
use Rattle.std.proofs.lemmas.List.{take_all}
use Rattle.sv_outside.specs.declared.text.Signal.{Signal}
use Rattle.sv_elab.proofs.Wires.{copied_more}
use Rattle.sv_elab.proofs.signals.copied.Goals as goal

pub wires-preserved : goal.wires-preserved
wires-preserved c =
    let old : Signal = c.wire-item.result in
    let own : Signal = record { path = c.in_ok-path.path; width = old.width; input = old.input } in
    let same : own ≡ old = λ k. record { path = c.in_ok-path.ensures k; width = old.width; input = old.input } in
    copied_more c.args.wires.now c.wires.wire-index old own c.wires.all c.push.new.self c.wires-test.true c.wire-item.is c.wires.invariant same c.in_ok-push.ensures.ok

pub returns : goal.returns
returns c = c.wires.invariant ∙ take_all c.wires.wire-index c.args.wires.now c.wires-test.false
