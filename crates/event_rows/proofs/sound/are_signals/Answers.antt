use Rattle.std.proofs.Common.{List, refl, subst, arith}
use Rattle.std.specs.Prelude.{All}
use Rattle.std.proofs.lemmas.List.{take_all}
use Rattle.std.proofs.lemmas.List.Elements.{All-more}
use Rattle.sv_outside.specs.declared.text.Signal.{Signal}
use Rattle.flat_net.specs.Flats.{IsSignal}
use Rattle.event_rows.proofs.sound.are_signals.Goals as goal

pub loop-wire-preserved : goal.loop-wire-preserved
loop-wire-preserved c =
    let P : Signal → Type 0 = IsSignal in
    All-more P c.args.wires.now c.loop-wire.wire-index c.wire-item.result (omega arith) c.loop-wire.invariant (subst P c.wire-item.is (c.if-not-is_signal.ensures refl))

pub returns : goal.returns
returns c = λ t.
    let P : List Signal → Type 0 = All IsSignal in
    subst P (take_all c.loop-wire.wire-index c.args.wires.now (omega arith)) c.loop-wire.invariant
