use Rattle.std.proofs.Common.{List, [], ◌∷◌, ◌++◌, length, ap, ◌∙◌}
use Rattle.std.proofs.lemmas.List.{take_all}
use Rattle.sv_outside.specs.declared.text.Signal.{Signal}
use Rattle.driver_resolve.specs.Drivers.{widths_of}
use Rattle.svex_shape.specs.Values.{Vector}
use Rattle.event_sim.specs.Sims.{store_of}
use Rattle.svtv_least.proofs.Setting.{all_x_long, lengths_more, pushed_unknown}
use Rattle.svtv_least.proofs.stimulus.unknowns.Goals as goal

pub wires-preserved : goal.wires-preserved
wires-preserved c =
    let s : Signal = c.wire-item.result in
    record {
      valuation = lengths_more (λ (x : Signal). x.width) c.args.wires.now c.wires.wire-index s c.wires.values c.push.new.self c.unknown.result c.wires-test.true c.wire-item.is c.wires.invariant.valuation (ap length c.unknown.ensures ∙ all_x_long s.width) c.in_ok-push.ensures.ok;
      unknown = λ n k. ap (λ (z : List Vector). store_of z n k) (c.in_ok-push.ensures.ok ∙ ap (λ (v : Vector). c.wires.values ++ v ∷ []) c.unknown.ensures) ∙ pushed_unknown c.wires.values s.width c.wires.invariant.unknown n k;
    }

pub returns-clause-valuation : goal.returns-clause-valuation
returns-clause-valuation c = c.wires.invariant.valuation ∙ ap widths_of (take_all c.wires.wire-index c.args.wires.now c.wires-test.false)
