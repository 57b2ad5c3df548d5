use Rattle.std.proofs.Common.{◌∙◌, List, length, map, sym, ap}
use Rattle.settling.specs.Settling.{Store}
use Rattle.svex_shape.specs.Values.{Vector}
use Rattle.driver_resolve.specs.Drivers.{widths_of}
use Rattle.event_sim.specs.Sims.{store_of}
use Rattle.svtv_least.proofs.Phases.{as_many}
use Rattle.svtv_least.proofs.runner.Runner.begin.Goals as goal

pub copy-requires : goal.copy-requires
copy-requires c =
    let serves = c.requires.2 in
    ap (λ (z : List Vector). length z) c.as_slice.ensures ∙ as_many c.args.self.now.blank c.args.self.now.prev.values (widths_of c.requires.0.wires) serves.blank serves.prev

pub returns-clause-serves : goal.returns-clause-serves
returns-clause-serves c flat bound serves = record {
  plan = serves.plan;
  prev = ap (map (λ (v : Vector). length v)) (c.copy.ensures ∙ c.as_slice.ensures) ∙ serves.blank;
  stim = serves.stim;
  blank = serves.blank;
  unknown = serves.unknown;
  values = serves.values;
  blank_values = serves.blank_values;
  unknown_values = serves.unknown_values;
}

pub returns-clause-stands : goal.returns-clause-stands
returns-clause-stands c flat bound serves choice d e r h = λ i n k.
    (ap (λ (z : List Vector). store_of z n k) (c.copy.ensures ∙ c.as_slice.ensures) ∙ serves.unknown n k ∙ ap (λ (s : Store). s n k) (sym h.run.begins)) i
