use Rattle.std.proofs.Common.{◌∙◌, List, length, map, sym, ap}
use Rattle.svex_shape.specs.Values.{Vector}
use Rattle.driver_resolve.specs.Drivers.{widths_of}
use Rattle.event_sim.specs.Sims.{store_of}
use Rattle.svtv_least.proofs.Phases.{as_many}
use Rattle.svtv_least.proofs.runner.Runner.begin_at.Goals as goal

pub copy-requires : goal.copy-requires
copy-requires c = as_many c.args.state.now c.args.self.now.prev.values (widths_of c.requires.0.wires) c.requires.3 c.requires.2.prev

pub returns-clause-serves : goal.returns-clause-serves
returns-clause-serves c flat bound serves = record {
  plan = serves.plan;
  prev = ap (map (λ (v : Vector). length v)) c.copy.ensures ∙ c.requires.3 ∙ sym c.requires.2.prev ∙ serves.prev;
  stim = serves.stim;
  blank = serves.blank;
  unknown = serves.unknown;
  values = serves.values;
  blank_values = serves.blank_values;
  unknown_values = serves.unknown_values;
}

pub returns-clause-stands : goal.returns-clause-stands
returns-clause-stands c flat bound choice d e r h = ap (λ (z : List Vector). store_of z) c.copy.ensures ∙ sym h.run.begins
