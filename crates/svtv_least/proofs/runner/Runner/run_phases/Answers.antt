use Rattle.std.proofs.Common.{◌≡◌, List, length, map, sym, ap, ◌∙◌}
use Rattle.std.specs.Prelude.{slice_get}
use Rattle.svex_shape.specs.Values.{Vector}
use Rattle.event_sim.specs.Sims.{store_of}
use Rattle.svtv_table.specs.declared.bound.Sample.{Sample}
use Rattle.svtv_least.specs.Running.{taken_of}
use Rattle.svtv_least.proofs.Fitting.{samples_are_of}
use Rattle.svtv_least.proofs.Phases.{none_early, early_more, early_all}
use Rattle.svtv_least.proofs.runner.Runner.run_phases.Goals as goal

pub phases-init : goal.phases-init
phases-init c =
    let serves = c.requires.serves in
    let blank_values : c.copy.new.into ≡ c.args.self.now.blank_values = c.copy.ensures ∙ c.as_slice.ensures in
    record {
      serves = record {
        plan = serves.plan;
        prev = serves.prev;
        stim = serves.stim;
        blank = serves.blank;
        unknown = serves.unknown;
        values = ap (map (λ (v : Vector). length v)) blank_values ∙ serves.blank_values;
        blank_values = serves.blank_values;
        unknown_values = serves.unknown_values;
      };
      stands = λ first stands. stands;
      values = λ first stands d e r h n k. ap (λ (z : List Vector). store_of z n k) blank_values ∙ serves.unknown_values n k ∙ sym (none_early r (slice_get c.args.bound.now.samples n) k);
    }

pub step-requires-clause-serves : goal.step-requires-clause-serves
step-requires-clause-serves c = c.phases.invariant.serves

pub take_samples-requires-clause-widths : goal.take_samples-requires-clause-widths
take_samples-requires-clause-widths c = c.step.ensures.serves.values ∙ ap (map (λ (s : Sample). s.width)) (sym c.as_slice-in-phases.ensures)

pub take_samples-requires-clause-are_of : goal.take_samples-requires-clause-are_of
take_samples-requires-clause-are_of c =
    samples_are_of c.args.flat.now.wires c.args.bound.now (map (λ (v : Vector). length v) c.as_slice-in-phases-2.result.now) c.as_slice-in-phases.result.now c.requires.bound
    (ap (map (λ (v : Vector). length v)) c.as_slice-in-phases-2.ensures ∙ c.step.ensures.serves.prev) c.as_slice-in-phases.ensures

pub phases-preserved : goal.phases-preserved
phases-preserved c =
    let phase = c.phases.phase in
    let done = c.step.ensures in
    record {
      serves = record {
        plan = done.serves.plan;
        prev = done.serves.prev;
        stim = done.serves.stim;
        blank = done.serves.blank;
        unknown = done.serves.unknown;
        values = c.take_samples.ensures.widths ∙ done.serves.values;
        blank_values = done.serves.blank_values;
        unknown_values = done.serves.unknown_values;
      };
      stands = λ first stands. done.stands first (c.phases.invariant.stands first stands);
      values = λ first stands d e r h n k.
          c.take_samples.ensures.taken n k
          ∙ ap (λ (z : List Sample). taken_of (slice_get z n) phase (store_of c.as_slice-in-phases-2.result.now) (store_of c.step.new.self.values) n k) c.as_slice-in-phases.ensures
          ∙ ap (λ (z : List Vector). taken_of (slice_get c.args.bound.now.samples n) phase (store_of z) (store_of c.step.new.self.values) n k) c.as_slice-in-phases-2.ensures
          ∙ ap (λ (z : List Vector). taken_of (slice_get c.args.bound.now.samples n) phase (store_of c.step.new.self.prev.values) (store_of z) n k) done.samples
          ∙ early_more r phase (slice_get c.args.bound.now.samples n) (store_of c.step.new.self.prev.values) (store_of c.phases.self.values) n k (done.stands first (c.phases.invariant.stands first stands) d e r h)
          (c.phases.invariant.values first stands d e r h n k);
    }

pub returns-clause-least : goal.returns-clause-least
returns-clause-least c first stands d e r h n k =
    c.phases.invariant.values first stands d e r h n k ∙ early_all c.args.bound.now.phases c.phases.phase r (slice_get c.args.bound.now.samples n) k h.run.run.long c.phases-test.false
