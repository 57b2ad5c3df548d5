use Rattle.std.proofs.Common.{◌≡◌, ◌∙◌, ℕ, List, length, map, ap, sym, subst}
use Rattle.std.specs.Prelude.{All, Option}
use Rattle.svex_shape.specs.Values.{Vector}
use Rattle.driver_resolve.specs.Drivers.{widths_of}
use Rattle.svtv_table.specs.declared.bound.Drive.{Drive}
use Rattle.fourvec.specs.declared.Bit.TheVariants.{Unknown}
use Rattle.settling.specs.Settling.{Store}
use Rattle.flat_net.specs.Flats.{IsLeastSettling}
use Rattle.event_sim.specs.Sims.{store_of}
use Rattle.svtv_table.specs.Stimuli.{settings_in, values_of}
use Rattle.svtv_runs.specs.Runs.{Asked, asks_of, driven_rows, overrides_in, set_rows, stimuli_in}
use Rattle.svtv_runs.specs.Leasts.{least_overriding, set_over}
use Rattle.svtv_least.proofs.Planning.{rows_set}
use Rattle.svtv_least.proofs.Setting.{IsOver, least_outside, outside_set}
use Rattle.svtv_least.specs.Running.{Gives, IsGiven, Sets}
use Rattle.svtv_least.proofs.Fitting.{apart, drives_given, overs_given}
use Rattle.svtv_least.proofs.Phases.{as_many, next_behind}
use Rattle.svtv_least.proofs.runner.Runner.step.Goals as goal

pub copy-requires : goal.copy-requires
copy-requires c =
    let serves = c.requires.serves in
    ap (λ (z : List Vector). length z) c.as_slice.ensures ∙ as_many c.args.self.now.blank c.args.self.now.stim.values (widths_of c.args.flat.now.wires) serves.blank serves.stim

pub drive-requires : goal.drive-requires
drive-requires c =
    let widths : map (λ (v : Vector). length v) c.copy.new.into ≡ widths_of c.args.flat.now.wires = ap (map (λ (v : Vector). length v)) (c.copy.ensures ∙ c.as_slice.ensures) ∙ c.requires.serves.blank in
    subst (λ ws. All (IsGiven (Gives c.args.choice.now) ws c.args.phase) c.as_slice-2.result.now) (sym widths)
    (drives_given c.args.flat.now.wires c.args.bound.now c.args.choice.now c.args.phase c.as_slice-2.result.now c.requires.bound c.requires.choice c.requires.phase c.as_slice-2.ensures)

pub override_wires-requires : goal.override_wires-requires
override_wires-requires c =
    let widths : map (λ (v : Vector). length v) c.drive.new.stim ≡ widths_of c.args.flat.now.wires = c.drive.ensures.widths ∙ ap (map (λ (v : Vector). length v)) (c.copy.ensures ∙ c.as_slice.ensures) ∙ c.requires.serves.blank in
    subst (λ ws. All (IsGiven (Sets c.args.choice.now) ws c.args.phase) c.as_slice-3.result.now) (sym widths)
    (overs_given c.args.flat.now.wires c.args.bound.now c.args.choice.now c.args.phase c.as_slice-3.result.now c.requires.bound c.requires.choice c.requires.phase c.as_slice-3.ensures)

pub settle-requires-clause-plan : goal.settle-requires-clause-plan
settle-requires-clause-plan c = (c.args.bound.now.overs, c.args.bound.now.phases, c.requires.phase, c.requires.serves.plan)

pub settle-requires-clause-prev : goal.settle-requires-clause-prev
settle-requires-clause-prev c = c.requires.serves.prev

pub settle-requires-clause-stim : goal.settle-requires-clause-stim
settle-requires-clause-stim c = c.override_wires.ensures.widths ∙ c.drive.ensures.widths ∙ ap (map (λ (v : Vector). length v)) (c.copy.ensures ∙ c.as_slice.ensures) ∙ c.requires.serves.blank

pub returns-clause-serves : goal.returns-clause-serves
returns-clause-serves c =
    let serves = c.requires.serves in
    record {
      plan = c.settle.ensures.plan c.args.bound.now.overs c.args.bound.now.phases serves.plan;
      prev = c.settle.ensures.prev;
      stim = c.override_wires.ensures.widths ∙ c.drive.ensures.widths ∙ ap (map (λ (v : Vector). length v)) (c.copy.ensures ∙ c.as_slice.ensures) ∙ serves.blank;
      blank = serves.blank;
      unknown = serves.unknown;
      values = serves.values;
      blank_values = serves.blank_values;
      unknown_values = serves.unknown_values;
    }

pub returns-clause-stands : goal.returns-clause-stands
returns-clause-stands c first behind d e r h =
    let flat = c.args.flat.now in
    let phase = c.args.phase in
    let choice = c.args.choice.now in
    let bound = c.args.bound.now in
    let serves = c.requires.serves in
    let asked : Asked = asks_of choice bound in
    let before : Store = store_of c.args.self.now.prev.values in
    let now : Store = store_of c.settle.new.prev.values in
    let wires : List ℕ = (least_overriding asked phase).wires in
    let blank : (n k : ℕ) → store_of c.copy.new.into n k ≡ Unknown = λ n k. ap (λ (z : List Vector). store_of z n k) (c.copy.ensures ∙ c.as_slice.ensures) ∙ serves.unknown n k in
    let stimuli : IsOver c.drive.new.stim (stimuli_in asked phase) (store_of c.copy.new.into) = λ n k.
    c.drive.ensures.stim n k ∙ ap (λ (rows : List (ℕ × List Drive)). set_over (driven_rows (values_of choice rows) phase) (store_of c.copy.new.into) n k) c.as_slice-2.ensures in
    let settings : IsOver c.override_wires.new.stim (overrides_in asked phase) (store_of c.drive.new.stim) = λ n k.
    c.override_wires.ensures.stim n k ∙ ap (λ (rows : List (ℕ × List (Option Drive))). set_over (set_rows (settings_in choice rows) phase) (store_of c.drive.new.stim) n k) c.as_slice-3.ensures in
    let least : IsLeastSettling flat wires (least_outside asked phase) before now = subst (λ (stim : Store). IsLeastSettling flat wires stim before now)
    (outside_set asked phase c.copy.new.into c.drive.new.stim c.override_wires.new.stim blank stimuli settings)
    (c.settle.ensures.least bound.overs bound.phases wires serves.plan c.requires.phase (rows_set choice bound.overs phase)) in
    next_behind d flat asked bound.phases phase first r before now (apart flat.wires bound c.requires.bound choice) e h c.requires.phase (behind d e r h) least
