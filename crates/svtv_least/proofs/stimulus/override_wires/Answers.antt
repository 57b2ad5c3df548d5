use Rattle.std.proofs.Common.{◌≡◌, ℕ, ◌-◌, ◌<◌, List, [], ◌++◌, length, map, drop, get_or, Option, None, refl, ap, sym, ◌∙◌, subst, arith}
use Rattle.std.specs.Prelude.{All}
use Rattle.settling.specs.Settling.{Store}
use Rattle.fourvec.specs.declared.Bit.{Bit}
use Rattle.event_sim.specs.Sims.{store_of}
use Rattle.svtv_table.specs.declared.bound.Drive.{Drive}
use Rattle.svtv_table.specs.Stimuli.{setting_value, settings_in}
use Rattle.svtv_runs.specs.Runs.{Asks, set_if, set_rows}
use Rattle.svtv_runs.specs.Leasts.{set_over}
use Rattle.svtv_least.specs.Running.{IsGiven, Sets}
use Rattle.svtv_least.proofs.Setting.{IsOver, given_row, lengths, no_rows, row_gives, row_more, row_wire}
use Rattle.svtv_least.proofs.stimulus.override_wires.Goals as goal

-- what rows set in the phase, and what one of them does
abbrev asks : (choice : List (List Bit)) (phase : ℕ) → List (ℕ × List (Option Drive)) → Asks
asks choice phase rows = set_rows (settings_in choice rows) phase

abbrev front : (choice : List (List Bit)) (phase : ℕ) → ℕ × List (Option Drive) → Asks
front choice phase row = set_if row.0 (get_or (map (setting_value choice) row.1) phase None)

pub rows-init : goal.rows-init
rows-init c = record {
  inside = omega arith;
  widths = refl;
  stim = no_rows (asks c.args.choice.now c.args.phase) refl c.args.rows.now (length c.args.rows.now) c.args.stim.now (omega arith);
}

pub put_setting-requires-clause-wire : goal.put_setting-requires-clause-wire
put_setting-requires-clause-wire c =
    let sets : ℕ → Option Drive → Type 0 = Sets c.args.choice.now in
    row_wire sets c.rows.stim c.args.phase c.index-rows-at.result
    (given_row sets c.args.stim.now c.rows.stim c.args.phase c.args.rows.now (c.rows.at - 1) c.index-rows-at.result c.rows.invariant.widths c.requires (let a = c.rows.invariant.inside in let b = c.rows-test.true in omega arith) c.index-rows-at.is)

pub put_setting-requires-clause-gives : goal.put_setting-requires-clause-gives
put_setting-requires-clause-gives c =
    let sets : ℕ → Option Drive → Type 0 = Sets c.args.choice.now in
    let row = c.index-rows-at.result in
    let is : IsGiven sets (lengths c.rows.stim) c.args.phase row = given_row sets c.args.stim.now c.rows.stim c.args.phase c.args.rows.now (c.rows.at - 1) row c.rows.invariant.widths c.requires (let a = c.rows.invariant.inside in let b = c.rows-test.true in omega arith) c.index-rows-at.is in
    subst (λ (z : List (Option Drive)). All (sets (length (get_or c.rows.stim row.0 []))) z) (sym c.as_slice.ensures) (row_gives sets c.rows.stim c.args.phase row is)

pub rows-preserved : goal.rows-preserved
rows-preserved c =
    let row = c.index-rows-at.result in
    let choice = c.args.choice.now in
    let inside : c.rows.at - 1 < length c.args.rows.now = (let a = c.rows.invariant.inside in let b = c.rows-test.true in omega arith) in
    record {
      inside = (let a = c.rows.invariant.inside in omega arith);
      widths = c.put_setting.ensures.widths ∙ c.rows.invariant.widths;
      stim = row_more (asks choice c.args.phase) (front choice c.args.phase) (λ x xs. refl) c.args.rows.now (c.rows.at - 1) c.rows.at (store_of c.args.stim.now) c.rows.stim c.put_setting.new.stim row inside (let b = c.rows-test.true in omega arith) c.index-rows-at.is
          (subst (λ (z : List (Option Drive)). (more : Asks) (before : Store) → IsOver c.rows.stim more before → IsOver c.put_setting.new.stim (set_if row.0 (get_or (map (setting_value choice) z) c.args.phase None) ++ more) before) c.as_slice.ensures c.put_setting.ensures.stim)
          c.rows.invariant.stim;
    }

pub returns-clause-stim : goal.returns-clause-stim
returns-clause-stim c = λ n k.
    let done : c.rows.at ≡ 0 = (let a = c.rows-test.false in omega arith) in
    c.rows.invariant.stim n k ∙ ap (λ m. set_over (asks c.args.choice.now c.args.phase (drop m c.args.rows.now)) (store_of c.args.stim.now) n k) done
