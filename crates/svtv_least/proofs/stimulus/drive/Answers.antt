use Rattle.std.proofs.Common.{◌≡◌, ℕ, ◌-◌, ◌<◌, List, [], ◌∷◌, length, map, drop, get_or, None, refl, ap, sym, ◌∙◌, subst, arith}
use Rattle.fourvec.specs.declared.Bit.{Bit}
use Rattle.event_sim.specs.Sims.{store_of}
use Rattle.svtv_table.specs.declared.bound.Drive.{Drive}
use Rattle.svtv_table.specs.Stimuli.{drive_value, values_of}
use Rattle.svtv_runs.specs.Runs.{Asks, driven_rows}
use Rattle.svtv_runs.specs.Leasts.{set_over}
use Rattle.svtv_least.specs.Running.{Gives, IsGiven}
use Rattle.svtv_least.proofs.Setting.{drive_set, given_row, lengths, no_rows, row_gives, row_more, row_wire}
use Rattle.svtv_least.proofs.stimulus.drive.Goals as goal

-- what rows drive in the phase, and what one of them does
abbrev asks : (choice : List (List Bit)) (phase : ℕ) → List (ℕ × List Drive) → Asks
asks choice phase rows = driven_rows (values_of choice rows) phase

abbrev front : (choice : List (List Bit)) (phase : ℕ) → ℕ × List Drive → Asks
front choice phase row = (row.0, get_or (map (drive_value choice) row.1) phase None) ∷ []

pub rows-init : goal.rows-init
rows-init c = record {
  inside = omega arith;
  widths = refl;
  stim = no_rows (asks c.args.choice.now c.args.phase) refl c.args.rows.now (length c.args.rows.now) c.args.stim.now (omega arith);
}

pub put_drive-requires-clause-wire : goal.put_drive-requires-clause-wire
put_drive-requires-clause-wire c =
    let gives : ℕ → Drive → Type 0 = Gives c.args.choice.now in
    row_wire gives c.rows.stim c.args.phase c.index-rows-at.result
    (given_row gives c.args.stim.now c.rows.stim c.args.phase c.args.rows.now (c.rows.at - 1) c.index-rows-at.result c.rows.invariant.widths c.requires (let a = c.rows.invariant.inside in let b = c.rows-test.true in omega arith) c.index-rows-at.is)

pub put_drive-requires-clause-gives : goal.put_drive-requires-clause-gives
put_drive-requires-clause-gives c =
    let gives : ℕ → Drive → Type 0 = Gives c.args.choice.now in
    let row = c.index-rows-at.result in
    let is : IsGiven gives (lengths c.rows.stim) c.args.phase row = given_row gives c.args.stim.now c.rows.stim c.args.phase c.args.rows.now (c.rows.at - 1) row c.rows.invariant.widths c.requires (let a = c.rows.invariant.inside in let b = c.rows-test.true in omega arith) c.index-rows-at.is in
    let cell : c.index-as_slice-phase.result ≡ get_or row.1 c.args.phase c.index-as_slice-phase.result = c.index-as_slice-phase.is ∙ ap (λ (z : List Drive). get_or z c.args.phase c.index-as_slice-phase.result) c.as_slice.ensures in
    subst (gives (length (get_or c.rows.stim row.0 []))) (sym cell) (row_gives gives c.rows.stim c.args.phase row is c.args.phase c.index-as_slice-phase.result is.there)

pub rows-preserved : goal.rows-preserved
rows-preserved c =
    let gives : ℕ → Drive → Type 0 = Gives c.args.choice.now in
    let row = c.index-rows-at.result in
    let choice = c.args.choice.now in
    let inside : c.rows.at - 1 < length c.args.rows.now = (let a = c.rows.invariant.inside in let b = c.rows-test.true in omega arith) in
    let is : IsGiven gives (lengths c.rows.stim) c.args.phase row = given_row gives c.args.stim.now c.rows.stim c.args.phase c.args.rows.now (c.rows.at - 1) row c.rows.invariant.widths c.requires inside c.index-rows-at.is in
    let cell : c.index-as_slice-phase.result ≡ get_or row.1 c.args.phase c.index-as_slice-phase.result = c.index-as_slice-phase.is ∙ ap (λ (z : List Drive). get_or z c.args.phase c.index-as_slice-phase.result) c.as_slice.ensures in
    record {
      inside = (let a = c.rows.invariant.inside in omega arith);
      widths = c.put_drive.ensures.widths ∙ c.rows.invariant.widths;
      stim = row_more (asks choice c.args.phase) (front choice c.args.phase) (λ x xs. refl) c.args.rows.now (c.rows.at - 1) c.rows.at (store_of c.args.stim.now) c.rows.stim c.put_drive.new.stim row inside (let b = c.rows-test.true in omega arith) c.index-rows-at.is
          (drive_set choice row.0 c.args.phase row.1 c.index-as_slice-phase.result c.rows.stim c.put_drive.new.stim is.there cell c.put_drive.ensures.stim)
          c.rows.invariant.stim;
    }

pub returns-clause-stim : goal.returns-clause-stim
returns-clause-stim c = λ n k.
    let done : c.rows.at ≡ 0 = (let a = c.rows-test.false in omega arith) in
    c.rows.invariant.stim n k ∙ ap (λ m. set_over (asks c.args.choice.now c.args.phase (drop m c.args.rows.now)) (store_of c.args.stim.now) n k) done
