-- A design under the tables of its reset and of its periods.
use Rattle.std.proofs.Common.{◌≡◌, ℕ, ◌+◌, ◌<◌, ◌≤◌, Bool, false, List, [], ◌∷◌, ◌++◌, length, get_or, map, take, Option, Some, None, refl, sym, ◌∙◌, ap, subst, arith, inl, inr}
use Rattle.std.specs.Prelude.{IsTrue}
use Rattle.std.specs.List.{flat_map}
use Rattle.std.proofs.lemmas.Bool.{false≢true}
use Rattle.std.proofs.lemmas.List.{get_or-map, length-map, map-append}
use Rattle.fourvec.specs.declared.Bit.{Bit}
use Rattle.sv_meaning.specs.Designs.{Design}
use Rattle.sv_outside.specs.declared.refusal.TextErr.TheVariants as e
use Rattle.sv_outside.specs.declared.text.Signal.{Signal}
use Rattle.svtv_runs.specs.Runs.{AreApart}
use Rattle.svtv_periods.specs.Periods.{AreAlike, AreLast, IsCourse, Sampling, sampling}
use Rattle.svtv_table.specs.Binding.{bind_faults, bound_of, driven_by, drives_of, overridden_by, overs_of, variables_of}
use Rattle.svtv_table.specs.Stimuli.{settings_by, settings_in, settings_of, stimuli_by, stimuli_of, values_of}
use Rattle.svtv_table.specs.declared.bound.Bound.{Bound}
use Rattle.svtv_table.specs.declared.bound.Sample.{Sample}
use Rattle.svtv_table.specs.declared.bound.VarDecl.{VarDecl}
use Rattle.svtv_texts.proofs.Verdicts.{map_more, take_more, take_whole}
use Rattle.table_cells.specs.declared.table.Row.{Row}
use Rattle.table_cells.specs.declared.table.RowKind.{RowKind}
use Rattle.table_cells.specs.declared.table.RowKind.TheVariants.{In, Over, Out}
use Rattle.table_cells.specs.declared.table.Table.{Table}
use Rattle.svtv_files.specs.Files.{Text, Told, IsTableFile, course_of, samples_in, stretch_in}
use Rattle.svtv_files.specs.Refusals.{IsCourseFiles, LeavesCourse, LeavesSetup, RefusesCourse, RefusesSetup, RefusesTable, SampleAlike, at_first}
use Rattle.svtv_files.specs.Stopping.{IsOf, Stops}
use Rattle.svtv_files.specs.declared.stop.Stop.{Stop}
use Rattle.svtv_files.specs.declared.stop.Stop.TheVariants.{Refused, Unread, Memory}
use Rattle.svtv_commands.specs.Courses.{AreLastIn, AreTables, IsUnlike}
use Rattle.svtv_commands.specs.Inputs.{Stands}
use Rattle.svtv_commands.specs.declared.course.Course as loaded
use Rattle.svtv_commands.specs.declared.course.Side.TheVariants as side
use Rattle.svtv_commands.specs.declared.setup.Setup.{Setup}
use Rattle.svtv_commands.specs.declared.table.Loaded.{Loaded}
use Rattle.svtv_commands.proofs.Benches as benches
use Rattle.svtv_commands.proofs.Tables.{StopsAs}

-- ---- both tables

module _ (told : Told) (d a b : Text) (top : Option Text) (x : Setup) (s : Stands told d a top x) where
  period_stop : (stop : Stop) → StopsAs b (RefusesTable told b s.design.wires) stop → Stops (RefusesCourse told d a b top) (LeavesCourse told d a b top) stop
  period_stop (Refused file r) h = inr (inl (s.design, x.table, s.setup, (h.0, h.1)))
  period_stop (Unread file place) h = inr (s.design, x.table, s.setup, (h.0, h.1))
  period_stop Memory h = tt

  pub period_turn : (new : Told) (wires : List Signal) (stop : Stop) → new ≡ told → wires ≡ x.flat.wires → StopsAs b (RefusesTable new b wires) stop → Stops (RefusesCourse told d a b top) (LeavesCourse told d a b top) stop
  period_turn new wires stop n w h =
      period_stop stop
      (subst (λ (ws : List Signal). StopsAs b (RefusesTable told b ws) stop) (w ∙ s.elaborated.wires) (subst (λ (y : Told). StopsAs b (RefusesTable y b wires) stop) n h))

-- ---- lists of samples

alike_at : (xs ys : List Sample) (k : ℕ) (x y : Sample) → AreAlike xs ys → k < length xs → x ≡ get_or xs k x → y ≡ get_or ys k y → sampling x ≡ sampling y
alike_at xs ys k x y h l e f =
    let long : length xs ≡ length ys = sym (length-map xs sampling) ∙ ap length h ∙ length-map ys sampling in
    ap sampling e ∙ sym (get_or-map sampling xs k x (sampling x) l) ∙ ap (λ (ss : List Sampling). get_or ss k (sampling x)) h ∙ get_or-map sampling ys k y (sampling x) (omega (arith, l, long)) ∙ ap sampling (sym f)

-- where two samples in one place differ, so do the lists
pub not_alike : (xs ys : List Sample) (k : ℕ) (x y : Sample) (b : Bool) → k < length xs → x ≡ get_or xs k x → y ≡ get_or ys k y → b ≡ false → (sampling x ≡ sampling y → IsTrue b) → AreAlike xs ys → ⊥
not_alike xs ys k x y b l e f none same h = false≢true (sym none ∙ same (alike_at xs ys k x y h l e f))

pub alike_more : (xs ys : List Sample) (i : ℕ) (x y : Sample) → i < length xs → i < length ys → x ≡ get_or xs i x → y ≡ get_or ys i y → sampling x ≡ sampling y → map sampling (take i xs) ≡ map sampling (take i ys)
    → map sampling (take (i + 1) xs) ≡ map sampling (take (i + 1) ys)
alike_more xs ys i x y l m e f same h =
    ap (map sampling) (take_more xs i x l) ∙ map_more sampling (take i xs) (get_or xs i x) ∙ ap (λ (s : Sample). map sampling (take i xs) ++ sampling s ∷ []) (sym e)
    ∙ (λ j. h j ++ same j ∷ [])
    ∙ ap (λ (s : Sample). map sampling (take i ys) ++ sampling s ∷ []) f ∙ sym (map_more sampling (take i ys) (get_or ys i y)) ∙ sym (ap (map sampling) (take_more ys i y m))

pub alike_whole : (xs ys : List Sample) (i : ℕ) → length xs ≤ i → length ys ≤ i → map sampling (take i xs) ≡ map sampling (take i ys) → AreAlike xs ys
alike_whole xs ys i l m h = sym (ap (map sampling) (take_whole xs i l)) ∙ h ∙ ap (map sampling) (take_whole ys i m)

-- ---- what both sample

-- a bound table samples what the table does
pub last_by : (design : Design) (table : Table) (bound : Bound) → bound ≡ bound_of design.wires table → AreLastIn bound → AreLast (stretch_in design table)
unfolding bound_of
last_by design table bound e h = subst (λ (t : Bound). AreLastIn t) e h

pub last_back : (design : Design) (table : Table) (bound : Bound) → bound ≡ bound_of design.wires table → AreLast (stretch_in design table) → AreLastIn bound
unfolding bound_of
last_back design table bound e h = subst (λ (t : Bound). AreLastIn t) (sym e) h

samples_by : (design : Design) (table : Table) (bound : Bound) → bound ≡ bound_of design.wires table → bound.samples ≡ samples_in design table
unfolding bound_of
samples_by design table bound e = ap (λ (t : Bound). t.samples) e

alike_by : (design : Design) (reset period : Table) (first later : Bound) → first ≡ bound_of design.wires reset → later ≡ bound_of design.wires period → AreAlike first.samples later.samples
    → AreAlike (samples_in design reset) (samples_in design period)
alike_by design reset period first later e f h =
    subst (λ (xs : List Sample). AreAlike xs (samples_in design period)) (samples_by design reset first e) (subst (λ (ys : List Sample). AreAlike first.samples ys) (samples_by design period later f) h)

alike_back : (design : Design) (reset period : Table) (first later : Bound) → first ≡ bound_of design.wires reset → later ≡ bound_of design.wires period → AreAlike (samples_in design reset) (samples_in design period)
    → AreAlike first.samples later.samples
alike_back design reset period first later e f h =
    subst (λ (xs : List Sample). AreAlike xs later.samples) (sym (samples_by design reset first e)) (subst (λ (ys : List Sample). AreAlike (samples_in design reset) ys) (sym (samples_by design period later f)) h)

pub sample_alike : (design : Design) (reset period : Table) (first later : Bound) → first ≡ bound_of design.wires reset → later ≡ bound_of design.wires period → IsUnlike first later None → SampleAlike (course_of design reset period)
sample_alike design reset period first later e f h = (last_by design reset first e h.0, (last_by design period later f h.1.0, alike_by design reset period first later e f h.1.1))

module _ (told : Told) (d a b : Text) (top : Option Text) (x : loaded.Course) (t : AreTables told d a b top x) where
  -- the table of the reset samples in a phase that is not its last
  pub reset_turn : (stop : Stop) → IsUnlike x.reset.bound x.period.bound (Some side.Reset) → IsOf a (e.No (record { number = 46; place = at_first; count = 0 })) stop
      → Stops (RefusesCourse told d a b top) (LeavesCourse told d a b top) stop
  reset_turn (Refused file r) u h =
      inr (inr (t.design, x.reset.table, x.period.table, t.files, record { is = h.0; cause = inl (h.1, λ last. u (last_back t.design x.reset.table x.reset.bound t.reset last)) }))
  reset_turn (Unread file place) u h = absurd h
  reset_turn Memory u h = tt

  -- or that of the period does, or both sample unlike
  pub unlike_turn : (stop : Stop) → IsUnlike x.reset.bound x.period.bound (Some side.Period) → IsOf b (e.No (record { number = 46; place = at_first; count = 0 })) stop
      → Stops (RefusesCourse told d a b top) (LeavesCourse told d a b top) stop
  unlike_turn (Refused file r) u h =
      inr (inr (
        t.design,
        x.reset.table,
        x.period.table,
        t.files,
        record {
          is = h.0;
          cause = inr (
            h.1,
            (
              last_by t.design x.reset.table x.reset.bound t.reset u.0,
              λ k. u.1 (last_back t.design x.period.table x.period.bound t.period k.0, alike_back t.design x.reset.table x.period.table x.reset.bound x.period.bound t.reset t.period k.1),
            ),
          );
        },
      ))
  unlike_turn (Unread file place) u h = absurd h
  unlike_turn Memory u h = tt

-- ---- rows of one kind

abbrev Rows : Type 0 → Type 0
Rows T = List (ℕ × T)

abbrev wires_in : {T : Type 0} → Rows T → List ℕ
wires_in rows = map (λ row. row.0) rows

abbrev Apart : {T : Type 0} → T → Rows T → Type 0
Apart none rows = (i j : ℕ) → i < length rows → j < length rows → (get_or rows i (0, none)).0 ≡ (get_or rows j (0, none)).0 → i ≡ j

-- rows of the same wires are apart as well
apart_by : {T U : Type 0} (none : T) (nothing : U) (rows : Rows T) (others : Rows U) → wires_in others ≡ wires_in rows → Apart none rows → Apart nothing others
apart_by {T} {U} none nothing rows others e h i j l k same =
    let long : length others ≡ length rows = sym (length-map others (λ (row : ℕ × U). row.0)) ∙ ap length e ∙ length-map rows (λ (row : ℕ × T). row.0) in
    let at : (n : ℕ) → n < length others → (get_or rows n (0, none)).0 ≡ (get_or others n (0, nothing)).0 =
    λ n m. sym (get_or-map (λ (row : ℕ × T). row.0) rows n (0, none) 0 (omega (arith, m, long))) ∙ ap (λ (ns : List ℕ). get_or ns n 0) (sym e) ∙ get_or-map (λ (row : ℕ × U). row.0) others n (0, nothing) 0 m in
    h i j (omega (arith, l, long)) (omega (arith, k, long)) (at i l ∙ same ∙ sym (at j k))

module _ (choice : List (List Bit)) (wires : List Signal) (vars : List VarDecl) where
  driven_wires : (kind : RowKind) (row : Row) → wires_in (stimuli_by choice wires vars kind row) ≡ wires_in (driven_by wires vars kind row)
  driven_wires In row = refl
  driven_wires Over row = refl
  driven_wires Out row = refl

  set_wires : (kind : RowKind) (row : Row) → wires_in (settings_by choice wires vars kind row) ≡ wires_in (overridden_by wires vars kind row)
  set_wires In row = refl
  set_wires Over row = refl
  set_wires Out row = refl

  all_wires : {T U : Type 0} (f : Row → Rows T) (g : Row → Rows U) → ((row : Row) → wires_in (f row) ≡ wires_in (g row)) → (rows : List Row) → wires_in (flat_map f rows) ≡ wires_in (flat_map g rows)
  all_wires f g h [] = refl
  all_wires {T} {U} f g h (row ∷ rows) =
      map-append (λ (r : ℕ × T). r.0) (f row) (flat_map f rows)
      ∙ (λ i. h row i ++ all_wires f g h rows i)
      ∙ sym (map-append (λ (r : ℕ × U). r.0) (g row) (flat_map g rows))

  values_wires : {T U : Type 0} (f : T → U) (rows : Rows (List T)) → wires_in (map (λ (row : ℕ × List T). (row.0, map f row.1)) rows) ≡ wires_in rows
  values_wires f [] = refl
  values_wires f (row ∷ rows) = ap (λ (ns : List ℕ). row.0 ∷ ns) (values_wires f rows)

-- no wire has two rows of one kind, whatever is chosen
pub apart : (design : Design) (table : Table) → bind_faults design.wires table ≡ [] → (choice : List (List Bit)) → AreApart ((stretch_in design table).asked choice)
unfolding bound_of
apart design table h choice =
    let wires = design.wires in
    let vars = variables_of wires table.rows in
    let known = benches.apart wires table h choice in
    record {
      stimuli = apart_by [] [] (values_of choice (drives_of wires vars table.rows)) (stimuli_of choice wires vars table.rows)
          (all_wires choice wires vars (λ (row : Row). stimuli_by choice wires vars row.kind row) (λ (row : Row). driven_by wires vars row.kind row) (λ row. driven_wires choice wires vars row.kind row) table.rows
          ∙ sym (values_wires choice wires vars _ (drives_of wires vars table.rows))) known.stimuli;
      settings = apart_by [] [] (settings_in choice (overs_of wires vars table.rows)) (settings_of choice wires vars table.rows)
          (all_wires choice wires vars (λ (row : Row). settings_by choice wires vars row.kind row) (λ (row : Row). overridden_by wires vars row.kind row) (λ row. set_wires choice wires vars row.kind row) table.rows
          ∙ sym (values_wires choice wires vars _ (overs_of wires vars table.rows))) known.settings;
    }

-- both tables may be put together
pub is_course : (told : Told) (d a b : Text) (top : Option Text) (design : Design) (reset period : Table) → IsCourseFiles told d a b top design reset period → SampleAlike (course_of design reset period)
    → IsCourse (course_of design reset period)
is_course told d a b top design reset period files h = record {
  apart = apart design reset files.is_reset.clear;
  period_apart = apart design period files.is_period.clear;
  at_end = h.0;
  period_at_end = h.1.0;
  alike = h.1.1;
}
