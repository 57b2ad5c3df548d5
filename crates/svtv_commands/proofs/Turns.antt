-- Files in their turn: those before them are legal.
use Rattle.std.proofs.Common.{◌≡◌, Bool, true, false, List, [], map, Option, refl, sym, ◌∙◌, ap, subst, inr}
use Rattle.std.specs.List.{All, IsDistinct}
use Rattle.std.specs.Str.{bytes_eq}
use Rattle.flat_net.specs.declared.flat.Flat.{Flat}
use Rattle.fourvec.specs.declared.Bit.{Bit}
use Rattle.goal_text.specs.declared.goal.Goal.{Goal}
use Rattle.sv_elab.specs.Elaborated.{IsElaborated}
use Rattle.sv_elab.proofs.Paths.{sound_parts}
use Rattle.sv_meaning.specs.Designs.{Design}
use Rattle.sv_outside.specs.declared.text.Signal.{Signal}
use Rattle.svex_shape.specs.declared.shape.Shape.{Shape}
use Rattle.svtv_choices.proofs.Values.{values_choice}
use Rattle.svtv_report.specs.Shown.{sample_texts}
use Rattle.svtv_report.specs.Texts.{value_lines}
use Rattle.svtv_texts.specs.Passed.{AreAsWide}
use Rattle.svtv_runs.specs.Runs.{Run, IsLeastRun, asks_of}
use Rattle.svtv_runs.proofs.Runs.{least_run_stands}
use Rattle.svtv_table.specs.Binding.{HasWidth, IsBound, bound_of}
use Rattle.svtv_table.specs.Names.{name_of}
use Rattle.svtv_table.specs.Stimuli.{IsChoice}
use Rattle.svtv_table.specs.declared.bound.Bound.{Bound}
use Rattle.svtv_table.specs.declared.bound.Sample.{Sample}
use Rattle.svtv_table.specs.declared.bound.VarDecl.{VarDecl}
use Rattle.svtv_table.proofs.Bounds as bounds
use Rattle.svtv_table.proofs.Formed.{is_formed}
use Rattle.svtv_table.proofs.Shape.{is_bound}
use Rattle.svtv_table.specs.Reading.{IsWellFormed}
use Rattle.svtv_texts.specs.Phases.{phases_in}
use Rattle.svtv_verdicts.specs.Benches.{IsLeastUnder, sampled_in}
use Rattle.table_cells.specs.declared.table.Table.{Table}
use Rattle.vcd_print.specs.Dumps.{IsDumpOf}
use Rattle.vcd_print.specs.Printed.{HasParts, dump_text}
use Rattle.svtv_commands.specs.Done.{Simulated, Simulates, Traces}
use Rattle.svtv_files.specs.Files.{Text, Told, IsDesignFile, IsValuesFile, bench_of, samples_in, vars_of}
use Rattle.svtv_commands.specs.Inputs.{AreGoalsIn, RefusesPosed, Stands}
use Rattle.svtv_files.specs.Refusals.{LeavesProof, LeavesSetup, LeavesSimulation, RefusesGoals, RefusesSetup, RefusesSimulation, RefusesTable, RefusesValues}
use Rattle.svtv_files.specs.Stopping.{Stops}
use Rattle.svtv_commands.specs.declared.setup.Setup.{Setup}
use Rattle.svtv_files.specs.declared.stop.Stop.{Stop}
use Rattle.svtv_files.specs.declared.stop.Stop.TheVariants.{Refused, Unread, Memory}
use Rattle.svtv_commands.proofs.Benches.{poses, samples_wide}
use Rattle.svtv_commands.proofs.Paths.{can_be_dumped}
use Rattle.svtv_commands.proofs.Tables.{StopsAs}

pub same_told : (new told : Told) → ((other : Text) → new other ≡ told other) → new ≡ told
same_told new told h = λ i other. h other i

-- ---- the table

table_stop : (told : Told) (d t : Text) (top : Option Text) (design : Design) (stop : Stop) → IsDesignFile told d top design → StopsAs t (RefusesTable told t design.wires) stop
    → Stops (RefusesSetup told d t top) (LeavesSetup told d t top) stop
table_stop told d t top design (Refused file r) is h = inr (h.0, design, is, h.1)
table_stop told d t top design (Unread file place) is h = inr (h.0, h.1, design, is)
table_stop told d t top design Memory is h = tt

pub table_turn : (told new : Told) (d t : Text) (top : Option Text) (design : Design) (flat : Flat) (wires : List Signal) (stop : Stop) → new ≡ told → wires ≡ flat.wires → IsDesignFile told d top design
    → IsElaborated design flat → StopsAs t (RefusesTable new t wires) stop → Stops (RefusesSetup told d t top) (LeavesSetup told d t top) stop
table_turn told new d t top design flat wires stop n w is el h =
    table_stop told d t top design stop is
    (subst (λ (ws : List Signal). StopsAs t (RefusesTable told t ws) stop) (w ∙ el.wires) (subst (λ (x : Told). StopsAs t (RefusesTable x t wires) stop) n h))

-- The choice of a file of values, and the least run under it: of the design, and by what was loaded for it.
record HasRun (told : Told) (v : Text) (design : Design) (table : Table) (bound : Bound) (own : List (List Bit)) : Type 0 where
  choice : List (List Bit)
  is_choice : IsValuesFile told v (vars_of design table) choice
  run : Run
  least : IsLeastUnder (bench_of design table) choice run
  loaded : IsLeastRun design (asks_of own bound) bound.phases run

-- ---- behind a design and a table

module _ (told : Told) (d t : Text) (top : Option Text) (x : Setup) (s : Stands told d t top x) where
  wires_wide : All (λ w. HasWidth w.width) s.design.wires
  wires_wide = subst (λ ws. All (λ (w : Signal). HasWidth w.width) ws) s.elaborated.wires (λ i c l. let signal = s.elaborated.sound.wires i c l in (signal.some, signal.most))

  vars_are : x.bound.vars ≡ vars_of s.design x.table
  unfolding bound_of
  vars_are = ap (λ (b : Bound). b.vars) s.bound

  samples_are : x.bound.samples ≡ samples_in s.design x.table
  unfolding bound_of
  samples_are = ap (λ (b : Bound). b.samples) s.bound

  pub vars_wide : (vars : List VarDecl) → vars ≡ x.bound.vars → All (λ v. HasWidth v.width) vars
  vars_wide vars h = subst (λ vs. All (λ (v : VarDecl). HasWidth v.width) vs) (sym (h ∙ vars_are)) (bounds.vars_wide s.design.wires x.table.rows wires_wide)

  pub samples_all_wide : (samples : List Sample) → samples ≡ x.bound.samples → All (λ v. HasWidth v.width) samples
  samples_all_wide samples h = subst (λ vs. All (λ (v : Sample). HasWidth v.width) vs) (sym (h ∙ samples_are)) (samples_wide s.design.wires wires_wide x.table.rows)

  pub vars_distinct : (vars : List VarDecl) → vars ≡ x.bound.vars → IsDistinct bytes_eq (map name_of vars)
  vars_distinct vars h = subst (λ vs. IsDistinct bytes_eq (map name_of vs)) (sym (h ∙ vars_are)) (bounds.vars_distinct s.design.wires x.table.rows)

  -- the table fits the wires
  pub fits : IsBound x.flat.wires x.bound
  fits =
      let read = s.setup.is_table.read in
      let formed : IsWellFormed x.table = subst IsWellFormed (sym read.is) (is_formed read.records read.clear) in
      subst (λ (b : Bound). IsBound x.flat.wires b) (sym s.bound)
      (subst (λ (ws : List Signal). IsBound ws (bound_of s.design.wires x.table)) (sym s.elaborated.wires) (is_bound s.design.wires x.table formed s.setup.is_table.clear))

  -- ---- goals

  goals_stop : (g : Text) (stop : Stop) → StopsAs g (RefusesGoals told g (vars_of s.design x.table) (samples_in s.design x.table)) stop → Stops (RefusesPosed told d t g top) (LeavesProof told d t g top) stop
  goals_stop g (Refused file r) h = inr (s.design, x.table, s.setup, (h.0, h.1))
  goals_stop g (Unread file place) h = inr (s.design, x.table, s.setup, (h.0, h.1))
  goals_stop g Memory h = tt

  pub goals_turn : (new : Told) (g : Text) (vars : List VarDecl) (samples : List Sample) (stop : Stop) → new ≡ told → vars ≡ x.bound.vars → samples ≡ x.bound.samples
      → StopsAs g (RefusesGoals new g vars samples) stop → Stops (RefusesPosed told d t g top) (LeavesProof told d t g top) stop
  goals_turn new g vars samples stop n v m h =
      goals_stop g stop
      (subst (λ ss. StopsAs g (RefusesGoals told g (vars_of s.design x.table) ss) stop) (m ∙ samples_are)
      (subst (λ vs. StopsAs g (RefusesGoals told g vs samples) stop) (v ∙ vars_are) (subst (λ (y : Told). StopsAs g (RefusesGoals y g vars samples) stop) n h)))

  -- the goals, over the variables and samples of the table
  pub goals_in : (new : Told) (g : Text) (vars : List VarDecl) (samples : List Sample) (shapes : List Shape) (goals : List Goal) → new ≡ told → vars ≡ x.bound.vars → samples ≡ x.bound.samples
      → AreGoalsIn new g vars samples shapes goals → AreGoalsIn told g (vars_of s.design x.table) (samples_in s.design x.table) shapes goals
  goals_in new g vars samples shapes goals n v m are =
      subst (λ ss. AreGoalsIn told g (vars_of s.design x.table) ss shapes goals) (m ∙ samples_are)
      (subst (λ vs. AreGoalsIn told g vs samples shapes goals) (v ∙ vars_are) (subst (λ (y : Told). AreGoalsIn y g vars samples shapes goals) n are))

  -- ---- simulations

  values_stop : (v : Text) (stop : Stop) → StopsAs v (RefusesValues told v (vars_of s.design x.table)) stop → Stops (RefusesSimulation told d t v top) (LeavesSimulation told d t v top) stop
  values_stop v (Refused file r) h = inr (s.design, x.table, s.setup, (h.0, h.1))
  values_stop v (Unread file place) h = inr (s.design, x.table, s.setup, (h.0, h.1))
  values_stop v Memory h = tt

  pub values_turn : (new : Told) (v : Text) (vars : List VarDecl) (stop : Stop) → new ≡ told → vars ≡ x.bound.vars → StopsAs v (RefusesValues new v vars) stop
      → Stops (RefusesSimulation told d t v top) (LeavesSimulation told d t v top) stop
  values_turn new v vars stop n q h =
      values_stop v stop (subst (λ vs. StopsAs v (RefusesValues told v vs) stop) (q ∙ vars_are) (subst (λ (y : Told). StopsAs v (RefusesValues y v vars) stop) n h))

  -- the values of a file are as wide as the variables
  pub values_wide : (new : Told) (v : Text) (vars : List VarDecl) (choice own : List (List Bit)) → vars ≡ x.bound.vars → own ≡ choice → IsValuesFile new v vars choice → AreAsWide x.bound.vars own
  values_wide new v vars choice own q o is =
      let file : IsValuesFile new v (vars_of s.design x.table) choice = subst (λ vs. IsValuesFile new v vs choice) (q ∙ vars_are) is in
      let chosen : IsChoice (vars_of s.design x.table) choice = subst (λ c. IsChoice (vars_of s.design x.table) c) (sym file.is)
      (values_choice (vars_of s.design x.table) file.records (bounds.vars_distinct s.design.wires x.table.rows) file.clear) in
      subst (λ vs. AreAsWide vs own) (sym vars_are) (subst (λ c. AreAsWide (vars_of s.design x.table) c) (sym o) chosen.widths)

  phases_are : x.bound.phases ≡ (bench_of s.design x.table).phases
  unfolding bound_of
  phases_are = ap (λ (b : Bound). b.phases) s.bound

  -- there is the least run under the values of a file
  has_run : (new : Told) (v : Text) (vars : List VarDecl) (choice own : List (List Bit)) → new ≡ told → vars ≡ x.bound.vars → own ≡ choice → IsValuesFile new v vars choice → HasRun told v s.design x.table x.bound own
  unfolding bound_of
  has_run new v vars choice own n q o is =
      let file : IsValuesFile told v (vars_of s.design x.table) choice = subst (λ vs. IsValuesFile told v vs choice) (q ∙ vars_are) (subst (λ (y : Told). IsValuesFile y v vars choice) n is) in
      let chosen : IsChoice (vars_of s.design x.table) choice = subst (λ c. IsChoice (vars_of s.design x.table) c) (sym file.is)
      (values_choice (vars_of s.design x.table) file.records (bounds.vars_distinct s.design.wires x.table.rows) file.clear) in
      let p = poses s.design x.flat x.table s.elaborated s.setup.is_table.clear in
      let b = bound_of s.design.wires x.table in
      let least = least_run_stands s.design (asks_of choice b) b.phases (p.apart choice) in
      record {
        choice = choice;
        is_choice = file;
        run = least.0;
        least = subst (λ asks. IsLeastRun s.design asks b.phases least.0) (p.asked choice chosen) least.1;
        loaded = subst (λ c. IsLeastRun s.design (asks_of c x.bound) x.bound.phases least.0) (sym o)
            (subst (λ (y : Bound). IsLeastRun s.design (asks_of choice y) y.phases least.0) (sym s.bound) least.1);
      }

  -- what is said of the text and the least run
  abbrev pub OfRun : List (List Bit) → (Run → Type 0) → Type 0
  OfRun own Says = (design : Design) → IsElaborated design x.flat → (r : Run) → IsLeastRun design (asks_of own x.bound) x.bound.phases r → Says r

  is_simulation : (v : Text) (own : List (List Bit)) (text : Text) → HasRun told v s.design x.table x.bound own → OfRun own (λ r. text ≡ value_lines [] (sample_texts x.bound.samples) (sampled_in x.bound.samples r))
      → Simulates told d t v top text
  is_simulation v own text run h = record {
    design = s.design;
    table = x.table;
    setup = s.setup;
    choice = run.choice;
    is_choice = run.is_choice;
    run = run.run;
    least = run.least;
    printed = subst (λ (samples : List Sample). text ≡ value_lines [] (sample_texts samples) (sampled_in samples run.run)) samples_are (h s.design s.elaborated run.run run.loaded);
  }

  phases_same : (r : Run) → phases_in x.flat.wires x.bound.phases r ≡ phases_in s.design.wires (bench_of s.design x.table).phases r
  phases_same r = ap (λ (ws : List Signal). phases_in ws x.bound.phases r) s.elaborated.wires ∙ ap (λ n. phases_in s.design.wires n r) phases_are

  is_trace : (v : Text) (own : List (List Bit)) (text : Text) → HasRun told v s.design x.table x.bound own → OfRun own (λ r. text ≡ dump_text x.flat.wires (phases_in x.flat.wires x.bound.phases r))
      → OfRun own (λ r. IsDumpOf x.flat.wires (phases_in x.flat.wires x.bound.phases r) text) → Traces told d t v top text
  is_trace v own text run h k =
      let same = phases_same run.run in
      record {
        design = s.design;
        table = x.table;
        setup = s.setup;
        choice = run.choice;
        is_choice = run.is_choice;
        run = run.run;
        least = run.least;
        printed = h s.design s.elaborated run.run run.loaded ∙ (λ i. dump_text (s.elaborated.wires i) (same i));
        stands = subst (λ phases. IsDumpOf s.design.wires phases text) same
            (subst (λ (ws : List Signal). IsDumpOf ws (phases_in x.flat.wires x.bound.phases run.run) text) s.elaborated.wires (k s.design s.elaborated run.run run.loaded));
      }

  -- what a simulation prints
  pub is_simulated : (new : Told) (v : Text) (vars : List VarDecl) (choice own : List (List Bit)) (vcd : Bool) (text : Text) → new ≡ told → vars ≡ x.bound.vars → own ≡ choice → IsValuesFile new v vars choice
      → (vcd ≡ false → OfRun own (λ r. text ≡ value_lines [] (sample_texts x.bound.samples) (sampled_in x.bound.samples r)))
      → (vcd ≡ true → OfRun own (λ r. text ≡ dump_text x.flat.wires (phases_in x.flat.wires x.bound.phases r)))
      → (vcd ≡ true → OfRun own (λ r. IsDumpOf x.flat.wires (phases_in x.flat.wires x.bound.phases r) text)) → Simulated told d t v top vcd text
  is_simulated new v vars choice own false text n q o is samples dump stands = is_simulation v own text (has_run new v vars choice own n q o is) (samples refl)
  is_simulated new v vars choice own true text n q o is samples dump stands = is_trace v own text (has_run new v vars choice own n q o is) (dump refl) (stands refl)

  -- the paths of the wires have parts
  pub wires_have_parts : All HasParts x.flat.wires
  wires_have_parts =
      let is = s.setup.is_design in
      subst (λ (ws : List Signal). All HasParts ws) (sym s.elaborated.wires) (can_be_dumped s.design.wires (sound_parts is.tree top s.design is.means))
