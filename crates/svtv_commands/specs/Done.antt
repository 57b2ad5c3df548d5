-- What a command that is done prints.
use Rattle.std.specs.Prelude.{◌≡◌, ℕ, Bool, true, false, IsTrue, List, [], ◌∷◌, All, map, Option, Some, None}
use Rattle.std.specs.List.{AllZip, Contains, list_all}
use Rattle.cnf.specs.Clauses.{HasNoSolution}
use Rattle.cnf.specs.Formula.{Formula}
use Rattle.flat_net.specs.declared.flat.Flat.{Flat}
use Rattle.flat_print.specs.Printed as print
use Rattle.flat_text.specs.FlatTexts.{FlatText}
use Rattle.fourvec.specs.declared.Bit.{Bit}
use Rattle.goal_tree.specs.declared.tree.GoalTree.{GoalTree}
use Rattle.lrat_text.specs.Certs.{CertText}
use Rattle.lrat_text.specs.Printed.{cert_text}
use Rattle.refute_check.specs.Accepted.{IsAccepted, IsBadAt}
use Rattle.refute_check.specs.Certs.{certificate_of}
use Rattle.refute_check.specs.Entry.{Entry}
use Rattle.sv_elab.specs.Elaborated.{IsElaborated}
use Rattle.sv_meaning.specs.Designs.{Design}
use Rattle.sv_preproc.specs.Laws.{Possible}
use Rattle.svtv_files.specs.Files.{Text, Told, AreGoalsFile, IsDesignFile, IsValuesFile, bench_of, course_of, samples_in, vars_of}
use Rattle.svtv_files.specs.Refusals.{IsCourseFiles, IsSetup}
use Rattle.svtv_periods.specs.Claims.{HoldsAt}
use Rattle.svtv_periods.specs.Periods.{Choices, Course, IsCourse, IsLong, end_of}
use Rattle.svtv_invariants.specs.Deciding.{IsDecided}
use Rattle.svtv_invariants.specs.declared.deciding.Decided.{Decided}
use Rattle.svtv_report.specs.Invariants.{Names, invariants_text, is_invariant}
use Rattle.svtv_report.specs.Shown.{sample_texts, var_texts}
use Rattle.svtv_report.specs.Texts.{cert_note, change_lines, checked_text, report, value_lines}
use Rattle.svtv_runs.specs.Runs.{Run}
use Rattle.svtv_selftest.specs.Line.{line_text}
use Rattle.svtv_selftest.specs.Texts as test
use Rattle.svtv_texts.specs.Phases.{phases_in}
use Rattle.svtv_texts.specs.Rights.{AreRight, goal_names, is_proved}
use Rattle.svtv_verdicts.specs.Benches.{IsLeastUnder, sampled_in}
use Rattle.svtv_verdicts.specs.Certs.{HasCert}
use Rattle.svtv_verdicts.specs.Verdicts.{Verdict, proved, vacuous, failed, undecided, IsRight}
use Rattle.table_cells.specs.declared.table.Table.{Table}
use Rattle.vcd_print.specs.Dumps.{IsDumpOf}
use Rattle.vcd_print.specs.Printed.{dump_text}
use Rattle.vcd_text.specs.Waves.{Change, Wave, told_of_path}
use Rattle.vcd_text.specs.declared.waves.VcdVar.{VcdVar}

-- The headline: the text is the report of verdicts, one for each goal in order, that are right on what the three files stand for, where this
-- budget is given, or none. So where none is, no goal is left undecided.
pub record Proves (told : Told) (d t g : Text) (top : Option Text) (budget : Option ℕ) (all : Bool) (text : Text) : Type 0 where
  pub design : Design
  pub table : Table
  pub setup : IsSetup told d t top design table
  pub goals : List GoalTree
  pub are_goals : AreGoalsFile told g (vars_of design table) (samples_in design table) goals
  pub verdicts : List Verdict
  pub shown : List (List (List Bit))
  pub right : AreRight (bench_of design table) goals budget verdicts shown
  pub printed : text ≡ report (var_texts (vars_of design table)) (sample_texts (samples_in design table)) (goal_names goals) verdicts shown
  pub whole : all ≡ list_all is_proved verdicts

-- The text is the line of a self test with so many registers: it counts verdicts, one for each goal in order, that are right on what its texts stand
-- for, where no budget is given.
pub record SelfTests (n : ℕ) (text : Text) : Type 0 where
  pub design : Design
  pub table : Table
  pub setup : IsSetup (test.told n) test.design_name test.table_name None design table
  pub goals : List GoalTree
  pub are_goals : AreGoalsFile (test.told n) test.goals_name (vars_of design table) (samples_in design table) goals
  pub verdicts : List Verdict
  pub shown : List (List (List Bit))
  pub right : AreRight (bench_of design table) goals None verdicts shown
  pub printed : text ≡ line_text n verdicts

-- The text has the samples of the least run under the values of a file.
pub record Simulates (told : Told) (d t v : Text) (top : Option Text) (text : Text) : Type 0 where
  pub design : Design
  pub table : Table
  pub setup : IsSetup told d t top design table
  pub choice : List (List Bit)
  pub is_choice : IsValuesFile told v (vars_of design table) choice
  pub run : Run
  pub least : IsLeastUnder (bench_of design table) choice run
  pub printed : text ≡ value_lines [] (sample_texts (samples_in design table)) (sampled_in (samples_in design table) run)

-- The text is the value change dump of the least run under the values of a file: it stands for signals with the paths `top.` and those of the
-- design's wires, in order, and the value of each at the time of a phase is that of its wire in this phase of the run.
pub record Traces (told : Told) (d t v : Text) (top : Option Text) (text : Text) : Type 0 where
  pub design : Design
  pub table : Table
  pub setup : IsSetup told d t top design table
  pub choice : List (List Bit)
  pub is_choice : IsValuesFile told v (vars_of design table) choice
  pub run : Run
  pub least : IsLeastUnder (bench_of design table) choice run
  pub printed : text ≡ dump_text design.wires (phases_in design.wires (bench_of design table).phases run)
  pub stands : IsDumpOf design.wires (phases_in design.wires (bench_of design table).phases run) text

-- what a simulation prints: samples, or a value change dump where one is asked for
abbrev pub Simulated : Told → Text → Text → Text → Option Text → (vcd : Bool) → Text → Type 0
Simulated told d t v top false text = Simulates told d t v top text
Simulated told d t v top true text = Traces told d t v top text

-- The text stands for a flat design that has the wires, the contributions and so the settlings of the design that the file is, and it is what is
-- printed of that one: with the nodes that a driver reaches, each once.
pub record Dumps (told : Told) (d : Text) (top : Option Text) (text : Text) : Type 0 where
  pub design : Design
  pub is_design : IsDesignFile told d top design
  pub flat : Flat
  pub elaborated : IsElaborated design flat
  pub stands : FlatText text flat
  pub printed : text ≡ print.printed flat

-- ---- certificates

-- The text is a certificate of the goal of this name. Its verdict, proved or vacuous, is right on what the three files stand for, and the text
-- stands for clauses that ask the question which the verdict closes, and for a log that refutes them.
pub record Certifies (told : Told) (d t g name : Text) (top : Option Text) (budget : Option ℕ) (text : Text) : Type 0 where
  pub design : Design
  pub table : Table
  pub setup : IsSetup told d t top design table
  pub goals : List GoalTree
  pub are_goals : AreGoalsFile told g (vars_of design table) (samples_in design table) goals
  pub goal : GoalTree
  pub among : Contains goals goal
  pub named : goal.name.text ≡ name
  pub verdict : Verdict
  pub right : IsRight (bench_of design table) goal budget verdict []
  pub formula : Formula
  pub log : List Entry
  pub closes : HasCert (bench_of design table) goal verdict (Some (certificate_of formula log))
  pub printed : text ≡ cert_text (cert_note name verdict) formula log
  pub stands : CertText text formula log

-- A goal that failed or was left undecided is not certified.
abbrev pub IsUncertified : Verdict → Type 0
IsUncertified proved = ⊥
IsUncertified vacuous = ⊥
IsUncertified (failed choice) = Unit {0}
IsUncertified (undecided n) = Unit {0}

-- The text is the report of the goal of this name, which is not certified. Its verdict is right on what the three files stand for, where this
-- budget is given, or none.
pub record Reports (told : Told) (d t g name : Text) (top : Option Text) (budget : Option ℕ) (text : Text) : Type 0 where
  pub design : Design
  pub table : Table
  pub setup : IsSetup told d t top design table
  pub goals : List GoalTree
  pub are_goals : AreGoalsFile told g (vars_of design table) (samples_in design table) goals
  pub goal : GoalTree
  pub among : Contains goals goal
  pub named : goal.name.text ≡ name
  pub verdict : Verdict
  pub shown : List (List Bit)
  pub right : IsRight (bench_of design table) goal budget verdict shown
  pub uncertified : IsUncertified verdict
  pub printed : text ≡ report (var_texts (vars_of design table)) (sample_texts (samples_in design table)) (name ∷ []) (verdict ∷ []) (shown ∷ [])

-- what is printed where one goal is to be certified: a certificate, or a report
abbrev pub Certified : Told → Text → Text → Text → Text → Option Text → Option ℕ → Bool → Text → Type 0
Certified told d t g name top budget true text = Certifies told d t g name top budget text
Certified told d t g name top budget false text = Reports told d t g name top budget text

-- what the judge says of clauses and a log: that the log refutes them, or at which step it does not
abbrev pub IsJudged : Formula → List Entry → Option ℕ → Type 0
IsJudged formula log None = IsAccepted formula log
IsJudged formula log (Some step) = IsBadAt formula log step

-- The text says what the judge says of the clauses and the log for which the file stands. Clauses that the log refutes have no solution.
pub record Checks (told : Told) (file : Text) (bad : Option ℕ) (text : Text) : Type 0 where
  pub bytes : Text
  pub has : Possible told file bytes
  pub formula : Formula
  pub log : List Entry
  pub stands : CertText bytes formula log
  pub judged : IsJudged formula log bad
  pub refuted : bad ≡ None → HasNoSolution formula.clauses
  pub printed : text ≡ checked_text bad

-- ---- waveforms

-- The text has a line for each change of the first signal with this path, in order, by the signals and changes for which the file stands, which are
-- the only ones.
pub record Shows (told : Told) (file path : Text) (text : Text) : Type 0 where
  pub bytes : Text
  pub has : Possible told file bytes
  pub vars : List VcdVar
  pub changes : List Change
  pub wave : Wave bytes vars changes
  pub only : (vs : List VcdVar) (cs : List Change) → Wave bytes vs cs → (vars ≡ vs) × (changes ≡ cs)
  pub list : List (ℕ × List Bit)
  pub of_path : told_of_path vars changes path ≡ Some list
  pub printed : text ≡ change_lines list

-- ---- invariants

-- The claims hold in the last valuation of every run through the reset and any number of periods, whatever is chosen in each turn.
abbrev pub IsInvariantOf : Course → GoalTree → Type 0
IsInvariantOf c goal = (k : ℕ) (choices : Choices) (vs : Run) → IsLong c k choices vs → HoldsAt c.period.samples goal (end_of vs)

-- the names of what is printed
abbrev pub names_in : Design → Table → Table → Names
names_in design reset period = record { resets = var_texts (vars_of design reset); periods = var_texts (vars_of design period); samples = sample_texts (samples_in design period) }

-- The text has what is found of each invariant, in order, and it is right on what the four files stand for, where this budget is given, or none. An
-- invariant that is reported as one holds at the end of the reset and of each period, in every run through any number of periods.
pub record Inducts (told : Told) (d a b g : Text) (top : Option Text) (budget : Option ℕ) (all : Bool) (text : Text) : Type 0 where
  pub design : Design
  pub reset : Table
  pub period : Table
  pub files : IsCourseFiles told d a b top design reset period
  pub course : IsCourse (course_of design reset period)
  pub goals : List GoalTree
  pub are_goals : AreGoalsFile told g [] (samples_in design period) goals
  pub no_hyps : All (λ goal. goal.hyps ≡ []) goals
  pub found : List Decided
  pub decided : AllZip (λ goal x. IsDecided (course_of design reset period) goal budget x) goals found
  pub hold : AllZip (λ goal x. IsTrue (is_invariant x.verdict) → IsInvariantOf (course_of design reset period) goal) goals found
  pub printed : text ≡ invariants_text (names_in design reset period) (goal_names goals) (map (λ x. x.verdict) found) (map (λ x. x.before) found) (map (λ x. x.shown) found)
  pub whole : all ≡ list_all (λ x. is_invariant x.verdict) found
