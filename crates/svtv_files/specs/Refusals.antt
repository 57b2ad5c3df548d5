-- Why a file is refused, or is not read, when its turn comes: the files before it are legal.
use Rattle.std.specs.Prelude.{◌≡◌, ◌⊎◌, ◌<◌, ◌^◌, ℕ, List, [], All, length, slice_get, Option, Some, None, Err, IfSome}
use Rattle.std.specs.List.{Contains}
use Rattle.design_loops.specs.Loops.{HasWideLoop}
use Rattle.goal_text.specs.Goals.{HasCause}
use Rattle.goal_tree.specs.declared.tree.GoalTree.{GoalTree}
use Rattle.lrat_text.specs.Causes.{IsCause}
use Rattle.lrat_text.specs.Reading as certs
use Rattle.design_loops.specs.Passed.{sound_design}
use Rattle.sv_meaning.specs.Designs.{Design}
use Rattle.sv_meaning.specs.Faults.{Faults}
use Rattle.sv_outside.specs.Text.{TokenList}
use Rattle.sv_outside.specs.declared.refusal.Place.{Place}
use Rattle.sv_outside.specs.declared.refusal.Refusal.{Refusal}
use Rattle.sv_outside.specs.declared.refusal.TextErr.TheVariants.{No}
use Rattle.sv_outside.specs.declared.text.Signal.{Signal}
use Rattle.sv_parser.specs.Answers.{IsSpelled}
use Rattle.sv_parser.specs.Whole.{IsSyntax, IsDeep}
use Rattle.sv_preproc.specs.Directives.{IsWholeText}
use Rattle.sv_preproc.specs.Laws.{Possible}
use Rattle.sv_preproc.specs.Reached.{StopsIn, no, unread}
use Rattle.sv_tree.specs.declared.design.Source.{Source}
use Rattle.svtv_selftest.specs.Texts as test
use Rattle.svtv_table.specs.Binding.{bind_faults}
use Rattle.svtv_table.specs.Faults.{first_of}
use Rattle.svtv_table.specs.Fields.{IsRecords}
use Rattle.svtv_table.specs.Reading.{table_faults}
use Rattle.svtv_table.specs.Valuing.{values_faults}
use Rattle.svtv_table.specs.declared.bound.Sample.{Sample}
use Rattle.svtv_table.specs.declared.bound.VarDecl.{VarDecl}
use Rattle.table_cells.specs.declared.table.Table.{Table}
use Rattle.svtv_words.specs.Commands.{Command, prove, sim, dump, selftest, cert, check, induct, wave}
use Rattle.vcd_text.specs.Waves.{BreaksAt, Change, Wave, told_of_path}
use Rattle.vcd_text.specs.declared.waves.VcdVar.{VcdVar}
use Rattle.svtv_files.specs.Files.{Text, Told, AreGoalsFile, IsDesignFile, IsTableText, IsTableFile, course_of, vars_of, samples_in}
use Rattle.svtv_periods.specs.Periods.{Course, AreAlike, AreLast}

-- ---- designs

-- the place lies in the file of that name, among those that were read
abbrev pub IsIn : TokenList → Refusal → Text → Type 0
IsIn tokens r file = slice_get tokens.files r.place.file ≡ Some file

-- No tree spells the tokens of the text, or each is nested too deep: why and where.
pub record IsUnparsed (told : Told) (name : Text) (file : Text) (r : Refusal) : Type 0 where
  pub tokens : TokenList
  pub text : IsWholeText (Possible told) name tokens
  pub why : IsSyntax tokens.list tokens.end (No r) ⊎ IsDeep tokens.list tokens.end (No r)
  pub place : IsIn tokens r file

-- This stands against what the tree means.
pub record IsFaulty (told : Told) (name : Text) (top : Option Text) (file : Text) (r : Refusal) : Type 0 where
  pub tokens : TokenList
  pub text : IsWholeText (Possible told) name tokens
  pub tree : Source
  pub spelled : IsSpelled tree tokens.list
  pub faults : Faults
  pub means : sound_design tree top ≡ Err faults
  pub stands : Contains faults r
  pub place : IsIn tokens r file

-- The design is refused for this, in the file of that name.
abbrev pub RefusesDesign : Told → Text → Option Text → Text → Refusal → Type 0
RefusesDesign told name top file r = StopsIn (Possible told) name (no r) file ⊎ IsUnparsed told name file r ⊎ IsFaulty told name top file r

abbrev pub UnreadDesign : Told → Text → Text → Place → Type 0
UnreadDesign told name file place = StopsIn (Possible told) name (unread place) file

-- ---- other files

abbrev pub at_first : Place
at_first = record { file = 0; line = 1; column = 1 }

-- E4: the file is too long
abbrev pub TooLong : Told → Text → Refusal → Type 0
TooLong told name r = (r ≡ record { number = 4; place = at_first; count = 0 }) × IfSome (told name) (λ bytes. 2 ^ 24 < length bytes)

-- The first of the faults of its records.
pub record IsFirstFault (told : Told) (name : Text) (faults : List (List Text) → List Refusal) (r : Refusal) : Type 0 where
  pub text : Text
  pub stands : Possible told name text
  pub records : List (List Text)
  pub cut : IsRecords text records
  pub first : first_of (faults records) ≡ Some r

-- The first of what stands against the table over these wires.
pub record IsUnbound (told : Told) (name : Text) (wires : List Signal) (r : Refusal) : Type 0 where
  pub table : Table
  pub read : IsTableText told name table
  pub first : first_of (bind_faults wires table) ≡ Some r

abbrev pub RefusesTable : Told → Text → List Signal → Refusal → Type 0
RefusesTable told name wires r = TooLong told name r ⊎ IsFirstFault told name table_faults r ⊎ IsUnbound told name wires r

pub record IsBadGoals (told : Told) (name : Text) (vars : List VarDecl) (samples : List Sample) (r : Refusal) : Type 0 where
  pub text : Text
  pub stands : Possible told name text
  pub cause : HasCause 0 text vars samples r

abbrev pub RefusesGoals : Told → Text → List VarDecl → List Sample → Refusal → Type 0
RefusesGoals told name vars samples r = TooLong told name r ⊎ IsBadGoals told name vars samples r

abbrev pub RefusesValues : Told → Text → List VarDecl → Refusal → Type 0
RefusesValues told name vars r = TooLong told name r ⊎ IsFirstFault told name (values_faults vars) r

-- The text breaks the form of certificates at this place, or a number stands there that can not.
pub record IsBadCert (told : Told) (name : Text) (r : Refusal) : Type 0 where
  pub text : Text
  pub stands : Possible told name text
  pub read : certs.read text ≡ Err r
  pub cause : IsCause text r

-- E47: the text stands for no signals and changes, and breaks the form of value change dumps at this place.
pub record IsBadDump (told : Told) (name : Text) (r : Refusal) : Type 0 where
  pub text : Text
  pub stands : Possible told name text
  pub none : (vars : List VcdVar) (changes : List Change) → Wave text vars changes → ⊥
  pub breaks : BreaksAt text r.place
  pub is : r ≡ record { number = 47; place = r.place; count = 0 }

-- E48: of the signals for which the text stands none has the path, or the first that has it has a width that is not 1 to 128.
pub record IsSignalUnknown (told : Told) (name path : Text) (r : Refusal) : Type 0 where
  pub text : Text
  pub stands : Possible told name text
  pub vars : List VcdVar
  pub changes : List Change
  pub wave : Wave text vars changes
  pub none : (vs : List VcdVar) (cs : List Change) → Wave text vs cs → told_of_path vs cs path ≡ None
  pub is : r ≡ record { number = 48; place = at_first; count = 0 }

-- ---- turns

-- The two files are a legal design, and a legal table over its wires.
pub record IsSetup (told : Told) (d t : Text) (top : Option Text) (design : Design) (table : Table) : Type 0 where
  pub is_design : IsDesignFile told d top design
  pub is_table : IsTableFile told t design.wires table

-- one of the two is refused
abbrev pub RefusesSetup : Told → Text → Text → Option Text → Text → Refusal → Type 0
RefusesSetup told d t top file r = RefusesDesign told d top file r ⊎ ((file ≡ t) × (design : Design) × IsDesignFile told d top design × RefusesTable told t design.wires r)

-- or is not read
abbrev pub LeavesSetup : Told → Text → Text → Option Text → Text → Place → Type 0
LeavesSetup told d t top file place = UnreadDesign told d file place ⊎ ((file ≡ t) × (place ≡ at_first) × (design : Design) × IsDesignFile told d top design)

-- both are legal
abbrev pub BehindSetup : Told → Text → Text → Option Text → (Design → Table → Type 0) → Type 0
BehindSetup told d t top Then = (design : Design) × (table : Table) × IsSetup told d t top design table × Then design table

-- E39, told of the design as a whole: so many bits of its wires, over 1,024, feed each other round about.
pub record IsTooWide (design : Design) (r : Refusal) : Type 0 where
  pub is : r ≡ record { number = 39; place = at_first; count = r.count }
  pub wide : HasWideLoop design r.count

-- the goals are legal, and still the design has no machine
abbrev pub HasNoMachine : Told → Text → Design → Table → Refusal → Type 0
HasNoMachine told g design table r = ((trees : List GoalTree) × AreGoalsFile told g (vars_of design table) (samples_in design table) trees) × IsTooWide design r

-- which file of a proof is refused, and for what
abbrev pub RefusesProof : Told → Text → Text → Text → Option Text → Text → Refusal → Type 0
RefusesProof told d t g top file r = RefusesSetup told d t top file r ⊎ BehindSetup told d t top (λ design table.
    ((file ≡ g) × RefusesGoals told g (vars_of design table) (samples_in design table) r) ⊎ ((file ≡ d) × HasNoMachine told g design table r))

-- which is not read: for a design's file at the directive that asks for it
abbrev pub LeavesProof : Told → Text → Text → Text → Option Text → Text → Place → Type 0
LeavesProof told d t g top file place = LeavesSetup told d t top file place ⊎ BehindSetup told d t top (λ design table. (file ≡ g) × (place ≡ at_first))

-- one of the goals has this name
abbrev pub HasGoal : List GoalTree → Text → Type 0
HasGoal trees name = (goal : GoalTree) × Contains trees goal × (goal.name.text ≡ name)

-- E41: the goals are legal, and none has the name.
pub record IsGoalUnknown (told : Told) (g name : Text) (design : Design) (table : Table) (r : Refusal) : Type 0 where
  pub trees : List GoalTree
  pub file : AreGoalsFile told g (vars_of design table) (samples_in design table) trees
  pub none : HasGoal trees name → ⊥
  pub is : r ≡ record { number = 41; place = at_first; count = 0 }

-- E39: the goals are legal and one has the name, and still the design has no machine.
pub record IsGoalTooWide (told : Told) (g name : Text) (design : Design) (table : Table) (r : Refusal) : Type 0 where
  pub trees : List GoalTree
  pub file : AreGoalsFile told g (vars_of design table) (samples_in design table) trees
  pub some : HasGoal trees name
  pub wide : IsTooWide design r

-- which file is refused where one goal is to be certified, and for what
abbrev pub RefusesCert : Told → Text → Text → Text → Text → Option Text → Text → Refusal → Type 0
RefusesCert told d t g name top file r = RefusesSetup told d t top file r ⊎ BehindSetup told d t top (λ design table.
    ((file ≡ g) × RefusesGoals told g (vars_of design table) (samples_in design table) r) ⊎ (((file ≡ g) × IsGoalUnknown told g name design table r) ⊎ ((file ≡ d) × IsGoalTooWide told g name design table r)))

-- which text of a self test is refused; none of them is left unread
abbrev pub RefusesTest : ℕ → Text → Refusal → Type 0
RefusesTest n file r = RefusesProof (test.told n) test.design_name test.table_name test.goals_name None file r

-- the same of a simulation
abbrev pub RefusesSimulation : Told → Text → Text → Text → Option Text → Text → Refusal → Type 0
RefusesSimulation told d t v top file r = RefusesSetup told d t top file r ⊎ BehindSetup told d t top (λ design table. (file ≡ v) × RefusesValues told v (vars_of design table) r)

abbrev pub LeavesSimulation : Told → Text → Text → Text → Option Text → Text → Place → Type 0
LeavesSimulation told d t v top file place = LeavesSetup told d t top file place ⊎ BehindSetup told d t top (λ design table. (file ≡ v) × (place ≡ at_first))

-- which certificate is refused, and for what
abbrev pub RefusesCheck : Told → Text → Text → Refusal → Type 0
RefusesCheck told f file r = (file ≡ f) × (TooLong told f r ⊎ IsBadCert told f r)

-- it is not read
abbrev pub LeavesCheck : Text → Text → Place → Type 0
LeavesCheck f file place = (file ≡ f) × (place ≡ at_first)

-- which value change dump is refused, and for what
abbrev pub RefusesWave : Told → Text → Text → Text → Refusal → Type 0
RefusesWave told f path file r = (file ≡ f) × (TooLong told f r ⊎ (IsBadDump told f r ⊎ IsSignalUnknown told f path r))

-- it is not read
abbrev pub LeavesWave : Text → Text → Place → Type 0
LeavesWave f file place = (file ≡ f) × (place ≡ at_first)

-- ---- invariants

-- The three files are a legal design, and two legal tables over its wires.
pub record IsCourseFiles (told : Told) (d a b : Text) (top : Option Text) (design : Design) (reset period : Table) : Type 0 where
  pub is_design : IsDesignFile told d top design
  pub is_reset : IsTableFile told a design.wires reset
  pub is_period : IsTableFile told b design.wires period

-- Each sample is of the last phase of its table, and both tables sample the same signals under the same names in one order.
abbrev pub SampleAlike : Course → Type 0
SampleAlike c = AreLast c.reset × (AreLast c.period × AreAlike c.reset.samples c.period.samples)

-- E46: a table samples in a phase that is not its last, told of the first such table; or else the two sample unlike, told of the second.
pub record IsSampledUnlike (c : Course) (a b file : Text) (r : Refusal) : Type 0 where
  pub is : r ≡ record { number = 46; place = at_first; count = 0 }
  pub cause : ((file ≡ a) × (AreLast c.reset → ⊥)) ⊎ ((file ≡ b) × (AreLast c.reset × ((AreLast c.period × AreAlike c.reset.samples c.period.samples) → ⊥)))

-- one of the three is refused, or the tables sample unlike
abbrev pub RefusesCourse : Told → Text → Text → Text → Option Text → Text → Refusal → Type 0
RefusesCourse told d a b top file r = RefusesSetup told d a top file r
    ⊎ (BehindSetup told d a top (λ design reset. (file ≡ b) × RefusesTable told b design.wires r)
    ⊎ ((design : Design) × (reset : Table) × (period : Table) × IsCourseFiles told d a b top design reset period × IsSampledUnlike (course_of design reset period) a b file r))

-- all are legal, and the tables sample alike
abbrev pub BehindCourse : Told → Text → Text → Text → Option Text → (Design → Table → Table → Type 0) → Type 0
BehindCourse told d a b top Then =
    (design : Design) × (reset : Table) × (period : Table) × IsCourseFiles told d a b top design reset period × (SampleAlike (course_of design reset period) × Then design reset period)

-- one of the three is not read
abbrev pub LeavesCourse : Told → Text → Text → Text → Option Text → Text → Place → Type 0
LeavesCourse told d a b top file place = LeavesSetup told d a top file place ⊎ BehindSetup told d a top (λ design reset. (file ≡ b) × (place ≡ at_first))

-- E45: the invariants are legal as goals, and some has a hypothesis.
pub record IsInvariantHyp (told : Told) (g : Text) (design : Design) (period : Table) (r : Refusal) : Type 0 where
  pub trees : List GoalTree
  pub file : AreGoalsFile told g [] (samples_in design period) trees
  pub some : All (λ tree. tree.hyps ≡ []) trees → ⊥
  pub is : r ≡ record { number = 45; place = at_first; count = 0 }

-- E39: the invariants are legal and have no hypotheses, and still the design has no machine.
pub record IsCourseTooWide (told : Told) (g : Text) (design : Design) (period : Table) (r : Refusal) : Type 0 where
  pub trees : List GoalTree
  pub file : AreGoalsFile told g [] (samples_in design period) trees
  pub none : All (λ tree. tree.hyps ≡ []) trees
  pub wide : IsTooWide design r

-- which file is refused where invariants are asked, and for what; their names read the samples alone
abbrev pub RefusesInduction : Told → Text → Text → Text → Text → Option Text → Text → Refusal → Type 0
RefusesInduction told d a b g top file r = RefusesCourse told d a b top file r ⊎ BehindCourse told d a b top (λ design reset period.
    ((file ≡ g) × RefusesGoals told g [] (samples_in design period) r) ⊎ (((file ≡ g) × IsInvariantHyp told g design period r) ⊎ ((file ≡ d) × IsCourseTooWide told g design period r)))

-- which is not read
abbrev pub LeavesInduction : Told → Text → Text → Text → Text → Option Text → Text → Place → Type 0
LeavesInduction told d a b g top file place = LeavesCourse told d a b top file place ⊎ BehindCourse told d a b top (λ design reset period. (file ≡ g) × (place ≡ at_first))

-- ---- commands

abbrev pub Refuses : Told → Command → Text → Refusal → Type 0
Refuses told (prove d t g top budget) file r = RefusesProof told d t g top file r
Refuses told (sim d t v top vcd) file r = RefusesSimulation told d t v top file r
Refuses told (dump d top) file r = RefusesDesign told d top file r
Refuses told (selftest n) file r = RefusesTest n file r
Refuses told (cert d t g name top budget) file r = RefusesCert told d t g name top file r
Refuses told (check f) file r = RefusesCheck told f file r
Refuses told (induct d a b g top budget) file r = RefusesInduction told d a b g top file r
Refuses told (wave f path) file r = RefusesWave told f path file r

abbrev pub LeavesUnread : Told → Command → Text → Place → Type 0
LeavesUnread told (prove d t g top budget) file place = LeavesProof told d t g top file place
LeavesUnread told (sim d t v top vcd) file place = LeavesSimulation told d t v top file place
LeavesUnread told (dump d top) file place = UnreadDesign told d file place
LeavesUnread told (selftest n) file place = ⊥
LeavesUnread told (cert d t g name top budget) file place = LeavesProof told d t g top file place
LeavesUnread told (check f) file place = LeavesCheck f file place
LeavesUnread told (induct d a b g top budget) file place = LeavesInduction told d a b g top file place
LeavesUnread told (wave f path) file place = LeavesWave f file place
