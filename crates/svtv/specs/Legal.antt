-- Files that are legal by what is told of their contents, and the answer that a command then has.
use Rattle.std.specs.Prelude.{◌≡◌, ◌≤◌, ◌^◌, ⊤, ℕ, List, [], All, length, Option, Some, None}
use Rattle.cnf.specs.Formula.{Formula}
use Rattle.design_loops.specs.Loops.{HasWideLoop}
use Rattle.fourvec.specs.declared.Bit.{Bit}
use Rattle.goal_tree.specs.Goals.{goals_depths}
use Rattle.goal_tree.specs.declared.tree.GoalTree.{GoalTree}
use Rattle.lrat_text.specs.Certs.{CertText}
use Rattle.refute_check.specs.Entry.{Entry}
use Rattle.sv_meaning.specs.Designs.{Design}
use Rattle.sv_outside.specs.declared.text.Signal.{Signal}
use Rattle.sv_preproc.specs.Directives.{IsWholeText}
use Rattle.sv_preproc.specs.Laws as laws
use Rattle.sv_tree.specs.Nesting.{Depths, IsOverAt}
use Rattle.sv_tree.specs.NestingDesign.{source_depths}
use Rattle.svtv_table.specs.declared.bound.Sample.{Sample}
use Rattle.svtv_table.specs.declared.bound.VarDecl.{VarDecl}
use Rattle.table_cells.specs.declared.table.Table.{Table}
use Rattle.svtv_selftest.specs.Texts as test
use Rattle.svtv_words.specs.Commands.{Command, prove, sim, dump, selftest, cert, check, induct, wave}
use Rattle.vcd_text.specs.Waves.{Change, Wave, told_of_path}
use Rattle.vcd_text.specs.declared.waves.VcdVar.{VcdVar}
use Rattle.svtv_files.specs.Files.{Text, Told, IsDesignFile, IsTableFile, AreGoalsFile, IsValuesFile, course_of, samples_in, vars_of}
use Rattle.svtv_files.specs.Refusals.{HasGoal, SampleAlike}
use Rattle.svtv.specs.declared.status.Status.{Status}
use Rattle.svtv.specs.declared.status.Status.TheVariants.{AllProved, Done, NotAll, Refused}

-- no token lies in over 200 parts of one kind
abbrev pub IsShallow : Depths → Type 0
IsShallow depths = (k : ℕ) → IsOverAt depths k → ⊥

-- This text is told of the file of that name, and it has at most 16,777,216 bytes.
pub record IsShort (told : Told) (name : Text) (text : Text) : Type 0 where
  pub is : told name ≡ Some text
  pub most : length text ≤ 2 ^ 24

-- The file of that name is this design, and what it needs of its text and of the files that it includes is told.
pub record IsLegalDesign (told : Told) (name : Text) (top : Option Text) (design : Design) : Type 0 where
  pub file : IsDesignFile told name top design
  pub text : IsWholeText (laws.Told told) name file.tokens
  pub shallow : IsShallow (source_depths file.tree)

pub record IsLegalTable (told : Told) (name : Text) (wires : List Signal) (table : Table) : Type 0 where
  pub file : IsTableFile told name wires table
  pub text : IsShort told name file.read.text

pub record IsLegalSetup (told : Told) (d t : Text) (top : Option Text) (design : Design) (table : Table) : Type 0 where
  pub is_design : IsLegalDesign told d top design
  pub is_table : IsLegalTable told t design.wires table

pub record AreLegalGoals (told : Told) (name : Text) (vars : List VarDecl) (samples : List Sample) (trees : List GoalTree) : Type 0 where
  pub file : AreGoalsFile told name vars samples trees
  pub text : IsShort told name file.text
  pub shallow : IsShallow (goals_depths trees)

pub record AreLegalValues (told : Told) (name : Text) (vars : List VarDecl) (choice : List (List Bit)) : Type 0 where
  pub file : IsValuesFile told name vars choice
  pub text : IsShort told name file.text

-- the files of a proof are legal
abbrev pub IsLegalProof : Told → Text → Text → Text → Option Text → Type 0
IsLegalProof told d t g top = (design : Design) × (table : Table) × IsLegalSetup told d t top design table
    × (trees : List GoalTree) × AreLegalGoals told g (vars_of design table) (samples_in design table) trees

-- The file of that name stands for clauses and a log.
pub record IsLegalCert (told : Told) (name : Text) (formula : Formula) (log : List Entry) : Type 0 where
  pub bytes : Text
  pub text : IsShort told name bytes
  pub stands : CertText bytes formula log

-- The file of that name stands for these signals and changes, and this is what they tell of the signal with the path.
pub record IsLegalWave (told : Told) (name path : Text) (vars : List VcdVar) (changes : List Change) (list : List (ℕ × List Bit)) : Type 0 where
  pub bytes : Text
  pub text : IsShort told name bytes
  pub wave : Wave bytes vars changes
  pub of_path : told_of_path vars changes path ≡ Some list

-- The four files are a legal design, two legal tables that sample alike in their last phases, and legal goals without hypotheses over the samples.
pub record IsLegalInduction (told : Told) (d a b g : Text) (top : Option Text) (design : Design) (reset period : Table) (trees : List GoalTree) : Type 0 where
  pub is_design : IsLegalDesign told d top design
  pub is_reset : IsLegalTable told a design.wires reset
  pub is_period : IsLegalTable told b design.wires period
  pub alike : SampleAlike (course_of design reset period)
  pub goals : AreLegalGoals told g [] (samples_in design period) trees
  pub no_hyps : All (λ tree. tree.hyps ≡ []) trees

-- the files of a command are legal, and one of the goals is the one to be certified; those of a self test are its own
abbrev pub AreLegal : Told → Command → Type 0
AreLegal told (prove d t g top budget) = IsLegalProof told d t g top
AreLegal told (sim d t v top vcd) = (design : Design) × (table : Table) × IsLegalSetup told d t top design table
    × (choice : List (List Bit)) × AreLegalValues told v (vars_of design table) choice
AreLegal told (dump d top) = (design : Design) × IsLegalDesign told d top design
AreLegal told (selftest n) = IsLegalProof (test.told n) test.design_name test.table_name test.goals_name None
AreLegal told (cert d t g name top budget) = (design : Design) × (table : Table) × IsLegalSetup told d t top design table
    × (trees : List GoalTree) × AreLegalGoals told g (vars_of design table) (samples_in design table) trees × HasGoal trees name
AreLegal told (check f) = (formula : Formula) × (log : List Entry) × IsLegalCert told f formula log
AreLegal told (induct d a b g top budget) = (design : Design) × (reset : Table) × (period : Table) × (trees : List GoalTree) × IsLegalInduction told d a b g top design reset period trees
AreLegal told (wave f path) = (vars : List VcdVar) × (changes : List Change) × (list : List (ℕ × List Bit)) × IsLegalWave told f path vars changes list

-- the answers of a command that is done
abbrev pub IsDone : Command → Status → Type 0
IsDone (prove d t g top budget) AllProved = ⊤
IsDone (prove d t g top budget) NotAll = ⊤
IsDone (sim d t v top vcd) Done = ⊤
IsDone (dump d top) Done = ⊤
IsDone (selftest n) Done = ⊤
IsDone (cert d t g name top budget) Done = ⊤
IsDone (cert d t g name top budget) NotAll = ⊤
IsDone (check f) Done = ⊤
IsDone (check f) NotAll = ⊤
IsDone (induct d a b g top budget) AllProved = ⊤
IsDone (induct d a b g top budget) NotAll = ⊤
IsDone (wave f path) Done = ⊤
IsDone command status = ⊥

-- what is proved or certified may be refused though its files are legal: over 1,024 bits of the design's wires feed each other
abbrev pub HasLoops : Told → Text → Option Text → Type 0
HasLoops told d top = (design : Design) × IsDesignFile told d top design × (count : ℕ) × HasWideLoop design count

abbrev pub IsLooped : Told → Command → Status → Type 0
IsLooped told (prove d t g top budget) Refused = HasLoops told d top
IsLooped told (cert d t g name top budget) Refused = HasLoops told d top
IsLooped told (induct d a b g top budget) Refused = HasLoops told d top
IsLooped told (selftest n) Refused = HasLoops (test.told n) test.design_name None
IsLooped told command status = ⊥
