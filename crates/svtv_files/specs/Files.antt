-- What the files of a command stand for.
use Rattle.std.specs.Prelude.{◌≡◌, ℕ, List, [], Option, Ok}
use Rattle.goal_tree.specs.declared.tree.GoalTree.{GoalTree}
use Rattle.goal_text.specs.Faults.{goal_faults}
use Rattle.goal_text.specs.Goals.{Spell}
use Rattle.fourvec.specs.declared.Bit.{Bit}
use Rattle.design_loops.specs.Passed.{sound_design}
use Rattle.sv_meaning.specs.Designs.{Design}
use Rattle.sv_outside.specs.Text.{TokenList}
use Rattle.sv_outside.specs.declared.text.Signal.{Signal}
use Rattle.sv_parser.specs.Answers.{IsSpelled}
use Rattle.sv_preproc.specs.Directives.{IsWholeText}
use Rattle.sv_preproc.specs.Laws.{Possible}
use Rattle.sv_tree.specs.declared.design.Source.{Source}
use Rattle.svtv_table.specs.Binding.{bind_faults, samples_of, variables_of}
use Rattle.svtv_table.specs.Fields.{IsRecords}
use Rattle.svtv_table.specs.Reading.{table_faults, table_of}
use Rattle.svtv_table.specs.Stimuli.{settings_of, stimuli_of}
use Rattle.svtv_table.specs.Valuing.{values_faults, values_of}
use Rattle.svtv_table.specs.declared.bound.Sample.{Sample}
use Rattle.svtv_table.specs.declared.bound.VarDecl.{VarDecl}
use Rattle.table_cells.specs.declared.table.Table.{Table}
use Rattle.svtv_periods.specs.Periods.{Course, Stretch}
use Rattle.svtv_verdicts.specs.Benches.{Bench}

abbrev pub Text : Type 0
Text = List ℕ

-- what is told of the contents of files
abbrev pub Told : Type 0
Told = Text → Option Text

-- ---- designs

-- The file of that name, with the files that it includes, is the text of a source, which means this design with this module at the top. Nothing stands
-- against it.
pub record IsDesignFile (told : Told) (name : Text) (top : Option Text) (design : Design) : Type 0 where
  pub tokens : TokenList
  pub text : IsWholeText (Possible told) name tokens
  pub tree : Source
  pub spelled : IsSpelled tree tokens.list
  pub means : sound_design tree top ≡ Ok design

-- ---- tables

-- The file of that name is this table.
pub record IsTableText (told : Told) (name : Text) (table : Table) : Type 0 where
  pub text : Text
  pub stands : Possible told name text
  pub records : List (List Text)
  pub cut : IsRecords text records
  pub clear : table_faults records ≡ []
  pub is : table ≡ table_of records

-- And nothing stands against it over these wires.
pub record IsTableFile (told : Told) (name : Text) (wires : List Signal) (table : Table) : Type 0 where
  pub read : IsTableText told name table
  pub clear : bind_faults wires table ≡ []

-- the variables and samples of a table over the wires of a design
abbrev pub vars_of : Design → Table → List VarDecl
vars_of design table = variables_of design.wires table.rows

abbrev pub samples_in : Design → Table → List Sample
samples_in design table = samples_of design.wires table.rows

-- a design under a table: what its cells ask, and what they sample
abbrev pub bench_of : Design → Table → Bench
bench_of design table = record {
  design = design;
  asked = λ choice. record {
    stimuli = stimuli_of choice design.wires (vars_of design table) table.rows;
    settings = settings_of choice design.wires (vars_of design table) table.rows;
  };
  phases = table.phases;
  vars = vars_of design table;
  samples = samples_in design table;
}

-- ---- goals and values

-- The file of that name is these goals, against which nothing stands.
pub record AreGoalsFile (told : Told) (name : Text) (vars : List VarDecl) (samples : List Sample) (trees : List GoalTree) : Type 0 where
  pub text : Text
  pub stands : Possible told name text
  pub spell : Spell 0 text trees
  pub clear : goal_faults vars samples trees ≡ []

-- The file of that name gives each variable its value, and nothing stands against it.
pub record IsValuesFile (told : Told) (name : Text) (vars : List VarDecl) (choice : List (List Bit)) : Type 0 where
  pub text : Text
  pub stands : Possible told name text
  pub records : List (List Text)
  pub cut : IsRecords text records
  pub clear : values_faults vars records ≡ []
  pub is : choice ≡ values_of vars records

-- ---- two tables

-- what a table asks of a design, without the design
abbrev pub stretch_in : Design → Table → Stretch
stretch_in design table = record { asked = (bench_of design table).asked; phases = (bench_of design table).phases; vars = vars_of design table; samples = samples_in design table }

-- a design that is reset under one table, and goes through the other any number of times
abbrev pub course_of : Design → Table → Table → Course
course_of design reset period = record { design = design; reset = stretch_in design reset; period = stretch_in design period }
