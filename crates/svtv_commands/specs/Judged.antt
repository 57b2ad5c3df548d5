-- Words of the inner functions: what was decided of the goals of a command's files.
use Rattle.std.specs.Prelude.{◌≡◌, ℕ, Bool, true, false, List, [], ◌∷◌, Option, Some, None, Result, Ok, Err, map, length}
use Rattle.goal_tree.specs.declared.tree.GoalTree.{GoalTree}
use Rattle.fourvec.specs.declared.Bit.{Bit}
use Rattle.lrat_text.specs.Certs.{CertText}
use Rattle.lrat_text.specs.Printed.{cert_text}
use Rattle.refute_check.specs.Certs.{Certificate}
use Rattle.refute_check.specs.declared.checker.CheckErr.{CheckErr}
use Rattle.refute_check.specs.declared.checker.CheckErr.TheVariants.{Bad}
use Rattle.sv_meaning.specs.Designs.{Design}
use Rattle.svtv_files.specs.Files.{Text, Told, AreGoalsFile, bench_of, samples_in, vars_of}
use Rattle.svtv_files.specs.Refusals.{IsSetup, RefusesTest}
use Rattle.svtv_files.specs.Stopping.{Stops}
use Rattle.svtv_files.specs.declared.stop.Stop.{Stop}
use Rattle.svtv_report.specs.Seen.{verdict_is}
use Rattle.svtv_report.specs.Shown.{sample_texts, var_texts}
use Rattle.svtv_report.specs.Texts.{cert_note, report}
use Rattle.svtv_table.specs.Binding.{bound_of}
use Rattle.svtv_table.specs.declared.bound.Bound.{Bound}
use Rattle.svtv_texts.specs.Rights.{AreRight, goal_names}
use Rattle.svtv_verdicts.specs.Verdicts.{Verdict}
use Rattle.table_cells.specs.declared.table.Table.{Table}
use Rattle.svtv_commands.specs.declared.judging.Judgement.{Judgement}

-- The three files stand for a design, a table and goals, and the judgement has the bound table, the goals' names, and verdicts that are right of them
-- where this budget is given, or none.
pub record IsJudgement (told : Told) (d t g : Text) (top : Option Text) (budget : Option ℕ) (x : Judgement) : Type 0 where
  pub design : Design
  pub table : Table
  pub setup : IsSetup told d t top design table
  pub bound : x.bound ≡ bound_of design.wires table
  pub goals : List GoalTree
  pub are_goals : AreGoalsFile told g (vars_of design table) (samples_in design table) goals
  pub names : x.decisions.names ≡ goal_names goals
  pub right : AreRight (bench_of design table) goals budget (map verdict_is x.decisions.verdicts) x.decisions.shown

-- it has a verdict and samples to show for each name
pub record AreAsLong (x : Judgement) : Type 0 where
  pub verdicts : length x.decisions.verdicts ≡ length x.decisions.names
  pub shown : length x.decisions.shown ≡ length x.decisions.names

-- a self test stops at a refusal of its texts, or for want of memory
abbrev pub StopsTest : ℕ → Stop → Type 0
StopsTest n stop = Stops (RefusesTest n) (λ file place. ⊥) stop

-- ---- one goal

-- The text of what was found of a goal: a certificate where it has one, and else the report of its verdict.
abbrev pub IsTextOf : Bound → Text → Verdict → List (List Bit) → Option Certificate → Bool → Text → Type 0
IsTextOf bound name verdict shown (Some c) certified text = (certified ≡ true) × (text ≡ cert_text (cert_note name verdict) c.cnf c.log) × CertText text c.cnf c.log
IsTextOf bound name verdict shown None certified text = (certified ≡ false) × (text ≡ report (var_texts bound.vars) (sample_texts bound.samples) (name ∷ []) (verdict ∷ []) (shown ∷ []))

-- ---- certificates

-- the step at which the judge refused a log, if it did
abbrev pub IsBadOf : Result Certificate CheckErr → Option ℕ → Type 0
IsBadOf (Ok checked) bad = bad ≡ None
IsBadOf (Err (Bad step)) bad = bad ≡ Some step
