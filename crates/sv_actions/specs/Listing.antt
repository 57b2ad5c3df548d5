-- Statements, arms and turns as code lists them, and what is found of them one by one.
use Rattle.std.specs.Prelude.{◌≡◌, ℕ, ◌+◌, List, [], ◌∷◌, ◌++◌, map, Option, Some, None, Result, Ok, Err}
use Rattle.std.specs.List.{All, AllZip, Contains}
use Rattle.fourvec.specs.declared.Bit.{Bit}
use Rattle.sv_outside.specs.declared.refusal.Place.{Place}
use Rattle.sv_outside.specs.declared.refusal.TextErr.{TextErr}
use Rattle.sv_tree.specs.declared.stmts.Stmt.{Stmt, end_of-Stmt, more_of-Stmt}
use Rattle.sv_tree.specs.declared.stmts.Arm.{Arm, Labels', Default'}
use Rattle.sv_meaning.specs.Faults.{Faults}
use Rattle.sv_meaning.specs.Layouts.{Name, Scope, NamedSignal}
use Rattle.sv_meaning.specs.Meanings.{Meaning}
use Rattle.sv_meaning.specs.Values.{mean}
use Rattle.sv_meaning.specs.Deeds.{Deed, CaseArm, deed, idle, after, one_turn, with_index, labels_of, longest, all_signed, all_faults, most_turns_together}
use Rattle.sv_tree.specs.declared.stmts.AssignMark.{AssignMark}
use Rattle.sv_meaning.specs.Blocks.{marks, earlier, first_mark}
use Rattle.sv_typed.specs.Typed.{Stands, IsSound}
use Rattle.sv_typing.specs.Judging.{IsCause}
use Rattle.sv_actions.specs.declared.action.Arm as a
use Rattle.sv_actions.specs.declared.statements.Acted.{Acted}
use Rattle.sv_actions.specs.declared.labels.Labels.{Labels}
use Rattle.sv_actions.specs.declared.arms.ActedArms.{ActedArms}
use Rattle.sv_actions.specs.Doing.{Aims}
use Rattle.sv_actions.specs.Typing.{Does}

-- ---- marks

-- nothing stands against a text, or it is refused for one of these reasons
abbrev pub JudgesFaults : {A : Type 0} → Faults → Result A TextErr → Type 0
JudgesFaults all (Ok x) = all ≡ []
JudgesFaults all (Err e) = IsCause all e

abbrev pub else_marks : AssignMark → Option Stmt → Faults
else_marks m None = []
else_marks m (Some x) = marks m x

-- what stands against each of a list
unfoldable pub faults_in : {A : Type 0} → (A → Faults) → List A → Faults
faults_in f [] = []
faults_in f (x ∷ more) = f x ++ faults_in f more

abbrev pub arm_marks : AssignMark → Arm → Faults
arm_marks m (Labels' xs r (more_of-Stmt x end_of-Stmt)) = marks m x
arm_marks m (Default' colon r (more_of-Stmt x end_of-Stmt)) = marks m x

-- ---- the first mark

abbrev pub else_mark : Option Stmt → Option AssignMark
else_mark None = None
else_mark (Some x) = first_mark x

abbrev pub arm_mark : Arm → Option AssignMark
arm_mark (Labels' xs r (more_of-Stmt x end_of-Stmt)) = first_mark x
arm_mark (Default' colon r (more_of-Stmt x end_of-Stmt)) = first_mark x

-- the first of those of a list
unfoldable pub first_in : {A : Type 0} → (A → Option AssignMark) → List A → Option AssignMark
first_in f [] = None
first_in f (x ∷ more) = earlier (f x) (first_in f more)

-- ---- what statements do

-- one after the other
unfoldable pub in_order : {A : Type 0} → (A → Deed) → List A → Deed
in_order f [] = idle
in_order f (x ∷ more) = after (f x) (in_order f more)

abbrev pub all_deeds : Scope → List Stmt → Deed
all_deeds at all = in_order (λ x. deed x at) all

abbrev pub else_deed : Scope → Option Stmt → Deed
else_deed at None = idle
else_deed at (Some x) = deed x at

-- the turn of a value of the loop's variable
abbrev pub turn_deed : Scope → Place → Name → Stmt → List Bit → Deed
turn_deed at p name body bits = one_turn p (deed body (with_index at name bits))

abbrev pub arm_of : Scope → Arm → List CaseArm
arm_of at (Labels' xs r (more_of-Stmt x end_of-Stmt)) = record { labels = map (mean at) xs; body = deed x at } ∷ []
arm_of at (Default' colon r x) = []

unfoldable pub all_arms : Scope → List Arm → List CaseArm
all_arms at [] = []
all_arms at (x ∷ more) = arm_of at x ++ all_arms at more

-- the first default
unfoldable pub rest_of : Scope → List Arm → Deed
rest_of at [] = idle
rest_of at (Labels' xs r x ∷ more) = rest_of at more
rest_of at (Default' colon r (more_of-Stmt x end_of-Stmt) ∷ more) = deed x at

abbrev pub bodies : List CaseArm → Deed
bodies arms = in_order (λ (x : CaseArm). x.body) arms

-- how many turns were made behind what is typed; where that is refused, as many as can be
abbrev pub made_behind : Result Acted TextErr → ℕ
made_behind (Ok x) = x.made
made_behind (Err e) = most_turns_together

abbrev pub arms_behind : Result ActedArms TextErr → ℕ
arms_behind (Ok x) = x.made
arms_behind (Err e) = most_turns_together

-- ---- labels and arms

-- labels that are sound, with the largest of their sizes, and whether all are signed
pub record AreLabels (ms : List Meaning) (x : Labels) : Type 0 where
  pub clear : all_faults ms ≡ []
  pub stand : AllZip Stands x.all ms
  pub sound : All IsSound x.all
  pub width : x.width ≡ longest ms
  pub signed : x.signed ≡ all_signed ms

abbrev pub JudgesLabels : List Meaning → Result Labels TextErr → Type 0
JudgesLabels ms (Ok x) = AreLabels ms x
JudgesLabels ms (Err e) = IsCause (all_faults ms) e

pub record IsArm (x : a.Arm) (arm : CaseArm) : Type 0 where
  pub labels : AllZip Stands x.labels arm.labels
  pub sound : All IsSound x.labels
  pub body : Does x.body arm.body

abbrev pub arms_faults : List CaseArm → ℕ → Faults
arms_faults arms made = all_faults (labels_of arms) ++ ((bodies arms).faults ++ (bodies arms).overrun made)

-- Nothing stands against the arms, where so many turns of loops were made before.
pub record AreArms (arms : List CaseArm) (before : ℕ) (x : ActedArms) : Type 0 where
  pub free : all_faults (labels_of arms) ≡ []
  pub clear : (bodies arms).faults ≡ []
  pub turned : (bodies arms).overrun before ≡ []
  pub made : x.made ≡ before + (bodies arms).turns
  pub stand : AllZip IsArm x.arms arms
  pub width : x.width ≡ longest (labels_of arms)
  pub signed : x.signed ≡ all_signed (labels_of arms)

abbrev pub JudgesArms : List CaseArm → ℕ → Result ActedArms TextErr → Type 0
JudgesArms arms made (Ok x) = AreArms arms made x
JudgesArms arms made (Err e) = IsCause (arms_faults arms made) e

-- ---- the signals that targets name

-- all of these are among those
abbrev pub Within : List NamedSignal → List NamedSignal → Type 0
Within a b = (s : NamedSignal) → Contains a s → Contains b s

abbrev pub ActedAims : List NamedSignal → Acted → Type 0
ActedAims named x = All (Aims named) x.actions

abbrev pub ArmAims : List NamedSignal → a.Arm → Type 0
ArmAims named arm = All (Aims named) arm.body

abbrev pub ArmsAim : List NamedSignal → ActedArms → Type 0
ArmsAim named x = All (ArmAims named) x.arms
