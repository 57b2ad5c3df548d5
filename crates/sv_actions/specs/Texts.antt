-- The signals that the text of a block names.
use Rattle.std.specs.Prelude.{ℕ, List, [], ◌∷◌, ◌++◌, Option, Some, None}
use mathlib.Core.Former.{Count}
use Rattle.sv_tree.specs.declared.stmts.Lvalue.{Lvalue, Name, Concat', Row_of-Lvalue, end_of-Lvalue, more_of-Lvalue}
use Rattle.sv_tree.specs.declared.stmts.Stmt.{Stmt, Empty, Block', If', Case', For', Assign, Row_of-Stmt, end_of-Stmt, more_of-Stmt, Row_of-Arm, end_of-Arm, more_of-Arm, Held-Stmt-If-3, None', Some'}
use Rattle.sv_tree.specs.declared.stmts.Arm.{Arm, Labels', Default'}
use Rattle.sv_tree.specs.declared.stmts.Block.{Block}
use Rattle.sv_tree.specs.declared.stmts.BlockKind.{BlockKind}
use Rattle.sv_tree.specs.declared.stmts.Event.{Event}
use Rattle.sv_meaning.specs.Layouts.{width, Scope, What, signal_is, of_wires, NamedSignal, find}
use Rattle.sv_meaning.specs.Deeds.{deed}
use Rattle.sv_meaning.specs.Blocks.{kind_events}

abbrev pub wire_signal : ℕ → ℕ → NamedSignal
wire_signal n w = record { owner = of_wires; number = n; width = w }

-- the net or variable that a name stands for
abbrev pub signal_of : Option What → List NamedSignal
signal_of (Some (signal_is of_wires n x)) = wire_signal n (width x) ∷ []
signal_of x = []

-- ---- what the targets of statements name in front of their selects (IEEE 1800-2017, 10.4)

unfoldable mutual
  pub root_signals : Scope → Lvalue → List NamedSignal
  root_signals at (Name w all) = signal_of (find w.text at)
  root_signals at (Concat' p s all) = all_root_signals at all

  pub all_root_signals : {m : Count} → Scope → Row_of-Lvalue m → List NamedSignal
  all_root_signals at end_of-Lvalue = []
  all_root_signals at (more_of-Lvalue x all) = root_signals at x ++ all_root_signals at all

-- The variable of a loop is no target, so all are looked up outside of loops.
unfoldable mutual
  pub target_signals : Scope → Stmt → List NamedSignal
  target_signals at Empty = []
  target_signals at (Block' p b s all e) = signals_in at all
  target_signals at (If' u x r (more_of-Stmt y end_of-Stmt) other) = target_signals at y ++ else_signals at other
  target_signals at (Case' u word x s all) = arms_signals at all
  target_signals at (For' p form name start test next r (more_of-Stmt body end_of-Stmt)) = target_signals at body
  target_signals at (Assign to m p x) = root_signals at to

  pub else_signals : Scope → Held-Stmt-If-3 → List NamedSignal
  else_signals at None' = []
  else_signals at (Some' r (more_of-Stmt x end_of-Stmt)) = target_signals at x

  pub signals_in : {m : Count} → Scope → Row_of-Stmt m → List NamedSignal
  signals_in at end_of-Stmt = []
  signals_in at (more_of-Stmt x all) = target_signals at x ++ signals_in at all

  pub arms_signals : {m : Count} → Scope → Row_of-Arm m → List NamedSignal
  arms_signals at end_of-Arm = []
  arms_signals at (more_of-Arm (Labels' xs r (more_of-Stmt x end_of-Stmt)) all) = target_signals at x ++ arms_signals at all
  arms_signals at (more_of-Arm (Default' colon r (more_of-Stmt x end_of-Stmt)) all) = target_signals at x ++ arms_signals at all

-- ---- what a block names

-- those of each of a list
unfoldable pub of_each : {A : Type 0} → (A → List NamedSignal) → List A → List NamedSignal
of_each f [] = []
of_each f (x ∷ more) = f x ++ of_each f more

abbrev pub event_signal : Scope → Event → List NamedSignal
event_signal at e = signal_of (find e.name.text at)

abbrev pub event_signals : Scope → BlockKind → List NamedSignal
event_signals at k = of_each (event_signal at) (kind_events k)

-- what it reads, what its targets name, and its events
abbrev pub signals_of : Scope → Block → List NamedSignal
signals_of at b = (deed b.body at).names ++ (target_signals at b.body ++ event_signals at b.kind)

-- ---- as code lists them

abbrev pub other_signals : Scope → Option Stmt → List NamedSignal
other_signals at None = []
other_signals at (Some x) = target_signals at x

abbrev pub arm_signals : Scope → Arm → List NamedSignal
arm_signals at (Labels' xs r (more_of-Stmt x end_of-Stmt)) = target_signals at x
arm_signals at (Default' colon r (more_of-Stmt x end_of-Stmt)) = target_signals at x
