-- The grammar of blocks and statements (A.6).
use Rattle.std.specs.Prelude.{◌≡◌, ℕ, ◌≤◌, ◌+◌, Bool, true, false, List, [], ◌∷◌, codes}
use mathlib.Core.Former.{Count}
use Rattle.sv_tree.specs.declared.word.Word.{Word}
use Rattle.sv_tree.specs.declared.exprs.Select.{Select}
use Rattle.sv_tree.specs.declared.stmts.Lvalue.{Lvalue, Name, Concat', Row_of-Lvalue, end_of-Lvalue, more_of-Lvalue}
use Rattle.sv_tree.specs.declared.stmts.Step.{Step}
use Rattle.sv_tree.specs.declared.stmts.Step.TheVariants as step
use Rattle.sv_tree.specs.declared.stmts.StepMark.{StepMark}
use Rattle.sv_tree.specs.declared.stmts.StepMark.TheVariants as step_mark
use Rattle.sv_tree.specs.declared.stmts.StepSign.{StepSign}
use Rattle.sv_tree.specs.declared.stmts.StepSign.TheVariants as step_sign
use Rattle.sv_tree.specs.declared.stmts.Uniq.{Uniq}
use Rattle.sv_tree.specs.declared.stmts.Uniq.TheVariants as uniq
use Rattle.sv_tree.specs.declared.stmts.CaseWord.{CaseWord}
use Rattle.sv_tree.specs.declared.stmts.CaseWord.TheVariants as case_word
use Rattle.sv_tree.specs.declared.stmts.AssignMark.{AssignMark}
use Rattle.sv_tree.specs.declared.stmts.AssignMark.TheVariants as assign_mark
use Rattle.sv_tree.specs.declared.stmts.Edge.{Edge}
use Rattle.sv_tree.specs.declared.stmts.Edge.TheVariants as edge
use Rattle.sv_tree.specs.declared.stmts.Event.{Event}
use Rattle.sv_tree.specs.declared.stmts.EventMark.{EventMark}
use Rattle.sv_tree.specs.declared.stmts.EventMark.TheVariants as event_mark
use Rattle.sv_tree.specs.declared.stmts.NextEvent.{NextEvent}
use Rattle.sv_tree.specs.declared.stmts.Events.{Events}
use Rattle.sv_tree.specs.declared.stmts.BlockKind.{BlockKind}
use Rattle.sv_tree.specs.declared.stmts.BlockKind.TheVariants as kind
use Rattle.sv_tree.specs.declared.stmts.Block.{Block}
use Rattle.sv_tree.specs.declared.stmts.Stmt.{Stmt, Empty, Block', If', Case', For', Assign, Row_of-Stmt, end_of-Stmt, more_of-Stmt, Row_of-Arm, end_of-Arm, more_of-Arm, Held-Stmt-If-3, None', Some'}
use Rattle.sv_tree.specs.declared.stmts.Arm.{Arm, Labels', Default'}
use Rattle.sv_tree.specs.Spelling.{Text, Spelled, nothing, never, ◌⨟◌, when, mark, mark_at, key, key_at, name, maybe, each, commas, label_of}
use Rattle.sv_tree.specs.GrammarExprs.{Spells, SpellsSelect, is_range}
use Rattle.sv_tree.specs.GrammarForms.{whole_key}

-- the selects of a target, a range being the last
abbrev pub SpellsChain : List Select → Spelled
SpellsChain [] = nothing
SpellsChain (x ∷ []) = SpellsSelect x
SpellsChain (x ∷ y ∷ all) = when (is_range x ≡ false) (SpellsSelect x ⨟ SpellsChain (y ∷ all))

abbrev mutual
  pub SpellsLvalue : Lvalue → Spelled
  SpellsLvalue (Name w all) = name w ⨟ SpellsChain all
  SpellsLvalue (Concat' p s all) = mark_at (codes "{") p ⨟ SpellsLvalues all ⨟ mark (codes "}")

  pub SpellsLvalues : {m : Count} → Row_of-Lvalue m → Spelled
  SpellsLvalues end_of-Lvalue = never
  SpellsLvalues (more_of-Lvalue x all) = SpellsLvalue x ⨟ MoreLvalues all

  pub MoreLvalues : {m : Count} → Row_of-Lvalue m → Spelled
  MoreLvalues end_of-Lvalue = nothing
  MoreLvalues (more_of-Lvalue x all) = mark (codes ",") ⨟ SpellsLvalue x ⨟ MoreLvalues all

abbrev pub step_text : StepMark → Text
step_text step_mark.Inc = codes "++"
step_text step_mark.Dec = codes "--"

abbrev pub step_sign_text : StepSign → Text
step_sign_text step_sign.Set = codes "="
step_sign_text step_sign.Add = codes "+="
step_sign_text step_sign.Sub = codes "-="

-- a step of the loop of that variable
abbrev pub SpellsStep : Word → Step → Spelled
SpellsStep v (step.After w m) = when (w.text ≡ v.text) (name w ⨟ mark (step_text m))
SpellsStep v (step.Before m w) = when (w.text ≡ v.text) (mark (step_text m) ⨟ name w)
SpellsStep v (step.Assign w m x) = when (w.text ≡ v.text) (name w ⨟ mark (step_sign_text m) ⨟ Spells 0 x)

abbrev pub uniq_key : Uniq → Spelled
uniq_key uniq.Unique = key (codes "unique")
uniq_key uniq.Unique0 = key (codes "unique0")
uniq_key uniq.Priority = key (codes "priority")

abbrev pub case_key : CaseWord → Spelled
case_key case_word.Case = key (codes "case")
case_key case_word.Casez = key (codes "casez")

abbrev pub assign_text : AssignMark → Text
assign_text assign_mark.Blocking = codes "="
assign_text assign_mark.Nonblocking = codes "<="

abbrev pub block_name : Word → Spelled
block_name w = mark (codes ":") ⨟ name w

abbrev pub colon_if : Bool → Spelled
colon_if true = mark (codes ":")
colon_if false = nothing

-- An `if` with no `else` at its end would take one that follows.
abbrev mutual
  pub is_closed : Stmt → Bool
  is_closed Empty = true
  is_closed (Block' p b s all e) = true
  is_closed (If' u c r (more_of-Stmt x end_of-Stmt) other) = is_closed_else other
  is_closed (Case' u w x s all) = true
  is_closed (For' p form v start test next r (more_of-Stmt body end_of-Stmt)) = is_closed body
  is_closed (Assign to m p x) = true

  pub is_closed_else : Held-Stmt-If-3 → Bool
  is_closed_else None' = false
  is_closed_else (Some' r (more_of-Stmt x end_of-Stmt)) = is_closed x

-- the number of defaults
abbrev pub defaults : {m : Count} → Row_of-Arm m → ℕ
defaults end_of-Arm = 0
defaults (more_of-Arm (Labels' xs r x) all) = defaults all
defaults (more_of-Arm (Default' b r x) all) = defaults all + 1

abbrev mutual
  pub SpellsStmt : Stmt → Spelled
  SpellsStmt Empty = mark (codes ";")
  SpellsStmt (Block' p b s all e) = key_at (codes "begin") p ⨟ maybe block_name b ⨟ SpellsStmts all ⨟ key (codes "end") ⨟ label_of b e
  SpellsStmt (If' u c r (more_of-Stmt x end_of-Stmt) other) =
      maybe uniq_key u ⨟ key (codes "if") ⨟ mark (codes "(") ⨟ Spells 0 c ⨟ mark (codes ")") ⨟ SpellsStmt x ⨟ SpellsElse (is_closed x) other
  SpellsStmt (Case' u w x s all) =
      when (defaults all ≤ 1) (maybe uniq_key u ⨟ case_key w ⨟ mark (codes "(") ⨟ Spells 0 x ⨟ mark (codes ")") ⨟ SpellsArms all ⨟ key (codes "endcase"))
  SpellsStmt (For' p form v start test next r (more_of-Stmt body end_of-Stmt)) =
      key_at (codes "for") p ⨟ mark (codes "(") ⨟ whole_key form ⨟ name v ⨟ mark (codes "=") ⨟ Spells 0 start ⨟ mark (codes ";") ⨟ Spells 0 test ⨟ mark (codes ";")
      ⨟ SpellsStep v next ⨟ mark (codes ")") ⨟ SpellsStmt body
  SpellsStmt (Assign to m p x) = SpellsLvalue to ⨟ mark_at (assign_text m) p ⨟ Spells 0 x ⨟ mark (codes ";")

  -- An `else` belongs to the nearest `if`.
  pub SpellsElse : Bool → Held-Stmt-If-3 → Spelled
  SpellsElse closed None' = nothing
  SpellsElse closed (Some' r (more_of-Stmt x end_of-Stmt)) = when (closed ≡ true) (key (codes "else") ⨟ SpellsStmt x)

  pub SpellsStmts : {m : Count} → Row_of-Stmt m → Spelled
  SpellsStmts end_of-Stmt = nothing
  SpellsStmts (more_of-Stmt x all) = SpellsStmt x ⨟ SpellsStmts all

  -- at least one
  pub SpellsArms : {m : Count} → Row_of-Arm m → Spelled
  SpellsArms end_of-Arm = never
  SpellsArms (more_of-Arm x all) = SpellsArm x ⨟ MoreArms all

  pub MoreArms : {m : Count} → Row_of-Arm m → Spelled
  MoreArms end_of-Arm = nothing
  MoreArms (more_of-Arm x all) = SpellsArm x ⨟ MoreArms all

  pub SpellsArm : Arm → Spelled
  SpellsArm (Labels' xs r (more_of-Stmt x end_of-Stmt)) = commas (Spells 0) xs ⨟ mark (codes ":") ⨟ SpellsStmt x
  SpellsArm (Default' b r (more_of-Stmt x end_of-Stmt)) = key (codes "default") ⨟ colon_if b ⨟ SpellsStmt x

abbrev pub edge_key : Edge → Spelled
edge_key edge.Pos = key (codes "posedge")
edge_key edge.Neg = key (codes "negedge")

abbrev pub SpellsEvent : Event → Spelled
SpellsEvent e = edge_key e.edge ⨟ name e.name

abbrev pub SpellsEventMark : EventMark → Spelled
SpellsEventMark event_mark.Or = key (codes "or")
SpellsEventMark event_mark.Comma = mark (codes ",")

abbrev pub SpellsNextEvent : NextEvent → Spelled
SpellsNextEvent e = SpellsEventMark e.mark ⨟ SpellsEvent e.event

abbrev pub SpellsEvents : Events → Spelled
SpellsEvents all = mark (codes "@") ⨟ mark (codes "(") ⨟ SpellsEvent all.first ⨟ each SpellsNextEvent all.more ⨟ mark (codes ")")

abbrev pub SpellsKind : BlockKind → Spelled
SpellsKind kind.Comb = key (codes "always_comb")
SpellsKind kind.Latch = key (codes "always_latch")
SpellsKind (kind.Ff all) = key (codes "always_ff") ⨟ SpellsEvents all
SpellsKind (kind.Always all) = key (codes "always") ⨟ SpellsEvents all
SpellsKind kind.Star = key (codes "always") ⨟ mark (codes "@") ⨟ mark (codes "*")
SpellsKind kind.StarParen = key (codes "always") ⨟ mark (codes "@") ⨟ mark (codes "(") ⨟ mark (codes "*") ⨟ mark (codes ")")

abbrev pub SpellsBlock : Block → Spelled
SpellsBlock b = SpellsKind b.kind ⨟ SpellsStmt b.body
