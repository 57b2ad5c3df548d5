-- Targets, statements and blocks as they are written: the kinds and texts of their tokens.
use Rattle.std.specs.Prelude.{Option, Bool, true, false, List, [], ◌∷◌, codes}
use mathlib.Core.Former.{Count}
use Rattle.sv_tree.specs.declared.word.Word.{Word}
use Rattle.sv_tree.specs.declared.exprs.Select.{Select}
use Rattle.sv_tree.specs.declared.stmts.Lvalue.{Lvalue, Name, Concat', Row_of-Lvalue, end_of-Lvalue, more_of-Lvalue}
use Rattle.sv_tree.specs.declared.stmts.Step.{Step}
use Rattle.sv_tree.specs.declared.stmts.Step.TheVariants as step
use Rattle.sv_tree.specs.declared.stmts.Uniq.{Uniq}
use Rattle.sv_tree.specs.declared.stmts.Uniq.TheVariants as uniq
use Rattle.sv_tree.specs.declared.stmts.CaseWord.{CaseWord}
use Rattle.sv_tree.specs.declared.stmts.CaseWord.TheVariants as case_word
use Rattle.sv_tree.specs.declared.stmts.Edge.{Edge}
use Rattle.sv_tree.specs.declared.stmts.Edge.TheVariants as edge
use Rattle.sv_tree.specs.declared.stmts.Event.{Event}
use Rattle.sv_tree.specs.declared.stmts.EventMark.{EventMark}
use Rattle.sv_tree.specs.declared.stmts.EventMark.TheVariants as event_mark
use Rattle.sv_tree.specs.declared.stmts.NextEvent.{NextEvent}
use Rattle.sv_tree.specs.declared.stmts.Events.{Events}
use Rattle.sv_tree.specs.declared.stmts.BlockKind.{BlockKind}
use Rattle.sv_tree.specs.declared.stmts.BlockKind.TheVariants as kind
use Rattle.sv_tree.specs.declared.stmts.Block.{Block}
use Rattle.sv_tree.specs.declared.stmts.Stmt.{Stmt, Empty, Block', If', Case', For', Assign, Row_of-Stmt, end_of-Stmt, more_of-Stmt, Row_of-Arm, end_of-Arm, more_of-Arm, Held-Stmt-If-3, None', Some'}
use Rattle.sv_tree.specs.declared.stmts.Arm.{Arm, Labels', Default'}
use Rattle.sv_write.specs.Writing.{Write, ◌⨾◌, nothing, mark, key, name, maybe, each, commas, label}
use Rattle.sv_tree.specs.GrammarStmts.{step_text, step_sign_text, assign_text}
use Rattle.sv_tree.specs.Spelling.{Text}
use Rattle.sv_tree.specs.declared.forms.WholeWord.{WholeWord}
use Rattle.sv_tree.specs.declared.stmts.AssignMark.{AssignMark}
use Rattle.sv_write.specs.Exprs.{write_expr, write_select, in_parens}
use Rattle.sv_write.specs.Forms.{write_whole_key}
use Rattle.sv_tree.specs.declared.exprs.Expr.{Expr}

unfoldable pub write_chain : List Select → Write
write_chain [] = nothing
write_chain (x ∷ []) = write_select x
write_chain (x ∷ y ∷ all) = write_select x ⨾ write_chain (y ∷ all)

unfoldable mutual
  pub write_lvalue : Lvalue → Write
  write_lvalue (Name w all) = name w ⨾ write_chain all
  write_lvalue (Concat' p s all) = mark (codes "{") ⨾ write_lvalues all ⨾ mark (codes "}")

  pub write_lvalues : {m : Count} → Row_of-Lvalue m → Write
  write_lvalues end_of-Lvalue = nothing
  write_lvalues (more_of-Lvalue x all) = write_lvalue x ⨾ write_more_lvalues all

  pub write_more_lvalues : {m : Count} → Row_of-Lvalue m → Write
  write_more_lvalues end_of-Lvalue = nothing
  write_more_lvalues (more_of-Lvalue x all) = mark (codes ",") ⨾ write_lvalue x ⨾ write_more_lvalues all

unfoldable pub write_step : Word → Step → Write
write_step v (step.After w m) = name w ⨾ mark (step_text m)
write_step v (step.Before m w) = mark (step_text m) ⨾ name w
write_step v (step.Assign w m x) = name w ⨾ mark (step_sign_text m) ⨾ write_expr x

unfoldable pub write_uniq_key : Uniq → Write
write_uniq_key uniq.Unique = key (codes "unique")
write_uniq_key uniq.Unique0 = key (codes "unique0")
write_uniq_key uniq.Priority = key (codes "priority")

unfoldable pub write_case_key : CaseWord → Write
write_case_key case_word.Case = key (codes "case")
write_case_key case_word.Casez = key (codes "casez")

unfoldable pub write_block_name : Word → Write
write_block_name w = mark (codes ":") ⨾ name w

unfoldable pub write_colon_if : Bool → Write
write_colon_if true = mark (codes ":")
write_colon_if false = nothing

unfoldable mutual
  pub write_stmt : Stmt → Write
  write_stmt Empty = mark (codes ";")
  write_stmt (Block' p b s all e) = key (codes "begin") ⨾ maybe write_block_name b ⨾ write_stmts all ⨾ key (codes "end") ⨾ label e
  write_stmt (If' u c r (more_of-Stmt x end_of-Stmt) other) = maybe write_uniq_key u ⨾ key (codes "if") ⨾ mark (codes "(") ⨾ write_expr c ⨾ mark (codes ")") ⨾ write_stmt x ⨾ write_else other
  write_stmt (Case' u w x s all) = maybe write_uniq_key u ⨾ write_case_key w ⨾ mark (codes "(") ⨾ write_expr x ⨾ mark (codes ")") ⨾ write_arms all ⨾ key (codes "endcase")
  write_stmt (For' p form v start test next r (more_of-Stmt body end_of-Stmt)) = key (codes "for") ⨾ mark (codes "(") ⨾ write_whole_key form ⨾ name v ⨾ mark (codes "=") ⨾ write_expr start ⨾ mark (codes ";") ⨾ write_expr test ⨾ mark (codes ";") ⨾ write_step v next ⨾ mark (codes ")") ⨾ write_stmt body
  write_stmt (Assign to m p x) = write_lvalue to ⨾ mark (assign_text m) ⨾ write_expr x ⨾ mark (codes ";")

  pub write_else : Held-Stmt-If-3 → Write
  write_else None' = nothing
  write_else (Some' r (more_of-Stmt x end_of-Stmt)) = key (codes "else") ⨾ write_stmt x

  pub write_stmts : {m : Count} → Row_of-Stmt m → Write
  write_stmts end_of-Stmt = nothing
  write_stmts (more_of-Stmt x all) = write_stmt x ⨾ write_stmts all

  pub write_arms : {m : Count} → Row_of-Arm m → Write
  write_arms end_of-Arm = nothing
  write_arms (more_of-Arm x all) = write_arm x ⨾ write_more_arms all

  pub write_more_arms : {m : Count} → Row_of-Arm m → Write
  write_more_arms end_of-Arm = nothing
  write_more_arms (more_of-Arm x all) = write_arm x ⨾ write_more_arms all

  pub write_arm : Arm → Write
  write_arm (Labels' xs r (more_of-Stmt x end_of-Stmt)) = commas write_expr xs ⨾ mark (codes ":") ⨾ write_stmt x
  write_arm (Default' b r (more_of-Stmt x end_of-Stmt)) = key (codes "default") ⨾ write_colon_if b ⨾ write_stmt x

-- what stands behind a branch
abbrev pub write_else_part : Stmt → Write
write_else_part x = key (codes "else") ⨾ write_stmt x

unfoldable pub write_edge_key : Edge → Write
write_edge_key edge.Pos = key (codes "posedge")
write_edge_key edge.Neg = key (codes "negedge")

unfoldable pub write_event : Event → Write
write_event e = write_edge_key e.edge ⨾ name e.name

unfoldable pub write_event_mark : EventMark → Write
write_event_mark event_mark.Or = key (codes "or")
write_event_mark event_mark.Comma = mark (codes ",")

unfoldable pub write_next_event : NextEvent → Write
write_next_event e = write_event_mark e.mark ⨾ write_event e.event

unfoldable pub write_events : Events → Write
write_events all = mark (codes "@") ⨾ mark (codes "(") ⨾ write_event all.first ⨾ each write_next_event all.more ⨾ mark (codes ")")

unfoldable pub write_kind : BlockKind → Write
write_kind kind.Comb = key (codes "always_comb")
write_kind kind.Latch = key (codes "always_latch")
write_kind (kind.Ff all) = key (codes "always_ff") ⨾ write_events all
write_kind (kind.Always all) = key (codes "always") ⨾ write_events all
write_kind kind.Star = key (codes "always") ⨾ mark (codes "@") ⨾ mark (codes "*")
write_kind kind.StarParen = key (codes "always") ⨾ mark (codes "@") ⨾ mark (codes "(") ⨾ mark (codes "*") ⨾ mark (codes ")")

unfoldable pub write_block : Block → Write
write_block b = write_kind b.kind ⨾ write_stmt b.body

-- ---- what is written for parts of statements

abbrev pub begin : Option Word → Write
begin given = key (codes "begin") ⨾ label given

abbrev pub end : Text → Option Word → Write
end text given = key text ⨾ label given

abbrev pub labels : List Expr → Write
labels all = commas write_expr all ⨾ mark (codes ":")

abbrev pub default_label : Bool → Write
default_label colon = key (codes "default") ⨾ write_colon_if colon

abbrev pub if_head : Option Uniq → Expr → Write
if_head word test = maybe write_uniq_key word ⨾ key (codes "if") ⨾ in_parens test

abbrev pub case_head : Option Uniq → CaseWord → Expr → Write
case_head uniq word value = maybe write_uniq_key uniq ⨾ write_case_key word ⨾ in_parens value

-- what stands behind the `(` of a loop and its word
abbrev pub turns : Word → Expr → Expr → Step → Write
turns v start test next = name v ⨾ mark (codes "=") ⨾ write_expr start ⨾ mark (codes ";") ⨾ write_expr test ⨾ mark (codes ";") ⨾ write_step v next ⨾ mark (codes ")")

abbrev pub for_word : WholeWord → Write
for_word word = key (codes "for") ⨾ mark (codes "(") ⨾ write_whole_key word

abbrev pub assignment : Lvalue → AssignMark → Expr → Write
assignment target by value = write_lvalue target ⨾ mark (assign_text by) ⨾ write_expr value ⨾ mark (codes ";")
