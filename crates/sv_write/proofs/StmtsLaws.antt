-- Targets, statements and blocks: what is written are the kinds and texts of whatever tokens spell them.
use Rattle.std.specs.Prelude.{Bool, true, false, List, [], ◌∷◌, codes}
use mathlib.Core.Former.{Count}
use Rattle.sv_tree.specs.declared.word.Word.{Word}
use Rattle.sv_tree.specs.declared.exprs.Select.{Select}
use Rattle.sv_tree.specs.declared.stmts.Lvalue.{Lvalue, Name, Concat', Row_of-Lvalue, end_of-Lvalue, more_of-Lvalue}
use Rattle.sv_tree.specs.declared.stmts.Step.{Step}
use Rattle.sv_tree.specs.declared.stmts.Step.TheVariants as step
use Rattle.sv_tree.specs.declared.stmts.Uniq.{Uniq}
use Rattle.sv_tree.specs.declared.stmts.Uniq.TheVariants as uniq
use Rattle.sv_tree.specs.declared.stmts.CaseWord.{CaseWord}
use Rattle.sv_tree.specs.declared.stmts.CaseWord.TheVariants as case_word
use Rattle.sv_tree.specs.declared.stmts.Edge.{Edge}
use Rattle.sv_tree.specs.declared.stmts.Edge.TheVariants as edge
use Rattle.sv_tree.specs.declared.stmts.Event.{Event}
use Rattle.sv_tree.specs.declared.stmts.EventMark.{EventMark}
use Rattle.sv_tree.specs.declared.stmts.EventMark.TheVariants as event_mark
use Rattle.sv_tree.specs.declared.stmts.NextEvent.{NextEvent}
use Rattle.sv_tree.specs.declared.stmts.Events.{Events}
use Rattle.sv_tree.specs.declared.stmts.BlockKind.{BlockKind}
use Rattle.sv_tree.specs.declared.stmts.BlockKind.TheVariants as kind
use Rattle.sv_tree.specs.declared.stmts.Block.{Block}
use Rattle.sv_tree.specs.declared.stmts.Stmt.{Stmt, Empty, Block', If', Case', For', Assign, Row_of-Stmt, end_of-Stmt, more_of-Stmt, Row_of-Arm, end_of-Arm, more_of-Arm, Held-Stmt-If-3, None', Some'}
use Rattle.sv_tree.specs.declared.stmts.Arm.{Arm, Labels', Default'}
use Rattle.sv_tree.specs.GrammarStmts.{SpellsChain, SpellsLvalue, SpellsLvalues, MoreLvalues, SpellsStep, uniq_key, case_key, block_name, colon_if, SpellsStmt, SpellsElse, SpellsStmts, SpellsArms, MoreArms, SpellsArm, edge_key, SpellsEvent, SpellsEventMark, SpellsNextEvent, SpellsEvents, SpellsKind, SpellsBlock, step_text, step_sign_text, assign_text, is_closed}
use Rattle.sv_write.specs.Stmts.{write_chain, write_lvalue, write_lvalues, write_more_lvalues, write_step, write_uniq_key, write_case_key, write_block_name, write_colon_if, write_stmt, write_else, write_stmts, write_arms, write_more_arms, write_arm, write_edge_key, write_event, write_event_mark, write_next_event, write_events, write_kind, write_block}
use Rattle.sv_write.specs.Writing as w
use Rattle.sv_write.proofs.Lawful.{Law, ◌▹◌, law_mark, law_mark_at, law_key, law_key_at, law_name, law_nothing, law_never, law_when, law_maybe, law_each, law_commas, law_label_of}
use Rattle.sv_write.proofs.ExprsLaws.{law_expr, law_select}
use Rattle.sv_write.proofs.FormsLaws.{law_whole_key}

pub law_chain : (x : List Select) → Law (SpellsChain x) (write_chain x)
unfolding write_chain
law_chain [] = law_nothing
law_chain (x ∷ []) = law_select x
law_chain (x ∷ y ∷ all) = law_when (law_select x ▹ law_chain (y ∷ all))

mutual
  unfolding write_lvalue write_lvalues write_more_lvalues

  pub law_lvalue : (x : Lvalue) → Law (SpellsLvalue x) (write_lvalue x)
  law_lvalue (Name w all) = law_name w ▹ law_chain all
  law_lvalue (Concat' p s all) = law_mark_at (codes "{") p ▹ law_lvalues all ▹ law_mark (codes "}")

  pub law_lvalues : {m : Count} (x : Row_of-Lvalue m) → Law (SpellsLvalues x) (write_lvalues x)
  law_lvalues end_of-Lvalue = law_never w.nothing
  law_lvalues (more_of-Lvalue x all) = law_lvalue x ▹ law_more_lvalues all

  pub law_more_lvalues : {m : Count} (x : Row_of-Lvalue m) → Law (MoreLvalues x) (write_more_lvalues x)
  law_more_lvalues end_of-Lvalue = law_nothing
  law_more_lvalues (more_of-Lvalue x all) = law_mark (codes ",") ▹ law_lvalue x ▹ law_more_lvalues all

pub law_step : (x : Word) (y : Step) → Law (SpellsStep x y) (write_step x y)
unfolding write_step
law_step v (step.After w m) = law_when (law_name w ▹ law_mark (step_text m))
law_step v (step.Before m w) = law_when (law_mark (step_text m) ▹ law_name w)
law_step v (step.Assign w m x) = law_when (law_name w ▹ law_mark (step_sign_text m) ▹ law_expr 0 x)

pub law_uniq_key : (x : Uniq) → Law (uniq_key x) (write_uniq_key x)
unfolding write_uniq_key
law_uniq_key uniq.Unique = law_key (codes "unique")
law_uniq_key uniq.Unique0 = law_key (codes "unique0")
law_uniq_key uniq.Priority = law_key (codes "priority")

pub law_case_key : (x : CaseWord) → Law (case_key x) (write_case_key x)
unfolding write_case_key
law_case_key case_word.Case = law_key (codes "case")
law_case_key case_word.Casez = law_key (codes "casez")

pub law_block_name : (x : Word) → Law (block_name x) (write_block_name x)
unfolding write_block_name
law_block_name w = law_mark (codes ":") ▹ law_name w

pub law_colon_if : (x : Bool) → Law (colon_if x) (write_colon_if x)
unfolding write_colon_if
law_colon_if true = law_mark (codes ":")
law_colon_if false = law_nothing

mutual
  unfolding write_stmt write_else write_stmts write_arms write_more_arms write_arm

  pub law_stmt : (x : Stmt) → Law (SpellsStmt x) (write_stmt x)
  law_stmt Empty = law_mark (codes ";")
  law_stmt (Block' p b s all e) = law_key_at (codes "begin") p ▹ law_maybe law_block_name b ▹ law_stmts all ▹ law_key (codes "end") ▹ law_label_of b e
  law_stmt (If' u c r (more_of-Stmt x end_of-Stmt) other) = law_maybe law_uniq_key u ▹ law_key (codes "if") ▹ law_mark (codes "(") ▹ law_expr 0 c ▹ law_mark (codes ")") ▹ law_stmt x ▹ law_else (is_closed x) other
  law_stmt (Case' u w x s all) = law_when (law_maybe law_uniq_key u ▹ law_case_key w ▹ law_mark (codes "(") ▹ law_expr 0 x ▹ law_mark (codes ")") ▹ law_arms all ▹ law_key (codes "endcase"))
  law_stmt (For' p form v start test next r (more_of-Stmt body end_of-Stmt)) = law_key_at (codes "for") p ▹ law_mark (codes "(") ▹ law_whole_key form ▹ law_name v ▹ law_mark (codes "=") ▹ law_expr 0 start ▹ law_mark (codes ";") ▹ law_expr 0 test ▹ law_mark (codes ";") ▹ law_step v next ▹ law_mark (codes ")") ▹ law_stmt body
  law_stmt (Assign to m p x) = law_lvalue to ▹ law_mark_at (assign_text m) p ▹ law_expr 0 x ▹ law_mark (codes ";")

  pub law_else : (x : Bool) (y : Held-Stmt-If-3) → Law (SpellsElse x y) (write_else y)
  law_else closed None' = law_nothing
  law_else closed (Some' r (more_of-Stmt x end_of-Stmt)) = law_when (law_key (codes "else") ▹ law_stmt x)

  pub law_stmts : {m : Count} (x : Row_of-Stmt m) → Law (SpellsStmts x) (write_stmts x)
  law_stmts end_of-Stmt = law_nothing
  law_stmts (more_of-Stmt x all) = law_stmt x ▹ law_stmts all

  pub law_arms : {m : Count} (x : Row_of-Arm m) → Law (SpellsArms x) (write_arms x)
  law_arms end_of-Arm = law_never w.nothing
  law_arms (more_of-Arm x all) = law_arm x ▹ law_more_arms all

  pub law_more_arms : {m : Count} (x : Row_of-Arm m) → Law (MoreArms x) (write_more_arms x)
  law_more_arms end_of-Arm = law_nothing
  law_more_arms (more_of-Arm x all) = law_arm x ▹ law_more_arms all

  pub law_arm : (x : Arm) → Law (SpellsArm x) (write_arm x)
  law_arm (Labels' xs r (more_of-Stmt x end_of-Stmt)) = law_commas (law_expr 0) xs ▹ law_mark (codes ":") ▹ law_stmt x
  law_arm (Default' b r (more_of-Stmt x end_of-Stmt)) = law_key (codes "default") ▹ law_colon_if b ▹ law_stmt x

pub law_edge_key : (x : Edge) → Law (edge_key x) (write_edge_key x)
unfolding write_edge_key
law_edge_key edge.Pos = law_key (codes "posedge")
law_edge_key edge.Neg = law_key (codes "negedge")

pub law_event : (x : Event) → Law (SpellsEvent x) (write_event x)
unfolding write_event
law_event e = law_edge_key e.edge ▹ law_name e.name

pub law_event_mark : (x : EventMark) → Law (SpellsEventMark x) (write_event_mark x)
unfolding write_event_mark
law_event_mark event_mark.Or = law_key (codes "or")
law_event_mark event_mark.Comma = law_mark (codes ",")

pub law_next_event : (x : NextEvent) → Law (SpellsNextEvent x) (write_next_event x)
unfolding write_next_event
law_next_event e = law_event_mark e.mark ▹ law_event e.event

pub law_events : (x : Events) → Law (SpellsEvents x) (write_events x)
unfolding write_events
law_events all = law_mark (codes "@") ▹ law_mark (codes "(") ▹ law_event all.first ▹ law_each law_next_event all.more ▹ law_mark (codes ")")

pub law_kind : (x : BlockKind) → Law (SpellsKind x) (write_kind x)
unfolding write_kind
law_kind kind.Comb = law_key (codes "always_comb")
law_kind kind.Latch = law_key (codes "always_latch")
law_kind (kind.Ff all) = law_key (codes "always_ff") ▹ law_events all
law_kind (kind.Always all) = law_key (codes "always") ▹ law_events all
law_kind kind.Star = law_key (codes "always") ▹ law_mark (codes "@") ▹ law_mark (codes "*")
law_kind kind.StarParen = law_key (codes "always") ▹ law_mark (codes "@") ▹ law_mark (codes "(") ▹ law_mark (codes "*") ▹ law_mark (codes ")")

pub law_block : (x : Block) → Law (SpellsBlock x) (write_block x)
unfolding write_block
law_block b = law_kind b.kind ▹ law_stmt b.body
