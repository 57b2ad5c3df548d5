-- Targets and statements as code makes them, with lists of parts: what is written of them.
use Rattle.std.proofs.Common.{◌≡◌, Bool, List, [], ◌∷◌, codes, Option, Some, None, refl, ap}
use Rattle.sv_outside.specs.declared.refusal.Place.{Place}
use Rattle.sv_tree.specs.declared.word.Word.{Word}
use Rattle.sv_tree.specs.declared.exprs.Expr.{Expr}
use Rattle.sv_tree.specs.declared.exprs.Select.{Select}
use Rattle.sv_tree.specs.declared.forms.WholeWord.{WholeWord}
use Rattle.sv_tree.specs.declared.stmts.Lvalue.{Lvalue, Name}
use Rattle.sv_tree.specs.declared.stmts.Lvalue.TheVariants as lv
use Rattle.sv_tree.specs.declared.stmts.Lvalue.TheBlock.{shape-the_row-Lvalue-0, hidden-the_row-Lvalue-0}
use Rattle.sv_tree.specs.declared.stmts.Uniq.{Uniq}
use Rattle.sv_tree.specs.declared.stmts.CaseWord.{CaseWord}
use Rattle.sv_tree.specs.declared.stmts.AssignMark.{AssignMark}
use Rattle.sv_tree.specs.declared.stmts.Step.{Step}
use Rattle.sv_tree.specs.declared.stmts.Stmt.{Stmt, Empty, Assign}
use Rattle.sv_tree.specs.declared.stmts.Stmt.TheVariants as st
use Rattle.sv_tree.specs.declared.stmts.Arm.TheBlock.{shape-the_row-Stmt-0, hidden-the_row-Stmt-0, shape-the_row-Stmt-1, hidden-the_row-Stmt-1, shape-the_row-Arm-2, hidden-the_row-Arm-2}
use Rattle.sv_tree.specs.declared.stmts.Arm.{Arm}
use Rattle.sv_tree.specs.declared.stmts.Arm.TheVariants as ar
use Rattle.sv_write.specs.declared.lexeme.Lexeme.{Lexeme}
use Rattle.sv_write.specs.Writing.{Write, ◌⨾◌, mark, key, name, maybe, each, after_commas, commas, label}
use Rattle.sv_tree.specs.GrammarStmts.{assign_text}
use Rattle.sv_write.specs.Exprs.{write_expr, write_select}
use Rattle.sv_write.specs.Forms.{write_whole_key}
use Rattle.sv_write.specs.Stmts.{write_chain, write_lvalue, write_lvalues, write_more_lvalues, write_step, write_uniq_key, write_case_key, write_block_name, write_colon_if, write_stmt, write_else, write_stmts, write_arms, write_more_arms, write_arm, write_else_part}

-- ---- lists of parts

rows_lvalues_more : (all : List Lvalue) → ◌≡◌ {A = Write} (write_more_lvalues (hidden-the_row-Lvalue-0 all)) (after_commas write_lvalue all)
unfolding each write_lvalue write_lvalues write_more_lvalues shape-the_row-Lvalue-0 hidden-the_row-Lvalue-0 denote.Hole.Carrier.hidden
rows_lvalues_more [] = refl
rows_lvalues_more (x ∷ all) = ap (λ (f : Write). mark (codes ",") ⨾ write_lvalue x ⨾ f) (rows_lvalues_more all)

rows_lvalues : (all : List Lvalue) → ◌≡◌ {A = Write} (write_lvalues (hidden-the_row-Lvalue-0 all)) (commas write_lvalue all)
unfolding write_lvalue write_lvalues write_more_lvalues shape-the_row-Lvalue-0 hidden-the_row-Lvalue-0 denote.Hole.Carrier.hidden
rows_lvalues [] = refl
rows_lvalues (x ∷ all) = ap (λ (f : Write). write_lvalue x ⨾ f) (rows_lvalues_more all)

pub chain_each : (all : List Select) → ◌≡◌ {A = Write} (write_chain all) (each write_select all)
unfolding each write_chain
chain_each [] = refl
chain_each (x ∷ []) = refl
chain_each (x ∷ y ∷ all) = ap (λ (f : Write). write_select x ⨾ f) (chain_each (y ∷ all))

rows_stmts : (all : List Stmt) → ◌≡◌ {A = Write} (write_stmts (hidden-the_row-Stmt-1 all)) (each write_stmt all)
unfolding each write_stmt write_else write_stmts write_arms write_more_arms write_arm shape-the_row-Stmt-0 hidden-the_row-Stmt-0 shape-the_row-Stmt-1 hidden-the_row-Stmt-1 shape-the_row-Arm-2 hidden-the_row-Arm-2 denote.Hole.Carrier.hidden
rows_stmts [] = refl
rows_stmts (x ∷ all) = ap (λ (f : Write). write_stmt x ⨾ f) (rows_stmts all)

rows_more_arms : (all : List Arm) → ◌≡◌ {A = Write} (write_more_arms (hidden-the_row-Arm-2 all)) (each write_arm all)
unfolding each write_stmt write_else write_stmts write_arms write_more_arms write_arm shape-the_row-Stmt-0 hidden-the_row-Stmt-0 shape-the_row-Stmt-1 hidden-the_row-Stmt-1 shape-the_row-Arm-2 hidden-the_row-Arm-2 denote.Hole.Carrier.hidden
rows_more_arms [] = refl
rows_more_arms (x ∷ all) = ap (λ (f : Write). write_arm x ⨾ f) (rows_more_arms all)

rows_arms : (all : List Arm) → ◌≡◌ {A = Write} (write_arms (hidden-the_row-Arm-2 all)) (each write_arm all)
unfolding each write_stmt write_else write_stmts write_arms write_more_arms write_arm shape-the_row-Stmt-0 hidden-the_row-Stmt-0 shape-the_row-Stmt-1 hidden-the_row-Stmt-1 shape-the_row-Arm-2 hidden-the_row-Arm-2 denote.Hole.Carrier.hidden
rows_arms [] = refl
rows_arms (x ∷ all) = ap (λ (f : Write). write_arm x ⨾ f) (rows_more_arms all)

-- ---- trees as code makes them

pub made_target : (w : Word) (all : List Select) (l : List Lexeme) → write_lvalue (lv.Name w all) l ≡ (name w ⨾ each write_select all) l
unfolding write_lvalue write_lvalues write_more_lvalues write_stmt write_else write_stmts write_arms write_more_arms write_arm
made_target w all l = ap (λ (f : Write). (name w ⨾ f) l) (chain_each all)

pub made_targets : (p : Place) (all : List Lvalue) (l : List Lexeme) → write_lvalue (lv.Concat p all) l ≡ (mark (codes "{") ⨾ commas write_lvalue all ⨾ mark (codes "}")) l
unfolding write_lvalue write_lvalues write_more_lvalues write_stmt write_else write_stmts write_arms write_more_arms write_arm shape-the_row-Lvalue-0 hidden-the_row-Lvalue-0 denote.Hole.Carrier.hidden
made_targets p all l = ap (λ (f : Write). (mark (codes "{") ⨾ f ⨾ mark (codes "}")) l) (rows_lvalues all)

pub made_empty : (l : List Lexeme) → write_stmt (st.Empty) l ≡ (mark (codes ";")) l
unfolding write_lvalue write_lvalues write_more_lvalues write_stmt write_else write_stmts write_arms write_more_arms write_arm
made_empty l = refl

pub made_block : (p : Place) (b : Option Word) (all : List Stmt) (e : Option Word) (l : List Lexeme) → write_stmt (st.Block p b all e) l ≡ (key (codes "begin") ⨾ label b ⨾ each write_stmt all ⨾ key (codes "end") ⨾ label e) l
unfolding write_block_name write_lvalue write_lvalues write_more_lvalues write_stmt write_else write_stmts write_arms write_more_arms write_arm shape-the_row-Stmt-0 hidden-the_row-Stmt-0 shape-the_row-Stmt-1 hidden-the_row-Stmt-1 shape-the_row-Arm-2 hidden-the_row-Arm-2 denote.Hole.Carrier.hidden
made_block p None all e l = ap (λ (f : Write). (key (codes "begin") ⨾ label None ⨾ f ⨾ key (codes "end") ⨾ label e) l) (rows_stmts all)
made_block p (Some w) all e l = ap (λ (f : Write). (key (codes "begin") ⨾ label (Some w) ⨾ f ⨾ key (codes "end") ⨾ label e) l) (rows_stmts all)

pub made_if : (u : Option Uniq) (c : Expr) (x : Stmt) (y : Option Stmt) (l : List Lexeme) → write_stmt (st.If u c x y) l ≡ (maybe write_uniq_key u ⨾ key (codes "if") ⨾ mark (codes "(") ⨾ write_expr c ⨾ mark (codes ")") ⨾ write_stmt x ⨾ maybe write_else_part y) l
unfolding write_lvalue write_lvalues write_more_lvalues write_stmt write_else write_stmts write_arms write_more_arms write_arm shape-the_row-Stmt-0 hidden-the_row-Stmt-0 shape-the_row-Stmt-1 hidden-the_row-Stmt-1 shape-the_row-Arm-2 hidden-the_row-Arm-2 denote.Hole.Carrier.hidden
made_if u c x None l = refl
made_if u c x (Some y) l = refl

pub made_case : (u : Option Uniq) (w : CaseWord) (x : Expr) (all : List Arm) (l : List Lexeme) → write_stmt (st.Case u w x all) l ≡ (maybe write_uniq_key u ⨾ write_case_key w ⨾ mark (codes "(") ⨾ write_expr x ⨾ mark (codes ")") ⨾ each write_arm all ⨾ key (codes "endcase")) l
unfolding write_lvalue write_lvalues write_more_lvalues write_stmt write_else write_stmts write_arms write_more_arms write_arm shape-the_row-Stmt-0 hidden-the_row-Stmt-0 shape-the_row-Stmt-1 hidden-the_row-Stmt-1 shape-the_row-Arm-2 hidden-the_row-Arm-2 denote.Hole.Carrier.hidden
made_case u w x all l = ap (λ (f : Write). (maybe write_uniq_key u ⨾ write_case_key w ⨾ mark (codes "(") ⨾ write_expr x ⨾ mark (codes ")") ⨾ f ⨾ key (codes "endcase")) l) (rows_arms all)

pub made_for : (p : Place) (form : WholeWord) (v : Word) (start test : Expr) (next : Step) (body : Stmt) (l : List Lexeme) → write_stmt (st.For p form v start test next body) l ≡ (key (codes "for") ⨾ mark (codes "(") ⨾ write_whole_key form ⨾ name v ⨾ mark (codes "=") ⨾ write_expr start ⨾ mark (codes ";") ⨾ write_expr test ⨾ mark (codes ";") ⨾ write_step v next ⨾ mark (codes ")") ⨾ write_stmt body) l
unfolding write_lvalue write_lvalues write_more_lvalues write_stmt write_else write_stmts write_arms write_more_arms write_arm shape-the_row-Stmt-0 hidden-the_row-Stmt-0 shape-the_row-Stmt-1 hidden-the_row-Stmt-1 shape-the_row-Arm-2 hidden-the_row-Arm-2 denote.Hole.Carrier.hidden
made_for p form v start test next body l = refl

pub made_assign : (to : Lvalue) (m : AssignMark) (p : Place) (x : Expr) (l : List Lexeme) → write_stmt (st.Assign to m p x) l ≡ (write_lvalue to ⨾ mark (assign_text m) ⨾ write_expr x ⨾ mark (codes ";")) l
unfolding write_lvalue write_lvalues write_more_lvalues write_stmt write_else write_stmts write_arms write_more_arms write_arm
made_assign to m p x l = refl

pub made_labels : (xs : List Expr) (x : Stmt) (l : List Lexeme) → write_arm (ar.Labels xs x) l ≡ (commas write_expr xs ⨾ mark (codes ":") ⨾ write_stmt x) l
unfolding write_lvalue write_lvalues write_more_lvalues write_stmt write_else write_stmts write_arms write_more_arms write_arm shape-the_row-Stmt-0 hidden-the_row-Stmt-0 shape-the_row-Stmt-1 hidden-the_row-Stmt-1 shape-the_row-Arm-2 hidden-the_row-Arm-2 denote.Hole.Carrier.hidden
made_labels xs x l = refl

pub made_default : (b : Bool) (x : Stmt) (l : List Lexeme) → write_arm (ar.Default b x) l ≡ (key (codes "default") ⨾ write_colon_if b ⨾ write_stmt x) l
unfolding write_lvalue write_lvalues write_more_lvalues write_stmt write_else write_stmts write_arms write_more_arms write_arm shape-the_row-Stmt-0 hidden-the_row-Stmt-0 shape-the_row-Stmt-1 hidden-the_row-Stmt-1 shape-the_row-Arm-2 hidden-the_row-Arm-2 denote.Hole.Carrier.hidden
made_default b x l = refl
