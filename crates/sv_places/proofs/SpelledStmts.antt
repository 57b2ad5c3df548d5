-- Each place that a tree keeps is that of a token: targets, statements and blocks. A lemma for each production, in the form that SpelledExprs tells:
-- it follows the chain of its grammar, so each line is one part of that chain, and what keeps no place is only passed.
use Rattle.std.proofs.Common.{List, [], ◌∷◌, codes, subst}
use mathlib.Core.Former.{Count}
use Rattle.sv_outside.specs.declared.refusal.Place.{Place}
use Rattle.sv_tree.specs.declared.word.Word.{Word}
use Rattle.std.proofs.Common.{Bool, true, false}
use Rattle.sv_tree.specs.declared.exprs.Select.{Select}
use Rattle.sv_tree.specs.declared.stmts.Lvalue.{Lvalue, Name, Concat', Row_of-Lvalue, end_of-Lvalue, more_of-Lvalue}
use Rattle.sv_tree.specs.declared.stmts.Step.{Step}
use Rattle.sv_tree.specs.declared.stmts.Step.TheVariants as step
use Rattle.sv_tree.specs.declared.stmts.Uniq.{Uniq}
use Rattle.sv_tree.specs.declared.stmts.Uniq.TheVariants as uniq
use Rattle.sv_tree.specs.declared.stmts.CaseWord.{CaseWord}
use Rattle.sv_tree.specs.declared.stmts.CaseWord.TheVariants as case_word
use Rattle.sv_tree.specs.declared.stmts.Edge.{Edge}
use Rattle.sv_tree.specs.declared.stmts.Edge.TheVariants as edge
use Rattle.sv_tree.specs.declared.stmts.Event.{Event}
use Rattle.sv_tree.specs.declared.stmts.EventMark.{EventMark}
use Rattle.sv_tree.specs.declared.stmts.EventMark.TheVariants as event_mark
use Rattle.sv_tree.specs.declared.stmts.NextEvent.{NextEvent}
use Rattle.sv_tree.specs.declared.stmts.Events.{Events}
use Rattle.sv_tree.specs.declared.stmts.BlockKind.{BlockKind}
use Rattle.sv_tree.specs.declared.stmts.BlockKind.TheVariants as kind
use Rattle.sv_tree.specs.declared.stmts.Block.{Block}
use Rattle.sv_tree.specs.declared.stmts.Stmt.{Stmt, Empty, Block', If', Case', For', Assign, Row_of-Stmt, end_of-Stmt, more_of-Stmt, Row_of-Arm, end_of-Arm, more_of-Arm, Held-Stmt-If-3, None', Some'}
use Rattle.sv_tree.specs.declared.stmts.Arm.{Labels', Default'}
use Rattle.sv_tree.specs.GrammarExprs.{Spells}
use Rattle.sv_tree.specs.GrammarStmts.{SpellsChain, SpellsLvalue, SpellsLvalues, MoreLvalues, step_text, step_sign_text, SpellsStep, uniq_key, case_key, assign_text, block_name, colon_if, SpellsStmt, SpellsElse, SpellsStmts, SpellsArms, MoreArms, edge_key, SpellsEvent, SpellsEventMark, SpellsNextEvent, SpellsEvents, SpellsKind, SpellsBlock}
use Rattle.sv_places.specs.Within.{Each, InWord, InExpr, InSelect, InTarget, InTargets, InStep, InStmt, InElse, InStmts, InArms, InEvent, InEvents, InKind, InBlock}
use Rattle.sv_places.proofs.SpelledExprs.{Has, Gives, Passes, past_mark, past_key, mark_in, key_in, name_in, maybe_in, past_maybe, each_in, commas_in, label_of_in, expr_in, select_in}
use Rattle.sv_places.proofs.SpelledForms.{past_whole}

module _ (P : Place → Type 0) where
  -- ---- what keeps no place

  past_uniq : (u : Uniq) → Passes P (uniq_key u)
  past_uniq uniq.Unique = past_key P (codes "unique")
  past_uniq uniq.Unique0 = past_key P (codes "unique0")
  past_uniq uniq.Priority = past_key P (codes "priority")

  past_case : (w : CaseWord) → Passes P (case_key w)
  past_case case_word.Case = past_key P (codes "case")
  past_case case_word.Casez = past_key P (codes "casez")

  past_colon : (b : Bool) → Passes P (colon_if b)
  past_colon true i o h k = past_mark P (codes ":") i o h k
  past_colon false i o h k = subst (Has P) h k

  past_edge : (e : Edge) → Passes P (edge_key e)
  past_edge edge.Pos = past_key P (codes "posedge")
  past_edge edge.Neg = past_key P (codes "negedge")

  past_event_mark : (m : EventMark) → Passes P (SpellsEventMark m)
  past_event_mark event_mark.Or = past_key P (codes "or")
  past_event_mark event_mark.Comma = past_mark P (codes ",")

  -- ---- targets

  chain_in : (all : List Select) → Gives P (SpellsChain all) (Each (InSelect P) all)
  chain_in [] i o h k = (tt, subst (Has P) h k)
  chain_in (x ∷ []) i o h k =
      let s0 = select_in P x i o h k in
      ((s0.0, tt), s0.1)
  chain_in (x ∷ y ∷ all) i o h k =
      let s0 = select_in P x i h.1.0 h.1.1 k in
      let s1 = chain_in (y ∷ all) h.1.0 o h.1.2 s0.1 in
      ((s0.0, s1.0), s1.1)

  mutual
    pub target_in : (x : Lvalue) → Gives P (SpellsLvalue x) (InTarget P x)
    target_in (Name w all) i o h k =
        let s0 = name_in P w i h.0 h.1 k in
        let s1 = chain_in all h.0 o h.2 s0.1 in
        ((s0.0, s1.0), s1.1)
    target_in (Concat' p s all) i o h k =
        let s0 = mark_in P (codes "{") p i h.0 h.1 k in
        let s1 = targets_in all h.0 h.2.0 h.2.1 s0.1 in
        let s2 = past_mark P (codes "}") h.2.0 o h.2.2 s1.1 in
        ((s0.0, s1.0), s2)

    targets_in : {m : Count} (all : Row_of-Lvalue m) → Gives P (SpellsLvalues all) (InTargets P all)
    targets_in end_of-Lvalue i o h k = absurd h
    targets_in (more_of-Lvalue x all) i o h k =
        let s0 = target_in x i h.0 h.1 k in
        let s1 = more_targets_in all h.0 o h.2 s0.1 in
        ((s0.0, s1.0), s1.1)

    more_targets_in : {m : Count} (all : Row_of-Lvalue m) → Gives P (MoreLvalues all) (InTargets P all)
    more_targets_in end_of-Lvalue i o h k = (tt, subst (Has P) h k)
    more_targets_in (more_of-Lvalue x all) i o h k =
        let s0 = past_mark P (codes ",") i h.0 h.1 k in
        let s1 = target_in x h.0 h.2.0 h.2.1 s0 in
        let s2 = more_targets_in all h.2.0 o h.2.2 s1.1 in
        ((s1.0, s2.0), s2.1)

  -- ---- statements

  pub step_in : (v : Word) (x : Step) → Gives P (SpellsStep v x) (InStep P x)
  step_in v (step.After w m) i o h k =
      let s0 = name_in P w i h.1.0 h.1.1 k in
      let s1 = past_mark P (step_text m) h.1.0 o h.1.2 s0.1 in
      (s0.0, s1)
  step_in v (step.Before m w) i o h k =
      let s0 = past_mark P (step_text m) i h.1.0 h.1.1 k in
      let s1 = name_in P w h.1.0 o h.1.2 s0 in
      (s1.0, s1.1)
  step_in v (step.Assign w m x) i o h k =
      let s0 = name_in P w i h.1.0 h.1.1 k in
      let s1 = past_mark P (step_sign_text m) h.1.0 h.1.2.0 h.1.2.1 s0.1 in
      let s2 = expr_in P x 0 h.1.2.0 o h.1.2.2 s1 in
      ((s0.0, s2.0), s2.1)

  pub block_name_in : (w : Word) → Gives P (block_name w) (InWord P w)
  block_name_in w i o h k =
      let s0 = past_mark P (codes ":") i h.0 h.1 k in
      let s1 = name_in P w h.0 o h.2 s0 in
      (s1.0, s1.1)

  mutual
    stmt_in : (x : Stmt) → Gives P (SpellsStmt x) (InStmt P x)
    stmt_in Empty i o h k = (tt, past_mark P (codes ";") i o h k)
    stmt_in (Block' p b s all e) i o h k =
        let s0 = key_in P (codes "begin") p i h.0 h.1 k in
        let s1 = maybe_in P block_name (InWord P) block_name_in b h.0 h.2.0 h.2.1 s0.1 in
        let s2 = stmts_in all h.2.0 h.2.2.0 h.2.2.1 s1.1 in
        let s3 = past_key P (codes "end") h.2.2.0 h.2.2.2.0 h.2.2.2.1 s2.1 in
        let s4 = label_of_in P b e h.2.2.2.0 o h.2.2.2.2 s3 in
        ((s0.0, s1.0, s2.0, s4.0), s4.1)
    stmt_in (If' u c r (more_of-Stmt x end_of-Stmt) other) i o h k =
        let s0 = past_maybe P uniq_key past_uniq u i h.0 h.1 k in
        let s1 = past_key P (codes "if") h.0 h.2.0 h.2.1 s0 in
        let s2 = past_mark P (codes "(") h.2.0 h.2.2.0 h.2.2.1 s1 in
        let s3 = expr_in P c 0 h.2.2.0 h.2.2.2.0 h.2.2.2.1 s2 in
        let s4 = past_mark P (codes ")") h.2.2.2.0 h.2.2.2.2.0 h.2.2.2.2.1 s3.1 in
        let s5 = stmt_in x h.2.2.2.2.0 h.2.2.2.2.2.0 h.2.2.2.2.2.1 s4 in
        let s6 = else_in _ other h.2.2.2.2.2.0 o h.2.2.2.2.2.2 s5.1 in
        ((s3.0, s5.0, s6.0), s6.1)
    stmt_in (Case' u w x s all) i o h k =
        let s0 = past_maybe P uniq_key past_uniq u i h.1.0 h.1.1 k in
        let s1 = past_case w h.1.0 h.1.2.0 h.1.2.1 s0 in
        let s2 = past_mark P (codes "(") h.1.2.0 h.1.2.2.0 h.1.2.2.1 s1 in
        let s3 = expr_in P x 0 h.1.2.2.0 h.1.2.2.2.0 h.1.2.2.2.1 s2 in
        let s4 = past_mark P (codes ")") h.1.2.2.2.0 h.1.2.2.2.2.0 h.1.2.2.2.2.1 s3.1 in
        let s5 = arms_in all h.1.2.2.2.2.0 h.1.2.2.2.2.2.0 h.1.2.2.2.2.2.1 s4 in
        let s6 = past_key P (codes "endcase") h.1.2.2.2.2.2.0 o h.1.2.2.2.2.2.2 s5.1 in
        ((s3.0, s5.0), s6)
    stmt_in (For' p form v start test next r (more_of-Stmt body end_of-Stmt)) i o h k =
        let s0 = key_in P (codes "for") p i h.0 h.1 k in
        let s1 = past_mark P (codes "(") h.0 h.2.0 h.2.1 s0.1 in
        let s2 = past_whole P form h.2.0 h.2.2.0 h.2.2.1 s1 in
        let s3 = name_in P v h.2.2.0 h.2.2.2.0 h.2.2.2.1 s2 in
        let s4 = past_mark P (codes "=") h.2.2.2.0 h.2.2.2.2.0 h.2.2.2.2.1 s3.1 in
        let s5 = expr_in P start 0 h.2.2.2.2.0 h.2.2.2.2.2.0 h.2.2.2.2.2.1 s4 in
        let s6 = past_mark P (codes ";") h.2.2.2.2.2.0 h.2.2.2.2.2.2.0 h.2.2.2.2.2.2.1 s5.1 in
        let s7 = expr_in P test 0 h.2.2.2.2.2.2.0 h.2.2.2.2.2.2.2.0 h.2.2.2.2.2.2.2.1 s6 in
        let s8 = past_mark P (codes ";") h.2.2.2.2.2.2.2.0 h.2.2.2.2.2.2.2.2.0 h.2.2.2.2.2.2.2.2.1 s7.1 in
        let s9 = step_in v next h.2.2.2.2.2.2.2.2.0 h.2.2.2.2.2.2.2.2.2.0 h.2.2.2.2.2.2.2.2.2.1 s8 in
        let s10 = past_mark P (codes ")") h.2.2.2.2.2.2.2.2.2.0 h.2.2.2.2.2.2.2.2.2.2.0 h.2.2.2.2.2.2.2.2.2.2.1 s9.1 in
        let s11 = stmt_in body h.2.2.2.2.2.2.2.2.2.2.0 o h.2.2.2.2.2.2.2.2.2.2.2 s10 in
        ((s0.0, s3.0, s5.0, s7.0, s9.0, s11.0), s11.1)
    stmt_in (Assign to m p x) i o h k =
        let s0 = target_in to i h.0 h.1 k in
        let s1 = mark_in P (assign_text m) p h.0 h.2.0 h.2.1 s0.1 in
        let s2 = expr_in P x 0 h.2.0 h.2.2.0 h.2.2.1 s1.1 in
        let s3 = past_mark P (codes ";") h.2.2.0 o h.2.2.2 s2.1 in
        ((s0.0, s1.0, s2.0), s3)

    else_in : (closed : Bool) (x : Held-Stmt-If-3) → Gives P (SpellsElse closed x) (InElse P x)
    else_in closed None' i o h k = (tt, subst (Has P) h k)
    else_in closed (Some' r (more_of-Stmt x end_of-Stmt)) i o h k =
        let s0 = past_key P (codes "else") i h.1.0 h.1.1 k in
        let s1 = stmt_in x h.1.0 o h.1.2 s0 in
        (s1.0, s1.1)

    stmts_in : {m : Count} (all : Row_of-Stmt m) → Gives P (SpellsStmts all) (InStmts P all)
    stmts_in end_of-Stmt i o h k = (tt, subst (Has P) h k)
    stmts_in (more_of-Stmt x all) i o h k =
        let s0 = stmt_in x i h.0 h.1 k in
        let s1 = stmts_in all h.0 o h.2 s0.1 in
        ((s0.0, s1.0), s1.1)

    arms_in : {m : Count} (all : Row_of-Arm m) → Gives P (SpellsArms all) (InArms P all)
    arms_in end_of-Arm i o h k = absurd h
    arms_in (more_of-Arm (Labels' xs r (more_of-Stmt x end_of-Stmt)) all) i o h k =
        let s0 = commas_in P (Spells 0) (InExpr P) (λ y. expr_in P y 0) xs i h.1.0 h.1.1 k in
        let s1 = past_mark P (codes ":") h.1.0 h.1.2.0 h.1.2.1 s0.1 in
        let s2 = stmt_in x h.1.2.0 h.0 h.1.2.2 s1 in
        let s3 = more_arms_in all h.0 o h.2 s2.1 in
        ((s0.0, s2.0, s3.0), s3.1)
    arms_in (more_of-Arm (Default' b r (more_of-Stmt x end_of-Stmt)) all) i o h k =
        let s0 = past_key P (codes "default") i h.1.0 h.1.1 k in
        let s1 = past_colon b h.1.0 h.1.2.0 h.1.2.1 s0 in
        let s2 = stmt_in x h.1.2.0 h.0 h.1.2.2 s1 in
        let s3 = more_arms_in all h.0 o h.2 s2.1 in
        ((s2.0, s3.0), s3.1)

    more_arms_in : {m : Count} (all : Row_of-Arm m) → Gives P (MoreArms all) (InArms P all)
    more_arms_in end_of-Arm i o h k = (tt, subst (Has P) h k)
    more_arms_in (more_of-Arm (Labels' xs r (more_of-Stmt x end_of-Stmt)) all) i o h k =
        let s0 = commas_in P (Spells 0) (InExpr P) (λ y. expr_in P y 0) xs i h.1.0 h.1.1 k in
        let s1 = past_mark P (codes ":") h.1.0 h.1.2.0 h.1.2.1 s0.1 in
        let s2 = stmt_in x h.1.2.0 h.0 h.1.2.2 s1 in
        let s3 = more_arms_in all h.0 o h.2 s2.1 in
        ((s0.0, s2.0, s3.0), s3.1)
    more_arms_in (more_of-Arm (Default' b r (more_of-Stmt x end_of-Stmt)) all) i o h k =
        let s0 = past_key P (codes "default") i h.1.0 h.1.1 k in
        let s1 = past_colon b h.1.0 h.1.2.0 h.1.2.1 s0 in
        let s2 = stmt_in x h.1.2.0 h.0 h.1.2.2 s1 in
        let s3 = more_arms_in all h.0 o h.2 s2.1 in
        ((s2.0, s3.0), s3.1)

  -- ---- blocks

  event_in : (e : Event) → Gives P (SpellsEvent e) (InEvent P e)
  event_in e i o h k =
      let s0 = past_edge e.edge i h.0 h.1 k in
      let s1 = name_in P e.name h.0 o h.2 s0 in
      (s1.0, s1.1)

  next_in : (e : NextEvent) → Gives P (SpellsNextEvent e) (InEvent P e.event)
  next_in e i o h k =
      let s0 = past_event_mark e.mark i h.0 h.1 k in
      let s1 = event_in e.event h.0 o h.2 s0 in
      (s1.0, s1.1)

  events_in : (all : Events) → Gives P (SpellsEvents all) (InEvents P all)
  events_in all i o h k =
      let s0 = past_mark P (codes "@") i h.0 h.1 k in
      let s1 = past_mark P (codes "(") h.0 h.2.0 h.2.1 s0 in
      let s2 = event_in all.first h.2.0 h.2.2.0 h.2.2.1 s1 in
      let s3 = each_in P SpellsNextEvent (λ e. InEvent P e.event) next_in all.more h.2.2.0 h.2.2.2.0 h.2.2.2.1 s2.1 in
      let s4 = past_mark P (codes ")") h.2.2.2.0 o h.2.2.2.2 s3.1 in
      ((s2.0, s3.0), s4)

  kind_in : (x : BlockKind) → Gives P (SpellsKind x) (InKind P x)
  kind_in kind.Comb i o h k = (tt, past_key P (codes "always_comb") i o h k)
  kind_in kind.Latch i o h k = (tt, past_key P (codes "always_latch") i o h k)
  kind_in (kind.Ff all) i o h k =
      let s0 = past_key P (codes "always_ff") i h.0 h.1 k in
      let s1 = events_in all h.0 o h.2 s0 in
      (s1.0, s1.1)
  kind_in (kind.Always all) i o h k =
      let s0 = past_key P (codes "always") i h.0 h.1 k in
      let s1 = events_in all h.0 o h.2 s0 in
      (s1.0, s1.1)
  kind_in kind.Star i o h k =
      let s0 = past_key P (codes "always") i h.0 h.1 k in
      let s1 = past_mark P (codes "@") h.0 h.2.0 h.2.1 s0 in
      let s2 = past_mark P (codes "*") h.2.0 o h.2.2 s1 in
      (tt, s2)
  kind_in kind.StarParen i o h k =
      let s0 = past_key P (codes "always") i h.0 h.1 k in
      let s1 = past_mark P (codes "@") h.0 h.2.0 h.2.1 s0 in
      let s2 = past_mark P (codes "(") h.2.0 h.2.2.0 h.2.2.1 s1 in
      let s3 = past_mark P (codes "*") h.2.2.0 h.2.2.2.0 h.2.2.2.1 s2 in
      let s4 = past_mark P (codes ")") h.2.2.2.0 o h.2.2.2.2 s3 in
      (tt, s4)

  pub block_in : (b : Block) → Gives P (SpellsBlock b) (InBlock P b)
  block_in b i o h k =
      let s0 = kind_in b.kind i h.0 h.1 k in
      let s1 = stmt_in b.body h.0 o h.2 s0.1 in
      ((s0.0, s1.0), s1.1)
