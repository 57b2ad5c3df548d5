-- What stands against targets, loops, statements, blocks and ports stands at places of theirs, whatever names stand for and however many turns
-- were made before. A lemma for each definition, in the order of the definitions: a list of faults that is made of others is told at the places
-- of its parts, so what is left to each lemma is to name them.
use Rattle.std.proofs.Common.{ℕ, zero, suc, ◌+◌, Bool, true, false, List, [], ◌∷◌, ◌++◌, map, Option, Some, None, Ok, Err}
use Rattle.std.specs.Prelude.{if◌then◌else◌}
use mathlib.Core.Former.{Count}
use Rattle.fourvec.specs.declared.Bit.{Bit}
use Rattle.sv_outside.specs.declared.refusal.Place.{Place}
use Rattle.sv_tree.specs.declared.word.Word.{Word}
use Rattle.sv_tree.specs.declared.exprs.Expr.{Expr, Name', Concat' as Many', Row_of-Expr, end_of-Expr, more_of-Expr}
use Rattle.sv_tree.specs.declared.exprs.Select.{Select}
use Rattle.sv_tree.specs.declared.exprs.BinaryOp.{BinaryOp}
use Rattle.sv_tree.specs.declared.exprs.BinaryOp.TheVariants as two
use Rattle.sv_tree.specs.declared.stmts.Lvalue.{Lvalue, Name as Single, Concat', Row_of-Lvalue, end_of-Lvalue, more_of-Lvalue}
use Rattle.sv_tree.specs.declared.stmts.Step.{Step as LoopStep}
use Rattle.sv_tree.specs.declared.stmts.Step.TheVariants as loop_step
use Rattle.sv_tree.specs.declared.stmts.StepSign.TheVariants as step_sign
use Rattle.sv_tree.specs.declared.stmts.AssignMark.{AssignMark}
use Rattle.sv_tree.specs.declared.stmts.Event.{Event}
use Rattle.sv_tree.specs.declared.stmts.NextEvent.{NextEvent}
use Rattle.sv_tree.specs.declared.stmts.BlockKind.{BlockKind}
use Rattle.sv_tree.specs.declared.stmts.BlockKind.TheVariants as kind
use Rattle.sv_tree.specs.declared.stmts.Block.{Block}
use Rattle.sv_tree.specs.declared.stmts.Stmt.{Stmt, Empty, Block', If', Case', For', Assign, Row_of-Stmt, end_of-Stmt, more_of-Stmt, Row_of-Arm, end_of-Arm, more_of-Arm, Held-Stmt-If-3, None', Some'}
use Rattle.sv_tree.specs.declared.stmts.Arm.{Labels', Default'}
use Rattle.sv_tree.specs.declared.design.Way.{Way}
use Rattle.sv_tree.specs.declared.design.Way.TheVariants as way
use Rattle.sv_meaning.specs.Faults.{Faults, fault, Judged, bad_width, bad_target, loop_long, wrong_assign}
use Rattle.sv_meaning.specs.Layouts.{Name, Scope, constant_scope, What, signal_is, number_is, of_wires, Read, find}
use Rattle.sv_meaning.specs.Meanings.{Meaning, fixed_faults, free_faults, Step, named}
use Rattle.sv_meaning.specs.Values.{mean, step, steps}
use Rattle.sv_meaning.specs.Params.{converted_faults}
use Rattle.sv_meaning.specs.Targets.{Target, target_faults, targets, lvalue_faults, all_lvalue_faults}
use Rattle.sv_meaning.specs.Deeds.{index_value, stepped, next_value, fixed_truth, with_index, holds_at, turns_on, turns_from, most_turns, turns, Deed, after, together, either, needing, if_else, assign, CaseArm, all_faults, matches, case_chain, labels_of, needing_all, case_of, one_turn, in_turn, in_turns, is_casez, deed, deed_else, deeds, arms}
use Rattle.sv_meaning.specs.Blocks.{marks, marks_else, marks_of, marks_arms, block_mark, clock_faults, events_faults, kind_events, event_faults, block_faults}
use Rattle.sv_meaning.specs.Designs.{Work, assignment, block, port, part_faults, all_part_faults, index_scope, is_joined, port_faults, work_faults, work_turns, faults_from}
use Rattle.settling.specs.Settling.{Store}
use Rattle.sv_places.specs.Within.{Each, InWord, InExpr, InExprs, InSelect, InTarget, InTargets, InStep, InStmt, InElse, InStmts, InArms, InEvent, InKind, InBlock}
use Rattle.sv_places.proofs.Told.{Told, Any, JudgedIn, told_append, told_then, told_if, provided_in, bind_in, each_append}
use Rattle.sv_places.proofs.Meant.{MeaningIn, StepIn, Judges, fixed_in, binary_in, chain_told, named_in, mean_in, step_in_tree, steps_in}
use Rattle.sv_places.proofs.Formed.{converted_told}

-- what stands against a statement, and against its turns where so many were made before
abbrev pub DeedIn : (Place → Type 0) → Deed → Type 0
DeedIn P d = Told P d.faults × ((made : ℕ) → Told P (d.overrun made))

abbrev ArmIn : (Place → Type 0) → CaseArm → Type 0
ArmIn P a = Each (MeaningIn P) a.labels × DeedIn P a.body

abbrev pub WorkIn : (Place → Type 0) → Work → Type 0
WorkIn P (assignment at to x) = InTarget P to × InExpr P x
WorkIn P (block at b) = InBlock P b
WorkIn P (port at w n x actual) = InExpr P actual

module _ (P : Place → Type 0) where
  free_in : Judges P free_faults
  free_in m h = h.0 false

  -- ---- targets

  selects_in : (at : Scope) (all : List Select) → Each (InSelect P) all → Each (StepIn P) (map (step at) all)
  selects_in at [] h = tt
  selects_in at (x ∷ more) h = (step_in_tree P at x h.0, selects_in at more h.1)

  target_told : (judge : Meaning → Faults) (p : Place) (w : Word) (x : Option What) (all : List Step)
      → Judges P judge → P p → InWord P w → Each (StepIn P) all → Told P (target_faults judge p w x all)
  target_told judge p w (Some (signal_is of_wires n x)) all j q k h = chain_told P judge x all j h
  target_told judge p w None all j q k h = (k, tt)
  target_told judge p w x all j q k h = (q, tt)

  mutual
    unfolding lvalue_faults all_lvalue_faults

    lvalue_told : (judge : Meaning → Faults) (index at : Scope) (x : Lvalue) → Judges P judge → InTarget P x → Told P (lvalue_faults judge index at x)
    lvalue_told judge index at (Single w all) j h = target_told judge w.place w (find w.text at) (map (step index) all) j h.0 h.0 (selects_in index all h.1)
    lvalue_told judge index at (Concat' p s all) j h =
        told_then P (all_lvalue_faults judge index at all) _ (lvalues_told judge index at all j h.1) (told_if P _ bad_width p h.0)

    lvalues_told : {m : Count} (judge : Meaning → Faults) (index at : Scope) (all : Row_of-Lvalue m) → Judges P judge → InTargets P all → Told P (all_lvalue_faults judge index at all)
    lvalues_told judge index at end_of-Lvalue j h = tt
    lvalues_told judge index at (more_of-Lvalue x all) j h =
        told_append P (lvalue_faults judge index at x) (all_lvalue_faults judge index at all) (lvalue_told judge index at x j h.0) (lvalues_told judge index at all j h.1)

  -- ---- loops

  index_in : (m : Meaning) → MeaningIn P m → JudgedIn P Any (index_value m)
  index_in m h = provided_in P Any (converted_faults 32 m) _ (converted_told P 32 m h) tt

  stepped_in : (op : BinaryOp) (w : Word) (bits : List Bit) (m : Meaning) → InWord P w → MeaningIn P m → MeaningIn P (stepped op w bits m)
  stepped_in op w bits m q h =
      ((binary_in P w.place op (named w (Some (number_is bits true)) []) m q (named_in P w (Some (number_is bits true)) [] q tt) h).0, h.1)

  next_in : (at : Scope) (bits : List Bit) (x : LoopStep) → InStep P x → JudgedIn P Any (next_value at bits x)
  next_in at bits (loop_step.After w m) h = tt
  next_in at bits (loop_step.Before m w) h = tt
  next_in at bits (loop_step.Assign w step_sign.Set x) h = index_in (mean at x) (mean_in P at x h.1)
  next_in at bits (loop_step.Assign w step_sign.Add x) h = index_in (stepped two.Add w bits (mean at x)) (stepped_in two.Add w bits (mean at x) h.0 (mean_in P at x h.1))
  next_in at bits (loop_step.Assign w step_sign.Sub x) h = index_in (stepped two.Sub w bits (mean at x)) (stepped_in two.Sub w bits (mean at x) h.0 (mean_in P at x h.1))

  pub truth_in : (m : Meaning) → MeaningIn P m → JudgedIn P Any (fixed_truth m)
  truth_in m h = provided_in P Any (fixed_faults m) _ (fixed_in P m h) tt

  holds_in : (at : Scope) (name : Name) (test : Expr) (bits : List Bit) → InExpr P test → JudgedIn P Any (holds_at at name test bits)
  holds_in at name test bits h = truth_in (mean (with_index at name bits) test) (mean_in P (with_index at name bits) test h)

  if_in : {A : Type 0} (b : Bool) (x y : Judged A) → JudgedIn P Any x → JudgedIn P Any y → JudgedIn P Any (if b then x else y)
  if_in true x y h k = h
  if_in false x y h k = k

  turns_on_in : (fuel : ℕ) (p : Place) (at : Scope) (name : Name) (test : Expr) (next : LoopStep) (bits : List Bit)
      → P p → InExpr P test → InStep P next → JudgedIn P Any (turns_on fuel p at name test next bits)
  unfolding turns_on
  turns_on_in zero p at name test next bits q h k = (q, tt)
  turns_on_in (suc fuel) p at name test next bits q h k =
      bind_in P Any Any (next_value (with_index at name bits) bits next) _ (next_in (with_index at name bits) bits next k)
      (λ following u. bind_in P Any Any (holds_at at name test following) _ (holds_in at name test following h)
      (λ taken v. bind_in P Any Any (if taken then turns_on fuel p at name test next following else Ok []) _
      (if_in taken _ _ (turns_on_in fuel p at name test next following q h k) tt) (λ rest w. tt)))

  turns_from_in : (fuel : ℕ) (p : Place) (at : Scope) (name : Name) (test : Expr) (next : LoopStep) (bits : List Bit)
      → P p → InExpr P test → InStep P next → JudgedIn P Any (turns_from fuel p at name test next bits)
  turns_from_in fuel p at name test next bits q h k =
      bind_in P Any Any (holds_at at name test bits) _ (holds_in at name test bits h) (λ taken v. if_in taken _ _ (turns_on_in fuel p at name test next bits q h k) tt)

  pub turns_in : (p : Place) (at : Scope) (name : Name) (start test : Expr) (next : LoopStep)
      → P p → InExpr P start → InExpr P test → InStep P next → JudgedIn P Any (turns p at name start test next)
  turns_in p at name start test next q l h k =
      bind_in P Any Any (index_value (mean at start)) (turns_from most_turns p at name test next) (index_in (mean at start) (mean_in P at start l))
      (λ bits u. turns_from_in most_turns p at name test next bits q h k)

  -- ---- statements

  idle_in : DeedIn P Rattle.sv_meaning.specs.Deeds.idle
  idle_in = (tt, λ made. tt)

  together_in : (run : (Store → Read) → Store → Store) (a b : Deed) → DeedIn P a → DeedIn P b → DeedIn P (together run a b)
  together_in run a b h k = (
    told_append P a.faults b.faults h.0 k.0,
    λ made. told_then P (a.overrun made) (b.overrun (made + a.turns)) (h.1 made) (k.1 (made + a.turns)),
  )

  after_in : (a b : Deed) → DeedIn P a → DeedIn P b → DeedIn P (after a b)
  after_in a b h k = together_in (λ look store. b.run look (a.run look store)) a b h k

  if_else_in : (c : Meaning) (a b : Deed) → MeaningIn P c → DeedIn P a → DeedIn P b → DeedIn P (if_else c a b)
  if_else_in c a b g h k = (told_append P (free_faults c) (a.faults ++ b.faults) (g.0 false) (told_append P a.faults b.faults h.0 k.0), (after_in a b h k).1)

  assign_in : (to : List Target) (why : Faults) (m : Meaning) → Told P why → MeaningIn P m → DeedIn P (assign to why m)
  assign_in to why m h k = (told_append P why (free_faults m) h (k.0 false), λ made. tt)

  chain_in : (z : Bool) (w : ℕ) (s : Bool) (x : Meaning) (all : List CaseArm) (other : Deed) → Each (ArmIn P) all → DeedIn P other → DeedIn P (case_chain z w s x all other)
  unfolding case_chain
  chain_in z w s x [] other h k = k
  chain_in z w s x (a ∷ more) other h k = after_in a.body (case_chain z w s x more other) h.0.1 (chain_in z w s x more other h.1 k)

  labels_in : (all : List CaseArm) → Each (ArmIn P) all → Each (MeaningIn P) (labels_of all)
  unfolding labels_of
  labels_in [] h = tt
  labels_in (a ∷ more) h = each_append (MeaningIn P) a.labels (labels_of more) h.0.0 (labels_in more h.1)

  all_free : (all : List Meaning) → Each (MeaningIn P) all → Told P (all_faults all)
  unfolding all_faults
  all_free [] h = tt
  all_free (m ∷ more) h = told_append P (free_faults m) (all_faults more) (h.0.0 false) (all_free more h.1)

  case_in : (z : Bool) (x : Meaning) (all : List CaseArm) (other : Deed) → MeaningIn P x → Each (ArmIn P) all → DeedIn P other → DeedIn P (case_of z x (all, other))
  case_in z x all other g h k =
      let chain = chain_in z _ _ x all other h k in
      (told_append P (all_faults (x ∷ labels_of all)) _ (all_free (x ∷ labels_of all) (g, labels_in all h)) chain.0, chain.1)

  one_turn_in : (p : Place) (a : Deed) → P p → DeedIn P a → DeedIn P (one_turn p a)
  one_turn_in p a q h = (h.0, λ made. told_then P _ (a.overrun (suc made)) (told_if P _ loop_long p q) (h.1 (suc made)))

  in_turn_in : (p : Place) (body : List Bit → Deed) (all : List (List Bit)) → P p → ((bits : List Bit) → DeedIn P (body bits)) → DeedIn P (in_turn p body all)
  unfolding in_turn
  in_turn_in p body [] q h = idle_in
  in_turn_in p body (bits ∷ more) q h = after_in (one_turn p (body bits)) (in_turn p body more) (one_turn_in p (body bits) q (h bits)) (in_turn_in p body more q h)

  in_turns_in : (p : Place) (body : List Bit → Deed) (all : Judged (List (List Bit))) → P p → ((bits : List Bit) → DeedIn P (body bits)) → JudgedIn P Any all → DeedIn P (in_turns p body all)
  in_turns_in p body (Err all) q h k = (k, λ made. tt)
  in_turns_in p body (Ok all) q h k = in_turn_in p body all q h

  means_in : (at : Scope) (all : List Expr) → Each (InExpr P) all → Each (MeaningIn P) (map (mean at) all)
  means_in at [] h = tt
  means_in at (x ∷ more) h = (mean_in P at x h.0, means_in at more h.1)

  mutual
    unfolding deed deed_else deeds arms

    pub deed_in : (x : Stmt) (at : Scope) → InStmt P x → DeedIn P (deed x at)
    deed_in Empty at h = idle_in
    deed_in (Block' p b s all e) at h = deeds_in all at h.2
    deed_in (If' u c r (more_of-Stmt x end_of-Stmt) other) at h =
        if_else_in (mean at c) (deed x at) (deed_else other at) (mean_in P at c h.0) (deed_in x at h.1) (else_in other at h.2)
    deed_in (Case' u word x s all) at h =
        let found = arms_in all at h.1 in
        case_in (is_casez word) (mean at x) (arms all at).0 (arms all at).1 (mean_in P at x h.0) found.0 found.1
    deed_in (For' p form name start test next r (more_of-Stmt body end_of-Stmt)) at h =
        in_turns_in p (λ bits. deed body (with_index at name.text bits)) (turns p (constant_scope at) name.text start test next) h.0
        (λ bits. deed_in body (with_index at name.text bits) h.5) (turns_in p (constant_scope at) name.text start test next h.0 h.2 h.3 h.4)
    deed_in (Assign to mark p x) at h = assign_in (targets at at to) (lvalue_faults free_faults at at to) (mean at x) (lvalue_told free_faults at at to free_in h.0) (mean_in P at x h.2)

    else_in : (x : Held-Stmt-If-3) (at : Scope) → InElse P x → DeedIn P (deed_else x at)
    else_in None' at h = idle_in
    else_in (Some' r (more_of-Stmt x end_of-Stmt)) at h = deed_in x at h

    deeds_in : {m : Count} (all : Row_of-Stmt m) (at : Scope) → InStmts P all → DeedIn P (deeds all at)
    deeds_in end_of-Stmt at h = idle_in
    deeds_in (more_of-Stmt x all) at h = after_in (deed x at) (deeds all at) (deed_in x at h.0) (deeds_in all at h.1)

    arms_in : {m : Count} (all : Row_of-Arm m) (at : Scope) → InArms P all → Each (ArmIn P) (arms all at).0 × DeedIn P (arms all at).1
    arms_in end_of-Arm at h = (tt, idle_in)
    arms_in (more_of-Arm (Labels' xs r (more_of-Stmt x end_of-Stmt)) all) at h =
        let rest = arms_in all at h.2 in
        (((means_in at xs h.0, deed_in x at h.1), rest.0), rest.1)
    arms_in (more_of-Arm (Default' colon r (more_of-Stmt x end_of-Stmt)) all) at h = ((arms_in all at h.1).0, deed_in x at h.0)

  -- ---- blocks

  mutual
    unfolding marks marks_else marks_of marks_arms

    marks_told : (m : AssignMark) (x : Stmt) → InStmt P x → Told P (marks m x)
    marks_told m Empty h = tt
    marks_told m (Block' p b s all e) h = marks_of_told m all h.2
    marks_told m (If' u x r (more_of-Stmt y end_of-Stmt) other) h = told_append P (marks m y) (marks_else m other) (marks_told m y h.1) (marks_else_told m other h.2)
    marks_told m (Case' u word x s all) h = marks_arms_told m all h.1
    marks_told m (For' p form name start test next r (more_of-Stmt body end_of-Stmt)) h = marks_told m body h.5
    marks_told m (Assign to given p x) h = told_if P _ wrong_assign p h.1

    marks_else_told : (m : AssignMark) (x : Held-Stmt-If-3) → InElse P x → Told P (marks_else m x)
    marks_else_told m None' h = tt
    marks_else_told m (Some' r (more_of-Stmt x end_of-Stmt)) h = marks_told m x h

    marks_of_told : {k : Count} (m : AssignMark) (all : Row_of-Stmt k) → InStmts P all → Told P (marks_of m all)
    marks_of_told m end_of-Stmt h = tt
    marks_of_told m (more_of-Stmt x all) h = told_append P (marks m x) (marks_of m all) (marks_told m x h.0) (marks_of_told m all h.1)

    marks_arms_told : {k : Count} (m : AssignMark) (all : Row_of-Arm k) → InArms P all → Told P (marks_arms m all)
    marks_arms_told m end_of-Arm h = tt
    marks_arms_told m (more_of-Arm (Labels' xs r (more_of-Stmt x end_of-Stmt)) all) h = told_append P (marks m x) (marks_arms m all) (marks_told m x h.1) (marks_arms_told m all h.2)
    marks_arms_told m (more_of-Arm (Default' colon r (more_of-Stmt x end_of-Stmt)) all) h = told_append P (marks m x) (marks_arms m all) (marks_told m x h.0) (marks_arms_told m all h.1)

  clock_told : (w : Word) (x : Option What) → InWord P w → Told P (clock_faults w x)
  clock_told w (Some (signal_is of_wires n x)) h = told_if P _ bad_width w.place h
  clock_told w x h = (h, tt)

  events_told : (at : Scope) (all : List Event) → Each (InEvent P) all → Told P (events_faults at all)
  unfolding events_faults
  events_told at [] h = tt
  events_told at (e ∷ more) h = told_append P (clock_faults e.name (find e.name.text at)) (events_faults at more) (clock_told e.name (find e.name.text at) h.0) (events_told at more h.1)

  nexts_in : (all : List NextEvent) → Each (λ next. InEvent P next.event) all → Each (InEvent P) (map (λ next. next.event) all)
  nexts_in [] h = tt
  nexts_in (x ∷ more) h = (h.0, nexts_in more h.1)

  kind_events_in : (x : BlockKind) → InKind P x → Each (InEvent P) (kind_events x)
  kind_events_in (kind.Ff all) h = (h.0, nexts_in all.more h.1)
  kind_events_in (kind.Always all) h = (h.0, nexts_in all.more h.1)
  kind_events_in x h = tt

  block_told : (at : Scope) (b : Block) (made : ℕ) → InBlock P b → Told P (block_faults at b made)
  block_told at b made h =
      let body = deed_in b.body at h.1 in
      told_append P (event_faults at b.kind) _ (events_told at (kind_events b.kind) (kind_events_in b.kind h.0))
      (told_append P (marks (block_mark b) b.body) _ (marks_told (block_mark b) b.body h.1)
      (told_append P (deed b.body at).faults ((deed b.body at).overrun made) body.0 (body.1 made)))

  -- ---- ports

  mutual
    unfolding part_faults all_part_faults

    part_told : (start : Place) (index at : Scope) (x : Expr) → P start → InExpr P x → Told P (part_faults start index at x)
    part_told start index at (Name' w s all) q h = target_told fixed_faults start w (find w.text at) (steps index all) (fixed_in P) q h.0 (steps_in P index all h.1)
    part_told start index at (Many' p s all) q h =
        told_then P (all_part_faults start index at all) _ (parts_told start index at all q h.1) (told_if P _ bad_width p h.0)
    part_told start index at x q h = (q, tt)

    parts_told : {m : Count} (start : Place) (index at : Scope) (all : Row_of-Expr m) → P start → InExprs P all → Told P (all_part_faults start index at all)
    parts_told start index at end_of-Expr q h = tt
    parts_told start index at (more_of-Expr x all) q h =
        told_append P (part_faults start index at x) (all_part_faults start index at all) (part_told start index at x q h.0) (parts_told start index at all q h.1)

  port_told : (w : Way) (at : Scope) (actual : Expr) → InExpr P actual → Told P (port_faults w at actual)
  port_told way.Input at actual h = (mean_in P at actual h).0 false
  port_told way.Output at actual h = part_told (mean at actual).start (constant_scope at) at actual (mean_in P at actual h).1 h
  port_told way.Inout at actual h =
      let m = mean_in P at actual h in
      told_append P (free_faults (mean at actual)) (fault bad_target (mean at actual).start) (m.0 false) (m.1, tt)

  -- ---- works

  not_if : (b : Bool) (all : Faults) → Told P all → Told P (if b then [] else all)
  not_if true all h = tt
  not_if false all h = h

  work_told : (w : Work) (made : ℕ) → WorkIn P w → Told P (work_faults w made)
  work_told (assignment at to x) made h =
      told_append P (lvalue_faults fixed_faults (constant_scope at) at to) (free_faults (mean at x)) (lvalue_told fixed_faults (constant_scope at) at to (fixed_in P) h.0) ((mean_in P at x h.1).0 false)
  work_told (block at b) made h = block_told at b made h
  work_told (port at w n x actual) made h = not_if (is_joined (index_scope w at) at x actual) (port_faults w at actual) (port_told w at actual h)

  pub works_told : (made : ℕ) (all : List Work) → Each (WorkIn P) all → Told P (faults_from made all)
  unfolding faults_from
  works_told made [] h = tt
  works_told made (w ∷ more) h = told_append P (work_faults w made) (faults_from (made + work_turns w) more) (work_told w made h.0) (works_told (made + work_turns w) more h.1)
