-- What is right of nodes is right of the design.
use Rattle.std.proofs.Common.{◌≡◌, ℕ, List, [], ◌∷◌, get_or, length, sym, ap, ◌∙◌, subst, Option, Some, Result, Ok, Err, IfOk}
use Rattle.std.specs.List.{All}
use Rattle.aig.specs.declared.gate.Gate.{Gate}
use Rattle.aig.specs.declared.gate.Lit.{Lit}
use Rattle.choice_inputs.specs.Questions.{Asks, Tells}
use Rattle.cnf.specs.Formula.{Formula}
use Rattle.fourvec.specs.declared.Bit.{Bit}
use Rattle.fourvec.specs.declared.Bit.TheVariants.{Unknown}
use Rattle.flat_net.specs.declared.flat.Flat.{Flat}
use Rattle.goal_gates.specs.Goals as nodes
use Rattle.goal_gates.specs.Goals.{IsOne, goal_of, rows_of, sampled_under}
use Rattle.goal_prove.specs.Verdicts as of_nodes
use Rattle.refute_check.specs.Certs.{Certificate}
use Rattle.goal_prove.specs.declared.certs.Left.{Left}
use Rattle.goal_prove.specs.declared.certs.Verdict.{Verdict as Found}
use Rattle.goal_prove.specs.declared.certs.Verdict.TheVariants as found
use Rattle.goal_text.specs.declared.goal.Goal.{Goal}
use Rattle.goal_text.specs.Nodes.{IsGoal, IsTruth}
use Rattle.goal_text.specs.Scopes.{variables_of, claims_scope, is_of_vars, is_of_table}
use Rattle.goal_tree.specs.declared.tree.GoalTree.{GoalTree}
use Rattle.sv_meaning.specs.Designs.{Design}
use Rattle.sv_meaning.specs.Meanings.{truth}
use Rattle.sv_meaning.specs.Values.{mean}
use Rattle.sv_tree.specs.declared.exprs.Expr.{Expr}
use Rattle.refute_check.specs.Fresh.{IsFresh}
use Rattle.svex_shape.specs.declared.shape.Shape.{Shape}
use Rattle.svex_shape.specs.Values.{read, value_at}
use Rattle.svex_arena.specs.Arenas.{IsArena}
use Rattle.svtv_report.specs.Seen.{verdict_is}
use Rattle.svtv_runs.specs.Runs.{Asked, Run, IsRun, IsLeastRun, asks_of}
use Rattle.svtv_runs.specs.Truths.{Holds, IsMet, IsTrueIn, table_values}
use Rattle.svtv_runs.proofs.Runs.{least_run_stands}
use Rattle.svtv_runs.proofs.Truths.{truths_last}
use Rattle.svtv_least.specs.Running.{AreAsWide}
use Rattle.svtv_machine.specs.Least.{AreLeastNodes}
use Rattle.svtv_table.specs.Stimuli.{IsChoice}
use Rattle.svtv_table.specs.declared.bound.Bound.{Bound}
use Rattle.svtv_table.specs.declared.bound.VarDecl.{VarDecl}
use Rattle.svtv_verdicts.specs.Benches.{IsBreaking, IsMeeting, sampled_in}
use Rattle.svtv_verdicts.specs.Certs.{AsksOf, HasCert}
use Rattle.svtv_verdicts.specs.Questions as design
use Rattle.svtv_verdicts.specs.Verdicts.{IsFailed, IsProved, IsVacuous, IsRight}
use Rattle.svtv_decide.specs.Posing.{AreShown, IfFails, Poses, bench, cert_of, said_of}
use Rattle.svtv_decide.specs.declared.goals.Certified.{Certified}
use Rattle.svtv_decide.proofs.Reading.{claim_is, hyp_is, samples_are}
use Rattle.svtv_decide.proofs.Zips.{all_left, all_right}

module _ (flat : Flat) (bound : Bound) (shapes : List Shape) (samples : List ℕ) (tree : GoalTree) (goal : Goal) (d : Design) (asked : List (List Bit) → Asked) (arena : IsArena shapes)
    (is_goal : IsGoal bound.vars bound.samples shapes tree goal) (poses : Poses d asked flat bound) (least : AreLeastNodes d bound shapes samples) where
  abbrev g : nodes.Goal
  g = goal_of shapes bound.vars samples goal.hyps goal.claims

  abbrev RunUnder : List (List Bit) → Run → Type 0
  RunUnder choice r = IsLeastRun d (asks_of choice bound) bound.phases r

  -- ---- the least run of a choice

  least_run : (choice : List (List Bit)) → (r : Run) × RunUnder choice r
  least_run choice = least_run_stands d (asks_of choice bound) bound.phases (poses.apart choice)

  -- what the bound table asks is what is asked
  from_asked : (choice : List (List Bit)) (r : Run) → IsChoice bound.vars choice → IsLeastRun d (asked choice) bound.phases r → RunUnder choice r
  from_asked choice r c l = subst (λ asks. IsLeastRun d asks bound.phases r) (sym (poses.asked choice c)) l

  to_asked : (choice : List (List Bit)) (r : Run) → IsChoice bound.vars choice → RunUnder choice r → IsLeastRun d (asked choice) bound.phases r
  to_asked choice r c l = subst (λ asks. IsLeastRun d asks bound.phases r) (poses.asked choice c) l

  samples_in : (choice : List (List Bit)) (r : Run) → IsChoice bound.vars choice → RunUnder choice r → sampled_under g choice ≡ sampled_in bound.samples r
  samples_in choice r c l = samples_are bound.vars bound.samples shapes samples choice r arena c.widths least.nodes (least.least choice c r l)

  -- ---- hypotheses

  abbrev IsHyp : Expr → ℕ → Type 0
  IsHyp x node = IsTruth (variables_of bound.vars) (is_of_vars bound.vars) shapes x node

  met : (choice : List (List Bit)) → nodes.IsMeeting g choice → IsMeeting (bench d asked bound) tree choice
  met choice m = record {
    is = m.is;
    meets = all_left IsHyp (IsMet bound.vars choice) (IsOne g choice)
        (λ x node t e. ap (λ v. get_or v 0 Unknown) (sym (hyp_is bound.vars shapes choice (sampled_under g choice) x node arena m.is.widths t) ∙ e)) tree.hyps goal.hyps is_goal.hyps m.meets;
  }

  met_back : (choice : List (List Bit)) → IsMeeting (bench d asked bound) tree choice → nodes.IsMeeting g choice
  met_back choice m = record {
    is = m.is;
    meets = all_right IsHyp (IsMet bound.vars choice) (IsOne g choice)
        (λ x node t e. hyp_is bound.vars shapes choice (sampled_under g choice) x node arena m.is.widths t ∙ ap (λ b. b ∷ []) e) tree.hyps goal.hyps is_goal.hyps m.meets;
  }

  -- ---- claims, in the least run

  abbrev IsClaim : Expr → ℕ → Type 0
  IsClaim x node = IsTruth (claims_scope bound.vars bound.samples) (is_of_table bound.vars bound.samples) shapes x node

  claim_in : (choice : List (List Bit)) (r : Run) → IsChoice bound.vars choice → RunUnder choice r → (x : Expr) (node : ℕ) → IsClaim x node
      → nodes.value_under g choice node ≡ truth (mean (claims_scope bound.vars bound.samples) x) (table_values bound.samples choice r) ∷ []
  claim_in choice r c l x node t =
      ap (λ values. value_at (read (rows_of choice values)) shapes node) (samples_in choice r c l) ∙ claim_is bound.vars bound.samples shapes choice r x node arena c.widths t

  held : (choice : List (List Bit)) (r : Run) → IsChoice bound.vars choice → RunUnder choice r → All (IsOne g choice) goal.claims → Holds bound.vars bound.samples tree choice r
  held choice r c l h =
      all_left IsClaim (IsTrueIn bound.vars bound.samples choice r) (IsOne g choice) (λ x node t e. ap (λ v. get_or v 0 Unknown) (sym (claim_in choice r c l x node t) ∙ e)) tree.claims goal.claims is_goal.claims h

  held_back : (choice : List (List Bit)) (r : Run) → IsChoice bound.vars choice → RunUnder choice r → Holds bound.vars bound.samples tree choice r → All (IsOne g choice) goal.claims
  held_back choice r c l h =
      all_right IsClaim (IsTrueIn bound.vars bound.samples choice r) (IsOne g choice) (λ x node t e. claim_in choice r c l x node t ∙ ap (λ b. b ∷ []) e) tree.claims goal.claims is_goal.claims h

  -- true in the least run, true in every run
  every_run : (choice : List (List Bit)) (r s : Run) → RunUnder choice r → IsRun d (asks_of choice bound) bound.phases s → Holds bound.vars bound.samples tree choice r
      → Holds bound.vars bound.samples tree choice s
  every_run choice r s l run h i x w = truths_last bound.vars bound.samples choice r s _ (l.least s run) (h i x w)

  -- ---- the two questions

  breaks : (choice : List (List Bit)) → nodes.IsBreaking g choice → IsBreaking (bench d asked bound) tree choice
  breaks choice b =
      let c = b.meets.is in
      let own = least_run choice in
      record { meets = met choice b.meets; run = own.0; least = to_asked choice own.0 c own.1; breaks = λ h. b.breaks (held_back choice own.0 c own.1 h) }

  breaks_back : (choice : List (List Bit)) → IsBreaking (bench d asked bound) tree choice → nodes.IsBreaking g choice
  breaks_back choice b =
      let c = b.meets.is in
      record { meets = met_back choice b.meets; breaks = λ h. b.breaks (held choice b.run c (from_asked choice b.run c b.least) h) }

  abbrev as_asked : nodes.Question → design.Question
  as_asked nodes.some_breaks = design.some_breaks
  as_asked nodes.some_meets = design.some_meets

  answers : (question : nodes.Question) (choice : List (List Bit)) → nodes.IsAnswer g question choice → design.IsAnswer (bench d asked bound) tree (as_asked question) choice
  answers nodes.some_breaks choice a = breaks choice a
  answers nodes.some_meets choice a = met choice a

  answers_back : (question : nodes.Question) (choice : List (List Bit)) → design.IsAnswer (bench d asked bound) tree (as_asked question) choice → nodes.IsAnswer g question choice
  answers_back nodes.some_breaks choice a = breaks_back choice a
  answers_back nodes.some_meets choice a = met_back choice a

  chosen : (question : nodes.Question) (choice : List (List Bit)) → nodes.IsAnswer g question choice → IsChoice bound.vars choice
  chosen nodes.some_breaks choice a = a.meets.is
  chosen nodes.some_meets choice a = a.is

  tells : (question : nodes.Question) (gates : List Gate) (root : Lit) → Tells bound.vars (nodes.IsAnswer g question) gates root → design.Tells (bench d asked bound) tree (as_asked question) gates root
  tells question gates root t = record {
    graph = t.graph;
    within = t.within;
    inputs = t.inputs;
    told = λ choice c. (λ e. answers question choice ((t.told choice c).0 e), λ a. (t.told choice c).1 (answers_back question choice a));
  }

  asks : (question : nodes.Question) (f : Formula) → Asks bound.vars (nodes.IsAnswer g question) f → AsksOf (bench d asked bound) tree (as_asked question) f
  asks question f a = record {
    below = a.below;
    asked = (
      λ found. let c = a.asked.0 found in (c.0, answers question c.0 c.2),
      λ found. let own = answers_back question found.0 found.1 in a.asked.1 (found.0, chosen question found.0 own, own),
    );
  }

  -- ---- verdicts

  proved : (cert : Certificate) → of_nodes.IsProved g cert → IsProved (bench d asked bound) tree
  proved cert p = record {
    some = (p.some.0, met p.some.0 p.some.1);
    every = λ choice m r run.
        let own = least_run choice in
        let under : IsRun d (asks_of choice bound) bound.phases r = subst (λ asks. IsRun d asks bound.phases r) (sym (poses.asked choice m.is)) run in
        every_run choice own.0 r own.1 under (held choice own.0 m.is own.1 (p.every choice (met_back choice m)));
  }

  vacuous : (cert : Certificate) → of_nodes.IsVacuous g cert → IsVacuous (bench d asked bound) tree
  vacuous cert v choice m = v.none choice (met_back choice m)

  failed : (choice shown : List (List Bit)) → nodes.IsBreaking g choice → AreShown flat bound choice shown → IsFailed (bench d asked bound) tree choice shown
  failed choice shown b s =
      let own = breaks choice b in
      record { is = own; samples = s d poses.elaborated own.run (from_asked choice own.run b.meets.is own.least) }

  undecided : (budget : Option ℕ) (left : Left) → of_nodes.IsUndecided g budget left → design.IsUndecided (bench d asked bound) tree budget (length left.cert.log)
  undecided budget left u = record {
    given = u.given ∙ ap Some (sym u.fresh.count);
    many = u.many;
    question = as_asked u.question;
    gates = left.aig;
    root = left.root;
    tells = tells u.question left.aig left.root u.tells;
    log = left.cert.log;
    fresh = subst (λ f. IsFresh f left.cert.log (length left.cert.log)) u.clauses (subst (λ n. IsFresh left.cert.cnf left.cert.log n) (sym u.fresh.count) u.fresh);
  }

  right : (budget : Option ℕ) (verdict : Found) (shown : List (List Bit)) → of_nodes.IsRight g budget verdict → IfFails verdict (λ choice. AreShown flat bound choice shown)
      → IsRight (bench d asked bound) tree budget (verdict_is (said_of verdict)) shown
  right budget (found.Proved cert) shown h s = proved cert h
  right budget (found.Vacuous cert) shown h s = vacuous cert h
  right budget (found.Failed choice) shown h s = failed choice shown h s
  right budget (found.Undecided left) shown h s = undecided budget left h

  certified : (budget : Option ℕ) (verdict : Found) → of_nodes.IsRight g budget verdict → HasCert (bench d asked bound) tree (verdict_is (said_of verdict)) (cert_of verdict)
  certified budget (found.Proved cert) h = (asks nodes.some_breaks cert.cnf h.asks, h.accepted)
  certified budget (found.Vacuous cert) h = (asks nodes.some_meets cert.cnf h.asks, h.accepted)
  certified budget (found.Failed choice) h = tt
  certified budget (found.Undecided left) h = tt

  -- what is said where this was found
  pub said_right : {E : Type 0} (budget : Option ℕ) (verdict : Found) (r : Result Certified E) → of_nodes.IsRight g budget verdict → IfOk r (λ x. x.decided.verdict ≡ said_of verdict)
      → IfOk r (λ x. IfFails verdict (λ choice. AreShown flat bound choice x.decided.shown)) → IfOk r (λ x. IsRight (bench d asked bound) tree budget (verdict_is x.decided.verdict) x.decided.shown)
  said_right budget verdict (Ok x) h e s = subst (λ v. IsRight (bench d asked bound) tree budget (verdict_is v) x.decided.shown) (sym e) (right budget verdict x.decided.shown h s)
  said_right budget verdict (Err y) h e s = tt

  -- and what certifies it
  pub said_certified : {E : Type 0} (budget : Option ℕ) (verdict : Found) (r : Result Certified E) → of_nodes.IsRight g budget verdict → IfOk r (λ x. x.decided.verdict ≡ said_of verdict)
      → IfOk r (λ x. x.cert ≡ cert_of verdict) → IfOk r (λ x. HasCert (bench d asked bound) tree (verdict_is x.decided.verdict) x.cert)
  said_certified budget verdict (Ok x) h e c = subst (λ cert. HasCert (bench d asked bound) tree (verdict_is x.decided.verdict) cert) (sym c)
      (subst (λ v. HasCert (bench d asked bound) tree (verdict_is v) (cert_of verdict)) (sym e) (certified budget verdict h))
  said_certified budget verdict (Err y) h e c = tt

-- the choice of a failure is as wide as the variables
pub fails_wide : (vars : List VarDecl) (shapes : List Shape) (samples hyps claims : List ℕ) (budget : Option ℕ) (verdict : Found) → of_nodes.IsRight (goal_of shapes vars samples hyps claims) budget verdict → IfFails verdict (AreAsWide vars)
fails_wide vars shapes samples hyps claims budget (found.Proved cert) h = tt
fails_wide vars shapes samples hyps claims budget (found.Vacuous cert) h = tt
fails_wide vars shapes samples hyps claims budget (found.Failed choice) h = h.meets.is.widths
fails_wide vars shapes samples hyps claims budget (found.Undecided left) h = tt

-- the same lists make the same goal
pub right_as : (shapes : List Shape) {own vars : List VarDecl} (samples : List ℕ) {hyps own_hyps claims own_claims : List ℕ} (budget : Option ℕ) (verdict : Found)
    → own ≡ vars → own_hyps ≡ hyps → own_claims ≡ claims → of_nodes.IsRight (goal_of shapes own samples own_hyps own_claims) budget verdict → of_nodes.IsRight (goal_of shapes vars samples hyps claims) budget verdict
right_as shapes samples budget verdict p q r h = subst (λ g. of_nodes.IsRight g budget verdict) (λ i. goal_of shapes (p i) samples (q i) (r i)) h
