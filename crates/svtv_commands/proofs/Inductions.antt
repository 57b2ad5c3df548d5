-- Invariants that were loaded, and what is found of them.
use Rattle.std.proofs.Common.{◌≡◌, ℕ, Bool, List, [], ◌∷◌, length, map, Option, None, Result, Ok, Err, refl, sym, ◌∙◌, ap, subst, arith, inl, inr}
use Rattle.std.specs.Prelude.{IfErr, IsTrue}
use Rattle.std.specs.List.{All, AllZip, list_all}
use Rattle.std.proofs.lemmas.Bool.{false≢true}
use Rattle.std.proofs.lemmas.List.Elements.{All-cons, All-head, All-nil, All-tail}
use Rattle.std.proofs.lemmas.List.Folds.{list_all-map}
use Rattle.fourvec.specs.declared.Bit.{Bit}
use Rattle.flat_net.specs.declared.flat.Flat.{Flat}
use Rattle.goal_text.specs.Nodes.{IsGoal, IsTruth}
use Rattle.goal_text.specs.Scopes.{is_of_vars, variables_of}
use Rattle.goal_text.specs.declared.goal.Goal.{Goal}
use Rattle.goal_tree.specs.declared.tree.GoalTree.{GoalTree}
use Rattle.sv_elab.specs.Elaborated.{IsElaborated}
use Rattle.sv_meaning.specs.Designs.{Design}
use Rattle.sv_outside.specs.declared.refusal.TextErr.TheVariants as e
use Rattle.sv_outside.specs.declared.text.Signal.{Signal}
use Rattle.svex_shape.specs.declared.shape.Shape.{Shape}
use Rattle.svtv_invariants.proofs.Halving.{have_claims}
use Rattle.svtv_invariants.specs.Deciding.{IsAskedBy, IsDecided, course_over, verdict_from}
use Rattle.svtv_invariants.specs.Finding.{AreDecided, names_over}
use Rattle.svtv_invariants.specs.Halving.{HasClaims}
use Rattle.svtv_invariants.specs.declared.deciding.Decided.{Decided}
use Rattle.svtv_invariants.specs.declared.finding.Findings.{Findings}
use Rattle.svtv_periods.proofs.Holding.{invariants_hold}
use Rattle.svtv_periods.specs.Invariants.{IsRight}
use Rattle.svtv_periods.specs.Periods.{Course, IsCourse}
use Rattle.svtv_report.specs.Invariants.{invariants_text, is_invariant}
use Rattle.svtv_report.specs.declared.held.Held.{Held}
use Rattle.svtv_report.specs.declared.held.Held.TheVariants.{Invariant, BaseFails, StepFails, Undecided}
use Rattle.svtv_runs.specs.Runs.{Asked}
use Rattle.svtv_table.proofs.Bounds as bounds
use Rattle.svtv_table.proofs.Formed.{is_formed}
use Rattle.svtv_table.proofs.Shape.{is_bound}
use Rattle.svtv_table.specs.Binding.{HasWidth, IsBound, bound_of}
use Rattle.svtv_table.specs.Reading.{IsWellFormed}
use Rattle.svtv_table.specs.declared.bound.Bound.{Bound}
use Rattle.svtv_table.specs.declared.bound.Sample.{Sample}
use Rattle.svtv_table.specs.declared.bound.VarDecl.{VarDecl}
use Rattle.svtv_texts.proofs.Verdicts.{names_same}
use Rattle.svtv_texts.specs.Rights.{goal_names}
use Rattle.table_cells.specs.declared.table.Table.{Table}
use Rattle.svtv_files.specs.Files.{Text, Told, IsTableFile, bench_of, course_of, samples_in}
use Rattle.svtv_files.specs.Refusals.{LeavesCourse, LeavesInduction, RefusesCourse, RefusesGoals, RefusesInduction, SampleAlike, at_first}
use Rattle.svtv_files.specs.Stopping.{IsOf, Stops}
use Rattle.svtv_files.specs.declared.stop.Stop.{Stop}
use Rattle.svtv_files.specs.declared.stop.Stop.TheVariants.{Refused, Unread, Memory}
use Rattle.svtv_commands.specs.Courses.{AreAsked, AreTables, HasNoHyps, IsInduction, IsUnlike}
use Rattle.svtv_commands.specs.Done.{Inducts, IsInvariantOf, names_in}
use Rattle.svtv_commands.specs.Inputs.{AreGoalsIn}
use Rattle.svtv_commands.specs.Machines.{StopsWide}
use Rattle.svtv_commands.specs.declared.course.Course as loaded
use Rattle.svtv_commands.specs.declared.inducting.Induction.{Induction}
use Rattle.svtv_commands.proofs.Benches.{asks_are, samples_wide}
use Rattle.svtv_commands.proofs.Courses.{is_course, sample_alike}
use Rattle.svtv_commands.proofs.Tables.{StopsAs}

-- ---- goals without hypotheses

empty_by : {A B : Type 0} (R : A → B → Type 0) (xs : List A) (ys : List B) → AllZip R xs ys → ys ≡ [] → xs ≡ []
empty_by R [] ys z e = refl
empty_by R (x ∷ xs) [] z e = absurd z
empty_by R (x ∷ xs) (y ∷ ys) z e = absurd (let l = ap length e in omega (arith, l))

empty_back : {A B : Type 0} (R : A → B → Type 0) (xs : List A) (ys : List B) → AllZip R xs ys → xs ≡ [] → ys ≡ []
empty_back R xs [] z e = refl
empty_back R [] (y ∷ ys) z e = absurd z
empty_back R (x ∷ xs) (y ∷ ys) z e = absurd (let l = ap length e in omega (arith, l))

all_by : {A B : Type 0} (R : A → B → Type 0) (P : A → Type 0) (Q : B → Type 0) → ((x : A) (y : B) → R x y → Q y → P x) → (xs : List A) (ys : List B) → AllZip R xs ys → All Q ys → All P xs
all_by R P Q f [] [] z h = All-nil P
all_by R P Q f [] (y ∷ ys) z h = absurd z
all_by R P Q f (x ∷ xs) [] z h = absurd z
all_by R P Q f (x ∷ xs) (y ∷ ys) z h = All-cons P x xs (f x y z.0 (All-head Q y ys h)) (all_by R P Q f xs ys z.1 (All-tail Q y ys h))

all_over : {A B : Type 0} (R : A → B → Type 0) (P : A → Type 0) (Q : B → Type 0) → ((x : A) (y : B) → R x y → P x → Q y) → (xs : List A) (ys : List B) → AllZip R xs ys → All P xs → All Q ys
all_over R P Q f [] [] z h = All-nil Q
all_over R P Q f [] (y ∷ ys) z h = absurd z
all_over R P Q f (x ∷ xs) [] z h = absurd z
all_over R P Q f (x ∷ xs) (y ∷ ys) z h = All-cons Q y ys (f x y z.0 (All-head P x xs h)) (all_over R P Q f xs ys z.1 (All-tail P x xs h))

module _ (samples : List Sample) (shapes : List Shape) where
  trees_bare : (trees : List GoalTree) (goals : List Goal) → AllZip (IsGoal [] samples shapes) trees goals → All HasNoHyps goals → All (λ (t : GoalTree). t.hyps ≡ []) trees
  trees_bare = all_by (IsGoal [] samples shapes) (λ (t : GoalTree). t.hyps ≡ []) HasNoHyps (λ t g is e. empty_by (IsTruth (variables_of []) (is_of_vars []) shapes) t.hyps g.hyps is.hyps e)

  goals_bare : (trees : List GoalTree) (goals : List Goal) → AllZip (IsGoal [] samples shapes) trees goals → All (λ (t : GoalTree). t.hyps ≡ []) trees → All HasNoHyps goals
  goals_bare = all_over (IsGoal [] samples shapes) (λ (t : GoalTree). t.hyps ≡ []) HasNoHyps (λ t g is e. empty_back (IsTruth (variables_of []) (is_of_vars []) shapes) t.hyps g.hyps is.hyps e)

-- ---- bound tables

bound_wide : (wires : List Signal) (table : Table) (bound : Bound) → All (λ (w : Signal). HasWidth w.width) wires → bound ≡ bound_of wires table → All (λ (v : VarDecl). HasWidth v.width) bound.vars
unfolding bound_of
bound_wide wires table bound h e = subst (λ (b : Bound). All (λ (v : VarDecl). HasWidth v.width) b.vars) (sym e) (bounds.vars_wide wires table.rows h)

bound_fits : (told : Told) (name : Text) (wires : List Signal) (table : Table) (bound : Bound) → IsTableFile told name wires table → bound ≡ bound_of wires table → IsBound wires bound
bound_fits told name wires table bound file e =
    let formed : IsWellFormed table = subst IsWellFormed (sym file.read.is) (is_formed file.read.records file.read.clear) in
    subst (λ (b : Bound). IsBound wires b) (sym e) (is_bound wires table formed file.clear)

-- ---- stops

module _ (told : Told) (d a b g : Text) (top : Option Text) (x : loaded.Course) (t : AreTables told d a b top x) (alike : IsUnlike x.reset.bound x.period.bound None) where
  both_alike : SampleAlike (course_of t.design x.reset.table x.period.table)
  both_alike = sample_alike t.design x.reset.table x.period.table x.reset.bound x.period.bound t.reset t.period alike

  own_samples : x.period.bound.samples ≡ samples_in t.design x.period.table
  unfolding bound_of
  own_samples = ap (λ (b : Bound). b.samples) t.period

  wires_wide : All (λ (w : Signal). HasWidth w.width) t.design.wires
  wires_wide = subst (λ (ws : List Signal). All (λ (w : Signal). HasWidth w.width) ws) t.elaborated.wires (λ i c l. let signal = t.elaborated.sound.wires i c l in (signal.some, signal.most))

  pub samples_all_wide : (samples : List Sample) → samples ≡ x.period.bound.samples → All (λ (s : Sample). HasWidth s.width) samples
  samples_all_wide samples h = subst (λ (ss : List Sample). All (λ (s : Sample). HasWidth s.width) ss) (sym (h ∙ own_samples)) (samples_wide t.design.wires wires_wide x.period.table.rows)

  goals_stop : (stop : Stop) → StopsAs g (RefusesGoals told g [] (samples_in t.design x.period.table)) stop → Stops (RefusesInduction told d a b g top) (LeavesInduction told d a b g top) stop
  goals_stop (Refused file r) h = inr (t.design, x.reset.table, x.period.table, t.files, (both_alike, inl (h.0, h.1)))
  goals_stop (Unread file place) h = inr (t.design, x.reset.table, x.period.table, t.files, (both_alike, (h.0, h.1)))
  goals_stop Memory h = tt

  pub goals_turn : (new : Told) (vars : List VarDecl) (samples : List Sample) (stop : Stop) → new ≡ told → vars ≡ [] → samples ≡ x.period.bound.samples → StopsAs g (RefusesGoals new g vars samples) stop
      → Stops (RefusesInduction told d a b g top) (LeavesInduction told d a b g top) stop
  goals_turn new vars samples stop n v m h =
      goals_stop stop
      (subst (λ (ss : List Sample). StopsAs g (RefusesGoals told g [] ss) stop) (m ∙ own_samples)
      (subst (λ (vs : List VarDecl). StopsAs g (RefusesGoals told g vs samples) stop) v (subst (λ (y : Told). StopsAs g (RefusesGoals y g vars samples) stop) n h)))

  pub goals_in : (new : Told) (vars : List VarDecl) (samples : List Sample) (shapes : List Shape) (goals : List Goal) → new ≡ told → vars ≡ [] → samples ≡ x.period.bound.samples → AreGoalsIn new g vars samples shapes goals
      → AreGoalsIn told g [] (samples_in t.design x.period.table) shapes goals
  goals_in new vars samples shapes goals n v m are =
      subst (λ (ss : List Sample). AreGoalsIn told g [] ss shapes goals) (m ∙ own_samples)
      (subst (λ (vs : List VarDecl). AreGoalsIn told g vs samples shapes goals) v (subst (λ (y : Told). AreGoalsIn y g vars samples shapes goals) n are))

  -- what was loaded with goals
  pub are_asked : (flat : Flat) (goals : List Goal) → IsElaborated t.design flat → AreGoalsIn told g [] (samples_in t.design x.period.table) flat.arena goals
      → AreAsked told d a b g top (record { flat = flat; reset = x.reset; period = x.period; goals = goals })
  are_asked flat goals el are = record { design = t.design; files = t.files; elaborated = el; reset = t.reset; period = t.period; alike = alike; goals = are }

-- ---- behind what was loaded

module _ (told : Told) (d a b g : Text) (top : Option Text) (x : Induction) (p : AreAsked told d a b g top x) where
  is_alike : SampleAlike (course_of p.design x.reset.table x.period.table)
  is_alike = sample_alike p.design x.reset.table x.period.table x.reset.bound x.period.bound p.reset p.period p.alike

  own_wide : All (λ (w : Signal). HasWidth w.width) p.design.wires
  own_wide = subst (λ (ws : List Signal). All (λ (w : Signal). HasWidth w.width) ws) p.elaborated.wires (λ i c l. let signal = p.elaborated.sound.wires i c l in (signal.some, signal.most))

  pub reset_fits : IsBound x.flat.wires x.reset.bound
  reset_fits = subst (λ (ws : List Signal). IsBound ws x.reset.bound) (sym p.elaborated.wires) (bound_fits told a p.design.wires x.reset.table x.reset.bound p.files.is_reset p.reset)

  pub period_fits : IsBound x.flat.wires x.period.bound
  period_fits = subst (λ (ws : List Signal). IsBound ws x.period.bound) (sym p.elaborated.wires) (bound_fits told b p.design.wires x.period.table x.period.bound p.files.is_period p.period)

  pub reset_wide : All (λ (v : VarDecl). HasWidth v.width) x.reset.bound.vars
  reset_wide = bound_wide p.design.wires x.reset.table x.reset.bound own_wide p.reset

  pub period_wide : All (λ (v : VarDecl). HasWidth v.width) x.period.bound.vars
  period_wide = bound_wide p.design.wires x.period.table x.period.bound own_wide p.period

  samples_is : x.period.bound.samples ≡ samples_in p.design x.period.table
  unfolding bound_of
  samples_is = ap (λ (t : Bound). t.samples) p.period

  pub claims_there : (goals : List Goal) → goals ≡ x.goals → All (HasClaims x.flat.arena x.period.bound.samples) goals
  claims_there goals same =
      subst (λ (gs : List Goal). All (HasClaims x.flat.arena x.period.bound.samples) gs) (sym same)
      (subst (λ (ss : List Sample). All (HasClaims x.flat.arena ss) x.goals) (sym samples_is) (have_claims (samples_in p.design x.period.table) x.flat.arena p.goals.trees x.goals p.goals.each))

  -- some goal has a hypothesis
  pub hyp_turn : (own : List Goal) (stop : Stop) → own ≡ x.goals → (All HasNoHyps own → ⊥) → IsOf g (e.No (record { number = 45; place = at_first; count = 0 })) stop
      → Stops (RefusesInduction told d a b g top) (LeavesInduction told d a b g top) stop
  hyp_turn own (Refused file r) same some h =
      inr (
        p.design,
        x.reset.table,
        x.period.table,
        p.files,
        (
          is_alike,
          inr (inl (
            h.1,
            record {
              trees = p.goals.trees;
              file = p.goals.file;
              some = λ none. some (subst (λ (gs : List Goal). All HasNoHyps gs) (sym same) (goals_bare (samples_in p.design x.period.table) x.flat.arena p.goals.trees x.goals p.goals.each none));
              is = h.0;
            },
          )),
        ),
      )
  hyp_turn own (Unread file place) same some h = absurd h
  hyp_turn own Memory same some h = tt

  -- and none has
  pub no_hyps : (own : List Goal) → own ≡ x.goals → All HasNoHyps own → IsInduction told d a b g top x
  no_hyps own same none = record {
    asked = p;
    no_hyps = trees_bare (samples_in p.design x.period.table) x.flat.arena p.goals.trees x.goals p.goals.each (subst (λ (gs : List Goal). All HasNoHyps gs) same none);
  }

  wide_stop : All (λ (t : GoalTree). t.hyps ≡ []) p.goals.trees → (stop : Stop) → StopsWide d p.design stop → Stops (RefusesInduction told d a b g top) (LeavesInduction told d a b g top) stop
  wide_stop bare (Refused file r) h =
      inr (p.design, x.reset.table, x.period.table, p.files, (is_alike, inr (inr (h.0, record { trees = p.goals.trees; file = p.goals.file; none = bare; wide = h.1 }))))
  wide_stop bare (Unread file place) h = absurd h
  wide_stop bare Memory h = tt

  pub wide_turn : {A : Type 0} (r : Result A Stop) → All (λ (t : GoalTree). t.hyps ≡ []) p.goals.trees → IfErr r (λ stop. (design : Design) → IsElaborated design x.flat → StopsWide d design stop) → IfErr r (Stops (RefusesInduction told d a b g top) (LeavesInduction told d a b g top))
  wide_turn (Ok y) bare h = tt
  wide_turn (Err stop) bare h = wide_stop bare stop (h p.design p.elaborated)

  -- ---- verdicts

  abbrev course : Course
  course = course_of p.design x.reset.table x.period.table

  fits : IsCourse course
  fits = is_course told d a b top p.design x.reset.table x.period.table p.files is_alike

  -- an invariant holds at the end of the reset and of each period
  holds : (budget : Option ℕ) (goal : GoalTree) (y : Decided) → IsDecided course goal budget y → IsTrue (is_invariant y.verdict) → IsInvariantOf course goal
  holds budget goal y h is = by y.verdict refl is
    where
      by : (v : Held) → y.verdict ≡ v → IsTrue (is_invariant v) → IsInvariantOf course goal
      by Invariant q t = invariants_hold course goal fits (subst (λ (v : Held). IsRight course goal budget (verdict_from h.state v)) q h.right)
      by (BaseFails choice) q t = absurd (false≢true t)
      by (StepFails choice) q t = absurd (false≢true t)
      by (Undecided n) q t = absurd (false≢true t)

  all_hold : (budget : Option ℕ) (goals : List GoalTree) (found : List Decided) → AllZip (λ goal y. IsDecided course goal budget y) goals found
      → AllZip (λ goal y. IsTrue (is_invariant y.verdict) → IsInvariantOf course goal) goals found
  all_hold budget [] [] z = tt
  all_hold budget [] (y ∷ found) z = absurd z
  all_hold budget (goal ∷ goals) [] z = absurd z
  all_hold budget (goal ∷ goals) (y ∷ found) z = (holds budget goal y z.0, all_hold budget goals found z.1)

  -- what is found, of whatever design the flat one stems from and whatever the tables ask
  abbrev Rights : Bound → Bound → List Goal → Option ℕ → Findings → Type 0
  Rights first later goals budget y = (design : Design) (reset period : List (List Bit) → Asked) (trees : List GoalTree) → IsElaborated design x.flat → IsAskedBy reset first → IsAskedBy period later
      → AllZip (IsGoal [] later.samples x.flat.arena) trees goals → AreDecided (course_over design reset period first later) trees budget y

  -- of the files
  rights : (budget : Option ℕ) (y : Findings) → Rights (bound_of p.design.wires x.reset.table) (bound_of p.design.wires x.period.table) x.goals budget y → AreDecided course p.goals.trees budget y
  unfolding bound_of
  rights budget y h =
      h p.design (bench_of p.design x.reset.table).asked (bench_of p.design x.period.table).asked p.goals.trees p.elaborated (λ choice is. asks_are p.design x.reset.table p.files.is_reset.clear choice is)
      (λ choice is. asks_are p.design x.period.table p.files.is_period.clear choice is) p.goals.each

  names_are : (first later : Bound) → first ≡ x.reset.bound → later ≡ x.period.bound → names_over first later ≡ names_in p.design x.reset.table x.period.table
  unfolding bound_of
  names_are first later q r = λ i. names_over ((q ∙ p.reset) i) ((r ∙ p.period) i)

  -- what is printed of what was found
  of_decided : All (λ (t : GoalTree). t.hyps ≡ []) p.goals.trees → (first later : Bound) (budget : Option ℕ) (y : Findings) (all : Bool) (text : Text) → AreDecided course p.goals.trees budget y → first ≡ x.reset.bound
      → later ≡ x.period.bound → y.names ≡ goal_names p.goals.trees → text ≡ invariants_text (names_over first later) y.names y.verdicts y.before y.shown → all ≡ list_all (λ v. is_invariant v) y.verdicts
      → Inducts told d a b g top budget all text
  of_decided bare first later budget y all text w q r named printed whole = record {
    design = p.design;
    reset = x.reset.table;
    period = x.period.table;
    files = p.files;
    course = fits;
    goals = p.goals.trees;
    are_goals = p.goals.file;
    no_hyps = bare;
    found = w.found;
    decided = w.each;
    hold = all_hold budget p.goals.trees w.found w.each;
    printed = printed ∙ λ i. invariants_text (names_are first later q r i) (named i) (w.verdicts i) (w.before i) (w.shown i);
    whole = whole ∙ ap (list_all (λ v. is_invariant v)) w.verdicts ∙ list_all-map (λ v. is_invariant v) (λ (z : Decided). z.verdict) w.found;
  }

  pub inducts : All (λ (t : GoalTree). t.hyps ≡ []) p.goals.trees → (first later : Bound) (goals : List Goal) (budget : Option ℕ) (y : Findings) (all : Bool) (text : Text) → first ≡ x.reset.bound → later ≡ x.period.bound
      → goals ≡ x.goals → y.names ≡ map (λ (g : Goal). g.name) goals → Rights first later goals budget y → text ≡ invariants_text (names_over first later) y.names y.verdicts y.before y.shown
      → all ≡ list_all (λ v. is_invariant v) y.verdicts → Inducts told d a b g top budget all text
  inducts bare first later goals budget y all text q r same names right printed whole =
      let own : Rights first later x.goals budget y = subst (λ (gs : List Goal). Rights first later gs budget y) same right in
      let of_reset : Rights (bound_of p.design.wires x.reset.table) later x.goals budget y = subst (λ (t : Bound). Rights t later x.goals budget y) (q ∙ p.reset) own in
      let of_both : Rights (bound_of p.design.wires x.reset.table) (bound_of p.design.wires x.period.table) x.goals budget y =
      subst (λ (t : Bound). Rights (bound_of p.design.wires x.reset.table) t x.goals budget y) (r ∙ p.period) of_reset in
      of_decided bare first later budget y all text (rights budget y of_both) q r
      (names ∙ ap (map (λ (g : Goal). g.name)) same ∙ names_same [] (samples_in p.design x.period.table) x.flat.arena p.goals.trees x.goals p.goals.each) printed whole
