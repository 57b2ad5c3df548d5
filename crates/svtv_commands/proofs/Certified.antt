-- What is printed of one goal that was loaded with the others.
use Rattle.std.proofs.Common.{◌≡◌, ℕ, Bool, false, List, [], ◌∷◌, Option, Some, None, sym, ◌∙◌, subst, inl, inr}
use Rattle.std.specs.Prelude.{IfSome, ◌≢◌}
use Rattle.std.specs.List.{All, Contains}
use Rattle.std.proofs.lemmas.List.Elements.{All-contains}
use Rattle.cnf.specs.Clauses.{AllBelow}
use Rattle.fourvec.specs.declared.Bit.{Bit}
use Rattle.goal_text.specs.declared.goal.Goal.{Goal}
use Rattle.goal_text.specs.Nodes.{IsGoal}
use Rattle.goal_tree.specs.declared.tree.GoalTree.{GoalTree}
use Rattle.lrat_text.specs.Printed.{IsOneLine}
use Rattle.refute_check.specs.Certs.{Certificate}
use Rattle.sv_meaning.specs.Designs.{Design}
use Rattle.sv_outside.specs.declared.refusal.TextErr.TheVariants as e
use Rattle.svtv_runs.specs.Runs.{Asked}
use Rattle.svtv_table.specs.Binding.{bound_of}
use Rattle.svtv_table.specs.declared.bound.Bound.{Bound}
use Rattle.svtv_commands.specs.Done.{Certified}
use Rattle.svtv_commands.specs.Inputs.{IsPosed, RefusesPosed}
use Rattle.svtv_commands.specs.Judged.{IsTextOf}
use Rattle.svtv_commands.specs.Machines.{StopsWide}
use Rattle.svtv_commands.specs.declared.posing.Posed.{Posed}
use Rattle.svtv_files.specs.Files.{Text, Told, bench_of, samples_in, vars_of}
use Rattle.svtv_files.specs.Refusals.{LeavesProof, RefusesCert, at_first}
use Rattle.svtv_files.specs.Stopping.{IsOf, Stops}
use Rattle.svtv_files.specs.declared.stop.Stop.{Stop}
use Rattle.svtv_files.specs.declared.stop.Stop.TheVariants.{Refused, Unread, Memory}
use Rattle.svtv_report.specs.Shown.{sample_texts, var_texts}
use Rattle.svtv_report.specs.Texts.{report}
use Rattle.svtv_texts.specs.Passed.{IsThere, Poses, bench}
use Rattle.svtv_verdicts.specs.Benches.{Bench}
use Rattle.svtv_verdicts.specs.Certs.{HasCert}
use Rattle.svtv_verdicts.specs.Verdicts.{Verdict, proved, vacuous, failed, undecided, IsRight}
use Rattle.svtv_commands.proofs.Benches.{poses}
use Rattle.svtv_commands.proofs.Named.{from_right, names_inside, none_named}
use Rattle.svtv_commands.proofs.Posings.{goals_there}

-- ---- verdicts

-- the clauses of a certificate name variables below their number alone
cert_below : (b : Bench) (goal : GoalTree) (v : Verdict) (cert : Option Certificate) → HasCert b goal v cert → IfSome cert (λ c. AllBelow c.cnf.vars c.cnf.clauses)
cert_below b goal v None h = tt
cert_below b goal proved (Some c) h = h.0.below
cert_below b goal vacuous (Some c) h = h.0.below
cert_below b goal (failed choice) (Some c) h = absurd h
cert_below b goal (undecided n) (Some c) h = absurd h

-- what is certified shows nothing
right_alone : (b : Bench) (goal : GoalTree) (budget : Option ℕ) (v : Verdict) (c : Certificate) (shown : List (List Bit)) → HasCert b goal v (Some c) → IsRight b goal budget v shown → IsRight b goal budget v []
right_alone b goal budget proved c shown h r = r
right_alone b goal budget vacuous c shown h r = r
right_alone b goal budget (failed choice) c shown h r = absurd h
right_alone b goal budget (undecided n) c shown h r = absurd h

-- ---- one goal

module _ (told : Told) (d t g : Text) (top : Option Text) (x : Posed) (p : IsPosed told d t g top x) where
  -- The goal has the name, and the tree is its own.
  record IsOwn (name : Text) (goal : Goal) : Type 0 where
    pub tree : GoalTree
    pub among : Contains p.goals.trees tree
    pub named : tree.name.text ≡ name
    pub is : IsGoal (vars_of p.design x.table) (samples_in p.design x.table) x.flat.arena tree goal

  own : (name : Text) (goals : List Goal) (goal : Goal) → goals ≡ x.goals → Contains goals goal → goal.name ≡ name → IsOwn name goal
  own name goals goal same h named =
      let among : Contains x.goals goal = subst (λ gs. Contains gs goal) same h in
      let r = from_right (IsGoal (vars_of p.design x.table) (samples_in p.design x.table) x.flat.arena) p.goals.trees x.goals goal p.goals.each among.0 among.1 among.2 in
      record { tree = r.0; among = r.1; named = sym r.2.name ∙ named; is = r.2 }

  pub own_there : (goals : List Goal) (goal : Goal) → goals ≡ x.goals → Contains goals goal → IsThere x.flat.arena goal
  own_there goals goal same h = All-contains (λ (y : Goal). IsThere x.flat.arena y) goals goal (goals_there told d t g top x p goals same) h

  pub name_is_line : (name : Text) (goals : List Goal) (goal : Goal) → goals ≡ x.goals → Contains goals goal → goal.name ≡ name → IsOneLine name
  name_is_line name goals goal same h named =
      let o = own name goals goal same h named in
      subst (λ n. IsOneLine n) o.named (All-contains (λ (y : GoalTree). IsOneLine y.name.text) p.goals.trees o.tree (names_inside p.goals.trees p.goals.file.spell.tokens p.goals.file.spell.spelled) o.among)

  -- what is said of whatever is posed
  abbrev Says : (Bench → GoalTree → Type 0) → Bound → Goal → Type 0
  Says Say b goal = (design : Design) (asked : List (List Bit) → Asked) (tree : GoalTree) → Poses design asked x.flat b → IsGoal b.vars b.samples x.flat.arena tree goal → Say (bench design asked b) tree

  -- is said of the files
  said : (Say : Bench → GoalTree → Type 0) (goal : Goal) (tree : GoalTree) → IsGoal (vars_of p.design x.table) (samples_in p.design x.table) x.flat.arena tree goal → Says Say x.bound goal → Say (bench_of p.design x.table) tree
  unfolding bound_of
  said Say goal tree is h =
      let rest : Says Say (bound_of p.design.wires x.table) goal = subst (λ (b : Bound). Says Say b goal) p.bound h in
      rest p.design (bench_of p.design x.table).asked tree (poses p.design x.flat x.table p.elaborated p.setup.is_table.clear) is

  abbrev Rights : Option ℕ → Verdict → List (List Bit) → Goal → Type 0
  Rights budget v shown goal = Says (λ b tree. IsRight b tree budget v shown) x.bound goal

  abbrev Closes : Verdict → Option Certificate → Goal → Type 0
  Closes v cert goal = Says (λ b tree. HasCert b tree v cert) x.bound goal

  pub below : (name : Text) (goals : List Goal) (goal : Goal) (v : Verdict) (cert : Option Certificate) → goals ≡ x.goals → Contains goals goal → goal.name ≡ name → Closes v cert goal
      → IfSome cert (λ c. AllBelow c.cnf.vars c.cnf.clauses)
  below name goals goal v cert same h named closes =
      let o = own name goals goal same h named in cert_below (bench_of p.design x.table) o.tree v cert (said (λ b tree. HasCert b tree v cert) goal o.tree o.is closes)

  uncertified : (tree : GoalTree) (budget : Option ℕ) (v : Verdict) (shown : List (List Bit)) (name : Text) (text : Text) → Contains p.goals.trees tree → tree.name.text ≡ name
      → IsRight (bench_of p.design x.table) tree budget v shown → HasCert (bench_of p.design x.table) tree v None
      → text ≡ report (var_texts x.bound.vars) (sample_texts x.bound.samples) (name ∷ []) (v ∷ []) (shown ∷ []) → Certified told d t g name top budget false text
  unfolding bound_of
  uncertified tree budget proved shown name text among named right h printed = absurd h
  uncertified tree budget vacuous shown name text among named right h printed = absurd h
  uncertified tree budget (failed choice) shown name text among named right h printed = record {
    design = p.design;
    table = x.table;
    setup = p.setup;
    goals = p.goals.trees;
    are_goals = p.goals.file;
    goal = tree;
    among = among;
    named = named;
    verdict = failed choice;
    shown = shown;
    right = right;
    uncertified = tt;
    printed = printed ∙ λ i. report (var_texts (p.bound i).vars) (sample_texts (p.bound i).samples) (name ∷ []) (failed choice ∷ []) (shown ∷ []);
  }
  uncertified tree budget (undecided n) shown name text among named right h printed = record {
    design = p.design;
    table = x.table;
    setup = p.setup;
    goals = p.goals.trees;
    are_goals = p.goals.file;
    goal = tree;
    among = among;
    named = named;
    verdict = undecided n;
    shown = shown;
    right = right;
    uncertified = tt;
    printed = printed ∙ λ i. report (var_texts (p.bound i).vars) (sample_texts (p.bound i).samples) (name ∷ []) (undecided n ∷ []) (shown ∷ []);
  }

  of_tree : (name : Text) (tree : GoalTree) (budget : Option ℕ) (v : Verdict) (shown : List (List Bit)) (cert : Option Certificate) (flag : Bool) (text : Text) → Contains p.goals.trees tree → tree.name.text ≡ name
      → IsRight (bench_of p.design x.table) tree budget v shown → HasCert (bench_of p.design x.table) tree v cert → IsTextOf x.bound name v shown cert flag text → Certified told d t g name top budget flag text
  of_tree name tree budget v shown (Some c) flag text among named right closes is =
      subst (λ (f : Bool). Certified told d t g name top budget f text) (sym is.0) (record {
        design = p.design;
        table = x.table;
        setup = p.setup;
        goals = p.goals.trees;
        are_goals = p.goals.file;
        goal = tree;
        among = among;
        named = named;
        verdict = v;
        right = right_alone (bench_of p.design x.table) tree budget v c shown closes right;
        formula = c.cnf;
        log = c.log;
        closes = closes;
        printed = is.1;
        stands = is.2;
      })
  of_tree name tree budget v shown None flag text among named right closes is =
      subst (λ (f : Bool). Certified told d t g name top budget f text) (sym is.0) (uncertified tree budget v shown name text among named right closes is.1)

  pub certified : (name : Text) (goals : List Goal) (goal : Goal) (budget : Option ℕ) (v : Verdict) (shown : List (List Bit)) (cert : Option Certificate) (flag : Bool) (text : Text) → goals ≡ x.goals → Contains goals goal
      → goal.name ≡ name → Rights budget v shown goal → Closes v cert goal → IsTextOf x.bound name v shown cert flag text → Certified told d t g name top budget flag text
  certified name goals goal budget v shown cert flag text same h named right closes is =
      let o = own name goals goal same h named in
      of_tree name o.tree budget v shown cert flag text o.among o.named (said (λ b tree. IsRight b tree budget v shown) goal o.tree o.is right) (said (λ b tree. HasCert b tree v cert) goal o.tree o.is closes) is

  -- ---- stops

  -- no goal has the name
  pub unknown_turn : (name : Text) (goals : List Goal) (stop : Stop) → goals ≡ x.goals → All (λ goal. goal.name ≢ name) goals → IsOf g (e.No (record { number = 41; place = at_first; count = 0 })) stop
      → Stops (RefusesCert told d t g name top) (LeavesProof told d t g top) stop
  unknown_turn name goals (Refused file r) same none h =
      inr (
        p.design,
        x.table,
        p.setup,
        inr (inl (
          h.1,
          record {
            trees = p.goals.trees;
            file = p.goals.file;
            none = none_named (vars_of p.design x.table) (samples_in p.design x.table) x.flat.arena p.goals.trees x.goals name p.goals.each (subst (λ gs. All (λ (goal : Goal). goal.name ≢ name) gs) same none);
            is = h.0;
          },
        )),
      )
  unknown_turn name goals (Unread file place) same none h = absurd h
  unknown_turn name goals Memory same none h = tt

  -- behind it the design alone may still be refused
  pub wide_turn : (name : Text) (goals : List Goal) (goal : Goal) (stop : Stop) → goals ≡ x.goals → Contains goals goal → goal.name ≡ name → StopsWide d p.design stop
      → Stops (RefusesCert told d t g name top) (LeavesProof told d t g top) stop
  wide_turn name goals goal (Refused file r) same h named w =
      let o = own name goals goal same h named in
      inr (p.design, x.table, p.setup, inr (inr (w.0, record { trees = p.goals.trees; file = p.goals.file; some = (o.tree, o.among, o.named); wide = w.1 })))
  wide_turn name goals goal (Unread file place) same h named w = absurd w
  wide_turn name goals goal Memory same h named w = tt

-- why nothing is posed is why nothing is certified
pub posed_stops : (told : Told) (d t g name : Text) (top : Option Text) (stop : Stop) → Stops (RefusesPosed told d t g top) (LeavesProof told d t g top) stop → Stops (RefusesCert told d t g name top) (LeavesProof told d t g top) stop
posed_stops told d t g name top (Refused file r) (inl h) = inl h
posed_stops told d t g name top (Refused file r) (inr b) = inr (b.0, b.1, b.2, inl b.3)
posed_stops told d t g name top (Unread file place) h = h
posed_stops told d t g name top Memory h = h
