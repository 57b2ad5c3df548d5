-- What actions do, by lists as code has them.
use Rattle.std.proofs.Common.{◌≡◌, ◌≤◌, List, [], ◌∷◌, ◌++◌, refl, sym, ap, ◌∙◌, subst}
use Rattle.std.specs.List.{All}
use Rattle.std.proofs.lemmas.List.Elements.{All-nil, All-cons}
use Rattle.fourvec.specs.Bits.{first}
use Rattle.settling.specs.Settling.{Store}
use Rattle.sv_meaning.specs.Layouts.{Read, NamedSignal}
use Rattle.sv_meaning.specs.Deeds.{merged}
use Rattle.sv_meaning.specs.Targets.{present}
use Rattle.sv_typed.specs.declared.tree.Typed.{Typed}
use Rattle.sv_typed.specs.Typed.{names_of, names_together, IsSound}
use Rattle.sv_targets.specs.declared.targets.TypedTarget.{TypedTarget}
use Rattle.sv_targets.specs.Slots.{slots_of}
use Rattle.sv_targets.specs.Targets.{width_of_all}
use Rattle.sv_actions.specs.declared.action.Action.{Action}
use Rattle.sv_actions.specs.declared.action.Action.TheVariants as act
use Rattle.sv_actions.specs.declared.action.Action.TheBlock.{shape-the_row-Action-0, hidden-the_row-Action-0, shape-the_row-Arm-1, hidden-the_row-Arm-1}
use Rattle.sv_actions.specs.declared.action.Arm.{Arm}
use Rattle.sv_actions.specs.declared.action.Case.{Case}
use Rattle.sv_actions.specs.Doing.{truth_bit, run, run_row, run_arms, run_all, writes, writes_row, writes_arms, writes_all, names, names_row, names_arms, names_all, Fits, FitsRow, FitsArms, CaseFits, TargetFits, label_matches}
use Rattle.sv_blocks.specs.Running.{ArmFits, arm_run, arms_run, arms_bits}
use Rattle.sv_blocks.specs.Writing.{assigns, assign_names}

-- ---- rows as lists

run_row_is : (all : List Action) (look : Store → Read) (store : Store) → run_row (hidden-the_row-Action-0 all) look store ≡ run_all all look store
unfolding run run_all shape-the_row-Action-0 hidden-the_row-Action-0 denote.Hole.Carrier.hidden
run_row_is [] look store = refl
run_row_is (x ∷ more) look store = run_row_is more look (run x look store)

run_arms_is : (c : Case) (all : List Arm) (look : Store → Read) (store rest : Store) → run_arms c (hidden-the_row-Arm-1 all) look store rest ≡ arms_run c all look store rest
unfolding run arms_run shape-the_row-Arm-1 hidden-the_row-Arm-1 shape-the_row-Action-0 hidden-the_row-Action-0 denote.Hole.Carrier.hidden
run_arms_is c [] look store rest = refl
run_arms_is c (arm ∷ more) look store rest =
    ap (λ s. merged (first (label_matches c (look store) arm.labels)) s (run_arms c (hidden-the_row-Arm-1 more) look store rest)) (run_row_is arm.body look store)
    ∙ ap (λ s. arm_run c arm look store s) (run_arms_is c more look store rest)

writes_row_is : (all : List Action) → writes_row (hidden-the_row-Action-0 all) ≡ writes_all all
unfolding writes writes_all shape-the_row-Action-0 hidden-the_row-Action-0 denote.Hole.Carrier.hidden
writes_row_is [] = refl
writes_row_is (x ∷ more) = ap (λ b. writes x ++ b) (writes_row_is more)

writes_arms_is : (all : List Arm) → writes_arms (hidden-the_row-Arm-1 all) ≡ arms_bits all
unfolding writes arms_bits shape-the_row-Arm-1 hidden-the_row-Arm-1 shape-the_row-Action-0 hidden-the_row-Action-0 denote.Hole.Carrier.hidden
writes_arms_is [] = refl
writes_arms_is (arm ∷ more) = ap (λ b. b ++ writes_arms (hidden-the_row-Arm-1 more)) (writes_row_is arm.body) ∙ ap (λ b. writes_all arm.body ++ b) (writes_arms_is more)

names_row_is : (all : List Action) → names_row (hidden-the_row-Action-0 all) ≡ names_all all
unfolding names names_all shape-the_row-Action-0 hidden-the_row-Action-0 denote.Hole.Carrier.hidden
names_row_is [] = refl
names_row_is (x ∷ more) = ap (λ b. names x ++ b) (names_row_is more)

-- the names of arms, but for what is compared
unfoldable pub labels_and_bodies : List Arm → List NamedSignal
labels_and_bodies [] = []
labels_and_bodies (arm ∷ more) = names_together arm.labels ++ (names_all arm.body ++ labels_and_bodies more)

names_arms_is : (all : List Arm) → names_arms (hidden-the_row-Arm-1 all) ≡ labels_and_bodies all
unfolding names labels_and_bodies shape-the_row-Arm-1 hidden-the_row-Arm-1 shape-the_row-Action-0 hidden-the_row-Action-0 denote.Hole.Carrier.hidden
names_arms_is [] = refl
names_arms_is (arm ∷ more) =
    ap (λ b. names_together arm.labels ++ (b ++ names_arms (hidden-the_row-Arm-1 more))) (names_row_is arm.body)
    ∙ ap (λ b. names_together arm.labels ++ (names_all arm.body ++ b)) (names_arms_is more)

fits_row_is : (all : List Action) → FitsRow (hidden-the_row-Action-0 all) → All Fits all
unfolding Fits shape-the_row-Action-0 hidden-the_row-Action-0 denote.Hole.Carrier.hidden
fits_row_is [] h = All-nil Fits
fits_row_is (x ∷ more) h = All-cons Fits x more h.0 (fits_row_is more h.1)

fits_arms_is : (c : Case) (all : List Arm) → FitsArms c (hidden-the_row-Arm-1 all) → All (ArmFits c) all
unfolding Fits shape-the_row-Arm-1 hidden-the_row-Arm-1 shape-the_row-Action-0 hidden-the_row-Action-0 denote.Hole.Carrier.hidden
fits_arms_is c [] h = All-nil (ArmFits c)
fits_arms_is c (arm ∷ more) h = All-cons (ArmFits c) arm more (record { labels = h.0; body = fits_row_is arm.body h.1.0 }) (fits_arms_is c more h.1.1)

-- ---- actions

pub run_assign : (x : Action) (to : List TypedTarget) (v : Typed) → x ≡ act.Assign to v → (look : Store → Read) (store : Store) → run x look store ≡ assigns to v look store
unfolding run
run_assign x to v e look store = ap (λ y. run y look store) e

pub run_choose : (x : Action) (c : Typed) (a b : List Action) → x ≡ act.Choose c a b → (look : Store → Read) (store : Store) → run x look store ≡ merged (truth_bit c (look store)) (run_all a look store) (run_all b look store)
unfolding run shape-the_row-Action-0 hidden-the_row-Action-0 denote.Hole.Carrier.hidden
run_choose x c a b e look store =
    ap (λ y. run y look store) e ∙ ap (λ s. merged (truth_bit c (look store)) s (run_row (hidden-the_row-Action-0 b) look store)) (run_row_is a look store)
    ∙ ap (λ s. merged (truth_bit c (look store)) (run_all a look store) s) (run_row_is b look store)

pub run_match : (x : Action) (c : Case) (arms : List Arm) (other : List Action) → x ≡ act.Match c arms other → (look : Store → Read) (store : Store) → run x look store ≡ arms_run c arms look store (run_all other look store)
unfolding run shape-the_row-Arm-1 hidden-the_row-Arm-1 shape-the_row-Action-0 hidden-the_row-Action-0 denote.Hole.Carrier.hidden
run_match x c arms other e look store =
    ap (λ y. run y look store) e ∙ run_arms_is c arms look store (run_row (hidden-the_row-Action-0 other) look store) ∙ ap (λ s. arms_run c arms look store s) (run_row_is other look store)

pub names_assign : (x : Action) (to : List TypedTarget) (v : Typed) → x ≡ act.Assign to v → names x ≡ assign_names to v
unfolding names
names_assign x to v e = ap names e

pub names_choose : (x : Action) (c : Typed) (a b : List Action) → x ≡ act.Choose c a b → names x ≡ names_of c ++ (names_all a ++ names_all b)
unfolding names shape-the_row-Action-0 hidden-the_row-Action-0 denote.Hole.Carrier.hidden
names_choose x c a b e = ap names e ∙ ap (λ n. names_of c ++ (n ++ names_row (hidden-the_row-Action-0 b))) (names_row_is a) ∙ ap (λ n. names_of c ++ (names_all a ++ n)) (names_row_is b)

pub names_match : (x : Action) (c : Case) (arms : List Arm) (other : List Action) → x ≡ act.Match c arms other → names x ≡ names_of c.value ++ (labels_and_bodies arms ++ names_all other)
unfolding names shape-the_row-Arm-1 hidden-the_row-Arm-1 shape-the_row-Action-0 hidden-the_row-Action-0 denote.Hole.Carrier.hidden
names_match x c arms other e =
    ap names e ∙ ap (λ n. names_of c.value ++ (n ++ names_row (hidden-the_row-Action-0 other))) (names_arms_is arms) ∙ ap (λ n. names_of c.value ++ (labels_and_bodies arms ++ n)) (names_row_is other)

pub writes_assign : (x : Action) (to : List TypedTarget) (v : Typed) → x ≡ act.Assign to v → writes x ≡ present (slots_of to)
unfolding writes
writes_assign x to v e = ap writes e

pub writes_choose : (x : Action) (c : Typed) (a b : List Action) → x ≡ act.Choose c a b → writes x ≡ writes_all a ++ writes_all b
unfolding writes shape-the_row-Action-0 hidden-the_row-Action-0 denote.Hole.Carrier.hidden
writes_choose x c a b e = ap writes e ∙ ap (λ n. n ++ writes_row (hidden-the_row-Action-0 b)) (writes_row_is a) ∙ ap (λ n. writes_all a ++ n) (writes_row_is b)

pub writes_match : (x : Action) (c : Case) (arms : List Arm) (other : List Action) → x ≡ act.Match c arms other → writes x ≡ arms_bits arms ++ writes_all other
unfolding writes shape-the_row-Arm-1 hidden-the_row-Arm-1 shape-the_row-Action-0 hidden-the_row-Action-0 denote.Hole.Carrier.hidden
writes_match x c arms other e = ap writes e ∙ ap (λ n. n ++ writes_row (hidden-the_row-Action-0 other)) (writes_arms_is arms) ∙ ap (λ n. arms_bits arms ++ n) (writes_row_is other)

pub record AssignFits (to : List TypedTarget) (v : Typed) : Type 0 where
  pub value : IsSound v
  pub targets : All TargetFits to
  pub some : 1 ≤ width_of_all to
  pub most : width_of_all to ≤ 128

pub fits_assign : (x : Action) (to : List TypedTarget) (v : Typed) → x ≡ act.Assign to v → Fits x → AssignFits to v
unfolding Fits
fits_assign x to v e h = let g = subst Fits e h in record { value = g.0; targets = g.1; some = g.2; most = g.3 }

pub record ChooseFits (c : Typed) (a b : List Action) : Type 0 where
  pub condition : IsSound c
  pub taken : All Fits a
  pub other : All Fits b

pub fits_choose : (x : Action) (c : Typed) (a b : List Action) → x ≡ act.Choose c a b → Fits x → ChooseFits c a b
unfolding Fits shape-the_row-Action-0 hidden-the_row-Action-0 denote.Hole.Carrier.hidden
fits_choose x c a b e h = let g = subst Fits e h in record { condition = g.0; taken = fits_row_is a g.1; other = fits_row_is b g.2 }

pub record MatchFits (c : Case) (arms : List Arm) (rest : List Action) : Type 0 where
  pub case : CaseFits c
  pub each : All (ArmFits c) arms
  pub other : All Fits rest

pub fits_match : (x : Action) (c : Case) (arms : List Arm) (other : List Action) → x ≡ act.Match c arms other → Fits x → MatchFits c arms other
unfolding Fits shape-the_row-Arm-1 hidden-the_row-Arm-1 shape-the_row-Action-0 hidden-the_row-Action-0 denote.Hole.Carrier.hidden
fits_match x c arms other e h = let g = subst Fits e h in record { case = g.0; each = fits_arms_is c arms g.1; other = fits_row_is other g.2 }

-- ---- what fits, under other names of its parts

pub fits_assign_by : (x : Action) (to xs : List TypedTarget) (v : Typed) → x ≡ act.Assign to v → xs ≡ to → Fits x → AssignFits xs v
fits_assign_by x to xs v e d h = subst (λ ts. AssignFits ts v) (sym d) (fits_assign x to v e h)

pub fits_choose_by : (x : Action) (c : Typed) (a b ta tb : List Action) → x ≡ act.Choose c a b → ta ≡ a → tb ≡ b → Fits x → ChooseFits c ta tb
fits_choose_by x c a b ta tb e da db h = subst (λ ts. ChooseFits c ts tb) (sym da) (subst (λ ts. ChooseFits c a ts) (sym db) (fits_choose x c a b e h))

pub fits_match_by : (x : Action) (c : Case) (arms xs : List Arm) (other os : List Action) → x ≡ act.Match c arms other → xs ≡ arms → os ≡ other → Fits x → MatchFits c xs os
fits_match_by x c arms xs other os e da db h = subst (λ ts. MatchFits c ts os) (sym da) (subst (λ ts. MatchFits c arms ts) (sym db) (fits_match x c arms other e h))
