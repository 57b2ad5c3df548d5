-- Halves that are made of one flat design can be asked for each of its goals.
use Rattle.std.proofs.Common.{◌≡◌, ℕ, suc, ◌<◌, Bool, List, [], ◌∷◌, length, get_or, map, refl, sym, ◌∙◌, ap, subst, arith}
use Rattle.std.specs.Prelude.{IsTrue}
use Rattle.std.specs.List.{All, AllZip}
use Rattle.std.proofs.lemmas.List.{get_or-map, length-map}
use Rattle.std.proofs.lemmas.List.Elements.{All-cons, All-nil}
use Rattle.std.proofs.lemmas.List.FromFn.{length-map-range_with_len}
use Rattle.driver_resolve.specs.Drivers.{bitwise, widths_of, wire_bits}
use Rattle.flat_net.specs.Flats.{links_of}
use Rattle.flat_net.specs.declared.flat.Flat.{Flat}
use Rattle.goal_gates.specs.Goals.{rows_of}
use Rattle.goal_text.specs.Nodes.{IsGoal, IsTruth}
use Rattle.goal_text.specs.Scopes.{claims_scope, is_of_table, sample_vector, widths_in, Vector as Named}
use Rattle.goal_text.specs.declared.goal.Goal.{Goal}
use Rattle.goal_tree.specs.declared.tree.GoalTree.{GoalTree}
use Rattle.driver_resolve.specs.Drivers.{is_wire}
use Rattle.lhs_alias.specs.Lies.{LieIn}
use Rattle.lhs_alias.specs.Segs.{bit, lhs_bits}
use Rattle.lhs_alias.specs.declared.segs.Seg.{Seg}
use Rattle.phase_fsm.specs.Firsts.{HaveFirsts}
use Rattle.settling.specs.Settling.{first_bit}
use Rattle.sv_meaning.specs.Layouts.{Scope}
use Rattle.sv_outside.specs.declared.text.Signal.{Signal}
use Rattle.sv_tree.specs.declared.exprs.Expr.{Expr}
use Rattle.svex_arena.proofs.Steps.{value-extends, variables-extends, width-extends}
use Rattle.svex_arena.specs.Arenas.{Extends}
use Rattle.svex_shape.specs.Values.{each_variable, read, value_at}
use Rattle.svex_shape.specs.declared.shape.Shape.{Shape}
use Rattle.svex_shape.specs.declared.shape.VarName.{VarName}
use Rattle.svex_shape.specs.declared.shape.VarName.TheVariants.{Now, Prev, Stim, Chosen, Sampled}
use Rattle.svtv_induct.specs.Halves.{AreHalves, IsClaim, IsHalf, IsOf, claims_at}
use Rattle.svtv_induct.specs.declared.half.Half.{Half}
use Rattle.svtv_invariants.specs.Deciding.{AreClaimsOf}
use Rattle.svtv_invariants.specs.Halving.{AreHalvesOf, HasClaims, IsMadeOf, claims_in}
use Rattle.svtv_periods.proofs.Ends.{vectors_alike}
use Rattle.svtv_periods.specs.Periods.{AreAlike, AreLast, sampling, stretch_of}
use Rattle.svtv_table.specs.Binding.{HasWidth, IsBound}
use Rattle.svtv_table.specs.declared.bound.Bound.{Bound}
use Rattle.svtv_table.specs.declared.bound.Sample.{Sample}
use Rattle.svtv_table.specs.declared.bound.VarDecl.{VarDecl}
use Rattle.svtv_unroll.specs.Unrolled.{HasSet}

-- ---- claims

abbrev no_goal : Goal
no_goal = record { name = []; hyps = []; claims = [] }

abbrev own_claims : List Goal → ℕ → List ℕ
own_claims goals at = (get_or goals at no_goal).claims

-- the claims of a number are those of the goal of that number
claims_are : (h : Half) (goals : List Goal) (at : ℕ) → h.claims ≡ claims_in goals → at < length goals → claims_at h at ≡ own_claims goals at
claims_are h goals at e l = ap (λ (cs : List (List ℕ)). get_or cs at []) e ∙ get_or-map (λ (g : Goal). g.claims) goals at no_goal [] l

test_same : (vs ws : List Named) → vs ≡ ws → (n w : ℕ) → is_wire (widths_in vs) n w ≡ is_wire (widths_in ws) n w
test_same vs ws e n w = ap (λ (us : List Named). is_wire (widths_in us) n w) e

tests_same : (xs ys : List Sample) → AreAlike xs ys → (name : VarName) (w : ℕ) → is_of_table [] xs name w ≡ is_of_table [] ys name w
tests_same xs ys h (Sampled n) w = test_same (map sample_vector xs) (map sample_vector ys) (vectors_alike xs ys h) n w
tests_same xs ys h (Chosen n) w = refl
tests_same xs ys h (Now n) w = refl
tests_same xs ys h (Prev n) w = refl
tests_same xs ys h (Stim n) w = refl

claim_over : (shapes : List Shape) (xs ys : List Sample) (n : ℕ) → AreAlike xs ys → IsClaim shapes xs n → IsClaim shapes ys n
claim_over shapes xs ys n h c = record {
  there = c.there;
  wide = c.wide;
  mentions = let same : is_of_table [] xs ≡ is_of_table [] ys = λ i name w. tests_same xs ys h name w i in subst (λ (p : VarName → ℕ → Bool). IsTrue (each_of p)) same c.mentions;
}
  where
    each_of : (VarName → ℕ → Bool) → Bool
    each_of p = each_variable p shapes n

-- claims over the samples of one table are claims over those of the other
claims_over : (shapes : List Shape) (xs ys : List Sample) (goals : List Goal) → AreAlike xs ys → All (HasClaims shapes xs) goals → All (HasClaims shapes ys) goals
claims_over shapes xs ys goals h all i d l j e k = claim_over shapes xs ys _ h (all i d l j e k)

module _ (old new : List Shape) (grown : Extends old new) where
  claim_kept : (samples : List Sample) (n : ℕ) → IsClaim old samples n → IsClaim new samples n
  claim_kept samples n c = record {
    there = omega (arith, c.there, grown.longer);
    wide = width-extends old new n grown c.there ∙ c.wide;
    mentions = subst IsTrue (sym (variables-extends (is_of_table [] samples) old new n grown c.there)) c.mentions;
  }

  truth_kept : (at : Scope) (allowed : VarName → ℕ → Bool) (x : Expr) (n : ℕ) → IsTruth at allowed old x n → IsTruth at allowed new x n
  truth_kept at allowed x n t = record {
    within = omega (arith, t.within, grown.longer);
    width = width-extends old new n grown t.within ∙ t.width;
    value = λ bits. value-extends (bitwise bits) old new n grown t.within ∙ t.value bits;
    mentions = subst IsTrue (sym (variables-extends allowed old new n grown t.within)) t.mentions;
  }

  truths_kept : (at : Scope) (allowed : VarName → ℕ → Bool) (xs : List Expr) (ns : List ℕ) → AllZip (IsTruth at allowed old) xs ns → AllZip (IsTruth at allowed new) xs ns
  truths_kept at allowed [] [] z = z
  truths_kept at allowed [] (n ∷ ns) z = absurd z
  truths_kept at allowed (x ∷ xs) [] z = absurd z
  truths_kept at allowed (x ∷ xs) (n ∷ ns) z = (truth_kept at allowed x n z.0, truths_kept at allowed xs ns z.1)

-- ---- one half

module _ (flat : Flat) (segs : List (List Seg)) (firsts : HaveFirsts flat segs (length flat.wires)) (goals : List Goal) where
  first_wide : (n : ℕ) → n < length flat.wires → length (lhs_bits (get_or segs n [])) ≡ get_or (widths_of flat.wires) n 0
  first_wide n l =
      let w : ℕ = get_or (widths_of flat.wires) n 0 in
      ap length (firsts.bits n l) ∙ length-map (wire_bits n w) (first_bit (links_of flat.joins)) ∙ length-map-range_with_len (bit n) 0 w

  is_half : (table : Bound) (h : Half) → IsMadeOf flat table segs goals h → IsBound flat.wires table → All (λ (v : VarDecl). HasWidth v.width) table.vars → AreLast (stretch_of table)
      → All (HasClaims flat.arena table.samples) goals → (at : ℕ) → at < length goals → IsHalf h at
  is_half table h m fit wide last claims at l =
      let b : table ≡ h.bound = sym m.bound in
      let w : flat.wires ≡ h.fsm.flat.wires = sym m.wires in
      let f : segs ≡ h.firsts = sym m.firsts in
      let many : length h.claims ≡ length goals = ap length m.claims ∙ length-map goals (λ (g : Goal). g.claims) in
      let own : All (IsClaim h.fsm.flat.arena table.samples) (claims_at h at) =
      subst (λ ns. All (IsClaim h.fsm.flat.arena table.samples) ns) (sym (claims_are h goals at m.claims l)) (λ i d k. claim_kept flat.arena h.fsm.flat.arena m.extends table.samples _ (claims at no_goal l i d k)) in
      record {
        design = m.design;
        bound = subst (λ (ws : List Signal). IsBound ws h.bound) w (subst (λ (t : Bound). IsBound flat.wires t) b fit);
        widths = subst (λ (t : Bound). All (λ (v : VarDecl). HasWidth v.width) t.vars) b wide;
        sets = subst (λ (t : Bound). (phase : ℕ) → phase < t.phases → HasSet h.fsm.sets t.overs phase) b m.sets;
        last = subst (λ (t : Bound). All (λ (x : Sample). suc x.phase ≡ t.phases) t.samples) b last;
        there = omega (arith, l, many);
        claims = subst (λ (t : Bound). All (IsClaim h.fsm.flat.arena t.samples) (claims_at h at)) b own;
        many = ap length m.firsts ∙ firsts.as_many ∙ ap length w;
        lie = subst (λ (ws : List Signal). (n : ℕ) → n < length ws → LieIn (widths_of ws) (get_or h.firsts n [])) w
            (subst (λ (fs : List (List Seg)). (n : ℕ) → n < length flat.wires → LieIn (widths_of flat.wires) (get_or fs n [])) f firsts.lie);
        wide = subst (λ (ws : List Signal). (n : ℕ) → n < length ws → length (lhs_bits (get_or h.firsts n [])) ≡ get_or (widths_of ws) n 0) w
            (subst (λ (fs : List (List Seg)). (n : ℕ) → n < length flat.wires → length (lhs_bits (get_or fs n [])) ≡ get_or (widths_of flat.wires) n 0) f first_wide);
      }

  is_of : (table : Bound) (h : Half) → IsMadeOf flat table segs goals h → IsOf flat h
  is_of table h m =
      let f : segs ≡ h.firsts = sym m.firsts in
      record {
        wires = sym m.wires;
        machine = m.machine;
        firsts = subst (λ (fs : List (List Seg)). (n : ℕ) → n < length flat.wires → lhs_bits (get_or fs n []) ≡ map (first_bit (links_of flat.joins)) (wire_bits n (get_or (widths_of flat.wires) n 0))) f firsts.bits;
      }

  -- ---- both

  are_halves : (reset period : Bound) (base step : Half) → IsMadeOf flat reset segs goals base → IsMadeOf flat period segs goals step → AreAlike reset.samples period.samples
      → All (HasClaims flat.arena period.samples) goals → (at : ℕ) → at < length goals → AreHalves base step at
  are_halves reset period base step m n alike claims at l =
      let eb = claims_are base goals at m.claims l in
      let es = claims_are step goals at n.claims l in
      record {
        wires = n.wires ∙ sym m.wires;
        firsts = n.firsts ∙ sym m.firsts;
        alike = ap (λ (t : Bound). map sampling t.samples) m.bound ∙ alike ∙ sym (ap (λ (t : Bound). map sampling t.samples) n.bound);
        many = ap length es ∙ sym (ap length eb);
        same = λ k lt values.
            let r = read (rows_of [] values) in
            let own : ℕ = get_or (own_claims goals at) k 0 in
            let long : length (claims_at base at) ≡ length (own_claims goals at) = ap length eb in
            let there : own < length flat.arena = (claims at no_goal l k 0 (omega (arith, lt, long))).there in
            ap (λ (cs : List ℕ). value_at r step.fsm.flat.arena (get_or cs k 0)) es
            ∙ value-extends r flat.arena step.fsm.flat.arena own n.extends there
            ∙ sym (value-extends r flat.arena base.fsm.flat.arena own m.extends there)
            ∙ sym (ap (λ (cs : List ℕ). value_at r base.fsm.flat.arena (get_or cs k 0)) eb);
      }

  pub halves : (reset period : Bound) (base step : Half) → IsMadeOf flat reset segs goals base → IsMadeOf flat period segs goals step → IsBound flat.wires reset → IsBound flat.wires period
      → All (λ (v : VarDecl). HasWidth v.width) reset.vars → All (λ (v : VarDecl). HasWidth v.width) period.vars → AreLast (stretch_of reset) → AreLast (stretch_of period) → AreAlike reset.samples period.samples
      → All (HasClaims flat.arena period.samples) goals → AreHalvesOf flat goals base step
  halves reset period base step m n fit_reset fit_period wide_reset wide_period last_reset last_period alike claims = record {
    is_base = is_half reset base m fit_reset wide_reset last_reset (claims_over flat.arena period.samples reset.samples goals (sym alike) claims);
    is_step = is_half period step n fit_period wide_period last_period claims;
    both = are_halves reset period base step m n alike claims;
    base_of = is_of reset base m;
    step_of = is_of period step n;
    extends = n.extends;
    claims = n.claims;
  }

-- the claims of a goal in the half of the period
pub claims_of : (flat : Flat) (goals : List Goal) (base step : Half) (tree : GoalTree) (goal : Goal) (at : ℕ) → AreHalvesOf flat goals base step → at < length goals → goal ≡ get_or goals at goal
    → IsGoal [] step.bound.samples flat.arena tree goal → AreClaimsOf tree step at
claims_of flat goals base step tree goal at h l e g =
    let is : claims_at step at ≡ goal.claims = ap (λ (cs : List (List ℕ)). get_or cs at []) h.claims ∙ get_or-map (λ (x : Goal). x.claims) goals at goal [] l ∙ ap (λ (x : Goal). x.claims) (sym e) in
    let s = step.bound.samples in
    subst (λ (ns : List ℕ). AllZip (IsTruth (claims_scope [] s) (is_of_table [] s) step.fsm.flat.arena) tree.claims ns) (sym is)
    (truths_kept flat.arena step.fsm.flat.arena h.extends (claims_scope [] s) (is_of_table [] s) tree.claims goal.claims g.claims)

-- ---- the claims of goals without variables

claims_are_nodes : (samples : List Sample) (shapes : List Shape) (xs : List Expr) (ns : List ℕ) → AllZip (IsTruth (claims_scope [] samples) (is_of_table [] samples) shapes) xs ns → All (IsClaim shapes samples) ns
claims_are_nodes samples shapes [] [] z = All-nil (IsClaim shapes samples)
claims_are_nodes samples shapes [] (n ∷ ns) z = absurd z
claims_are_nodes samples shapes (x ∷ xs) [] z = absurd z
claims_are_nodes samples shapes (x ∷ xs) (n ∷ ns) z =
    All-cons (IsClaim shapes samples) n ns (record { there = z.0.within; wide = z.0.width; mentions = z.0.mentions }) (claims_are_nodes samples shapes xs ns z.1)

-- they are nodes over the samples alone
pub have_claims : (samples : List Sample) (shapes : List Shape) (trees : List GoalTree) (goals : List Goal) → AllZip (IsGoal [] samples shapes) trees goals → All (HasClaims shapes samples) goals
have_claims samples shapes [] [] z = All-nil (HasClaims shapes samples)
have_claims samples shapes [] (g ∷ goals) z = absurd z
have_claims samples shapes (t ∷ trees) [] z = absurd z
have_claims samples shapes (t ∷ trees) (g ∷ goals) z = All-cons (HasClaims shapes samples) g goals (claims_are_nodes samples shapes t.claims g.claims z.0.claims) (have_claims samples shapes trees goals z.1)
