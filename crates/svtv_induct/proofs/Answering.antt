-- The halves behind the two questions, and what is said of an invariant.
use Rattle.std.proofs.Common.{◌≡◌, ℕ, ◌+◌, ◌<◌, ◌≤◌, List, [], length, take, refl, sym, ap, ◌∙◌, subst, arith}
use Rattle.std.specs.Prelude.{Result, IfOk, Option}
use Rattle.std.specs.List.{All}
use Rattle.std.proofs.lemmas.List.Elements.{All-from_get_or}
use Rattle.std.proofs.lemmas.List.{length-map}
use Rattle.std.proofs.lemmas.Result.{IfOk-weaker}
use Rattle.driver_resolve.specs.Drivers.{widths_of}
use Rattle.flat_net.specs.Flats.{IsSignal}
use Rattle.flat_net.specs.declared.flat.Flat.{Flat}
use Rattle.fourvec.specs.declared.Bit.{Bit}
use Rattle.goal_gates.specs.Goals.{Goal, goal_of}
use Rattle.goal_prove.specs.Verdicts.{IsBrokenBy}
use Rattle.goal_prove.specs.declared.answers.Answer.{Answer}
use Rattle.goal_prove.specs.declared.answers.Answer.TheVariants.{Found, Never, Spent}
use Rattle.goal_prove.proofs.Deciding.{cut_back}
use Rattle.lhs_alias.specs.declared.segs.Seg.{Seg}
use Rattle.phase_fsm.specs.Machines.{IsMachine}
use Rattle.phase_fsm.specs.declared.machine.Fsm.{Fsm}
use Rattle.sv_meaning.specs.Designs.{Design}
use Rattle.sv_outside.specs.declared.text.Signal.{Signal}
use Rattle.svex_arena.specs.Arenas.{IsArena, Extends}
use Rattle.svex_arena.proofs.Steps.{width-extends}
use Rattle.svex_shape.specs.declared.shape.Shape.{Shape}
use Rattle.svex_shape.specs.Shapes.{width_at}
use Rattle.svtv_least.specs.Passed.{IsElaborated}
use Rattle.svtv_runs.specs.Runs.{Run, IsLeastRun, asks_of}
use Rattle.svtv_runs.specs.Truths.{sampled}
use Rattle.svtv_table.specs.Binding.{HasWidth, IsBound}
use Rattle.svtv_table.specs.Stimuli.{IsChoice}
use Rattle.svtv_table.specs.declared.bound.Bound.{Bound}
use Rattle.svtv_table.specs.declared.bound.Sample.{Sample}
use Rattle.svtv_table.specs.declared.bound.VarDecl.{VarDecl}
use Rattle.svtv_unroll.specs.Unrolled.{AreSampleNodes, HasDesign, HasSet, HaveSamples, IsGrown, Start}
use Rattle.svtv_unroll.specs.Rows.{IsRow}
use Rattle.svtv_unroll.proofs.Growing.{grown_on}
use Rattle.svtv_induct.specs.Halves.{IsHalf, IsOf, claims_at}
use Rattle.svtv_induct.specs.Inducting.{BreaksBase, IsBaseBy, IsChosen, IsHalfGrown, IsRight, IsStepBy, IsStepRight, of_step}
use Rattle.svtv_induct.specs.Putting.{AreHypotheses}
use Rattle.svtv_induct.specs.States.{AreJoined, AreWideFirsts, HaveWires, with_vars}
use Rattle.svtv_induct.specs.declared.half.Half.{Half}
use Rattle.svtv_induct.specs.declared.half.Inducted.{Inducted}
use Rattle.svtv_induct.specs.declared.half.Inducted.TheVariants.{Invariant, BaseFails, StepFails, Undecided}
use Rattle.svtv_induct.proofs.Base.{HasLeast, base_by}
use Rattle.svtv_induct.proofs.Widening.{with_vars_bound, with_vars_long, with_vars_widths, with_vars_wires}
use Rattle.svtv_induct.proofs.Step.{HasNodes, chosen_by, step_by, step_goal}

-- ---- halves

-- a half whose arena is cut back is as it was
pub half_back : (old mid : Half) (len : ℕ) (arena : List Shape) → IsHalfGrown old mid → len ≡ length old.fsm.flat.arena → arena ≡ take len mid.fsm.flat.arena
    → record mid { fsm = record mid.fsm { flat = record mid.fsm.flat { arena = arena } } } ≡ old
half_back old mid len arena g e is =
    let back : arena ≡ old.fsm.flat.arena = is ∙ cut_back old.fsm.flat.arena mid.fsm.flat.arena len e g.fsm.extends in
    let flat : record mid.fsm.flat { arena = arena } ≡ old.fsm.flat =
    ap (λ (x : Flat). record x { arena = arena }) g.fsm.flat ∙ ap (λ (a : List Shape). record old.fsm.flat { arena = a }) back in
    λ i. record { fsm = record { flat = flat i; sets = g.fsm.sets i; nodes = g.fsm.nodes i }; bound = g.bound i; firsts = g.firsts i; claims = g.claims i }

-- its arena has grown
pub grown_with : (fsm : Fsm) (arena : List Shape) → Extends fsm.flat.arena arena → IsGrown fsm (record fsm { flat = record fsm.flat { arena = arena } })
grown_with fsm arena e = record { wires = refl; sets = refl; nodes = refl; flat = refl; extends = e }

pub half_with : (old : Half) (fsm : Fsm) → IsGrown old.fsm fsm → IsHalfGrown old (record old { fsm = fsm })
half_with old fsm g = record { fsm = g; bound = refl; firsts = refl; claims = refl }

pub half_over : (old : Half) (fsm : Fsm) (arena : List Shape) → IsGrown old.fsm fsm → Extends fsm.flat.arena arena → IsHalfGrown old (record old { fsm = record fsm { flat = record fsm.flat { arena = arena } } })
half_over old fsm arena g e =
    let next : Fsm = record fsm { flat = record fsm.flat { arena = arena } } in
    half_with old next (grown_on old.fsm fsm next g (grown_with fsm arena e))

-- its wires are signals
pub are_signals : (fsm : Fsm) → HasDesign fsm → All IsSignal fsm.flat.wires
are_signals fsm h = subst (λ (ws : List Signal). All IsSignal ws) h.wires h.sound.wires

-- the claims in a graph that has grown
pub claims_there : (h : Half) (at : ℕ) (new : List Shape) → IsHalf h at → Extends h.fsm.flat.arena new → All (λ node. node < length new) (claims_at h at)
claims_there h at new x e = λ i d l. omega (arith, (x.claims i d l).there, e.longer)

pub claims_wide : (h : Half) (at : ℕ) (new : List Shape) → IsHalf h at → Extends h.fsm.flat.arena new → All (λ node. width_at new node ≡ 1) (claims_at h at)
claims_wide h at new x e = λ i d l. let c = x.claims i d l in width-extends h.fsm.flat.arena new _ e c.there ∙ c.wide

pub hyps_there : (samples : List Sample) (row : List (Option ℕ)) (mid new : List Shape) (claims hyps : List ℕ) → AreHypotheses samples row mid claims new hyps → All (λ node. node < length new) hyps
hyps_there samples row mid new claims hyps x = All-from_get_or (λ node. node < length new) hyps 0 (λ i l. x.put.within i (omega (arith, l, x.as_many)))

pub hyps_wide : (samples : List Sample) (row : List (Option ℕ)) (mid new : List Shape) (claims hyps : List ℕ) → AreHypotheses samples row mid claims new hyps → All (λ node. width_at mid node ≡ 1) claims → All (λ node. width_at new node ≡ 1) hyps
hyps_wide samples row mid new claims hyps x h =
    All-from_get_or (λ node. width_at new node ≡ 1) hyps 0 (λ i l. let inside : i < length claims = omega (arith, l, x.as_many) in x.put.widths i inside ∙ h i 0 inside)

-- ---- what is said of the base

pub base_said : {E : Type 0} → (h : Half) (at : ℕ) (budget : Option ℕ) (new : List Shape) (own : List ℕ) (r : Result Answer E) → IsHalf h at → IsArena h.fsm.flat.arena → IsArena new → Extends h.fsm.flat.arena new
    → AreSampleNodes h.bound.vars h.bound.samples new own
    → ((d : Design) (flat : Flat) → IsElaborated d flat → flat.wires ≡ h.fsm.flat.wires → IsMachine flat h.fsm.sets h.fsm.flat.arena h.fsm.nodes → (choice : List (List Bit)) → IsChoice h.bound.vars choice
    → (r : Run) → IsLeastRun d (asks_of choice h.bound) h.bound.phases r → HaveSamples choice h.bound.samples (sampled r) new own)
    → IfOk r (IsBrokenBy (goal_of new h.bound.vars own [] (claims_at h at)) budget) → IfOk r (λ a. (d : Design) (flat : Flat) → IsElaborated d flat → IsOf flat h → IsBaseBy d h at budget a)
base_said h at budget new own r half arena new_arena extends nodes least m = IfOk-weaker r (IsBrokenBy (goal_of new h.bound.vars own [] (claims_at h at)) budget) _
    (λ a b d flat e o.
    let x : HasLeast d h at new own = record { half = half; arena = arena; new_arena = new_arena; extends = extends; nodes = nodes; least = λ choice c run l. least d flat e o.wires o.machine choice c run l } in
    base_by d h at new own budget a x b) m

-- ---- the table with more variables, as the code holds it

module _ (h : Half) (at : ℕ) (bound : Bound) (vars : List VarDecl) (half : IsHalf h at) (wider : bound ≡ with_vars h.bound h.fsm.flat.wires) (held : vars ≡ bound.vars) where
  vars_are : vars ≡ (with_vars h.bound h.fsm.flat.wires).vars
  vars_are = held ∙ ap (λ (b : Bound). b.vars) wider

  pub vars_widths : All (λ (v : VarDecl). HasWidth v.width) vars
  vars_widths =
      subst (λ (vs : List VarDecl). All (λ (v : VarDecl). HasWidth v.width) vs) (sym vars_are) (with_vars_widths h.fsm.flat.wires h.bound (are_signals h.fsm half.design) half.widths)

  pub vars_wires : (wires : List Signal) (before : ℕ) → wires ≡ h.fsm.flat.wires → before ≡ length h.bound.vars → HaveWires vars (widths_of wires) before
  vars_wires wires before ew eb =
      subst (λ (vs : List VarDecl). HaveWires vs (widths_of wires) before) (sym vars_are)
      (subst (λ (ws : List Signal). HaveWires (with_vars h.bound h.fsm.flat.wires).vars (widths_of ws) before) (sym ew)
      (subst (λ k. HaveWires (with_vars h.bound h.fsm.flat.wires).vars (widths_of h.fsm.flat.wires) k) (sym eb) (with_vars_wires h.fsm.flat.wires h.bound)))

  pub vars_many : (wires : List Signal) (before : ℕ) → wires ≡ h.fsm.flat.wires → before ≡ length h.bound.vars → before + (length wires + length wires) ≤ length vars
  vars_many wires before ew eb =
      let long : length vars ≡ length h.bound.vars + (length h.fsm.flat.wires + length h.fsm.flat.wires) = ap (λ (vs : List VarDecl). length vs) vars_are ∙ with_vars_long h.fsm.flat.wires h.bound in
      omega (arith, long, eb, ap (λ (ws : List Signal). length ws) ew)

pub wide_firsts : (h : Half) (at : ℕ) (wires : List Signal) (firsts : List (List Seg)) → IsHalf h at → wires ≡ h.fsm.flat.wires → firsts ≡ h.firsts → AreWideFirsts (widths_of wires) firsts
wide_firsts h at wires firsts x ew ef =
    let many : length (widths_of h.fsm.flat.wires) ≡ length h.fsm.flat.wires = length-map h.fsm.flat.wires (λ (s : Signal). s.width) in
    let own : AreWideFirsts (widths_of h.fsm.flat.wires) h.firsts =
    record { many = x.many ∙ sym many; lie = λ n l. x.lie n (omega (arith, l, many)); wide = λ n l. x.wide n (omega (arith, l, many)) } in
    subst (λ (ws : List Signal). AreWideFirsts (widths_of ws) firsts) (sym ew) (subst (λ (fs : List (List Seg)). AreWideFirsts (widths_of h.fsm.flat.wires) fs) (sym ef) own)

pub table_bound : (h : Half) (at : ℕ) (bound : Bound) → IsHalf h at → bound ≡ with_vars h.bound h.fsm.flat.wires → IsBound h.fsm.flat.wires bound
table_bound h at bound x wider = subst (λ (b : Bound). IsBound h.fsm.flat.wires b) (sym wider) (with_vars_bound h.fsm.flat.wires h.bound x.bound)

pub table_sets : (h : Half) (at : ℕ) (bound : Bound) → IsHalf h at → bound ≡ with_vars h.bound h.fsm.flat.wires → (phase : ℕ) → phase < bound.phases → HasSet h.fsm.sets bound.overs phase
table_sets h at bound x wider = subst (λ (b : Bound). (phase : ℕ) → phase < b.phases → HasSet h.fsm.sets b.overs phase) (sym wider) x.sets

-- the row over the table's own variables and the half's own wires
pub row_held : (h : Half) (bound : Bound) (shapes : List Shape) (vars : List VarDecl) (wires : List Signal) (row held : List (Option ℕ)) → vars ≡ bound.vars → wires ≡ h.fsm.flat.wires → held ≡ row → IsRow vars shapes (widths_of wires) row
    → IsRow bound.vars shapes (widths_of h.fsm.flat.wires) held
row_held h bound shapes vars wires row held ev ew er r =
    subst (λ (vs : List VarDecl). IsRow vs shapes (widths_of h.fsm.flat.wires) held) ev
    (subst (λ (ws : List Signal). IsRow vars shapes (widths_of ws) held) ew (subst (IsRow vars shapes (widths_of wires)) (sym er) r))

pub joined_held : (h : Half) (bound : Bound) (shapes : List Shape) (vars : List VarDecl) (wires : List Signal) (before : ℕ) (firsts : List (List Seg)) (row held : List (Option ℕ)) → vars ≡ bound.vars → wires ≡ h.fsm.flat.wires → before ≡ length h.bound.vars
    → firsts ≡ h.firsts → held ≡ row → AreJoined vars shapes (widths_of wires) before firsts row (length wires)
    → AreJoined bound.vars shapes (widths_of h.fsm.flat.wires) (length h.bound.vars) h.firsts held (length h.fsm.flat.wires)
joined_held h bound shapes vars wires before firsts row held ev ew eb ef er r =
    subst (λ (vs : List VarDecl). AreJoined vs shapes (widths_of h.fsm.flat.wires) (length h.bound.vars) h.firsts held (length h.fsm.flat.wires)) ev
    (subst (λ (ws : List Signal). AreJoined vars shapes (widths_of ws) (length h.bound.vars) h.firsts held (length ws)) ew
    (subst (λ k. AreJoined vars shapes (widths_of wires) k h.firsts held (length wires)) eb
    (subst (λ (fs : List (List Seg)). AreJoined vars shapes (widths_of wires) before fs held (length wires)) ef (subst (λ o. AreJoined vars shapes (widths_of wires) before firsts o (length wires)) (sym er) r))))

pub hyps_held : (bound : Bound) (mid new : List Shape) (samples : List Sample) (row held : List (Option ℕ)) (claims own hyps : List ℕ) → samples ≡ bound.samples → held ≡ row → own ≡ claims → AreHypotheses samples held mid own new hyps
    → AreHypotheses bound.samples row mid claims new hyps
hyps_held bound mid new samples row held claims own hyps es er ec x =
    subst (λ (ss : List Sample). AreHypotheses ss row mid claims new hyps) es
    (subst (λ o. AreHypotheses samples o mid claims new hyps) er (subst (λ ns. AreHypotheses samples held mid ns new hyps) ec x))

-- ---- what is said of the step

pub step_said : {E : Type 0} → (h : Half) (at : ℕ) (budget : Option ℕ) (bound : Bound) (start : Start) (mid new : List Shape) (own hyps : List ℕ) (r : Result Answer E) → bound ≡ with_vars h.bound h.fsm.flat.wires
    → HasNodes h at bound start mid new own hyps → IfOk r (IsBrokenBy (goal_of new bound.vars own hyps (claims_at h at)) budget) → IfOk r (λ a. (d : Design) (flat : Flat) → IsElaborated d flat → IsOf flat h → IsStepBy d h at budget a)
step_said h at budget bound start mid new own hyps r wider x m =
    let nodes : HasNodes h at (with_vars h.bound h.fsm.flat.wires) start mid new own hyps = subst (λ (b : Bound). HasNodes h at b start mid new own hyps) wider x in
    IfOk-weaker r (IsBrokenBy (step_goal h at new own hyps) budget) _ (λ a b d flat e o. step_by d flat h at start mid new own hyps e o nodes budget a b)
    (subst (λ (b : Bound). IfOk r (IsBrokenBy (goal_of new b.vars own hyps (claims_at h at)) budget)) wider m)

pub step_chosen : {E : Type 0} → (h : Half) (at : ℕ) (budget : Option ℕ) (bound : Bound) (new : List Shape) (own hyps : List ℕ) (r : Result Answer E) → bound ≡ with_vars h.bound h.fsm.flat.wires
    → IfOk r (IsBrokenBy (goal_of new bound.vars own hyps (claims_at h at)) budget) → IfOk r (IsChosen (with_vars h.bound h.fsm.flat.wires).vars)
step_chosen h at budget bound new own hyps r wider m =
    IfOk-weaker r (IsBrokenBy (step_goal h at new own hyps) budget) (IsChosen (with_vars h.bound h.fsm.flat.wires).vars) (λ a b. chosen_by h at new own hyps budget a b) (subst (λ (b : Bound). IfOk r (IsBrokenBy (goal_of new b.vars own hyps (claims_at h at)) budget)) wider m)

-- ---- what is found of the base

chosen_in : (g : Goal) (budget : Option ℕ) (a : Answer) → IsBrokenBy g budget a → IsChosen g.vars a
chosen_in g budget (Found choice) m = m.meets.is
chosen_in g budget (Never cert) m = tt
chosen_in g budget (Spent cert) m = tt

pub base_chosen : {E : Type 0} → (g : Goal) (budget : Option ℕ) (r : Result Answer E) → IfOk r (IsBrokenBy g budget) → IfOk r (IsChosen g.vars)
base_chosen g budget r m = IfOk-weaker r (IsBrokenBy g budget) (IsChosen g.vars) (chosen_in g budget) m

-- ---- the slices that the code holds

pub goal_as : {E : Type 0} → (budget : Option ℕ) (new : List Shape) (r : Result Answer E) (vars vars1 : List VarDecl) (own own1 hyps hyps1 claims claims1 : List ℕ) → vars1 ≡ vars → own1 ≡ own → hyps1 ≡ hyps → claims1 ≡ claims
    → IfOk r (IsBrokenBy (goal_of new vars1 own1 hyps1 claims1) budget) → IfOk r (IsBrokenBy (goal_of new vars own hyps claims) budget)
goal_as budget new r vars vars1 own own1 hyps hyps1 claims claims1 ev eo eh ec m =
    subst (λ vs. IfOk r (IsBrokenBy (goal_of new vs own hyps claims) budget)) ev
    (subst (λ ns. IfOk r (IsBrokenBy (goal_of new vars1 ns hyps claims) budget)) eo
    (subst (λ ns. IfOk r (IsBrokenBy (goal_of new vars1 own1 ns claims) budget)) eh (subst (λ ns. IfOk r (IsBrokenBy (goal_of new vars1 own1 hyps1 ns) budget)) ec m)))

-- ---- what is said of an invariant

pub right_of_step : (d : Design) (base step : Half) (at : ℕ) (budget : Option ℕ) (verdict : Inducted) → ((choice : List (List Bit)) → BreaksBase d base at choice → ⊥) → IsStepRight d step at budget verdict → IsRight d base step at budget verdict
right_of_step d base step at budget Invariant b s = (b, s)
right_of_step d base step at budget (BaseFails choice) b s = absurd s
right_of_step d base step at budget (StepFails choice state) b s = s
right_of_step d base step at budget (Undecided formula log) b s = record { question = of_step; left = s }
