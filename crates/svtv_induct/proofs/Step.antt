-- The step: what breaks a goal of nodes over the variables of the period and two for each wire breaks the claims in the least run of a
-- period from the valuation that these make, and from each valuation where they are broken some choice breaks the goal.
use Rattle.std.proofs.Common.{◌≡◌, ℕ, ◌<◌, List, [], ◌++◌, length, take, get_or, refl, sym, ap, ◌∙◌, subst, arith, zero-add}
use Rattle.std.specs.Prelude.{Option, None, Some}
use Rattle.std.specs.List.{All}
use Rattle.std.proofs.lemmas.List.{append_assoc, get_or_default, length-map}
use Rattle.std.proofs.lemmas.List.FromFn.{fill_by_all, get_or-map-range_with_len, length-map-range_with_len}
use Rattle.driver_resolve.specs.Drivers.{widths_of}
use Rattle.flat_net.specs.declared.flat.Flat.{Flat}
use Rattle.fourvec.specs.declared.Bit.{Bit}
use Rattle.fourvec.specs.declared.Bit.TheVariants.{Unknown}
use Rattle.goal_gates.specs.Goals.{Goal, goal_of, rows_of, sampled_under, value_under, IsBreaking, IsOne}
use Rattle.goal_prove.specs.Verdicts.{IsBrokenBy}
use Rattle.goal_prove.specs.declared.answers.Answer.{Answer}
use Rattle.goal_prove.specs.declared.answers.Answer.TheVariants.{Found, Never, Spent}
use Rattle.lhs_alias.specs.Segs.{bit, lhs_bits}
use Rattle.lhs_alias.specs.Lies.{IsBitOf}
use Rattle.lhs_alias.specs.declared.segs.WireBit.{WireBit}
use Rattle.lhs_alias.proofs.Lying.{lhs_bits-lie}
use Rattle.phase_fsm.specs.Machines.{IsMachine}
use Rattle.phase_fsm.specs.declared.machine.Fsm.{Fsm}
use Rattle.settling.specs.Settling.{Store, Even, first_bit, value_at as value_in}
use Rattle.sv_meaning.specs.Designs.{Design, links_of}
use Rattle.sv_outside.specs.declared.text.Signal.{Signal}
use Rattle.svex_arena.specs.Arenas.{IsArena, Extends}
use Rattle.svex_arena.proofs.Keeping.{extends_on}
use Rattle.svex_arena.proofs.Steps.{value-extends}
use Rattle.svex_shape.specs.declared.shape.Shape.{Shape}
use Rattle.svex_shape.specs.Values.{Vector, read, value_at}
use Rattle.svtv_least.specs.Passed.{IsElaborated}
use Rattle.svtv_least.proofs.Fitting.{apart}
use Rattle.svtv_periods.specs.Invariants.{samples_in, signals_in}
use Rattle.svtv_runs.specs.Runs.{Asked, Run, IsLeastRunFrom, asks_of}
use Rattle.svtv_runs.specs.Truths.{sampled}
use Rattle.svtv_runs.proofs.Runs.{least_run_stands_from}
use Rattle.svtv_table.specs.Stimuli.{IsChoice}
use Rattle.svtv_table.specs.declared.bound.Bound.{Bound}
use Rattle.svtv_table.specs.declared.bound.Sample.{Sample}
use Rattle.svtv_table.specs.declared.bound.VarDecl.{VarDecl}
use Rattle.svtv_unroll.specs.Rows.{IsRow}
use Rattle.svtv_unroll.specs.Unrolled.{AreSampleNodes, Begins, HaveSamples, Start, under_choice, vector_of, width_of_sample}
use Rattle.svtv_unroll.proofs.Nodes.{over_kept}
use Rattle.svtv_unroll.proofs.Running.{machine_on}
use Rattle.svtv_induct.specs.Halves.{AreOneOver, IsHalf, IsOf, claims_at, firsts_at}
use Rattle.svtv_induct.specs.Inducting.{BreaksStep, IsChosen, IsStateOf, IsStepBy, IsStepGoal, state_of}
use Rattle.svtv_induct.specs.Putting.{AreHypotheses}
use Rattle.svtv_induct.specs.States.{AreJoined, bits_in, joined_state, own_state, state_vars, with_vars}
use Rattle.svtv_induct.specs.declared.half.Half.{Half}
use Rattle.svtv_induct.proofs.Firsts.{bits_of_wire, firsts_are}
use Rattle.svtv_induct.proofs.Reading.{ones_over, ones_under, samples_are}
use Rattle.svtv_induct.proofs.Hypotheses.{have_signals, put_value}
use Rattle.svtv_induct.proofs.States.{asks_same, even_first, given_taken, joined_even, map_alike, state_again, state_choice, state_is_choice, state_taken, take_choice}

-- ---- samples, as the graph grows

pub nodes_kept : (vars : List VarDecl) (samples : List Sample) (old new : List Shape) (own : List ℕ) → Extends old new → AreSampleNodes vars samples old own → AreSampleNodes vars samples new own
nodes_kept vars samples old new own e h = record { as_many = h.as_many; each = λ k l. over_kept vars old new (width_of_sample samples k) (get_or own k 0) e (h.each k l) }

pub samples_kept : (vars : List VarDecl) (samples : List Sample) (choice : List Vector) (r : Run) (old new : List Shape) (own : List ℕ) → Extends old new → AreSampleNodes vars samples old own
    → HaveSamples choice samples (sampled r) old own → HaveSamples choice samples (sampled r) new own
samples_kept vars samples choice r old new own e h s = record { values = λ k l. value-extends (under_choice choice) old new (get_or own k 0) e (h.each k l).there ∙ s.values k l }

vector_alike : (g h : ℕ → Bit) (w : ℕ) → ((k : ℕ) → k < w → g k ≡ h k) → vector_of g w ≡ vector_of h w
vector_alike g h w same = fill_by_all h (vector_of g w) w Unknown (length-map-range_with_len g 0 w) (λ k l. get_or-map-range_with_len g 0 w k k Unknown l (zero-add k) ∙ same k l)

-- ---- what is known of the nodes

abbrev pub step_vars : Half → List VarDecl
step_vars h = (with_vars h.bound h.fsm.flat.wires).vars

abbrev pub step_goal : Half → ℕ → List Shape → List ℕ → List ℕ → Goal
step_goal h at new own hyps = goal_of new (step_vars h) own hyps (claims_at h at)

-- the nodes of a row, of the samples of a table over it, and of the claims over it, each in a graph that has grown
pub record HasNodes (h : Half) (at : ℕ) (bound : Bound) (start : Start) (mid new : List Shape) (own hyps : List ℕ) : Type 0 where
  pub half : IsHalf h at
  pub arena : IsArena h.fsm.flat.arena
  pub mid_arena : IsArena mid
  pub new_arena : IsArena new
  pub begins : Extends h.fsm.flat.arena start.shapes
  pub unrolls : Extends start.shapes mid
  pub puts : Extends mid new
  pub row : IsRow bound.vars start.shapes (widths_of h.fsm.flat.wires) start.row
  pub joined : AreJoined bound.vars start.shapes (widths_of h.fsm.flat.wires) (length h.bound.vars) h.firsts start.row (length h.fsm.flat.wires)
  pub nodes : AreSampleNodes bound.vars bound.samples mid own
  pub put : AreHypotheses bound.samples start.row mid (claims_at h at) new hyps
  pub least : (d : Design) (flat : Flat) → IsElaborated d flat → flat.wires ≡ h.fsm.flat.wires → IsMachine flat h.fsm.sets start.shapes h.fsm.nodes
      → (choice : List Vector) (first : Store) → IsChoice bound.vars choice → Even (links_of d.works) first → Begins choice (widths_of h.fsm.flat.wires) start first
      → (r : Run) → IsLeastRunFrom d (asks_of choice bound) bound.phases first r → HaveSamples choice bound.samples (sampled r) mid own

module _ (d : Design) (flat : Flat) (h : Half) (at : ℕ) (start : Start) (mid new : List Shape) (own hyps : List ℕ) (elaborated : IsElaborated d flat) (of : IsOf flat h)
    (x : HasNodes h at (with_vars h.bound h.fsm.flat.wires) start mid new own hyps) where
  -- ---- where a row begins

  joined_value : (choice : List Vector) → IsChoice (step_vars h) choice → (n m : ℕ) → n < length (widths_of h.fsm.flat.wires) → get_or start.row n None ≡ Some m
      → value_at (under_choice choice) start.shapes m ≡ bits_in (own_state choice (length h.bound.vars) (length (widths_of h.fsm.flat.wires))) (lhs_bits (firsts_at h n))
  joined_value choice c n m l is =
      let j = x.joined.each n (omega (arith, l, length-map h.fsm.flat.wires (λ (s : Signal). s.width))) in
      let e : j.0 ≡ m = some-is j.0 m (sym j.1 ∙ is) in
      subst (λ k. value_at (under_choice choice) start.shapes k ≡ bits_in (own_state choice (length h.bound.vars) (length (widths_of h.fsm.flat.wires))) (lhs_bits (firsts_at h n))) e (j.2.value choice c)
    where
      some-is : (a b : ℕ) → Some a ≡ Some b → a ≡ b
      some-is a b q = cc

  -- what the variables make is such a valuation
  begins_made : (choice : List Vector) (state : Store) → IsChoice (step_vars h) choice → IsStateOf d h choice state → Begins choice (widths_of h.fsm.flat.wires) start state
  begins_made choice state c s n m l is =
      let ws : List ℕ = widths_of h.fsm.flat.wires in
      let many : length ws ≡ length h.fsm.flat.wires = length-map h.fsm.flat.wires (λ (s : Signal). s.width) in
      let inside : n < length h.fsm.flat.wires = omega (arith, l, many) in
      joined_value choice c n m l is
      ∙ ap (λ k. bits_in (own_state choice (length h.bound.vars) k) (lhs_bits (firsts_at h n))) many
      ∙ ap (bits_in (own_state choice (length h.bound.vars) (length h.fsm.flat.wires))) (firsts_are d flat h elaborated of n inside)
      ∙ bits_of_wire (first_bit (links_of d.works)) (own_state choice (length h.bound.vars) (length h.fsm.flat.wires)) n (get_or ws n 0)
      ∙ vector_alike (state_of d h choice n) (state n) (get_or ws n 0) (λ k lt. sym (s.within n k inside lt))

  -- and each in which joined bits are equal is made by some choice
  begins_state : (choice : List Vector) (state : Store) → IsChoice h.bound.vars choice → Even (links_of d.works) state → Begins (state_choice choice h.fsm.flat.wires state) (widths_of h.fsm.flat.wires) start state
  begins_state choice state c even n m l is =
      let ws : List ℕ = widths_of h.fsm.flat.wires in
      let many : length ws ≡ length h.fsm.flat.wires = length-map h.fsm.flat.wires (λ (s : Signal). s.width) in
      let inside : n < length h.fsm.flat.wires = omega (arith, l, many) in
      let all = state_choice choice h.fsm.flat.wires state in
      let own = own_state all (length h.bound.vars) (length h.fsm.flat.wires) in
      let first : WireBit → WireBit = first_bit (links_of d.works) in
      let again : bits_in own (lhs_bits (firsts_at h n)) ≡ bits_in state (lhs_bits (firsts_at h n)) =
      map_alike (IsBitOf ws) (value_in own) (value_in state)
      (λ b i. state_again h.bound.vars choice h.fsm.flat.wires state c b.wire b.at (let w = i.wire in omega (arith, w, many)) i.place) (lhs_bits (firsts_at h n)) (lhs_bits-lie ws (firsts_at h n) (x.half.lie n inside)) in
      let one : joined_state first state n ≡ state n = λ i k. even_first (links_of d.works) state even (bit n k) i in
      joined_value all (state_is_choice h.bound choice h.fsm.flat.wires state c) n m l is
      ∙ ap (λ k. bits_in (own_state all (length h.bound.vars) k) (lhs_bits (firsts_at h n))) many
      ∙ again ∙ ap (bits_in state) (firsts_are d flat h elaborated of n inside) ∙ bits_of_wire (first_bit (links_of d.works)) state n (get_or ws n 0) ∙ ap (λ f. vector_of f (get_or ws n 0)) one

  -- ---- the hypotheses

  first_kept : Extends h.fsm.flat.arena mid
  first_kept = extends_on h.fsm.flat.arena start.shapes mid x.begins x.unrolls

  all_kept : Extends h.fsm.flat.arena new
  all_kept = extends_on h.fsm.flat.arena mid new first_kept x.puts

  hyp_value : (choice : List Vector) (first : Store) → IsChoice (step_vars h) choice → Begins choice (widths_of h.fsm.flat.wires) start first → (k : ℕ) → k < length (claims_at h at)
      → value_under (step_goal h at new own hyps) choice (get_or hyps k 0) ≡ value_at (read (rows_of [] (signals_in h.bound.samples first))) h.fsm.flat.arena (get_or (claims_at h at) k 0)
  hyp_value choice first c begins k l =
      let values = sampled_under (step_goal h at new own hyps) choice in
      let made = x.put in
      put_value h.bound.samples h.fsm.flat.arena mid new made.nodes (claims_at h at) hyps (read (rows_of choice values)) first k x.arena first_kept (x.half.claims k 0 l) made.put
      (have_signals (step_vars h) h.fsm.flat.wires h.bound start mid made.nodes choice values first x.half.bound x.mid_arena x.unrolls c.widths x.row made.signals begins) l

  -- the hypotheses are 1 exactly where the claims are over the signals of a valuation from which the row begins
  before : (choice : List Vector) (first : Store) → IsChoice (step_vars h) choice → Begins choice (widths_of h.fsm.flat.wires) start first
      → All (IsOne (step_goal h at new own hyps) choice) hyps → AreOneOver h (signals_in h.bound.samples first) at
  before choice first c begins ones = λ i d l.
      ap (value_at (read (rows_of [] (signals_in h.bound.samples first))) h.fsm.flat.arena) (get_or_default (claims_at h at) i d 0 l)
      ∙ sym (hyp_value choice first c begins i l) ∙ ones i 0 (omega (arith, l, x.put.as_many))

  after : (choice : List Vector) (first : Store) → IsChoice (step_vars h) choice → Begins choice (widths_of h.fsm.flat.wires) start first
      → AreOneOver h (signals_in h.bound.samples first) at → All (IsOne (step_goal h at new own hyps) choice) hyps
  after choice first c begins ones = λ i d l.
      let inside : i < length (claims_at h at) = omega (arith, l, x.put.as_many) in
      ap (value_under (step_goal h at new own hyps) choice) (get_or_default hyps i d 0 l) ∙ hyp_value choice first c begins i inside ∙ ones i 0 inside

  -- ---- both ways

  asked_taken : (choice : List Vector) → asks_of choice h.bound ≡ asks_of (take (length h.bound.vars) choice) h.bound
  asked_taken choice = asks_same h.fsm.flat.wires h.bound choice (take (length h.bound.vars) choice) x.half.bound (λ n l. given_taken h.bound.vars choice n l)

  machine : IsMachine flat h.fsm.sets start.shapes h.fsm.nodes
  machine =
      let grown : Fsm = record h.fsm { flat = record h.fsm.flat { arena = start.shapes } } in
      machine_on flat h.fsm grown (record { wires = refl; sets = refl; nodes = refl; flat = refl; extends = x.begins }) of.machine

  new_nodes : AreSampleNodes (step_vars h) h.bound.samples new own
  new_nodes = nodes_kept (step_vars h) h.bound.samples mid new own x.puts x.nodes

  samples_of_run : (choice : List Vector) (first : Store) → IsChoice (step_vars h) choice → Even (links_of d.works) first → Begins choice (widths_of h.fsm.flat.wires) start first
      → (r : Run) → IsLeastRunFrom d (asks_of choice h.bound) h.bound.phases first r → sampled_under (step_goal h at new own hyps) choice ≡ samples_in h.bound.samples r
  samples_of_run choice first c even begins r least =
      samples_are (step_vars h) h.bound.samples new own choice r x.new_arena c.widths new_nodes
      (samples_kept (step_vars h) h.bound.samples choice r mid new own x.puts x.nodes (x.least d flat elaborated of.wires machine choice first c even begins r least))

  breaks : (choice : List Vector) (state : Store) → IsStateOf d h choice state → IsBreaking (step_goal h at new own hyps) choice → BreaksStep d h at (take (length h.bound.vars) choice) state
  breaks choice state s m =
      let c = m.meets.is in
      let begins = begins_made choice state c s in
      let least = least_run_stands_from d (asks_of choice h.bound) h.bound.phases state (apart h.fsm.flat.wires h.bound x.half.bound choice) s.even in
      let same = samples_of_run choice state c s.even begins least.0 least.1 in
      record {
        is = take_choice h.bound.vars (state_vars h.fsm.flat.wires ++ state_vars h.fsm.flat.wires) choice
            (subst (λ vs. IsChoice vs choice) (append_assoc h.bound.vars (state_vars h.fsm.flat.wires) (state_vars h.fsm.flat.wires)) c);
        even = s.even;
        before = before choice state c begins m.meets.meets;
        run = least.0;
        least = subst (λ (a : Asked). IsLeastRunFrom d a h.bound.phases state least.0) (asked_taken choice) least.1;
        breaks = λ ones. m.breaks (ones_under h.fsm.flat.arena new (step_vars h) own hyps (claims_at h at) h.bound.samples choice _ x.arena all_kept x.half.claims same ones);
      }

  made_state : (choice : List Vector) → IsStateOf d h choice (state_of d h choice)
  made_state choice = record { even = joined_even (links_of d.works) (own_state choice (length h.bound.vars) (length h.fsm.flat.wires)); within = λ n k l m. refl }

  broken : (choice : List Vector) (state : Store) → BreaksStep d h at choice state → IsBreaking (step_goal h at new own hyps) (state_choice choice h.fsm.flat.wires state)
  broken choice state b =
      let all = state_choice choice h.fsm.flat.wires state in
      let c = state_is_choice h.bound choice h.fsm.flat.wires state b.is in
      let begins = begins_state choice state b.is b.even in
      let asked : asks_of all h.bound ≡ asks_of choice h.bound = asked_taken all ∙ ap (λ v. asks_of v h.bound) (state_taken h.bound.vars choice h.fsm.flat.wires state b.is) in
      let least : IsLeastRunFrom d (asks_of all h.bound) h.bound.phases state b.run = subst (λ (a : Asked). IsLeastRunFrom d a h.bound.phases state b.run) (sym asked) b.least in
      let same = samples_of_run all state c b.even begins b.run least in
      record {
        meets = record { is = c; meets = after all state c begins b.before };
        breaks = λ ones. b.breaks (ones_over h.fsm.flat.arena new (step_vars h) own hyps (claims_at h at) h.bound.samples all _ x.arena all_kept x.half.claims same ones);
      }

  some_breaks : ((choice : List (List Bit)) × IsBreaking (step_goal h at new own hyps) choice) → (choice : List (List Bit)) × (state : Store) × BreaksStep d h at choice state
  some_breaks y = (take (length h.bound.vars) y.0, state_of d h y.0, breaks y.0 (state_of d h y.0) (made_state y.0) y.1)

  some_broken : ((choice : List (List Bit)) × (state : Store) × BreaksStep d h at choice state) → (choice : List (List Bit)) × IsBreaking (step_goal h at new own hyps) choice
  some_broken y = (state_choice y.0 h.fsm.flat.wires y.1, broken y.0 y.1 y.2)

  is_step_goal : IsStepGoal d h at (step_goal h at new own hyps)
  is_step_goal = record { graph = all_kept; vars = refl; samples = new_nodes; hyps = x.put.as_many; claims = refl; asks = (some_breaks, some_broken) }

  pub step_by : (budget : Option ℕ) (a : Answer) → IsBrokenBy (step_goal h at new own hyps) budget a → IsStepBy d h at budget a
  step_by budget (Found choice) m = λ state s. breaks choice state s m
  step_by budget (Never cert) m = λ choice state b. m.0 (state_choice choice h.fsm.flat.wires state) (broken choice state b)
  step_by budget (Spent cert) m = record {
    n = m.n;
    given = m.given;
    below = m.asks.below;
    asked = (
      (λ s. let y = m.asks.asked.0 s in some_breaks (y.0, y.2)),
      (λ y. let z = some_broken y in m.asks.asked.1 (z.0, z.1.meets.is, z.1)),
    );
    posed = step_goal h at new own hyps;
    asks = is_step_goal;
    many = m.many;
    fits = m.room;
    fresh = m.fresh;
  }

-- what is found is a choice, whatever the design
pub chosen_by : (h : Half) (at : ℕ) (new : List Shape) (own hyps : List ℕ) (budget : Option ℕ) (a : Answer) → IsBrokenBy (step_goal h at new own hyps) budget a → IsChosen (with_vars h.bound h.fsm.flat.wires).vars a
chosen_by h at new own hyps budget (Found choice) m = m.meets.is
chosen_by h at new own hyps budget (Never cert) m = tt
chosen_by h at new own hyps budget (Spent cert) m = tt
