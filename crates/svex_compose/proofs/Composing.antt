-- Equations before the first round, and when all are at rest.
use Rattle.std.proofs.Common.{◌≡◌, ℕ, ◌<◌, true, List, length, get_or, map, refl, sym, ap, ◌∙◌, subst, arith}
use Rattle.std.specs.Prelude.{slice_index}
use Rattle.std.proofs.lemmas.List.{get_or-map, length-map, length-replicate}
use Rattle.std.proofs.lemmas.List.Elements.{All-get_or, All-from_get_or, All-append, All-map, All-weaker}
use Rattle.fourvec.specs.declared.Bit.TheVariants.{Unknown}
use Rattle.lhs_alias.specs.declared.segs.Seg.{Seg}
use Rattle.lhs_alias.specs.declared.segs.WireBit.{WireBit}
use Rattle.lhs_alias.specs.Segs.{seg_bits}
use Rattle.lhs_alias.specs.Lies.{LiesIn, IsBitOf}
use Rattle.lhs_alias.specs.Joined.{Kept, Stands}
use Rattle.settling.specs.Settling.{Store, Link, first_bit, value_at as value_in}
use Rattle.settling.specs.Least.{Under}
use Rattle.svex_shape.specs.declared.shape.Shape.{Shape}
use Rattle.svex_shape.specs.declared.shape.VarName.TheVariants.{Now, Prev, Stim, Chosen, Sampled}
use Rattle.svex_shape.specs.Shapes.{width_at, width_of}
use Rattle.svex_shape.specs.Values.{value_at, value_of, each_variable, each_variable_of, AgreesWhere}
use Rattle.svex_arena.specs.Arenas.{IsArena, Extends}
use Rattle.svex_arena.proofs.Steps.{value_follows, variables_follow, width_follows}
use Rattle.svex_arena.proofs.Lifted.{values_alike}
use Rattle.driver_resolve.specs.declared.driver.NetEq.{NetEq}
use Rattle.driver_resolve.specs.declared.driver.Resolved.{Resolved}
use Rattle.driver_resolve.specs.Drivers.{reading}
use Rattle.net_equations.specs.Equations as equations
use Rattle.net_equations.specs.Equations.{phase_of, is_of_phase, has_bit, seg_at, Holds, IsEq, IsResolved, IsLeastSolution}
use Rattle.compose_rounds.specs.Rounds.{store_of, Solves}
use Rattle.compose_rounds.specs.States.{is_outer, outer_reading, shown, gives_of, IsProblem, IsGrown}
use Rattle.compose_rounds.proofs.Found.{found-none, own-value}
use Rattle.compose_rounds.proofs.Rounding.{reached-start, rest-solves, antisym}
use Rattle.compose_rounds.proofs.Systems.{system-of, first-as}
use Rattle.compose_rounds.proofs.Turning.{gives-kept}
use Rattle.svex_compose.specs.Composed.{IsUntold, IsComposed}
use Rattle.svex_compose.specs.Starting.{AreStarted}

-- ---- the beginning

pub grown-start : (kept : Kept) (shapes : List Shape) (segs free : List Seg) (values nodes : List ℕ) → IsArena shapes → IsProblem kept shapes segs free values → AreStarted shapes segs nodes (length segs) → IsGrown kept shapes segs values nodes
unfolding value_of each_variable_of width_of
grown-start kept shapes segs free values nodes a p h = record {
  size = h.size;
  outer = λ i l.
      let lt : i < length segs = omega (arith, l, h.size) in
      record {
        there = h.there i lt;
        mentions = variables_follow (is_outer kept.widths) shapes (slice_index nodes i) a (h.there i lt) ∙ ap (each_variable_of (is_outer kept.widths) (each_variable (is_outer kept.widths) shapes)) (h.shape i lt);
      };
  widths = λ i lt. width_follows shapes (slice_index nodes i) a (h.there i lt) ∙ ap (width_of (width_at shapes)) (h.shape i lt) ∙ length-replicate (seg_at segs i).width Unknown;
  reached = λ links s stim previous.
      reached-start links segs (gives_of stim previous shapes values) (system-of kept shapes segs free values a p links s stim previous) (shown stim previous shapes nodes)
      (λ i lt. value_follows (outer_reading stim previous) shapes (slice_index nodes i) a (h.there i lt) ∙ ap (value_of (outer_reading stim previous) (value_at (outer_reading stim previous) shapes)) (h.shape i lt));
}

no_eq : NetEq
no_eq = record { seg = record { wire = 0; lo = 0; width = 0 }; value = 0 }

seg-of : (eqs : List NetEq) (i : ℕ) → i < length eqs → seg_at (map (λ e. e.seg) eqs) i ≡ (get_or eqs i no_eq).seg
seg-of eqs i lt = get_or-map (λ e. e.seg) eqs i no_eq _ lt

value-of : (eqs : List NetEq) (i : ℕ) → i < length eqs → slice_index (map (λ e. e.value) eqs) i ≡ (get_or eqs i no_eq).value
value-of eqs i lt = get_or-map (λ e. e.value) eqs i no_eq 0 lt

pub problem-of : (kept : Kept) (shapes : List Shape) (set : Resolved) → IsResolved kept shapes set → IsProblem kept shapes (map (λ e. e.seg) set.eqs) set.free (map (λ e. e.value) set.eqs)
problem-of kept shapes set h =
    let eqs = set.eqs in
    let count : length (map (λ e. e.seg) eqs) ≡ length eqs = length-map eqs (λ e. e.seg) in
    let is : (i : ℕ) → i < length eqs → IsEq kept.widths shapes (get_or eqs i no_eq) = λ i lt. All-get_or (IsEq kept.widths shapes) eqs i no_eq lt h.eqs in
    record {
      count = length-map eqs (λ e. e.value) ∙ sym count;
      there = λ i l. let lt : i < length eqs = omega (arith, l, count) in subst (λ x. x < length shapes) (sym (value-of eqs i lt)) (is i lt).there;
      wide = λ i l. let lt : i < length eqs = omega (arith, l, count) in ap (width_at shapes) (value-of eqs i lt) ∙ (is i lt).wide ∙ ap (λ x. x.width) (sym (seg-of eqs i lt));
      mentions = λ i l. let lt : i < length eqs = omega (arith, l, count) in subst (λ x. each_variable (is_of_phase kept.widths) shapes x ≡ true) (sym (value-of eqs i lt)) (is i lt).mentions;
      lies = All-append (LiesIn kept.widths) (map (λ e. e.seg) eqs) set.free (All-map (LiesIn kept.widths) (λ e. e.seg) eqs (All-weaker (IsEq kept.widths shapes) (λ e. LiesIn kept.widths e.seg) (λ e k. k.lies) eqs h.eqs)) h.free;
      firsts = h.firsts;
      apart = h.apart;
      covers = h.covers;
    }

-- ---- the end

module _ (kept : Kept) (old new : List Shape) (eqs : List NetEq) (free : List Seg) (nodes : List ℕ) (a : IsArena new) (e : Extends old new)
    (p : IsProblem kept old (map (λ e. e.seg) eqs) free (map (λ e. e.value) eqs)) (pn : IsProblem kept new (map (λ e. e.seg) eqs) free (map (λ e. e.value) eqs))
    (g : IsGrown kept new (map (λ e. e.seg) eqs) (map (λ e. e.value) eqs) nodes) (calm : (links : List Link) → Stands kept links → (stim previous : Store) (i : ℕ) → i < length (map (λ e. e.seg) eqs)
    → shown stim previous new nodes i ≡ gives_of stim previous new (map (λ e. e.value) eqs) (store_of links (map (λ e. e.seg) eqs) (shown stim previous new nodes)) i) where
  abbrev segs : List Seg
  segs = map (λ e. e.seg) eqs

  abbrev values : List ℕ
  values = map (λ e. e.value) eqs

  count : length segs ≡ length eqs
  count = length-map eqs (λ e. e.seg)

  -- the equations by themselves and by their segments
  solves-as : (links : List Link) (stim previous t : Store) → equations.Solves links old eqs (phase_of stim previous t) → Solves links segs (gives_of stim previous old values) t
  solves-as links stim previous t h = record {
    even = h.even;
    hold = λ i l.
        let lt : i < length eqs = omega (arith, l, count) in
        ap (λ s. map (value_in t) (seg_bits s)) (seg-of eqs i lt)
        ∙ All-get_or (Holds old (phase_of stim previous t)) eqs i no_eq lt h.hold
        ∙ ap (value_at (reading (phase_of stim previous t)) old) (sym (value-of eqs i lt));
  }

  solves-back : (links : List Link) (stim previous t : Store) → Solves links segs (gives_of stim previous old values) t → equations.Solves links old eqs (phase_of stim previous t)
  solves-back links stim previous t h = record {
    even = h.even;
    hold = All-from_get_or (Holds old (phase_of stim previous t)) eqs no_eq
        (λ i lt.
        ap (λ s. map (value_in t) (seg_bits s)) (sym (seg-of eqs i lt))
        ∙ h.hold i (omega (arith, lt, count))
        ∙ ap (value_at (reading (phase_of stim previous t)) old) (value-of eqs i lt));
  }

  abbrev reached-store : List Link → Store → Store → Store
  reached-store links stim previous = store_of links segs (shown stim previous new nodes)

  least : (links : List Link) → Stands kept links → (stim previous : Store) → IsLeastSolution links old eqs stim previous (reached-store links stim previous)
  least links s stim previous =
      let gives = gives_of stim previous new values in
      let solved = rest-solves links segs gives (system-of kept new segs free values a pn links s stim previous) (shown stim previous new nodes) (shown stim previous new nodes) (g.reached links s stim previous)
      (calm links s stim previous) in
      record {
        solves = solves-back links stim previous (reached-store links stim previous)
            (record { even = solved.even; hold = λ i lt. solved.hold i lt ∙ gives-kept kept old new segs free values e p stim previous (reached-store links stim previous) i lt });
        least = λ t h.
            let k = solves-as links stim previous t h in
            (g.reached links s stim previous).below t (record { even = k.even; hold = λ i lt. k.hold i lt ∙ sym (gives-kept kept old new segs free values e p stim previous t i lt) });
      }

  same-store : (s t : Store) → Under s t → Under t s → s ≡ t
  same-store s t h k j n m = antisym (s n m) (t n m) (h n m) (k n m) j

  outer-agrees : (stim previous present : Store) → AgreesWhere (is_outer kept.widths) (reading (phase_of stim previous present)) (outer_reading stim previous)
  outer-agrees stim previous present (Now n) w t = cc
  outer-agrees stim previous present (Prev n) w t = refl
  outer-agrees stim previous present (Stim n) w t = refl
  outer-agrees stim previous present (Chosen n) w t = cc
  outer-agrees stim previous present (Sampled n) w t = cc

  untold-bit : (links : List Link) → Stands kept links → (stim previous : Store) (b : WireBit) → IsBitOf kept.widths b → IsUntold kept eqs b → value_in (reached-store links stim previous) b ≡ Unknown
  unfolding store_of
  untold-bit links s stim previous b inside untold =
      found-none segs (shown stim previous new nodes) (first_bit links b)
      (λ i l has. untold i (omega (arith, l, count)) (subst (λ c. has_bit (seg_at segs i) c ≡ true) (sym (first-as kept links s b inside)) has))

  pub composed : IsComposed kept old new eqs nodes
  composed = record {
    size = g.size ∙ count;
    outer = g.outer;
    widths = λ i lt. g.widths i (omega (arith, lt, count));
    exists = λ links s stim previous. (reached-store links stim previous, least links s stim previous);
    values = λ links s stim previous now present h i lt.
        let l : i < length segs = omega (arith, lt, count) in
        let here = least links s stim previous in
        let sys = system-of kept new segs free values a pn links s stim previous in
        let is : reached-store links stim previous ≡ now = same-store (reached-store links stim previous) now (here.least now h.solves) (h.least (reached-store links stim previous) here.solves) in
        values_alike (is_outer kept.widths) (reading (phase_of stim previous present)) (outer_reading stim previous) new (slice_index nodes i) a (outer-agrees stim previous present)
        (g.outer i (omega (arith, l, g.size))).there (g.outer i (omega (arith, l, g.size))).mentions
        ∙ sym (own-value links segs (shown stim previous new nodes) i l ((g.reached links s stim previous).wide i l) (λ b has. sys.firsts i b l has) (λ j b m has other. sys.apart j i b m l has other))
        ∙ ap (λ t. map (value_in t) (seg_bits (seg_at segs i))) is;
    free = λ links s stim previous now h b inside untold.
        let here = least links s stim previous in
        let is : reached-store links stim previous ≡ now = same-store (reached-store links stim previous) now (here.least now h.solves) (h.least (reached-store links stim previous) here.solves) in
        sym (ap (λ t. value_in t b) is)
        ∙ untold-bit links s stim previous b inside untold;
  }
