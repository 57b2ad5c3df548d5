-- Claims with the nodes of a row in place of samples: the values that they have where the row has those of a valuation.
use Rattle.std.proofs.Common.{◌≡◌, ℕ, zero, suc, ◌<◌, cond, List, [], ◌∷◌, length, map, get_or, refl, sym, ap, ◌∙◌, subst, arith, lt-ltb}
use Rattle.std.specs.Prelude.{Option, None, Some}
use Rattle.std.proofs.lemmas.Bool.{eqb-true, eq-eqb, ltb-true}
use Rattle.std.proofs.lemmas.List.{get_or-map, length-map}
use Rattle.std.proofs.lemmas.List.FromFn.{length-map-range_with_len}
use Rattle.driver_resolve.specs.Drivers.{widths_of}
use Rattle.fourvec.proofs.Order.{both}
use Rattle.fourvec.proofs.Tables.{left_of, right_of}
use Rattle.goal_gates.specs.Goals.{rows_of}
use Rattle.goal_text.specs.Scopes.{is_of_table, is_of_vars, sampled_of, widths_in}
use Rattle.settling.specs.Settling.{Store}
use Rattle.sv_outside.specs.declared.text.Signal.{Signal}
use Rattle.svex_arena.specs.Arenas.{Extends, IsArena}
use Rattle.svex_arena.specs.Substs.{IsReplaced, entry_at, fitting, given_or, replaced}
use Rattle.svex_arena.proofs.Lifted.{values_alike}
use Rattle.svex_arena.proofs.Steps.{value-extends}
use Rattle.svex_shape.specs.declared.shape.Shape.{Shape}
use Rattle.svex_shape.specs.declared.shape.VarName.{VarName}
use Rattle.svex_shape.specs.declared.shape.VarName.TheVariants.{Now, Prev, Stim, Chosen, Sampled}
use Rattle.svex_shape.specs.Shapes.{width_at}
use Rattle.svex_shape.specs.Values.{AgreesWhere, Reading, Vector, fitted, read, value_at}
use Rattle.svtv_periods.specs.Invariants.{signals_in}
use Rattle.svtv_table.specs.Binding.{IsBound}
use Rattle.svtv_table.specs.Names.{no_signal}
use Rattle.svtv_table.specs.declared.bound.Bound.{Bound}
use Rattle.svtv_table.specs.declared.bound.Sample.{Sample}
use Rattle.svtv_table.specs.declared.bound.VarDecl.{VarDecl}
use Rattle.svtv_unroll.specs.Rows.{IsRow, no_sample, node_in, sample_at}
use Rattle.svtv_unroll.specs.Unrolled.{Begins, IsOverVars, Start, under_choice, vector_of, width_of_sample}
use Rattle.svtv_unroll.proofs.Nodes.{over_kept}
use Rattle.svtv_induct.specs.Halves.{IsClaim}
use Rattle.svtv_induct.specs.Putting.{ArePresent, AreSignals, by_samples}
use Rattle.svtv_induct.proofs.Reading.{fitted_same, vars_agree}

-- ---- samples

sample_widths : (samples : List Sample) → widths_in (sampled_of samples) ≡ map (λ s. s.width) samples
sample_widths [] = refl
sample_widths (s ∷ samples) = ap (λ (ws : List ℕ). s.width ∷ ws) (sample_widths samples)

signal_at : (samples : List Sample) (first : Store) (n : ℕ) → n < length samples → get_or (signals_in samples first) n [] ≡ vector_of (first (sample_at samples n).wire) (width_of_sample samples n)
signal_at [] first n h = absurd (omega (arith, h))
signal_at (s ∷ samples) first zero h = refl
signal_at (s ∷ samples) first (suc n) h = signal_at samples first n (omega (arith, h))

-- a sample's wire is there and as wide
pub sample_wide : (wires : List Signal) (bound : Bound) → IsBound wires bound → (n : ℕ) → n < length bound.samples
    → ((sample_at bound.samples n).wire < length (widths_of wires)) × (get_or (widths_of wires) (sample_at bound.samples n).wire 0 ≡ width_of_sample bound.samples n)
sample_wide wires bound b n l =
    let s = b.samples n no_sample l in (
      omega (arith, s.wire, length-map wires (λ (w : Signal). w.width)),
      get_or-map (λ (w : Signal). w.width) wires (sample_at bound.samples n).wire no_signal 0 s.wire ∙ sym s.width ∙ sym (get_or-map (λ (x : Sample). x.width) bound.samples n no_sample 0 l),
    )

-- each has a node in a row
pub are_present : (vars : List VarDecl) (shapes : List Shape) (wires : List Signal) (bound : Bound) (row : List (Option ℕ)) → IsBound wires bound → IsRow vars shapes (widths_of wires) row → ArePresent bound.samples row
are_present vars shapes wires bound row b r k l =
    let s = sample_wide wires bound b k l in
    let one = r.each (sample_at bound.samples k).wire s.0 in
    (omega (arith, s.0, r.size), (one.node, one.is))

-- ---- nodes of signals

-- the nodes have what the signals have in a valuation
pub record HaveSignals (samples : List Sample) (shapes : List Shape) (nodes : List ℕ) (r : Reading) (first : Store) : Type 0 where
  pub as_many : length nodes ≡ length samples
  pub there : (n : ℕ) → n < length samples → get_or nodes n 0 < length shapes
  pub wide : (n : ℕ) → n < length samples → width_at shapes (get_or nodes n 0) ≡ width_of_sample samples n
  pub value : (n : ℕ) → n < length samples → value_at r shapes (get_or nodes n 0) ≡ vector_of (first (sample_at samples n).wire) (width_of_sample samples n)

some_is : (a b : ℕ) (o : Option ℕ) → o ≡ Some a → o ≡ Some b → a ≡ b
some_is a b o p q = cc

pub have_signals : (vars : List VarDecl) (wires : List Signal) (bound : Bound) (start : Start) (mid : List Shape) (nodes : List ℕ) (choice values : List Vector) (first : Store) → IsBound wires bound → IsArena mid → Extends start.shapes mid
    → map (λ v. length v) choice ≡ map (λ v. v.width) vars → IsRow vars start.shapes (widths_of wires) start.row → AreSignals bound.samples start.row nodes (length bound.samples) → Begins choice (widths_of wires) start first
    → HaveSignals bound.samples mid nodes (read (rows_of choice values)) first
have_signals vars wires bound start mid nodes choice values first b a e w r s begins =
    let widths : List ℕ = widths_of wires in
    let wire : ℕ → ℕ = λ n. (sample_at bound.samples n).wire in
    let wide = sample_wide wires bound b in
    let same : (n : ℕ) (l : n < length bound.samples) → (r.each (wire n) (wide n l).0).node ≡ get_or nodes n 0 =
    λ n l. let one = r.each (wire n) (wide n l).0 in some_is one.node (get_or nodes n 0) (node_in start.row (wire n)) one.is (s.at n l) in
    let over : (n : ℕ) (l : n < length bound.samples) → IsOverVars vars start.shapes (get_or widths (wire n) 0) (get_or nodes n 0) =
    λ n l. subst (λ m. IsOverVars vars start.shapes (get_or widths (wire n) 0) m) (same n l) (r.each (wire n) (wide n l).0).over in
    let kept : (n : ℕ) (l : n < length bound.samples) → IsOverVars vars mid (get_or widths (wire n) 0) (get_or nodes n 0) =
    λ n l. over_kept vars start.shapes mid (get_or widths (wire n) 0) (get_or nodes n 0) e (over n l) in
    record {
      as_many = s.as_many;
      there = λ n l. (kept n l).there;
      wide = λ n l. (kept n l).wide ∙ (wide n l).1;
      value = λ n l.
          values_alike (is_of_vars vars) (read (rows_of choice values)) (under_choice choice) mid (get_or nodes n 0) a (vars_agree vars choice values w) (kept n l).there (kept n l).mentions
          ∙ value-extends (under_choice choice) start.shapes mid (get_or nodes n 0) e (over n l).there
          ∙ begins (wire n) (get_or nodes n 0) (wide n l).0 (s.at n l) ∙ ap (vector_of (first (wire n))) (wide n l).1;
    }

-- ---- claims over them

put_at : (r : Reading) (shapes : List Shape) (name : VarName) (node width : ℕ) → node < length shapes → width_at shapes node ≡ width
    → given_or (value_at r shapes) (r name width) (fitting (length shapes) (width_at shapes) (Some node) width) ≡ value_at r shapes node
unfolding fitting
put_at r shapes name node width l e = ap (λ t. given_or (value_at r shapes) (r name width) (cond t (Some node) None)) (both _ _ (lt-ltb node (length shapes) l) (eq-eqb (width_at shapes node) width e))

signals_agree : (samples : List Sample) (shapes : List Shape) (nodes : List ℕ) (r : Reading) (first : Store) → HaveSignals samples shapes nodes r first
    → AgreesWhere (is_of_table [] samples) (replaced r (by_samples nodes) shapes) (read (rows_of [] (signals_in samples first)))
signals_agree samples shapes nodes r first h (Sampled n) w t =
    let ws : List ℕ = widths_in (sampled_of samples) in
    let long : length ws ≡ length samples = ap (λ (l : List ℕ). length l) (sample_widths samples) ∙ length-map samples (λ (s : Sample). s.width) in
    let own : n < length ws = ltb-true n (length ws) (left_of _ _ t) in
    let there : n < length samples = omega (arith, own, long) in
    let node : ℕ = get_or nodes n 0 in
    let named : entry_at (map Some nodes) n ≡ Some node = get_or-map Some nodes n 0 None (omega (arith, there, h.as_many)) in
    let wide : width_of_sample samples n ≡ w = ap (λ (l : List ℕ). get_or l n 0) (sym (sample_widths samples)) ∙ eqb-true (get_or ws n 0) w (right_of _ _ t) in
    let value : Vector = vector_of (first (sample_at samples n).wire) (width_of_sample samples n) in
    let shown : get_or (signals_in samples first) n [] ≡ value = signal_at samples first n there in
    let sized : length value ≡ w = length-map-range_with_len (first (sample_at samples n).wire) 0 (width_of_sample samples n) ∙ wide in
    ap (λ o. given_or (value_at r shapes) (r (Sampled n) w) (fitting (length shapes) (width_at shapes) o w)) named
    ∙ put_at r shapes (Sampled n) node w (h.there n there) (h.wide n there ∙ wide)
    ∙ h.value n there ∙ sym (ap (fitted w) shown ∙ fitted_same w value sized)
signals_agree samples shapes nodes r first h (Chosen n) w t = absurd (let l : n < 0 = ltb-true n 0 (left_of _ _ t) in omega (arith, l))
signals_agree samples shapes nodes r first h (Now n) w t = cc
signals_agree samples shapes nodes r first h (Prev n) w t = cc
signals_agree samples shapes nodes r first h (Stim n) w t = cc

-- a claim that is put in has the value that the claim has over the signals of the valuation
pub put_value : (samples : List Sample) (old mid new : List Shape) (nodes claims hyps : List ℕ) (r : Reading) (first : Store) (k : ℕ) → IsArena old → Extends old mid → IsClaim old samples (get_or claims k 0)
    → IsReplaced mid (by_samples nodes) new claims hyps → HaveSignals samples mid nodes r first → k < length claims
    → value_at r new (get_or hyps k 0) ≡ value_at (read (rows_of [] (signals_in samples first))) old (get_or claims k 0)
put_value samples old mid new nodes claims hyps r first k a e c put h l =
    let node : ℕ = get_or claims k 0 in
    let taken : Reading = replaced r (by_samples nodes) mid in
    let given : Reading = read (rows_of [] (signals_in samples first)) in
    put.values r k l ∙ value-extends taken old mid node e c.there ∙ values_alike (is_of_table [] samples) taken given old node a (signals_agree samples mid nodes r first h) c.there c.mentions
