-- What is printed stands for the wires and their values.
use Rattle.std.proofs.Common.{◌≡◌, ℕ, ◌+◌, ◌-◌, ◌<◌, ◌^◌, min, List, [], ◌∷◌, ◌++◌, length, map, codes, replicate, Option, None, Some, All, refl, sym, ap, ◌∙◌, subst, arith, zero, suc}
use Rattle.std.specs.List.{slice_get}
use Rattle.std.specs.Option.{option_map}
use Rattle.std.proofs.lemmas.Option.{slice_get-map}
use Rattle.std.proofs.lemmas.List.Elements.{All-head, All-tail}
use Rattle.fourvec.specs.declared.Bit.{Bit}
use Rattle.fourvec.specs.declared.Bit.TheVariants.{Unknown}
use Rattle.sv_outside.specs.declared.text.Signal.{Signal}
use Rattle.vcd_text.specs.declared.waves.VcdVar.{VcdVar}
use Rattle.vcd_text.specs.Waves.{Wave, holding, changes_under, last_at, value_at}
use Rattle.vcd_print.specs.Printed.{HasParts, IsPhase}
use Rattle.vcd_print.specs.Dumps.{Printed, IsDump, IsDumpOf}
use Rattle.vcd_print.proofs.Declaring.{IsVar, AreVars, AreWires}
use Rattle.vcd_print.proofs.Changing.{changes_from, dump_reads}
use Rattle.vcd_print.proofs.Showing.{after, HasValue, EachHas, from_is}

are_wires : (wires : List Signal) → All HasParts wires → All (λ w. w.width < 256) wires → AreWires wires
are_wires [] parts widths = tt
are_wires (w ∷ wires) parts widths =
    ((All-head HasParts w wires parts, All-head (λ x. x.width < 256) w wires widths), are_wires wires (All-tail HasParts w wires parts) (All-tail (λ x. x.width < 256) w wires widths))

paths_are : (n : ℕ) (wires : List Signal) (vars : List VcdVar) → AreVars n wires vars → map (λ v. v.path) vars ≡ map (λ w. codes "top." ++ w.path) wires
paths_are n [] [] are = refl
paths_are n (w ∷ wires) (v ∷ vars) are = λ i. are.0.path i ∷ paths_are (n + 1) wires vars are.1 i
paths_are n [] (v ∷ vars) are = absurd are
paths_are n (w ∷ wires) [] are = absurd are

widths_are : (n : ℕ) (wires : List Signal) (vars : List VcdVar) → AreVars n wires vars → map (λ v. v.width) vars ≡ map (λ w. w.width) wires
widths_are n [] [] are = refl
widths_are n (w ∷ wires) (v ∷ vars) are = λ i. are.0.width i ∷ widths_are (n + 1) wires vars are.1 i
widths_are n [] (v ∷ vars) are = absurd are
widths_are n (w ∷ wires) [] are = absurd are

-- the wire of a signal
record HasWire (n k : ℕ) (wires : List Signal) (v : VcdVar) : Type 0 where
  wire : Signal
  at : slice_get wires k ≡ Some wire
  is : IsVar (n + k) wire v

wire_of : (n k : ℕ) (wires : List Signal) (vars : List VcdVar) (v : VcdVar) → AreVars n wires vars → slice_get vars k ≡ Some v → HasWire n k wires v
wire_of n k [] [] v are e = cc
wire_of n k [] (x ∷ vars) v are e = absurd are
wire_of n k (w ∷ wires) [] v are e = absurd are
wire_of n zero (w ∷ wires) (x ∷ vars) v are e =
    let same : x ≡ v = cc in
    record { wire = w; at = refl; is = subst (λ i. IsVar i w v) (let m : n ≡ n + 0 = omega arith in m) (subst (IsVar n w) same are.0) }
wire_of n (suc k) (w ∷ wires) (x ∷ vars) v are e =
    let h = wire_of (n + 1) k wires vars v are.1 e in
    record { wire = h.wire; at = h.at; is = subst (λ i. IsVar i h.wire v) (let m : (n + 1) + k ≡ n + suc k = omega arith in m) h.is }

has_value : (wires : List Signal) (values : List (List Bit)) (k : ℕ) (w : Signal) → IsPhase wires values → slice_get wires k ≡ Some w → HasValue k w.width values
has_value wires values k w phase at = by_case (slice_get values k) refl
    (sym (slice_get-map (λ (x : List Bit). length x) values k) ∙ ap (λ l. slice_get l k) (sym phase) ∙ slice_get-map (λ (x : Signal). x.width) wires k ∙ ap (option_map (λ (x : Signal). x.width)) at)
  where
    by_case : (o : Option (List Bit)) → slice_get values k ≡ o → option_map (λ (x : List Bit). length x) (slice_get values k) ≡ Some w.width → HasValue k w.width values
    by_case None e h = let no : None ≡ Some w.width = ap (option_map (λ (x : List Bit). length x)) (sym e) ∙ h in cc
    by_case (Some v) e h =
        let same : Some (length v) ≡ Some w.width = ap (option_map (λ (x : List Bit). length x)) (sym e) ∙ h in
        record { value = v; is = e; wide = cc }

each_has : (wires : List Signal) (phases : List (List (List Bit))) (k : ℕ) (w : Signal) → All (IsPhase wires) phases → slice_get wires k ≡ Some w → EachHas k w.width phases
each_has wires [] k w each at = tt
each_has wires (values ∷ phases) k w each at = (has_value wires values k w (All-head (IsPhase wires) values phases each) at, each_has wires phases k w (All-tail (IsPhase wires) values phases each) at)

-- the value of a signal at a time
value_is : (phases : List (List (List Bit))) (n t : ℕ) (w : Signal) (v : VcdVar) (values : List (List Bit)) (value : List Bit) → IsVar n w v → EachHas n w.width phases
    → slice_get phases (min t (length phases - 1)) ≡ Some values → slice_get values n ≡ Some value → value_at (changes_from 0 [] phases) v t ≡ value
value_is phases n t w v values value is has at own =
    ap (λ k. last_at t (replicate v.width Unknown) (holding k (changes_under v.code v.width (changes_from 0 [] phases)))) is.kind
    ∙ ap (λ c. last_at t (replicate v.width Unknown) (changes_under c v.width (changes_from 0 [] phases))) is.code
    ∙ ap (λ k. after t n k (replicate v.width Unknown) (changes_from 0 [] phases)) is.width
    ∙ from_is t n (min t (length phases - 1)) w.width (replicate v.width Unknown) 0 [] phases values value (omega arith)
    (ap (λ k. min k (length phases - 1)) (let e : t ≡ t - 0 = omega arith in e)) has at own (λ u no. cc)

pub dump_stands : (wires : List Signal) (phases : List (List (List Bit))) (d : Printed) → length phases < 2 ^ 64 → IsDump wires phases d → All HasParts wires → All (IsPhase wires) phases → IsDumpOf wires phases d.text
dump_stands wires phases d few is parts each =
    let r = dump_reads wires phases (are_wires wires parts is.widths) (omega (arith, few)) is.values in
    record {
      vars = r.vars;
      changes = changes_from 0 [] phases;
      wave = subst (λ x. Wave x r.vars (changes_from 0 [] phases)) (sym is.text_is) r.wave;
      paths = paths_are 0 wires r.vars r.are;
      widths = widths_are 0 wires r.vars r.are;
      values = λ n t v values value var at own.
          let h = wire_of 0 n wires r.vars v r.are var in
          value_is phases n t h.wire v values value (subst (λ i. IsVar i h.wire v) (let e : 0 + n ≡ n = omega arith in e) h.is) (each_has wires phases n h.wire each h.at) at own;
    }
