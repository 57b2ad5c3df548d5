-- The valuations of the least run, one phase after another, and the samples so far.
use Rattle.std.proofs.Common.{◌≡◌, ℕ, zero, suc, ◌+◌, ◌<◌, ◌≤◌, eqb, Bool, true, false, cond, List, [], length, map, get_or, Option, Some, None, refl, sym, ap, ◌∙◌, subst, arith, inl, inr}
use Rattle.std.specs.Prelude.{nat_lt}
use Rattle.std.specs.List.{range_with_len}
use Rattle.std.proofs.lemmas.List.{get_or_past, get_or-map, length-map}
use Rattle.std.proofs.lemmas.List.FromFn.{fill_by_all}
use Rattle.std.proofs.lemmas.Bool.{cases_Bool}
use Rattle.std.proofs.lemmas.Bool.Decides.{nat_tests}
use Rattle.fourvec.specs.declared.Bit.{Bit}
use Rattle.fourvec.specs.declared.Bit.TheVariants.{Unknown}
use Rattle.settling.specs.Settling.{Store, Link, Even}
use Rattle.settling.specs.Least.{IsLeast, Giving, Under}
use Rattle.settling.proofs.Rounds.{no_value, no_value-under}
use Rattle.svex_shape.specs.Values.{Vector}
use Rattle.event_sim.specs.Sims.{IsValuation, store_of}
use Rattle.sv_outside.specs.declared.text.Signal.{Signal}
use Rattle.driver_resolve.specs.Drivers.{widths_of}
use Rattle.flat_net.specs.declared.flat.Flat.{Flat}
use Rattle.flat_net.specs.Flats as f
use Rattle.sv_meaning.specs.Designs as d
use Rattle.sv_meaning.specs.Designs.{Design}
use Rattle.sv_meaning.specs.Laws as laws
use Rattle.sv_meaning.proofs.Leasts.{least_settling_exists}
use Rattle.sv_elab.specs.Elaborated.{IsElaborated}
use Rattle.svtv_table.specs.Binding.{IsBound}
use Rattle.svtv_table.specs.declared.bound.Bound.{Bound}
use Rattle.svtv_table.specs.declared.bound.Sample.{Sample}
use Rattle.svtv_runs.specs.Runs.{Asked, AreApart, Run, IsLeastRun, IsLeastRunFrom, asks_of}
use Rattle.svtv_runs.specs.Truths.{sampled, valuation}
use Rattle.svtv_runs.specs.Leasts.{all_unknown, least_overriding, least_stimulus}
use Rattle.svtv_runs.proofs.Runs.{least_from, least_run_from, least_run_stands_from, same_store}
use Rattle.svtv_least.specs.Running.{behind, taken_of}
use Rattle.svtv_least.proofs.Fitting.{apart}
use Rattle.svtv_least.proofs.Setting.{least_outside}

-- a least settling of the flat design, where the wires are set from outside, is one of the design
pub of_design : (design : Design) (flat : Flat) (stim : Store) (o : d.Overriding) (prev now : Store) → IsElaborated design flat → f.IsLeastSettling flat o.wires (d.outside stim o) prev now → laws.IsLeastSettling design stim o prev now
of_design design flat stim o prev now e h =
    subst (λ (g : Giving). IsLeast (d.links_of design.works) g now) (λ i s. e.given stim o prev s i)
    (subst (λ (links : List Link). IsLeast links (f.given_in flat o.wires (d.outside stim o) prev) now) e.links h)

-- ---- what wires have behind phases

-- a settling that is least is the one of that phase
from_next : (design : Design) (asked : Asked) (first : Store) (phase : ℕ) (prev now : Store) → prev ≡ least_from design asked first phase
    → laws.IsLeastSettling design (least_stimulus asked phase) (least_overriding asked phase) prev now → now ≡ least_from design asked first (suc phase)
unfolding least_from
from_next design asked first phase prev now e h =
    let own : laws.IsLeastSettling design (least_stimulus asked phase) (least_overriding asked phase) (least_from design asked first phase) now =
    subst (λ p. laws.IsLeastSettling design (least_stimulus asked phase) (least_overriding asked phase) p now) e h in
    let that = least_settling_exists design (least_stimulus asked phase) (least_overriding asked phase) (least_from design asked first phase) in
    same_store now that.0 (own.least that.0 that.1.settles) (that.1.least now own.settles)

behind_is : (design : Design) (asked : Asked) (phases n : ℕ) (first : Store) (r : Run) → AreApart asked → IsLeastRunFrom design asked phases first r → n ≤ phases → behind r n ≡ least_from design asked first n
unfolding least_from
behind_is design asked phases zero first r apart h l = h.run.begins
behind_is design asked phases (suc n) first r apart h l =
    least_run_from design asked phases first apart (subst (Even (d.links_of design.works)) h.run.begins h.run.run.even) r h n (omega (arith, l))

-- a phase more of the least run
pub next_behind : (design : Design) (flat : Flat) (asked : Asked) (phases phase : ℕ) (first : Store) (r : Run) (prev now : Store) → AreApart asked → IsElaborated design flat → IsLeastRunFrom design asked phases first r
    → phase < phases → prev ≡ behind r phase → f.IsLeastSettling flat (least_overriding asked phase).wires (least_outside asked phase) prev now → now ≡ behind r (phase + 1)
next_behind design flat asked phases phase first r prev now apart e h l is least =
    from_next design asked first phase prev now (is ∙ behind_is design asked phases phase first r apart h (omega (arith, l)))
    (of_design design flat (least_stimulus asked phase) (least_overriding asked phase) prev now e least)
    ∙ sym (behind_is design asked phases (suc phase) first r apart h (omega (arith, l)))
    ∙ (let z : suc phase ≡ phase + 1 = omega arith in ap (behind r) z)

-- the least run begins with X at every bit, and is the least one from there
pub least_begins : (design : Design) (asked : Asked) (phases : ℕ) (r : Run) → AreApart asked → IsLeastRun design asked phases r → IsLeastRunFrom design asked phases all_unknown r
least_begins design asked phases r apart h =
    let that = least_run_stands_from design asked phases no_value apart (λ b c l. refl) in
    let under : Under r.first no_value = subst (Under r.first) that.1.run.begins (h.least that.0 that.1.run.run).0 in
    record {
      run = record { run = h.run; begins = same_store r.first no_value under (no_value-under r.first) };
      least = λ s k. h.least s k.run;
    }

-- ---- the values of the wires

pub as_many : (a b : List Vector) (widths : List ℕ) → IsValuation widths a → IsValuation widths b → length a ≡ length b
as_many a b widths x y = sym (length-map a (λ (v : Vector). length v)) ∙ ap length (x ∙ sym y) ∙ length-map b (λ (v : Vector). length v)

-- vectors as wide as the wires are those of the bits of a valuation
vectors_are : (wires : List Signal) (values : List Vector) (now : Store) → IsValuation (widths_of wires) values → store_of values ≡ now
    → values ≡ map (λ n. map (now n) (range_with_len 0 (get_or (widths_of wires) n 0))) (range_with_len 0 (length wires))
vectors_are wires values now wide is =
    let long : length values ≡ length wires = sym (length-map values (λ (v : Vector). length v)) ∙ ap length wide ∙ length-map wires (λ (w : Signal). w.width) in
    fill_by_all (λ n. map (now n) (range_with_len 0 (get_or (widths_of wires) n 0))) values (length wires) [] long
    (λ n l. fill_by_all (now n) (get_or values n []) (get_or (widths_of wires) n 0) Unknown
    (sym (get_or-map (λ (v : Vector). length v) values n [] 0 (omega (arith, l, long))) ∙ ap (λ (ws : List ℕ). get_or ws n 0) wide)
    (λ k m. ap (λ (s : Store). s n k) is))

-- behind a phase of the least run the wires have the valuation of that phase
pub wires_are : (flat : Flat) (bound : Bound) (choice : List (List Bit)) (phase : ℕ) (values : List Vector) (design : Design) (r : Run) → IsBound flat.wires bound → IsValuation (widths_of flat.wires) values
    → ((s : Run) → IsLeastRunFrom design (asks_of choice bound) bound.phases all_unknown s → store_of values ≡ behind s (phase + 1)) → IsLeastRun design (asks_of choice bound) bound.phases r
    → values ≡ map (λ n. map (valuation r phase n) (range_with_len 0 (get_or (widths_of flat.wires) n 0))) (range_with_len 0 (length flat.wires))
wires_are flat bound choice phase values design r b wide stands h =
    vectors_are flat.wires values (valuation r phase) wide
    (stands r (least_begins design (asks_of choice bound) bound.phases r (apart flat.wires bound b choice) h) ∙ (let z : phase + 1 ≡ suc phase = omega arith in ap (behind r) z))

-- ---- the samples of the phases before

abbrev pub early : Run → ℕ → Option Sample → ℕ → Bit
early r phase None k = Unknown
early r phase (Some s) k = cond (nat_lt s.phase phase) (valuation r s.phase s.wire k) Unknown

pub none_early : (r : Run) (o : Option Sample) (k : ℕ) → early r 0 o k ≡ Unknown
none_early r None k = refl
none_early r (Some s) k = let t : nat_lt s.phase 0 ≡ false = grind (arith, nat_tests) in ap (λ b. cond b (valuation r s.phase s.wire k) Unknown) t

pub early_more : (r : Run) (phase : ℕ) (o : Option Sample) (now old : Store) (n k : ℕ) → now ≡ behind r (phase + 1) → old n k ≡ early r phase o k → taken_of o phase now old n k ≡ early r (phase + 1) o k
early_more r phase None now old n k e h = h
early_more r phase (Some s) now old n k e h =
    elim (cases_Bool (eqb s.phase phase)) as (λ _. taken_of (Some s) phase now old n k ≡ early r (phase + 1) (Some s) k) [
      | inl t ↦ let q : s.phase ≡ phase = grind (arith, nat_tests, t) in
          let u : nat_lt s.phase (phase + 1) ≡ true = grind (arith, nat_tests, q) in
          let here : behind r (phase + 1) ≡ valuation r s.phase = (let z : phase + 1 ≡ suc s.phase = omega (arith, q) in ap (behind r) z) in
          ap (λ b. cond b (now s.wire k) (old n k)) t
          ∙ ap (λ (st : Store). st s.wire k) (e ∙ here)
          ∙ sym (ap (λ b. cond b (valuation r s.phase s.wire k) Unknown) u)
      | inr t ↦ ap (λ b. cond b (now s.wire k) (old n k)) t ∙ h ∙ ap (λ b. cond b (valuation r s.phase s.wire k) Unknown) (side (nat_lt s.phase phase) refl (λ z. let y : eqb s.phase phase ≡ true = grind (arith, nat_tests, z) in let x : true ≡ false = sym y ∙ t in cc))
    ]
  where
    side : (b : Bool) → nat_lt s.phase phase ≡ b → (s.phase ≡ phase → ⊥) → nat_lt s.phase phase ≡ nat_lt s.phase (phase + 1)
    side true q ne = let l : s.phase < phase = grind (arith, nat_tests, q) in let u : nat_lt s.phase (phase + 1) ≡ true = grind (arith, nat_tests, l) in q ∙ sym u
    side false q ne = let l : phase ≤ s.phase = grind (arith, nat_tests, q) in let u : nat_lt s.phase (phase + 1) ≡ false = grind (arith, nat_tests, l, ne) in q ∙ sym u

pub early_all : (phases phase : ℕ) (r : Run) (o : Option Sample) (k : ℕ) → length r.later ≡ phases → phases ≤ phase → early r phase o k ≡ sampled r o k
early_all phases phase r None k long l = refl
early_all phases phase r (Some s) k long l = go (nat_lt s.phase phase) refl
  where
    go : (b : Bool) → nat_lt s.phase phase ≡ b → early r phase (Some s) k ≡ sampled r (Some s) k
    go true e = ap (λ b. cond b (valuation r s.phase s.wire k) Unknown) e
    go false e = let q : phase ≤ s.phase = grind (arith, nat_tests, e) in
        ap (λ b. cond b (valuation r s.phase s.wire k) Unknown) e ∙ ap (λ (st : Store). st s.wire k) (sym (get_or_past r.later s.phase no_value (omega (arith, long, l, q))))
