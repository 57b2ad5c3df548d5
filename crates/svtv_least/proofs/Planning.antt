-- Plans that grow phase by phase, and settlers that are used.
use Rattle.std.proofs.Common.{◌≡◌, ◌≢◌, ◌↔◌, ℕ, zero, suc, ◌+◌, ◌<◌, ◌≤◌, eqb, Bool, true, false, ◌&&◌, ◌||◌, List, [], ◌∷◌, ◌++◌, length, map, get_or, slice_set, Option, Some, None, IsTrue, inl, inr, refl, sym, ap, ◌∙◌, subst, arith}
use Rattle.std.specs.Prelude.{All, is_some, nat_lt}
use Rattle.std.specs.List.{Contains}
use Rattle.std.proofs.lemmas.List.{get_or-map, get_or_append_left, map-append, length-map, length-append}
use Rattle.std.proofs.Math.Seq.{map-set_same, get_or-append_seam}
use Rattle.std.proofs.lemmas.List.Elements.{All-append, All-set, All-nil, All-cons}
use Rattle.std.proofs.lemmas.List.Folds.{list_any_at}
use Rattle.std.proofs.lemmas.Bool.{cases_Bool}
use Rattle.std.proofs.lemmas.Bool.Decides.{nat_tests}
use Rattle.fourvec.specs.declared.Bit.{Bit}
use Rattle.driver_resolve.specs.Drivers.{has_wire}
use Rattle.flat_net.specs.declared.flat.Flat.{Flat}
use Rattle.event_sim.specs.Sims.{Fits}
use Rattle.svtv_table.specs.declared.bound.Drive.{Drive}
use Rattle.svtv_table.specs.Overs.{is_overridden_at}
use Rattle.svtv_table.specs.Stimuli.{setting_value, settings_in}
use Rattle.svtv_runs.specs.Runs.{set_if, set_rows}
use Rattle.svtv_least.specs.declared.settlers.Plan.{Plan}
use Rattle.svtv_least.specs.declared.settlers.Settler.{Settler}
use Rattle.svtv_least.specs.Running.{HaveOwnWires, AreFit, AreSet, IsFound, IsPlan, LacksSettler, over_of}

-- ---- settlers

pub over_at : (settlers : List Settler) (place : ℕ) (s : Settler) → place < length settlers → s ≡ get_or settlers place s → over_of settlers place ≡ s.over
over_at settlers place s l e = get_or-map (λ (x : Settler). x.over) settlers place s [] l ∙ ap (λ (x : Settler). x.over) (sym e)

pub settler_fits : (flat : Flat) (settlers : List Settler) (place : ℕ) (s : Settler) → AreFit flat settlers → place < length settlers → s ≡ get_or settlers place s → Fits flat s.over s.sim
settler_fits flat settlers place s h l e = subst (λ (x : Settler). Fits flat x.over x.sim) (sym e) (h place s l)

over_before : (settlers : List Settler) (s : Settler) (k : ℕ) → k < length settlers → over_of (settlers ++ s ∷ []) k ≡ over_of settlers k
over_before settlers s k l =
    ap (λ (lists : List (List ℕ)). get_or lists k []) (map-append (λ (x : Settler). x.over) settlers (s ∷ []))
    ∙ get_or_append_left (map (λ (x : Settler). x.over) settlers) (s.over ∷ []) [] k (omega (arith, l, length-map settlers (λ (x : Settler). x.over)))

over_last : (settlers : List Settler) (s : Settler) (k : ℕ) → k ≡ length settlers → over_of (settlers ++ s ∷ []) k ≡ s.over
over_last settlers s k e =
    ap (λ (lists : List (List ℕ)). get_or lists k []) (map-append (λ (x : Settler). x.over) settlers (s ∷ []))
    ∙ ap (λ n. get_or (map (λ (x : Settler). x.over) settlers ++ s.over ∷ []) n []) (e ∙ sym (length-map settlers (λ (x : Settler). x.over)))
    ∙ get_or-append_seam (map (λ (x : Settler). x.over) settlers) s.over [] []

-- one of other wires behind them
pub apart_more : (settlers : List Settler) (s : Settler) → HaveOwnWires settlers → LacksSettler settlers s.over → HaveOwnWires (settlers ++ s ∷ [])
apart_more settlers s h none i j l m e = go (nat_lt i n) (nat_lt j n) refl refl
  where
    n : ℕ
    n = length settlers

    before : (k : ℕ) → nat_lt k n ≡ true → k < n
    before k t = grind (arith, nat_tests, t)

    last : (k : ℕ) → k < length (settlers ++ s ∷ []) → nat_lt k n ≡ false → k ≡ n
    last k q t = let a : n ≤ k = grind (arith, nat_tests, t) in omega (arith, a, q, length-append settlers (s ∷ []))

    go : (a b : Bool) → nat_lt i n ≡ a → nat_lt j n ≡ b → i ≡ j
    go true true t u = h i j (before i t) (before j u) (sym (over_before settlers s i (before i t)) ∙ e ∙ over_before settlers s j (before j u))
    go true false t u = absurd (none i (before i t) (sym (over_before settlers s i (before i t)) ∙ e ∙ over_last settlers s j (last j m u)))
    go false true t u = absurd (none j (before j u) (sym (over_before settlers s j (before j u)) ∙ sym e ∙ over_last settlers s i (last i l t)))
    go false false t u = last i l t ∙ sym (last j m u)

-- one more was looked at, which is of other wires
pub none_more : (settlers : List Settler) (over : List ℕ) (place : ℕ) → ((k : ℕ) → k < place → over_of settlers k ≢ over) → over_of settlers place ≢ over → (k : ℕ) → k < place + 1 → over_of settlers k ≢ over
none_more settlers over place h ne k l e = elim (cases_Bool (eqb k place)) as (λ _. ⊥) [
  | inl t ↦ let q : k ≡ place = grind (arith, nat_tests, t) in ne (ap (over_of settlers) (sym q) ∙ e)
  | inr t ↦ let m : k < place = (let other : k ≡ place → ⊥ = (λ z. let y : eqb k place ≡ true = grind (arith, nat_tests, z) in let x : true ≡ false = sym y ∙ t in cc) in grind (arith, l, other)) in h k m e
]

pub fit_more : (flat : Flat) (settlers : List Settler) (s : Settler) → AreFit flat settlers → Fits flat s.over s.sim → AreFit flat (settlers ++ s ∷ [])
fit_more flat settlers s h f =
    let Fit : Settler → Type 0 = λ x. Fits flat x.over x.sim in
    All-append Fit settlers (s ∷ []) h (All-cons Fit s [] f (All-nil Fit))

-- ---- plans

-- a phase more, behind those that have their settlers
pub plan_more : (flat : Flat) (overs : List (ℕ × List (Option Drive))) (old new : Plan) (over : List ℕ) (place phases : ℕ) → IsPlan flat overs old phases → AreFit flat new.settlers.items → HaveOwnWires new.settlers.items → IsFound old.settlers.items new.settlers.items over place
    → new.of_phase.items ≡ old.of_phase.items ++ place ∷ [] → AreSet over overs phases → IsPlan flat overs new (phases + 1)
plan_more flat overs old new over place phases h fit own found e set = record {
  fit = fit;
  apart = own;
  long = ap (λ (z : List ℕ). length z) e ∙ omega (arith, length-append places (place ∷ []), h.long);
  there = subst (λ (z : List ℕ). All (λ k. k < length now) z) (sym e)
      (All-append (λ k. k < length now) places (place ∷ []) (λ i d l. let is = h.there i d l in omega (arith, is, found.more)) (All-cons (λ k. k < length now) place [] found.there (All-nil (λ k. k < length now))));
  wires = λ phase l n. elim (cases_Bool (eqb phase phases)) as (λ _. has_wire (over_of now (get_or new.of_phase.items phase 0)) n ≡ is_overridden_at overs phase n) [
    | inl t ↦ let q : phase ≡ phases = grind (arith, nat_tests, t) in
        ap (λ k. has_wire (over_of now k) n) (ap (λ (z : List ℕ). get_or z phase 0) e ∙ ap (λ k. get_or (places ++ place ∷ []) k 0) (q ∙ sym h.long) ∙ get_or-append_seam places place [] 0)
        ∙ ap (λ (z : List ℕ). has_wire z n) found.wires
        ∙ set n
        ∙ ap (λ k. is_overridden_at overs k n) (sym q)
    | inr t ↦ let m : phase < phases = (let ne : phase ≡ phases → ⊥ = (λ z. let y : eqb phase phases ≡ true = grind (arith, nat_tests, z) in let x : true ≡ false = sym y ∙ t in cc) in grind (arith, l, ne)) in
        ap (λ k. has_wire (over_of now k) n) (ap (λ (z : List ℕ). get_or z phase 0) e ∙ get_or_append_left places (place ∷ []) 0 phase (omega (arith, m, h.long)))
        ∙ ap (λ (z : List ℕ). has_wire z n) (found.stay (get_or places phase 0) (h.there phase 0 (omega (arith, m, h.long))))
        ∙ h.wires phase m n
  ];
}
  where
    places : List ℕ
    places = old.of_phase.items

    now : List Settler
    now = new.settlers.items

-- a settler that is used keeps its wires
pub plan_used : (flat : Flat) (overs : List (ℕ × List (Option Drive))) (old new : Plan) (place phases : ℕ) (s : Settler) → IsPlan flat overs old phases → new.settlers.items ≡ slice_set old.settlers.items place s → new.of_phase.items ≡ old.of_phase.items
    → s.over ≡ (get_or old.settlers.items place s).over → Fits flat s.over s.sim → IsPlan flat overs new phases
plan_used flat overs old new place phases s h is same own fits =
    let over : Settler → List ℕ = λ x. x.over in
    let kept : map over new.settlers.items ≡ map over old.settlers.items = ap (map over) is ∙ map-set_same over old.settlers.items place s s own in
    let long : length new.settlers.items ≡ length old.settlers.items = sym (length-map new.settlers.items over) ∙ ap (λ (z : List (List ℕ)). length z) kept ∙ length-map old.settlers.items over in
    record {
      fit = subst (λ (z : List Settler). AreFit flat z) (sym is) (All-set (λ x. Fits flat x.over x.sim) old.settlers.items place s fits h.fit);
      apart = λ i j l m e. let same_over : (k : ℕ) → over_of new.settlers.items k ≡ over_of old.settlers.items k = (λ k. ap (λ (z : List (List ℕ)). get_or z k []) kept) in
          h.apart i j (omega (arith, l, long)) (omega (arith, m, long)) (sym (same_over i) ∙ e ∙ same_over j);
      long = ap (λ (z : List ℕ). length z) same ∙ h.long;
      there = subst (λ (z : List ℕ). All (λ k. k < length new.settlers.items) z) (sym same) (λ i d l. let t = h.there i d l in omega (arith, t, long));
      wires = λ phase l n.
          ap (λ k. has_wire (over_of new.settlers.items k) n) (ap (λ (z : List ℕ). get_or z phase 0) same)
          ∙ ap (λ (z : List (List ℕ)). has_wire (get_or z (get_or old.of_phase.items phase 0) []) n) kept
          ∙ h.wires phase l n;
    }

-- ---- the wires of a phase

-- two truths that follow from each other
agree : (a b : Bool) → (a ≡ true → b ≡ true) → (b ≡ true → a ≡ true) → a ≡ b
agree true true f g = refl
agree true false f g = sym (f refl)
agree false true f g = g refl
agree false false f g = refl

has_from : (over : List ℕ) (n : ℕ) → Contains over n → has_wire over n ≡ true
has_from over n h = list_any_at (λ k. eqb k n) over h.0 n h.1 (let e : get_or over h.0 n ≡ n = h.2 in grind (arith, nat_tests, e))

contains_from : (over : List ℕ) (n : ℕ) → has_wire over n ≡ true → Contains over n
contains_from [] n h = let x : false ≡ true = h in cc
contains_from (k ∷ over) n h = elim (cases_Bool (eqb k n)) as (λ _. Contains (k ∷ over) n) [
  | inl t ↦ (0, omega arith, (let e : k ≡ n = grind (arith, nat_tests, t) in e))
  | inr t ↦ let more = contains_from over n (sym (ap (λ b. b || has_wire over n) t) ∙ h) in (suc more.0, omega (arith, more.1), more.2)
]

pub set_from : (over : List ℕ) (overs : List (ℕ × List (Option Drive))) (phase : ℕ) → ((n : ℕ) → Contains over n ↔ IsTrue (is_overridden_at overs phase n)) → AreSet over overs phase
set_from over overs phase h n = agree (has_wire over n) (is_overridden_at overs phase n)
    (λ e. (h n).0 (contains_from over n e))
    (λ e. has_from over n ((h n).1 e))

setting_at : (choice : List (List Bit)) (cells : List (Option Drive)) (phase : ℕ) → get_or (map (setting_value choice) cells) phase None ≡ setting_value choice (get_or cells phase None)
setting_at choice [] zero = refl
setting_at choice [] (suc phase) = refl
setting_at choice (cell ∷ cells) zero = refl
setting_at choice (cell ∷ cells) (suc phase) = setting_at choice cells phase

and_false : (b : Bool) → (b && false) ≡ false
and_false true = refl
and_false false = refl

and_true : (b : Bool) → (b && true) ≡ b
and_true true = refl
and_true false = refl

-- what a choice gives changes no wire
pub rows_set : (choice : List (List Bit)) (overs : List (ℕ × List (Option Drive))) (phase : ℕ) → AreSet (map (λ a. a.0) (set_rows (settings_in choice overs) phase)) overs phase
rows_set choice [] phase n = refl
rows_set choice (row ∷ overs) phase n =
    ap (λ (o : Option (Option (List Bit))). has_wire (map (λ a. a.0) (set_if row.0 o ++ set_rows (settings_in choice overs) phase)) n) (setting_at choice row.1 phase)
    ∙ first (get_or row.1 phase None) (rows_set choice overs phase n)
  where
    first : (o : Option Drive) → has_wire (map (λ a. a.0) (set_rows (settings_in choice overs) phase)) n ≡ is_overridden_at overs phase n
        → has_wire (map (λ a. a.0) (set_if row.0 (setting_value choice o) ++ set_rows (settings_in choice overs) phase)) n ≡ (((eqb row.0 n) && is_some o) || is_overridden_at overs phase n)
    first None e = e ∙ ap (λ b. b || is_overridden_at overs phase n) (sym (and_false (eqb row.0 n)))
    first (Some d) e = ap (λ b. eqb row.0 n || b) e ∙ ap (λ b. b || is_overridden_at overs phase n) (sym (and_true (eqb row.0 n)))
