-- The least stimulus and the least overriding that a table allows.
use Rattle.std.proofs.Common.{◌≡◌, ℕ, zero, suc, ◌<◌, ◌≤◌, eqb, Bool, true, false, ◌||◌, cond, List, [], ◌∷◌, ◌++◌, map, length, get_or, Option, Some, None, refl, sym, ap, ◌∙◌, subst, arith, IsTrue, inl, inr}
use Rattle.std.specs.Prelude.{nat_lt}
use Rattle.std.specs.List.{All, flat_map}
use Rattle.std.proofs.lemmas.List.{get_or_past}
use Rattle.std.proofs.lemmas.List.Elements.{All-nil, All-cons, All-head, All-tail, All-map, All-from_get_or}
use Rattle.std.proofs.lemmas.Bool.{cases_Bool}
use Rattle.std.proofs.lemmas.Bool.Decides.{nat_tests}
use Rattle.fourvec.specs.declared.Bit.{Bit}
use Rattle.fourvec.specs.declared.Bit.TheVariants.{Unknown}
use Rattle.fourvec.specs.Bits.{bit_below}
use Rattle.settling.specs.Settling.{Store}
use Rattle.settling.specs.Least.{Under}
use Rattle.settling.proofs.Rounds.{below-refl}
use Rattle.sv_meaning.specs.Designs.{Overriding, has_wire, outside}
use Rattle.sv_meaning.specs.Laws.{IsLess}
use Rattle.svtv_runs.specs.Runs.{Asked, Asks, IsDriven, AreDriven, Allows, Overrides, AreApart, stimuli_in, overrides_in, set_if}
use Rattle.svtv_runs.specs.Leasts.{bit_asked, set_over, all_unknown, least_store, least_stimulus, least_overriding}

pub same : (a : ℕ × Option (List Bit)) (more : Asks) (old : Store) (n k : ℕ) → a.0 ≡ n → set_over (a ∷ more) old n k ≡ bit_asked a.1 k
unfolding set_over
same a more old n k e = let t : eqb a.0 n ≡ true = grind (arith, nat_tests, e) in ap (λ b. cond b (bit_asked a.1 k) (set_over more old n k)) t

pub other : (a : ℕ × Option (List Bit)) (more : Asks) (old : Store) (n k : ℕ) → (a.0 ≡ n → ⊥) → set_over (a ∷ more) old n k ≡ set_over more old n k
unfolding set_over
other a more old n k e = let t : eqb a.0 n ≡ false = grind (arith, nat_tests, e) in ap (λ b. cond b (bit_asked a.1 k) (set_over more old n k)) t

-- what comes from outside is what is set, over the stimulus
pub outside_is : (asks : Asks) (stim : Store) (n k : ℕ) → outside stim (record { wires = map (λ a. a.0) asks; values = least_store asks }) n k ≡ set_over asks stim n k
unfolding set_over
outside_is [] stim n k = refl
outside_is (a ∷ more) stim n k = pick (eqb a.0 n) (outside_is more stim n k)
  where
    wires : List ℕ
    wires = map (λ (x : ℕ × Option (List Bit)). x.0) more

    pick : (t : Bool) → cond (has_wire wires n) (least_store more n k) (stim n k) ≡ set_over more stim n k
        → cond (t || has_wire wires n) (cond t (bit_asked a.1 k) (least_store more n k)) (stim n k) ≡ cond t (bit_asked a.1 k) (set_over more stim n k)
    pick true e = refl
    pick false e = e

-- the bits of a driven wire are above those that are asked for
asked_under : (values : Store) (n k : ℕ) (o : Option (List Bit)) → IsDriven values n o → IsTrue (bit_below (bit_asked o k) (values n k))
asked_under values n k None h = refl
asked_under values n k (Some v) h = go (nat_lt k (length v)) refl
  where
    go : (b : Bool) → nat_lt k (length v) ≡ b → IsTrue (bit_below (get_or v k Unknown) (values n k))
    go true e = let l : k < length v = grind (arith, nat_tests, e) in subst (λ x. IsTrue (bit_below x (values n k))) (h k l) (below-refl (values n k))
    go false e = let l : length v ≤ k = grind (arith, nat_tests, e) in subst (λ x. IsTrue (bit_below x (values n k))) (sym (get_or_past v k Unknown l)) refl

-- what is asked for lies below all that has it
pub least_under : (asks : Asks) (values : Store) → AreDriven asks values → Under (least_store asks) values
unfolding set_over
least_under [] values h n k = refl
least_under (a ∷ more) values h n k = elim (cases_Bool (eqb a.0 n)) as (λ _. IsTrue (bit_below (least_store (a ∷ more) n k) (values n k))) [
  | inl t ↦ let e : a.0 ≡ n = grind (arith, nat_tests, t) in
      subst (λ x. IsTrue (bit_below x (values n k))) (sym (same a more all_unknown n k e))
      (subst (λ m. IsTrue (bit_below (bit_asked a.1 k) (values m k))) e (asked_under values a.0 k a.1 (All-head (λ r. IsDriven values r.0 r.1) a more h)))
  | inr t ↦ let e : a.0 ≡ n → ⊥ = (λ z. let y : eqb a.0 n ≡ true = grind (arith, nat_tests, z) in let w : true ≡ false = sym y ∙ t in cc) in
      subst (λ x. IsTrue (bit_below x (values n k))) (sym (other a more all_unknown n k e)) (least_under more values (All-tail (λ r. IsDriven values r.0 r.1) a more h) n k)
]

-- ---- it is allowed

-- no later one is of this wire
abbrev IsNew : ℕ → Asks → Type 0
IsNew n asks = All (λ a. a.0 ≡ n → ⊥) asks

-- no wire stands twice
unfoldable AreOnce : Asks → Type 0
AreOnce [] = Unit {0}
AreOnce (a ∷ more) = IsNew a.0 more × AreOnce more

driven_by : (values : Store) (n : ℕ) (o : Option (List Bit)) → ((k : ℕ) → values n k ≡ bit_asked o k) → IsDriven values n o
driven_by values n None h = tt
driven_by values n (Some v) h = λ k l. h k

-- a wire that keeps its bits is driven as before
kept : (s t : Store) (n : ℕ) (o : Option (List Bit)) → ((k : ℕ) → t n k ≡ s n k) → IsDriven s n o → IsDriven t n o
kept s t n None e h = tt
kept s t n (Some v) e h = λ k l. e k ∙ h k l

-- one more in front changes no other wire
above : (a : ℕ × Option (List Bit)) (more asks : Asks) → IsNew a.0 asks → AreDriven asks (least_store more) → AreDriven asks (least_store (a ∷ more))
above a more [] w h = All-nil (λ r. IsDriven (least_store (a ∷ more)) r.0 r.1)
above a more (x ∷ rest) w h =
    All-cons (λ r. IsDriven (least_store (a ∷ more)) r.0 r.1) x rest
    (kept (least_store more) (least_store (a ∷ more)) x.0 x.1 (λ k. other a more all_unknown x.0 k (λ e. All-head (λ r. r.0 ≡ a.0 → ⊥) x rest w (sym e)))
    (All-head (λ r. IsDriven (least_store more) r.0 r.1) x rest h))
    (above a more rest (All-tail (λ r. r.0 ≡ a.0 → ⊥) x rest w) (All-tail (λ r. IsDriven (least_store more) r.0 r.1) x rest h))

once_driven : (asks : Asks) → AreOnce asks → AreDriven asks (least_store asks)
unfolding AreOnce
once_driven [] h = All-nil (λ r. IsDriven (least_store []) r.0 r.1)
once_driven (a ∷ more) h =
    All-cons (λ r. IsDriven (least_store (a ∷ more)) r.0 r.1) a more (driven_by (least_store (a ∷ more)) a.0 a.1 (λ k. same a more all_unknown a.0 k refl))
    (above a more more h.0 (once_driven more h.1))

-- ---- rows of which no two have one wire

module _ {X : Type 0} where
  unfoldable RowsOnce : List (ℕ × List X) → Type 0
  RowsOnce [] = Unit {0}
  RowsOnce (row ∷ rows) = All (λ r. r.0 ≡ row.0 → ⊥) rows × RowsOnce rows

  abbrev Apart : List (ℕ × List X) → Type 0
  Apart rows = (i j : ℕ) → i < length rows → j < length rows → (get_or rows i (0, [])).0 ≡ (get_or rows j (0, [])).0 → i ≡ j

  apart_tail : (row : ℕ × List X) (rows : List (ℕ × List X)) → Apart (row ∷ rows) → Apart rows
  apart_tail row rows h i j l m e = let a : suc i ≡ suc j = h (suc i) (suc j) (omega arith) (omega arith) e in omega arith

  from_apart : (rows : List (ℕ × List X)) → Apart rows → RowsOnce rows
  unfolding RowsOnce
  from_apart [] h = tt
  from_apart (row ∷ rows) h = (
    All-from_get_or (λ r. r.0 ≡ row.0 → ⊥) rows (0, []) (λ i l e. let z : suc i ≡ 0 = h (suc i) 0 (omega arith) (omega arith) e in absurd (omega arith)),
    from_apart rows (apart_tail row rows h),
  )

stimuli_once : (rows : List (ℕ × List (Option (List Bit)))) (phase : ℕ) → RowsOnce rows → AreOnce (map (λ row. (row.0, get_or row.1 phase None)) rows)
unfolding RowsOnce AreOnce
stimuli_once [] phase h = tt
stimuli_once (row ∷ rows) phase h = (All-map (λ a. a.0 ≡ row.0 → ⊥) (λ r. (r.0, get_or r.1 phase None)) rows h.0, stimuli_once rows phase h.1)

abbrev sets_of : List (ℕ × List (Option (Option (List Bit)))) → ℕ → Asks
sets_of rows phase = flat_map (λ row. set_if row.0 (get_or row.1 phase None)) rows

new_before : (n m : ℕ) (o : Option (Option (List Bit))) (more : Asks) → (m ≡ n → ⊥) → IsNew n more → IsNew n (set_if m o ++ more)
new_before n m None more e h = h
new_before n m (Some v) more e h = All-cons (λ a. a.0 ≡ n → ⊥) (m, v) more e h

settings_new : (n : ℕ) (rows : List (ℕ × List (Option (Option (List Bit))))) (phase : ℕ) → All (λ r. r.0 ≡ n → ⊥) rows → IsNew n (sets_of rows phase)
settings_new n [] phase h = All-nil (λ a. a.0 ≡ n → ⊥)
settings_new n (row ∷ rows) phase h =
    new_before n row.0 (get_or row.1 phase None) (sets_of rows phase) (All-head (λ r. r.0 ≡ n → ⊥) row rows h)
    (settings_new n rows phase (All-tail (λ r. r.0 ≡ n → ⊥) row rows h))

once_before : (m : ℕ) (o : Option (Option (List Bit))) (more : Asks) → IsNew m more → AreOnce more → AreOnce (set_if m o ++ more)
unfolding AreOnce
once_before m None more e h = h
once_before m (Some v) more e h = (e, h)

settings_once : (rows : List (ℕ × List (Option (Option (List Bit))))) (phase : ℕ) → RowsOnce rows → AreOnce (sets_of rows phase)
unfolding RowsOnce AreOnce
settings_once [] phase h = tt
settings_once (row ∷ rows) phase h =
    once_before row.0 (get_or row.1 phase None) (sets_of rows phase) (settings_new row.0 rows phase h.0) (settings_once rows phase h.1)

-- ---- what the definitions ask

pub least_allowed : (asked : Asked) (phase : ℕ) → AreApart asked → Allows asked phase (least_stimulus asked phase)
least_allowed asked phase h = once_driven (stimuli_in asked phase) (stimuli_once asked.stimuli phase (from_apart asked.stimuli h.stimuli))

pub overriding_allowed : (asked : Asked) (phase : ℕ) → AreApart asked → Overrides asked phase (least_overriding asked phase)
overriding_allowed asked phase h = record {
  wires = refl;
  values = once_driven (overrides_in asked phase) (settings_once asked.settings phase (from_apart asked.settings h.settings));
}

pub overriding_less : (asked : Asked) (phase : ℕ) (o : Overriding) → Overrides asked phase o → IsLess (least_overriding asked phase) o
overriding_less asked phase o h = record { wires = sym h.wires; values = least_under (overrides_in asked phase) o.values h.values }
