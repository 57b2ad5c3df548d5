-- The set of one phase more.
use Rattle.std.proofs.Common.{◌≡◌, ◌≢◌, ◌↔◌, ℕ, ◌+◌, ◌<◌, List, [], ◌∷◌, ◌++◌, length, refl, sym, ap, ◌∙◌, subst, inl, inr, arith}
use Rattle.std.specs.Prelude.{IsTrue, Option}
use Rattle.std.specs.List.{All, AllPairs, Contains}
use Rattle.std.proofs.lemmas.Bool.{cases_lt}
use Rattle.std.proofs.lemmas.List.{get_or_append_left, get_or_default, get_or_push, length_push}
use Rattle.std.proofs.lemmas.List.Elements.{All-push, All-weaker}
use Rattle.std.proofs.lemmas.List.Quantifiers.{all_pairs_push}
use Rattle.driver_resolve.specs.Drivers.{has_wire}
use Rattle.phase_fsm.specs.Machines.{row_of}
use Rattle.svtv_table.specs.declared.bound.Drive.{Drive}
use Rattle.svtv_table.specs.Overs.{is_overridden_at, IsAscending}
use Rattle.svtv_unroll.specs.Unrolled.{AreSet, HasSet}
use Rattle.svtv_unroll.proofs.Choosing.{set_is, same_ascending}
use Rattle.svtv_machine.specs.Sets.{HasMore, IsOfPhase, AreByFirstPhase}

module _ (overs : List (ℕ × List (Option Drive))) (phase : ℕ) (old new : List (List ℕ)) (over : List ℕ) (more : HasMore old over new) where
  -- the set of a phase is still among them
  set-kept : (k : ℕ) → HasSet old overs k → HasSet new overs k
  set-kept k h = elim more as (λ _. HasSet new overs k) [
    | inl m ↦ subst (λ (sets : List (List ℕ)). HasSet sets overs k) (sym m.1) h
    | inr m ↦ subst (λ (sets : List (List ℕ)). HasSet sets overs k) (sym m.1)
        (let same : row_of (old ++ over ∷ []) h.place ≡ row_of old h.place = get_or_append_left old (over ∷ []) [] h.place h.there in
        let there = h.there in
        record {
          place = h.place;
          there = omega (arith, there, length_push old over);
          wires = λ n. ap (λ r. has_wire r n) same ∙ h.wires n;
          ascending = subst IsAscending (sym same) h.ascending;
        })
  ]

  -- no set stands twice
  pub once_more : AllPairs ◌≢◌ old → AllPairs ◌≢◌ new
  once_more h = elim more as (λ _. AllPairs ◌≢◌ new) [
    | inl m ↦ subst (AllPairs ◌≢◌) (sym m.1) h
    | inr m ↦ subst (AllPairs ◌≢◌) (sym m.1) (all_pairs_push ◌≢◌ old over h (λ k d l e. m.0 (k, l, get_or_default old k over d l ∙ e)))
  ]

  module _ (up : IsAscending over) (is : (n : ℕ) → Contains over n ↔ IsTrue (is_overridden_at overs phase n)) where
    set-at : (place : ℕ) → place < length new → row_of new place ≡ over → HasSet new overs phase
    set-at place there same = record { place = place; there = there; wires = set_is new overs phase over place is same; ascending = subst IsAscending (sym same) up }

    set-new : HasSet new overs phase
    set-new = elim more as (λ _. HasSet new overs phase) [
      | inl m ↦
          let at = m.0 in
          let there = at.1 in
          set-at at.0 (omega (arith, there, ap (λ (sets : List (List ℕ)). length sets) m.1))
          (ap (λ (sets : List (List ℕ)). row_of sets at.0) m.1 ∙ get_or_default old at.0 [] over there ∙ at.2)
      | inr m ↦
          set-at (length old) (omega (arith, ap (λ (sets : List (List ℕ)). length sets) m.1, length_push old over))
          (ap (λ (sets : List (List ℕ)). row_of sets (length old)) m.1 ∙ get_or_push old over [] (length old) refl)
    ]

    -- each phase so far has its set among them
    pub all_more : ((k : ℕ) → k < phase → HasSet old overs k) → (k : ℕ) → k < phase + 1 → HasSet new overs k
    all_more h k l = elim (cases_lt k phase) as (λ _. HasSet new overs k) [
      | inl before ↦ set-kept k (h k before)
      | inr behind ↦ let here : phase ≡ k = omega (arith, l, behind) in subst (λ j. HasSet new overs j) here set-new
    ]

    -- and there are no others
    pub only_more : All (IsOfPhase overs phase) old → All (IsOfPhase overs (phase + 1)) new
    only_more h =
        let P : List ℕ → Type 0 = IsOfPhase overs (phase + 1) in
        let before : All P old =
        All-weaker (IsOfPhase overs phase) P (λ o p. let below = p.below in record { phase = p.phase; below = omega (arith, below); wires = p.wires; ascending = p.ascending }) old h in
        elim more as (λ _. All P new) [
          | inl m ↦ subst (All P) (sym m.1) before
          | inr m ↦ subst (All P) (sym m.1) (All-push P old over before (record { phase = phase; below = omega arith; wires = set_is (over ∷ []) overs phase over 0 is refl; ascending = up }))
        ]

    -- the sets so far, with one phase more
    order-old : All (IsOfPhase overs phase) old → AreByFirstPhase overs phase old → AreByFirstPhase overs (phase + 1) old
    order-old only order s t lt tl k kl wires = elim (cases_lt k phase) [
      | inl before ↦ order s t lt tl k before wires
      | inr behind ↦
          let p = only t [] tl in
          let e = order s t lt tl p.phase p.below p.wires in
          let below = p.below in
          (e.0, omega (arith, e.1, below, behind), e.2)
    ]

    -- the set of the phase, behind those of the phases before
    order-push : (Contains old over → ⊥) → ((k : ℕ) → k < phase → HasSet old overs k) → All (IsOfPhase overs phase) old → AreByFirstPhase overs phase old → AreByFirstPhase overs (phase + 1) (old ++ over ∷ [])
    order-push fresh all only order s t lt tl k kl wires = elim (cases_lt t (length old)) [
      | inl inside ↦
          let e = order-old only order s t lt inside k kl (subst (λ r. AreSet r overs k) (front t inside) wires) in
          (e.0, e.1, subst (λ r. AreSet r overs e.0) (sym (front s (omega (arith, lt, inside)))) e.2)
      | inr end ↦
          let last : t ≡ length old = omega (arith, end, tl, length_push old over) in
          let sl : s < length old = omega (arith, lt, last) in
          let own : AreSet over overs k = subst (λ r. AreSet r overs k) (get_or_push old over [] t (sym last)) wires in
          elim (cases_lt k phase) [
            | inl before ↦
                let h = all k before in
                let same : row_of old h.place ≡ over = same_ascending (row_of old h.place) over h.ascending up (λ n. h.wires n ∙ sym (own n)) in
                absurd (fresh (h.place, h.there, get_or_default old h.place over [] h.there ∙ same))
            | inr here ↦
                let p = only s [] sl in
                let below = p.below in
                (p.phase, omega (arith, below, here), subst (λ r. AreSet r overs p.phase) (sym (front s sl)) p.wires)
          ]
    ]
      where
        front : (i : ℕ) → i < length old → row_of (old ++ over ∷ []) i ≡ row_of old i
        front i lt = get_or_append_left old (over ∷ []) [] i lt

    -- the sets stand in the order of first phases
    pub order_more : ((k : ℕ) → k < phase → HasSet old overs k) → All (IsOfPhase overs phase) old → AreByFirstPhase overs phase old → AreByFirstPhase overs (phase + 1) new
    order_more all only order = elim more as (λ _. AreByFirstPhase overs (phase + 1) new) [
      | inl m ↦ subst (AreByFirstPhase overs (phase + 1)) (sym m.1) (order-old only order)
      | inr m ↦ subst (AreByFirstPhase overs (phase + 1)) (sym m.1) (order-push m.0 all only order)
    ]
