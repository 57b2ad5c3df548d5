-- Knots become one, and a dependence was looked at.
use Rattle.std.proofs.Common.{◌-◌, ◌≡◌, ◌≢◌, ◌⊎◌, ℕ, ◌+◌, ◌<◌, ◌≤◌, List, length, get_or, set, take, sym, ap, ◌∙◌, subst, inl, inr, arith}
use Rattle.std.proofs.lemmas.Bool.{cases_eq, cases_lt}
use Rattle.std.proofs.lemmas.List.{length-set, get_or-take, get_or-set_same, get_or-set_other, get_or_past}
use Rattle.dep_groups.specs.declared.finder.Stage.{Stage}
use Rattle.dep_groups.specs.declared.finder.Stage.TheVariants.{Unseen, Waits, Grouped}
use Rattle.dep_groups.specs.Groups.{row, item, Chain}
use Rattle.dep_groups.specs.Searches.{State, stage_at, Together, LeadsOn, Rise, AreWaiting, IsSearch, Unites, HasFirst}
use Rattle.dep_groups.proofs.Chaining.{chains, unseen-waits, waits-same}

-- a front of positions
pub front-at : (l m : List ℕ) (c : ℕ) → m ≡ take (length m) l → c < length m → get_or m c 0 ≡ get_or l c 0
front-at l m c e lt = ap (λ x. get_or x c 0) e ∙ get_or-take (length m) l c 0 lt

pub rise-front : (l m : List ℕ) (n : ℕ) → m ≡ take (length m) l → length m ≤ length l → Rise l n → Rise m n
rise-front l m n e few h = record {
  below = λ a lt. omega (arith, h.below a (omega (arith, lt, few)), front-at l m a e lt);
  rising = λ a b less lt. omega (arith, h.rising a b less (omega (arith, lt, few)), front-at l m a e (omega (arith, less, lt)), front-at l m b e lt);
}

pub unites-of : (at : ℕ) (l m : List ℕ) → HasFirst l → m ≡ take (length m) l → 0 < length m → length m ≤ length l
    → ((c : ℕ) → length m ≤ c → c < length l → at < get_or l c 0) → get_or m (length m - 1) 0 ≤ at → Unites at l m
unites-of at l m h front some fewer dropped last = record {
  front = front;
  some = some;
  fewer = fewer;
  kept = λ c lt.
      let top = front-at l m (length m - 1) front (omega (arith, some)) in
      elim (cases_eq c (length m - 1)) [
        | inl is ↦ let e : get_or l c 0 ≡ get_or l (length m - 1) 0 = ap (λ i. get_or l i 0) is in omega (arith, e, top, last)
        | inr ne ↦ omega (arith, h.rising c (length m - 1) (omega (arith, lt, ne)) (omega (arith, some, fewer)), top, last)
      ];
  dropped = dropped;
}

pub leads-fewer : (l m : List ℕ) (p : ℕ) (s : Stage) → m ≡ take (length m) l → length m ≤ length l → LeadsOn l p s → LeadsOn m p s
leads-fewer l m p Unseen e few h = absurd h
leads-fewer l m p (Waits q) e few h = λ c lt le.
    let same = front-at l m c e lt in
    omega (arith, same, h c (omega (arith, lt, few)) (omega (arith, same, le)))
leads-fewer l m p (Grouped g) e few h = tt

module _ (all : List (List ℕ)) (s : State) (m : List ℕ) (from at : ℕ) (h : AreWaiting all s) (u : Unites at s.starts m) (within : from < length s.waiting) (there : at < length s.waiting)
    (last : (c : ℕ) → c < length s.starts → get_or s.starts c 0 ≤ from) (leads : Chain all (get_or s.waiting from 0) (get_or s.waiting at 0)) where
  -- a start is kept, or stands behind the place to which the dependence leads
  kept-or : (c : ℕ) → c < length s.starts → ((c < length m) × ((get_or m c 0 ≡ get_or s.starts c 0) × (get_or s.starts c 0 ≤ at))) ⊎ (at < get_or s.starts c 0)
  kept-or c lt = elim (cases_lt c (length m)) [
    | inl kept ↦ inl (kept, (front-at s.starts m c u.front kept, u.kept c kept))
    | inr gone ↦ inr (u.dropped c gone lt)
  ]

  near : (p q : ℕ) → q ≤ at → Together m p q → Together s.starts p q
  near p q le one c lt less = elim (kept-or c lt) [
    | inl k ↦ omega (arith, k.1.0, one c k.0 (omega (arith, less, k.1.0)))
    | inr gone ↦ omega (arith, gone, le)
  ]

  -- no start stands behind a position and up to that place, if none that was kept does up to one behind it
  up-to : (p q : ℕ) → at < q → Together m p q → Together s.starts p at
  up-to p q less one c lt above = elim (kept-or c lt) [
    | inl k ↦ absurd (omega (arith, k.1.0, k.1.1, less, one c k.0 (omega (arith, above, k.1.0))))
    | inr gone ↦ gone
  ]

  -- each place reaches the one from which the dependence leads
  to-from : (q : ℕ) → q < length s.waiting → Chain all (get_or s.waiting q 0) (get_or s.waiting from 0)
  to-from q lt = elim (cases_lt from q) [
    | inl behind ↦ h.back from q (omega (arith, behind)) lt (λ c cl less. absurd (omega (arith, last c cl, less)))
    | inr ahead ↦ h.ahead q from ahead within
  ]

  from-there : (p q : ℕ) → at < q → Together m p q → Chain all (get_or s.waiting at 0) (get_or s.waiting p 0) ⊎ (length s.waiting ≤ p)
  from-there p q less one = elim (cases_lt p at) [
    | inl before ↦ inl (h.back p at (omega (arith, before)) there (up-to p q less one))
    | inr behind ↦ elim (cases_lt p (length s.waiting)) [
      | inl pl ↦ inl (h.ahead at p behind pl)
      | inr past ↦ inr past
    ]
  ]

  back-united : (p q : ℕ) → p ≤ q → q < length s.waiting → Together m p q → Chain all (get_or s.waiting q 0) (get_or s.waiting p 0)
  back-united p q le lt one = elim (cases_lt at q) [
    | inl less ↦ elim (from-there p q less one) [
      | inl c ↦ chains all (get_or s.waiting q 0) (get_or s.waiting at 0) (get_or s.waiting p 0) (chains all (get_or s.waiting q 0) (get_or s.waiting from 0) (get_or s.waiting at 0) (to-from q lt) leads) c
      | inr past ↦ absurd (omega (arith, past, le, lt))
    ]
    | inr before ↦ h.back p q le lt (near p q before one)
  ]

  waits-united : AreWaiting all (record s { starts = m })
  waits-united = record {
    stage = h.stage;
    place = h.place;
    ahead = h.ahead;
    back = back-united;
    looked = λ p k lt le kl item_there. leads-fewer s.starts m p (stage_at s (item all (get_or s.waiting p 0) k)) u.front u.fewer (h.looked p k lt le kl item_there);
    done = h.done;
    first = λ some. (u.some, front-at s.starts m 0 u.front u.some ∙ (h.first some).1);
    starts = rise-front s.starts m (length s.waiting) u.front u.fewer h.starts;
    pending = h.pending;
  }

pub united : (all : List (List ℕ)) (s : State) (m : List ℕ) (from at : ℕ) → IsSearch all s → Unites at s.starts m → from < length s.waiting → at < length s.waiting
    → ((c : ℕ) → c < length s.starts → get_or s.starts c 0 ≤ from) → Chain all (get_or s.waiting from 0) (get_or s.waiting at 0) → IsSearch all (record s { starts = m })
united all s m from at h u within there last leads = record {
  rows = record { stages = h.rows.stages; lefts = h.rows.lefts; fits = h.rows.fits; fresh = h.rows.fresh };
  waits = waits-united all s m from at h.waits u within there last leads;
  found = record { some = h.found.some; members = h.found.members; grouped = h.found.grouped; distinct = h.found.distinct; loops = h.found.loops; earlier = h.found.earlier };
}

-- ---- a dependence was looked at

module _ (all : List (List ℕ)) (s : State) (at e : ℕ) (h : IsSearch all s) (within : at < length s.waiting) (is : get_or s.left (get_or s.waiting at 0) 0 ≡ e + 1)
    (leads : item all (get_or s.waiting at 0) e < length all → LeadsOn s.starts at (stage_at s (item all (get_or s.waiting at 0) e))) where
  pub looked-on : IsSearch all (record s { left = set s.left (get_or s.waiting at 0) e })
  looked-on = record {
    rows = record {
      stages = h.rows.stages;
      lefts = length-set s.left (get_or s.waiting at 0) e ∙ h.rows.lefts;
      fits = λ k. elim (left-or k) [
        | inl same ↦ let m = h.rows.fits (get_or s.waiting at 0) in
            subst (λ j. get_or (set s.left (get_or s.waiting at 0) e) k 0 ≤ length (row all j)) (sym same.0) (omega (arith, same.1, is, m))
        | inr other ↦ let m = h.rows.fits k in omega (arith, other.1, m)
      ];
      fresh = λ k un. elim (left-or k) [
        | inl same ↦ unseen-waits _ _ un (ap (λ j. get_or s.stages j Unseen) same.0 ∙ h.waits.stage at within)
        | inr other ↦ other.1 ∙ h.rows.fresh k un
      ];
    };
    waits = record {
      stage = h.waits.stage;
      place = h.waits.place;
      ahead = h.waits.ahead;
      back = h.waits.back;
      looked = λ p k lt le kl there. elim (left-or (get_or s.waiting p 0)) [
        | inl same ↦ elim (cases_eq k e) [
          | inl this ↦
              let here : p ≡ at = position p lt same.0 in
              subst (λ i. LeadsOn s.starts i (stage_at s (item all (get_or s.waiting i 0) k))) (sym here)
              (subst (λ j. LeadsOn s.starts at (stage_at s (item all (get_or s.waiting at 0) j))) (sym this)
              (leads (subst (λ j. item all (get_or s.waiting at 0) j < length all) this (subst (λ i. item all (get_or s.waiting i 0) k < length all) here there))))
          | inr more ↦ h.waits.looked p k lt (let was : get_or s.left (get_or s.waiting p 0) 0 ≡ e + 1 = ap (λ j. get_or s.left j 0) same.0 ∙ is in omega (arith, was, le, same.1, more)) kl there
        ]
        | inr other ↦ h.waits.looked p k lt (omega (arith, other.1, le)) kl there
      ];
      done = λ p lt. elim (h.waits.done p lt) [
        | inl has ↦ inl has
        | inr zero_left ↦ elim (left-or (get_or s.waiting p 0)) [
          | inl same ↦ absurd (let was : get_or s.left (get_or s.waiting p 0) 0 ≡ e + 1 = ap (λ j. get_or s.left j 0) same.0 ∙ is in omega (arith, was, zero_left))
          | inr other ↦ inr (other.1 ∙ zero_left)
        ]
      ];
      first = h.waits.first;
      starts = h.waits.starts;
      pending = h.waits.pending;
    };
    found = record { some = h.found.some; members = h.found.members; grouped = h.found.grouped; distinct = h.found.distinct; loops = h.found.loops; earlier = h.found.earlier };
  }
    where
      inside : get_or s.waiting at 0 < length s.left
      inside = elim (cases_lt (get_or s.waiting at 0) (length s.left)) [
        | inl lt ↦ lt
        | inr past ↦ absurd (omega (arith, is, get_or_past s.left (get_or s.waiting at 0) 0 past))
      ]

      left-or : (k : ℕ) → ((k ≡ get_or s.waiting at 0) × (get_or (set s.left (get_or s.waiting at 0) e) k 0 ≡ e)) ⊎ ((k ≢ get_or s.waiting at 0) × (get_or (set s.left (get_or s.waiting at 0) e) k 0 ≡ get_or s.left k 0))
      left-or k = elim (cases_eq k (get_or s.waiting at 0)) [
        | inl same ↦ inl (same, ap (λ j. get_or (set s.left (get_or s.waiting at 0) e) j 0) same ∙ get_or-set_same s.left (get_or s.waiting at 0) e 0 inside)
        | inr ne ↦ inr (ne, get_or-set_other s.left (get_or s.waiting at 0) k e 0 ne)
      ]

      position : (p : ℕ) → p < length s.waiting → get_or s.waiting p 0 ≡ get_or s.waiting at 0 → p ≡ at
      position p lt same = waits-same _ _ _ (h.waits.stage p lt) (ap (λ j. get_or s.stages j Unseen) same ∙ h.waits.stage at within)
