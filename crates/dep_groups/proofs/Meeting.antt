-- A place is met.
use Rattle.std.proofs.Common.{◌≡◌, ◌≢◌, ◌⊎◌, ℕ, ◌+◌, ◌<◌, ◌≤◌, List, [], ◌∷◌, ◌++◌, length, get_or, set, refl, sym, ap, ◌∙◌, subst, inl, inr, arith}
use Rattle.std.proofs.lemmas.Bool.{cases_lt}
use Rattle.std.proofs.lemmas.List.{length-set, length_push}
use Rattle.dep_groups.specs.declared.finder.Stage.{Stage}
use Rattle.dep_groups.specs.declared.finder.Stage.TheVariants.{Unseen, Waits, Grouped}
use Rattle.dep_groups.specs.Groups.{row, item, Chain}
use Rattle.dep_groups.specs.Groups.Chain.{none}
use Rattle.dep_groups.specs.Searches.{State, stage_at, Together, LeadsOn, HasItem, Rise, AreLeft, AreWaiting, AreFound, IsSearch, meeting}
use Rattle.dep_groups.proofs.Chaining.{pushed, pushed-old, pushed-last, changed, changed-other, unseen-waits, unseen-grouped, waits-grouped, waits-same}

-- one position more, behind all others
pub rise-more : (l : List ℕ) (n : ℕ) → Rise l n → Rise (l ++ n ∷ []) (n + 1)
rise-more l n h = record {
  below = λ a lt. elim (pushed l n a lt) [
    | inl old ↦ omega (arith, h.below a old.0, old.1)
    | inr last ↦ omega (arith, last.1)
  ];
  rising = λ a b less lt. elim (pushed l n b lt) [
    | inl old ↦ omega (arith, h.rising a b less old.0, old.1, pushed-old l n a (omega (arith, less, old.0)))
    | inr last ↦ let in_l : a < length l = omega (arith, less, last.0) in omega (arith, h.below a in_l, pushed-old l n a in_l, last.1)
  ];
}

has-more : (l : List ℕ) (x p : ℕ) → HasItem l p → HasItem (l ++ x ∷ []) p
has-more l x p h = (h.0, (omega (arith, h.1.0, length_push l x), pushed-old l x h.0 h.1.0 ∙ h.1.1))

has-last : (l : List ℕ) (x : ℕ) → HasItem (l ++ x ∷ []) x
has-last l x = (length l, (omega (arith, length_push l x), pushed-last l x))

together-old : (starts : List ℕ) (n p q : ℕ) → Together (starts ++ n ∷ []) p q → Together starts p q
together-old starts n p q h c lt less =
    let same = pushed-old starts n c lt in
    omega (arith, same, h c (omega (arith, lt, length_push starts n)) (omega (arith, less, same)))

leads-more : (starts : List ℕ) (n p : ℕ) (s : Stage) → p < n → LeadsOn starts p s → LeadsOn (starts ++ n ∷ []) p s
leads-more starts n p Unseen lt h = absurd h
leads-more starts n p (Waits q) lt h = λ c cl le. elim (pushed starts n c cl) [
  | inl old ↦ omega (arith, old.1, h c old.0 (omega (arith, old.1, le)))
  | inr last ↦ absurd (omega (arith, last.1, le, lt))
]
leads-more starts n p (Grouped g) lt h = tt

left-met : (all : List (List ℕ)) (s : State) (k : ℕ) → AreLeft all s → k < length all → AreLeft all (meeting s k)
left-met all s k h within = record {
  stages = length-set s.stages k (Waits (length s.waiting)) ∙ h.stages;
  lefts = h.lefts;
  fits = h.fits;
  fresh = λ j e. elim (changed s.stages k (Waits (length s.waiting)) j (omega (arith, within, h.stages))) [
    | inl is ↦ unseen-waits _ _ e is.1
    | inr other ↦ h.fresh j (sym other.1 ∙ e)
  ];
}

module _ (all : List (List ℕ)) (s : State) (k : ℕ) (left : AreLeft all s) (h : AreWaiting all s) (within : k < length all) (unseen : stage_at s k ≡ Unseen)
    (reached : (p : ℕ) → p < length s.waiting → Chain all (get_or s.waiting p 0) k) where
  inside : k < length s.stages
  inside = omega (arith, within, left.stages)

  -- no other place that waits is the new one
  other : (p : ℕ) → p < length s.waiting → get_or s.waiting p 0 ≢ k
  other p lt is = unseen-waits _ _ unseen (ap (λ j. get_or s.stages j Unseen) (sym is) ∙ h.stage p lt)

  at-old : (p : ℕ) → p < length s.waiting → get_or (s.waiting ++ k ∷ []) p 0 ≡ get_or s.waiting p 0
  at-old p lt = pushed-old s.waiting k p lt

  at-new : get_or (s.waiting ++ k ∷ []) (length s.waiting) 0 ≡ k
  at-new = pushed-last s.waiting k

  stage-met : (p : ℕ) → p < length (s.waiting ++ k ∷ []) → stage_at (meeting s k) (get_or (s.waiting ++ k ∷ []) p 0) ≡ Waits p
  stage-met p lt = elim (pushed s.waiting k p lt) [
    | inl old ↦ ap (λ j. get_or (set s.stages k (Waits (length s.waiting))) j Unseen) old.1
        ∙ changed-other s.stages k (Waits (length s.waiting)) (get_or s.waiting p 0) (other p old.0) ∙ h.stage p old.0
    | inr new ↦ elim (changed s.stages k (Waits (length s.waiting)) k inside) [
      | inl is ↦ ap (λ j. get_or (set s.stages k (Waits (length s.waiting))) j Unseen) new.1 ∙ is.1 ∙ ap Waits (sym new.0)
      | inr ne ↦ absurd (ne.0 refl)
    ]
  ]

  place-met : (j p : ℕ) → stage_at (meeting s k) j ≡ Waits p → (p < length (s.waiting ++ k ∷ [])) × (get_or (s.waiting ++ k ∷ []) p 0 ≡ j)
  place-met j p e = elim (changed s.stages k (Waits (length s.waiting)) j inside) [
    | inl is ↦
        let same : length s.waiting ≡ p = waits-same _ _ _ is.1 e in
        (omega (arith, same, length_push s.waiting k), ap (λ i. get_or (s.waiting ++ k ∷ []) i 0) (sym same) ∙ at-new ∙ sym is.0)
    | inr ne ↦ let old = h.place j p (sym ne.1 ∙ e) in (omega (arith, old.0, length_push s.waiting k), at-old p old.0 ∙ old.1)
  ]

  ahead-met : (p q : ℕ) → p ≤ q → q < length (s.waiting ++ k ∷ []) → Chain all (get_or (s.waiting ++ k ∷ []) p 0) (get_or (s.waiting ++ k ∷ []) q 0)
  ahead-met p q le lt = elim (pushed s.waiting k q lt) [
    | inl old ↦
        let pl : p < length s.waiting = omega (arith, le, old.0) in
        subst (λ x. Chain all x (get_or (s.waiting ++ k ∷ []) q 0)) (sym (at-old p pl)) (subst (Chain all (get_or s.waiting p 0)) (sym old.1) (h.ahead p q le old.0))
    | inr new ↦ elim (cases_lt p (length s.waiting)) [
      | inl pl ↦ subst (λ x. Chain all x (get_or (s.waiting ++ k ∷ []) q 0)) (sym (at-old p pl)) (subst (Chain all (get_or s.waiting p 0)) (sym new.1) (reached p pl))
      | inr past ↦ let same : p ≡ q = omega (arith, le, past, new.0) in subst (λ i. Chain all (get_or (s.waiting ++ k ∷ []) p 0) (get_or (s.waiting ++ k ∷ []) i 0)) same (none _)
    ]
  ]

  back-met : (p q : ℕ) → p ≤ q → q < length (s.waiting ++ k ∷ []) → Together (s.starts ++ length s.waiting ∷ []) p q
      → Chain all (get_or (s.waiting ++ k ∷ []) q 0) (get_or (s.waiting ++ k ∷ []) p 0)
  back-met p q le lt one = elim (pushed s.waiting k q lt) [
    | inl old ↦
        let pl : p < length s.waiting = omega (arith, le, old.0) in
        subst (λ x. Chain all x (get_or (s.waiting ++ k ∷ []) p 0)) (sym old.1)
        (subst (Chain all (get_or s.waiting q 0)) (sym (at-old p pl)) (h.back p q le old.0 (together-old s.starts (length s.waiting) p q one)))
    | inr new ↦ elim (cases_lt p q) [
      | inl less ↦
          let last : get_or (s.starts ++ length s.waiting ∷ []) (length s.starts) 0 ≡ length s.waiting = pushed-last s.starts (length s.waiting) in
          absurd (omega (arith, one (length s.starts) (omega (arith, length_push s.starts (length s.waiting))) (omega (arith, less, last, new.0)), last, new.0))
      | inr past ↦ let same : p ≡ q = omega (arith, le, past) in subst (λ i. Chain all (get_or (s.waiting ++ k ∷ []) q 0) (get_or (s.waiting ++ k ∷ []) i 0)) (sym same) (none _)
    ]
  ]

  leads-met : (p i : ℕ) → p < length s.waiting → LeadsOn s.starts p (stage_at s i) → LeadsOn (s.starts ++ length s.waiting ∷ []) p (stage_at (meeting s k) i)
  leads-met p i lt on = elim (changed s.stages k (Waits (length s.waiting)) i inside) [
    | inl is ↦ absurd (subst (LeadsOn s.starts p) (ap (λ j. get_or s.stages j Unseen) is.0 ∙ unseen) on)
    | inr ne ↦ subst (LeadsOn (s.starts ++ length s.waiting ∷ []) p) (sym ne.1) (leads-more s.starts (length s.waiting) p (stage_at s i) lt on)
  ]

  looked-met : (p e : ℕ) → p < length (s.waiting ++ k ∷ []) → get_or s.left (get_or (s.waiting ++ k ∷ []) p 0) 0 ≤ e → e < length (row all (get_or (s.waiting ++ k ∷ []) p 0))
      → item all (get_or (s.waiting ++ k ∷ []) p 0) e < length all
      → LeadsOn (s.starts ++ length s.waiting ∷ []) p (stage_at (meeting s k) (item all (get_or (s.waiting ++ k ∷ []) p 0) e))
  looked-met p e lt le el there = elim (pushed s.waiting k p lt) [
    | inl old ↦
        subst (λ x. LeadsOn (s.starts ++ length s.waiting ∷ []) p (stage_at (meeting s k) (item all x e))) (sym old.1)
        (leads-met p (item all (get_or s.waiting p 0) e) old.0
        (h.looked p e old.0 (subst (λ x. get_or s.left x 0 ≤ e) old.1 le) (subst (λ x. e < length (row all x)) old.1 el) (subst (λ x. item all x e < length all) old.1 there)))
    | inr new ↦
        let some : get_or s.left k 0 ≤ e = subst (λ x. get_or s.left x 0 ≤ e) new.1 le in
        let few : e < length (row all k) = subst (λ x. e < length (row all x)) new.1 el in
        absurd (omega (arith, some, few, left.fresh k unseen))
  ]

  done-met : (p : ℕ) → p < length (s.waiting ++ k ∷ []) → HasItem (s.pending ++ length s.waiting ∷ []) p ⊎ (get_or s.left (get_or (s.waiting ++ k ∷ []) p 0) 0 ≡ 0)
  done-met p lt = elim (pushed s.waiting k p lt) [
    | inl old ↦ elim (h.done p old.0) [
      | inl has ↦ inl (has-more s.pending (length s.waiting) p has)
      | inr none_left ↦ inr (ap (λ x. get_or s.left x 0) old.1 ∙ none_left)
    ]
    | inr new ↦ inl (subst (HasItem (s.pending ++ length s.waiting ∷ [])) (sym new.0) (has-last s.pending (length s.waiting)))
  ]

  first-met : (0 < length (s.starts ++ length s.waiting ∷ [])) × (get_or (s.starts ++ length s.waiting ∷ []) 0 0 ≡ 0)
  first-met = elim (cases_lt 0 (length s.waiting)) [
    | inl some ↦ let f = h.first some in (omega (arith, f.0, length_push s.starts (length s.waiting)), pushed-old s.starts (length s.waiting) 0 f.0 ∙ f.1)
    | inr no_place ↦ elim (cases_lt 0 (length s.starts)) [
      | inl some ↦ absurd (omega (arith, h.starts.below 0 some, no_place))
      | inr no_start ↦
          let zero_starts : length s.starts ≡ 0 = omega (arith, no_start) in
          let zero_places : length s.waiting ≡ 0 = omega (arith, no_place) in
          (omega (arith, length_push s.starts (length s.waiting)), ap (λ i. get_or (s.starts ++ length s.waiting ∷ []) i 0) (sym zero_starts) ∙ pushed-last s.starts (length s.waiting) ∙ zero_places)
    ]
  ]

  rise-met : (l : List ℕ) → Rise l (length s.waiting) → Rise (l ++ length s.waiting ∷ []) (length (s.waiting ++ k ∷ []))
  rise-met l r = subst (Rise (l ++ length s.waiting ∷ [])) (sym (length_push s.waiting k)) (rise-more l (length s.waiting) r)

  waits-met : AreWaiting all (meeting s k)
  waits-met = record {
    stage = stage-met;
    place = place-met;
    ahead = ahead-met;
    back = back-met;
    looked = looked-met;
    done = done-met;
    first = λ some. first-met;
    starts = rise-met s.starts h.starts;
    pending = rise-met s.pending h.pending;
  }

found-met : (all : List (List ℕ)) (s : State) (k : ℕ) → AreLeft all s → AreFound all s → k < length all → stage_at s k ≡ Unseen → AreFound all (meeting s k)
found-met all s k left h within unseen =
    let inside : k < length s.stages = omega (arith, within, left.stages) in
    let v : Stage = Waits (length s.waiting) in
    record {
      some = h.some;
      members = λ g i gl il. changed-other s.stages k v (item s.groups g i) (λ is. unseen-grouped _ _ unseen (ap (λ j. get_or s.stages j Unseen) (sym is) ∙ h.members g i gl il)) ∙ h.members g i gl il;
      grouped = λ i g e. elim (changed s.stages k v i inside) [
        | inl is ↦ waits-grouped _ _ _ is.1 e
        | inr ne ↦ h.grouped i g (sym ne.1 ∙ e)
      ];
      distinct = h.distinct;
      loops = h.loops;
      earlier = λ i g e is el there. elim (changed s.stages k v i inside) [
        | inl new ↦ waits-grouped _ _ _ new.1 is
        | inr ne ↦
            let old = h.earlier i g e (sym ne.1 ∙ is) el there in
            (old.0, (changed-other s.stages k v (item all i e) (λ same. unseen-grouped _ _ unseen (ap (λ j. get_or s.stages j Unseen) (sym same) ∙ old.1.0)) ∙ old.1.0, old.1.1))
      ];
    }

pub met : (all : List (List ℕ)) (s : State) (k : ℕ) → IsSearch all s → k < length all → stage_at s k ≡ Unseen
    → ((p : ℕ) → p < length s.waiting → Chain all (get_or s.waiting p 0) k) → IsSearch all (meeting s k)
met all s k h within unseen reached = record {
  rows = left-met all s k h.rows within;
  waits = waits-met all s k h.rows h.waits within unseen reached;
  found = found-met all s k h.rows h.found within unseen;
}
