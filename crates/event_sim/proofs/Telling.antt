-- What a class is told, one bit after another.
use Rattle.std.proofs.Common.{◌≡◌, ℕ, ◌+◌, ◌<◌, Bool, true, false, cond, ◌||◌, eqb, List, [], ◌∷◌, ◌++◌, length, get_or, set, take, map, refl, sym, ap, ◌∙◌, subst, inl, inr, arith, length-set}
use Rattle.std.specs.Prelude.{Option, None, Some, filter}
use Rattle.std.proofs.lemmas.Bool.{cases_eq, eqb-true, eq-eqb, ne_eqb}
use Rattle.std.proofs.lemmas.List.{get_or-set_same, get_or-set_other, take_more, map-append}
use Rattle.std.proofs.lemmas.List.Elements.{filter-append}
use Rattle.std.proofs.lemmas.List.Folds.{list_any-append}
use Rattle.fourvec.specs.declared.Bit.{Bit}
use Rattle.fourvec.specs.declared.Bit.TheVariants.{Floating}
use Rattle.fourvec.specs.Bits.{res_bit, over, same_bit}
use Rattle.fourvec.proofs.Tables.{same_bit-true, every_bit, at_bit}
use Rattle.settling.specs.Events.{resolved}
use Rattle.svex_shape.specs.Values.{Vector}
use Rattle.event_nets.specs.declared.gift.Gift.{Gift}
use Rattle.event_nets.specs.Gifts.{told_with, told_of, told_bit, gift_bit, given_at, has_gift}
use Rattle.event_sim.specs.Passes.{IsToldOf}

-- ---- one resolution after another

res-assoc : (a b c : Bit) → res_bit a (res_bit b c) ≡ res_bit (res_bit a b) c
res-assoc a b c =
    let at_a = at_bit (λ x. every_bit (λ y. every_bit (λ z. same_bit (res_bit x (res_bit y z)) (res_bit (res_bit x y) z)))) refl a in
    let at_b = at_bit (λ y. every_bit (λ z. same_bit (res_bit a (res_bit y z)) (res_bit (res_bit a y) z))) at_a b in
    same_bit-true _ _ (at_bit (λ z. same_bit (res_bit a (res_bit b z)) (res_bit (res_bit a b) z)) at_b c)

res-floating : (a : Bit) → res_bit a Floating ≡ a
res-floating a = same_bit-true _ _ (at_bit (λ x. same_bit (res_bit x Floating) x) refl a)

over-push : (l : List Bit) (y : Bit) → over res_bit Floating (l ++ y ∷ []) ≡ res_bit (over res_bit Floating l) y
unfolding over
over-push [] y = res-floating y
over-push (x ∷ l) y = ap (λ z. res_bit x z) (over-push l y) ∙ res-assoc x (over res_bit Floating l) y

pub told-push : (l : List Bit) (y : Bit) → told_with (told_of l) y ≡ told_of (l ++ y ∷ [])
unfolding over
told-push [] y = ap (λ z. Some z) (sym (res-floating y))
told-push (x ∷ l) y = ap (λ z. Some z) (sym (over-push (x ∷ l) y))

pub told-resolved : (l : List Bit) → told_bit (told_of l) ≡ resolved l
told-resolved [] = refl
told-resolved (x ∷ l) = refl

-- ---- one gift after another

given-push : (values stim : List Vector) (place : ℕ) (gifts : List Gift) (g : Gift) (t : Bool) → eqb g.to place ≡ t
    → given_at values stim place (gifts ++ g ∷ []) ≡ given_at values stim place gifts ++ cond t (gift_bit values stim g ∷ []) []
given-push values stim place gifts g t e =
    ap (λ l. map (λ x. gift_bit values stim x) l) (filter-append (λ x. eqb x.to place) gifts (g ∷ []))
    ∙ map-append (λ x. gift_bit values stim x) (filter (λ x. eqb x.to place) gifts) (filter (λ x. eqb x.to place) (g ∷ []))
    ∙ ap (λ l. given_at values stim place gifts ++ l) (last t e)
  where
    both : (u : Bool) → map (λ x. gift_bit values stim x) (cond u (g ∷ []) []) ≡ cond u (gift_bit values stim g ∷ []) []
    both true = refl
    both false = refl

    last : (t : Bool) → eqb g.to place ≡ t → map (λ x. gift_bit values stim x) (filter (λ x. eqb x.to place) (g ∷ [])) ≡ cond t (gift_bit values stim g ∷ []) []
    last t e = subst (λ u. map (λ x. gift_bit values stim x) (filter (λ x. eqb x.to place) (g ∷ [])) ≡ cond u (gift_bit values stim g ∷ []) []) e (both (eqb g.to place))

append-none : {X : Type 0} (l : List X) → l ++ [] ≡ l
append-none [] = refl
append-none (x ∷ l) = ap (λ m. x ∷ m) (append-none l)

-- what was told to the class of one gift more is taken away
pub cleared-more : (gifts : List Gift) (i : ℕ) (g : Gift) (old : List (Option Bit)) → i < length gifts → get_or gifts i g ≡ g → g.to < length old
    → ((place : ℕ) → has_gift (take i gifts) place ≡ true → get_or old place None ≡ None)
    → (place : ℕ) → has_gift (take (i + 1) gifts) place ≡ true → get_or (set old g.to None) place None ≡ None
cleared-more gifts i g old within is below h place has = elim (cases_eq place g.to) [
  | inl same ↦ ap (λ p. get_or (set old g.to None) p None) same ∙ get_or-set_same old g.to None None below
  | inr other ↦ get_or-set_other old g.to place None None other ∙ h place (before other (has_gift (take i gifts) place) refl (sym all ∙ has))
]
  where
    all : has_gift (take (i + 1) gifts) place ≡ (has_gift (take i gifts) place || (eqb g.to place || false))
    all = ap (λ l. has_gift l place) (take_more gifts i g within ∙ ap (λ x. take i gifts ++ x ∷ []) is) ∙ list_any-append (λ x. eqb x.to place) (take i gifts) (g ∷ [])

    before : (place ≡ g.to → ⊥) → (t : Bool) → has_gift (take i gifts) place ≡ t → (has_gift (take i gifts) place || (eqb g.to place || false)) ≡ true → has_gift (take i gifts) place ≡ true
    before other true e k = e
    before other false e k =
        let off : eqb g.to place ≡ false = ne_eqb g.to place (λ s. other (sym s)) in
        let no : false ≡ true = sym (ap (λ t. t || (eqb g.to place || false)) e ∙ ap (λ t. t || false) off) ∙ k in cc

pub told-none : (own : List Gift) (values stim : List Vector) (told : List (Option Bit)) → ((place : ℕ) → has_gift own place ≡ true → get_or told place None ≡ None) → IsToldOf own values stim [] told
told-none own values stim told h place lt has = h place has

pub told-more : (own : List Gift) (values stim : List Vector) (gifts : List Gift) (i : ℕ) (g : Gift) (old new : List (Option Bit)) → i < length gifts → get_or gifts i g ≡ g
    → g.to < length old → new ≡ set old g.to (told_with (get_or old g.to None) (gift_bit values stim g))
    → IsToldOf own values stim (take i gifts) old → IsToldOf own values stim (take (i + 1) gifts) new
told-more own values stim gifts i g old new within is below e h place lt has =
    let long : length new ≡ length old = ap length e ∙ length-set old g.to _ in
    let more : take (i + 1) gifts ≡ take i gifts ++ g ∷ [] = take_more gifts i g within ∙ ap (λ x. take i gifts ++ x ∷ []) is in
    ap (λ l. get_or l place None) e
    ∙ here (omega (arith, long, lt))
    ∙ ap (λ l. told_of (given_at values stim place l)) (sym more)
  where
    unequal : (t : Bool) → eqb g.to place ≡ t → (g.to ≡ place → ⊥) → t ≡ false
    unequal true e apart = absurd (apart (eqb-true g.to place e))
    unequal false e apart = refl

    here : place < length old → get_or (set old g.to (told_with (get_or old g.to None) (gift_bit values stim g))) place None ≡ told_of (given_at values stim place (take i gifts ++ g ∷ []))
    here lt = elim (cases_eq place g.to) [
      | inl same ↦
          let on : eqb g.to place ≡ true = eq-eqb g.to place (sym same) in
          ap (λ p. get_or (set old g.to (told_with (get_or old g.to None) (gift_bit values stim g))) p None) same
          ∙ get_or-set_same old g.to (told_with (get_or old g.to None) (gift_bit values stim g)) None below
          ∙ ap (λ p. told_with (get_or old p None) (gift_bit values stim g)) (sym same)
          ∙ ap (λ o. told_with o (gift_bit values stim g)) (h place lt has)
          ∙ told-push (given_at values stim place (take i gifts)) (gift_bit values stim g)
          ∙ ap told_of (sym (given-push values stim place (take i gifts) g true on))
      | inr other ↦
          let off : eqb g.to place ≡ false = unequal (eqb g.to place) refl (λ s. other (sym s)) in
          get_or-set_other old g.to place (told_with (get_or old g.to None) (gift_bit values stim g)) None other
          ∙ h place lt has
          ∙ ap told_of (sym (given-push values stim place (take i gifts) g false off ∙ append-none (given_at values stim place (take i gifts))))
    ]
