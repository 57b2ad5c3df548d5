-- Where wires are overridden: these give as inputs do, and what else is given to their classes is left out.
use Rattle.std.proofs.Common.{◌≡◌, ℕ, zero, suc, ◌+◌, ◌<◌, Bool, true, false, not, cond, eqb, ◌||◌, List, [], ◌∷◌, ◌++◌, length, get_or, map, take, refl, sym, ap, ◌∙◌, subst, arith, add-zero}
use Rattle.std.specs.Prelude.{All, filter}
use Rattle.std.specs.List.{list_any}
use Rattle.std.proofs.lemmas.Bool.{eqb-true}
use Rattle.std.proofs.lemmas.List.{take_more}
use Rattle.std.proofs.lemmas.List.Elements.{All-append, All-filter, filter-append}
use Rattle.std.proofs.lemmas.List.Folds.{list_any-append}
use Rattle.sv_outside.specs.declared.text.Signal.{Signal}
use Rattle.lhs_alias.specs.declared.segs.WireBit.{WireBit}
use Rattle.settling.specs.Settling.{Store, value_at as value_in_store}
use Rattle.svex_shape.specs.Values.{Vector}
use Rattle.driver_resolve.specs.Drivers.{widths_of, wire_bits, has_wire, stimuli_from, overriding_from}
use Rattle.event_nets.specs.declared.gift.Gift.{Gift}
use Rattle.event_nets.specs.declared.gift.Source.TheVariants.{Stimulus}
use Rattle.event_nets.specs.Gifts.{gift_bit, given_at, gifts_to, stimulus_gifts, overriding_gifts, has_gift, left}
use Rattle.event_nets.specs.Nets.{input_bits, overridden_bits}
use Rattle.event_nets.proofs.Giving.{AreWires, wires-are, given_at-append}
use Rattle.event_nets.proofs.Laying.{append-none}
use Rattle.event_nets.proofs.NetPlaces.{filter-same}

-- ---- overridden wires as inputs

abbrev pub as_input : Signal → Bool → Signal
as_input s counts = record { path = s.path; width = s.width; input = counts }

-- the same wires, of which those that are overridden are the inputs; the first of them has this number
abbrev pub as_inputs : ℕ → List Signal → List ℕ → List Signal
as_inputs n [] over = []
as_inputs n (s ∷ more) over = as_input s (has_wire over n) ∷ as_inputs (suc n) more over

widths-as_inputs : (n : ℕ) (wires : List Signal) (over : List ℕ) → widths_of (as_inputs n wires over) ≡ widths_of wires
widths-as_inputs n [] over = refl
widths-as_inputs n (s ∷ more) over = ap (λ l. s.width ∷ l) (widths-as_inputs (suc n) more over)

pub length-as_inputs : (n : ℕ) (wires : List Signal) (over : List ℕ) → length (as_inputs n wires over) ≡ length wires
length-as_inputs n [] over = refl
length-as_inputs n (s ∷ more) over = ap suc (length-as_inputs (suc n) more over)

pub wires-as_inputs : (wires : List Signal) (over : List ℕ) → AreWires (widths_of wires) 0 (as_inputs 0 wires over)
wires-as_inputs wires over = subst (λ ws. AreWires ws 0 (as_inputs 0 wires over)) (widths-as_inputs 0 wires over) (wires-are (as_inputs 0 wires over))

input-at : (n i : ℕ) (wires : List Signal) (over : List ℕ) (w d : Signal) → i < length wires → get_or wires i w ≡ w
    → get_or (as_inputs n wires over) i d ≡ as_input w (has_wire over (n + i))
input-at n i [] over w d lt e = absurd (omega (arith, lt))
input-at n zero (s ∷ more) over w d lt e = ap (λ x. as_input x (has_wire over n)) e ∙ ap (λ k. as_input w (has_wire over k)) (sym (add-zero n))
input-at n (suc i) (s ∷ more) over w d lt e =
    let same : suc n + i ≡ n + suc i = omega arith in
    input-at (suc n) i more over w d (omega (arith, lt)) e ∙ ap (λ k. as_input w (has_wire over k)) same

-- the wire of a number
pub input-here : (i : ℕ) (wires : List Signal) (over : List ℕ) (w d : Signal) → i < length wires → get_or wires i w ≡ w
    → get_or (as_inputs 0 wires over) i d ≡ as_input w (has_wire over i)
input-here i wires over w d lt e =
    let same : 0 + i ≡ i = omega arith in
    input-at 0 i wires over w d lt e ∙ ap (λ k. as_input w (has_wire over k)) same

pub gifts-as_inputs : (home : WireBit → ℕ) (n : ℕ) (wires : List Signal) (over : List ℕ) → overriding_gifts home n wires over ≡ stimulus_gifts home n (as_inputs n wires over)
unfolding overriding_gifts stimulus_gifts
gifts-as_inputs home n [] over = refl
gifts-as_inputs home n (s ∷ more) over =
    ap (λ l. cond (has_wire over n) (gifts_to home (Stimulus n) 0 (wire_bits n s.width)) [] ++ l) (gifts-as_inputs home (suc n) more over)

pub bits-as_inputs : (n : ℕ) (wires : List Signal) (over : List ℕ) → overridden_bits n wires over ≡ input_bits n (as_inputs n wires over)
unfolding overridden_bits input_bits
bits-as_inputs n [] over = refl
bits-as_inputs n (s ∷ more) over = ap (λ l. cond (has_wire over n) (wire_bits n s.width) [] ++ l) (bits-as_inputs (suc n) more over)

pub from-as_inputs : (n : ℕ) (wires : List Signal) (over : List ℕ) (stim : Store) → overriding_from n wires over stim ≡ stimuli_from n (as_inputs n wires over) stim
unfolding overriding_from stimuli_from
from-as_inputs n [] over stim = refl
from-as_inputs n (s ∷ more) over stim =
    ap (λ l. cond (has_wire over n) (map (λ b. (b, value_in_store stim b)) (wire_bits n s.width)) [] ++ l) (from-as_inputs (suc n) more over stim)

-- ---- gifts that are left out

-- Where a test has one answer for all elements that pass another, it keeps all of these or none.
filter-cut : {X : Type 0} (p q : X → Bool) (b : Bool) → ((x : X) → p x ≡ true → q x ≡ b) → (l : List X) → filter p (filter (λ x. not (q x)) l) ≡ cond b [] (filter p l)
filter-cut {X} p q b h [] = none b
  where
    none : (t : Bool) → (let l : List X = [] in l) ≡ cond t [] []
    none true = refl
    none false = refl
filter-cut {X} p q b h (x ∷ l) = pick (q x) refl (filter-cut p q b h l)
  where
    all : List X
    all = filter p l

    kept : List X
    kept = filter p (filter (λ y. not (q y)) l)

    goes : (u : Bool) → (u ≡ true → true ≡ b) → kept ≡ cond b [] all → kept ≡ cond b [] (cond u (x ∷ all) all)
    goes true e r = r ∙ ap (λ t. cond t [] all) (sym (e refl)) ∙ ap (λ t. cond t [] (x ∷ all)) (e refl)
    goes false e r = r

    stays : (u : Bool) → (u ≡ true → false ≡ b) → kept ≡ cond b [] all → cond u (x ∷ kept) kept ≡ cond b [] (cond u (x ∷ all) all)
    stays true e r = ap (λ k. x ∷ k) (r ∙ ap (λ t. cond t [] all) (sym (e refl))) ∙ ap (λ t. cond t [] (x ∷ all)) (e refl)
    stays false e r = r

    pick : (t : Bool) → q x ≡ t → kept ≡ cond b [] all
        → filter p (cond (not t) (x ∷ filter (λ y. not (q y)) l) (filter (λ y. not (q y)) l)) ≡ cond b [] (filter p (x ∷ l))
    pick true e r = goes (p x) (λ f. sym e ∙ h x f) r
    pick false e r = stays (p x) (λ f. sym e ∙ h x f) r

abbrev has_some : {X : Type 0} → List X → Bool
has_some [] = false
has_some (x ∷ l) = true

none-there : {X : Type 0} (l : List X) → has_some l ≡ false → l ≡ []
none-there [] e = refl
none-there (x ∷ l) e = let k : true ≡ false = e in cc

any-some : {X : Type 0} (p : X → Bool) (l : List X) → list_any p l ≡ has_some (filter p l)
any-some p [] = refl
any-some p (x ∷ l) = pick (p x) (any-some p l)
  where
    pick : (t : Bool) → list_any p l ≡ has_some (filter p l) → (t || list_any p l) ≡ has_some (cond t (x ∷ filter p l) (filter p l))
    pick true r = refl
    pick false r = r

-- the gifts to one class that are left, of those that others override
kept-at : (over gifts : List Gift) (place : ℕ)
    → filter (λ g. eqb g.to place) (filter (λ g. not (has_gift over g.to)) gifts) ≡ cond (has_gift over place) [] (filter (λ g. eqb g.to place) gifts)
kept-at over gifts place =
    filter-cut (λ (g : Gift). eqb g.to place) (λ (g : Gift). has_gift over g.to) (has_gift over place) (λ g e. ap (λ k. has_gift over k) (eqb-true g.to place e)) gifts

-- a class has a gift that is left exactly where it had one or is overridden
pub any-left : (over gifts : List Gift) (place : ℕ) → has_gift (left over gifts) place ≡ (has_gift gifts place || has_gift over place)
unfolding left
any-left over gifts place =
    list_any-append (λ g. eqb g.to place) (filter (λ g. not (has_gift over g.to)) gifts) over
    ∙ ap (λ t. t || has_gift over place)
    (any-some (λ g. eqb g.to place) (filter (λ g. not (has_gift over g.to)) gifts) ∙ ap (λ l. has_some l) (kept-at over gifts place))
    ∙ pick (has_gift over place) (has_gift gifts place) (any-some (λ g. eqb g.to place) gifts)
  where
    pick : (b t : Bool) → t ≡ has_some (filter (λ g. eqb g.to place) gifts) → (has_some (cond b [] (filter (λ g. eqb g.to place) gifts)) || b) ≡ (t || b)
    pick true true e = refl
    pick true false e = refl
    pick false t e = ap (λ u. u || false) (sym e)

-- a class takes what overrides it alone, or what it is given
pub given-left : (values stim : List Vector) (over gifts : List Gift) (place : ℕ)
    → given_at values stim place (left over gifts) ≡ cond (has_gift over place) (given_at values stim place over) (given_at values stim place gifts)
unfolding left
given-left values stim over gifts place =
    given_at-append values stim place (filter (λ g. not (has_gift over g.to)) gifts) over
    ∙ ap (λ l. map (λ g. gift_bit values stim g) l ++ given_at values stim place over) (kept-at over gifts place)
    ∙ pick (has_gift over place) (any-some (λ g. eqb g.to place) over)
  where
    pick : (b : Bool) → b ≡ has_some (filter (λ g. eqb g.to place) over)
        → map (λ g. gift_bit values stim g) (cond b [] (filter (λ g. eqb g.to place) gifts)) ++ given_at values stim place over
        ≡ cond b (given_at values stim place over) (given_at values stim place gifts)
    pick true e = refl
    pick false e =
        ap (λ l. given_at values stim place gifts ++ map (λ g. gift_bit values stim g) l) (none-there (filter (λ g. eqb g.to place) over) (sym e))
        ∙ append-none (given_at values stim place gifts)

all-kept : (gifts : List Gift) → filter (λ g. not false) gifts ≡ gifts
all-kept [] = refl
all-kept (g ∷ gifts) = ap (λ l. g ∷ l) (all-kept gifts)

-- where nothing overrides, all is left
pub left-none : (over gifts : List Gift) → length over ≡ 0 → gifts ≡ left over gifts
unfolding left
left-none [] gifts e = sym (append-none (filter (λ g. not false) gifts) ∙ all-kept gifts)
left-none (g ∷ over) gifts e = absurd (omega (arith, e))

-- by marks of the places of classes that are overridden
pub left-made : (places : ℕ) (over gifts : List Gift) (marks : List Bool) → ((place : ℕ) → place < places → get_or marks place false ≡ has_gift over place)
    → All (λ g. g.to < places) gifts → filter (λ g. not (get_or marks g.to false)) gifts ++ over ≡ left over gifts
unfolding left
left-made places over gifts marks h below =
    ap (λ l. l ++ over)
    (filter-same (λ g. g.to < places) (λ g. not (get_or marks g.to false)) (λ g. not (has_gift over g.to)) (λ g lt. ap (λ t. not t) (h g.to lt)) gifts below)

-- one gift more, by its mark
pub kept-more : (marks : List Bool) (gifts : List Gift) (i : ℕ) (g : Gift) → i < length gifts → get_or gifts i g ≡ g
    → filter (λ x. not (get_or marks x.to false)) (take (i + 1) gifts) ≡ filter (λ x. not (get_or marks x.to false)) (take i gifts) ++ cond (get_or marks g.to false) [] (g ∷ [])
kept-more marks gifts i g lt is =
    let test : Gift → Bool = λ x. not (get_or marks x.to false) in
    ap (λ l. filter test l) (take_more gifts i g lt ∙ ap (λ x. take i gifts ++ x ∷ []) is)
    ∙ filter-append test (take i gifts) (g ∷ [])
    ∙ ap (λ l. filter test (take i gifts) ++ l) (one (get_or marks g.to false))
  where
    one : (t : Bool) → (let l : List Gift = cond (not t) (g ∷ []) [] in l) ≡ cond t [] (g ∷ [])
    one true = refl
    one false = refl

pub All-left : (P : Gift → Type 0) (over gifts : List Gift) → All P over → All P gifts → All P (left over gifts)
unfolding left
All-left P over gifts h k =
    All-append P (filter (λ g. not (has_gift over g.to)) gifts) over (All-filter (λ g. not (has_gift over g.to)) P gifts k) h
