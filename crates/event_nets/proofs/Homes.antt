-- The places of the first bits of classes.
use Rattle.std.proofs.Common.{◌≡◌, ℕ, zero, suc, ◌+◌, ◌<◌, Bool, true, false, eqb, List, [], ◌∷◌, length, get_or, map, refl, sym, ap, ◌∙◌, subst, arith}
use Rattle.std.specs.Prelude.{All}
use Rattle.std.specs.List.{zip}
use Rattle.std.proofs.lemmas.Bool.{eqb-true, eq-eqb}
use Rattle.std.proofs.lemmas.List.{get_or-map}
use Rattle.std.proofs.lemmas.List.Elements.{All-head, All-tail, All-map, All-weaker, All-append, All-nil, All-contains}
use Rattle.fourvec.proofs.Order.{both}
use Rattle.lhs_alias.specs.declared.segs.WireBit.{WireBit}
use Rattle.lhs_alias.specs.Segs.{bit, lhs_bits}
use Rattle.lhs_alias.specs.Lies.{IsBitOf}
use Rattle.lhs_alias.specs.Pairs.{Linked}
use Rattle.lhs_alias.specs.Joined.{all_bits, starts_of, place_of, place_in}
use Rattle.lhs_alias.proofs.Chains.{linked-keeps}
use Rattle.lhs_alias.proofs.Lying.{lhs_bits-lie}
use Rattle.lhs_alias.proofs.Row.{place-below, bit-at_place, place-own, all_bits-lie, place_in-starts_of}
use Rattle.settling.specs.Settling.{Link, first_bit, same_bit}
use Rattle.settling.proofs.Classes.{joined-first, same-name}
use Rattle.flat_net.specs.declared.flat.Join.{Join}
use Rattle.flat_net.specs.Flats.{IsJoin, links_of}
use Rattle.event_nets.specs.Tables.{home_of}

-- both bits of a link are bits of the wires
pub record IsInside (widths : List ℕ) (l : Link) : Type 0 where
  pub child : IsBitOf widths l.0
  pub parent : IsBitOf widths l.1

zip-inside : (widths : List ℕ) (cs ps : List WireBit) → All (IsBitOf widths) cs → All (IsBitOf widths) ps → All (IsInside widths) (zip cs ps)
zip-inside widths [] ps h k = All-nil (IsInside widths)
zip-inside widths (c ∷ cs) [] h k = All-nil (IsInside widths)
zip-inside widths (c ∷ cs) (p ∷ ps) h k =
    All-append (IsInside widths) (let l : Link = (c, p) in l ∷ []) (zip cs ps)
    (λ i d lt. one i d lt)
    (zip-inside widths cs ps (All-tail (IsBitOf widths) c cs h) (All-tail (IsBitOf widths) p ps k))
  where
    one : (i : ℕ) (d : Link) → i < 1 → IsInside widths (get_or (let l : Link = (c, p) in l ∷ []) i d)
    one zero d lt = record { child = All-head (IsBitOf widths) c cs h; parent = All-head (IsBitOf widths) p ps k }
    one (suc i) d lt = absurd (omega (arith, lt))

pub links-inside : (widths : List ℕ) (joins : List Join) → All (IsJoin widths) joins → All (IsInside widths) (links_of joins)
unfolding links_of
links-inside widths [] h = All-nil (IsInside widths)
links-inside widths (j ∷ more) h =
    let here = All-head (IsJoin widths) j more h in
    All-append (IsInside widths) (zip (lhs_bits j.child) (lhs_bits j.parent)) (links_of more)
    (zip-inside widths (lhs_bits j.child) (lhs_bits j.parent) (lhs_bits-lie widths j.child here.child) (lhs_bits-lie widths j.parent here.parent))
    (links-inside widths more (All-tail (IsJoin widths) j more h))

pub linked-inside : (widths : List ℕ) (links : List Link) → All (IsInside widths) links → (b c : WireBit) → Linked links b c → IsBitOf widths b → IsBitOf widths c
linked-inside widths links h b c l i =
    linked-keeps (IsBitOf widths) links (λ x y k. let is = All-contains (IsInside widths) links (x, y) h k in (is.child, is.parent)) l i

pub first-inside : (widths : List ℕ) (links : List Link) → All (IsInside widths) links → (b : WireBit) → IsBitOf widths b → IsBitOf widths (first_bit links b)
first-inside widths links h b i = linked-inside widths links h b (first_bit links b) (joined-first links b) i

-- ---- places tell bits apart

pub same-itself : (a : WireBit) → same_bit a a ≡ true
same-itself a = both _ _ (eq-eqb a.wire a.wire refl) (eq-eqb a.at a.at refl)

pub place-test : (widths : List ℕ) (a b : WireBit) → IsBitOf widths a → IsBitOf widths b → eqb (place_of widths a) (place_of widths b) ≡ same_bit a b
place-test widths a b h k = pick (eqb (place_of widths a) (place_of widths b)) (same_bit a b) refl refl
  where
    pick : (p q : Bool) → eqb (place_of widths a) (place_of widths b) ≡ p → same_bit a b ≡ q → p ≡ q
    pick true true e f = refl
    pick false false e f = refl
    pick true false e f =
        let is : a ≡ b = place-own widths a b h k (eqb-true _ _ e) in
        sym (subst (λ x. same_bit a x ≡ true) is (same-itself a)) ∙ f
    pick false true e f =
        let is : a ≡ b = same-name a b f in
        sym e ∙ eq-eqb _ _ (ap (λ x. place_of widths x) is)

-- ---- the list of homes

pub home-at : (widths : List ℕ) (f : WireBit → ℕ) (b : WireBit) → IsBitOf widths b → get_or (map f (all_bits widths)) (place_of widths b) 0 ≡ f b
home-at widths f b i =
    get_or-map f (all_bits widths) (place_of widths b) (bit 0 0) 0 (place-below widths b i) ∙ ap f (bit-at_place widths b (bit 0 0) i)

pub mapped-at : {X : Type 0} (widths : List ℕ) (f : WireBit → X) (b : WireBit) (d : X) → IsBitOf widths b → get_or (map f (all_bits widths)) (place_of widths b) d ≡ f b
mapped-at widths f b d i =
    get_or-map f (all_bits widths) (place_of widths b) (bit 0 0) d (place-below widths b i) ∙ ap f (bit-at_place widths b (bit 0 0) i)

pub start-at : (widths : List ℕ) (n k : ℕ) → n < length widths → get_or (starts_of widths) n 0 + k ≡ place_of widths (bit n k)
unfolding place_in
start-at widths n k h = place_in-starts_of widths (bit n k) h

pub homes-below : (widths : List ℕ) (links : List Link) → All (IsInside widths) links → All (λ home. home < length (all_bits widths)) (map (home_of links widths) (all_bits widths))
homes-below widths links h =
    All-map (λ home. home < length (all_bits widths)) (home_of links widths) (all_bits widths)
    (All-weaker (IsBitOf widths) (λ b. home_of links widths b < length (all_bits widths)) (λ b i. place-below widths (first_bit links b) (first-inside widths links h b i)) (all_bits widths) (all_bits-lie widths))
