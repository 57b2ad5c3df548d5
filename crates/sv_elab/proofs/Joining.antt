-- Ports that are joined.
use Rattle.std.proofs.Common.{◌≡◌, ◌≢◌, ℕ, ◌+◌, ◌<◌, ◌≤◌, eqb, Bool, true, false, ◌&&◌, List, [], ◌∷◌, ◌++◌, length, take, drop, min, get_or, refl, sym, ap, ◌∙◌, arith, length-append, append_assoc, inl, inr}
use Rattle.std.specs.Prelude.{◌==◌}
use Rattle.std.proofs.lemmas.List.{append-nil, take_all, at_drop_more, at_drop_all}
use Rattle.std.proofs.lemmas.Bool.{cases_Bool}
use Rattle.std.proofs.lemmas.Bool.Decides.{nat_tests}
use Rattle.lhs_alias.specs.declared.segs.WireBit.{WireBit}
use Rattle.lhs_alias.specs.declared.segs.Seg.{Seg}
use Rattle.lhs_alias.specs.Segs.{lhs_bits}
use Rattle.lhs_alias.specs.Lies.{LieIn}
use Rattle.lhs_alias.specs.Pairs.{FallTo}
use Rattle.sv_meaning.specs.Faults.{Faults}
use Rattle.sv_meaning.specs.Targets.{Target, slots, present, are_fixed, widths}
use Rattle.sv_meaning.specs.Designs.{are_present}
use Rattle.sv_lower.proofs.Trees.{taken_more}
use Rattle.sv_targets.specs.declared.parts.Part.{Part}
use Rattle.sv_targets.specs.declared.parts.Target as lowered
use Rattle.sv_targets.specs.Slots.{IsLowered}
use Rattle.sv_elab.specs.Working.{JoinsTo, parts_bits, wire_seg}
use Rattle.sv_elab.proofs.Wires.{seg_is, run_long}
use Rattle.sv_elab.proofs.Slotting.{present_are, all_there, none_missing, slots_long}

-- ---- the bits of parts

bits_push : (parts : List Part) (p : Part) → parts_bits (parts ++ p ∷ []) ≡ parts_bits parts ++ lhs_bits p.to
unfolding parts_bits
bits_push [] p = append-nil (lhs_bits p.to)
bits_push (x ∷ parts) p = ap (λ zs. lhs_bits x.to ++ zs) (bits_push parts p) ∙ sym (append_assoc (lhs_bits x.to) (parts_bits parts) (lhs_bits p.to))

parts_more : (parts : List Part) (i : ℕ) (p : Part) → i < length parts → p ≡ get_or parts i p → parts_bits (take (i + 1) parts) ≡ parts_bits (take i parts) ++ lhs_bits p.to
parts_more parts i p l e = ap parts_bits (taken_more parts i p l e) ∙ bits_push (take i parts) p

pub count_more : (parts : List Part) (i : ℕ) (p : Part) → i < length parts → p ≡ get_or parts i p → length (parts_bits (drop i parts)) ≡ length (lhs_bits p.to) + length (parts_bits (drop (i + 1) parts))
unfolding parts_bits
count_more parts i p l e =
    at_drop_more (λ xs. length (parts_bits xs)) parts i p l ∙ ap (λ (q : Part). length (lhs_bits q.to ++ parts_bits (drop (i + 1) parts))) (sym e) ∙ length-append (lhs_bits p.to) (parts_bits (drop (i + 1) parts))

pub count_end : (parts : List Part) (i : ℕ) → length parts ≤ i → length (parts_bits (drop i parts)) ≡ 0
unfolding parts_bits
count_end parts i l = at_drop_all (λ xs. length (parts_bits xs)) parts i l

pub part_sum : (count n rest here w next all : ℕ) → here ≡ n + rest → w ≡ min 255 n → next ≡ min (count + w) 255 → min 255 (count + here) ≡ all → min 255 (next + rest) ≡ all
part_sum count n rest here w next all h k m e = grind (arith, h, k, m, e)

pub bits_none : (parts : List Part) (all : List Seg) → all ≡ [] → lhs_bits all ≡ parts_bits (take 0 parts)
unfolding parts_bits
bits_none parts all e = ap lhs_bits e

pub bits_next : (parts : List Part) (i : ℕ) (p : Part) (all next : List Seg) → i < length parts → p ≡ get_or parts i p → lhs_bits all ≡ parts_bits (take i parts) → lhs_bits next ≡ lhs_bits all ++ lhs_bits p.to → lhs_bits next ≡ parts_bits (take (i + 1) parts)
bits_next parts i p all next l e h k = k ∙ ap (λ (z : List WireBit). z ++ lhs_bits p.to) h ∙ sym (parts_more parts i p l e)

pub bits_all : (parts : List Part) (i : ℕ) (all : List Seg) → length parts ≤ i → lhs_bits all ≡ parts_bits (take i parts) → lhs_bits all ≡ parts_bits parts
bits_all parts i all l h = h ∙ ap parts_bits (take_all i parts l)

-- ---- which actuals are joined

pub apart : (f : Faults) (ts : List Target) (x : lowered.Target) (w : ℕ) → IsLowered f ts x → x.width ≢ w → false ≡ (widths ts == w && (are_fixed ts && are_present (slots ts)))
apart f ts x w h ne = let t : eqb (widths ts) w ≡ false = (let a = h.width in grind (arith, nat_tests, a, ne)) in sym (ap (λ b. b && (are_fixed ts && are_present (slots ts))) t)

pub moving : (f : Faults) (ts : List Target) (x : lowered.Target) (w : ℕ) → IsLowered f ts x → x.fixed ≡ false → false ≡ (widths ts == w && (are_fixed ts && are_present (slots ts)))
moving f ts x w h e = sym (ap (λ b. widths ts == w && (b && are_present (slots ts))) (h.fixed ∙ e) ∙ never (widths ts == w))
  where
    never : (b : Bool) → (b && false) ≡ false
    never true = refl
    never false = refl

pub fixed_there : (f : Faults) (ts : List Target) (x : lowered.Target) (w count : ℕ) (b : Bool) → IsLowered f ts x → x.width ≡ w → x.fixed ≡ true → count ≡ length (parts_bits x.parts) → b ≡ eqb count x.width → b ≡ (widths ts == w && (are_fixed ts && are_present (slots ts)))
fixed_there f ts x w count b h e g c is =
    let fixed : are_fixed ts ≡ true = h.fixed ∙ g in
    let long : length (slots ts) ≡ x.width = slots_long ts fixed ∙ h.width in
    let there : length (present (slots ts)) ≡ count = ap length (present_are (slots ts) x.parts h.parts) ∙ sym c in
    let t : eqb (widths ts) w ≡ true = (let a = h.width in grind (arith, nat_tests, a, e)) in
    is ∙ go (are_present (slots ts)) refl long there ∙ sym (ap (λ a. a && (are_fixed ts && are_present (slots ts))) t ∙ ap (λ a. a && are_present (slots ts)) fixed)
  where
    go : (a : Bool) → are_present (slots ts) ≡ a → length (slots ts) ≡ x.width → length (present (slots ts)) ≡ count → eqb count x.width ≡ are_present (slots ts)
    go true k long there = let m : count ≡ x.width = sym there ∙ none_missing (slots ts) k ∙ long in let t : eqb count x.width ≡ true = grind (arith, nat_tests, m) in t ∙ sym k
    go false k long there = elim (cases_Bool (eqb count x.width)) as (λ _. eqb count x.width ≡ are_present (slots ts)) [
      | inl t ↦ let m : count ≡ x.width = grind (arith, nat_tests, t) in let all = all_there (slots ts) (there ∙ m ∙ sym long) in let z : true ≡ false = sym all ∙ k in cc
      | inr t ↦ t ∙ sym k
    ]

pub counted : (count n w : ℕ) → eqb count w ≡ true → count ≡ min 255 n → w ≤ 128 → n ≡ w
counted count n w e c l = let m : count ≡ w = grind (arith, nat_tests, e) in grind (arith, m, c, l)

pub same_test : (count n w : ℕ) → count ≡ min 255 n → w ≤ 128 → eqb count w ≡ eqb n w
same_test count n w c l = elim (cases_Bool (eqb n w)) as (λ _. eqb count w ≡ eqb n w) [
  | inl t ↦ let m : n ≡ w = grind (arith, nat_tests, t) in let k : count ≡ w = grind (arith, m, c, l) in let z : eqb count w ≡ true = grind (arith, nat_tests, k) in z ∙ sym t
  | inr t ↦ let m : n ≢ w = grind (arith, nat_tests, t) in let k : count ≢ w = grind (arith, m, c, l) in let z : eqb count w ≡ false = grind (arith, nat_tests, k) in z ∙ sym t
]

-- ---- joins

some_segs : (xs : List Seg) → 1 ≤ length (lhs_bits xs) → 1 ≤ length xs
some_segs [] l = absurd (omega arith)
some_segs (x ∷ xs) l = omega arith

pub joins_to : (widths : List ℕ) (wire width : ℕ) (parts : List Part) (child parent : List Seg) → 1 ≤ width → child ≡ wire_seg wire width ∷ [] → lhs_bits parent ≡ parts_bits parts → LieIn widths child → LieIn widths parent → FallTo (lhs_bits child) (lhs_bits parent)
    → JoinsTo widths wire width parts (record { child = child; parent = parent })
joins_to widths wire width parts child parent some c p lies above falls = record {
  child = c;
  parent = p;
  sound = record {
    child = lies;
    parent = above;
    some = let a = ap length c in omega arith;
    some_above = some_segs parent (let a = ap (λ xs. length (lhs_bits xs)) c ∙ ap length (seg_is wire width) ∙ run_long wire 0 width in let b = falls.as_many in omega arith);
    falls = falls;
  };
}
