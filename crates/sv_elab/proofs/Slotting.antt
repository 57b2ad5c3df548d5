-- The slots of targets, by their parts.
use Rattle.std.proofs.Common.{◌≡◌, ℕ, zero, suc, ◌+◌, ◌-◌, ◌≤◌, Bool, true, false, ◌&&◌, List, [], ◌∷◌, ◌++◌, length, take, drop, map, replicate, Option, Some, None, refl, sym, ap, ◌∙◌, arith, length-append, append_assoc}
use Rattle.std.specs.List.{All, zip}
use Rattle.std.specs.Prelude.{ℤ, ◌+ℤ◌, pos}
use Rattle.std.proofs.lemmas.List.{length-drop}
use Rattle.std.proofs.lemmas.List.Elements.{All-head, All-tail}
use Rattle.fourvec.specs.declared.Bit.{Bit}
use Rattle.lhs_alias.specs.declared.segs.WireBit.{WireBit}
use Rattle.lhs_alias.specs.Segs.{lhs_bits}
use Rattle.sv_meaning.specs.Layouts.{Layout, width}
use Rattle.sv_meaning.specs.Meanings.{Step, Part as Stepped, step_in, with_part, chain_layout}
use Rattle.sv_meaning.specs.Targets.{Target, bit_names, slots_from, with_place, fixed_place, chain_slots, chain_fixed, slots, present, are_fixed, widths, width_or_none}
use Rattle.sv_meaning.specs.Designs.{driven, are_present}
use Rattle.sv_targets.specs.declared.parts.Part.{Part}
use Rattle.sv_targets.specs.Slots.{Slots, spread, Ascend, AreParts}
use Rattle.sv_elab.specs.Working.{parts_give, parts_bits}
use Rattle.sv_elab.proofs.Lists.{drop_drop}

-- ---- what slots take of a value

driven_none : (v : List Bit) → driven [] v ≡ []
unfolding driven
driven_none [] = refl
driven_none (b ∷ v) = refl

driven_empty : (all : Slots) → driven all [] ≡ []
unfolding driven
driven_empty [] = refl
driven_empty (Some b ∷ all) = refl
driven_empty (None ∷ all) = refl

driven_gap : (k : ℕ) (xs : Slots) (v : List Bit) → k ≤ length v → driven (replicate k None ++ xs) v ≡ driven xs (drop k v)
unfolding driven
driven_gap zero xs v l = refl
driven_gap (suc k) xs [] l = absurd (omega arith)
driven_gap (suc k) xs (b ∷ v) l = driven_gap k xs v (omega arith)

driven_run : (bs : List WireBit) (xs : Slots) (v : List Bit) → length bs ≤ length v → driven (map Some bs ++ xs) v ≡ zip bs (take (length bs) v) ++ driven xs (drop (length bs) v)
unfolding driven
driven_run [] xs v l = refl
driven_run (b ∷ bs) xs [] l = absurd (omega arith)
driven_run (b ∷ bs) xs (x ∷ v) l = ap (λ zs. (b, x) ∷ zs) (driven_run bs xs v (omega arith))

pub driven_some : (bs : List WireBit) (v : List Bit) → driven (map Some bs) v ≡ zip bs v
unfolding driven
driven_some [] [] = refl
driven_some [] (x ∷ v) = refl
driven_some (b ∷ bs) [] = refl
driven_some (b ∷ bs) (x ∷ v) = ap (λ zs. (b, x) ∷ zs) (driven_some bs v)

gap_alone : (k : ℕ) (v : List Bit) → driven (replicate k None) v ≡ []
unfolding driven
gap_alone zero v = driven_none v
gap_alone (suc k) [] = refl
gap_alone (suc k) (b ∷ v) = gap_alone k v

driven_end : (xs : Slots) (k : ℕ) (v : List Bit) → driven (xs ++ replicate k None) v ≡ driven xs v
unfolding driven
driven_end [] k v = gap_alone k v ∙ sym (driven_none v)
driven_end (Some b ∷ xs) k [] = refl
driven_end (Some b ∷ xs) k (x ∷ v) = ap (λ zs. (b, x) ∷ zs) (driven_end xs k v)
driven_end (None ∷ xs) k [] = refl
driven_end (None ∷ xs) k (x ∷ v) = driven_end xs k v

abbrev pub Lies : List Bit → Part → Type 0
Lies v p = p.lo + length (lhs_bits p.to) ≤ length v

driven_parts : (at : ℕ) (parts : List Part) (v : List Bit) → Ascend at parts → All (Lies v) parts → driven (spread at parts) (drop at v) ≡ parts_give v parts
unfolding spread Ascend parts_give
driven_parts at [] v a h = driven_none (drop at v)
driven_parts at (p ∷ more) v a h =
    let bs = lhs_bits p.to in
    let n = length bs in
    let own : p.lo + n ≤ length v = All-head (Lies v) p more h in
    let rest = spread (p.lo + n) more in
    let step : at + (p.lo - at) ≡ p.lo = let x = a.0 in omega arith in
    ap (λ (xs : Slots). driven xs (drop at v)) (append_assoc (replicate (p.lo - at) None) (map Some bs) rest)
    ∙ driven_gap (p.lo - at) (map Some bs ++ rest) (drop at v) (let x = a.0 in omega (arith, length-drop at v))
    ∙ ap (driven (map Some bs ++ rest)) (drop_drop at (p.lo - at) v ∙ ap (λ m. drop m v) step)
    ∙ driven_run bs rest (drop p.lo v) (omega (arith, length-drop p.lo v))
    ∙ ap (λ zs. zip bs (take n (drop p.lo v)) ++ zs) (ap (driven rest) (drop_drop p.lo n v) ∙ driven_parts (p.lo + n) more v a.1 (All-tail (Lies v) p more h))

pub driven_are : (all : Slots) (parts : List Part) (v : List Bit) → AreParts all parts → All (Lies v) parts → driven all v ≡ parts_give v parts
driven_are all parts v a h = ap (λ xs. driven xs v) a.is ∙ driven_end (spread 0 parts) a.gap v ∙ driven_parts 0 parts v a.ascend h

-- ---- which bits are there

present_gap : (k : ℕ) (xs : Slots) → present (replicate k None ++ xs) ≡ present xs
unfolding present
present_gap zero xs = refl
present_gap (suc k) xs = present_gap k xs

present_run : (bs : List WireBit) (xs : Slots) → present (map Some bs ++ xs) ≡ bs ++ present xs
unfolding present
present_run [] xs = refl
present_run (b ∷ bs) xs = ap (λ zs. b ∷ zs) (present_run bs xs)

present_end : (xs : Slots) (k : ℕ) → present (xs ++ replicate k None) ≡ present xs
unfolding present
present_end [] zero = refl
present_end [] (suc k) = present_end [] k
present_end (Some b ∷ xs) k = ap (λ zs. b ∷ zs) (present_end xs k)
present_end (None ∷ xs) k = present_end xs k

present_spread : (at : ℕ) (parts : List Part) → present (spread at parts) ≡ parts_bits parts
unfolding spread parts_bits present
present_spread at [] = refl
present_spread at (p ∷ more) =
    ap (λ (xs : Slots). present xs) (append_assoc (replicate (p.lo - at) None) (map Some (lhs_bits p.to)) (spread (p.lo + length (lhs_bits p.to)) more))
    ∙ present_gap (p.lo - at) (map Some (lhs_bits p.to) ++ spread (p.lo + length (lhs_bits p.to)) more)
    ∙ present_run (lhs_bits p.to) (spread (p.lo + length (lhs_bits p.to)) more)
    ∙ ap (λ zs. lhs_bits p.to ++ zs) (present_spread (p.lo + length (lhs_bits p.to)) more)

pub present_are : (all : Slots) (parts : List Part) → AreParts all parts → present all ≡ parts_bits parts
present_are all parts a = ap present a.is ∙ present_end (spread 0 parts) a.gap ∙ present_spread 0 parts

pub present_most : (all : Slots) → length (present all) ≤ length all
unfolding present
present_most [] = omega arith
present_most (Some b ∷ all) = let x = present_most all in omega arith
present_most (None ∷ all) = let x = present_most all in omega arith

pub all_there : (all : Slots) → length (present all) ≡ length all → are_present all ≡ true
unfolding present are_present
all_there [] e = refl
all_there (Some b ∷ all) e = all_there all (omega arith)
all_there (None ∷ all) e = absurd (let x = present_most all in omega arith)

pub none_missing : (all : Slots) → are_present all ≡ true → length (present all) ≡ length all
unfolding present are_present
none_missing [] e = refl
none_missing (Some b ∷ all) e = ap suc (none_missing all e)
none_missing (None ∷ all) e = cc

-- ---- slots whose selects are constant and known

names_long : (n k w : ℕ) → length (bit_names n k w) ≡ w
unfolding bit_names
names_long n k zero = refl
names_long n k (suc w) = ap suc (names_long n (suc k) w)

from_long : (all : Slots) (w : ℕ) (p : ℤ) → length (slots_from all p w) ≡ w
unfolding slots_from
from_long all zero p = refl
from_long all (suc w) p = ap suc (from_long all w (p +ℤ pos 1))

chain_long : (x : Layout) (steps : List Step) (all : Slots) → chain_fixed x steps ≡ true → length all ≡ width x → length (chain_slots x steps all) ≡ width_or_none (chain_layout x steps)
unfolding chain_fixed chain_slots chain_layout
chain_long x [] all f l = l
chain_long x (s ∷ more) all f l = by_part x s more all (step_in x s) (λ y ys zs g k. chain_long y more zs g k) f
  where
    by_place : (p : Stepped) (more : List Step) (all : Slots) (o : Option ℤ) → ((zs : Slots) → chain_fixed p.layout more ≡ true → length zs ≡ width p.layout → length (chain_slots p.layout more zs) ≡ width_or_none (chain_layout p.layout more))
        → with_place o false (λ i. chain_fixed p.layout more) ≡ true → length (with_place o all (λ i. chain_slots p.layout more (slots_from all i (width p.layout)))) ≡ width_or_none (chain_layout p.layout more)
    by_place p more all None h f = cc
    by_place p more all (Some i) h f = h (slots_from all i (width p.layout)) f (from_long all (width p.layout) i)

    by_part : (x : Layout) (s : Step) (more : List Step) (all : Slots) (o : Option Stepped) → ((y : Layout) (ys : List Step) (zs : Slots) → chain_fixed y more ≡ true → length zs ≡ width y → length (chain_slots y more zs) ≡ width_or_none (chain_layout y more))
        → with_part o false (λ p. with_place (fixed_place s p) false (λ i. chain_fixed p.layout more)) ≡ true
        → length (with_part o all (λ p. with_place (fixed_place s p) all (λ i. chain_slots p.layout more (slots_from all i (width p.layout))))) ≡ width_or_none (with_part o None (λ p. chain_layout p.layout more))
    by_part x s more all None h f = cc
    by_part x s more all (Some p) h f = by_place p more all (fixed_place s p) (λ zs g k. h p.layout [] zs g k) f

pub slots_long : (ts : List Target) → are_fixed ts ≡ true → length (slots ts) ≡ widths ts
unfolding are_fixed slots widths
slots_long [] f = refl
slots_long (t ∷ more) f =
    let own = sides (chain_fixed t.layout t.steps) (are_fixed more) f in
    let one = chain_long t.layout t.steps (bit_names t.wire 0 (width t.layout)) own.0 (names_long t.wire 0 (width t.layout)) in
    let rest = slots_long more own.1 in
    omega (arith, length-append (slots more) (chain_slots t.layout t.steps (bit_names t.wire 0 (width t.layout))))
  where
    sides : (a b : Bool) → (a && b) ≡ true → (a ≡ true) × (b ≡ true)
    sides true true e = (refl, refl)
    sides true false e = cc
    sides false b e = cc
