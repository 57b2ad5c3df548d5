-- The bits that constant selects name.
use Rattle.std.proofs.Common.{◌≡◌, ℕ, zero, suc, ◌+◌, ◌-◌, ◌≤◌, ◌<◌, Bool, true, false, List, [], ◌∷◌, ◌++◌, length, take, drop, get_or, replicate, Option, Some, None, Result, Ok, Err, IfOk, All, refl, sym, ap, ◌∙◌, subst, arith}
use Rattle.std.specs.Prelude.{◌&&◌, is_some, ℤ, pos, negsuc, neg_ℤ, ◌+ℤ◌, unsigned_abs, slice_get, int_lt}
use Rattle.std.proofs.lemmas.Int.{ints}
use Rattle.std.proofs.Math.Seq.{drop-cons, drop-nil}
use Rattle.std.proofs.lemmas.List.{take_all}
use Rattle.std.specs.List.{AllZip, AllByRecursion}
use Rattle.std.specs.Prelude.{min, if◌then◌else◌}
use Rattle.std.proofs.lemmas.List.Elements.{All-from_recursion, recursion_from_All}
use Rattle.sv_outside.specs.declared.refusal.TextErr.{TextErr}
use Rattle.sv_meaning.specs.Meanings.{nowhere, fixed_faults}
use Rattle.sv_typed.specs.Typed.{PickIsSound, pick_place, place_in}
use Rattle.sv_targets.specs.declared.parts.Target as lowered
use Rattle.fourvec.specs.Spots.{reached}
use Rattle.fourvec.proofs.Places.{parts}
use Rattle.lhs_alias.specs.declared.segs.WireBit.{WireBit}
use Rattle.lhs_alias.specs.Segs.{bit}
use Rattle.sv_meaning.specs.Faults.{Faults}
use Rattle.sv_meaning.specs.Layouts as m
use Rattle.sv_meaning.specs.Meanings.{Meaning}
use Rattle.sv_meaning.specs.Targets.{Target, bit_names, flat, slot_at, slots_from, slots, with_place, chain_slots, are_fixed}
use Rattle.sv_typed.specs.declared.tree.Pick.{Pick}
use Rattle.sv_typing.specs.Picks.{fixed_pick, picked_slots}
use Rattle.sv_typing.specs.Picks as picks
use Rattle.sv_targets.specs.declared.targets.TypedTarget.{TypedTarget}
use Rattle.sv_targets.specs.Targets.{StandsFor, TargetIsSound, JudgesTargets, AreNarrow, width_of_all}
use Rattle.sv_targets.proofs.Targeting.{targets_ok, widths_are}
use Rattle.sv_targets.specs.Slots.{Slots, IsNear, target_slots, slots_of, all_fixed, AreParts, IsLowered}

next : (i : ℕ) → i + 1 ≡ suc i
next i = omega arith

-- ---- wires

names_more : (n k i : ℕ) → bit_names n k (suc i) ≡ bit_names n k i ++ Some (bit n (k + i)) ∷ []
unfolding bit_names
names_more n k zero = let e : k ≡ k + 0 = omega arith in ap (λ j. Some (bit n j) ∷ []) e
names_more n k (suc i) = let e : suc k + i ≡ k + suc i = omega arith in ap (λ (z : Slots). Some (bit n k) ∷ z) (names_more n (suc k) i ∙ ap (λ j. bit_names n (suc k) i ++ Some (bit n j) ∷ []) e)

pub wire_more : (n i : ℕ) (all now : Slots) → all ≡ bit_names n 0 i → now ≡ all ++ Some (bit n i) ∷ [] → now ≡ bit_names n 0 (i + 1)
wire_more n i all now e h = h ∙ ap (λ (z : Slots). z ++ Some (bit n i) ∷ []) e ∙ (let z : i ≡ 0 + i = omega arith in ap (λ j. bit_names n 0 i ++ Some (bit n j) ∷ []) z) ∙ sym (names_more n 0 i) ∙ ap (bit_names n 0) (sym (next i))

pub wire_none : (n : ℕ) → bit_names n 0 0 ≡ []
unfolding bit_names
wire_none n = refl

-- ---- one slot

past : (all : Slots) (k : ℕ) → length all ≤ k → slice_get all k ≡ None
past [] k h = refl
past (x ∷ all) zero h = absurd (omega arith)
past (x ∷ all) (suc k) h = past all k (omega arith)

pub slot_past : (all : Slots) (k : ℕ) → length all ≤ k → None ≡ flat (slice_get all k)
slot_past all k h = ap flat (sym (past all k h))

here : (all : Slots) (k : ℕ) (d : Option WireBit) → k < length all → slice_get all k ≡ Some (get_or all k d)
here [] k d h = absurd (omega arith)
here (x ∷ all) zero d h = refl
here (x ∷ all) (suc k) d h = here all k d (omega arith)

pub slot_here : (all : Slots) (k : ℕ) (b : Option WireBit) → k < length all → b ≡ get_or all k b → b ≡ flat (slice_get all k)
slot_here all k b h e = e ∙ ap flat (sym (here all k b h))

pub slot_up : (all : Slots) (f n : ℕ) (below : Bool) (b : Option WireBit) → below ≡ false → b ≡ flat (slice_get all (f + n)) → b ≡ slot_at all (reached below f +ℤ pos n)
slot_up all f n false b e h = h
slot_up all f n true b e h = cc

pub slot_far : (all : Slots) (f n : ℕ) (below : Bool) → below ≡ false → length all ≤ f + n → None ≡ slot_at all (reached below f +ℤ pos n)
slot_far all f n false e h = slot_past all (f + n) h
slot_far all f n true e h = cc

pub slot_below : (all : Slots) (f n : ℕ) (below : Bool) → below ≡ true → n < f → None ≡ slot_at all (reached below f +ℤ pos n)
slot_below all f n true e h = let i : neg_ℤ (pos f) +ℤ pos n ≡ negsuc (f - suc n) = omega (arith, ints) in rw i refl
slot_below all f n false e h = cc

pub slot_above : (all : Slots) (f n : ℕ) (below : Bool) (b : Option WireBit) → below ≡ true → f ≤ n → b ≡ flat (slice_get all (n - f)) → b ≡ slot_at all (reached below f +ℤ pos n)
slot_above all f n true b e h g = let i : neg_ℤ (pos f) +ℤ pos n ≡ pos (n - f) = omega (arith, ints) in rw i g
slot_above all f n false b e h g = cc

-- ---- slots from a place on

slots_more : (all : Slots) (p : ℤ) (i : ℕ) → slots_from all p (suc i) ≡ slots_from all p i ++ slot_at all (p +ℤ pos i) ∷ []
unfolding slots_from
slots_more all p zero = let e : p ≡ p +ℤ pos 0 = omega (arith, ints) in ap (λ (z : ℤ). slot_at all z ∷ []) e
slots_more all p (suc i) = let e : (p +ℤ pos 1) +ℤ pos i ≡ p +ℤ pos (suc i) = omega (arith, ints) in ap (λ (z : Slots). slot_at all p ∷ z) (slots_more all (p +ℤ pos 1) i ∙ ap (λ (z : ℤ). slots_from all (p +ℤ pos 1) i ++ slot_at all z ∷ []) e)

pub from_more : (all : Slots) (p : ℤ) (i : ℕ) (part now : Slots) (b : Option WireBit) → part ≡ slots_from all p i → now ≡ part ++ b ∷ [] → b ≡ slot_at all (p +ℤ pos i) → now ≡ slots_from all p (i + 1)
from_more all p i part now b e h g = h ∙ ap (λ (z : Slots). z ++ b ∷ []) e ∙ ap (λ z. slots_from all p i ++ z ∷ []) g ∙ sym (slots_more all p i) ∙ ap (slots_from all p) (sym (next i))

pub from_none : (all : Slots) (p : ℤ) → slots_from all p 0 ≡ []
unfolding slots_from
from_none all p = refl

all_none : (all : Slots) (z : ℤ) (w : ℕ) → ((k : ℕ) → k < w → slot_at all (z +ℤ pos k) ≡ None) → slots_from all z w ≡ replicate w None
unfolding slots_from
all_none all z zero h = refl
all_none all z (suc w) h =
    let e : z ≡ z +ℤ pos 0 = omega (arith, ints) in
    let first : slot_at all z ≡ None = ap (slot_at all) e ∙ h 0 (omega arith) in
    let rest = all_none all (z +ℤ pos 1) w (λ k lt. let n : (z +ℤ pos 1) +ℤ pos k ≡ z +ℤ pos (suc k) = omega (arith, ints) in ap (slot_at all) n ∙ h (suc k) (omega arith)) in
    ap (λ b. b ∷ slots_from all (z +ℤ pos 1) w) first ∙ ap (λ (s : Slots). None ∷ s) rest

far_at : (all : Slots) (below : Bool) (f w : ℕ) → 128 ≤ f → length all ≤ 128 → w ≤ 128 → slots_from all (reached below f) w ≡ replicate w None
far_at all true f w h l m = all_none all (neg_ℤ (pos f)) w (λ k lt. sym (slot_below all f k true refl (omega arith)))
far_at all false f w h l m = all_none all (pos f) w (λ k lt. sym (slot_far all f k false refl (omega arith)))

pub far_none : (all : Slots) (z : ℤ) (w : ℕ) → 128 ≤ unsigned_abs z → length all ≤ 128 → w ≤ 128 → slots_from all z w ≡ replicate w None
far_none all z w h l m = ap (λ (x : ℤ). slots_from all x w) (parts z) ∙ far_at all (int_lt z (pos 0)) (unsigned_abs z) w h l m

-- ---- picks

split : (picks : List Pick) (i : ℕ) (p : Pick) → i < length picks → p ≡ get_or picks i p → drop i picks ≡ p ∷ drop (i + 1) picks
split picks i p h e = drop-cons picks i p h ∙ ap (λ (z : Pick). z ∷ drop (suc i) picks) (sym e) ∙ ap (λ (k : ℕ). p ∷ drop k picks) (sym (next i))

placed : (p : Pick) (more : List Pick) (all : Slots) (z : ℤ) → fixed_pick p ≡ Some z → picked_slots (p ∷ more) all ≡ picked_slots more (slots_from all z p.width)
unfolding picked_slots
placed p more all z e = ap (λ (o : Option ℤ). with_place o all (λ i. picked_slots more (slots_from all i p.width))) e

unplaced : (p : Pick) (more : List Pick) (all : Slots) → fixed_pick p ≡ None → picked_slots (p ∷ more) all ≡ all
unfolding picked_slots
unplaced p more all e = ap (λ (o : Option ℤ). with_place o all (λ i. picked_slots more (slots_from all i p.width))) e

pub pick_stays : (picks : List Pick) (i : ℕ) (p : Pick) (all total : Slots) → i < length picks → p ≡ get_or picks i p → fixed_pick p ≡ None → total ≡ picked_slots (drop i picks) all → all ≡ total
pick_stays picks i p all total h e n t = sym (t ∙ ap (λ (z : List Pick). picked_slots z all) (split picks i p h e) ∙ unplaced p (drop (i + 1) picks) all n)

pub pick_goes : (picks : List Pick) (i : ℕ) (p : Pick) (all part total : Slots) (z : ℤ) → i < length picks → p ≡ get_or picks i p → fixed_pick p ≡ Some z → part ≡ slots_from all z p.width → total ≡ picked_slots (drop i picks) all → total ≡ picked_slots (drop (i + 1) picks) part
pick_goes picks i p all part total z h e n g t = t ∙ ap (λ (q : List Pick). picked_slots q all) (split picks i p h e) ∙ placed p (drop (i + 1) picks) all z n ∙ ap (picked_slots (drop (i + 1) picks)) (sym g)

picks_done : (picks : List Pick) (i : ℕ) → length picks ≤ i → drop i picks ≡ []
picks_done [] i h = drop-nil i
picks_done (p ∷ picks) zero h = absurd (omega arith)
picks_done (p ∷ picks) (suc i) h = picks_done picks i (omega arith)

pub picks_end : (picks : List Pick) (i : ℕ) (all total : Slots) → length picks ≤ i → total ≡ picked_slots (drop i picks) all → all ≡ total
unfolding picked_slots
picks_end picks i all total h t = sym (t ∙ ap (λ (z : List Pick). picked_slots z all) (picks_done picks i h))

-- ---- all targets

pub slots_up : (ts : List TypedTarget) (i k : ℕ) (t : TypedTarget) (all more now : Slots) → k < length ts → i ≡ suc k → t ≡ get_or ts k t → all ≡ slots_of (drop i ts) → more ≡ target_slots t → now ≡ all ++ more → now ≡ slots_of (drop k ts)
unfolding slots_of
slots_up ts i k t all more now h e g a b c =
    let s : drop k ts ≡ t ∷ drop i ts = drop-cons ts k t h ∙ ap (λ (z : TypedTarget). z ∷ drop (suc k) ts) (sym g) ∙ ap (λ (j : ℕ). t ∷ drop j ts) (sym e) in
    c ∙ (λ i. a i ++ b i) ∙ sym (ap slots_of s)

targets_done : (ts : List TypedTarget) (i : ℕ) → length ts ≤ i → drop i ts ≡ []
targets_done [] i h = drop-nil i
targets_done (p ∷ picks) zero h = absurd (omega arith)
targets_done (p ∷ picks) (suc i) h = targets_done picks i (omega arith)

pub slots_begin : (ts : List TypedTarget) (all : Slots) → all ≡ [] → all ≡ slots_of (drop (length ts) ts)
unfolding slots_of
slots_begin ts all e = e ∙ sym (ap slots_of (targets_done ts (length ts) (omega arith)))

pub slots_are : (judge : Meaning → Faults) (all : List TypedTarget) (ts : List Target) → AllZip (StandsFor judge) all ts → slots ts ≡ slots_of all
unfolding slots slots_of
slots_are judge [] [] h = refl
slots_are judge [] (t ∷ ts) h = absurd h
slots_are judge (x ∷ all) [] h = absurd h
slots_are judge (x ∷ all) (t ∷ ts) h =
    let s = h.0 in
    let one : chain_slots t.layout t.steps (bit_names t.wire 0 (m.width t.layout)) ≡ target_slots x = s.follows.slots (bit_names t.wire 0 (m.width t.layout)) ∙ (λ i. picked_slots x.picks (bit_names (s.wire i) 0 (s.whole i))) in
    (λ i. slots_are judge all ts h.1 i ++ one i)

-- ---- lists that grow

near_by : (all : Slots) (b : Option WireBit) → AllByRecursion IsNear all → IsNear b → AllByRecursion IsNear (all ++ b ∷ [])
near_by [] b h k = (k, h)
near_by (x ∷ all) b h k = (h.0, near_by all b h.1 k)

pub near_push : (all now : Slots) (b : Option WireBit) → now ≡ all ++ b ∷ [] → All IsNear all → IsNear b → All IsNear now
near_push all now b e h k = subst (All IsNear) (sym e) (All-from_recursion IsNear (all ++ b ∷ []) (near_by all b (recursion_from_All IsNear all h) k))

near_both : (a b : Slots) → AllByRecursion IsNear a → AllByRecursion IsNear b → AllByRecursion IsNear (a ++ b)
near_both [] b h k = k
near_both (x ∷ a) b h k = (h.0, near_both a b h.1 k)

pub near_append : (a b now : Slots) → now ≡ a ++ b → All IsNear a → All IsNear b → All IsNear now
near_append a b now e h k = subst (All IsNear) (sym e) (All-from_recursion IsNear (a ++ b) (near_both a b (recursion_from_All IsNear a h) (recursion_from_All IsNear b k)))

pub near_none : (all : Slots) → all ≡ [] → All IsNear all
near_none all e = subst (All IsNear) (sym e) (λ k d lt. absurd (omega arith))

long_by : (all : Slots) (b : Option WireBit) → length (all ++ b ∷ []) ≡ length all + 1
long_by [] b = refl
long_by (x ∷ all) b = let e = long_by all b in omega arith

pub long_push : (all now : Slots) (b : Option WireBit) (i : ℕ) → now ≡ all ++ b ∷ [] → length all ≡ i → length now ≡ i + 1
long_push all now b i e h = let l = ap length e ∙ long_by all b in omega arith

none_by : (n : ℕ) (s : Slots) → s ≡ None ∷ [] → replicate (suc n) None ≡ replicate n None ++ s
none_by zero s e = sym e
none_by (suc n) s e = ap (λ (z : Slots). None ∷ z) (none_by n s e)

pub none_push : (all now : Slots) (i : ℕ) → all ≡ replicate i None → now ≡ all ++ None ∷ [] → now ≡ replicate (i + 1) None
none_push all now i e h = h ∙ ap (λ (z : Slots). z ++ None ∷ []) e ∙ sym (none_by i (None ∷ []) refl) ∙ ap (λ (k : ℕ). replicate k None) (sym (next i))

-- ---- widths of picks

pub narrow_pick : (p : Pick) → PickIsSound p → p.width ≤ 128
unfolding PickIsSound
narrow_pick p h = h.0.1

pub sound_at : (seen picks : List Pick) (i : ℕ) (p : Pick) → seen ≡ picks → i < length seen → p ≡ get_or seen i p → All PickIsSound picks → PickIsSound p
sound_at seen picks i p s h e k = subst PickIsSound (sym e) (subst (All PickIsSound) (sym s) k i p h)

-- ---- where a pick begins

pub no_place : (p : Pick) → p.constant ≡ false → fixed_pick p ≡ None
no_place p e = ap (λ b. if b then pick_place p nowhere else None) e

pub some_place : (p : Pick) (o : Option ℤ) → p.constant ≡ true → place_in p.place nowhere ≡ o → fixed_pick p ≡ o
some_place p o e h = ap (λ b. if b then pick_place p nowhere else None) e ∙ h

-- ---- what the targets are known by

sound_of : (judge : Meaning → Faults) (all : List TypedTarget) (ts : List Target) → AllZip (StandsFor judge) all ts → AllByRecursion TargetIsSound all
sound_of judge [] [] h = tt
sound_of judge [] (t ∷ ts) h = absurd h
sound_of judge (x ∷ all) [] h = absurd h
sound_of judge (x ∷ all) (t ∷ ts) h = (record { most = h.0.most; picks = h.0.follows.sound }, sound_of judge all ts h.1)

pub sound_targets : (judge : Meaning → Faults) (f : Faults) (ts : List Target) (r : Result (List TypedTarget) TextErr) → JudgesTargets judge f ts r → IfOk r (λ all. All TargetIsSound all)
sound_targets judge f ts (Ok all) h = All-from_recursion TargetIsSound all (sound_of judge all ts h.stand)
sound_targets judge f ts (Err e) h = tt

-- ---- indices that are constant and known

sides : (a b : Bool) → (a && b) ≡ true → (a ≡ true) × (b ≡ true)
sides true true e = (refl, refl)
sides true false e = cc
sides false b e = cc

right_false : (a b : Bool) → b ≡ false → (a && b) ≡ false
right_false true b e = e
right_false false b e = refl

known_first : (q : Pick) (more : List Pick) → picks.are_fixed (q ∷ more) ≡ (is_some (fixed_pick q) && picks.are_fixed more)
unfolding picks.are_fixed
known_first q more = go (fixed_pick q)
  where
    go : (o : Option ℤ) → with_place o false (λ i. picks.are_fixed more) ≡ (is_some o && picks.are_fixed more)
    go None = refl
    go (Some i) = refl

pub none_known : true ≡ picks.are_fixed []
unfolding picks.are_fixed
none_known = refl

known_next : (all : List Pick) (i : ℕ) (q : Pick) → i < length all → q ≡ get_or all i q → is_some (fixed_pick q) ≡ true → picks.are_fixed (take i all) ≡ true → picks.are_fixed (take (suc i) all) ≡ true
known_next [] i q l e k h = absurd (omega arith)
known_next (p ∷ more) zero q l e k h = known_first p [] ∙ ap (λ b. b && picks.are_fixed []) (ap (λ x. is_some (fixed_pick x)) (sym e) ∙ k) ∙ sym none_known
known_next (p ∷ more) (suc i) q l e k h =
    let own = sides (is_some (fixed_pick p)) (picks.are_fixed (take i more)) (sym (known_first p (take i more)) ∙ h) in
    known_first p (take (suc i) more) ∙ ap (λ b. b && picks.are_fixed (take (suc i) more)) own.0 ∙ known_next more i q (omega arith) e k own.1

pub known_more : (all : List Pick) (i : ℕ) (q : Pick) → i < length all → q ≡ get_or all i q → is_some (fixed_pick q) ≡ true → picks.are_fixed (take i all) ≡ true → picks.are_fixed (take (i + 1) all) ≡ true
known_more all i q l e k h = ap (λ n. picks.are_fixed (take n all)) (next i) ∙ known_next all i q l e k h

pub known_end : (all : List Pick) (i : ℕ) → length all ≤ i → picks.are_fixed (take i all) ≡ true → true ≡ picks.are_fixed all
known_end all i l h = sym (ap picks.are_fixed (sym (take_all i all l)) ∙ h)

pub unknown_one : (all : List Pick) (i : ℕ) (q : Pick) → i < length all → q ≡ get_or all i q → is_some (fixed_pick q) ≡ false → false ≡ picks.are_fixed all
unfolding picks.are_fixed
unknown_one [] i q l e k = absurd (omega arith)
unknown_one (p ∷ more) zero q l e k = sym (known_first p more ∙ ap (λ b. b && picks.are_fixed more) (ap (λ x. is_some (fixed_pick x)) (sym e) ∙ k))
unknown_one (p ∷ more) (suc i) q l e k = sym (known_first p more ∙ right_false (is_some (fixed_pick p)) (picks.are_fixed more) (sym (unknown_one more i q (omega arith) e k)))

pub none_fixed : true ≡ all_fixed []
unfolding all_fixed
none_fixed = refl

fixed_next : (all : List TypedTarget) (i : ℕ) (x : TypedTarget) → i < length all → x ≡ get_or all i x → picks.are_fixed x.picks ≡ true → all_fixed (take i all) ≡ true → all_fixed (take (suc i) all) ≡ true
unfolding all_fixed
fixed_next [] i x l e k h = absurd (omega arith)
fixed_next (y ∷ more) zero x l e k h = ap (λ b. b && true) (ap (λ (z : TypedTarget). picks.are_fixed z.picks) (sym e) ∙ k)
fixed_next (y ∷ more) (suc i) x l e k h =
    let own = sides (picks.are_fixed y.picks) (all_fixed (take i more)) h in ap (λ b. b && all_fixed (take (suc i) more)) own.0 ∙ fixed_next more i x (omega arith) e k own.1

pub fixed_more : (all : List TypedTarget) (i : ℕ) (x : TypedTarget) → i < length all → x ≡ get_or all i x → picks.are_fixed x.picks ≡ true → all_fixed (take i all) ≡ true → all_fixed (take (i + 1) all) ≡ true
fixed_more all i x l e k h = ap (λ n. all_fixed (take n all)) (next i) ∙ fixed_next all i x l e k h

pub fixed_end : (all : List TypedTarget) (i : ℕ) → length all ≤ i → all_fixed (take i all) ≡ true → true ≡ all_fixed all
fixed_end all i l h = sym (ap all_fixed (sym (take_all i all l)) ∙ h)

pub not_fixed_one : (all : List TypedTarget) (i : ℕ) (x : TypedTarget) → i < length all → x ≡ get_or all i x → picks.are_fixed x.picks ≡ false → false ≡ all_fixed all
unfolding all_fixed
not_fixed_one [] i x l e k = absurd (omega arith)
not_fixed_one (y ∷ more) zero x l e k = sym (ap (λ b. b && all_fixed more) (ap (λ (z : TypedTarget). picks.are_fixed z.picks) (sym e) ∙ k))
not_fixed_one (y ∷ more) (suc i) x l e k = sym (right_false (picks.are_fixed y.picks) (all_fixed more) (sym (not_fixed_one more i x (omega arith) e k)))

fixed_are : (judge : Meaning → Faults) (all : List TypedTarget) (ts : List Target) → AllZip (StandsFor judge) all ts → are_fixed ts ≡ all_fixed all
unfolding are_fixed all_fixed
fixed_are judge [] [] h = refl
fixed_are judge [] (t ∷ ts) h = absurd h
fixed_are judge (x ∷ all) [] h = absurd h
fixed_are judge (x ∷ all) (t ∷ ts) h = let s = h.0 in ap (λ b. b && are_fixed ts) s.follows.fixed ∙ ap (λ b. picks.are_fixed x.picks && b) (fixed_are judge all ts h.1)

-- ---- all of it

pub lowered_ok : (f : Faults) (ts : List Target) (r : Result (List TypedTarget) TextErr) (all : List TypedTarget) (slots_now : Slots) (x : lowered.Target) (w : ℕ) → r ≡ Ok all → JudgesTargets fixed_faults f ts r → AreNarrow r → IfOk r (λ (z : List TypedTarget). 1 ≤ width_of_all z) → w ≡ min 255 (width_of_all all) → x.width ≡ w → slots_now ≡ slots_of all → AreParts slots_now x.parts → x.fixed ≡ all_fixed all → IsLowered f ts x
lowered_ok f ts r all slots_now x w e h n some k v s p g =
    let a = targets_ok fixed_faults f ts r all e h in
    let most : width_of_all all ≤ 128 = subst AreNarrow e n in
    let least : 1 ≤ width_of_all all = subst (λ (z : Result (List TypedTarget) TextErr). IfOk z (λ (y : List TypedTarget). 1 ≤ width_of_all y)) e some in
    let same : width_of_all all ≡ x.width = small (width_of_all all) w x.width most k v in
    record {
      clear = a.clear;
      width = widths_are fixed_faults all ts a.stand ∙ same;
      some = omega (arith, same, least);
      most = omega (arith, same, most);
      parts = subst (λ (z : Slots). AreParts z x.parts) (s ∙ sym (slots_are fixed_faults all ts a.stand)) p;
      fixed = fixed_are fixed_faults all ts a.stand ∙ sym g;
    }
  where
    small : (n w v : ℕ) → n ≤ 128 → w ≡ min 255 n → v ≡ w → n ≡ v
    small n w v h k e = grind (arith)
