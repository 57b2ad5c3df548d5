-- The bits that a target names are bits of the wires that its names stand for.
use Rattle.std.proofs.Common.{inl, ◌≡◌, ℕ, zero, suc, ◌+◌, ◌-◌, ◌<◌, ◌≤◌, Bool, true, false, eqb, List, [], ◌∷◌, ◌++◌, length, map, replicate, get_or, Option, Some, None, refl, sym, ap, ◌∙◌, subst, arith, IsTrue, append_assoc, cond}
use Rattle.std.specs.Prelude.{ℤ, pos, negsuc, ◌+ℤ◌, slice_get, nat_lt, bytes_eq}
use Rattle.std.specs.List.{All, Contains, zip, range_with_len}
use Rattle.std.proofs.lemmas.List.{append-nil}
use Rattle.std.proofs.lemmas.Bool.Decides.{nat_tests}
use Rattle.std.proofs.lemmas.List.Elements.{All-head, All-tail, All-nil, All-cons}
use Rattle.fourvec.proofs.Tables.{left_of, right_of}
use Rattle.sv_tree.specs.declared.exprs.Expr.{Expr, Literal, Name', Concat', Repeat', Row_of-Expr, end_of-Expr, more_of-Expr}
use mathlib.Core.Former.{Count}
use Rattle.sv_outside.specs.declared.refusal.Place.{Place}
use Rattle.sv_tree.specs.declared.word.Word.{Word}
use Rattle.lhs_alias.specs.declared.segs.WireBit.{WireBit}
use Rattle.lhs_alias.specs.declared.segs.Seg.{Seg}
use Rattle.lhs_alias.specs.Segs.{bit, seg_bits, lhs_bits, AreSegs, IsSeg}
use Rattle.lhs_alias.specs.Lies.{IsBitOf, LiesIn, LieIn}
use Rattle.lhs_alias.specs.Pairs.{Falls, FallTo}
use Rattle.driver_resolve.specs.Drivers.{is_wire}
use Rattle.sv_meaning.specs.Patterns.{paren, cast_literal, cast_name, cast_paren, cast_sign, system, unary, binary, choose}
use Rattle.sv_meaning.specs.Faults.{Faults, or_then}
use Rattle.sv_meaning.specs.Layouts.{Name, Layout, width, Scope, What, signal_is, number_is, type_is, genvar_is, of_wires, of_choice, of_samples, find, last_of, or_else, Declared, Entry}
use Rattle.sv_meaning.specs.Meanings.{Step, Part as Stepped, step_in, with_part, fixed_faults}
use Rattle.sv_tree.specs.declared.stmts.Lvalue.{Lvalue, Name as LvName, Concat' as Braces, Row_of-Lvalue, end_of-Lvalue, more_of-Lvalue}
use Rattle.sv_meaning.specs.Values.{mean, step, steps}
use Rattle.sv_meaning.specs.Targets.{Target, target_of, target_faults, targets, targets_of, lvalue_faults, all_lvalue_faults, wide_target, bit_names, flat, slot_at, slots_from, with_place, fixed_place, chain_slots, slots}
use Rattle.sv_meaning.specs.Designs.{as_targets, all_as_targets, actual_faults, part_faults, all_part_faults}
use Rattle.sv_targets.specs.declared.parts.Part.{Part}
use Rattle.sv_targets.specs.declared.parts.Target as lowered
use Rattle.sv_targets.specs.Slots.{Slots, spread, AreParts, IsLowered}
use Rattle.sv_stmt.specs.Blocks.{AreWires}
use Rattle.sv_elab.specs.Working.{AreBelow, parts_bits, wire_seg}

-- ---- what holds of the bits of slots

unfoldable AllThere : (WireBit → Type 0) → Slots → Type 0
AllThere P [] = Unit {0}
AllThere P (None ∷ more) = AllThere P more
AllThere P (Some b ∷ more) = P b × AllThere P more

abbrev MaybeIs : (WireBit → Type 0) → Option WireBit → Type 0
MaybeIs P None = Unit {0}
MaybeIs P (Some b) = P b

there_cons : (P : WireBit → Type 0) (o : Option WireBit) (more : Slots) → MaybeIs P o → AllThere P more → AllThere P (o ∷ more)
unfolding AllThere
there_cons P None more h g = g
there_cons P (Some b) more h g = (h, g)

there_append : (P : WireBit → Type 0) (a b : Slots) → AllThere P a → AllThere P b → AllThere P (a ++ b)
unfolding AllThere
there_append P [] b h g = g
there_append P (None ∷ a) b h g = there_append P a b h g
there_append P (Some x ∷ a) b h g = (h.0, there_append P a b h.1 g)

there_left : (P : WireBit → Type 0) (a b : Slots) → AllThere P (a ++ b) → AllThere P a
unfolding AllThere
there_left P [] b h = tt
there_left P (None ∷ a) b h = there_left P a b h
there_left P (Some x ∷ a) b h = (h.0, there_left P a b h.1)

there_right : (P : WireBit → Type 0) (a b : Slots) → AllThere P (a ++ b) → AllThere P b
unfolding AllThere
there_right P [] b h = h
there_right P (None ∷ a) b h = there_right P a b h
there_right P (Some x ∷ a) b h = there_right P a b h.1

there_names : (P : WireBit → Type 0) (n k w most : ℕ) → k + w ≡ most → ((j : ℕ) → j < most → P (bit n j)) → AllThere P (bit_names n k w)
unfolding AllThere bit_names
there_names P n k zero most e h = tt
there_names P n k (suc w) most e h = (h k (omega (arith, e)), there_names P n (suc k) w most (omega (arith, e)) h)

there_get : (P : WireBit → Type 0) (all : Slots) (k : ℕ) → AllThere P all → MaybeIs P (flat (slice_get all k))
unfolding AllThere
there_get P [] k h = tt
there_get P (None ∷ all) zero h = tt
there_get P (Some b ∷ all) zero h = h.0
there_get P (None ∷ all) (suc k) h = there_get P all k h
there_get P (Some b ∷ all) (suc k) h = there_get P all k h.1

there_at : (P : WireBit → Type 0) (all : Slots) (z : ℤ) → AllThere P all → MaybeIs P (slot_at all z)
there_at P all (pos k) h = there_get P all k h
there_at P all (negsuc k) h = tt

there_from : (P : WireBit → Type 0) (all : Slots) (z : ℤ) (w : ℕ) → AllThere P all → AllThere P (slots_from all z w)
unfolding AllThere slots_from
there_from P all z zero h = tt
there_from P all z (suc w) h = there_cons P (slot_at all z) (slots_from all (z +ℤ pos 1) w) (there_at P all z h) (there_from P all (z +ℤ pos 1) w h)

there_chain : (P : WireBit → Type 0) (x : Layout) (ss : List Step) (all : Slots) → AllThere P all → AllThere P (chain_slots x ss all)
unfolding chain_slots
there_chain P x [] all h = h
there_chain P x (s ∷ more) all h = part (λ y i. there_chain P y more (slots_from all i (width y)) (there_from P all i (width y) h)) (step_in x s)
  where
    place : ((y : Layout) (i : ℤ) → AllThere P (chain_slots y more (slots_from all i (width y)))) → (p : Stepped) (o : Option ℤ) → AllThere P (with_place o all (λ i. chain_slots p.layout more (slots_from all i (width p.layout))))
    place f p None = h
    place f p (Some i) = f p.layout i

    part : ((y : Layout) (i : ℤ) → AllThere P (chain_slots y more (slots_from all i (width y)))) → (o : Option Stepped) → AllThere P (with_part o all (λ p. with_place (fixed_place s p) all (λ i. chain_slots p.layout more (slots_from all i (width p.layout)))))
    part f None = h
    part f (Some p) = place f p (fixed_place s p)

slots_append : (a b : List Target) → slots (a ++ b) ≡ slots b ++ slots a
unfolding slots
slots_append [] b = sym (append-nil (slots b))
slots_append (t ∷ a) b =
    ap (λ (z : Slots). z ++ chain_slots t.layout t.steps (bit_names t.wire 0 (width t.layout))) (slots_append a b)
    ∙ append_assoc (slots b) (slots a) (chain_slots t.layout t.steps (bit_names t.wire 0 (width t.layout)))

-- ---- what holds of the bits of names

abbrev OfNames : (WireBit → Type 0) → Scope → Type 0
OfNames P at = (name : Name) (n : ℕ) (x : Layout) → find name at ≡ Some (signal_is of_wires n x) → (j : ℕ) → j < width x → P (bit n j)

left_clear : (a b : Faults) → a ++ b ≡ [] → a ≡ []
left_clear [] b h = refl
left_clear (f ∷ a) b h = cc

right_clear : (a b : Faults) → a ++ b ≡ [] → b ≡ []
right_clear [] b h = h
right_clear (f ∷ a) b h = cc

first_clear : (a b : Faults) → or_then a b ≡ [] → a ≡ []
first_clear [] b h = refl
first_clear (f ∷ a) b h = cc

name_there : (P : WireBit → Type 0) (at : Scope) (q : Place) (w : Word) (ss : List Step) → OfNames P at → (o : Option What) → find w.text at ≡ o → target_faults fixed_faults q w o ss ≡ [] → AllThere P (slots (target_of o ss ∷ []))
unfolding slots
name_there P at q w ss h (Some (signal_is of_wires n x)) e c = there_chain P x ss (bit_names n 0 (width x)) (there_names P n 0 (width x) (width x) (let z : 0 + width x ≡ width x = omega arith in z) (h w.text n x e))
name_there P at q w ss h (Some (signal_is of_choice n x)) e c = cc
name_there P at q w ss h (Some (signal_is of_samples n x)) e c = cc
name_there P at q w ss h (Some (number_is v s)) e c = cc
name_there P at q w ss h (Some (type_is t)) e c = cc
name_there P at q w ss h (Some genvar_is) e c = cc
name_there P at q w ss h None e c = cc

no_slots : (P : WireBit → Type 0) → AllThere P (slots [])
unfolding slots AllThere
no_slots P = tt

mutual
  unfolding as_targets part_faults

  actual_there : (P : WireBit → Type 0) (q : Place) (index at : Scope) (x : Expr) → OfNames P at → part_faults q index at x ≡ [] → AllThere P (slots (as_targets index at x))
  actual_there P q index at (Name' w s all) h c = name_there P at q w (steps index all) h (find w.text at) refl c
  actual_there P q index at (Concat' p s all) h c = actuals_there P q index at all h (first_clear (all_part_faults q index at all) (wide_target p (all_as_targets index at all)) c)
  actual_there P q index at (Literal w) h c = cc
  actual_there P q index at (paren p x) h c = cc
  actual_there P q index at (Repeat' p r (more_of-Expr n end_of-Expr) s row) h c = cc
  actual_there P q index at (cast_literal w x) h c = cc
  actual_there P q index at (cast_name w x) h c = cc
  actual_there P q index at (cast_paren p n x) h c = cc
  actual_there P q index at (cast_sign s p x) h c = cc
  actual_there P q index at (system f p x) h c = cc
  actual_there P q index at (unary op p x) h c = cc
  actual_there P q index at (binary x op p y) h c = cc
  actual_there P q index at (choose t x y) h c = cc

  actuals_there : {m : Count} (P : WireBit → Type 0) (q : Place) (index at : Scope) (all : Row_of-Expr m) → OfNames P at → all_part_faults q index at all ≡ [] → AllThere P (slots (all_as_targets index at all))
  actuals_there P q index at end_of-Expr h c = no_slots P
  actuals_there P q index at (more_of-Expr x all) h c =
      subst (AllThere P) (sym (slots_append (as_targets index at x) (all_as_targets index at all)))
      (there_append P (slots (all_as_targets index at all)) (slots (as_targets index at x)) (actuals_there P q index at all h (right_clear (part_faults q index at x) (all_part_faults q index at all) c)) (actual_there P q index at x h (left_clear (part_faults q index at x) (all_part_faults q index at all) c)))

mutual
  unfolding targets lvalue_faults

  lvalue_there : (P : WireBit → Type 0) (index at : Scope) (to : Lvalue) → OfNames P at → lvalue_faults fixed_faults index at to ≡ [] → AllThere P (slots (targets index at to))
  lvalue_there P index at (LvName w all) h c = name_there P at w.place w (map (step index) all) h (find w.text at) refl c
  lvalue_there P index at (Braces p s all) h c = lvalues_there P index at all h (first_clear (all_lvalue_faults fixed_faults index at all) (wide_target p (targets_of index at all)) c)

  lvalues_there : {m : Count} (P : WireBit → Type 0) (index at : Scope) (all : Row_of-Lvalue m) → OfNames P at → all_lvalue_faults fixed_faults index at all ≡ [] → AllThere P (slots (targets_of index at all))
  lvalues_there P index at end_of-Lvalue h c = no_slots P
  lvalues_there P index at (more_of-Lvalue x all) h c =
      subst (AllThere P) (sym (slots_append (targets index at x) (targets_of index at all)))
      (there_append P (slots (targets_of index at all)) (slots (targets index at x)) (lvalues_there P index at all h (right_clear (lvalue_faults fixed_faults index at x) (all_lvalue_faults fixed_faults index at all) c)) (lvalue_there P index at x h (left_clear (lvalue_faults fixed_faults index at x) (all_lvalue_faults fixed_faults index at all) c)))

-- ---- the bits of parts

somes_all : (P : WireBit → Type 0) (bits : List WireBit) → AllThere P (map Some bits) → All P bits
unfolding AllThere
somes_all P [] h = All-nil P
somes_all P (b ∷ bits) h = All-cons P b bits h.0 (somes_all P bits h.1)

abbrev PartIs : (WireBit → Type 0) → Part → Type 0
PartIs P p = All P (lhs_bits p.to)

spread_parts : (P : WireBit → Type 0) (at : ℕ) (parts : List Part) → AllThere P (spread at parts) → All (PartIs P) parts
unfolding spread
spread_parts P at [] h = All-nil (PartIs P)
spread_parts P at (p ∷ more) h =
    let gap : Slots = replicate (p.lo - at) None in
    let own : Slots = map Some (lhs_bits p.to) in
    let rest : Slots = spread (p.lo + length (lhs_bits p.to)) more in
    All-cons (PartIs P) p more (somes_all P (lhs_bits p.to) (there_right P gap own (there_left P (gap ++ own) rest h))) (spread_parts P (p.lo + length (lhs_bits p.to)) more (there_right P (gap ++ own) rest h))

parts_are : (P : WireBit → Type 0) (all : Slots) (parts : List Part) → AreParts all parts → AllThere P all → All (PartIs P) parts
parts_are P all parts a h = spread_parts P 0 parts (there_left P (spread 0 parts) (replicate a.gap None) (subst (AllThere P) a.is h))

all_append : (P : WireBit → Type 0) (a b : List WireBit) → All P a → All P b → All P (a ++ b)
all_append P [] b h g = g
all_append P (x ∷ a) b h g = All-cons P x (a ++ b) (All-head P x a h) (all_append P a b (All-tail P x a h) g)

bits_are : (P : WireBit → Type 0) (parts : List Part) → All (PartIs P) parts → All P (parts_bits parts)
unfolding parts_bits
bits_are P [] h = All-nil P
bits_are P (p ∷ more) h = all_append P (lhs_bits p.to) (parts_bits more) (All-head (PartIs P) p more h) (bits_are P more (All-tail (PartIs P) p more h))

-- ---- segments

right_all : (P : WireBit → Type 0) (a b : List WireBit) → All P (a ++ b) → All P b
right_all P [] b h = h
right_all P (x ∷ a) b h = right_all P a b (All-tail P x (a ++ b) h)

left_all : (P : WireBit → Type 0) (a b : List WireBit) → All P (a ++ b) → All P a
left_all P [] b h = All-nil P
left_all P (x ∷ a) b h = All-cons P x a (All-head P x (a ++ b) h) (left_all P a b (All-tail P x (a ++ b) h))

last_bit : (P : WireBit → Type 0) (n lo w : ℕ) → All P (map (bit n) (range_with_len lo (suc w))) → P (bit n (lo + w))
last_bit P n lo zero h = let e : lo ≡ lo + 0 = omega arith in subst (λ (k : ℕ). P (bit n k)) e (All-head P (bit n lo) [] h)
last_bit P n lo (suc w) h = let e : lo + 1 + w ≡ lo + suc w = omega arith in subst (λ (k : ℕ). P (bit n k)) e (last_bit P n (lo + 1) w (All-tail P (bit n lo) (map (bit n) (range_with_len (lo + 1) (suc w))) h))

seg_lies : (widths : List ℕ) (n lo w : ℕ) → IsSeg (record { wire = n; lo = lo; width = w }) → All (IsBitOf widths) (seg_bits (record { wire = n; lo = lo; width = w })) → LiesIn widths (record { wire = n; lo = lo; width = w })
unfolding seg_bits
seg_lies widths n lo zero s h = absurd (omega (arith, s.some))
seg_lies widths n lo (suc w) s h = let b = last_bit (IsBitOf widths) n lo w h in record { whole = s; wire = b.wire; ends = let p = b.place in omega (arith, p) }

segs_lie : (widths : List ℕ) (segs : List Seg) → AreSegs segs → All (IsBitOf widths) (lhs_bits segs) → LieIn widths segs
segs_lie widths [] s h = All-nil (LiesIn widths)
segs_lie widths (x ∷ segs) s h =
    All-cons (LiesIn widths) x segs (seg_lies widths x.wire x.lo x.width (All-head IsSeg x segs s) (right_all (IsBitOf widths) (lhs_bits segs) (seg_bits x) h))
    (segs_lie widths segs (All-tail IsSeg x segs s) (left_all (IsBitOf widths) (lhs_bits segs) (seg_bits x) h))

parts_lie : (widths : List ℕ) (parts : List Part) → All (λ (p : Part). AreSegs p.to) parts → All (PartIs (IsBitOf widths)) parts → All (λ (p : Part). LieIn widths p.to) parts
parts_lie widths [] s h = All-nil _
parts_lie widths (p ∷ more) s h =
    All-cons (λ (p : Part). LieIn widths p.to) p more (segs_lie widths p.to (All-head (λ (p : Part). AreSegs p.to) p more s) (All-head (PartIs (IsBitOf widths)) p more h))
    (parts_lie widths more (All-tail (λ (p : Part). AreSegs p.to) p more s) (All-tail (PartIs (IsBitOf widths)) p more h))

-- ---- wires

wire_of : (widths : List ℕ) (n w : ℕ) → IsTrue (is_wire widths n w) → (n < length widths) × (get_or widths n 0 ≡ w)
wire_of widths n w h =
    let a : nat_lt n (length widths) ≡ true = left_of (nat_lt n (length widths)) (eqb (get_or widths n 0) w) h in
    let b : eqb (get_or widths n 0) w ≡ true = right_of (nat_lt n (length widths)) (eqb (get_or widths n 0) w) h in
    (grind (arith, nat_tests, a), grind (arith, nat_tests, b))

pub whole_lies : (widths : List ℕ) (n w : ℕ) (target : List Seg) → IsTrue (is_wire widths n w) → 1 ≤ w → w ≤ 128 → target ≡ wire_seg n w ∷ [] → LieIn widths target
whole_lies widths n w target h some most e =
    let i = wire_of widths n w h in
    let same = i.1 in
    subst (LieIn widths) (sym e) (All-cons (LiesIn widths) (wire_seg n w) [] (record { whole = record { some = some; ends = omega (arith, most) }; wire = i.0; ends = omega (arith, same) }) (All-nil (LiesIn widths)))

chosen_entry : (b : Bool) (e x : What) → cond b (Some e) None ≡ Some x → e ≡ x
chosen_entry true e x h = cc
chosen_entry false e x h = cc

abbrev Entered : List Entry → What → Type 0
Entered at x = (n : Name) × Contains at (n, x)

entered : (n : Name) (at : List Entry) (x : What) → last_of n at ≡ Some x → Entered at x
unfolding last_of
entered n [] x h = cc
entered n (e ∷ more) x h = go (last_of n more) (λ y k. entered n more y k) h
  where
    go : (o : Option What) → ((y : What) → o ≡ Some y → Entered more y) → or_else o (cond (bytes_eq e.0 n) (Some e.1) None) ≡ Some x → Entered (e ∷ more) x
    go (Some y) f k = let g = f x k in (g.0, (suc g.1.0, (let l = g.1.1 in omega (arith, l)), g.1.2))
    go None f k = (e.0, (0, omega arith, ap (λ y. (e.0, y)) (chosen_entry (bytes_eq e.0 n) e.1 x k)))

named_declared : (at : Scope) (name : Name) (n : ℕ) (x : Layout) → find name at ≡ Some (signal_is of_wires n x) → Declared at (record { owner = of_wires; number = n; width = width x })
named_declared at name n x e = let g = entered name at.all (signal_is of_wires n x) e in inl (record { name = g.0; layout = x; is_there = g.1; wide = refl })

named_bits : (at : Scope) (widths : List ℕ) → AreWires at widths → OfNames (IsBitOf widths) at
named_bits at widths a name n x e j l =
    let i = wire_of widths n (width x) (a.wire (record { owner = of_wires; number = n; width = width x }) (named_declared at name n x e)) in
    let same = i.1 in
    record { wire = i.0; place = omega (arith, same, l) }

named_below : (at : Scope) (top : ℕ) → AreBelow top at → OfNames (λ b. b.wire < top) at
named_below at top a name n x e j l = a (record { owner = of_wires; number = n; width = width x }) (named_declared at name n x e)

-- the parts of an assigned target lie in the wires
pub assigned_lies : (index at : Scope) (to : Lvalue) (t : lowered.Target) (widths : List ℕ) → AreWires at widths → IsLowered (lvalue_faults fixed_faults index at to) (targets index at to) t → All (λ (p : Part). LieIn widths p.to) t.parts
assigned_lies index at to t widths a h =
    let parts = h.parts in
    parts_lie widths t.parts parts.segs (parts_are (IsBitOf widths) (slots (targets index at to)) t.parts parts (lvalue_there (IsBitOf widths) index at to (named_bits at widths a) h.clear))

-- the parts of an actual lie in the wires, and their bits below a port
pub actual_lies : (index at : Scope) (x : Expr) (t : lowered.Target) (widths : List ℕ) → AreWires at widths → IsLowered (actual_faults index at x) (as_targets index at x) t → All (λ (p : Part). LieIn widths p.to) t.parts
actual_lies index at x t widths a h =
    let parts = h.parts in
    parts_lie widths t.parts parts.segs (parts_are (IsBitOf widths) (slots (as_targets index at x)) t.parts parts (actual_there (IsBitOf widths) (mean at x).start index at x (named_bits at widths a) h.clear))

pub actual_below : (index at : Scope) (x : Expr) (t : lowered.Target) (top : ℕ) → AreBelow top at → IsLowered (actual_faults index at x) (as_targets index at x) t → All (λ (b : WireBit). b.wire < top) (parts_bits t.parts)
actual_below index at x t top a h =
    bits_are (λ (b : WireBit). b.wire < top) t.parts
    (parts_are (λ (b : WireBit). b.wire < top) (slots (as_targets index at x)) t.parts h.parts (actual_there (λ (b : WireBit). b.wire < top) (mean at x).start index at x (named_below at top a) h.clear))

-- ---- a port above its actual

run_falls : (n k w : ℕ) (parents : List WireBit) → All (λ (b : WireBit). b.wire < n) parents → All Falls (zip (map (bit n) (range_with_len k w)) parents)
run_falls n k zero parents h = All-nil Falls
run_falls n k (suc w) [] h = All-nil Falls
run_falls n k (suc w) (b ∷ parents) h = All-cons Falls (bit n k, b) _ (All-head (λ (b : WireBit). b.wire < n) b parents h) (run_falls n (k + 1) w parents (All-tail (λ (b : WireBit). b.wire < n) b parents h))

run_long : (n k w : ℕ) → length (map (bit n) (range_with_len k w)) ≡ w
run_long n k zero = refl
run_long n k (suc w) = ap suc (run_long n (k + 1) w)

pub wire_falls : (n w : ℕ) (child : List Seg) (parents : List WireBit) → child ≡ wire_seg n w ∷ [] → length parents ≡ w → All (λ (b : WireBit). b.wire < n) parents → FallTo (lhs_bits child) parents
unfolding seg_bits
wire_falls n w child parents e l h =
    let f : FallTo (lhs_bits (wire_seg n w ∷ [])) parents = record { as_many = run_long n 0 w ∙ sym l; falls = run_falls n 0 w parents h } in
    subst (λ (z : List Seg). FallTo (lhs_bits z) parents) (sym e) f
