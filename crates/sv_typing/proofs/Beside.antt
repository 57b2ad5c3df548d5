-- Concatenations, replications and casts to a size.
use Rattle.std.proofs.Common.{◌≡◌, ℕ, zero, suc, ◌+◌, ◌*◌, ◌<◌, ◌≤◌, ◌^◌, Bool, true, false, ◌&&◌, ◌||◌, not, min, drop, nat_le, List, [], ◌∷◌, ◌++◌, length, get_or, map, Option, Some, None, refl, sym, ap, ◌∙◌, subst, arith, ℤ, pos, negsuc, nat_abs, int_lt}
use Rattle.std.proofs.lemmas.Bool.Decides.{nat_tests}
use Rattle.std.proofs.lemmas.List.{at_drop_more, at_drop_all}
use Rattle.std.specs.List.{Contains, AllZip}
use Rattle.sv_outside.specs.declared.refusal.Place.{Place}
use Rattle.sv_meaning.specs.Faults.{fault_if, bad_width}
use Rattle.sv_meaning.specs.Meanings.{Meaning, from, to_layout, parts, is_sized, loose, all_loose, concat, repeated, sized_by, number_of, fixed_faults, is_width, is_bound, whole}
use Rattle.sv_literal.specs.declared.meaning.Literal.{Literal}
use Rattle.sv_tree.specs.declared.exprs.Expr.{Expr}
use Rattle.sv_meaning.specs.Layouts.{Scope, Layout}
use Rattle.sv_meaning.specs.Values.{mean}
use Rattle.sv_typed.specs.declared.tree.Typed.{Typed}
use Rattle.sv_typed.specs.Typed.{Stands, IsSound, width_together, literal_of, clothed}
use Rattle.sv_typed.proofs.Parts.{parts_size}
use Rattle.sv_typing.specs.declared.position.Fixed.{Fixed}
use Rattle.sv_typing.specs.Judging.{IsTyped, AreTyped, IsFixed, Loose, loose_literal, is_loose, any_loose}
use Rattle.sv_typing.specs.Ranges.{IsCopies}
use Rattle.sv_typing.proofs.Lists.{in_left, in_right, in_first, in_second, in_fault, no_fault, both_clear, then_clear}
use Rattle.sv_typing.proofs.Counts.{times_some}
use Rattle.sv_typing.proofs.Spans.{fixed_number}

-- ---- copies

pub no_copies : (i : ℤ) (each : ℕ) → int_lt (pos 0) i ≡ false → (int_lt (pos 0) i && is_width (nat_abs i * each)) ≡ false
no_copies i each h = ap (λ b. b && is_width (nat_abs i * each)) h

and_false : (a b : Bool) → b ≡ false → (a && b) ≡ false
and_false true b h = h
and_false false b h = refl

pub no_bits : (i : ℤ) → (int_lt (pos 0) i && is_width (nat_abs i * 0)) ≡ false
no_bits i = and_false _ _ (let e : nat_abs i * 0 ≡ 0 = omega arith in ap is_width e)

wide : (n : ℕ) → 128 < n → is_width n ≡ false
wide n h = grind (arith, nat_tests)

pub many_bits : (i : ℤ) (each : ℕ) → 128 < nat_abs i * each → (int_lt (pos 0) i && is_width (nat_abs i * each)) ≡ false
many_bits i each h = and_false _ _ (wide _ h)

large_number : (n : ℕ) → is_bound (pos n) ≡ false → 2 ^ 31 ≤ n
large_number n h = grind (arith, nat_tests)

far_at : (n each : ℕ) → 128 < n → is_width (n * each) ≡ false
far_at n zero h = let e : n * 0 ≡ 0 = omega arith in ap is_width e
far_at n (suc k) h = let e = times_some n (suc k) (omega arith) in wide (n * suc k) (omega arith)

pub far_copies : (i : ℤ) (each : ℕ) → is_bound i ≡ false → (int_lt (pos 0) i && is_width (nat_abs i * each)) ≡ false
far_copies (pos n) each h = and_false _ _ (far_at n each (let e = large_number n h in omega arith))
far_copies (negsuc n) each h = refl

width_test : (n : ℕ) → 1 ≤ n → n ≤ 128 → is_width n ≡ true
width_test n h k = grind (arith, nat_tests)

count_test : (k : ℕ) → 1 ≤ k → int_lt (pos 0) (pos k) ≡ true
count_test k h = grind (arith, nat_tests)

both_true : (a b : Bool) → a ≡ true → b ≡ true → (a && b) ≡ true
both_true true b h k = k
both_true false b h k = cc

copies_test : (i : ℤ) (each n : ℕ) → IsCopies i each n → (int_lt (pos 0) i && is_width (nat_abs i * each)) ≡ true
copies_test i each n h =
    ap (λ z. int_lt (pos 0) z && is_width (nat_abs z * each)) h.number ∙ both_true _ _ (count_test n h.some) (width_test (n * each) h.bits h.most)

-- ---- side by side

size_is : (all : List Meaning) (c : Bool) (list : List Typed) → AreTyped all c list → (parts all).size ≡ width_together list
size_is all c list h = parts_size list all h.stands

pub concat_loose : (p : Place) (all : List Meaning) (c : Bool) (list : List Typed) (q : Place) → AreTyped all c list → Contains (all_loose all) (record { number = bad_width; place = q; count = 0 }) →
    Contains ((concat p all).faults c) (record { number = bad_width; place = q; count = 0 })
concat_loose p all c list q h k = in_second ((parts all).faults c) _ _ h.clear (in_first (all_loose all) _ _ k)

pub concat_wide : (p : Place) (all : List Meaning) (c : Bool) (list : List Typed) → AreTyped all c list → all_loose all ≡ [] → is_width (width_together list) ≡ false →
    Contains ((concat p all).faults c) (record { number = bad_width; place = p; count = 0 })
concat_wide p all c list h l w =
    in_second ((parts all).faults c) _ _ h.clear (in_second (all_loose all) _ _ l (in_fault _ bad_width p (ap not (ap is_width (size_is all c list h) ∙ w))))

pub concat_ok : (p : Place) (all : List Meaning) (c : Bool) (list : List Typed) (t : Typed) → AreTyped all c list → all_loose all ≡ [] → 1 ≤ width_together list → width_together list ≤ 128 →
    Stands t (concat p all) → IsSound t → IsTyped (concat p all) ((concat p all).faults c) t
concat_ok p all c list t h l s m x y = record {
  clear = then_clear ((parts all).faults c) _ h.clear (then_clear (all_loose all) _ l (no_fault _ bad_width p (ap not (ap is_width (size_is all c list h) ∙ width_test _ s m))));
  stands = x;
  sound = y;
}

-- ---- copies of parts

pub repeat_loose : (p : Place) (n : Meaning) (f : Fixed) (all : List Meaning) (c : Bool) (list : List Typed) (q : Place) → IsFixed n f → AreTyped all c list → Contains (all_loose all) (record { number = bad_width; place = q; count = 0 }) →
    Contains ((repeated p n all).faults c) (record { number = bad_width; place = q; count = 0 })
repeat_loose p n f all c list q i h k = in_second (fixed_faults n ++ (parts all).faults c) _ _ (both_clear _ _ i.clear h.clear) (in_first (all_loose all) _ _ k)

repeat_test : (n : Meaning) (f : Fixed) (all : List Meaning) (c : Bool) (list : List Typed) → IsFixed n f → AreTyped all c list →
    (int_lt (pos 0) (number_of n) && is_width (nat_abs (number_of n) * (parts all).size)) ≡ (int_lt (pos 0) (whole f.known.signed f.known.value) && is_width (nat_abs (whole f.known.signed f.known.value) * width_together list))
repeat_test n f all c list i h =
    ap (λ z. int_lt (pos 0) (number_of n) && is_width (nat_abs (number_of n) * z)) (size_is all c list h) ∙ ap (λ z. int_lt (pos 0) z && is_width (nat_abs z * width_together list)) (fixed_number n f i)

pub repeat_wide : (p : Place) (n : Meaning) (f : Fixed) (all : List Meaning) (c : Bool) (list : List Typed) → IsFixed n f → AreTyped all c list → all_loose all ≡ [] →
    (int_lt (pos 0) (whole f.known.signed f.known.value) && is_width (nat_abs (whole f.known.signed f.known.value) * width_together list)) ≡ false →
    Contains ((repeated p n all).faults c) (record { number = bad_width; place = p; count = 0 })
repeat_wide p n f all c list i h l w =
    in_second (fixed_faults n ++ (parts all).faults c) _ _ (both_clear _ _ i.clear h.clear) (in_second (all_loose all) _ _ l (in_fault _ bad_width p (ap not (repeat_test n f all c list i h ∙ w))))

pub repeat_ok : (p : Place) (n : Meaning) (f : Fixed) (all : List Meaning) (c : Bool) (list : List Typed) (k : ℕ) (t : Typed) → IsFixed n f → AreTyped all c list → all_loose all ≡ [] → IsCopies (whole f.known.signed f.known.value) (width_together list) k →
    Stands t (repeated p n all) → IsSound t → IsTyped (repeated p n all) ((repeated p n all).faults c) t
repeat_ok p n f all c list k t i h l w x y = record {
  clear = then_clear (fixed_faults n ++ (parts all).faults c) _ (both_clear _ _ i.clear h.clear)
      (then_clear (all_loose all) _ l (no_fault _ bad_width p (ap not (repeat_test n f all c list i h ∙ copies_test _ _ k w))));
  stands = x;
  sound = y;
}

-- ---- casts

cast_test : (n : Meaning) (f : Fixed) → IsFixed n f → (int_lt (pos 0) (number_of n) && is_width (nat_abs (number_of n))) ≡ (int_lt (pos 0) (whole f.known.signed f.known.value) && is_width (nat_abs (whole f.known.signed f.known.value) * 1))
cast_test n f i =
    let e : nat_abs (number_of n) ≡ nat_abs (number_of n) * 1 = omega arith in
    ap (λ z. int_lt (pos 0) (number_of n) && is_width z) e ∙ ap (λ z. int_lt (pos 0) z && is_width (nat_abs z * 1)) (fixed_number n f i)

pub cast_wide : (n m : Meaning) (f : Fixed) (c : Bool) (x : Typed) → IsFixed n f → IsTyped m (m.faults c) x → (int_lt (pos 0) (whole f.known.signed f.known.value) && is_width (nat_abs (whole f.known.signed f.known.value) * 1)) ≡ false →
    Contains ((sized_by n m).faults c) (record { number = bad_width; place = n.start; count = 0 })
cast_wide n m f c x i h w = in_second (fixed_faults n ++ m.faults c) _ _ (both_clear _ _ i.clear h.clear) (in_fault _ bad_width n.start (ap not (cast_test n f i ∙ w)))

pub cast_count : (n : Meaning) (f : Fixed) (k : ℕ) → IsFixed n f → IsCopies (whole f.known.signed f.known.value) 1 k → nat_abs (number_of n) ≡ k
cast_count n f k i w = ap nat_abs (fixed_number n f i ∙ w.number)

pub cast_ok : (n m : Meaning) (f : Fixed) (c : Bool) (x t : Typed) (k : ℕ) → IsFixed n f → IsTyped m (m.faults c) x → IsCopies (whole f.known.signed f.known.value) 1 k → Stands t (sized_by n m) → IsSound t →
    IsTyped (sized_by n m) ((sized_by n m).faults c) t
cast_ok n m f c x t k i h w s y = record {
  clear = then_clear (fixed_faults n ++ m.faults c) _ (both_clear _ _ i.clear h.clear) (no_fault _ bad_width n.start (ap not (cast_test n f i ∙ copies_test _ _ k w)));
  stands = s;
  sound = y;
}

-- ---- parts without a size

with_literal : Meaning → Option Literal → Meaning
with_literal m o = record m { literal = o }

twice : (b : Bool) → b ≡ not (not b)
twice true = refl
twice false = refl

by_literal : (m : Meaning) (o : Option Literal) → is_sized (with_literal m o) ≡ not (loose_literal o)
unfolding with_literal
by_literal m None = refl
by_literal m (Some l) = twice l.sized

sized_is : (t : Typed) (m : Meaning) → Stands t m → is_sized m ≡ not (is_loose t)
unfolding Stands with_literal
sized_is t m h = ap is_sized h.is ∙ by_literal (clothed t m.faults m.names m.start) (literal_of t)

not_twice : (b : Bool) → not (not b) ≡ b
not_twice true = refl
not_twice false = refl

loose_is : (t : Typed) (m : Meaning) → Stands t m → loose m ≡ fault_if (is_loose t) bad_width m.start
loose_is t m h = ap (λ b. fault_if (not b) bad_width m.start) (sized_is t m h) ∙ ap (λ b. fault_if b bad_width m.start) (not_twice (is_loose t))

pub loose_at : (at : Scope) (exprs : List Expr) (parts : List Typed) (i : ℕ) (x : Expr) (t : Typed) (q : Place) → AllZip Stands parts (map (mean at) exprs) → i < length parts → x ≡ get_or exprs i x → t ≡ get_or parts i t →
    is_loose t ≡ true → (mean at x).start ≡ q → Contains (all_loose (map (mean at) exprs)) (record { number = bad_width; place = q; count = 0 })
unfolding all_loose
loose_at at exprs [] i x t q h lt e f b s = absurd (omega arith)
loose_at at [] (p ∷ parts) i x t q h lt e f b s = absurd h
loose_at at (y ∷ exprs) (p ∷ parts) zero x t q h lt e f b s =
    in_left (loose (mean at y)) _ _ (subst (λ v. Contains (loose (mean at v)) (record { number = bad_width; place = q; count = 0 })) e (here x (subst (λ u. Stands u (mean at x)) (sym f) (subst (λ v. Stands p (mean at v)) (sym e) h.0))))
  where
    here : (v : Expr) → Stands t (mean at x) → Contains (loose (mean at x)) (record { number = bad_width; place = q; count = 0 })
    here v k = subst (λ z. Contains z (record { number = bad_width; place = q; count = 0 })) (sym (loose_is t (mean at x) k))
        (subst (λ z. Contains (fault_if (is_loose t) bad_width z) (record { number = bad_width; place = q; count = 0 })) (sym s) (in_fault (is_loose t) bad_width q b))
loose_at at (y ∷ exprs) (p ∷ parts) (suc i) x t q h lt e f b s =
    in_right (loose (mean at y)) _ _ (loose_at at exprs parts i x t q h.1 (omega arith) e f b s)

or_left : (a b : Bool) → (a || b) ≡ false → a ≡ false
or_left false b h = refl
or_left true b h = cc

or_right : (a b : Bool) → (a || b) ≡ false → b ≡ false
or_right false b h = h
or_right true b h = cc

pub none_loose : (at : Scope) (exprs : List Expr) (parts : List Typed) → AllZip Stands parts (map (mean at) exprs) → any_loose parts ≡ false → all_loose (map (mean at) exprs) ≡ []
unfolding all_loose any_loose
none_loose at [] [] h b = refl
none_loose at [] (p ∷ parts) h b = absurd h
none_loose at (y ∷ exprs) [] h b = absurd h
none_loose at (y ∷ exprs) (p ∷ parts) h b =
    both_clear _ _ (loose_is p (mean at y) h.0 ∙ no_fault _ bad_width _ (or_left _ _ b)) (none_loose at exprs parts h.1 (or_right _ _ b))

pub loose_goes : (all : List Typed) (i : ℕ) (x : Typed) → i < length all → x ≡ get_or all i x → is_loose x ≡ false → any_loose (drop (i + 1) all) ≡ any_loose (drop i all)
unfolding any_loose
loose_goes all i x h e k = sym (at_drop_more any_loose all i x h ∙ ap (λ y. is_loose y || any_loose (drop (i + 1) all)) (sym e) ∙ ap (λ y. y || any_loose (drop (i + 1) all)) k)

pub loose_ends : (all : List Typed) (i : ℕ) → length all ≤ i → any_loose (drop i all) ≡ false
unfolding any_loose
loose_ends all i h = at_drop_all any_loose all i h

-- ---- widths that are none

pub no_width : (n w : ℕ) → w ≡ min 255 n → w ≡ 0 → is_width n ≡ false
no_width n w e h = grind (arith, nat_tests)

pub large_width : (n w : ℕ) → w ≡ min 255 n → 128 < w → is_width n ≡ false
large_width n w e h = grind (arith, nat_tests)

pub just : (all : List Meaning) (o : Option Place) → o ≡ None → Loose all o → all_loose all ≡ []
just all o e h = subst (Loose all) e h

pub loose_some : (all : List Meaning) (o : Option Place) (p : Place) → o ≡ Some p → Loose all o → Contains (all_loose all) (record { number = bad_width; place = p; count = 0 })
loose_some all o p e h = subst (Loose all) e h

-- ---- a width that is capped

w_times : (k w : ℕ) → 1 ≤ k → w ≤ k * w
w_times k w h = let e = times_some w k h in omega arith

pub copies_capped : (i : ℤ) (w v k : ℕ) → w ≡ min 255 v → IsCopies i w k → IsCopies i v k
copies_capped i w v k e h =
    let t = w_times k w h.some in
    let m = h.most in
    let s : w ≡ v = omega arith in
    record { number = h.number; some = h.some; bits = subst (λ z. 1 ≤ k * z) s h.bits; most = subst (λ z. k * z ≤ 128) s h.most }

pub capped_false : (i : ℤ) (w v : ℕ) → w ≡ min 255 v → (int_lt (pos 0) i && is_width (nat_abs i * w)) ≡ false → (int_lt (pos 0) i && is_width (nat_abs i * v)) ≡ false
capped_false (negsuc n) w v e h = refl
capped_false (pos zero) w v e h = refl
capped_false (pos (suc n)) w v e h = go (nat_le v 255) refl
  where
    go : (b : Bool) → nat_le v 255 ≡ b → (int_lt (pos 0) (pos (suc n)) && is_width (suc n * v)) ≡ false
    go true k = let l : v ≤ 255 = grind (arith, nat_tests) in let s : w ≡ v = omega arith in subst (λ z. (int_lt (pos 0) (pos (suc n)) && is_width (suc n * z)) ≡ false) s h
    go false k = let l : 255 < v = grind (arith, nat_tests) in and_false _ _ (wide (suc n * v) (let t = w_times (suc n) v (omega arith) in omega arith))

pub some_width : (k v : ℕ) → 1 ≤ k * v → 1 ≤ v
some_width k zero h = let e : k * 0 ≡ 0 = omega arith in omega arith
some_width k (suc v) h = omega arith

-- ---- a cast to a type

pub layout_ok : (p : Place) (x : Layout) (m : Meaning) (c : Bool) (a t : Typed) → IsTyped m (m.faults c) a → Stands t (from p (to_layout x m)) → IsSound t → IsTyped (from p (to_layout x m)) (m.faults c) t
layout_ok p x m c a t h s y = record { clear = h.clear; stands = s; sound = y }

pub same_length : (at : Scope) (exprs : List Expr) (parts : List Typed) → AllZip Stands parts (map (mean at) exprs) → length parts ≡ length exprs
same_length at [] [] h = refl
same_length at [] (p ∷ parts) h = absurd h
same_length at (y ∷ exprs) [] h = absurd h
same_length at (y ∷ exprs) (p ∷ parts) h = ap suc (same_length at exprs parts h.1)
