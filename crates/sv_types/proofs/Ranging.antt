-- Layouts of ranges.
use Rattle.std.proofs.Common.{◌≡◌, ℕ, zero, suc, min, ◌+◌, ◌*◌, ◌≤◌, ◌<◌, Bool, true, false, ◌&&◌, ◌==◌, not, nat_le, nat_lt, List, [], ◌∷◌, length, drop, get_or, Option, Some, ℤ, IsTrue, Result, Ok, Err, IfOk, refl, sym, ap, ◌∙◌, subst, arith}
use Rattle.std.proofs.lemmas.Bool.Decides.{nat_tests}
use Rattle.std.proofs.Math.Seq.{drop-cons, drop-nil}
use Rattle.sv_outside.specs.declared.refusal.Place.{Place}
use Rattle.sv_outside.specs.declared.refusal.TextErr.{TextErr}
use Rattle.sv_outside.specs.declared.refusal.TextErr.TheVariants.{No}
use Rattle.sv_tree.specs.declared.forms.Range.{Range}
use Rattle.sv_meaning.specs.Faults.{Judged, provided, both, ◌>>=◌, fault_if, bad_width}
use Rattle.sv_meaning.specs.Layouts as m
use Rattle.sv_meaning.specs.Meanings.{Meaning, number_of, is_bound, is_width, whole, fixed_faults, constant_of}
use Rattle.sv_meaning.specs.Forms.{bound_faults, bounds, most_levels, ranged_layout, over_ranges, vector_layout, option_to_list}
use Rattle.sv_names.specs.declared.layout.Layout.{Layout}
use Rattle.sv_names.specs.declared.layout.Form.TheVariants as form
use Rattle.sv_names.specs.declared.layout.Form.TheBlock.{shape-the_row-Layout-0, hidden-the_row-Layout-0}
use Rattle.sv_typing.specs.declared.position.Fixed.{Fixed}
use Rattle.sv_typing.specs.Judging.{IsCause, IsFixed}
use Rattle.sv_names.specs.Kinds.{layout_is, form_is, IsSound, FormIsSound}
use Rattle.sv_names.proofs.Sound.{sound_is, sound_some, sound_depth, some_bits, same_bound}
use mir.Syntax.{w64}
use mir.Val.{to_z, of_z}
use Rattle.sv_typing.proofs.Lists.{in_second, in_fault, no_fault, then_clear}
use Rattle.sv_typing.proofs.OfRules.{cause_first}
use Rattle.sv_types.specs.declared.bounds.Bounds.{Bounds}
use Rattle.sv_types.specs.Types.{Refused, IsBound, JudgesBound, JudgesBounds, IsLayout, JudgesLayout, ranged_form}
use Rattle.sv_types.proofs.Judging.{both_ok, both_left, both_right, then_ok, then_err, then_in, provided_ok, provided_err}

-- ---- bounds

number_is : (x : Meaning) (f : Fixed) → IsFixed x f → number_of x ≡ whole f.known.signed f.known.value
number_is x f h = ap (λ s. whole s (constant_of x)) h.signed ∙ ap (λ v. whole f.known.signed v) h.value

pub bound_ok : (p : Place) (x : Meaning) (f : Fixed) (n : ℤ) → IsFixed x f → n ≡ whole f.known.signed f.known.value → IsTrue (is_bound n) → IsBound (provided (bound_faults p x) (number_of x)) n
bound_ok p x f n h e b =
    let i : number_of x ≡ n = number_is x f h ∙ sym e in
    record {
      is = provided_ok (bound_faults p x) (number_of x) (then_clear (fixed_faults x) _ h.clear (no_fault _ bad_width p (ap not (ap is_bound i ∙ b)))) ∙ ap Ok i;
      bound = b;
    }

pub bound_far : (p : Place) (x : Meaning) (f : Fixed) → IsFixed x f → is_bound (whole f.known.signed f.known.value) ≡ false → Refused (provided (bound_faults p x) (number_of x)) (No (record { number = bad_width; place = p; count = 0 }))
bound_far p x f h b =
    provided_err (bound_faults p x) (number_of x) (No (record { number = bad_width; place = p; count = 0 })) (in_second (fixed_faults x) _ _ h.clear (in_fault _ bad_width p (ap not (ap is_bound (number_is x f h) ∙ b))))

pub bound_cause : (p : Place) (x : Meaning) (e : TextErr) → IsCause (fixed_faults x) e → Refused (provided (bound_faults p x) (number_of x)) e
bound_cause p x e h = provided_err (bound_faults p x) (number_of x) e (cause_first (fixed_faults x) _ e h)

-- ---- what a result says where it is known

pub bounds_ok : (k : Judged (ℤ × ℤ)) (r : Result Bounds TextErr) (b : Bounds) → r ≡ Ok b → JudgesBounds k r → k ≡ Ok (b.left, b.right)
bounds_ok k r b e h = subst (JudgesBounds k) e h

pub bounds_err : (k : Judged (ℤ × ℤ)) (r : Result Bounds TextErr) (x : TextErr) → r ≡ Err x → JudgesBounds k r → Refused k x
bounds_err k r x e h = subst (JudgesBounds k) e h

pub layout_ok : (j : Judged m.Layout) (r : Result Layout TextErr) (x : Layout) → r ≡ Ok x → JudgesLayout j r → IsLayout j x
layout_ok j r x e h = subst (JudgesLayout j) e h

pub layout_err : (j : Judged m.Layout) (r : Result Layout TextErr) (x : TextErr) → r ≡ Err x → JudgesLayout j r → Refused j x
layout_err j r x e h = subst (JudgesLayout j) e h

pub bound_of_result : (j : Judged ℤ) (r : Result ℤ TextErr) (x : ℤ) → r ≡ Ok x → JudgesBound j r → IsBound j x
bound_of_result j r x e h = subst (JudgesBound j) e h

pub bound_refused : (j : Judged ℤ) (r : Result ℤ TextErr) (x : TextErr) → r ≡ Err x → JudgesBound j r → Refused j x
bound_refused j r x e h = subst (JudgesBound j) e h

pub sound_of_layout : (j : Judged m.Layout) (r : Result Layout TextErr) → JudgesLayout j r → IfOk r (λ x. IsSound x)
sound_of_layout j (Ok x) h = h.sound
sound_of_layout j (Err e) h = tt

-- ---- ranges

pub count_some : (l r : ℤ) → 1 ≤ m.count_between l r
count_some l r = omega arith

-- one level more
pub dim_depth : (s : Bool) (l r : ℤ) (each : m.Layout) → m.depth (m.dim s l r each) ≡ suc (m.depth each)
unfolding m.depth
dim_depth s l r each = refl

range_fits : (n d levels : ℕ) → 1 ≤ n → levels ≡ min 1000 d → (is_width n && nat_le (suc d) 1000) ≡ (nat_le n 128 && nat_lt levels 1000)
range_fits n d levels h e = λ i. wide i && deep i
  where
    wide : is_width n ≡ nat_le n 128
    wide = grind (arith, nat_tests)

    deep : nat_le (suc d) 1000 ≡ nat_lt levels 1000
    deep = grind (arith, nat_tests)

-- whether elements make a range
abbrev pub Makes : Layout → Bounds → ℕ → Bool → Type 0
Makes each b levels makes = makes ≡ (nat_le (m.count_between b.left b.right * each.width) 128 && nat_lt levels 1000)

makes_is : (s : Bool) (each : Layout) (b : Bounds) (levels : ℕ) (makes : Bool) → IsSound each → levels ≡ min 1000 (m.depth (layout_is each)) → Makes each b levels makes →
    (is_width (m.width (m.dim s b.left b.right (layout_is each))) && nat_le (m.depth (m.dim s b.left b.right (layout_is each))) most_levels) ≡ makes
makes_is s each b levels makes h d e =
    let count = m.count_between b.left b.right in
    (λ i. is_width (count * sym (sound_is each h) i) && nat_le (dim_depth s b.left b.right (layout_is each) i) 1000)
    ∙ range_fits (count * each.width) (m.depth (layout_is each)) levels (some_bits count each.width (count_some b.left b.right) (sound_some each h)) d
    ∙ sym e

pub made : (each : Layout) (b : Bounds) (levels count : ℕ) (makes : Bool) → count ≡ m.count_between b.left b.right → makes ≡ (nat_le (count * each.width) 128 && nat_lt levels 1000) → Makes each b levels makes
made each b levels count makes e h = h ∙ (λ i. nat_le (e i * each.width) 128 && nat_lt levels 1000)

pub makes_bits : (count each levels : ℕ) (makes : Bool) → makes ≡ (nat_le (count * each) 128 && nat_lt levels 1000) → makes ≡ true → count * each ≤ 128
makes_bits count each levels makes e h = least (count * each) (first_holds (nat_le (count * each) 128) (nat_lt levels 1000) (sym e ∙ h))
  where
    first_holds : (a b : Bool) → (a && b) ≡ true → a ≡ true
    first_holds true b k = refl
    first_holds false b k = k

    least : (n : ℕ) → nat_le n 128 ≡ true → n ≤ 128
    least n k = grind (arith, nat_tests)

pub ranged_ok : (j : Judged m.Layout) (k : Judged (ℤ × ℤ)) (p : Place) (s : Bool) (each x : Layout) (levels : ℕ) (b : Bounds) (makes : Bool) → IsLayout j each → k ≡ Ok (b.left, b.right) → levels ≡ min 1000 (m.depth (layout_is each)) →
    Makes each b levels makes → makes ≡ true → layout_is x ≡ m.dim s b.left b.right (layout_is each) → IsSound x → IsLayout (both j k >>= ranged_layout p s) x
ranged_ok j k p s each x levels b makes h i d mk t e y =
    let D = m.dim s b.left b.right (layout_is each) in
    let f : fault_if (not (is_width (m.width D) && nat_le (m.depth D) most_levels)) bad_width p ≡ [] = no_fault _ bad_width p (ap not (makes_is s each b levels makes h.sound d mk ∙ t)) in
    record {
      is = then_ok (both j k) (ranged_layout p s) (layout_is each, (b.left, b.right)) (layout_is x) (both_ok j k (layout_is each) (b.left, b.right) h.is i)
          (provided_ok _ (m.dim s b.left b.right (layout_is each)) f ∙ ap Ok (sym e));
      sound = y;
    }

pub ranged_wide : (j : Judged m.Layout) (k : Judged (ℤ × ℤ)) (p : Place) (s : Bool) (each : Layout) (levels : ℕ) (b : Bounds) (makes : Bool) → IsLayout j each → k ≡ Ok (b.left, b.right) → levels ≡ min 1000 (m.depth (layout_is each)) →
    Makes each b levels makes → makes ≡ false → Refused (both j k >>= ranged_layout p s) (No (record { number = bad_width; place = p; count = 0 }))
ranged_wide j k p s each levels b makes h i d mk n =
    let D = m.dim s b.left b.right (layout_is each) in
    then_in (both j k) (ranged_layout p s) (layout_is each, (b.left, b.right)) (No (record { number = bad_width; place = p; count = 0 })) (both_ok j k (layout_is each) (b.left, b.right) h.is i)
    (provided_err (fault_if (not (is_width (m.width D) && nat_le (m.depth D) most_levels)) bad_width p) D (No (record { number = bad_width; place = p; count = 0 })) (in_fault _ bad_width p (ap not (makes_is s each b levels makes h.sound d mk ∙ n))))

pub ranged_left : (j : Judged m.Layout) (k : Judged (ℤ × ℤ)) (p : Place) (s : Bool) (e : TextErr) → Refused j e → Refused (both j k >>= ranged_layout p s) e
ranged_left j k p s e h = then_err (both j k) (ranged_layout p s) e (both_left j k e h)

pub ranged_right : (j : Judged m.Layout) (k : Judged (ℤ × ℤ)) (p : Place) (s : Bool) (e : TextErr) → Refused k e → Refused (both j k >>= ranged_layout p s) e
ranged_right j k p s e h = then_err (both j k) (ranged_layout p s) e (both_right j k e h)

-- ---- many ranges

over_none : (at : m.Scope) (s : Bool) (x : m.Layout) → over_ranges at s [] x ≡ Ok x
unfolding over_ranges
over_none at s x = refl

over_more : (at : m.Scope) (s : Bool) (r : Range) (more : List Range) (x : m.Layout) → over_ranges at s (r ∷ more) x ≡ (both (over_ranges at false more x) (bounds at r) >>= ranged_layout r.place s)
unfolding over_ranges
over_more at s r more x = refl

layout_as : (j k : Judged m.Layout) (r : Result Layout TextErr) → j ≡ k → JudgesLayout k r → JudgesLayout j r
layout_as j k r h x = subst (λ z. JudgesLayout z r) (sym h) x

drop_none : (all : List Range) (i : ℕ) → length all ≤ i → drop i all ≡ []
drop_none [] i h = drop-nil i
drop_none (r ∷ all) zero h = absurd (omega arith)
drop_none (r ∷ all) (suc i) h = drop_none all i (omega arith)

pub ranges_begin : (at : m.Scope) (s : Bool) (all : List Range) (i : ℕ) (x : Layout) → length all ≤ i → IsSound x → JudgesLayout (over_ranges at s (drop i all) (layout_is x)) (Ok x)
ranges_begin at s all i x h y = record { is = ap (λ z. over_ranges at s z (layout_is x)) (drop_none all i h) ∙ over_none at s (layout_is x); sound = y }

and_false : (a b : Bool) → b ≡ false → (a && b) ≡ false
and_false true b h = h
and_false false b h = refl

is_not_zero : (i : ℕ) → 0 < i → (i == 0) ≡ false
is_not_zero i h = grind (arith, nat_tests)

pub ranges_go : (at : m.Scope) (s sign : Bool) (all : List Range) (i k : ℕ) (r : Range) (x : m.Layout) (found next : Result Layout TextErr) (b : Result Bounds TextErr) → k < length all → i ≡ suc k → r ≡ get_or all k r → sign ≡ (s && (k == 0)) →
    JudgesLayout (over_ranges at (s && (i == 0)) (drop i all) x) found → JudgesBounds (bounds at r) b →
    ((j : Judged m.Layout) (k : Judged (ℤ × ℤ)) → JudgesLayout j found → JudgesBounds k b → JudgesLayout (ranged_form r.place sign j k) next) →
    JudgesLayout (over_ranges at (s && (k == 0)) (drop k all) x) next
ranges_go at s sign all i k r x found next b lt e g si h bs rule =
    let t : drop k all ≡ r ∷ drop i all = drop-cons all k r lt ∙ ap (λ (z : Range). z ∷ drop (suc k) all) (sym g) ∙ ap (λ (z : ℕ). r ∷ drop z all) (sym e) in
    let d : (s && (i == 0)) ≡ false = and_false s _ (is_not_zero i (omega arith)) in
    layout_as _ _ next (ap (λ z. over_ranges at (s && (k == 0)) z x) t ∙ ap (λ z. over_ranges at z (r ∷ drop i all) x) (sym si) ∙ over_more at sign r (drop i all) x)
    (rule (over_ranges at false (drop i all) x) (bounds at r) (subst (λ z. JudgesLayout (over_ranges at z (drop i all) x) found) d h) bs)

pub ranges_end : (at : m.Scope) (s : Bool) (all : List Range) (i : ℕ) (x : m.Layout) (found : Result Layout TextErr) → i ≡ 0 → JudgesLayout (over_ranges at (s && (i == 0)) (drop i all) x) found → JudgesLayout (over_ranges at s all x) found
ranges_end at s all i x found e h =
    let a : (s && (0 == 0)) ≡ s = and_true s in
    subst (λ b. JudgesLayout (over_ranges at b all x) found) a (subst (λ (z : ℕ). JudgesLayout (over_ranges at (s && (z == 0)) (drop z all) x) found) e h)
  where
    and_true : (b : Bool) → (b && true) ≡ b
    and_true true = refl
    and_true false = refl

-- ---- ranges as code makes them

pub sound_ok : (r : Result Layout TextErr) (x : Layout) → r ≡ Ok x → IfOk r (λ y. IsSound y) → IsSound x
sound_ok r x e h = subst (λ (z : Result Layout TextErr). IfOk z (λ y. IsSound y)) e h

pub dim_made : (s : Bool) (l r : ℤ) (e each : Layout) → e ≡ each → IsTrue (is_bound l) → IsTrue (is_bound r) → form_is s (form.Dim (to_z w64 (of_z w64 l)) (to_z w64 (of_z w64 r)) e) ≡ m.dim s l r (layout_is each)
unfolding shape-the_row-Layout-0 hidden-the_row-Layout-0 denote.Hole.Carrier.hidden
dim_made s l r e each h bl br = (λ i. m.dim s (same_bound l bl i) (same_bound r br i) (layout_is (h i)))

one_deeper : (n d more : ℕ) → n ≡ min 1000 d → more ≡ min (n + 1) 1000 → more ≡ min 1000 (suc d)
one_deeper n d more h e = omega arith

pub dim_made_sound : (w : ℕ) (s : Bool) (d : ℕ) (l r : ℤ) (e each : Layout) → e ≡ each → IsSound each → IsTrue (is_bound l) → IsTrue (is_bound r) → w ≡ m.count_between l r * each.width → 1 ≤ w → w ≤ 128 → d ≡ min (each.depth + 1) 1000 →
    FormIsSound w s d (form.Dim (to_z w64 (of_z w64 l)) (to_z w64 (of_z w64 r)) e)
unfolding shape-the_row-Layout-0 hidden-the_row-Layout-0 denote.Hole.Carrier.hidden
dim_made_sound w s d l r e each h k bl br v some most deep =
    let i : w ≡ m.count_between l r * m.width (layout_is each) = v ∙ ap (λ n. m.count_between l r * n) (sound_is each k) in
    let j : d ≡ min 1000 (m.depth (m.dim s l r (layout_is each))) = one_deeper each.depth (m.depth (layout_is each)) d (sound_depth each k) deep ∙ ap (min 1000) (sym (dim_depth s l r (layout_is each))) in
    let made : FormIsSound w s d (form.Dim l r each) = (((i, some, most), j), bl, br, k) in
    subst (λ (z : Layout). FormIsSound w s d (form.Dim (to_z w64 (of_z w64 l)) (to_z w64 (of_z w64 r)) z)) (sym h)
    (subst (λ (z : ℤ). FormIsSound w s d (form.Dim (to_z w64 (of_z w64 l)) z each)) (sym (same_bound r br)) (subst (λ (z : ℤ). FormIsSound w s d (form.Dim z r each)) (sym (same_bound l bl)) made))

pub scalar_layout : (s : Bool) (x : Layout) → layout_is x ≡ m.scalar s → IsSound x → IsLayout (Ok (m.scalar s)) x
scalar_layout s x e h = record { is = ap Ok (sym e); sound = h }

pub base_some : (at : m.Scope) (s : Bool) (r : Range) (o : Option Range) (found : Result Layout TextErr) → o ≡ Some r → JudgesLayout (both (Ok (m.scalar false)) (bounds at r) >>= ranged_layout r.place s) found → JudgesLayout (vector_layout at s (option_to_list o)) found
unfolding over_ranges
base_some at s r o found e h = subst (λ (z : Option Range). JudgesLayout (vector_layout at s (option_to_list z)) found) (sym e) h
