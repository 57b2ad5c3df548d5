-- Counts of elements, and what stands against them.
use Rattle.std.proofs.Common.{◌≡◌, ℕ, ◌*◌, ◌/◌, ◌<◌, ◌≤◌, ◌^◌, Bool, true, false, ◌&&◌, not, nat_le, List, refl, sym, ap, ◌∙◌, arith, ℤ, pos, negsuc, int_lt, if◌then◌else◌}
use Rattle.std.proofs.lemmas.Bool.Decides.{nat_tests}
use Rattle.std.proofs.Math.Nat.{le-div_iff_mul-le, mul-le-mul_left}
use Rattle.std.specs.List.{Contains}
use Rattle.fourvec.specs.declared.Bit.{Bit}
use Rattle.fourvec.specs.Bits.{is_negative, number}
use Rattle.sv_outside.specs.declared.refusal.Place.{Place}
use Rattle.sv_meaning.specs.Faults.{bad_width, bad_select}
use Rattle.sv_meaning.specs.Layouts.{count_between}
use Rattle.sv_meaning.specs.Meanings.{goes_along, is_width, is_bound, whole}
use Rattle.sv_names.specs.declared.cursor.Row.{Row}
use Rattle.sv_typing.specs.Ranges.{each_width, IsBetween, between_faults, many_faults}
use Rattle.sv_typing.proofs.Lists.{in_first, in_second, in_fault, no_fault}

true_le : (a b : ℕ) → a ≤ b → nat_le a b ≡ true
true_le a b h = grind (arith, nat_tests)

false_le : (a b : ℕ) → b < a → nat_le a b ≡ false
false_le a b h = grind (arith, nat_tests)

le_true : (a b : ℕ) → nat_le a b ≡ true → a ≤ b
le_true a b h = grind (arith, nat_tests)

le_false : (a b : ℕ) → nat_le a b ≡ false → b < a
le_false a b h = grind (arith, nat_tests)

pub fits_is : (n w : ℕ) → 1 ≤ w → nat_le n (128 / w) ≡ nat_le (n * w) 128
fits_is n w h = go (nat_le n (128 / w)) (nat_le (n * w) 128) refl refl
  where
    go : (b c : Bool) → nat_le n (128 / w) ≡ b → nat_le (n * w) 128 ≡ c → nat_le n (128 / w) ≡ nat_le (n * w) 128
    go true true e f = e ∙ sym f
    go false false e f = e ∙ sym f
    go true false e f = let k = (le-div_iff_mul-le {k = w} {x = n} {y = 128} (omega arith)).0 (le_true n (128 / w) e) in let l = le_false (n * w) 128 f in absurd (omega arith)
    go false true e f = let k = (le-div_iff_mul-le {k = w} {x = n} {y = 128} (omega arith)).1 (le_true (n * w) 128 f) in let l = le_false n (128 / w) e in absurd (omega arith)

pub times_some : (n w : ℕ) → 1 ≤ w → n ≤ n * w
times_some n w h = let e = mul-le-mul_left n h in omega arith

pub ruleset fits = (fits_is, times_some)

-- ---- constant bounds

pub between_ok : (row : Row) (a b : ℤ) (n : ℕ) → goes_along row.left row.right a b ≡ true → n ≡ count_between a b → 1 ≤ n → nat_le (n * each_width row) 128 ≡ true → IsBetween row a b n
between_ok row a b n g e s k = record { along = g; counted = sym e; some = s; most = le_true _ _ k }

pub goes_against : (p : Place) (row : Row) (a b : ℤ) → goes_along row.left row.right a b ≡ false → Contains (between_faults p row a b) (record { number = bad_select; place = p; count = 0 })
goes_against p row a b h = in_first _ _ _ (in_fault _ bad_select p (ap not h))

no_width : (n : ℕ) → nat_le n 128 ≡ false → is_width n ≡ false
no_width n h = grind (arith, nat_tests)

pub too_many : (p : Place) (row : Row) (a b : ℤ) (n : ℕ) → goes_along row.left row.right a b ≡ true → n ≡ count_between a b → nat_le (n * each_width row) 128 ≡ false → Contains (between_faults p row a b) (record { number = bad_width; place = p; count = 0 })
too_many p row a b n g e k =
    in_second _ _ _ (no_fault _ bad_select p (ap not g)) (in_fault _ bad_width p (ap not (ap (λ x. is_width (x * each_width row)) (sym e) ∙ no_width _ k)))

-- ---- widths past 32 bits

above : (n w : ℕ) → 1 ≤ w → 128 < n → is_width (n * w) ≡ false
above n w h k = no_width (n * w) (false_le (n * w) 128 (let e = times_some n w h in omega arith))

large_number : (n : ℕ) → is_bound (pos n) ≡ false → 2 ^ 31 ≤ n
large_number n h = grind (arith, nat_tests)

large_at : (p : Place) (row : Row) (b : Bool) (m n : ℕ) → is_bound (if b then negsuc m else pos n) ≡ false → 1 ≤ each_width row →
    Contains (many_faults p row (if b then negsuc m else pos n)) (record { number = if b then bad_select else bad_width; place = p; count = 0 })
large_at p row true m n h w = (0, omega arith, refl)
large_at p row false m n h w =
    let l = large_number n h in
    let s : int_lt (pos 0) (pos n) ≡ true = some n (omega arith) in
    in_second _ _ _ (no_fault _ bad_select p (ap not s)) (in_fault _ bad_width p (ap not (above n (each_width row) w (omega arith))))
  where
    some : (k : ℕ) → 1 ≤ k → int_lt (pos 0) (pos k) ≡ true
    some k e = grind (arith, nat_tests)

pub large : (p : Place) (row : Row) (s : Bool) (v : List Bit) → is_bound (whole s v) ≡ false → 1 ≤ each_width row →
    Contains (many_faults p row (whole s v)) (record { number = if s && is_negative v then bad_select else bad_width; place = p; count = 0 })
large p row true v h w = large_at p row (is_negative v) _ _ h w
large p row false v h w = large_at p row false 0 (number v) h w
