-- Each choice has a number, and each number a choice.
use Rattle.std.proofs.Common.{◌≡◌, ℕ, zero, suc, ◌+◌, ◌*◌, ◌/◌, ◌%◌, ◌^◌, ◌<◌, ◌≤◌, List, [], ◌∷◌, map, length, get_or, drop, true, refl, sym, ◌∙◌, ap, subst, arith}
use Rattle.std.specs.List.{All}
use Rattle.std.specs.Prelude.{IsTrue}
use Rattle.std.proofs.lemmas.Nat.{pow-add, div-mul-add}
use Rattle.std.proofs.lemmas.Bool.{eqb-true}
use Rattle.std.proofs.Math.Nat.{mod-eq_of_lt, pow-le-pow_right}
use Rattle.std.proofs.lemmas.Nat.{mul-le}
use Rattle.fourvec.specs.declared.Bit.{Bit}
use Rattle.fourvec.specs.Bits.{vector, is_known, planes, up_plane, low_plane}
use Rattle.fourvec.proofs.Basic.{vector_on_planes, vector-mod, vector_low, length-vector, is_known-vector, is_known_on_planes, planes_of, up_plane-lt, low_plane-lt}
use Rattle.svtv_table.specs.declared.bound.VarDecl.{VarDecl}
use Rattle.svtv_choices.specs.Choices.{bits_of, choice_of, AreNumbered}

pub low_vector : (w n : ℕ) → planes w (n % 2 ^ w) (n % 2 ^ w) ≡ vector w n
low_vector w n = vector_on_planes w (n % 2 ^ w) ∙ vector-mod w n

-- ---- the number of a choice

unfoldable pub number_of : List (List Bit) → ℕ
number_of [] = 0
number_of (v ∷ more) = number_of more * 2 ^ length v + low_plane v

back : (v : List Bit) → is_known v ≡ true → vector (length v) (low_plane v) ≡ v
back v h =
    let same : up_plane v ≡ low_plane v =
    eqb-true (up_plane v) (low_plane v) (sym (is_known_on_planes (length v) (up_plane v) (low_plane v) (up_plane-lt v) (low_plane-lt v)) ∙ (ap is_known (planes_of v) ∙ h)) in
    sym (vector_on_planes (length v) (low_plane v)) ∙ (ap (λ u. planes (length v) u (low_plane v)) (sym same) ∙ planes_of v)

below : (m p q l : ℕ) → m < q → l < p → m * p + l < p * q
below m p q l h k = let e : suc m * p ≤ q * p = mul-le (suc m) p q p h (omega arith) in omega (arith, e)

choice_back : (vars : List VarDecl) (choice : List (List Bit)) → map (λ v. length v) choice ≡ map (λ v. v.width) vars → All (λ v. IsTrue (is_known v)) choice
    → (number_of choice < 2 ^ bits_of vars) × (choice_of vars (number_of choice) ≡ choice)
unfolding bits_of choice_of number_of
choice_back [] [] w k = (omega arith, refl)
choice_back [] (v ∷ choice) w k = absurd (let e = ap length w in omega (arith, e))
choice_back (x ∷ vars) [] w k = absurd (let e = ap length w in omega (arith, e))
choice_back (x ∷ vars) (v ∷ choice) w k =
    let e : length v ≡ x.width = ap (λ xs. get_or xs 0 0) w in
    let rest = choice_back vars choice (ap (drop 1) w) (λ i d l. k (suc i) d (omega (arith, l))) in
    let m = number_of choice in
    let n = m * 2 ^ length v + low_plane v in
    let first : vector x.width n ≡ v = subst (λ s. vector s n ≡ v) e (vector_low (length v) m (low_plane v) ∙ back v (k 0 v (omega arith))) in
    let second : n / 2 ^ x.width ≡ m = subst (λ s. n / 2 ^ s ≡ m) e (div-mul-add m (2 ^ length v) (low_plane v) (low_plane-lt v)) in
    let bound : n < 2 ^ length v * 2 ^ bits_of vars = below m (2 ^ length v) (2 ^ bits_of vars) (low_plane v) rest.0 (low_plane-lt v) in (
      subst (λ s. n < s) (ap (λ s. 2 ^ s * 2 ^ bits_of vars) e ∙ sym (pow-add 2 x.width (bits_of vars))) bound,
      ap (λ u. u ∷ choice_of vars (n / 2 ^ x.width)) first ∙ ap (λ us. v ∷ us) (ap (choice_of vars) second ∙ rest.1),
    )

-- ---- the choice of a number

pub widths_are : (vars : List VarDecl) (n : ℕ) → map (λ v. length v) (choice_of vars n) ≡ map (λ v. v.width) vars
unfolding choice_of
widths_are [] n = refl
widths_are (x ∷ vars) n = rw (length-vector x.width n, widths_are vars (n / 2 ^ x.width)) refl

known_all : (vars : List VarDecl) (n : ℕ) → All (λ v. IsTrue (is_known v)) (choice_of vars n)
unfolding choice_of
known_all [] n i d l = absurd (omega (arith, l))
known_all (x ∷ vars) n zero d l = is_known-vector x.width n
known_all (x ∷ vars) n (suc i) d l = known_all vars (n / 2 ^ x.width) i d (omega (arith, l))

pub all_numbered : AreNumbered
all_numbered vars w = (
  λ n. record { widths = widths_are vars n; known = known_all vars n },
  λ choice h. let e = choice_back vars choice h.widths h.known in (number_of choice, e.0, e.1),
)

pub one_shifted : (w : ℕ) → w ≤ 16 → 1 * 2 ^ w % 18446744073709551616 ≡ 2 ^ w
one_shifted w h = let e : 2 ^ w ≤ 2 ^ 16 = pow-le-pow_right (omega arith) h in mod-eq_of_lt (omega (arith, e)) ∙ (let f : 1 * 2 ^ w ≡ 2 ^ w = omega arith in f)
