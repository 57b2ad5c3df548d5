-- The highest token of a tree, and the first one that so many expressions hold.
use Rattle.std.proofs.Common.{◌≡◌, ℕ, zero, suc, ◌+◌, ◌<◌, ◌≤◌, max, nat_le, Bool, true, false, if◌then◌else◌, List, [], ◌∷◌, ◌++◌, length, refl, arith}
use Rattle.std.proofs.lemmas.Bool.Decides.{nat_tests}
use Rattle.sv_tree.specs.Nesting.{Nesting, Depths, one, two, three, in_expr}
use Rattle.sv_cursor.proofs.Readers.{BadAt}
use Rattle.sv_expr_reader.specs.Reading.{peak, first_at}
use Rattle.sv_expr_reader.proofs.Tokens.{Bad}

pub nil_peak : peak [] ≡ 0
unfolding peak
nil_peak = refl

pub one_peak : peak one ≡ 0
unfolding peak
one_peak = omega arith

pub two_peak : peak two ≡ 0
unfolding peak
two_peak = omega arith

pub three_peak : peak three ≡ 0
unfolding peak
three_peak = omega arith

pub peak_append : (a b : Depths) → peak (a ++ b) ≡ max (peak a) (peak b)
unfolding peak
peak_append [] b = omega arith
peak_append (x ∷ a) b = omega (arith, peak_append a b)

pub peak_in : (a : Depths) → peak (in_expr a) ≤ peak a + 1
unfolding peak in_expr
peak_in [] = omega arith
peak_in (x ∷ a) = omega (arith, peak_in a)

-- ---- the first of them

peak_some : (ns : Depths) → 0 < peak ns → 0 < length ns
unfolding peak
peak_some [] h = absurd (omega arith)
peak_some (n ∷ ns) h = omega arith

pub bad_inside : {X : Type 0} (Worse : X → Type 0) (ns : List X) (k : ℕ) → BadAt Worse ns k → k < length ns
bad_inside Worse [] k h = absurd h
bad_inside Worse (n ∷ ns) zero h = omega arith
bad_inside Worse (n ∷ ns) (suc k) h = omega (arith, bad_inside Worse ns k h)

by_first : (d : ℕ) (n : Nesting) (ns : Depths) (b : Bool) → nat_le d n.exprs ≡ b → (n.exprs < d → BadAt (Bad d) ns (first_at d ns)) → BadAt (Bad d) (n ∷ ns) (if b then 0 else suc (first_at d ns))
by_first d n ns true e rest = grind (arith, nat_tests, e)
by_first d n ns false e rest = rest (grind (arith, nat_tests, e))

pub first_bad : (d : ℕ) (ns : Depths) → d ≤ peak ns → 0 < length ns → BadAt (Bad d) ns (first_at d ns)
unfolding peak first_at
first_bad d [] high some = absurd (omega arith)
first_bad d (n ∷ ns) high some = by_first d n ns (nat_le d n.exprs) refl (λ low. first_bad d ns (omega arith) (peak_some ns (omega arith)))
