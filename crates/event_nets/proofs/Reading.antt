-- Reading bits and rows.
use Rattle.std.proofs.Common.{◌≡◌, ℕ, zero, suc, ◌<◌, List, [], ◌∷◌, length, get_or, map, set, refl, ap, inl, inr, arith}
use Rattle.std.proofs.lemmas.Bool.{cases_lt}
use Rattle.std.proofs.lemmas.List.{get_or_past, get_or-replicate, length-replicate}
use Rattle.fourvec.specs.declared.Bit.TheVariants.{Zero, One, Unknown, Floating}
use Rattle.fourvec.specs.Bits.{planes, all_x}
use Rattle.svex_shape.specs.Values.{Vector}

pub one-zero : planes 1 0 0 ≡ Zero ∷ []
unfolding planes
one-zero = refl

pub one-one : planes 1 1 1 ≡ One ∷ []
unfolding planes
one-one = refl

pub one-unknown : planes 1 1 0 ≡ Unknown ∷ []
unfolding planes
one-unknown = refl

pub one-floating : planes 1 0 1 ≡ Floating ∷ []
unfolding planes
one-floating = refl

pub ruleset ones = (one-zero, one-one, one-unknown, one-floating)

pub row-there : (rows : List Vector) (n at : ℕ) → at < length (get_or rows n []) → n < length rows
row-there rows n at h = elim (cases_lt n (length rows)) [
  | inl lt ↦ lt
  | inr past ↦ absurd (omega (arith, h, ap (λ (r : Vector). length r) (get_or_past rows n [] past)))
]

pub all_x-long : (w : ℕ) → length (all_x w) ≡ w
all_x-long w = length-replicate w Unknown

pub all_x-at : (w k : ℕ) → get_or (all_x w) k Unknown ≡ Unknown
all_x-at w k = elim (cases_lt k w) [
  | inl lt ↦ get_or-replicate w k Unknown Unknown lt
  | inr past ↦ get_or_past (all_x w) k Unknown (omega (arith, all_x-long w, past))
]

-- a row of the same width leaves the widths
pub lengths-set : (rows : List Vector) (n : ℕ) (row : Vector) → n < length rows → length row ≡ length (get_or rows n []) → map (λ r. length r) (set rows n row) ≡ map (λ r. length r) rows
lengths-set [] n row h e = absurd (omega (arith, h))
lengths-set (x ∷ rows) zero row h e = ap (λ k. k ∷ map (λ (r : Vector). length r) rows) e
lengths-set (x ∷ rows) (suc n) row h e = ap (λ l. length x ∷ l) (lengths-set rows n row (omega (arith, h)) e)
