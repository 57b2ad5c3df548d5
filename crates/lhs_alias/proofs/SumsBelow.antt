-- Sums over the numbers below n.
use Rattle.std.proofs.Common.{◌≡◌, ◌≢◌, ℕ, zero, suc, ◌+◌, ◌<◌, ◌≤◌, cond, eqb, refl, sym, ◌∙◌, ap, inl, inr, arith}
use Rattle.std.proofs.lemmas.Bool.{cases_eq, cond-true, cond-false, eq-eqb, ne_eqb}
use Rattle.lhs_alias.specs.Roots.{sum_below}

pub sum_below-same : (n : ℕ) (f g : ℕ → ℕ) → ((k : ℕ) → k < n → f k ≡ g k) → sum_below f n ≡ sum_below g n
unfolding sum_below
sum_below-same zero f g same = refl
sum_below-same (suc n) f g same = omega (arith, sum_below-same n f g (λ k h. same k (omega arith)), same n (omega arith))

-- one of the values is part of the sum
pub part-le-sum : (n : ℕ) (f : ℕ → ℕ) (a : ℕ) → a < n → f a ≤ sum_below f n
unfolding sum_below
part-le-sum zero f a h = absurd (omega arith)
part-le-sum (suc n) f a h = elim (cases_eq a n) [
  | inl last ↦ omega (arith, ap f last)
  | inr other ↦ omega (arith, part-le-sum n f a (omega arith))
]

-- and so are two
pub two-le-sum : (n : ℕ) (f : ℕ → ℕ) (a b : ℕ) → a < n → b < n → a ≢ b → f a + f b ≤ sum_below f n
unfolding sum_below
two-le-sum zero f a b ha hb apart = absurd (omega arith)
two-le-sum (suc n) f a b ha hb apart = elim (cases_eq a n) [
  | inl last ↦ omega (arith, ap f last, part-le-sum n f b (omega arith))
  | inr a_other ↦ elim (cases_eq b n) [
    | inl last ↦ omega (arith, ap f last, part-le-sum n f a (omega arith))
    | inr b_other ↦ omega (arith, two-le-sum n f a b (omega arith) (omega arith) apart)
  ]
]

-- a change at one number changes the sum by as much
pub sum_below-change : (n : ℕ) (f g : ℕ → ℕ) (a : ℕ) → a < n → ((k : ℕ) → k < n → k ≢ a → f k ≡ g k) → sum_below g n + f a ≡ sum_below f n + g a
unfolding sum_below
sum_below-change zero f g a h same = absurd (omega arith)
sum_below-change (suc n) f g a h same = elim (cases_eq a n) [
  | inl last ↦
      let before = sum_below-same n f g (λ k hk. same k (omega arith) (omega arith)) in
      omega (arith, before, ap f last, ap g last)
  | inr other ↦
      let before = sum_below-change n f g a (omega arith) (λ k hk ne. same k (omega arith) ne) in
      omega (arith, before, same n (omega arith) (omega arith))
]

-- what one number loses and another gains leaves the sum
pub sum_below-move : (n : ℕ) (f g : ℕ → ℕ) (a b : ℕ) → a < n → b < n → a ≢ b → ((k : ℕ) → k < n → k ≢ a → k ≢ b → f k ≡ g k) → g a + g b ≡ f a + f b → sum_below g n ≡ sum_below f n
sum_below-move n f g a b ha hb apart same moved =
    let mid : ℕ → ℕ = λ k. cond (eqb k a) (g a) (f k) in
    let at_a : mid a ≡ g a = cond-true (eqb a a) (g a) (f a) (eq-eqb a a refl) in
    let off_a = λ (k : ℕ) (ne : k ≢ a). cond-false (eqb k a) (g a) (f k) (ne_eqb k a ne) in
    let first = sum_below-change n f mid a ha (λ k hk ne. sym (off_a k ne)) in
    let second = sum_below-change n mid g b hb (λ k hk ne. elim (cases_eq k a) [
      | inl is ↦ ap mid is ∙ at_a ∙ ap g (sym is)
      | inr other ↦ off_a k other ∙ same k hk other ne
    ]) in
    omega (arith, first, second, at_a, off_a b (λ e. apart (sym e)))

pub sum_below-ones : (n : ℕ) → sum_below (λ _. 1) n ≡ n
unfolding sum_below
sum_below-ones zero = refl
sum_below-ones (suc n) = omega (arith, sum_below-ones n)
