-- Sums over the nodes for which a test holds.
use Rattle.std.proofs.Common.{◌≡◌, ℕ, zero, suc, ◌+◌, ◌<◌, ◌≤◌, Bool, true, false, ◌&&◌, ◌||◌, cond, eqb, List, length, map, get_or, refl, sym, ap, ◌∙◌, subst, arith, inl, inr, eq-eqb, ne_eqb, eqb-true}
use Rattle.std.specs.List.{range_with_len}
use Rattle.std.proofs.lemmas.Bool.{cases_eq}
use Rattle.std.proofs.lemmas.List.{get_or-map, length-map}
use Rattle.std.proofs.lemmas.List.FromFn.{length-range_with_len, get_or-range_with_len}
use Rattle.svex_blast.specs.Sizes.{gates_to, gates_of}
use Rattle.svex_shape.specs.declared.shape.Shape.{Shape}
use Rattle.svex_shape.specs.Shapes.{shape_at, width_at}

-- what is counted for those of the first n numbers that pass a test
unfoldable pub total : (ℕ → Bool) → (ℕ → ℕ) → ℕ → ℕ
total p g zero = 0
total p g (suc n) = total p g n + cond (p n) (g n) 0

pub gates_total : (shapes : List Shape) (marks : List Bool) (n : ℕ) → gates_to shapes marks n ≡ total (λ k. get_or marks k false) (λ k. gates_of (width_at shapes) (shape_at shapes k)) n
unfolding gates_to total
gates_total shapes marks zero = refl
gates_total shapes marks (suc n) = ap (λ m. m + cond (get_or marks n false) (gates_of (width_at shapes) (shape_at shapes n)) 0) (gates_total shapes marks n)

-- a test that holds where another does, with no more to count, counts no more
pub total_le : (p q : ℕ → Bool) (f g : ℕ → ℕ) (n : ℕ) → ((k : ℕ) → k < n → p k ≡ true → (q k ≡ true) × (f k ≤ g k)) → total p f n ≤ total q g n
unfolding total
total_le p q f g zero h = omega arith
total_le p q f g (suc n) h =
    let rest : total p f n ≤ total q g n = total_le p q f g n (λ k l. h k (omega (arith, l))) in
    let last : cond (p n) (f n) 0 ≤ cond (q n) (g n) 0 = by_test (p n) refl in
    omega (arith, rest, last)
  where
    by_test : (b : Bool) → p n ≡ b → cond b (f n) 0 ≤ cond (q n) (g n) 0
    by_test true e = let x = h n (omega arith) e in subst (λ c. f n ≤ cond c (g n) 0) (sym x.0) x.1
    by_test false e = omega arith

or_cond : (a b : Bool) (x : ℕ) → cond (a || b) x 0 ≤ cond a x 0 + cond b x 0
or_cond true b x = omega arith
or_cond false true x = omega arith
or_cond false false x = omega arith

-- one of two tests
total_or : (p q : ℕ → Bool) (g : ℕ → ℕ) (n : ℕ) → total (λ k. p k || q k) g n ≤ total p g n + total q g n
unfolding total
total_or p q g zero = omega arith
total_or p q g (suc n) = omega (arith, total_or p q g n, or_cond (p n) (q n) (g n))

total_none : (g : ℕ → ℕ) (m n : ℕ) → n ≤ m → total (λ k. eqb k m) g n ≡ 0
unfolding total
total_none g m zero l = refl
total_none g m (suc n) l =
    let off : eqb n m ≡ false = ne_eqb n m (λ e. absurd (omega (arith, e, l))) in
    let c : cond (eqb n m) (g n) 0 ≡ 0 = ap (λ b. cond b (g n) 0) off in
    omega (arith, c, total_none g m n (omega (arith, l)))

total_nothing : (g : ℕ → ℕ) (n : ℕ) → total (λ k. false) g n ≡ 0
unfolding total
total_nothing g zero = refl
total_nothing g (suc n) = omega (arith, total_nothing g n)

-- one number
total_one : (g : ℕ → ℕ) (m n : ℕ) → total (λ k. eqb k m) g n ≤ g m
unfolding total
total_one g m zero = omega arith
total_one g m (suc n) = elim (cases_eq n m) [
  | inl e ↦
      let on : cond (eqb n m) (g n) 0 ≡ g m = ap (λ b. cond b (g n) 0) (eq-eqb n m e) ∙ ap g e in
      omega (arith, on, total_none g m n (omega (arith, e)))
  | inr ne ↦
      let c : cond (eqb n m) (g n) 0 ≡ 0 = ap (λ b. cond b (g n) 0) (ne_eqb n m ne) in
      omega (arith, c, total_one g m n)
]

-- ---- images

-- whether a number is what f gives for one of the first n that pass a test
unfoldable pub hit : (ℕ → Bool) → (ℕ → ℕ) → ℕ → ℕ → Bool
hit p f zero m = false
hit p f (suc n) m = hit p f n m || (p n && eqb m (f n))

or_left : (a b : Bool) → a ≡ true → (a || b) ≡ true
or_left true b e = refl
or_left false b e = cc

or_right : (a b : Bool) → b ≡ true → (a || b) ≡ true
or_right true b e = refl
or_right false b e = e

pub hit_by : (p : ℕ → Bool) (f : ℕ → ℕ) (n k : ℕ) → k < n → p k ≡ true → hit p f n (f k) ≡ true
unfolding hit
hit_by p f zero k l e = absurd (omega (arith, l))
hit_by p f (suc n) k l e = elim (cases_eq k n) [
  | inl same ↦
      or_right (hit p f n (f k)) (p n && eqb (f k) (f n))
      (ap (λ b. b && eqb (f k) (f n)) (ap p (sym same) ∙ e) ∙ eq-eqb (f k) (f n) (ap f same))
  | inr ne ↦ or_left (hit p f n (f k)) (p n && eqb (f k) (f n)) (hit_by p f n k (omega (arith, l, ne)) e)
]

pub hit_from : (p : ℕ → Bool) (f : ℕ → ℕ) (n m : ℕ) → hit p f n m ≡ true → (k : ℕ) × (k < n) × (p k ≡ true) × (m ≡ f k)
unfolding hit
hit_from p f zero m e = cc
hit_from p f (suc n) m e = by_test (λ h. hit_from p f n m h) (hit p f n m) (p n) (eqb m (f n)) refl refl refl e
  where
    by_test : (hit p f n m ≡ true → (k : ℕ) × (k < n) × (p k ≡ true) × (m ≡ f k)) → (a b c : Bool) → hit p f n m ≡ a → p n ≡ b → eqb m (f n) ≡ c → (a || (b && c)) ≡ true → (k : ℕ) × (k < suc n) × (p k ≡ true) × (m ≡ f k)
    by_test rec true b c x y z h = let r = rec x in (r.0, omega (arith, r.1), r.2, r.3)
    by_test rec false true true x y z h = (n, omega arith, y, eqb-true m (f n) z)
    by_test rec false true false x y z h = cc
    by_test rec false false c x y z h = cc

-- what is counted for an image is no more than what is counted for all of which it is the image
pub total_hit : (p : ℕ → Bool) (f g : ℕ → ℕ) (n most : ℕ) → total (hit p f n) g most ≤ total p (λ k. g (f k)) n
unfolding hit total
total_hit p f g zero most = subst (λ x. x ≤ 0) (sym (total_nothing g most)) (omega arith)
total_hit p f g (suc n) most =
    let rest : total (hit p f n) g most ≤ total p (λ k. g (f k)) n = total_hit p f g n most in
    let both : total (λ m. hit p f n m || (p n && eqb m (f n))) g most ≤ total (hit p f n) g most + total (λ m. p n && eqb m (f n)) g most = total_or (hit p f n) (λ m. p n && eqb m (f n)) g most in
    let last : total (λ m. p n && eqb m (f n)) g most ≤ cond (p n) (g (f n)) 0 = by_test (p n) in
    omega (arith, rest, both, last)
  where
    by_test : (b : Bool) → total (λ m. b && eqb m (f n)) g most ≤ cond b (g (f n)) 0
    by_test true = total_one g (f n) most
    by_test false = subst (λ x. x ≤ 0) (sym (total_nothing g most)) (omega arith)

-- ---- a test as marks

abbrev pub marks_of : (ℕ → Bool) → ℕ → List Bool
marks_of p n = map p (range_with_len 0 n)

pub marks_long : (p : ℕ → Bool) (n : ℕ) → length (marks_of p n) ≡ n
marks_long p n = length-map (range_with_len 0 n) p ∙ length-range_with_len 0 n

pub marks_at : (p : ℕ → Bool) (n k : ℕ) → k < n → get_or (marks_of p n) k false ≡ p k
marks_at p n k l =
    get_or-map p (range_with_len 0 n) k 0 false (omega (arith, l, length-range_with_len 0 n)) ∙ ap p (get_or-range_with_len 0 n k 0 l ∙ (let z : 0 + k ≡ k = omega arith in z))
