-- Choices between vectors, one pair more at a time.
use Rattle.std.proofs.Common.{◌≡◌, Bool, true, false, not, ◌&&◌, ◌||◌, cond, List, [], ◌∷◌, length, refl, ap, ◌∙◌, arith}
use Rattle.fourvec.specs.declared.Bit.{Bit}
use Rattle.fourvec.specs.declared.Bit.TheVariants.{Unknown}
use Rattle.fourvec.specs.Bits.{bit_of, choose, each_pair, all_x}

pub pick_by : (t x y z w u l : Bool) → u ≡ cond t x z → l ≡ cond t y w → bit_of u l ≡ cond t (bit_of x y) (bit_of z w)
pick_by true x y z w u l e f = (let h : bit_of u l ≡ bit_of x y = cc in h)
pick_by false x y z w u l e f = (let h : bit_of u l ≡ bit_of z w = cc in h)

pub or_x_by : (t x y n u l : Bool) → n ≡ not t → u ≡ (n || x) → l ≡ (t && y) → bit_of u l ≡ cond t (bit_of x y) Unknown
or_x_by true x y n u l e f g = (let h : bit_of u l ≡ bit_of (not true || x) (true && y) = cc in h)
or_x_by false x y n u l e f g = (let h : bit_of u l ≡ bit_of (not false || x) (false && y) = cc in h)

-- a choice at each place is one between the vectors
pub pick_each : (t : Bool) (xs ys : List Bit) → length xs ≡ length ys → each_pair (λ x y. cond t x y) xs ys ≡ cond t xs ys
unfolding each_pair
pick_each true [] [] e = refl
pick_each true [] (y ∷ ys) e = absurd (omega (arith, e))
pick_each true (x ∷ xs) [] e = absurd (omega (arith, e))
pick_each true (x ∷ xs) (y ∷ ys) e = ap (λ (t : List Bit). x ∷ t) (pick_each true xs ys (omega (arith, e)))
pick_each false [] [] e = refl
pick_each false [] (y ∷ ys) e = absurd (omega (arith, e))
pick_each false (x ∷ xs) [] e = absurd (omega (arith, e))
pick_each false (x ∷ xs) (y ∷ ys) e = ap (λ (t : List Bit). y ∷ t) (pick_each false xs ys (omega (arith, e)))

pub or_x_each : (t : Bool) (xs : List Bit) → each_pair (λ x y. cond t x Unknown) xs xs ≡ cond t xs (all_x (length xs))
unfolding each_pair
or_x_each true [] = refl
or_x_each true (x ∷ xs) = ap (λ (t : List Bit). x ∷ t) (or_x_each true xs)
or_x_each false [] = refl
or_x_each false (x ∷ xs) = ap (λ (t : List Bit). Unknown ∷ t) (or_x_each false xs)

-- a choice in two steps, by the rails of its condition
pub choice_by : (f : Bit → Bit → Bit) (x y some every : Bool) (a b joined other r : List Bit) → some ≡ (x || y) → every ≡ (x && y) → joined ≡ each_pair f a b →
    other ≡ cond some joined b → r ≡ cond every a other → r ≡ choose f (bit_of x y) a b
choice_by f true true some every a b joined other r e1 e2 e3 e4 e5 = e5 ∙ ap (λ t. cond t a other) e2
choice_by f true false some every a b joined other r e1 e2 e3 e4 e5 = e5 ∙ ap (λ t. cond t a other) e2 ∙ e4 ∙ ap (λ t. cond t joined b) e1 ∙ e3
choice_by f false true some every a b joined other r e1 e2 e3 e4 e5 = e5 ∙ ap (λ t. cond t a other) e2 ∙ e4 ∙ ap (λ t. cond t joined b) e1 ∙ e3
choice_by f false false some every a b joined other r e1 e2 e3 e4 e5 = e5 ∙ ap (λ t. cond t a other) e2 ∙ e4 ∙ ap (λ t. cond t joined b) e1
