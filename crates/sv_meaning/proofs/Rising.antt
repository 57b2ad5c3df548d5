-- Each expression's value has the length of its context and rises with what names read.
use Rattle.std.proofs.Common.{◌≡◌, ℕ, zero, suc, ◌+◌, ◌-◌, ◌*◌, ◌≤◌, Bool, true, false, ◌||◌, List, [], ◌∷◌, ◌++◌, length, take, replicate, refl, sym, ap, ◌∙◌, subst, arith, IsTrue, Option, Some, None, ℤ, pos, nat_abs, cond, nat_lt, inl, inr, if◌then◌else◌, ◌+ℤ◌, ◌-ℤ◌}
use Rattle.std.proofs.lemmas.List.{length-replicate, length-append, length-take}
use Rattle.std.proofs.lemmas.Bool.{cases_Bool}
use mathlib.Core.Former.{Count}
use Rattle.fourvec.specs.declared.Bit.{Bit}
use Rattle.fourvec.specs.declared.Bit.TheVariants.{Unknown, Zero}
use Rattle.fourvec.specs.Bits.{bit_below, is_known, vector, number, first, all_pairs, top}
use Rattle.fourvec.specs.Laws.{Below}
use Rattle.fourvec.proofs.Basic.{length-vector}
use Rattle.fourvec.proofs.Order as order
use Rattle.fourvec.proofs.Monotone as laws
use Rattle.fourvec.proofs.Widths as widths
use Rattle.sv_tree.specs.declared.exprs.SystemName.{SystemName}
use Rattle.sv_tree.specs.declared.exprs.SystemName.TheVariants as system_name
use Rattle.sv_tree.specs.declared.exprs.RangeMark.{RangeMark}
use Rattle.sv_tree.specs.declared.exprs.RangeMark.TheVariants as mark
use Rattle.sv_tree.specs.declared.exprs.Expr.{Expr, Literal, Name', Concat', Repeat', Row_of-Expr, end_of-Expr, more_of-Expr, Row_of-Select, end_of-Select, more_of-Select}
use Rattle.sv_tree.specs.declared.exprs.Select.{Select, Member}
use Rattle.sv_meaning.specs.Patterns.{paren, cast_literal, cast_name, cast_paren, cast_sign, system, unary, binary, choose, index, range}
use Rattle.sv_meaning.specs.Layouts.{Layout, scalar, dim, struct, width, is_signed, plain, place_of, goes_down, count_between, What, number_is, type_is, signal_is, NamedSignal, Read, Scope, constant_scope, find, member_in}
use Rattle.sv_literal.specs.declared.meaning.Literal.{Literal as LiteralValue}
use Rattle.sv_outside.specs.declared.refusal.Place.{Place}
use Rattle.sv_tree.specs.declared.word.Word.{Word}
use Rattle.sv_meaning.specs.Faults.{Faults}
use Rattle.sv_meaning.specs.Layouts.{genvar_is}
use Rattle.sv_meaning.specs.Meanings.{Meaning, own, standing, joined, from, extend, fitted, constant_of, number_of, empty, beside, parts, concat, copies, repeated, to_sign, sized_by, cast_to, log_from, log_up, Step, to_member, to_index, to_range, Part, known_place, part_if, ranged, member_part, step_in, bits_at, with_part, chain_bits, chain_layout, all_indices, bits_from, selected, constant_named, named, literal_meaning, top_goes_on, of_literal, whole}
use Rattle.sv_meaning.specs.Values.{mean, means, step, steps, system_meaning, operand_scope, left_scope, is_signed_word}
use Rattle.sv_meaning.proofs.Good.{Rises, Good, own_long, own_rises, length-extend, extend-rises, good-standing, good-needs, good-from, good-none, good-chosen, good-unary, good-binary}

-- ---- concatenations

good-empty : Good empty
good-empty = record {
  long = λ read w s h. length-extend s w [] (omega arith);
  rises = λ r t h w s k. order.below-refl (extend s w []);
}

good-beside : (a b : Meaning) → Good a → Good b → Good (beside a b)
good-beside a b g h =
    good-standing (a.size + b.size) false (λ read. own b read ++ own a read) (joined a b)
    (λ r. let p = own_long a g r in let q = own_long b h r in let e = length-append (own b r) (own a r) in omega (arith, e, p, q))
    (λ r t i. order.below-append (own b r) (own a r) (own b t) (own a t) (own_rises b h r t i) (own_rises a g r t i))

abbrev pub AllGood : List Meaning → Type 0
AllGood [] = Unit {0}
AllGood (m ∷ more) = Good m × AllGood more

good-parts : (all : List Meaning) → AllGood all → Good (parts all)
unfolding parts
good-parts [] g = good-empty
good-parts (a ∷ more) g = good-beside a (parts more) g.0 (good-parts more g.1)

good-concat : (p : Place) (all : List Meaning) → AllGood all → Good (concat p all)
good-concat p all g = good-needs _ _ (good-from p _ (good-parts all g))

pub length-copies : (n k : ℕ) (a : List Bit) → length a ≡ k → length (copies n a) ≡ n * k
unfolding copies
length-copies zero k a e = omega arith
length-copies (suc n) k a e = let p = length-copies n k a e in let q = length-append a (copies n a) in omega (arith, p, q, e)

copies-rise : (n : ℕ) (a c : List Bit) → Below a c → Below (copies n a) (copies n c)
unfolding copies
copies-rise zero a c h = order.below-refl []
copies-rise (suc n) a c h = order.below-append a (copies n a) c (copies n c) h (copies-rise n a c h)

good-copies : (n a : Meaning) → Good a → Good (standing (nat_abs (number_of n) * a.size) false (λ read. copies (nat_abs (number_of n)) (own a read)) a)
good-copies n a g =
    good-standing (nat_abs (number_of n) * a.size) false (λ read. copies (nat_abs (number_of n)) (own a read)) a
    (λ r. length-copies (nat_abs (number_of n)) a.size (own a r) (own_long a g r))
    (λ r t i. copies-rise (nat_abs (number_of n)) (own a r) (own a t) (own_rises a g r t i))

good-repeated : (p : Place) (n : Meaning) (all : List Meaning) → AllGood all → Good (repeated p n all)
good-repeated p n all g = let h = good-copies n (parts all) (good-parts all g) in record { long = h.long; rises = h.rises }

-- ---- casts

cut-widened : (w : ℕ) (a : List Bit) (x : Bit) → length (take w (a ++ replicate (w - length a) x)) ≡ w
cut-widened w a x =
    let e = length-append a (replicate (w - length a) x) in let f = length-replicate (w - length a) x in
    let g = length-take w (a ++ replicate (w - length a) x) in omega (arith, e, f, g)

pub length-fitted : (s : Bool) (w : ℕ) (a : List Bit) → length (fitted s w a) ≡ w
length-fitted true w a = cut-widened w a (top a)
length-fitted false w a = cut-widened w a Zero

fitted-rises : (s : Bool) (w : ℕ) (a c : List Bit) → Below a c → Below (fitted s w a) (fitted s w c)
fitted-rises s w a c h = order.below-take w (extend s w a) (extend s w c) (extend-rises s w a c h)

good-to_sign : (s : Bool) (a : Meaning) → Good a → Good (to_sign s a)
good-to_sign s a g = good-standing a.size s (λ read. own a read) a (own_long a g) (own_rises a g)

good-fitted : (n : ℕ) (s : Bool) (a : Meaning) → Good a → Good (standing n s (λ read. fitted a.sign n (own a read)) a)
good-fitted n s a g = good-standing n s (λ read. fitted a.sign n (own a read)) a (λ r. length-fitted a.sign n (own a r))
    (λ r t i. fitted-rises a.sign n (own a r) (own a t) (own_rises a g r t i))

good-sized_by : (n a : Meaning) → Good a → Good (sized_by n a)
good-sized_by n a g = let h = good-fitted (nat_abs (number_of n)) a.sign a g in record { long = h.long; rises = h.rises }

good-cast : (w : Word) (x : Option What) (a : Meaning) → Good a → Good (cast_to w x a)
good-cast w (Some (type_is t)) a g = good-from w.place _ (good-fitted (width t) (is_signed t) a g)
good-cast w (Some (number_is v s)) a g = good-sized_by (named w (Some (number_is v s)) []) a g
good-cast w (Some (signal_is o n x)) a g = good-none _ _
good-cast w (Some genvar_is) a g = good-none _ _
good-cast w None a g = good-none _ _

good-log_up : (a : Meaning) → Good (log_up a)
good-log_up a =
    let v = vector 32 (log_from 128 0 (number (constant_of a))) in
    let g = good-standing 32 true (λ read. v) a (λ r. length-vector 32 _) (λ r t i. order.below-refl v) in
    record { long = g.long; rises = g.rises }

good-system : (f : SystemName) (a : Meaning) → Good a → Good (system_meaning f a)
good-system system_name.Signed a g = good-to_sign true a g
good-system system_name.Unsigned a g = good-to_sign false a g
good-system system_name.Clog2 a g = good-log_up a

-- ---- selects

-- nothing, or the same place
abbrev pub SamePlace : Option ℤ → Option ℤ → Type 0
SamePlace None y = Unit {0}
SamePlace (Some i) y = y ≡ Some i

abbrev pub PlaceRises : (Read → Option ℤ) → Type 0
PlaceRises f = (r t : Read) → Rises r t → SamePlace (f r) (f t)

known-place : (f : ℤ → ℤ) (s : Bool) (a c : List Bit) → Below a c → SamePlace (cond (is_known a) (Some (f (whole s a))) None) (cond (is_known c) (Some (f (whole s c))) None)
known-place f s a c h = elim (cases_Bool (is_known a)) [
  | inl k ↦ subst (λ x. SamePlace (cond (is_known a) (Some (f (whole s a))) None) (cond (is_known x) (Some (f (whole s x))) None)) (order.known_same a c k h)
      (itself (is_known a) (f (whole s a)))
  | inr k ↦ subst (λ b. SamePlace (cond b (Some (f (whole s a))) None) (cond (is_known c) (Some (f (whole s c))) None)) (sym k) tt
]
  where
    itself : (b : Bool) (i : ℤ) → SamePlace (cond b (Some i) None) (cond b (Some i) None)
    itself true i = refl
    itself false i = tt

known-rises : (f : ℤ → ℤ) (m : Meaning) → Good m → PlaceRises (known_place f m)
known-rises f m g r t i = known-place f m.sign (own m r) (own m t) (own_rises m g r t i)

abbrev pub GoodStep : Step → Type 0
GoodStep (to_member p n) = Unit {0}
GoodStep (to_index p m) = Good m
GoodStep (to_range p a m b) = Good a × Good b

abbrev pub OnPart : Option Part → Type 0
OnPart None = Unit {0}
OnPart (Some p) = PlaceRises p.place

part-if : (b : Bool) (x : Part) → PlaceRises x.place → OnPart (part_if b x)
part-if true x h = h
part-if false x h = tt

on-member : (m : Option (ℕ × Layout)) → OnPart (member_part m)
on-member None = tt
on-member (Some m) = λ r t i. refl

range-rises : (l r : ℤ) (each : Layout) (a : Meaning) (m : RangeMark) (b : Meaning) → Good a → PlaceRises (ranged l r each a m b).place
range-rises l r each a mark.To b g = λ r t i. refl
range-rises l r each a mark.Up b g = known-rises (λ i. place_of l r (width each) (if goes_down l r then i else i +ℤ (number_of b -ℤ pos 1))) a g
range-rises l r each a mark.Down b g = known-rises (λ i. place_of l r (width each) (if goes_down l r then i -ℤ (number_of b -ℤ pos 1) else i)) a g

pub on-step : (x : Layout) (s : Step) → GoodStep s → OnPart (step_in x s)
on-step (scalar s) (to_member p n) g = tt
on-step (scalar s) (to_index p m) g = tt
on-step (scalar s) (to_range p a m b) g = tt
on-step (dim s l r each) (to_member p n) g = tt
on-step (dim s l r each) (to_index p m) g = known-rises (place_of l r (width each)) m g
on-step (dim s l r each) (to_range p a m b) g = part-if _ (ranged l r each a m b) (range-rises l r each a m b g.0)
on-step (struct s all) (to_member p n) g = on-member (member_in n all)
on-step (struct s all) (to_index p m) g = tt
on-step (struct s all) (to_range p a m b) g = tt

abbrev pub GoodSteps : List Step → Type 0
GoodSteps [] = Unit {0}
GoodSteps (s ∷ more) = GoodStep s × GoodSteps more

pub length-bits_at : (p : Option ℤ) (w : ℕ) (a : List Bit) → length (bits_at p w a) ≡ w
length-bits_at None w a = length-replicate w Unknown
length-bits_at (Some i) w a = widths.length-window a i w

pub bits_at-rise : (p q : Option ℤ) (w : ℕ) (a c : List Bit) → SamePlace p q → Below a c → Below (bits_at p w a) (bits_at q w c)
bits_at-rise None q w a c e h = order.x_below w (bits_at q w c) (sym (length-bits_at q w c))
bits_at-rise (Some i) q w a c e h = rw e (laws.window_monotone w a c h i)

some-same : {A : Type 0} (x y : A) → Path (Option A) (Some x) (Some y) → x ≡ y
some-same x y e = cc

length-chain : (read : Read) (x y : Layout) (all : List Step) (a : List Bit) → chain_layout x all ≡ Some y → length a ≡ width x → length (chain_bits read x all a) ≡ width y
unfolding chain_layout chain_bits
length-chain read x y [] a e h = h ∙ ap width (some-same x y e)
length-chain read x y (s ∷ more) a e h = go (step_in x s) e (λ p k. length-chain read p.layout y more (bits_at (p.place read) (width p.layout) a) k (length-bits_at (p.place read) (width p.layout) a))
  where
    go : (o : Option Part) → with_part o None (λ p. chain_layout p.layout more) ≡ Some y
        → ((p : Part) → chain_layout p.layout more ≡ Some y → length (chain_bits read p.layout more (bits_at (p.place read) (width p.layout) a)) ≡ width y)
        → length (with_part o a (λ p. chain_bits read p.layout more (bits_at (p.place read) (width p.layout) a))) ≡ width y
    go None e f = cc
    go (Some p) e f = f p e

chain-rises : (r t : Read) → Rises r t → (x : Layout) (all : List Step) → GoodSteps all → (a c : List Bit) → Below a c → Below (chain_bits r x all a) (chain_bits t x all c)
unfolding chain_bits
chain-rises r t i x [] g a c h = h
chain-rises r t i x (s ∷ more) g a c h = go (step_in x s) (on-step x s g.0) (λ p k. chain-rises r t i p.layout more g.1 (bits_at (p.place r) (width p.layout) a) (bits_at (p.place t) (width p.layout) c) (bits_at-rise (p.place r) (p.place t) (width p.layout) a c (k r t i) h))
  where
    go : (o : Option Part) → OnPart o
        → ((p : Part) → PlaceRises p.place → Below (chain_bits r p.layout more (bits_at (p.place r) (width p.layout) a)) (chain_bits t p.layout more (bits_at (p.place t) (width p.layout) c)))
        → Below (with_part o a (λ p. chain_bits r p.layout more (bits_at (p.place r) (width p.layout) a))) (with_part o c (λ p. chain_bits t p.layout more (bits_at (p.place t) (width p.layout) c)))
    go None k f = h
    go (Some p) k f = f p k

-- ---- names

length-bits_from : (f : ℕ → Bit) (k w : ℕ) → length (bits_from f k w) ≡ w
unfolding bits_from
length-bits_from f k zero = refl
length-bits_from f k (suc w) = ap suc (length-bits_from f (suc k) w)

pub bits_from-rise : (f g : ℕ → Bit) → ((k : ℕ) → IsTrue (bit_below (f k) (g k))) → (k w : ℕ) → Below (bits_from f k w) (bits_from g k w)
unfolding bits_from all_pairs
bits_from-rise f g h k zero = refl
bits_from-rise f g h k (suc w) = order.both _ _ (h k) (bits_from-rise f g h (suc k) w)

good-selected : (o : Option Layout) (k : Bool) (why : Bool → Faults) (p : Place) (names : List NamedSignal) (all : List Step) (x : Layout) (f : Read → List Bit)
    → chain_layout x all ≡ o → GoodSteps all → ((r : Read) → length (f r) ≡ width x) → ((r t : Read) → Rises r t → Below (f r) (f t)) → Good (selected o k why p names all x f)
good-selected None k why p names all x f e g long rises = good-none why p
good-selected (Some y) k why p names all x f e g long rises =
    let h = good-standing (width y) (is_signed y) (λ read. chain_bits read x all (f read)) (all_indices all)
    (λ r. length-chain r x y all (f r) e (long r))
    (λ r t i. chain-rises r t i x all g (f r) (f t) (rises r t i)) in
    record { long = h.long; rises = h.rises }

width-plain : (n : ℕ) (s : Bool) → nat_lt 0 n ≡ true → n ≡ width (plain n s)
width-plain zero s h = cc
width-plain (suc n) s h =
    let e : suc n - 1 ≡ n = omega arith in
    subst (λ k. suc n ≡ count_between (pos k) (pos 0) * 1) (sym e) (from_zero n)
  where
    from_zero : (k : ℕ) → suc k ≡ count_between (pos k) (pos 0) * 1
    from_zero k = let e : suc k ≡ suc (k + 0) * 1 = omega arith in e

good-constant : (b : Bool) (w : Word) (v : List Bit) (s : Bool) (all : List Step) → nat_lt 0 (length v) ≡ b → GoodSteps all → Good (constant_named b w v s all)
good-constant true w v s all h g =
    good-selected (chain_layout (plain (length v) s) all) true _ _ [] all (plain (length v) s) (λ read. v) refl g (λ r. width-plain (length v) s h) (λ r t i. order.below-refl v)
good-constant false w v s all h g = good-none _ _

pub good-named : (w : Word) (x : Option What) (all : List Step) → GoodSteps all → Good (named w x all)
good-named w (Some (number_is v s)) all g = good-constant (nat_lt 0 (length v)) w v s all refl g
good-named w (Some (signal_is o n x)) all g = good-selected (chain_layout x all) false _ _ (record { owner = o; number = n; width = width x } ∷ []) all x (λ read. bits_from (read o n) 0 (width x)) refl g
    (λ r. length-bits_from (r o n) 0 (width x)) (λ r t i. bits_from-rise (r o n) (t o n) (λ k. i o n k) 0 (width x))
good-named w (Some (type_is t)) all g = good-none _ _
good-named w (Some genvar_is) all g = good-none _ _
good-named w None all g = good-none _ _

pub good-literal : (all : Faults) (p : Place) (l : LiteralValue) → Good (literal_meaning all p l)
good-literal all p l = record { long = λ read w s h. filled l.fill w (first l.value) (top_goes_on l || s) l.value h; rises = λ r t i w s h. order.below-refl _ }
  where
    filled : (b : Bool) (w : ℕ) (x : Bit) (s : Bool) (a : List Bit) → length a ≤ w → length (cond b (replicate w x) (extend s w a)) ≡ w
    filled true w x s a h = length-replicate w x
    filled false w x s a h = length-extend s w a h

-- ---- all expressions

mutual
  unfolding mean

  pub good : (at : Scope) (x : Expr) → Good (mean at x)
  good at (Literal w) = good-literal _ _ _
  good at (Name' w s all) = good-named w (find w.text at) (steps at all) (good-steps at all)
  good at (paren p x) = good-from p _ (good at x)
  good at (Concat' p s all) = good-concat p (means at all) (good-means at all)
  good at (Repeat' p r (more_of-Expr n end_of-Expr) s all) = good-repeated p (mean (constant_scope at) n) (means at all) (good-means at all)
  good at (cast_literal w x) = good-sized_by (of_literal w) (mean at x) (good at x)
  good at (cast_name w x) = good-cast w (find w.text (constant_scope at)) (mean at x) (good at x)
  good at (cast_paren p n x) = good-sized_by (from p (mean (constant_scope at) n)) (mean at x) (good at x)
  good at (cast_sign s p x) = good-from p _ (good-to_sign (is_signed_word s) (mean at x) (good at x))
  good at (system f p x) = good-from p _ (good-system f (mean (operand_scope f at) x) (good (operand_scope f at) x))
  good at (unary op p x) = good-from p _ (good-unary op (mean at x) (good at x))
  good at (binary x op p y) = good-binary p op (mean at x) (mean at y) (good at x) (good at y)
  good at (choose c x y) = good-chosen (mean at c) (mean at x) (mean at y) (good at c) (good at x) (good at y)

  pub good-means : {m : Count} (at : Scope) (all : Row_of-Expr m) → AllGood (means at all)
  good-means at end_of-Expr = tt
  good-means at (more_of-Expr x all) = (good at x, good-means at all)

  pub good-step : (at : Scope) (x : Select) → GoodStep (step at x)
  good-step at (Member p w) = tt
  good-step at (index p x) = good at x
  good-step at (range p x m y) = (good (left_scope m at) x, good (constant_scope at) y)

  pub good-steps : {m : Count} (at : Scope) (all : Row_of-Select m) → GoodSteps (steps at all)
  good-steps at end_of-Select = tt
  good-steps at (more_of-Select x all) = (good-step at x, good-steps at all)
