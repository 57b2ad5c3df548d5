-- Lists of faults.
use Rattle.std.proofs.Common.{◌≡◌, ℕ, zero, suc, Bool, true, false, List, [], ◌∷◌, ◌++◌, refl, arith}
use Rattle.std.specs.List.{Contains}
use Rattle.sv_outside.specs.declared.refusal.Refusal.{Refusal}
use Rattle.sv_outside.specs.declared.refusal.Place.{Place}
use Rattle.sv_meaning.specs.Faults.{Faults, fault_if, or_then}

contains_behind : {A : Type 0} (y : A) (a : List A) (x : A) → Contains a x → Contains (y ∷ a) x
contains_behind y a x h = (suc h.0, omega (arith, h.1), h.2)

pub contains_left : {A : Type 0} (a b : List A) (x : A) → Contains a x → Contains (a ++ b) x
contains_left [] b x (k, h, e) = absurd (omega arith)
contains_left (y ∷ a) b x (zero, h, e) = (zero, omega arith, e)
contains_left (y ∷ a) b x (suc k, h, e) = contains_behind y (a ++ b) x (contains_left a b x (k, omega arith, e))

pub contains_right : {A : Type 0} (a b : List A) (x : A) → Contains b x → Contains (a ++ b) x
contains_right [] b x h = h
contains_right (y ∷ a) b x h = contains_behind y (a ++ b) x (contains_right a b x h)

-- what stands in one of two lists stands in two others
pub contains_both : {A : Type 0} (a b c d : List A) (x : A) → (Contains a x → Contains c x) → (Contains b x → Contains d x) → Contains (a ++ b) x → Contains (c ++ d) x
contains_both [] b c d x f g h = contains_right c d x (g h)
contains_both (y ∷ a) b c d x f g (zero, h, e) = contains_left c d x (f (zero, omega arith, e))
contains_both (y ∷ a) b c d x f g (suc k, h, e) = contains_both a b c d x (λ i. f (contains_behind y a x i)) g (k, omega arith, e)

behind : (x : Refusal) (a : Faults) (r : Refusal) → Contains a r → Contains (x ∷ a) r
behind x a r h = (suc h.0, omega (arith, h.1), h.2)

pub in_left : (a b : Faults) (r : Refusal) → Contains a r → Contains (a ++ b) r
in_left [] b r (k, h, e) = absurd (omega arith)
in_left (x ∷ a) b r (zero, h, e) = (zero, omega arith, e)
in_left (x ∷ a) b r (suc k, h, e) = behind x (a ++ b) r (in_left a b r (k, omega arith, e))

pub in_right : (a b : Faults) (r : Refusal) → Contains b r → Contains (a ++ b) r
in_right [] b r h = h
in_right (x ∷ a) b r h = behind x (a ++ b) r (in_right a b r h)

pub in_first : (a b : Faults) (r : Refusal) → Contains a r → Contains (or_then a b) r
in_first [] b r (k, h, e) = absurd (omega arith)
in_first (x ∷ a) b r h = h

pub in_second : (a b : Faults) (r : Refusal) → a ≡ [] → Contains b r → Contains (or_then a b) r
in_second [] b r e h = h
in_second (x ∷ a) b r e h = cc

pub both_clear : (a b : Faults) → a ≡ [] → b ≡ [] → a ++ b ≡ []
both_clear [] b p q = q
both_clear (x ∷ a) b p q = cc

pub then_clear : (a b : Faults) → a ≡ [] → b ≡ [] → or_then a b ≡ []
then_clear [] b p q = q
then_clear (x ∷ a) b p q = cc

-- what stands in no list
pub none_in : (a : Faults) (r : Refusal) → a ≡ [] → Contains a r → ⊥
none_in [] r e (k, h, i) = absurd (omega arith)
none_in (x ∷ a) r e h = cc

pub left_clear : (a b : Faults) → a ++ b ≡ [] → a ≡ []
left_clear [] b p = refl
left_clear (x ∷ a) b p = cc

pub right_clear : (a b : Faults) → a ++ b ≡ [] → b ≡ []
right_clear [] b p = p
right_clear (x ∷ a) b p = cc

pub first_clear : (a b : Faults) → or_then a b ≡ [] → a ≡ []
first_clear [] b p = refl
first_clear (x ∷ a) b p = cc

pub second_clear : (a b : Faults) → or_then a b ≡ [] → b ≡ []
second_clear [] b p = p
second_clear (x ∷ a) b p = cc

pub in_fault : (b : Bool) (n : ℕ) (p : Place) → b ≡ true → Contains (fault_if b n p) (record { number = n; place = p; count = 0 })
in_fault true n p h = (0, omega arith, refl)
in_fault false n p h = cc

pub no_fault : (b : Bool) (n : ℕ) (p : Place) → b ≡ false → fault_if b n p ≡ []
no_fault false n p h = refl
no_fault true n p h = cc

pub ruleset faulted = (in_left, in_right, in_first, in_second, both_clear, then_clear, in_fault, no_fault)

pub ruleset clears = (left_clear, right_clear, first_clear, second_clear)
