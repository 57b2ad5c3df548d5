-- The laws of operators on two vectors.
use Rattle.std.proofs.Common.{◌≡◌, ℕ, ◌<◌, List, [], ◌∷◌, length, replicate, refl, sym, ap, ◌∙◌, subst, arith}
use Rattle.fourvec.specs.declared.Bit.{Bit}
use Rattle.fourvec.specs.declared.Bit.TheVariants.{Zero, One, Unknown, Floating}
use Rattle.fourvec.specs.Bits.{each, unfloat_bit, not_bit, and_bit, or_bit, xor_bit, res_bit, eq_of, some_clash, is_known}
use Rattle.fourvec.proofs.Tables.{left_of, right_of}
use Rattle.svex_shape.specs.declared.shape.Un.{Un}
use Rattle.svex_shape.specs.declared.shape.Un.TheVariants.{Unfloat, Not}
use Rattle.svex_shape.specs.declared.shape.Bin.{Bin}
use Rattle.svex_shape.specs.declared.shape.Bin.TheVariants.{And, Or, Xor, Eq, Res}
use Rattle.svex_shape.specs.declared.shape.Shape.{Shape}
use Rattle.svex_shape.specs.declared.shape.Shape.TheVariants.{Const, Unary, Binary}
use Rattle.svex_shape.specs.Shapes.{FitsPair, width_of, width_at, unary_width, binary_width}
use Rattle.svex_shape.specs.Values.{Vector, Reading, HasWidths, value_of, value_at, unary_value, binary_value, each_variable_of}
use Rattle.svex_arena.specs.Arenas.{IsArena}
use Rattle.svex_arena.proofs.Widths.{length-value_at, length-binary}
use Rattle.svex_rewrite.specs.Meaning.{IsOver, Becomes, IsAllAt, HasShape}
use Rattle.svex_rewrite.proofs.Vectors.{same_on_bit, each_self, each_constant, pair_left, pair_right, pair_alike}
use Rattle.svex_rewrite.proofs.Becoming.{becomes_as, becomes_node, becomes_const, const_value, const_width}

-- ---- two constants

pub fits_constants : (shapes : List Shape) (op : Bin) (a b : ℕ) (v u : Vector) → IsOver shapes (Binary op a b) → HasShape shapes a (Const v) → HasShape shapes b (Const u) → FitsPair op (length v) (length u)
fits_constants shapes op a b v u o e d =
    subst (λ x. FitsPair op x (length u)) (const_width shapes a v o.arena o.children.0 e) (subst (FitsPair op (width_at shapes a)) (const_width shapes b u o.arena o.children.1 d) o.fits)

pub folds : (shapes : List Shape) (op : Bin) (a b : ℕ) (v u y : Vector) → IsOver shapes (Binary op a b) → HasShape shapes a (Const v) → HasShape shapes b (Const u) → y ≡ binary_value op v u → Becomes shapes (Binary op a b) (Const y)
unfolding value_of width_of
folds shapes op a b v u y o e d q =
    becomes_const shapes (Binary op a b) y o.arena (ap length q ∙ length-binary op v u (fits_constants shapes op a b v u o e d) ∙ ap (λ x. binary_width op x (length u)) (sym (const_width shapes a v o.arena o.children.0 e)) ∙ ap (binary_width op (width_at shapes a)) (sym (const_width shapes b u o.arena o.children.1 d)))
    (λ r h. q ∙ ap (λ x. binary_value op x u) (sym (const_value r shapes a v o.arena o.children.0 e)) ∙ ap (binary_value op (value_at r shapes a)) (sym (const_value r shapes b u o.arena o.children.1 d)))

-- ---- one bit everywhere on one side

-- what an operator gives of any vector of a width, with one bit everywhere on the right or on the left
abbrev GivesRight : Bin → Bit → ℕ → (Vector → Vector) → Type 0
GivesRight op z w g = (v : Vector) → length v ≡ w → binary_value op v (replicate w z) ≡ g v

abbrev GivesLeft : Bin → Bit → ℕ → (Vector → Vector) → Type 0
GivesLeft op z w g = (v : Vector) → length v ≡ w → binary_value op (replicate w z) v ≡ g v

-- the value of a node with one bit everywhere, at the width of another
filled_value : (r : Reading) (shapes : List Shape) (k w : ℕ) (z : Bit) → IsArena shapes → k < length shapes → IsAllAt shapes k z → w ≡ width_at shapes k → value_at r shapes k ≡ replicate w z
filled_value r shapes k w z i l all same = const_value r shapes k (replicate (width_at shapes k) z) i l (record { is = all.is }) ∙ ap (λ n. replicate n z) (sym same)

value_right : (r : Reading) (shapes : List Shape) (op : Bin) (z : Bit) (a b : ℕ) (g : Vector → Vector) → HasWidths r → IsOver shapes (Binary op a b) → width_at shapes a ≡ width_at shapes b → IsAllAt shapes b z → GivesRight op z (width_at shapes a) g → binary_value op (value_at r shapes a) (value_at r shapes b) ≡ g (value_at r shapes a)
value_right r shapes op z a b g h o same all law =
    ap (binary_value op (value_at r shapes a)) (filled_value r shapes b (width_at shapes a) z o.arena o.children.1 all same) ∙ law (value_at r shapes a) (length-value_at r shapes a h o.arena o.children.0)

value_left : (r : Reading) (shapes : List Shape) (op : Bin) (z : Bit) (a b : ℕ) (g : Vector → Vector) → HasWidths r → IsOver shapes (Binary op a b) → width_at shapes a ≡ width_at shapes b → IsAllAt shapes a z → GivesLeft op z (width_at shapes b) g → binary_value op (value_at r shapes a) (value_at r shapes b) ≡ g (value_at r shapes b)
value_left r shapes op z a b g h o same all law =
    ap (λ x. binary_value op x (value_at r shapes b)) (filled_value r shapes a (width_at shapes b) z o.arena o.children.0 all (sym same)) ∙ law (value_at r shapes b) (length-value_at r shapes b h o.arena o.children.1)

-- an operator on one vector is left
unary_right : (shapes : List Shape) (op : Bin) (u : Un) (z : Bit) (a b : ℕ) (t : Shape) → IsOver shapes (Binary op a b) → width_at shapes a ≡ width_at shapes b → IsAllAt shapes b z → unary_width u (width_at shapes a) ≡ binary_width op (width_at shapes a) (width_at shapes b) → GivesRight op z (width_at shapes a) (unary_value u) → Becomes shapes (Unary u a) t → Becomes shapes (Binary op a b) t
unfolding value_of width_of each_variable_of
unary_right shapes op u z a b t o same all wide law to =
    becomes_as shapes (Binary op a b) (Unary u a) t to wide (λ r h. sym (value_right r shapes op z a b (unary_value u) h o same all law)) (λ p m. left_of _ _ m)

unary_left : (shapes : List Shape) (op : Bin) (u : Un) (z : Bit) (a b : ℕ) (t : Shape) → IsOver shapes (Binary op a b) → width_at shapes a ≡ width_at shapes b → IsAllAt shapes a z → unary_width u (width_at shapes b) ≡ binary_width op (width_at shapes a) (width_at shapes b) → GivesLeft op z (width_at shapes b) (unary_value u) → Becomes shapes (Unary u b) t → Becomes shapes (Binary op a b) t
unfolding value_of width_of each_variable_of
unary_left shapes op u z a b t o same all wide law to =
    becomes_as shapes (Binary op a b) (Unary u b) t to wide (λ r h. sym (value_left r shapes op z a b (unary_value u) h o same all law)) (λ p m. right_of _ _ m)

-- the other operand is left
keep_right : (shapes : List Shape) (op : Bin) (z : Bit) (a b : ℕ) (t : Shape) → IsOver shapes (Binary op a b) → width_at shapes a ≡ width_at shapes b → IsAllAt shapes b z → width_at shapes a ≡ binary_width op (width_at shapes a) (width_at shapes b) → GivesRight op z (width_at shapes a) (λ v. v) → HasShape shapes a t → Becomes shapes (Binary op a b) t
unfolding value_of width_of each_variable_of
keep_right shapes op z a b t o same all wide law e =
    becomes_node shapes (Binary op a b) a t o.arena o.children.0 e wide (λ r h. sym (value_right r shapes op z a b (λ v. v) h o same all law)) (λ p m. left_of _ _ m)

keep_left : (shapes : List Shape) (op : Bin) (z : Bit) (a b : ℕ) (t : Shape) → IsOver shapes (Binary op a b) → width_at shapes a ≡ width_at shapes b → IsAllAt shapes a z → width_at shapes b ≡ binary_width op (width_at shapes a) (width_at shapes b) → GivesLeft op z (width_at shapes b) (λ v. v) → HasShape shapes b t → Becomes shapes (Binary op a b) t
unfolding value_of width_of each_variable_of
keep_left shapes op z a b t o same all wide law e =
    becomes_node shapes (Binary op a b) b t o.arena o.children.1 e wide (λ r h. sym (value_left r shapes op z a b (λ v. v) h o same all law)) (λ p m. right_of _ _ m)

-- the constant decides
decide_right : (shapes : List Shape) (op : Bin) (z : Bit) (a b : ℕ) (t : Shape) → IsOver shapes (Binary op a b) → width_at shapes a ≡ width_at shapes b → IsAllAt shapes b z → width_at shapes b ≡ binary_width op (width_at shapes a) (width_at shapes b) → GivesRight op z (width_at shapes a) (λ v. replicate (length v) z) → HasShape shapes b t → Becomes shapes (Binary op a b) t
unfolding value_of width_of each_variable_of
decide_right shapes op z a b t o same all wide law e =
    becomes_node shapes (Binary op a b) b t o.arena o.children.1 e wide (λ r h. filled_value r shapes b (width_at shapes a) z o.arena o.children.1 all same ∙ ap (λ n. replicate n z) (sym (length-value_at r shapes a h o.arena o.children.0)) ∙ sym (value_right r shapes op z a b (λ v. replicate (length v) z) h o same all law)) (λ p m. right_of _ _ m)

decide_left : (shapes : List Shape) (op : Bin) (z : Bit) (a b : ℕ) (t : Shape) → IsOver shapes (Binary op a b) → width_at shapes a ≡ width_at shapes b → IsAllAt shapes a z → width_at shapes a ≡ binary_width op (width_at shapes a) (width_at shapes b) → GivesLeft op z (width_at shapes b) (λ v. replicate (length v) z) → HasShape shapes a t → Becomes shapes (Binary op a b) t
unfolding value_of width_of each_variable_of
decide_left shapes op z a b t o same all wide law e =
    becomes_node shapes (Binary op a b) a t o.arena o.children.0 e wide (λ r h. filled_value r shapes a (width_at shapes b) z o.arena o.children.0 all (sym same) ∙ ap (λ n. replicate n z) (sym (length-value_at r shapes b h o.arena o.children.1)) ∙ sym (value_left r shapes op z a b (λ v. replicate (length v) z) h o same all law)) (λ p m. left_of _ _ m)

-- ---- and

pub and_decides_left : (shapes : List Shape) (a b : ℕ) (t : Shape) → IsOver shapes (Binary And a b) → IsAllAt shapes a Zero → HasShape shapes a t → Becomes shapes (Binary And a b) t
and_decides_left shapes a b t o all e =
    decide_left shapes And Zero a b t o o.fits all refl (λ v l. pair_left and_bit (λ x. Zero) Zero (λ x. refl) (width_at shapes b) v l ∙ each_constant Zero v) e

pub and_decides_right : (shapes : List Shape) (a b : ℕ) (t : Shape) → IsOver shapes (Binary And a b) → IsAllAt shapes b Zero → HasShape shapes b t → Becomes shapes (Binary And a b) t
and_decides_right shapes a b t o all e =
    decide_right shapes And Zero a b t o o.fits all (sym o.fits) (λ v l. pair_right and_bit (λ x. Zero) Zero (same_on_bit (λ x. and_bit x Zero) (λ x. Zero) refl) (width_at shapes a) v l ∙ each_constant Zero v) e

pub and_leaves_left : (shapes : List Shape) (a b : ℕ) (t : Shape) → IsOver shapes (Binary And a b) → IsAllAt shapes b One → Becomes shapes (Unary Unfloat a) t → Becomes shapes (Binary And a b) t
and_leaves_left shapes a b t o all to =
    unary_right shapes And Unfloat One a b t o o.fits all refl (pair_right and_bit unfloat_bit One (same_on_bit (λ x. and_bit x One) unfloat_bit refl) (width_at shapes a)) to

pub and_leaves_right : (shapes : List Shape) (a b : ℕ) (t : Shape) → IsOver shapes (Binary And a b) → IsAllAt shapes a One → Becomes shapes (Unary Unfloat b) t → Becomes shapes (Binary And a b) t
and_leaves_right shapes a b t o all to =
    unary_left shapes And Unfloat One a b t o o.fits all (sym o.fits) (pair_left and_bit unfloat_bit One (same_on_bit (λ x. and_bit One x) unfloat_bit refl) (width_at shapes b)) to

-- ---- or

pub or_decides_left : (shapes : List Shape) (a b : ℕ) (t : Shape) → IsOver shapes (Binary Or a b) → IsAllAt shapes a One → HasShape shapes a t → Becomes shapes (Binary Or a b) t
or_decides_left shapes a b t o all e =
    decide_left shapes Or One a b t o o.fits all refl (λ v l. pair_left or_bit (λ x. One) One (λ x. refl) (width_at shapes b) v l ∙ each_constant One v) e

pub or_decides_right : (shapes : List Shape) (a b : ℕ) (t : Shape) → IsOver shapes (Binary Or a b) → IsAllAt shapes b One → HasShape shapes b t → Becomes shapes (Binary Or a b) t
or_decides_right shapes a b t o all e =
    decide_right shapes Or One a b t o o.fits all (sym o.fits) (λ v l. pair_right or_bit (λ x. One) One (same_on_bit (λ x. or_bit x One) (λ x. One) refl) (width_at shapes a) v l ∙ each_constant One v) e

pub or_leaves_left : (shapes : List Shape) (a b : ℕ) (t : Shape) → IsOver shapes (Binary Or a b) → IsAllAt shapes b Zero → Becomes shapes (Unary Unfloat a) t → Becomes shapes (Binary Or a b) t
or_leaves_left shapes a b t o all to =
    unary_right shapes Or Unfloat Zero a b t o o.fits all refl (pair_right or_bit unfloat_bit Zero (same_on_bit (λ x. or_bit x Zero) unfloat_bit refl) (width_at shapes a)) to

pub or_leaves_right : (shapes : List Shape) (a b : ℕ) (t : Shape) → IsOver shapes (Binary Or a b) → IsAllAt shapes a Zero → Becomes shapes (Unary Unfloat b) t → Becomes shapes (Binary Or a b) t
or_leaves_right shapes a b t o all to =
    unary_left shapes Or Unfloat Zero a b t o o.fits all (sym o.fits) (pair_left or_bit unfloat_bit Zero (same_on_bit (λ x. or_bit Zero x) unfloat_bit refl) (width_at shapes b)) to

-- ---- an operand with itself

unary_alike : (shapes : List Shape) (op : Bin) (a b : ℕ) (t : Shape) → ((w : ℕ) → binary_width op w w ≡ w) → ((v : Vector) → binary_value op v v ≡ each unfloat_bit v) → a ≡ b → Becomes shapes (Unary Unfloat a) t → Becomes shapes (Binary op a b) t
unfolding value_of width_of each_variable_of
unary_alike shapes op a b t wide law e to =
    subst (λ n. Becomes shapes (Binary op a n) t) e (becomes_as shapes (Binary op a a) (Unary Unfloat a) t to (sym (wide (width_at shapes a))) (λ r h. sym (law (value_at r shapes a))) (λ p m. left_of _ _ m))

pub and_alike : (shapes : List Shape) (a b : ℕ) (t : Shape) → a ≡ b → Becomes shapes (Unary Unfloat a) t → Becomes shapes (Binary And a b) t
and_alike shapes a b t e to =
    unary_alike shapes And a b t (λ w. refl) (pair_alike and_bit unfloat_bit (same_on_bit (λ x. and_bit x x) unfloat_bit refl)) e to

pub or_alike : (shapes : List Shape) (a b : ℕ) (t : Shape) → a ≡ b → Becomes shapes (Unary Unfloat a) t → Becomes shapes (Binary Or a b) t
or_alike shapes a b t e to =
    unary_alike shapes Or a b t (λ w. refl) (pair_alike or_bit unfloat_bit (same_on_bit (λ x. or_bit x x) unfloat_bit refl)) e to

pub ruleset and_laws = (and_decides_left, and_decides_right, and_leaves_left, and_leaves_right, and_alike)

pub ruleset or_laws = (or_decides_left, or_decides_right, or_leaves_left, or_leaves_right, or_alike)

-- ---- xor

pub xor_leaves_left : (shapes : List Shape) (a b : ℕ) (t : Shape) → IsOver shapes (Binary Xor a b) → IsAllAt shapes b Zero → Becomes shapes (Unary Unfloat a) t → Becomes shapes (Binary Xor a b) t
xor_leaves_left shapes a b t o all to =
    unary_right shapes Xor Unfloat Zero a b t o o.fits all refl (pair_right xor_bit unfloat_bit Zero (same_on_bit (λ x. xor_bit x Zero) unfloat_bit refl) (width_at shapes a)) to

pub xor_leaves_right : (shapes : List Shape) (a b : ℕ) (t : Shape) → IsOver shapes (Binary Xor a b) → IsAllAt shapes a Zero → Becomes shapes (Unary Unfloat b) t → Becomes shapes (Binary Xor a b) t
xor_leaves_right shapes a b t o all to =
    unary_left shapes Xor Unfloat Zero a b t o o.fits all (sym o.fits) (pair_left xor_bit unfloat_bit Zero (same_on_bit (λ x. xor_bit Zero x) unfloat_bit refl) (width_at shapes b)) to

pub xor_negates_left : (shapes : List Shape) (a b : ℕ) (t : Shape) → IsOver shapes (Binary Xor a b) → IsAllAt shapes b One → Becomes shapes (Unary Not a) t → Becomes shapes (Binary Xor a b) t
xor_negates_left shapes a b t o all to =
    unary_right shapes Xor Not One a b t o o.fits all refl (pair_right xor_bit not_bit One (same_on_bit (λ x. xor_bit x One) not_bit refl) (width_at shapes a)) to

pub xor_negates_right : (shapes : List Shape) (a b : ℕ) (t : Shape) → IsOver shapes (Binary Xor a b) → IsAllAt shapes a One → Becomes shapes (Unary Not b) t → Becomes shapes (Binary Xor a b) t
xor_negates_right shapes a b t o all to =
    unary_left shapes Xor Not One a b t o o.fits all (sym o.fits) (pair_left xor_bit not_bit One (same_on_bit (λ x. xor_bit One x) not_bit refl) (width_at shapes b)) to

pub ruleset xor_laws = (xor_leaves_left, xor_leaves_right, xor_negates_left, xor_negates_right)

-- ---- res

pub res_keeps_right : (shapes : List Shape) (a b : ℕ) (t : Shape) → IsOver shapes (Binary Res a b) → IsAllAt shapes a Floating → HasShape shapes b t → Becomes shapes (Binary Res a b) t
res_keeps_right shapes a b t o all e =
    keep_left shapes Res Floating a b t o o.fits all (sym o.fits) (λ v l. pair_left res_bit (λ x. x) Floating (λ x. refl) (width_at shapes b) v l ∙ each_self v) e

pub res_keeps_left : (shapes : List Shape) (a b : ℕ) (t : Shape) → IsOver shapes (Binary Res a b) → IsAllAt shapes b Floating → HasShape shapes a t → Becomes shapes (Binary Res a b) t
res_keeps_left shapes a b t o all e =
    keep_right shapes Res Floating a b t o o.fits all refl (λ v l. pair_right res_bit (λ x. x) Floating (same_on_bit (λ x. res_bit x Floating) (λ x. x) refl) (width_at shapes a) v l ∙ each_self v) e

pub res_decides_left : (shapes : List Shape) (a b : ℕ) (t : Shape) → IsOver shapes (Binary Res a b) → IsAllAt shapes a Unknown → HasShape shapes a t → Becomes shapes (Binary Res a b) t
res_decides_left shapes a b t o all e =
    decide_left shapes Res Unknown a b t o o.fits all refl (λ v l. pair_left res_bit (λ x. Unknown) Unknown (same_on_bit (λ x. res_bit Unknown x) (λ x. Unknown) refl) (width_at shapes b) v l ∙ each_constant Unknown v) e

pub res_decides_right : (shapes : List Shape) (a b : ℕ) (t : Shape) → IsOver shapes (Binary Res a b) → IsAllAt shapes b Unknown → HasShape shapes b t → Becomes shapes (Binary Res a b) t
res_decides_right shapes a b t o all e =
    decide_right shapes Res Unknown a b t o o.fits all (sym o.fits) (λ v l. pair_right res_bit (λ x. Unknown) Unknown (same_on_bit (λ x. res_bit x Unknown) (λ x. Unknown) refl) (width_at shapes a) v l ∙ each_constant Unknown v) e

pub res_alike : (shapes : List Shape) (a b : ℕ) (t : Shape) → IsOver shapes (Binary Res a b) → a ≡ b → HasShape shapes a t → Becomes shapes (Binary Res a b) t
unfolding value_of width_of each_variable_of
res_alike shapes a b t o same e =
    becomes_node shapes (Binary Res a b) a t o.arena o.children.0 e refl (λ r h. sym (pair_alike res_bit (λ x. x) (same_on_bit (λ x. res_bit x x) (λ x. x) refl) (value_at r shapes a) ∙ each_self (value_at r shapes a)) ∙ ap (λ n. binary_value Res (value_at r shapes a) (value_at r shapes n)) same) (λ p m. left_of _ _ m)

pub ruleset res_laws = (res_keeps_right, res_keeps_left, res_decides_left, res_decides_right, res_alike)

-- ---- eq of one bit

eq_right : (u : Un) (z : Bit) (g : Bit → Bit) → ((x : Bit) → eq_of (x ∷ []) (z ∷ []) ≡ g x ∷ []) → ((x : Bit) → unary_value u (x ∷ []) ≡ g x ∷ []) → (w : ℕ) → w ≡ 1 → GivesRight Eq z w (unary_value u)
eq_right u z g h k w e [] l = cc
eq_right u z g h k w e (x ∷ y ∷ more) l = absurd (omega arith)
eq_right u z g h k w e (x ∷ []) l = ap (λ n. eq_of (x ∷ []) (replicate n z)) e ∙ h x ∙ sym (k x)

eq_left : (u : Un) (z : Bit) (g : Bit → Bit) → ((x : Bit) → eq_of (z ∷ []) (x ∷ []) ≡ g x ∷ []) → ((x : Bit) → unary_value u (x ∷ []) ≡ g x ∷ []) → (w : ℕ) → w ≡ 1 → GivesLeft Eq z w (unary_value u)
eq_left u z g h k w e [] l = cc
eq_left u z g h k w e (x ∷ y ∷ more) l = absurd (omega arith)
eq_left u z g h k w e (x ∷ []) l = ap (λ n. eq_of (replicate n z) (x ∷ [])) e ∙ h x ∙ sym (k x)

unfloat_one : (x : Bit) → unary_value Unfloat (x ∷ []) ≡ unfloat_bit x ∷ []
unfolding each
unfloat_one x = refl

not_one : (x : Bit) → unary_value Not (x ∷ []) ≡ not_bit x ∷ []
unfolding each
not_one x = refl

with_one : (x : Bit) → eq_of (x ∷ []) (One ∷ []) ≡ unfloat_bit x ∷ []
unfolding eq_of some_clash is_known
with_one Zero = refl
with_one One = refl
with_one Unknown = refl
with_one Floating = refl

one_with : (x : Bit) → eq_of (One ∷ []) (x ∷ []) ≡ unfloat_bit x ∷ []
unfolding eq_of some_clash is_known
one_with Zero = refl
one_with One = refl
one_with Unknown = refl
one_with Floating = refl

with_zero : (x : Bit) → eq_of (x ∷ []) (Zero ∷ []) ≡ not_bit x ∷ []
unfolding eq_of some_clash is_known
with_zero Zero = refl
with_zero One = refl
with_zero Unknown = refl
with_zero Floating = refl

zero_with : (x : Bit) → eq_of (Zero ∷ []) (x ∷ []) ≡ not_bit x ∷ []
unfolding eq_of some_clash is_known
zero_with Zero = refl
zero_with One = refl
zero_with Unknown = refl
zero_with Floating = refl

pub eq_leaves_left : (shapes : List Shape) (a b : ℕ) (t : Shape) → IsOver shapes (Binary Eq a b) → width_at shapes a ≡ 1 → IsAllAt shapes b One → Becomes shapes (Unary Unfloat a) t → Becomes shapes (Binary Eq a b) t
eq_leaves_left shapes a b t o w all to =
    unary_right shapes Eq Unfloat One a b t o o.fits all w (eq_right Unfloat One unfloat_bit with_one unfloat_one (width_at shapes a) w) to

pub eq_leaves_right : (shapes : List Shape) (a b : ℕ) (t : Shape) → IsOver shapes (Binary Eq a b) → width_at shapes a ≡ 1 → IsAllAt shapes a One → Becomes shapes (Unary Unfloat b) t → Becomes shapes (Binary Eq a b) t
eq_leaves_right shapes a b t o w all to =
    unary_left shapes Eq Unfloat One a b t o o.fits all (sym o.fits ∙ w) (eq_left Unfloat One unfloat_bit one_with unfloat_one (width_at shapes b) (sym o.fits ∙ w)) to

pub eq_negates_left : (shapes : List Shape) (a b : ℕ) (t : Shape) → IsOver shapes (Binary Eq a b) → width_at shapes a ≡ 1 → IsAllAt shapes b Zero → Becomes shapes (Unary Not a) t → Becomes shapes (Binary Eq a b) t
eq_negates_left shapes a b t o w all to =
    unary_right shapes Eq Not Zero a b t o o.fits all w (eq_right Not Zero not_bit with_zero not_one (width_at shapes a) w) to

pub eq_negates_right : (shapes : List Shape) (a b : ℕ) (t : Shape) → IsOver shapes (Binary Eq a b) → width_at shapes a ≡ 1 → IsAllAt shapes a Zero → Becomes shapes (Unary Not b) t → Becomes shapes (Binary Eq a b) t
eq_negates_right shapes a b t o w all to =
    unary_left shapes Eq Not Zero a b t o o.fits all (sym o.fits ∙ w) (eq_left Not Zero not_bit zero_with not_one (width_at shapes b) (sym o.fits ∙ w)) to

pub ruleset eq_laws = (eq_leaves_left, eq_leaves_right, eq_negates_left, eq_negates_right)
