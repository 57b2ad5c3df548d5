-- Values of which no bit is Z.
use Rattle.std.proofs.Common.{◌≡◌, ℕ, zero, suc, ◌-◌, ◌/◌, ◌%◌, ◌^◌, ◌<◌, Bool, true, false, cond, List, [], ◌∷◌, length, refl, sym, ap, ◌∙◌, subst, arith, ℤ, pos, negsuc}
use Rattle.fourvec.specs.declared.Bit.{Bit}
use Rattle.fourvec.specs.declared.Bit.TheVariants.{Zero, One, Unknown, Floating}
use Rattle.fourvec.specs.Bits.{each, each_pair, over, is_odd, unfloat_bit, unfloat_of, not_bit, and_bit, or_bit, xor_bit, merge_bit, keep_bit, truth_bit, truth_of, some_one, all_zero, some_clash, both_known, all_x, vector, signed_vector, is_known, choose, first, cond_of, pick_of, neg_of, eq_of, lt_of, slt_of, add_of, sub_of, mul_of, div_of, rem_of, sdiv_of, srem_of}
use Rattle.fourvec.proofs.Tables.{same_on_bits}
use Rattle.svex_shape.specs.declared.shape.Un.{Un}
use Rattle.svex_shape.specs.declared.shape.Un.TheVariants.{Unfloat, Not, Neg, RedAnd, RedOr, RedXor, Truth}
use Rattle.svex_shape.specs.declared.shape.Bin.{Bin}
use Rattle.svex_shape.specs.declared.shape.Bin.TheVariants.{And, Or, Xor, Eq, Lt, Slt, Add, Sub, Mul, Div, Rem, Sdiv, Srem, Res, Shl, Shr, Sar, Concat}
use Rattle.svex_shape.specs.declared.shape.Shape.{Shape}
use Rattle.svex_shape.specs.declared.shape.Shape.TheVariants.{Const, Unary, Binary, Cond, Pick}
use Rattle.svex_shape.specs.Shapes.{ChildrenBelow, shape_at, width_of}
use Rattle.svex_shape.specs.Values.{Vector, value_of, value_at, unary_value, binary_value, each_variable_of}
use Rattle.svex_arena.specs.Arenas.{IsArena}
use Rattle.svex_arena.proofs.Steps.{value_follows}
use Rattle.svex_rewrite.specs.Meaning.{Becomes, GivesNoZ, HasNoZ, passes_z, HasShape}
use Rattle.svex_rewrite.proofs.Vectors.{same_on_bit, each_twice, pair_settled}
use Rattle.svex_rewrite.proofs.Becoming.{becomes_node}

solid_x : (n : ℕ) → unfloat_of (all_x n) ≡ all_x n
unfolding each
solid_x zero = refl
solid_x (suc n) = ap (λ xs. Unknown ∷ xs) (solid_x n)

known_bit : (b : Bool) → unfloat_bit (truth_bit b) ≡ truth_bit b
known_bit true = refl
known_bit false = refl

solid_vector : (w n : ℕ) → unfloat_of (vector w n) ≡ vector w n
unfolding each vector
solid_vector zero n = refl
solid_vector (suc w) n =
    ap (λ x. x ∷ each unfloat_bit (vector w (n / 2))) (known_bit (is_odd n)) ∙ ap (λ xs. truth_bit (is_odd n) ∷ xs) (solid_vector w (n / 2))

-- a vector by a test
solid_either : (b : Bool) (a c : Vector) → unfloat_of a ≡ a → unfloat_of c ≡ c → unfloat_of (cond b a c) ≡ cond b a c
solid_either true a c e f = e
solid_either false a c e f = f

solid_number : (b : Bool) (w n k : ℕ) → unfloat_of (cond b (vector w n) (all_x k)) ≡ cond b (vector w n) (all_x k)
solid_number b w n k = solid_either b (vector w n) (all_x k) (solid_vector w n) (solid_x k)

solid_whole : (w : ℕ) (z : ℤ) → unfloat_of (signed_vector w z) ≡ signed_vector w z
solid_whole w (pos n) = solid_vector w n
solid_whole w (negsuc n) = solid_vector w (2 ^ w - 1 - n % 2 ^ w)

solid_signed : (b : Bool) (w : ℕ) (z : ℤ) (k : ℕ) → unfloat_of (cond b (signed_vector w z) (all_x k)) ≡ cond b (signed_vector w z) (all_x k)
solid_signed b w z k = solid_either b (signed_vector w z) (all_x k) (solid_whole w z) (solid_x k)

solid_pair : (f : Bit → Bit → Bit) → ((x y : Bit) → unfloat_bit (f x y) ≡ f x y) → (a b : Vector) → unfloat_of (each_pair f a b) ≡ each_pair f a b
solid_pair f h a b = pair_settled f unfloat_bit h a b

solid_over : (f : Bit → Bit → Bit) (start : Bit) → unfloat_bit start ≡ start → ((x y : Bit) → unfloat_bit (f x y) ≡ f x y) → (a : Vector) → unfloat_bit (over f start a) ≡ over f start a
unfolding over
solid_over f start s h [] = s
solid_over f start s h (x ∷ more) = h x (over f start more)

solid_bit : (x : Bit) → unfloat_bit x ≡ x → unfloat_of (x ∷ []) ≡ x ∷ []
unfolding each
solid_bit x e = ap (λ y. y ∷ []) e

bit_either : (b : Bool) (x y : Bit) → unfloat_bit x ≡ x → unfloat_bit y ≡ y → unfloat_bit (cond b x y) ≡ cond b x y
bit_either true x y e f = e
bit_either false x y e f = f

and_solid : (x y : Bit) → unfloat_bit (and_bit x y) ≡ and_bit x y
and_solid = same_on_bits (λ x y. unfloat_bit (and_bit x y)) and_bit refl

or_solid : (x y : Bit) → unfloat_bit (or_bit x y) ≡ or_bit x y
or_solid = same_on_bits (λ x y. unfloat_bit (or_bit x y)) or_bit refl

xor_solid : (x y : Bit) → unfloat_bit (xor_bit x y) ≡ xor_bit x y
xor_solid = same_on_bits (λ x y. unfloat_bit (xor_bit x y)) xor_bit refl

merge_solid : (x y : Bit) → unfloat_bit (merge_bit x y) ≡ merge_bit x y
merge_solid = same_on_bits (λ x y. unfloat_bit (merge_bit x y)) merge_bit refl

-- ---- operators

unary_solid : (op : Un) (a : Vector) → unfloat_of (unary_value op a) ≡ unary_value op a
unfolding truth_of neg_of
unary_solid Unfloat a = each_twice unfloat_bit unfloat_bit unfloat_bit (same_on_bit (λ x. unfloat_bit (unfloat_bit x)) unfloat_bit refl) a
unary_solid Not a = each_twice unfloat_bit not_bit not_bit (same_on_bit (λ x. unfloat_bit (not_bit x)) not_bit refl) a
unary_solid Neg a = solid_number (is_known a) _ _ _
unary_solid RedAnd a = solid_bit _ (solid_over and_bit One refl and_solid a)
unary_solid RedOr a = solid_bit _ (solid_over or_bit Zero refl or_solid a)
unary_solid RedXor a = solid_bit _ (solid_over xor_bit Zero refl xor_solid a)
unary_solid Truth a =
    solid_bit _ (bit_either (some_one a) One (cond (all_zero a) Zero Unknown) refl (bit_either (all_zero a) Zero Unknown refl refl))

binary_solid : (op : Bin) → passes_z op ≡ false → (a b : Vector) → unfloat_of (binary_value op a b) ≡ binary_value op a b
unfolding eq_of lt_of slt_of add_of sub_of mul_of div_of rem_of sdiv_of srem_of
binary_solid And h a b = solid_pair and_bit and_solid a b
binary_solid Or h a b = solid_pair or_bit or_solid a b
binary_solid Xor h a b = solid_pair xor_bit xor_solid a b
binary_solid Eq h a b =
    solid_bit _ (bit_either (some_clash a b) Zero (cond (both_known a b) One Unknown) refl (bit_either (both_known a b) One Unknown refl refl))
binary_solid Lt h a b = solid_bit _ (bit_either (both_known a b) _ Unknown (known_bit _) refl)
binary_solid Slt h a b = solid_bit _ (bit_either (both_known a b) _ Unknown (known_bit _) refl)
binary_solid Add h a b = solid_number _ _ _ _
binary_solid Sub h a b = solid_number _ _ _ _
binary_solid Mul h a b = solid_number _ _ _ _
binary_solid Div h a b = solid_number _ _ _ _
binary_solid Rem h a b = solid_number _ _ _ _
binary_solid Sdiv h a b = solid_signed _ _ _ _
binary_solid Srem h a b = solid_signed _ _ _ _
binary_solid Res h a b = cc
binary_solid Shl h a b = cc
binary_solid Shr h a b = cc
binary_solid Sar h a b = cc
binary_solid Concat h a b = cc

-- ---- shapes

pub const_gives : (v : Vector) → v ≡ unfloat_of v → GivesNoZ (Const v)
unfolding value_of GivesNoZ
const_gives v e = λ r f. sym e

pub unary_gives : (op : Un) (a : ℕ) → GivesNoZ (Unary op a)
unfolding value_of GivesNoZ
unary_gives op a = λ r f. unary_solid op (f a)

pub binary_gives : (op : Bin) (a b : ℕ) → passes_z op ≡ false → GivesNoZ (Binary op a b)
unfolding value_of GivesNoZ
binary_gives op a b h = λ r f. binary_solid op h (f a) (f b)

pub ruleset giving = (const_gives, unary_gives, binary_gives)

pub shape_has : (shapes : List Shape) (k : ℕ) (s : Shape) → IsArena shapes → k < length shapes → HasShape shapes k s → GivesNoZ s → HasNoZ shapes k
unfolding GivesNoZ HasNoZ
shape_has shapes k s i l e g = λ r.
    let is : value_at r shapes k ≡ value_of r (value_at r shapes) s = value_follows r shapes k i l ∙ ap (value_of r (value_at r shapes)) e.is in
    ap unfloat_of is ∙ g r (value_at r shapes) ∙ sym is

-- a choice between two that have none
choice_solid : (f : Bit → Bit → Bit) (c : Bit) (a b : Vector) → ((x y : Vector) → unfloat_of x ≡ x → unfloat_of y ≡ y → unfloat_of (each_pair f x y) ≡ each_pair f x y) → unfloat_of a ≡ a → unfloat_of b ≡ b → unfloat_of (choose f c a b) ≡ choose f c a b
choice_solid f One a b p e g = e
choice_solid f Zero a b p e g = g
choice_solid f Unknown a b p e g = p a b e g
choice_solid f Floating a b p e g = p a b e g

keep_solid_bit : (x y : Bit) → unfloat_bit x ≡ x → unfloat_bit (keep_bit x y) ≡ keep_bit x y
keep_solid_bit Zero y e = same_on_bit (λ b. unfloat_bit (keep_bit Zero b)) (keep_bit Zero) refl y
keep_solid_bit One y e = same_on_bit (λ b. unfloat_bit (keep_bit One b)) (keep_bit One) refl y
keep_solid_bit Unknown y e = same_on_bit (λ b. unfloat_bit (keep_bit Unknown b)) (keep_bit Unknown) refl y
keep_solid_bit Floating y e = cc

keep_solid : (a b : Vector) → unfloat_of a ≡ a → unfloat_of (each_pair keep_bit a b) ≡ each_pair keep_bit a b
unfolding each each_pair
keep_solid [] b e = refl
keep_solid (x ∷ more) [] e = refl
keep_solid (x ∷ more) (y ∷ rest) e =
    let head : unfloat_bit x ≡ x = cc in
    let tail : each unfloat_bit more ≡ more = cc in
    ap (λ z. z ∷ each unfloat_bit (each_pair keep_bit more rest)) (keep_solid_bit x y head) ∙ ap (λ xs. keep_bit x y ∷ xs) (keep_solid more rest tail)

branches_have : (shapes : List Shape) (k c a b : ℕ) → IsArena shapes → k < length shapes → (a < length shapes) × (b < length shapes) → GivesNoZ (shape_at shapes a) → GivesNoZ (shape_at shapes b) → HasNoZ shapes a × HasNoZ shapes b
branches_have shapes k c a b i l below g h =
    (shape_has shapes a (shape_at shapes a) i below.0 (record { is = refl }) g, shape_has shapes b (shape_at shapes b) i below.1 (record { is = refl }) h)

pub cond_has : (shapes : List Shape) (k c a b : ℕ) → IsArena shapes → k < length shapes → HasShape shapes k (Cond c a b) → GivesNoZ (shape_at shapes a) → GivesNoZ (shape_at shapes b) → HasNoZ shapes k
unfolding value_of cond_of HasNoZ
cond_has shapes k c a b i l e g h =
    let children : (c < k) × (a < k) × (b < k) = subst (ChildrenBelow k) e.is (i.children k l) in
    let both = branches_have shapes k c a b i l (omega arith, omega arith) g h in
    λ r.
    let is : value_at r shapes k ≡ cond_of (value_at r shapes c) (value_at r shapes a) (value_at r shapes b) = value_follows r shapes k i l ∙ ap (value_of r (value_at r shapes)) e.is in
    ap unfloat_of is ∙ choice_solid merge_bit (first (value_at r shapes c)) (value_at r shapes a) (value_at r shapes b) (λ x y p q. solid_pair merge_bit merge_solid x y) (both.0 r) (both.1 r) ∙ sym is

pub pick_has : (shapes : List Shape) (k c a b : ℕ) → IsArena shapes → k < length shapes → HasShape shapes k (Pick c a b) → GivesNoZ (shape_at shapes a) → GivesNoZ (shape_at shapes b) → HasNoZ shapes k
unfolding value_of pick_of HasNoZ
pick_has shapes k c a b i l e g h =
    let children : (c < k) × (a < k) × (b < k) = subst (ChildrenBelow k) e.is (i.children k l) in
    let both = branches_have shapes k c a b i l (omega arith, omega arith) g h in
    λ r.
    let is : value_at r shapes k ≡ pick_of (value_at r shapes c) (value_at r shapes a) (value_at r shapes b) = value_follows r shapes k i l ∙ ap (value_of r (value_at r shapes)) e.is in
    ap unfloat_of is ∙ choice_solid keep_bit (first (value_at r shapes c)) (value_at r shapes a) (value_at r shapes b) (λ x y p q. keep_solid x y p) (both.0 r) (both.1 r) ∙ sym is

pub ruleset having = (shape_has, cond_has, pick_has)

pub unfloat_drops : (shapes : List Shape) (a : ℕ) (t : Shape) → IsArena shapes → a < length shapes → HasNoZ shapes a → HasShape shapes a t → Becomes shapes (Unary Unfloat a) t
unfolding value_of width_of each_variable_of HasNoZ
unfloat_drops shapes a t i l h e = becomes_node shapes (Unary Unfloat a) a t i l e refl (λ r w. sym (h r)) (λ p m. m)
