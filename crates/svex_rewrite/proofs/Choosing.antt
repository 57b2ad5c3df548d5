-- The laws of choices.
use Rattle.std.proofs.Common.{◌≡◌, ℕ, ◌<◌, List, length, replicate, refl, sym, ap, ◌∙◌}
use Rattle.fourvec.specs.declared.Bit.{Bit}
use Rattle.fourvec.specs.declared.Bit.TheVariants.{Zero, One, Unknown, Floating}
use Rattle.fourvec.specs.Bits.{each_pair, merge_bit, keep_bit, choose, first, cond_of, pick_of}
use Rattle.fourvec.proofs.Tables.{left_of, right_of}
use Rattle.fourvec.proofs.Widths.{length-cond_of, length-pick_of}
use Rattle.svex_shape.specs.declared.shape.Shape.{Shape}
use Rattle.svex_shape.specs.declared.shape.Shape.TheVariants.{Const, Cond, Pick}
use Rattle.svex_shape.specs.Shapes.{width_of, width_at}
use Rattle.svex_shape.specs.Values.{Vector, Reading, value_of, value_at, each_variable_of}
use Rattle.svex_arena.specs.Arenas.{IsArena}
use Rattle.svex_rewrite.specs.Meaning.{IsOver, Becomes, IsAllAt, HasShape}
use Rattle.svex_rewrite.proofs.Vectors.{same_on_bit, each_self, pair_alike}
use Rattle.svex_rewrite.proofs.Becoming.{becomes_node, becomes_const, const_value, const_width}

-- ---- a known condition

first_known : (r : Reading) (shapes : List Shape) (c : ℕ) (z : Bit) → IsArena shapes → c < length shapes → width_at shapes c ≡ 1 → IsAllAt shapes c z → first (value_at r shapes c) ≡ z
first_known r shapes c z i l w all =
    ap first (const_value r shapes c (replicate (width_at shapes c) z) i l (record { is = all.is })) ∙ ap (λ n. first (replicate n z)) w

pub cond_by_one : (shapes : List Shape) (c a b : ℕ) (t : Shape) → IsOver shapes (Cond c a b) → IsAllAt shapes c One → HasShape shapes a t → Becomes shapes (Cond c a b) t
unfolding value_of width_of each_variable_of cond_of
cond_by_one shapes c a b t o all e =
    becomes_node shapes (Cond c a b) a t o.arena o.children.1 e refl
    (λ r h. sym (ap (λ x. choose merge_bit x (value_at r shapes a) (value_at r shapes b)) (first_known r shapes c One o.arena o.children.0 o.fits.0 all)))
    (λ p m. left_of _ _ (right_of _ _ m))

pub cond_by_zero : (shapes : List Shape) (c a b : ℕ) (t : Shape) → IsOver shapes (Cond c a b) → IsAllAt shapes c Zero → HasShape shapes b t → Becomes shapes (Cond c a b) t
unfolding value_of width_of each_variable_of cond_of
cond_by_zero shapes c a b t o all e =
    becomes_node shapes (Cond c a b) b t o.arena o.children.2 e (sym o.fits.1)
    (λ r h. sym (ap (λ x. choose merge_bit x (value_at r shapes a) (value_at r shapes b)) (first_known r shapes c Zero o.arena o.children.0 o.fits.0 all)))
    (λ p m. right_of _ _ (right_of _ _ m))

pub ruleset cond_laws = (cond_by_one, cond_by_zero)

pub pick_by_one : (shapes : List Shape) (c a b : ℕ) (t : Shape) → IsOver shapes (Pick c a b) → IsAllAt shapes c One → HasShape shapes a t → Becomes shapes (Pick c a b) t
unfolding value_of width_of each_variable_of pick_of
pick_by_one shapes c a b t o all e =
    becomes_node shapes (Pick c a b) a t o.arena o.children.1 e refl
    (λ r h. sym (ap (λ x. choose keep_bit x (value_at r shapes a) (value_at r shapes b)) (first_known r shapes c One o.arena o.children.0 o.fits.0 all)))
    (λ p m. left_of _ _ (right_of _ _ m))

pub pick_by_zero : (shapes : List Shape) (c a b : ℕ) (t : Shape) → IsOver shapes (Pick c a b) → IsAllAt shapes c Zero → HasShape shapes b t → Becomes shapes (Pick c a b) t
unfolding value_of width_of each_variable_of pick_of
pick_by_zero shapes c a b t o all e =
    becomes_node shapes (Pick c a b) b t o.arena o.children.2 e (sym o.fits.1)
    (λ r h. sym (ap (λ x. choose keep_bit x (value_at r shapes a) (value_at r shapes b)) (first_known r shapes c Zero o.arena o.children.0 o.fits.0 all)))
    (λ p m. right_of _ _ (right_of _ _ m))

-- ---- a node and itself

keep_alike : (a : Vector) → each_pair keep_bit a a ≡ a
keep_alike a =
    pair_alike keep_bit (λ x. x) (same_on_bit (λ x. keep_bit x x) (λ x. x) refl) a ∙ each_self a

choose_alike : (b : Bit) (a : Vector) → choose keep_bit b a a ≡ a
choose_alike One a = refl
choose_alike Zero a = refl
choose_alike Unknown a = keep_alike a
choose_alike Floating a = keep_alike a

pub pick_alike : (shapes : List Shape) (c a b : ℕ) (t : Shape) → IsOver shapes (Pick c a b) → a ≡ b → HasShape shapes a t → Becomes shapes (Pick c a b) t
unfolding value_of width_of each_variable_of pick_of
pick_alike shapes c a b t o same e =
    becomes_node shapes (Pick c a b) a t o.arena o.children.1 e refl
    (λ r h. sym (choose_alike (first (value_at r shapes c)) (value_at r shapes a)) ∙ ap (λ n. choose keep_bit (first (value_at r shapes c)) (value_at r shapes a) (value_at r shapes n)) same)
    (λ p m. left_of _ _ (right_of _ _ m))

pub ruleset pick_laws = (pick_by_one, pick_by_zero, pick_alike)

-- ---- constants

pub cond_folds_at : (shapes : List Shape) (c a b : ℕ) (x v u y : Vector) → IsOver shapes (Cond c a b) → HasShape shapes c (Const x) → HasShape shapes a (Const v) → HasShape shapes b (Const u) → y ≡ cond_of x v u → Becomes shapes (Cond c a b) (Const y)
unfolding value_of width_of
cond_folds_at shapes c a b x v u y o d e f q =
    let left = const_width shapes a v o.arena o.children.1 e in
    let right = const_width shapes b u o.arena o.children.2 f in
    becomes_const shapes (Cond c a b) y o.arena (ap length q ∙ length-cond_of x v u (sym left ∙ o.fits.1 ∙ right) ∙ sym left)
    (λ r h. q ∙ sym (ap (λ z. cond_of z (value_at r shapes a) (value_at r shapes b)) (const_value r shapes c x o.arena o.children.0 d) ∙ ap (λ z. cond_of x z (value_at r shapes b)) (const_value r shapes a v o.arena o.children.1 e) ∙ ap (cond_of x v) (const_value r shapes b u o.arena o.children.2 f)))

pub pick_folds_at : (shapes : List Shape) (c a b : ℕ) (x v u y : Vector) → IsOver shapes (Pick c a b) → HasShape shapes c (Const x) → HasShape shapes a (Const v) → HasShape shapes b (Const u) → y ≡ pick_of x v u → Becomes shapes (Pick c a b) (Const y)
unfolding value_of width_of
pick_folds_at shapes c a b x v u y o d e f q =
    let left = const_width shapes a v o.arena o.children.1 e in
    let right = const_width shapes b u o.arena o.children.2 f in
    becomes_const shapes (Pick c a b) y o.arena (ap length q ∙ length-pick_of x v u (sym left ∙ o.fits.1 ∙ right) ∙ sym left)
    (λ r h. q ∙ sym (ap (λ z. pick_of z (value_at r shapes a) (value_at r shapes b)) (const_value r shapes c x o.arena o.children.0 d) ∙ ap (λ z. pick_of x z (value_at r shapes b)) (const_value r shapes a v o.arena o.children.1 e) ∙ ap (pick_of x v) (const_value r shapes b u o.arena o.children.2 f)))

pub ruleset cond_folds = (cond_folds_at, const_width)

pub ruleset pick_folds = (pick_folds_at, const_width)
