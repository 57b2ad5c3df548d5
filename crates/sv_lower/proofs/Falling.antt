-- Sizes that the functions of the cycle over trees go down. A form's own function stands between a tree and its parts, so the measure of
-- a tree is twice its size, and that of such a function one more than twice the size of the parts.
use Rattle.std.proofs.Common.{◌≡◌, ℕ, suc, ◌+◌, ◌*◌, ◌<◌, sym, ap, ◌∙◌, arith}
use Rattle.sv_typed.specs.declared.ops.Arithmetic.{Arithmetic}
use Rattle.sv_typed.specs.declared.ops.Shift.{Shift}
use Rattle.sv_typed.specs.declared.ops.Comparison.{Comparison}
use Rattle.sv_typed.specs.declared.ops.Logic.{Logic}
use Rattle.sv_typed.specs.declared.tree.Typed.{Typed}
use Rattle.sv_typed.specs.declared.tree.TypedForm.{TypedForm}
use Rattle.sv_typed.specs.declared.tree.TypedForm.TheVariants as f
use Rattle.sv_typed.specs.declared.tree.PickPlace.TheBlock.{shape-the_row-Typed-0, hidden-the_row-Typed-0}
use Rattle.sv_typed.proofs.Below.{form_size, size}

-- from a tree to a function over its parts
pub inward : (m n t : ℕ) → m < n → 2 * n ≡ t → suc (2 * m) < t
inward m n t h e = omega arith

pub inward_more : (m n t : ℕ) → suc m < n → 2 * n ≡ t → suc (2 * m) < t
inward_more m n t h e = omega arith

-- from a list or a select to what it holds
pub onward : (m n t : ℕ) → m < n → 2 * n ≡ t → 2 * m < t
onward m n t h e = omega arith

pub onward_more : (m n t : ℕ) → suc m < n → 2 * n ≡ t → 2 * m < t
onward_more m n t h e = omega arith

-- ---- two parts together

pub computed_less : (t x y : Typed) (op : Arithmetic) (a b : Typed) → t.form ≡ f.Computed op a b → x ≡ a → y ≡ b → size x + size y < size t
unfolding size form_size shape-the_row-Typed-0 hidden-the_row-Typed-0 denote.Hole.Carrier.hidden
computed_less t x y op a b e i j = let g = ap form_size e in let u = ap size i in let v = ap size j in omega arith

pub moved_less : (t x y : Typed) (op : Shift) (a b : Typed) → t.form ≡ f.Moved op a b → x ≡ a → y ≡ b → size x + size y < size t
unfolding size form_size shape-the_row-Typed-0 hidden-the_row-Typed-0 denote.Hole.Carrier.hidden
moved_less t x y op a b e i j = let g = ap form_size e in let u = ap size i in let v = ap size j in omega arith

pub compared_less : (t x y : Typed) (op : Comparison) (a b : Typed) → t.form ≡ f.Compared op a b → x ≡ a → y ≡ b → size x + size y < size t
unfolding size form_size shape-the_row-Typed-0 hidden-the_row-Typed-0 denote.Hole.Carrier.hidden
compared_less t x y op a b e i j = let g = ap form_size e in let u = ap size i in let v = ap size j in omega arith

pub combined_less : (t x y : Typed) (op : Logic) (a b : Typed) → t.form ≡ f.Combined op a b → x ≡ a → y ≡ b → size x + size y < size t
unfolding size form_size shape-the_row-Typed-0 hidden-the_row-Typed-0 denote.Hole.Carrier.hidden
combined_less t x y op a b e i j = let g = ap form_size e in let u = ap size i in let v = ap size j in omega arith

pub chosen_less : (t z x y : Typed) (c a b : Typed) → t.form ≡ f.Chosen c a b → z ≡ c → x ≡ a → y ≡ b → size z + size x + size y < size t
unfolding size form_size shape-the_row-Typed-0 hidden-the_row-Typed-0 denote.Hole.Carrier.hidden
chosen_less t z x y c a b e h i j = let g = ap form_size e in let w = ap size h in let u = ap size i in let v = ap size j in omega arith

-- ---- a form over parts that are equal to its own

pub form_one : {A : Type 0} (z : TypedForm) (x a : A) (g : A → TypedForm) → z ≡ g a → x ≡ a → z ≡ g x
form_one z x a g e i = e ∙ sym (ap g i)

pub form_two : (z : TypedForm) (x y a b : Typed) (g : Typed → Typed → TypedForm) → z ≡ g a b → x ≡ a → y ≡ b → z ≡ g x y
form_two z x y a b g e i j = e ∙ sym (ap (g x) j ∙ ap (λ v. g v b) i)

pub form_three : (z : TypedForm) (x y w a b c : Typed) (g : Typed → Typed → Typed → TypedForm) → z ≡ g a b c → x ≡ a → y ≡ b → w ≡ c → z ≡ g x y w
form_three z x y w a b c g e i j k = e ∙ sym (ap (g x y) k ∙ ap (λ v. g x v c) j ∙ ap (λ v. g v b c) i)
