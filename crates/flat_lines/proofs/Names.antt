-- The names of operators are told from one another.
use Rattle.std.proofs.Common.{◌≡◌, Bool, true, false, cond, List, [], ◌∷◌, ◌++◌, Some, refl, sym, subst}
use Rattle.std.specs.Prelude.{bytes_eq, find}
use Rattle.std.proofs.lemmas.Slice.Eq.{bytes_eq-Decides}
use Rattle.svex_shape.specs.declared.shape.Un.{Un}
use Rattle.svex_shape.specs.declared.shape.Un.TheVariants.{Unfloat, Not, Neg, RedAnd, RedOr, RedXor, Truth}
use Rattle.svex_shape.specs.declared.shape.Bin.{Bin}
use Rattle.svex_shape.specs.declared.shape.Bin.TheVariants.{And, Or, Xor, Eq, Lt, Slt, Add, Sub, Mul, Div, Rem, Sdiv, Srem, Res, Shl, Shr, Sar, Concat}
use Rattle.svex_shape.specs.declared.shape.Shape.TheVariants as s
use Rattle.flat_text.specs.Lines.{Text, unary_name, binary_name}
use Rattle.flat_words.specs.Readers.{made, next}
use Rattle.flat_words.proofs.Forms.{same_some}
use Rattle.flat_lines.specs.declared.shapes.Form.{Form}
use Rattle.flat_lines.specs.declared.shapes.Form.TheVariants as f
use Rattle.flat_lines.specs.Shapes.{unary_operators, binary_operators, forms, form_name, unary_of, binary_of, form_of, by_form, by_word, shape, two}

-- ---- what is read behind a name

pub unary_front : (op : Un) (r : Text) → shape (unary_name op ++ 32 ∷ r) ≡ made (λ k. s.Unary op k) next (32 ∷ r)
unfolding shape by_word unary_of
unary_front Unfloat r = refl
unary_front Not r = refl
unary_front Neg r = refl
unary_front RedAnd r = refl
unary_front RedOr r = refl
unary_front RedXor r = refl
unary_front Truth r = refl

pub binary_front : (op : Bin) (r : Text) → shape (binary_name op ++ 32 ∷ r) ≡ made (λ x. s.Binary op x.0 x.1) two (32 ∷ r)
unfolding shape by_word unary_of binary_of
binary_front And r = refl
binary_front Or r = refl
binary_front Xor r = refl
binary_front Eq r = refl
binary_front Lt r = refl
binary_front Slt r = refl
binary_front Add r = refl
binary_front Sub r = refl
binary_front Mul r = refl
binary_front Div r = refl
binary_front Rem r = refl
binary_front Sdiv r = refl
binary_front Srem r = refl
binary_front Res r = refl
binary_front Shl r = refl
binary_front Shr r = refl
binary_front Sar r = refl
binary_front Concat r = refl

pub form_front : (form : Form) (r : Text) → shape (form_name form ++ 32 ∷ r) ≡ by_form form (32 ∷ r)
unfolding shape by_word unary_of binary_of form_of
form_front f.Const r = refl
form_front f.Var r = refl
form_front f.Cond r = refl
form_front f.Pick r = refl
form_front f.Slice r = refl
form_front f.Zext r = refl
form_front f.Sext r = refl
form_front f.DynSlice r = refl
form_front f.DynPut r = refl

-- ---- names that are found

find_passes : {X : Type 0} (p : X → Bool) (xs : List X) (x : X) → find p xs ≡ Some x → p x ≡ true
find_passes p [] x h = cc
find_passes {X} p (y ∷ xs) x h = either (p y) refl (find_passes p xs x) h
  where
    either : (b : Bool) → p y ≡ b → (find p xs ≡ Some x → p x ≡ true) → cond b (Some y) (find p xs) ≡ Some x → p x ≡ true
    either true e later h = subst (λ z. p z ≡ true) (same_some y x h) e
    either false e later h = later h

pub unary_found : (w : Text) (op : Un) → unary_of w ≡ Some op → w ≡ unary_name op
unfolding unary_of
unary_found w op h = sym ((bytes_eq-Decides (unary_name op) w).0 (find_passes (λ o. bytes_eq (unary_name o) w) unary_operators op h))

pub binary_found : (w : Text) (op : Bin) → binary_of w ≡ Some op → w ≡ binary_name op
unfolding binary_of
binary_found w op h = sym ((bytes_eq-Decides (binary_name op) w).0 (find_passes (λ o. bytes_eq (binary_name o) w) binary_operators op h))

pub form_found : (w : Text) (form : Form) → form_of w ≡ Some form → w ≡ form_name form
unfolding form_of
form_found w form h = sym ((bytes_eq-Decides (form_name form) w).0 (find_passes (λ o. bytes_eq (form_name o) w) forms form h))
