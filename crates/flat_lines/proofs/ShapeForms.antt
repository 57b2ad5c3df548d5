-- Shapes are read just as they are printed.
use Rattle.std.proofs.Common.{◌≡◌, ℕ, List, ◌∷◌, ◌++◌, codes, decimal, take, drop, Option, Some, None, refl, sym, ap, ◌∙◌, subst, append_assoc}
use Rattle.std.specs.List.{prefix_len}
use Rattle.std.proofs.lemmas.List.{take-append-drop}
use Rattle.fourvec.specs.declared.Bit.{Bit}
use Rattle.fourvec.specs.declared.Spot.{Spot}
use Rattle.svex_shape.specs.declared.shape.VarName.{VarName}
use Rattle.svex_shape.specs.declared.shape.VarName.TheVariants.{Now, Prev, Stim, Chosen, Sampled}
use Rattle.svex_shape.specs.declared.shape.Un.{Un}
use Rattle.svex_shape.specs.declared.shape.Bin.{Bin}
use Rattle.svex_shape.specs.declared.shape.Shape.{Shape}
use Rattle.svex_shape.specs.declared.shape.Shape.TheVariants.{Const, Var, Unary, Binary, Cond, Pick, Slice, Zext, Sext, DynSlice, DynPut}
use Rattle.flat_text.specs.Lines.{Text, unary_name, binary_name, value_text, spot_text, shape_text, next as next_text}
use Rattle.flat_words.specs.Readers.{Reader, behind, before, both, made, is_letter, number, next, next_byte, next_spot, vector}
use Rattle.flat_words.proofs.Forms.{IsForm, behind_takes, behind_gives, before_form, both_form, form_stops, made_takes, made_gives}
use Rattle.flat_words.specs.Fits.{FitsNumber, FitsByte, FitsParts, FitsVector}
use Rattle.flat_lines.specs.Fits.{FitsName, FitsShape}
use Rattle.flat_words.proofs.Written.{StopsDigits, AtEnd, number_form, next_form, next_byte_form, next_spot_form, vector_form}
use Rattle.flat_lines.specs.declared.shapes.Form.{Form}
use Rattle.flat_lines.specs.declared.shapes.Form.TheVariants as f
use Rattle.flat_lines.specs.Shapes.{form_name, unary_of, binary_of, form_of, variable_by, variable, constant, two, three, part, widened, by_form, by_name, by_word, shape}
use Rattle.flat_lines.proofs.Names.{unary_front, binary_front, form_front, unary_found, binary_found, form_found}

-- ---- numbers behind blanks

at_end : (t : Text) → AtEnd t → StopsDigits t
at_end t h = subst StopsDigits (sym h) refl

last_next : IsForm ℕ FitsNumber AtEnd next_text next
last_next = form_stops ℕ FitsNumber StopsDigits AtEnd next_text next at_end next_form

last_byte : IsForm ℕ FitsByte AtEnd next_text next_byte
last_byte = form_stops ℕ FitsByte StopsDigits AtEnd next_text next_byte at_end next_byte_form

two_form : IsForm (ℕ × ℕ) (λ x. FitsNumber x.0 × FitsNumber x.1) AtEnd (λ x. next_text x.0 ++ next_text x.1) two
unfolding two
two_form = both_form ℕ ℕ FitsNumber FitsNumber StopsDigits AtEnd next_text next_text next next next_form last_next (λ b rest fits stops. refl)

three_form : IsForm (ℕ × (ℕ × ℕ)) (λ x. FitsNumber x.0 × (FitsNumber x.1.0 × FitsNumber x.1.1)) AtEnd (λ x. next_text x.0 ++ (next_text x.1.0 ++ next_text x.1.1)) three
unfolding three
three_form = both_form ℕ (ℕ × ℕ) FitsNumber (λ y. FitsNumber y.0 × FitsNumber y.1) StopsDigits AtEnd next_text (λ y. next_text y.0 ++ next_text y.1) next two next_form two_form (λ b rest fits stops. refl)

widened_form : IsForm (ℕ × ℕ) (λ x. FitsNumber x.0 × FitsByte x.1) AtEnd (λ x. next_text x.0 ++ next_text x.1) widened
unfolding widened
widened_form = both_form ℕ ℕ FitsNumber FitsByte StopsDigits AtEnd next_text next_text next next_byte next_form last_byte (λ b rest fits stops. refl)

part_form : IsForm (ℕ × (ℕ × ℕ)) (λ x. FitsNumber x.0 × (FitsByte x.1.0 × FitsByte x.1.1)) AtEnd (λ x. next_text x.0 ++ (next_text x.1.0 ++ next_text x.1.1)) part
unfolding part
part_form = both_form ℕ (ℕ × ℕ) FitsNumber (λ y. FitsByte y.0 × FitsByte y.1) StopsDigits AtEnd next_text (λ y. next_text y.0 ++ next_text y.1) next (both next_byte next_byte) next_form
    (both_form ℕ ℕ FitsByte FitsByte StopsDigits AtEnd next_text next_text next_byte next_byte next_byte_form last_byte (λ b rest fits stops. refl)) (λ b rest fits stops. refl)

abbrev spot_words : Spot → Text
spot_words s = 32 ∷ spot_text s

dyn_slice_form : IsForm (ℕ × (ℕ × Spot)) (λ x. FitsNumber x.0 × (FitsNumber x.1.0 × FitsParts x.1.1)) AtEnd (λ x. next_text x.0 ++ (next_text x.1.0 ++ spot_words x.1.1)) (both next (both next next_spot))
dyn_slice_form = both_form ℕ (ℕ × Spot) FitsNumber (λ y. FitsNumber y.0 × FitsParts y.1) StopsDigits AtEnd next_text (λ y. next_text y.0 ++ spot_words y.1) next (both next next_spot) next_form
    (both_form ℕ Spot FitsNumber FitsParts StopsDigits AtEnd next_text spot_words next next_spot next_form (form_stops Spot FitsParts StopsDigits AtEnd spot_words next_spot at_end next_spot_form) (λ b rest fits stops. refl)) (λ b rest fits stops. refl)

dyn_put_form : IsForm (ℕ × (ℕ × (Spot × ℕ))) (λ x. FitsNumber x.0 × (FitsNumber x.1.0 × (FitsParts x.1.1.0 × FitsNumber x.1.1.1))) AtEnd (λ x. next_text x.0 ++ (next_text x.1.0 ++ (spot_words x.1.1.0 ++ next_text x.1.1.1))) (both next (both next (both next_spot next)))
dyn_put_form = both_form ℕ (ℕ × (Spot × ℕ)) FitsNumber (λ y. FitsNumber y.0 × (FitsParts y.1.0 × FitsNumber y.1.1)) StopsDigits AtEnd next_text (λ y. next_text y.0 ++ (spot_words y.1.0 ++ next_text y.1.1)) next (both next (both next_spot next)) next_form
    (both_form ℕ (Spot × ℕ) FitsNumber (λ z. FitsParts z.0 × FitsNumber z.1) StopsDigits AtEnd next_text (λ z. spot_words z.0 ++ next_text z.1) next (both next_spot next) next_form
    (both_form Spot ℕ FitsParts FitsNumber StopsDigits AtEnd spot_words next_text next_spot next next_spot_form last_next (λ b rest fits stops. refl)) (λ b rest fits stops. refl)) (λ b rest fits stops. refl)

variable_form : IsForm (ℕ × ℕ) (λ x. FitsNumber x.0 × FitsByte x.1) AtEnd (λ x. decimal x.0 ++ next_text x.1) (both number next_byte)
variable_form = both_form ℕ ℕ FitsNumber FitsByte StopsDigits AtEnd decimal next_text number next_byte number_form last_byte (λ b rest fits stops. refl)

constant_form : IsForm (List Bit) FitsVector AtEnd (λ v. codes " " ++ value_text v) (λ t. before (codes " ") vector t)
constant_form = before_form (List Bit) FitsVector AtEnd value_text vector (codes " ") vector_form

-- ---- what is printed is read

unary_reads : (op : Un) (a : ℕ) (rest : Text) → FitsNumber a → AtEnd rest → shape (shape_text (Unary op a) ++ rest) ≡ Some (Unary op a, rest)
unfolding shape_text
unary_reads op a rest h end = ap shape (append_assoc (unary_name op) (next_text a) rest) ∙ unary_front op (decimal a ++ rest) ∙ made_takes (λ k. Unary op k) next (next_text a ++ rest) a rest (last_next.takes a rest h end)

binary_reads : (op : Bin) (a b : ℕ) (rest : Text) → FitsNumber a × FitsNumber b → AtEnd rest → shape (shape_text (Binary op a b) ++ rest) ≡ Some (Binary op a b, rest)
unfolding shape_text
binary_reads op a b rest h end = ap shape (append_assoc (binary_name op) (next_text a ++ next_text b) rest) ∙ binary_front op ((decimal a ++ next_text b) ++ rest) ∙ made_takes (λ x. Binary op x.0 x.1) two ((next_text a ++ next_text b) ++ rest) (a, b) rest (two_form.takes (a, b) rest h end)

marks_differ : (r : Text) → behind (codes " now ") (codes " prev " ++ r) ≡ None
unfolding behind
marks_differ r = refl

variable_reads : (name : VarName) (w : ℕ) (rest : Text) → FitsName name → FitsByte w → AtEnd rest → shape (shape_text (Var name w) ++ rest) ≡ Some (Var name w, rest)
unfolding shape_text variable
variable_reads (Now n) w rest h g end =
    form_front f.Var (codes "now " ++ ((decimal n ++ next_text w) ++ rest))
    ∙ ap (λ o. variable_by o (behind (codes " prev ") (codes " now " ++ ((decimal n ++ next_text w) ++ rest)))) (behind_takes (codes " now ") ((decimal n ++ next_text w) ++ rest))
    ∙ made_takes (λ x. Var (Now x.0) x.1) (both number next_byte) ((decimal n ++ next_text w) ++ rest) (n, w) rest (variable_form.takes (n, w) rest (h, g) end)
variable_reads (Prev n) w rest h g end =
    form_front f.Var (codes "prev " ++ ((decimal n ++ next_text w) ++ rest))
    ∙ ap (λ o. variable_by o (behind (codes " prev ") (codes " prev " ++ ((decimal n ++ next_text w) ++ rest)))) (marks_differ ((decimal n ++ next_text w) ++ rest))
    ∙ ap (λ o. variable_by None o) (behind_takes (codes " prev ") ((decimal n ++ next_text w) ++ rest))
    ∙ made_takes (λ x. Var (Prev x.0) x.1) (both number next_byte) ((decimal n ++ next_text w) ++ rest) (n, w) rest (variable_form.takes (n, w) rest (h, g) end)
variable_reads (Stim n) w rest h g end = absurd h
variable_reads (Chosen n) w rest h g end = absurd h
variable_reads (Sampled n) w rest h g end = absurd h

shape_takes : (s : Shape) (rest : Text) → FitsShape s → AtEnd rest → shape (shape_text s ++ rest) ≡ Some (s, rest)
unfolding shape_text constant
shape_takes (Const v) rest h end = form_front f.Const (value_text v ++ rest) ∙ made_takes Const (λ t. before (codes " ") vector t) ((codes " " ++ value_text v) ++ rest) v rest (constant_form.takes v rest h end)
shape_takes (Var name w) rest h end = variable_reads name w rest h.0 h.1 end
shape_takes (Unary op a) rest h end = unary_reads op a rest h end
shape_takes (Binary op a b) rest h end = binary_reads op a b rest h end
shape_takes (Cond c a b) rest h end = form_front f.Cond ((decimal c ++ (next_text a ++ next_text b)) ++ rest) ∙ made_takes (λ x. Cond x.0 x.1.0 x.1.1) three ((next_text c ++ (next_text a ++ next_text b)) ++ rest) (c, (a, b)) rest (three_form.takes (c, (a, b)) rest h end)
shape_takes (Pick c a b) rest h end = form_front f.Pick ((decimal c ++ (next_text a ++ next_text b)) ++ rest) ∙ made_takes (λ x. Pick x.0 x.1.0 x.1.1) three ((next_text c ++ (next_text a ++ next_text b)) ++ rest) (c, (a, b)) rest (three_form.takes (c, (a, b)) rest h end)
shape_takes (Slice a lo w) rest h end = form_front f.Slice ((decimal a ++ (next_text lo ++ next_text w)) ++ rest) ∙ made_takes (λ x. Slice x.0 x.1.0 x.1.1) part ((next_text a ++ (next_text lo ++ next_text w)) ++ rest) (a, (lo, w)) rest (part_form.takes (a, (lo, w)) rest h end)
shape_takes (Zext a w) rest h end = form_front f.Zext ((decimal a ++ next_text w) ++ rest) ∙ made_takes (λ x. Zext x.0 x.1) widened ((next_text a ++ next_text w) ++ rest) (a, w) rest (widened_form.takes (a, w) rest h end)
shape_takes (Sext a w) rest h end = form_front f.Sext ((decimal a ++ next_text w) ++ rest) ∙ made_takes (λ x. Sext x.0 x.1) widened ((next_text a ++ next_text w) ++ rest) (a, w) rest (widened_form.takes (a, w) rest h end)
shape_takes (DynSlice a at spot) rest h end = form_front f.DynSlice ((decimal a ++ (next_text at ++ spot_words spot)) ++ rest) ∙ made_takes (λ x. DynSlice x.0 x.1.0 x.1.1) (both next (both next next_spot)) ((next_text a ++ (next_text at ++ spot_words spot)) ++ rest) (a, (at, spot)) rest (dyn_slice_form.takes (a, (at, spot)) rest h end)
shape_takes (DynPut a at spot put) rest h end = form_front f.DynPut ((decimal a ++ (next_text at ++ (spot_words spot ++ next_text put))) ++ rest) ∙ made_takes (λ x. DynPut x.0 x.1.0 x.1.1.0 x.1.1.1) (both next (both next (both next_spot next))) ((next_text a ++ (next_text at ++ (spot_words spot ++ next_text put))) ++ rest) (a, (at, (spot, put))) rest (dyn_put_form.takes (a, (at, (spot, put))) rest h end)

-- ---- what is read is printed so

abbrev Told : Text → Text → Shape → Text → Type 0
Told w r s rest = (w ++ r ≡ shape_text s ++ rest) × FitsShape s

-- of a made shape
told : (A : Type 0) (Fits : A → Type 0) (print : A → Text) (p : Reader A) (make : A → Shape) (name w r : Text) (s : Shape) (rest : Text) → IsForm A Fits AtEnd print p → ((a : A) → shape_text (make a) ≡ name ++ print a) → ((a : A) → Fits a → FitsShape (make a))
    → w ≡ name → made make p r ≡ Some (s, rest) → Told w r s rest
told A Fits print p make name w r s rest form shows fits e h =
    let cut = made_gives make p r s rest h in
    let inner = form.gives r cut.0 rest cut.1.0 in
    subst (λ y. Told w r y rest) cut.1.1
    (ap (λ x. x ++ r) e ∙ ap (λ x. name ++ x) inner.0 ∙ sym (append_assoc name (print cut.0) rest) ∙ ap (λ x. x ++ rest) (sym (shows cut.0)), fits cut.0 inner.1)

variable_told : (w r : Text) (s : Shape) (rest : Text) (o p : Option Text) → behind (codes " now ") r ≡ o → behind (codes " prev ") r ≡ p → w ≡ codes "var" → variable_by o p ≡ Some (s, rest) → Told w r s rest
unfolding shape_text
variable_told w r s rest (Some t) p e f g h =
    let cut = made_gives (λ x. Var (Now x.0) x.1) (both number next_byte) t s rest h in
    let inner = variable_form.gives t cut.0 rest cut.1.0 in
    subst (λ y. Told w r y rest) cut.1.1
    ((λ i. g i ++ behind_gives (codes " now ") r t e i) ∙ ap (λ x. codes "var now " ++ x) inner.0, inner.1)
variable_told w r s rest None (Some t) e f g h =
    let cut = made_gives (λ x. Var (Prev x.0) x.1) (both number next_byte) t s rest h in
    let inner = variable_form.gives t cut.0 rest cut.1.0 in
    subst (λ y. Told w r y rest) cut.1.1
    ((λ i. g i ++ behind_gives (codes " prev ") r t f i) ∙ ap (λ x. codes "var prev " ++ x) inner.0, inner.1)
variable_told w r s rest None None e f g h = cc

form_told : (form : Form) (w r : Text) (s : Shape) (rest : Text) → w ≡ form_name form → by_form form r ≡ Some (s, rest) → Told w r s rest
unfolding shape_text constant variable
form_told f.Const w r s rest e h = told (List Bit) FitsVector (λ v. codes " " ++ value_text v) (λ t. before (codes " ") vector t) Const (codes "const") w r s rest constant_form (λ v. refl) (λ v g. g) e h
form_told f.Var w r s rest e h = variable_told w r s rest (behind (codes " now ") r) (behind (codes " prev ") r) refl refl e h
form_told f.Cond w r s rest e h = told (ℕ × (ℕ × ℕ)) (λ x. FitsNumber x.0 × (FitsNumber x.1.0 × FitsNumber x.1.1)) (λ x. next_text x.0 ++ (next_text x.1.0 ++ next_text x.1.1)) three (λ x. Cond x.0 x.1.0 x.1.1) (codes "cond") w r s rest three_form (λ x. refl) (λ x g. g) e h
form_told f.Pick w r s rest e h = told (ℕ × (ℕ × ℕ)) (λ x. FitsNumber x.0 × (FitsNumber x.1.0 × FitsNumber x.1.1)) (λ x. next_text x.0 ++ (next_text x.1.0 ++ next_text x.1.1)) three (λ x. Pick x.0 x.1.0 x.1.1) (codes "pick") w r s rest three_form (λ x. refl) (λ x g. g) e h
form_told f.Slice w r s rest e h = told (ℕ × (ℕ × ℕ)) (λ x. FitsNumber x.0 × (FitsByte x.1.0 × FitsByte x.1.1)) (λ x. next_text x.0 ++ (next_text x.1.0 ++ next_text x.1.1)) part (λ x. Slice x.0 x.1.0 x.1.1) (codes "slice") w r s rest part_form (λ x. refl) (λ x g. g) e h
form_told f.Zext w r s rest e h = told (ℕ × ℕ) (λ x. FitsNumber x.0 × FitsByte x.1) (λ x. next_text x.0 ++ next_text x.1) widened (λ x. Zext x.0 x.1) (codes "zext") w r s rest widened_form (λ x. refl) (λ x g. g) e h
form_told f.Sext w r s rest e h = told (ℕ × ℕ) (λ x. FitsNumber x.0 × FitsByte x.1) (λ x. next_text x.0 ++ next_text x.1) widened (λ x. Sext x.0 x.1) (codes "sext") w r s rest widened_form (λ x. refl) (λ x g. g) e h
form_told f.DynSlice w r s rest e h = told (ℕ × (ℕ × Spot)) (λ x. FitsNumber x.0 × (FitsNumber x.1.0 × FitsParts x.1.1)) (λ x. next_text x.0 ++ (next_text x.1.0 ++ spot_words x.1.1)) (both next (both next next_spot)) (λ x. DynSlice x.0 x.1.0 x.1.1) (codes "dyn_slice") w r s rest dyn_slice_form (λ x. refl) (λ x g. g) e h
form_told f.DynPut w r s rest e h = told (ℕ × (ℕ × (Spot × ℕ))) (λ x. FitsNumber x.0 × (FitsNumber x.1.0 × (FitsParts x.1.1.0 × FitsNumber x.1.1.1))) (λ x. next_text x.0 ++ (next_text x.1.0 ++ (spot_words x.1.1.0 ++ next_text x.1.1.1))) (both next (both next (both next_spot next))) (λ x. DynPut x.0 x.1.0 x.1.1.0 x.1.1.1) (codes "dyn_put") w r s rest dyn_put_form (λ x. refl) (λ x g. g) e h

name_told : (w r : Text) (s : Shape) (rest : Text) (o : Option Un) (p : Option Bin) (q : Option Form) → unary_of w ≡ o → binary_of w ≡ p → form_of w ≡ q → by_name o p q r ≡ Some (s, rest) → Told w r s rest
unfolding shape_text
name_told w r s rest (Some op) p q e f g h = told ℕ FitsNumber next_text next (λ k. Unary op k) (unary_name op) w r s rest last_next (λ k. refl) (λ k x. x) (unary_found w op e) h
name_told w r s rest None (Some op) q e f g h = told (ℕ × ℕ) (λ x. FitsNumber x.0 × FitsNumber x.1) (λ x. next_text x.0 ++ next_text x.1) two (λ x. Binary op x.0 x.1) (binary_name op) w r s rest two_form (λ x. refl) (λ x y. y) (binary_found w op f) h
name_told w r s rest None None (Some form) e f g h = form_told form w r s rest (form_found w form g) h
name_told w r s rest None None None e f g h = cc

pub shape_form : IsForm Shape FitsShape AtEnd shape_text shape
unfolding shape by_word
shape_form = record {
  takes = shape_takes;
  gives = λ t s rest h.
      let w = take (prefix_len is_letter t) t in
      let r = drop (prefix_len is_letter t) t in
      let inner = name_told w r s rest (unary_of w) (binary_of w) (form_of w) refl refl refl h in
      (sym (take-append-drop (prefix_len is_letter t) t) ∙ inner.0, inner.1);
}
