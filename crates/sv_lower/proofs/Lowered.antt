-- Nodes of each form of tree, from those of its parts.
use Rattle.std.proofs.Common.{◌≡◌, ℕ, zero, suc, ◌<◌, ◌≤◌, max, Bool, ◌&&◌, List, [], ◌∷◌, length, get_or, Option, refl, sym, ap, ◌∙◌, subst, arith, IsTrue, Result}
use Rattle.std.specs.List.{All}
use Rattle.std.specs.Result.{IfOk}
use Rattle.std.proofs.lemmas.Result.{IfOk-weaker}
use Rattle.fourvec.specs.declared.Bit.{Bit}
use Rattle.fourvec.specs.Bits.{truth_of, cond_of}
use Rattle.fourvec.proofs.Tables.{left_of, right_of}
use Rattle.svex_shape.specs.declared.shape.Shape.{Shape}
use Rattle.svex_shape.specs.Shapes.{width_at}
use Rattle.svex_arena.specs.Arenas.{Extends}
use Rattle.svex_arena.proofs.Keeping.{extends_on}
use Rattle.svex_arena.proofs.Steps.{value-extends, width-extends, variables-extends}
use Rattle.driver_resolve.specs.Drivers.{bitwise}
use Rattle.sv_literal.specs.declared.meaning.Literal as l
use Rattle.sv_meaning.specs.Layouts.{Read, Origin}
use Rattle.sv_meaning.specs.Meanings.{nowhere, extend, fitted, copies}
use Rattle.sv_typed.specs.declared.ops.Turn.{Turn}
use Rattle.sv_typed.specs.declared.ops.Reduction.{Reduction}
use Rattle.sv_typed.specs.declared.ops.Arithmetic.{Arithmetic}
use Rattle.sv_typed.specs.declared.ops.Shift.{Shift}
use Rattle.sv_typed.specs.declared.ops.Comparison.{Comparison}
use Rattle.sv_typed.specs.declared.ops.Logic.{Logic}
use Rattle.sv_typed.specs.declared.tree.Root.{Root}
use Rattle.sv_typed.specs.declared.tree.Pick.{Pick}
use Rattle.sv_typed.specs.declared.tree.Typed.{Typed}
use Rattle.sv_typed.specs.declared.tree.TypedForm.{TypedForm}
use Rattle.sv_typed.specs.declared.tree.TypedForm.TheVariants as f
use Rattle.sv_typed.specs.Ops.{turned, reduced, computed, moved, compared, combined}
use Rattle.sv_typed.specs.Typed.{form_worth, worth, together, picked, root_bits, width_together, IsSound}
use Rattle.sv_typed.proofs.Sound.{some_bits, most_bits}
use Rattle.sv_typed.proofs.Worth as worths
use Rattle.sv_lower.specs.declared.look.Look.{Look}
use Rattle.sv_lower.specs.Nodes.{bits_at_node, IsConstant, FromOne, FromTwo, FromThree}
use Rattle.sv_lower.specs.Lowering.{look_read, look_test, each_form, each_signal, each_of, each_of_picks, no_signal, IsIn, Fits, Lowers, LowersRoot, LowersParts, LowersPicks}
use Rattle.sv_lower.proofs.Making.{one_then, two_then}
use Rattle.sv_lower.proofs.Reading.{read_kept, test_kept}
use Rattle.sv_lower.proofs.Trees as trees
use Rattle.sv_lower.proofs.Nameless.{nameless}

-- what follows of each node that there is
pub if_ok : {X Y : Type 0} → (r : Result X Y) (P Q : X → Type 0) → IfOk r P → ((x : X) → P x → Q x) → IfOk r Q
if_ok r P Q h f = IfOk-weaker r P Q f h

-- ---- what fits

pub fits_own : (x y : Typed) (w : ℕ) → IsSound x → y ≡ x → w ≡ y.width → Fits x w
fits_own x y w h e k = let m = most_bits x h in let g = ap (λ z. z.width) e in record { sound = h; wide = omega arith; most = omega arith }

pub fits_part : (t x : Typed) (w : ℕ) → Fits t w → IsSound x → x.width ≤ w → Fits x w
fits_part t x w h s k = record { sound = s; wide = k; most = h.most }

pub fits_wide : (t : Typed) (w v : ℕ) → IsSound t → w ≤ 128 → v ≡ max w t.width → Fits t v
fits_wide t w v h k e = let m = most_bits t h in record { sound = h; wide = omega arith; most = omega arith }

pub some_room : (t : Typed) (w : ℕ) → Fits t w → 1 ≤ w
some_room t w h = let s = some_bits t h.sound in let k = h.wide in omega arith

pub fits_left : (x o y z : Typed) (w : ℕ) → IsSound x → IsSound o → y ≡ x → z ≡ o → w ≡ max y.width z.width → Fits x w
fits_left x o y z w h k e d m =
    let a = most_bits x h in let b = most_bits o k in let i = ap (λ r. r.width) e in let j = ap (λ r. r.width) d in
    record { sound = h; wide = omega arith; most = omega arith }

pub fits_right : (x o y z : Typed) (w : ℕ) → IsSound x → IsSound o → y ≡ x → z ≡ o → w ≡ max y.width z.width → Fits o w
fits_right x o y z w h k e d m =
    let a = most_bits x h in let b = most_bits o k in let i = ap (λ r. r.width) e in let j = ap (λ r. r.width) d in
    record { sound = k; wide = omega arith; most = omega arith }

pub some_parts : (all : List Typed) → 1 ≤ width_together all → 0 < length all
unfolding width_together
some_parts [] h = absurd (omega arith)
some_parts (a ∷ all) h = omega arith

-- ---- elements of lists

pub element : {A : Type 0} (P : A → Type 0) (all : List A) (i : ℕ) (x : A) → All P all → i < length all → x ≡ get_or all i x → P x
element P all i x h l e = subst P (sym e) (h i x l)

pub same_element : {A : Type 0} (all : List A) (i : ℕ) (x y : A) → i < length all → x ≡ get_or all i x → y ≡ get_or all i y → y ≡ x
same_element [] i x y l e d = absurd (omega arith)
same_element (a ∷ all) zero x y l e d = d ∙ sym e
same_element (a ∷ all) (suc i) x y l e d = same_element all i x y (omega arith) e d

-- ---- one expression for another

pub lowers_as : (look : Look) (old new : List Shape) (a x : Typed) (w : ℕ) (s : Bool) (n : ℕ) → x ≡ a → Lowers look old new x w s n → Lowers look old new a w s n
lowers_as look old new a x w s n e h = let P : Typed → Type 0 = λ y. Lowers look old new y w s n in subst P e h

pub lowers_own : (look : Look) (old new : List Shape) (a x y : Typed) (w : ℕ) (s : Bool) (n : ℕ) → x ≡ a → y ≡ a → w ≡ y.width → s ≡ y.signed → Lowers look old new x w s n → Lowers look old new a a.width a.signed n
lowers_own look old new a x y w s n e g i j h =
    let P : ℕ → Type 0 = λ v. Lowers look old new a v s n in
    let Q : Bool → Type 0 = λ u. Lowers look old new a a.width u n in
    subst Q (j ∙ ap (λ z. z.signed) g) (subst P (i ∙ ap (λ z. z.width) g) (lowers_as look old new a x w s n e h))

-- ---- from the nodes of parts

one : (look : Look) (old mid new : List Shape) (t a : Typed) (w v : ℕ) (s u : Bool) (F : List Bit → List Bit) (x z n : ℕ) →
    ((read : Read) → worth t read w s ≡ F (worth a read v u)) → ((q : Origin → ℕ → ℕ → Bool) → each_signal q t ≡ each_signal q a) →
    Lowers look old mid a v u x → FromOne mid new F x z n → z ≡ w → Lowers look old new t w s n
one look old mid new t a w v s u F x z n worth_is names_are h k e = record {
  within = k.within;
  width = k.width ∙ e;
  value = λ bits. k.value bits ∙ ap F (h.value bits) ∙ sym (worth_is (look_read look old bits));
  mentions = λ p m. k.mentions p (h.mentions p (sym (names_are (look_test look old p)) ∙ m));
}

two : (look : Look) (old mid low new : List Shape) (t a b : Typed) (w v v' : ℕ) (s u u' : Bool) (F : List Bit → List Bit → List Bit) (x y z n : ℕ) →
    ((read : Read) → worth t read w s ≡ F (worth a read v u) (worth b read v' u')) → ((q : Origin → ℕ → ℕ → Bool) → each_signal q t ≡ (each_signal q a && each_signal q b)) →
    IsIn look old → Extends old mid → Extends mid low → Lowers look old mid a v u x → Lowers look mid low b v' u' y → FromTwo low new F x y z n → z ≡ w → Lowers look old new t w s n
two look old mid low new t a b w v v' s u u' F x y z n worth_is names_are i e d g h k same = record {
  within = k.within;
  width = k.width ∙ same;
  value = λ bits.
      k.value bits ∙ ap (λ c. F c (bits_at_node bits low y)) (value-extends (bitwise bits) mid low x d g.within ∙ g.value bits)
      ∙ ap (F (worth a (look_read look old bits) v u)) (h.value bits ∙ ap (λ r. worth b r v' u') (read_kept look old mid bits i e))
      ∙ sym (worth_is (look_read look old bits));
  mentions = λ p m.
      let all = sym (names_are (look_test look old p)) ∙ m in
      k.mentions p (variables-extends p mid low x d g.within ∙ g.mentions p (left_of _ _ all))
      (h.mentions p (ap (λ q. each_signal q b) (test_kept look old mid p i e) ∙ right_of _ _ all));
}

three : (look : Look) (old first mid low new : List Shape) (t c a b : Typed) (w vc v v' : ℕ) (s uc u u' : Bool) (F : List Bit → List Bit → List Bit → List Bit) (o x y z n : ℕ) →
    ((read : Read) → worth t read w s ≡ F (worth c read vc uc) (worth a read v u) (worth b read v' u')) →
    ((q : Origin → ℕ → ℕ → Bool) → each_signal q t ≡ (each_signal q c && (each_signal q a && each_signal q b))) →
    IsIn look old → Extends old first → Extends first mid → Extends mid low → Lowers look old first c vc uc o → Lowers look first mid a v u x → Lowers look mid low b v' u' y → FromThree low new F o x y z n → z ≡ w →
    Lowers look old new t w s n
three look old first mid low new t c a b w vc v v' s uc u u' F o x y z n worth_is names_are i e d j f g h k same =
    let up = extends_on first mid low d j in
    let from = extends_on old first mid e d in
    record {
      within = k.within;
      width = k.width ∙ same;
      value = λ bits.
          k.value bits
          ∙ ap (λ r. F r (bits_at_node bits low x) (bits_at_node bits low y)) (value-extends (bitwise bits) first low o up f.within ∙ f.value bits)
          ∙ ap (λ r. F (worth c (look_read look old bits) vc uc) r (bits_at_node bits low y))
          (value-extends (bitwise bits) mid low x j g.within ∙ g.value bits ∙ ap (λ r. worth a r v u) (read_kept look old first bits i e))
          ∙ ap (F (worth c (look_read look old bits) vc uc) (worth a (look_read look old bits) v u)) (h.value bits ∙ ap (λ r. worth b r v' u') (read_kept look old mid bits i from))
          ∙ sym (worth_is (look_read look old bits));
      mentions = λ p m.
          let all = sym (names_are (look_test look old p)) ∙ m in
          let rest = right_of _ _ all in
          k.mentions p (variables-extends p first low o up f.within ∙ f.mentions p (left_of _ _ all))
          (variables-extends p mid low x j g.within ∙ g.mentions p (ap (λ q. each_signal q a) (test_kept look old first p i e) ∙ left_of _ _ rest))
          (h.mentions p (ap (λ q. each_signal q b) (test_kept look old mid p i from) ∙ right_of _ _ rest));
    }

-- ---- operators

worth_of : (t : Typed) (x : TypedForm) (read : Read) (w : ℕ) (s : Bool) → t.form ≡ x → worth t read w s ≡ form_worth t.width x read w s
worth_of t x read w s e = ap (λ y. form_worth t.width y read w s) e

each_as : (t : Typed) (x : TypedForm) (q : Origin → ℕ → ℕ → Bool) → t.form ≡ x → each_signal q t ≡ each_form q x
each_as t x q e = ap (each_form q) e

pub lowers_turned : (look : Look) (old mid new : List Shape) (t a : Typed) (op : Turn) (w : ℕ) (s : Bool) (x n : ℕ) → t.form ≡ f.Turned op a → Lowers look old mid a w s x → FromOne mid new (turned op) x (width_at mid x) n → Lowers look old new t w s n
lowers_turned look old mid new t a op w s x n e h k =
    one look old mid new t a w w s s (turned op) x (width_at mid x) n
    (λ read. worth_of t (f.Turned op a) read w s e ∙ worths.worth_turned t.width op a read w s) (λ q. each_as t (f.Turned op a) q e ∙ trees.each_turned q op a) h k h.width

pub lowers_reduced : (look : Look) (old mid low new : List Shape) (t a : Typed) (op : Reduction) (w : ℕ) (s : Bool) (x b n : ℕ) → t.form ≡ f.Reduced op a → Lowers look old mid a a.width a.signed x →
    FromOne mid low (reduced op) x 1 b → FromOne low new (extend s w) b w n → Lowers look old new t w s n
lowers_reduced look old mid low new t a op w s x b n e h k j =
    one look old mid new t a w a.width s a.signed (λ y. extend s w (reduced op y)) x w n
    (λ read. worth_of t (f.Reduced op a) read w s e ∙ worths.worth_reduced t.width op a read w s) (λ q. each_as t (f.Reduced op a) q e ∙ trees.each_reduced q op a)
    h (one_then mid low new (reduced op) (extend s w) x 1 b w n k j) refl

pub lowers_computed : (look : Look) (old mid low new : List Shape) (t a b : Typed) (op : Arithmetic) (w : ℕ) (s : Bool) (x y n : ℕ) → t.form ≡ f.Computed op a b → IsIn look old → Extends old mid → Extends mid low →
    Lowers look old mid a w s x → Lowers look mid low b w s y → FromTwo low new (computed op s) x y (width_at low x) n → Lowers look old new t w s n
lowers_computed look old mid low new t a b op w s x y n e i d j g h k =
    two look old mid low new t a b w w w s s s (computed op s) x y (width_at low x) n
    (λ read. worth_of t (f.Computed op a b) read w s e ∙ worths.worth_computed t.width op a b read w s) (λ q. each_as t (f.Computed op a b) q e ∙ trees.each_computed q op a b)
    i d j g h k (width-extends mid low x j g.within ∙ g.width)

pub lowers_moved : (look : Look) (old mid low new : List Shape) (t a b : Typed) (op : Shift) (w : ℕ) (s : Bool) (x y n : ℕ) → t.form ≡ f.Moved op a b → IsIn look old → Extends old mid → Extends mid low →
    Lowers look old mid a w s x → Lowers look mid low b b.width b.signed y → FromTwo low new (moved op s) x y (width_at low x) n → Lowers look old new t w s n
lowers_moved look old mid low new t a b op w s x y n e i d j g h k =
    two look old mid low new t a b w w b.width s s b.signed (moved op s) x y (width_at low x) n
    (λ read. worth_of t (f.Moved op a b) read w s e ∙ worths.worth_moved t.width op a b read w s) (λ q. each_as t (f.Moved op a b) q e ∙ trees.each_moved q op a b)
    i d j g h k (width-extends mid low x j g.within ∙ g.width)

-- the size and sign of two operands together
pub lowers_common : (look : Look) (old new : List Shape) (a b x y z : Typed) (w : ℕ) (s : Bool) (c : Typed) (n : ℕ) → x ≡ c → y ≡ a → z ≡ b → w ≡ max y.width z.width → s ≡ (y.signed && z.signed) → Lowers look old new x w s n →
    Lowers look old new c (max a.width b.width) (a.signed && b.signed) n
lowers_common look old new a b x y z w s c n e g h i j k =
    let P : ℕ → Type 0 = λ v. Lowers look old new c v s n in
    let Q : Bool → Type 0 = λ u. Lowers look old new c (max a.width b.width) u n in
    let wide : w ≡ max a.width b.width = i ∙ ap (λ r. max r.width z.width) g ∙ ap (λ r. max a.width r.width) h in
    let sign : s ≡ (a.signed && b.signed) = j ∙ ap (λ r. r.signed && z.signed) g ∙ ap (λ r. a.signed && r.signed) h in
    subst Q sign (subst P wide (lowers_as look old new c x w s n e k))

pub common_sign : (F : Bool → List Bit → List Bit → List Bit) (old new : List Shape) (a b y z : Typed) (s : Bool) (i j w n : ℕ) → y ≡ a → z ≡ b → s ≡ (y.signed && z.signed) → FromTwo old new (F s) i j w n → FromTwo old new (F (a.signed && b.signed)) i j w n
common_sign F old new a b y z s i j w n g h e k =
    let P : Bool → Type 0 = λ u. FromTwo old new (F u) i j w n in
    subst P (e ∙ ap (λ r. r.signed && z.signed) g ∙ ap (λ r. a.signed && r.signed) h) k

pub lowers_compared : (look : Look) (old mid low one new : List Shape) (t a b : Typed) (op : Comparison) (w : ℕ) (s : Bool) (x y c n : ℕ) → t.form ≡ f.Compared op a b → IsIn look old → Extends old mid → Extends mid low →
    Lowers look old mid a (max a.width b.width) (a.signed && b.signed) x → Lowers look mid low b (max a.width b.width) (a.signed && b.signed) y →
    FromTwo low one (compared op (a.signed && b.signed)) x y 1 c → FromOne one new (extend s w) c w n → Lowers look old new t w s n
lowers_compared look old mid low one new t a b op w s x y c n e i d j g h k o =
    two look old mid low new t a b w (max a.width b.width) (max a.width b.width) s (a.signed && b.signed) (a.signed && b.signed) (λ p q. extend s w (compared op (a.signed && b.signed) p q)) x y w n
    (λ read. worth_of t (f.Compared op a b) read w s e ∙ worths.worth_compared t.width op a b read w s) (λ q. each_as t (f.Compared op a b) q e ∙ trees.each_compared q op a b)
    i d j g h (two_then low one new (compared op (a.signed && b.signed)) (extend s w) x y 1 c w n k o) refl

pub lowers_combined : (look : Look) (old mid low one new : List Shape) (t a b : Typed) (op : Logic) (w : ℕ) (s : Bool) (x y c n : ℕ) → t.form ≡ f.Combined op a b → IsIn look old → Extends old mid → Extends mid low →
    Lowers look old mid a a.width a.signed x → Lowers look mid low b b.width b.signed y → FromTwo low one (combined op) x y 1 c → FromOne one new (extend s w) c w n → Lowers look old new t w s n
lowers_combined look old mid low one new t a b op w s x y c n e i d j g h k o =
    two look old mid low new t a b w a.width b.width s a.signed b.signed (λ p q. extend s w (combined op p q)) x y w n
    (λ read. worth_of t (f.Combined op a b) read w s e ∙ worths.worth_combined t.width op a b read w s) (λ q. each_as t (f.Combined op a b) q e ∙ trees.each_combined q op a b)
    i d j g h (two_then low one new (combined op) (extend s w) x y 1 c w n k o) refl

pub lowers_chosen : (look : Look) (old first mid low new : List Shape) (t c a b : Typed) (w : ℕ) (s : Bool) (o x y n : ℕ) → t.form ≡ f.Chosen c a b → IsIn look old → Extends old first → Extends first mid → Extends mid low →
    Lowers look old first c c.width c.signed o → Lowers look first mid a w s x → Lowers look mid low b w s y → FromThree low new (λ p q r. cond_of (truth_of p) q r) o x y (width_at low x) n → Lowers look old new t w s n
lowers_chosen look old first mid low new t c a b w s o x y n e i d j l' g h k m =
    three look old first mid low new t c a b w c.width w w s c.signed s s (λ p q r. cond_of (truth_of p) q r) o x y (width_at low x) n
    (λ read. worth_of t (f.Chosen c a b) read w s e ∙ worths.worth_chosen t.width c a b read w s) (λ q. each_as t (f.Chosen c a b) q e ∙ trees.each_chosen q c a b)
    i d j l' g h k m (width-extends mid low x l' h.within ∙ h.width)

pub lowers_standing : (look : Look) (old mid new : List Shape) (t a : Typed) (w : ℕ) (s : Bool) (x n : ℕ) → t.form ≡ f.Standing a → Lowers look old mid a a.width a.signed x → FromOne mid new (extend s w) x w n → Lowers look old new t w s n
lowers_standing look old mid new t a w s x n e h k =
    one look old mid new t a w a.width s a.signed (extend s w) x w n
    (λ read. worth_of t (f.Standing a) read w s e ∙ worths.worth_standing t.width a read w s) (λ q. each_as t (f.Standing a) q e ∙ trees.each_standing q a) h k refl

pub lowers_fitted : (look : Look) (old mid low new : List Shape) (t a y : Typed) (w v : ℕ) (s u : Bool) (x b n : ℕ) → t.width ≡ v → t.form ≡ f.Fitted a → y ≡ a → u ≡ y.signed → Lowers look old mid a a.width a.signed x →
    FromOne mid low (fitted u v) x v b → FromOne low new (extend s w) b w n → Lowers look old new t w s n
lowers_fitted look old mid low new t a y w v s u x b n same e d i h k j =
    let Q : ℕ → Type 0 = λ z. FromOne mid low (fitted u z) x z b in
    let P : Bool → Type 0 = λ z. FromOne mid low (fitted z t.width) x t.width b in
    let own_sign = subst P (i ∙ ap (λ r. r.signed) d) (subst Q (sym same) k) in
    one look old mid new t a w a.width s a.signed (λ z. extend s w (fitted a.signed t.width z)) x w n
    (λ read. worth_of t (f.Fitted a) read w s e ∙ worths.worth_fitted t.width a read w s) (λ q. each_as t (f.Fitted a) q e ∙ trees.each_fitted q a)
    h (one_then mid low new (fitted a.signed t.width) (extend s w) x t.width b w n own_sign j) refl

-- ---- parts side by side

pub lowers_concat : (look : Look) (old mid new : List Shape) (t : Typed) (all xs : List Typed) (w : ℕ) (s : Bool) (x n : ℕ) → t.form ≡ f.Concat all → xs ≡ all → LowersParts look old mid xs x → FromOne mid new (extend s w) x w n → Lowers look old new t w s n
lowers_concat look old mid new t all xs w s x n e d h k = record {
  within = k.within;
  width = k.width;
  value = λ bits.
      k.value bits ∙ ap (extend s w) (h.value bits ∙ ap (λ y. together y (look_read look old bits)) d)
      ∙ sym (worth_of t (f.Concat all) (look_read look old bits) w s e ∙ worths.worth_concat t.width all (look_read look old bits) w s);
  mentions = λ p m. k.mentions p (h.mentions p (ap (each_of (look_test look old p)) d ∙ sym (each_as t (f.Concat all) (look_test look old p) e ∙ trees.each_concat (look_test look old p) all) ∙ m));
}

pub lowers_repeat : (look : Look) (old mid low new : List Shape) (t : Typed) (count : ℕ) (all xs : List Typed) (w : ℕ) (s : Bool) (x v c n : ℕ) → t.form ≡ f.Repeat count all → xs ≡ all → LowersParts look old mid xs x →
    FromOne mid low (copies count) x v c → FromOne low new (extend s w) c w n → Lowers look old new t w s n
lowers_repeat look old mid low new t count all xs w s x v c n e d h j k = record {
  within = k.within;
  width = k.width;
  value = λ bits.
      k.value bits ∙ ap (extend s w) (j.value bits ∙ ap (copies count) (h.value bits ∙ ap (λ y. together y (look_read look old bits)) d))
      ∙ sym (worth_of t (f.Repeat count all) (look_read look old bits) w s e ∙ worths.worth_repeat t.width count all (look_read look old bits) w s);
  mentions = λ p m.
      k.mentions p (j.mentions p (h.mentions p (ap (each_of (look_test look old p)) d
      ∙ sym (each_as t (f.Repeat count all) (look_test look old p) e ∙ trees.each_repeat (look_test look old p) count all) ∙ m)));
}

-- ---- names

pub lowers_named : (look : Look) (old mid low new : List Shape) (t : Typed) (root : Root) (picks ps : List Pick) (w : ℕ) (s : Bool) (x y n : ℕ) → t.form ≡ f.Named root picks → ps ≡ picks → IsIn look old → Extends old mid →
    LowersRoot look old mid root x → LowersPicks look mid low ps x y → FromOne low new (extend s w) y w n → Lowers look old new t w s n
lowers_named look old mid low new t root picks ps w s x y n e d i g h j k = record {
  within = k.within;
  width = k.width;
  value = λ bits.
      k.value bits
      ∙ ap (extend s w) (j.value bits ∙ ap (λ r. picked r ps (bits_at_node bits mid x)) (read_kept look old mid bits i g) ∙ ap (picked (look_read look old bits) ps) (h.value bits) ∙ ap (λ r. picked (look_read look old bits) r (root_bits root (look_read look old bits))) d)
      ∙ sym (worth_of t (f.Named root picks) (look_read look old bits) w s e ∙ worths.worth_named t.width root picks (look_read look old bits) w s);
  mentions = λ p m.
      let all = sym (each_as t (f.Named root picks) (look_test look old p) e ∙ trees.each_named (look_test look old p) root picks) ∙ m in
      k.mentions p (j.mentions p (h.mentions p (left_of _ _ all)) (ap (λ q. each_of_picks q ps) (test_kept look old mid p i g) ∙ ap (each_of_picks (look_test look old p)) d ∙ right_of _ _ all));
}

-- ---- expressions that are evaluated

valued : (look : Look) (old new : List Shape) (t : Typed) (w : ℕ) (s : Bool) (n : ℕ) → ((read : Read) → worth t nowhere w s ≡ worth t read w s) → length (worth t nowhere w s) ≡ w → IsConstant new (worth t nowhere w s) n → Lowers look old new t w s n
valued look old new t w s n same long h = record {
  within = h.within;
  width = h.width ∙ long;
  value = λ bits. h.value bits ∙ same (look_read look old bits);
  mentions = λ p m. h.mentions p;
}

pub lowers_literal : (look : Look) (old new : List Shape) (t : Typed) (x : l.Literal) (w : ℕ) (s : Bool) (n : ℕ) → t.form ≡ f.Literal x → length (worth t nowhere w s) ≡ w → IsConstant new (worth t nowhere w s) n → Lowers look old new t w s n
lowers_literal look old new t x w s n e long h =
    valued look old new t w s n
    (λ read. worth_of t (f.Literal x) nowhere w s e ∙ worths.worth_literal t.width x nowhere w s ∙ sym (worth_of t (f.Literal x) read w s e ∙ worths.worth_literal t.width x read w s)) long h

pub lowers_power : (look : Look) (old new : List Shape) (t a : Typed) (p : Option ℕ) (w : ℕ) (s : Bool) (n : ℕ) → t.form ≡ f.Power a p → length (worth t nowhere w s) ≡ w → IsConstant new (worth t nowhere w s) n → Lowers look old new t w s n
lowers_power look old new t a p w s n e long h =
    valued look old new t w s n
    (λ read. worth_of t (f.Power a p) nowhere w s e ∙ worths.worth_power t.width a p nowhere w s ∙ sym (worth_of t (f.Power a p) read w s e ∙ worths.worth_power t.width a p read w s)) long h

pub lowers_nameless : (look : Look) (old new : List Shape) (t : Typed) (w : ℕ) (s : Bool) (n : ℕ) → IsTrue (each_signal no_signal t) → length (worth t nowhere w s) ≡ w → IsConstant new (worth t nowhere w s) n → Lowers look old new t w s n
lowers_nameless look old new t w s n e long h = valued look old new t w s n (λ read. sym (nameless t read w s e)) long h
