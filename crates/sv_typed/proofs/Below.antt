-- Parts of sound trees: they are sound, smaller, and no wider than their context where they are in it.
use Rattle.std.proofs.Common.{◌≡◌, ℕ, zero, suc, ◌+◌, ◌*◌, ◌≤◌, ◌<◌, List, [], ◌∷◌, length, get_or, Option, refl, sym, ap, ◌∙◌, subst, arith, suc-mul}
use Rattle.std.specs.List.{All}
use Rattle.std.proofs.lemmas.List.Elements.{All-from_recursion}
use mathlib.Core.Former.{Count}
use Rattle.fourvec.specs.declared.Spot.{Spot}
use Rattle.sv_literal.specs.declared.meaning.Literal as l
use Rattle.sv_typed.specs.declared.ops.Turn.{Turn}
use Rattle.sv_typed.specs.declared.ops.Reduction.{Reduction}
use Rattle.sv_typed.specs.declared.ops.Arithmetic.{Arithmetic}
use Rattle.sv_typed.specs.declared.ops.Shift.{Shift}
use Rattle.sv_typed.specs.declared.ops.Comparison.{Comparison}
use Rattle.sv_typed.specs.declared.ops.Logic.{Logic}
use Rattle.sv_typed.specs.declared.tree.Root.{Root}
use Rattle.sv_typed.specs.declared.tree.Pick.{Pick}
use Rattle.sv_typed.specs.declared.tree.PickPlace.{PickPlace, Fixed, Moving'}
use Rattle.sv_typed.specs.declared.tree.PickPlace.TheVariants as place
use Rattle.sv_typed.specs.declared.tree.Typed.{Typed}
use Rattle.sv_typed.specs.declared.tree.TypedForm.{TypedForm, Literal, Named', Turned', Reduced', Computed', Moved', Compared', Combined', Chosen', Power', Concat', Repeat', Standing', Fitted', Row_of-Typed, end_of-Typed, more_of-Typed, Row_of-Pick, end_of-Pick, more_of-Pick}
use Rattle.sv_typed.specs.declared.tree.TypedForm.TheVariants as f
use Rattle.sv_typed.specs.declared.tree.PickPlace.TheBlock.{shape-the_row-Typed-0, hidden-the_row-Typed-0, shape-the_row-Typed-2, hidden-the_row-Typed-2, shape-the_row-Pick-1, hidden-the_row-Pick-1}
use Rattle.sv_typed.specs.Typed.{LiteralIsSound, FormIsSound, PlaceIsSound, RootIsSound, PickIsSound, IsSound, root_width, width_together, picked_width}
use Rattle.sv_typed.proofs.Parts.{row_width_is, sound_row}
use Rattle.sv_typed.proofs.Named.{row_picked_width_is, sound_picks}
use Rattle.sv_typed.proofs.Sound.{some_bits, most_bits}

-- ---- sizes, which a recursion over trees goes down

unfoldable mutual
  pub form_size : TypedForm → ℕ
  form_size (Literal l) = 0
  form_size (Named' root k picks) = suc (suc (row_picks_size picks))
  form_size (Turned' op t (more_of-Typed u p c x end_of-Typed)) = suc (suc (form_size x))
  form_size (Reduced' op t (more_of-Typed u p c x end_of-Typed)) = suc (suc (form_size x))
  form_size (Computed' op t (more_of-Typed u p c x end_of-Typed) r (more_of-Typed v q d y end_of-Typed)) = suc (suc (form_size x + form_size y))
  form_size (Moved' op t (more_of-Typed u p c x end_of-Typed) r (more_of-Typed v q d y end_of-Typed)) = suc (suc (form_size x + form_size y))
  form_size (Compared' op t (more_of-Typed u p c x end_of-Typed) r (more_of-Typed v q d y end_of-Typed)) = suc (suc (form_size x + form_size y))
  form_size (Combined' op t (more_of-Typed u p c x end_of-Typed) r (more_of-Typed v q d y end_of-Typed)) = suc (suc (form_size x + form_size y))
  form_size (Chosen' i (more_of-Typed b o e z end_of-Typed) t (more_of-Typed u p c x end_of-Typed) r (more_of-Typed v q d y end_of-Typed)) =
      suc (suc (form_size z + form_size x + form_size y))
  form_size (Power' t (more_of-Typed u p c x end_of-Typed) e) = suc (suc (form_size x))
  form_size (Concat' k all) = suc (suc (suc (row_size all)))
  form_size (Repeat' count k all) = suc (suc (suc (row_size all)))
  form_size (Standing' t (more_of-Typed u p c x end_of-Typed)) = suc (suc (form_size x))
  form_size (Fitted' t (more_of-Typed u p c x end_of-Typed)) = suc (suc (form_size x))

  pub row_size : {k : Count} → Row_of-Typed k → ℕ
  row_size end_of-Typed = 0
  row_size (more_of-Typed u p c x all) = form_size x + row_size all

  pub row_picks_size : {k : Count} → Row_of-Pick k → ℕ
  row_picks_size end_of-Pick = 0
  row_picks_size (more_of-Pick w c place all) = place_size place + row_picks_size all

  pub place_size : PickPlace → ℕ
  place_size (Fixed i) = 0
  place_size (Moving' t (more_of-Typed u p c x end_of-Typed) spot) = suc (suc (form_size x))

unfoldable pub size : Typed → ℕ
size t = form_size t.form

unfoldable pub size_together : List Typed → ℕ
size_together [] = 2
size_together (a ∷ more) = size a + size_together more

unfoldable pub pick_size : Pick → ℕ
pick_size p = place_size p.place

unfoldable pub picks_size : List Pick → ℕ
picks_size [] = 1
picks_size (p ∷ more) = pick_size p + picks_size more

-- ---- parts of operators

pub turned : (t x : Typed) (op : Turn) (a : Typed) → t.form ≡ f.Turned op a → x ≡ a → IsSound t → IsSound x
unfolding size form_size IsSound FormIsSound shape-the_row-Typed-0 hidden-the_row-Typed-0 denote.Hole.Carrier.hidden
turned t x op a e i h = subst IsSound (sym i) (subst (λ y. FormIsSound t.width y) e h).1

pub turned_less : (t x : Typed) (op : Turn) (a : Typed) (n : ℕ) → t.form ≡ f.Turned op a → x ≡ a → size t ≡ n → size x < n
unfolding size form_size IsSound FormIsSound shape-the_row-Typed-0 hidden-the_row-Typed-0 denote.Hole.Carrier.hidden
turned_less t x op a n e i k = let g = ap form_size e in let j = ap size i in omega arith

pub turned_fits : (t x : Typed) (op : Turn) (a : Typed) (w : ℕ) → t.form ≡ f.Turned op a → x ≡ a → IsSound t → t.width ≤ w → x.width ≤ w
unfolding size form_size IsSound FormIsSound shape-the_row-Typed-0 hidden-the_row-Typed-0 denote.Hole.Carrier.hidden
turned_fits t x op a w e i h k = let g = (subst (λ y. FormIsSound t.width y) e h).2 in let j = ap (λ y. y.width) i in omega arith

pub reduced : (t x : Typed) (op : Reduction) (a : Typed) → t.form ≡ f.Reduced op a → x ≡ a → IsSound t → IsSound x
unfolding size form_size IsSound FormIsSound shape-the_row-Typed-0 hidden-the_row-Typed-0 denote.Hole.Carrier.hidden
reduced t x op a e i h = subst IsSound (sym i) (subst (λ y. FormIsSound t.width y) e h).1

pub reduced_less : (t x : Typed) (op : Reduction) (a : Typed) (n : ℕ) → t.form ≡ f.Reduced op a → x ≡ a → size t ≡ n → suc (size x) < n
unfolding size form_size IsSound FormIsSound shape-the_row-Typed-0 hidden-the_row-Typed-0 denote.Hole.Carrier.hidden
reduced_less t x op a n e i k = let g = ap form_size e in let j = ap size i in omega arith

pub computed_left : (t x : Typed) (op : Arithmetic) (a b : Typed) → t.form ≡ f.Computed op a b → x ≡ a → IsSound t → IsSound x
unfolding size form_size IsSound FormIsSound shape-the_row-Typed-0 hidden-the_row-Typed-0 denote.Hole.Carrier.hidden
computed_left t x op a b e i h = subst IsSound (sym i) (subst (λ y. FormIsSound t.width y) e h).1

pub computed_left_less : (t x : Typed) (op : Arithmetic) (a b : Typed) (n : ℕ) → t.form ≡ f.Computed op a b → x ≡ a → size t ≡ n → size x < n
unfolding size form_size IsSound FormIsSound shape-the_row-Typed-0 hidden-the_row-Typed-0 denote.Hole.Carrier.hidden
computed_left_less t x op a b n e i k = let g = ap form_size e in let j = ap size i in omega arith

pub computed_left_fits : (t x : Typed) (op : Arithmetic) (a b : Typed) (w : ℕ) → t.form ≡ f.Computed op a b → x ≡ a → IsSound t → t.width ≤ w → x.width ≤ w
unfolding size form_size IsSound FormIsSound shape-the_row-Typed-0 hidden-the_row-Typed-0 denote.Hole.Carrier.hidden
computed_left_fits t x op a b w e i h k = let g = (subst (λ y. FormIsSound t.width y) e h).3 in let j = ap (λ y. y.width) i in omega arith

pub computed_right : (t x : Typed) (op : Arithmetic) (a b : Typed) → t.form ≡ f.Computed op a b → x ≡ b → IsSound t → IsSound x
unfolding size form_size IsSound FormIsSound shape-the_row-Typed-0 hidden-the_row-Typed-0 denote.Hole.Carrier.hidden
computed_right t x op a b e i h = subst IsSound (sym i) (subst (λ y. FormIsSound t.width y) e h).2

pub computed_right_less : (t x : Typed) (op : Arithmetic) (a b : Typed) (n : ℕ) → t.form ≡ f.Computed op a b → x ≡ b → size t ≡ n → size x < n
unfolding size form_size IsSound FormIsSound shape-the_row-Typed-0 hidden-the_row-Typed-0 denote.Hole.Carrier.hidden
computed_right_less t x op a b n e i k = let g = ap form_size e in let j = ap size i in omega arith

pub computed_right_fits : (t x : Typed) (op : Arithmetic) (a b : Typed) (w : ℕ) → t.form ≡ f.Computed op a b → x ≡ b → IsSound t → t.width ≤ w → x.width ≤ w
unfolding size form_size IsSound FormIsSound shape-the_row-Typed-0 hidden-the_row-Typed-0 denote.Hole.Carrier.hidden
computed_right_fits t x op a b w e i h k = let g = (subst (λ y. FormIsSound t.width y) e h).4 in let j = ap (λ y. y.width) i in omega arith

pub moved_left : (t x : Typed) (op : Shift) (a b : Typed) → t.form ≡ f.Moved op a b → x ≡ a → IsSound t → IsSound x
unfolding size form_size IsSound FormIsSound shape-the_row-Typed-0 hidden-the_row-Typed-0 denote.Hole.Carrier.hidden
moved_left t x op a b e i h = subst IsSound (sym i) (subst (λ y. FormIsSound t.width y) e h).1

pub moved_left_less : (t x : Typed) (op : Shift) (a b : Typed) (n : ℕ) → t.form ≡ f.Moved op a b → x ≡ a → size t ≡ n → size x < n
unfolding size form_size IsSound FormIsSound shape-the_row-Typed-0 hidden-the_row-Typed-0 denote.Hole.Carrier.hidden
moved_left_less t x op a b n e i k = let g = ap form_size e in let j = ap size i in omega arith

pub moved_left_fits : (t x : Typed) (op : Shift) (a b : Typed) (w : ℕ) → t.form ≡ f.Moved op a b → x ≡ a → IsSound t → t.width ≤ w → x.width ≤ w
unfolding size form_size IsSound FormIsSound shape-the_row-Typed-0 hidden-the_row-Typed-0 denote.Hole.Carrier.hidden
moved_left_fits t x op a b w e i h k = let g = (subst (λ y. FormIsSound t.width y) e h).3 in let j = ap (λ y. y.width) i in omega arith

pub moved_right : (t x : Typed) (op : Shift) (a b : Typed) → t.form ≡ f.Moved op a b → x ≡ b → IsSound t → IsSound x
unfolding size form_size IsSound FormIsSound shape-the_row-Typed-0 hidden-the_row-Typed-0 denote.Hole.Carrier.hidden
moved_right t x op a b e i h = subst IsSound (sym i) (subst (λ y. FormIsSound t.width y) e h).2

pub moved_right_less : (t x : Typed) (op : Shift) (a b : Typed) (n : ℕ) → t.form ≡ f.Moved op a b → x ≡ b → size t ≡ n → suc (size x) < n
unfolding size form_size IsSound FormIsSound shape-the_row-Typed-0 hidden-the_row-Typed-0 denote.Hole.Carrier.hidden
moved_right_less t x op a b n e i k = let g = ap form_size e in let j = ap size i in omega arith

pub compared_left : (t x : Typed) (op : Comparison) (a b : Typed) → t.form ≡ f.Compared op a b → x ≡ a → IsSound t → IsSound x
unfolding size form_size IsSound FormIsSound shape-the_row-Typed-0 hidden-the_row-Typed-0 denote.Hole.Carrier.hidden
compared_left t x op a b e i h = subst IsSound (sym i) (subst (λ y. FormIsSound t.width y) e h).1

pub compared_right : (t x : Typed) (op : Comparison) (a b : Typed) → t.form ≡ f.Compared op a b → x ≡ b → IsSound t → IsSound x
unfolding size form_size IsSound FormIsSound shape-the_row-Typed-0 hidden-the_row-Typed-0 denote.Hole.Carrier.hidden
compared_right t x op a b e i h = subst IsSound (sym i) (subst (λ y. FormIsSound t.width y) e h).2

pub combined_left : (t x : Typed) (op : Logic) (a b : Typed) → t.form ≡ f.Combined op a b → x ≡ a → IsSound t → IsSound x
unfolding size form_size IsSound FormIsSound shape-the_row-Typed-0 hidden-the_row-Typed-0 denote.Hole.Carrier.hidden
combined_left t x op a b e i h = subst IsSound (sym i) (subst (λ y. FormIsSound t.width y) e h).1

pub combined_left_less : (t x : Typed) (op : Logic) (a b : Typed) (n : ℕ) → t.form ≡ f.Combined op a b → x ≡ a → size t ≡ n → suc (size x) < n
unfolding size form_size IsSound FormIsSound shape-the_row-Typed-0 hidden-the_row-Typed-0 denote.Hole.Carrier.hidden
combined_left_less t x op a b n e i k = let g = ap form_size e in let j = ap size i in omega arith

pub combined_right : (t x : Typed) (op : Logic) (a b : Typed) → t.form ≡ f.Combined op a b → x ≡ b → IsSound t → IsSound x
unfolding size form_size IsSound FormIsSound shape-the_row-Typed-0 hidden-the_row-Typed-0 denote.Hole.Carrier.hidden
combined_right t x op a b e i h = subst IsSound (sym i) (subst (λ y. FormIsSound t.width y) e h).2

pub combined_right_less : (t x : Typed) (op : Logic) (a b : Typed) (n : ℕ) → t.form ≡ f.Combined op a b → x ≡ b → size t ≡ n → suc (size x) < n
unfolding size form_size IsSound FormIsSound shape-the_row-Typed-0 hidden-the_row-Typed-0 denote.Hole.Carrier.hidden
combined_right_less t x op a b n e i k = let g = ap form_size e in let j = ap size i in omega arith

pub condition : (t x : Typed) (l a b : Typed) → t.form ≡ f.Chosen l a b → x ≡ l → IsSound t → IsSound x
unfolding size form_size IsSound FormIsSound shape-the_row-Typed-0 hidden-the_row-Typed-0 denote.Hole.Carrier.hidden
condition t x l a b e i h = subst IsSound (sym i) (subst (λ y. FormIsSound t.width y) e h).1

pub condition_less : (t x : Typed) (l a b : Typed) (n : ℕ) → t.form ≡ f.Chosen l a b → x ≡ l → size t ≡ n → suc (size x) < n
unfolding size form_size IsSound FormIsSound shape-the_row-Typed-0 hidden-the_row-Typed-0 denote.Hole.Carrier.hidden
condition_less t x l a b n e i k = let g = ap form_size e in let j = ap size i in omega arith

pub chosen_left : (t x : Typed) (l a b : Typed) → t.form ≡ f.Chosen l a b → x ≡ a → IsSound t → IsSound x
unfolding size form_size IsSound FormIsSound shape-the_row-Typed-0 hidden-the_row-Typed-0 denote.Hole.Carrier.hidden
chosen_left t x l a b e i h = subst IsSound (sym i) (subst (λ y. FormIsSound t.width y) e h).2

pub chosen_left_less : (t x : Typed) (l a b : Typed) (n : ℕ) → t.form ≡ f.Chosen l a b → x ≡ a → size t ≡ n → size x < n
unfolding size form_size IsSound FormIsSound shape-the_row-Typed-0 hidden-the_row-Typed-0 denote.Hole.Carrier.hidden
chosen_left_less t x l a b n e i k = let g = ap form_size e in let j = ap size i in omega arith

pub chosen_left_fits : (t x : Typed) (l a b : Typed) (w : ℕ) → t.form ≡ f.Chosen l a b → x ≡ a → IsSound t → t.width ≤ w → x.width ≤ w
unfolding size form_size IsSound FormIsSound shape-the_row-Typed-0 hidden-the_row-Typed-0 denote.Hole.Carrier.hidden
chosen_left_fits t x l a b w e i h k = let g = (subst (λ y. FormIsSound t.width y) e h).4 in let j = ap (λ y. y.width) i in omega arith

pub chosen_right : (t x : Typed) (l a b : Typed) → t.form ≡ f.Chosen l a b → x ≡ b → IsSound t → IsSound x
unfolding size form_size IsSound FormIsSound shape-the_row-Typed-0 hidden-the_row-Typed-0 denote.Hole.Carrier.hidden
chosen_right t x l a b e i h = subst IsSound (sym i) (subst (λ y. FormIsSound t.width y) e h).3

pub chosen_right_less : (t x : Typed) (l a b : Typed) (n : ℕ) → t.form ≡ f.Chosen l a b → x ≡ b → size t ≡ n → size x < n
unfolding size form_size IsSound FormIsSound shape-the_row-Typed-0 hidden-the_row-Typed-0 denote.Hole.Carrier.hidden
chosen_right_less t x l a b n e i k = let g = ap form_size e in let j = ap size i in omega arith

pub chosen_right_fits : (t x : Typed) (l a b : Typed) (w : ℕ) → t.form ≡ f.Chosen l a b → x ≡ b → IsSound t → t.width ≤ w → x.width ≤ w
unfolding size form_size IsSound FormIsSound shape-the_row-Typed-0 hidden-the_row-Typed-0 denote.Hole.Carrier.hidden
chosen_right_fits t x l a b w e i h k = let g = (subst (λ y. FormIsSound t.width y) e h).5 in let j = ap (λ y. y.width) i in omega arith

pub power : (t x : Typed) (a : Typed) (p : Option ℕ) → t.form ≡ f.Power a p → x ≡ a → IsSound t → IsSound x
unfolding size form_size IsSound FormIsSound shape-the_row-Typed-0 hidden-the_row-Typed-0 denote.Hole.Carrier.hidden
power t x a p e i h = subst IsSound (sym i) (subst (λ y. FormIsSound t.width y) e h).1

pub power_less : (t x : Typed) (a : Typed) (p : Option ℕ) (n : ℕ) → t.form ≡ f.Power a p → x ≡ a → size t ≡ n → size x < n
unfolding size form_size IsSound FormIsSound shape-the_row-Typed-0 hidden-the_row-Typed-0 denote.Hole.Carrier.hidden
power_less t x a p n e i k = let g = ap form_size e in let j = ap size i in omega arith

pub power_fits : (t x : Typed) (a : Typed) (p : Option ℕ) (w : ℕ) → t.form ≡ f.Power a p → x ≡ a → IsSound t → t.width ≤ w → x.width ≤ w
unfolding size form_size IsSound FormIsSound shape-the_row-Typed-0 hidden-the_row-Typed-0 denote.Hole.Carrier.hidden
power_fits t x a p w e i h k = let g = (subst (λ y. FormIsSound t.width y) e h).2 in let j = ap (λ y. y.width) i in omega arith

pub standing : (t x : Typed) (a : Typed) → t.form ≡ f.Standing a → x ≡ a → IsSound t → IsSound x
unfolding size form_size IsSound FormIsSound shape-the_row-Typed-0 hidden-the_row-Typed-0 denote.Hole.Carrier.hidden
standing t x a e i h = subst IsSound (sym i) (subst (λ y. FormIsSound t.width y) e h).0

pub standing_less : (t x : Typed) (a : Typed) (n : ℕ) → t.form ≡ f.Standing a → x ≡ a → size t ≡ n → suc (size x) < n
unfolding size form_size IsSound FormIsSound shape-the_row-Typed-0 hidden-the_row-Typed-0 denote.Hole.Carrier.hidden
standing_less t x a n e i k = let g = ap form_size e in let j = ap size i in omega arith

pub fitted : (t x : Typed) (a : Typed) → t.form ≡ f.Fitted a → x ≡ a → IsSound t → IsSound x
unfolding size form_size IsSound FormIsSound shape-the_row-Typed-0 hidden-the_row-Typed-0 denote.Hole.Carrier.hidden
fitted t x a e i h = subst IsSound (sym i) (subst (λ y. FormIsSound t.width y) e h).1

pub fitted_less : (t x : Typed) (a : Typed) (n : ℕ) → t.form ≡ f.Fitted a → x ≡ a → size t ≡ n → suc (size x) < n
unfolding size form_size IsSound FormIsSound shape-the_row-Typed-0 hidden-the_row-Typed-0 denote.Hole.Carrier.hidden
fitted_less t x a n e i k = let g = ap form_size e in let j = ap size i in omega arith

pub compared_less : (t x y : Typed) (op : Comparison) (a b : Typed) (n : ℕ) → t.form ≡ f.Compared op a b → x ≡ a → y ≡ b → size t ≡ n → suc (size x + size y) < n
unfolding size form_size IsSound FormIsSound shape-the_row-Typed-0 hidden-the_row-Typed-0 denote.Hole.Carrier.hidden
compared_less t x y op a b n e i j k = let g = ap form_size e in let u = ap size i in let v = ap size j in omega arith

pub combined_less : (t x y : Typed) (op : Logic) (a b : Typed) (n : ℕ) → t.form ≡ f.Combined op a b → x ≡ a → y ≡ b → size t ≡ n → suc (size x + size y) < n
unfolding size form_size IsSound FormIsSound shape-the_row-Typed-0 hidden-the_row-Typed-0 denote.Hole.Carrier.hidden
combined_less t x y op a b n e i j k = let g = ap form_size e in let u = ap size i in let v = ap size j in omega arith

pub chosen_less : (t z x y : Typed) (l a b : Typed) (n : ℕ) → t.form ≡ f.Chosen l a b → z ≡ l → x ≡ a → y ≡ b → size t ≡ n → suc (size z + size x + size y) < n
unfolding size form_size IsSound FormIsSound shape-the_row-Typed-0 hidden-the_row-Typed-0 denote.Hole.Carrier.hidden
chosen_less t z x y l a b n e h i j k = let g = ap form_size e in let w = ap size h in let u = ap size i in let v = ap size j in omega arith

pub standing_width : (t x a : Typed) → t.form ≡ f.Standing a → x ≡ a → IsSound t → x.width ≡ t.width
unfolding size form_size IsSound FormIsSound shape-the_row-Typed-0 hidden-the_row-Typed-0 denote.Hole.Carrier.hidden
standing_width t x a e i h = let g = (subst (λ y. FormIsSound t.width y) e h).1 in let j = ap (λ y. y.width) i in omega arith

-- ---- lists of parts

row_size_is : (all : List Typed) → suc (suc (row_size (hidden-the_row-Typed-2 all))) ≡ size_together all
unfolding size form_size size_together shape-the_row-Typed-2 hidden-the_row-Typed-2 denote.Hole.Carrier.hidden
row_size_is [] = refl
row_size_is (a ∷ more) = let g = row_size_is more in omega arith

pub element_less : (all : List Typed) (i : ℕ) (x : Typed) (n : ℕ) → i < length all → x ≡ get_or all i x → size_together all ≡ n → suc (size x) < n
unfolding size_together
element_less [] i x n lt is k = absurd (omega arith)
element_less (a ∷ more) zero x n lt is k = let g = some_size more in let j = ap size is in omega arith
  where
    some_size : (all : List Typed) → 2 ≤ size_together all
    some_size [] = omega arith
    some_size (b ∷ all) = let g = some_size all in omega arith
element_less (a ∷ more) (suc i) x n lt is k = let g = element_less more i x (size_together more) (omega arith) is refl in omega arith

pub concat_parts : (t : Typed) (all : List Typed) (x : List Typed) → t.form ≡ f.Concat all → x ≡ all → IsSound t → All IsSound x
unfolding IsSound FormIsSound
concat_parts t all x e i h = All-from_recursion IsSound x (sound_row x (subst (λ y. FormIsSound t.width y) (e ∙ ap (λ y. f.Concat y) (sym i)) h).1)

pub concat_less : (t : Typed) (all : List Typed) (x : List Typed) (n : ℕ) → t.form ≡ f.Concat all → x ≡ all → size t ≡ n → size_together x < n
unfolding size form_size
concat_less t all x n e i k = let g = ap form_size e in let u = row_size_is all in let v = ap size_together i in omega arith

pub repeat_parts : (t : Typed) (all : List Typed) (count : ℕ) (x : List Typed) → t.form ≡ f.Repeat count all → x ≡ all → IsSound t → All IsSound x
unfolding IsSound FormIsSound
repeat_parts t all count x e i h = All-from_recursion IsSound x (sound_row x (subst (λ y. FormIsSound t.width y) (e ∙ ap (λ y. f.Repeat count y) (sym i)) h).1)

pub repeat_less : (t : Typed) (all : List Typed) (count : ℕ) (x : List Typed) (n : ℕ) → t.form ≡ f.Repeat count all → x ≡ all → size t ≡ n → size_together x < n
unfolding size form_size
repeat_less t all count x n e i k = let g = ap form_size e in let u = row_size_is all in let v = ap size_together i in omega arith

pub concat_width : (t : Typed) (all : List Typed) (x : List Typed) → t.form ≡ f.Concat all → x ≡ all → IsSound t → width_together x ≡ t.width
unfolding IsSound FormIsSound
concat_width t all x e i h = ap width_together i ∙ sym (row_width_is all) ∙ (subst (λ y. FormIsSound t.width y) e h).2

pub repeat_width : (t : Typed) (all : List Typed) (count : ℕ) (x : List Typed) → t.form ≡ f.Repeat count all → x ≡ all → IsSound t → count * width_together x ≡ t.width
unfolding IsSound FormIsSound
repeat_width t all count x e i h = ap (λ y. count * y) (ap width_together i ∙ sym (row_width_is all)) ∙ (subst (λ y. FormIsSound t.width y) e h).2

some_factor : (n w m : ℕ) → n * w ≡ m → 1 ≤ m → 1 ≤ w
some_factor n zero m e h = absurd (omega arith)
some_factor n (suc w) m e h = omega arith

most_factor : (n w m : ℕ) → n * w ≡ m → 1 ≤ m → w ≤ m
most_factor zero w m e h = absurd (omega arith)
most_factor (suc n) w m e h = let g : suc n * w ≡ n * w + w = suc-mul n w in omega arith

pub repeat_some : (t : Typed) (all : List Typed) (count : ℕ) (x : List Typed) → t.form ≡ f.Repeat count all → x ≡ all → IsSound t → 1 ≤ width_together x
repeat_some t all count x e i h = some_factor count (width_together x) t.width (repeat_width t all count x e i h) (some_bits t h)

pub repeat_most : (t : Typed) (all : List Typed) (count : ℕ) (x : List Typed) → t.form ≡ f.Repeat count all → x ≡ all → IsSound t → width_together x ≤ 128
repeat_most t all count x e i h =
    let m = most_factor count (width_together x) t.width (repeat_width t all count x e i h) (some_bits t h) in let b = most_bits t h in omega arith

pub some_copies : (t : Typed) (all : List Typed) (count : ℕ) → t.form ≡ f.Repeat count all → IsSound t → 1 ≤ count
some_copies t all zero e h = let g = repeat_width t all zero all e refl h in let k = some_bits t h in absurd (omega arith)
some_copies t all (suc count) e h = omega arith

-- ---- names and literals

row_picks_size_is : (picks : List Pick) → suc (row_picks_size (hidden-the_row-Pick-1 picks)) ≡ picks_size picks
unfolding form_size pick_size picks_size shape-the_row-Pick-1 hidden-the_row-Pick-1 denote.Hole.Carrier.hidden
row_picks_size_is [] = refl
row_picks_size_is (p ∷ more) = let g = row_picks_size_is more in omega arith

pub pick_less : (picks : List Pick) (i : ℕ) (x : Pick) (n : ℕ) → i < length picks → x ≡ get_or picks i x → picks_size picks ≡ n → pick_size x < n
unfolding picks_size
pick_less [] i x n lt is k = absurd (omega arith)
pick_less (a ∷ more) zero x n lt is k = let g = some_size more in let j = ap pick_size is in omega arith
  where
    some_size : (all : List Pick) → 1 ≤ picks_size all
    some_size [] = omega arith
    some_size (b ∷ all) = let g = some_size all in omega arith
pick_less (a ∷ more) (suc i) x n lt is k = let g = pick_less more i x (picks_size more) (omega arith) is refl in omega arith

pub named_less : (t : Typed) (root : Root) (picks x : List Pick) (n : ℕ) → t.form ≡ f.Named root picks → x ≡ picks → size t ≡ n → picks_size x < n
unfolding size form_size
named_less t root picks x n e i k = let g = ap form_size e in let u = row_picks_size_is picks in let v = ap picks_size i in omega arith

pub named_picks : (t : Typed) (root : Root) (picks x : List Pick) → t.form ≡ f.Named root picks → x ≡ picks → IsSound t → All PickIsSound x
unfolding IsSound FormIsSound
named_picks t root picks x e i h = All-from_recursion PickIsSound x (sound_picks x (subst (λ y. FormIsSound t.width y) (e ∙ ap (λ y. f.Named root y) (sym i)) h).2)

pub named_root : (t : Typed) (root : Root) (picks : List Pick) → t.form ≡ f.Named root picks → IsSound t → RootIsSound root
unfolding IsSound FormIsSound
named_root t root picks e h = (subst (λ y. FormIsSound t.width y) e h).1

pub named_width : (t : Typed) (root : Root) (picks x : List Pick) → t.form ≡ f.Named root picks → x ≡ picks → IsSound t → picked_width x (root_width root) ≡ t.width
unfolding IsSound FormIsSound
named_width t root picks x e i h = ap (λ y. picked_width y (root_width root)) i ∙ sym (row_picked_width_is picks (root_width root)) ∙ (subst (λ y. FormIsSound t.width y) e h).3

pub index_less : (p : Pick) (x a : Typed) (spot : Spot) (n : ℕ) → p.place ≡ place.Moving a spot → x ≡ a → pick_size p ≡ n → suc (size x) < n
unfolding pick_size size form_size shape-the_row-Typed-0 hidden-the_row-Typed-0 denote.Hole.Carrier.hidden
index_less p x a spot n e i k = let g = ap place_size e in let j = ap size i in omega arith

pub index_sound : (p : Pick) (x a : Typed) (spot : Spot) → p.place ≡ place.Moving a spot → x ≡ a → PickIsSound p → IsSound x
unfolding PickIsSound IsSound FormIsSound shape-the_row-Typed-0 hidden-the_row-Typed-0 denote.Hole.Carrier.hidden
index_sound p x a spot e i h = subst IsSound (sym i) (subst (λ y. PlaceIsSound p.width y) e h.1).1

pub spot_width : (p : Pick) (a : Typed) (spot : Spot) → p.place ≡ place.Moving a spot → PickIsSound p → spot.width ≡ p.width
unfolding PickIsSound IsSound FormIsSound shape-the_row-Typed-0 hidden-the_row-Typed-0 denote.Hole.Carrier.hidden
spot_width p a spot e h = (subst (λ y. PlaceIsSound p.width y) e h.1).0

pub some_picked : (p : Pick) → PickIsSound p → 1 ≤ p.width
unfolding PickIsSound
some_picked p h = h.0.0

pub most_picked : (p : Pick) → PickIsSound p → p.width ≤ 128
unfolding PickIsSound
most_picked p h = h.0.1

pub literal_sound : (t : Typed) (x : l.Literal) → t.form ≡ f.Literal x → IsSound t → LiteralIsSound x
unfolding IsSound FormIsSound
literal_sound t x e h = (subst (λ y. FormIsSound t.width y) e h).1

pub literal_width : (t : Typed) (x : l.Literal) → t.form ≡ f.Literal x → IsSound t → length x.value ≡ t.width
unfolding IsSound FormIsSound
literal_width t x e h = (subst (λ y. FormIsSound t.width y) e h).2

pub ruleset sound_parts = (turned, reduced, computed_left, computed_right, moved_left, moved_right, compared_left, compared_right, combined_left, combined_right, condition, chosen_left, chosen_right, power, standing, fitted, concat_parts, repeat_parts, named_picks, named_root, index_sound, literal_sound)

pub ruleset smaller_parts = (turned_less, reduced_less, computed_left_less, computed_right_less, moved_left_less, moved_right_less, combined_left_less, combined_right_less, condition_less, chosen_left_less, chosen_right_less, power_less, standing_less, fitted_less, compared_less, element_less, concat_less, repeat_less, pick_less, named_less, index_less)

pub ruleset fitting_parts = (turned_fits, computed_left_fits, computed_right_fits, moved_left_fits, chosen_left_fits, chosen_right_fits, power_fits, most_bits, some_bits, some_picked, most_picked)

pub ruleset part_widths = (standing_width, concat_width, repeat_width, named_width, literal_width, spot_width, some_bits, most_bits, some_picked, most_picked)
