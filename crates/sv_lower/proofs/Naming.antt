-- A test that holds of each signal that an expression names holds of the tree.
use Rattle.std.proofs.Common.{ℕ, Bool, List, ◌++◌, refl, arith, IsTrue}
use Rattle.std.specs.List.{Contains}
use Rattle.std.proofs.lemmas.List.Elements.{Contains-append_left, Contains-append_right}
use mathlib.Core.Former.{Count}
use Rattle.fourvec.proofs.Order.{both}
use Rattle.svex_shape.specs.declared.shape.VarName.{VarName}
use Rattle.svex_shape.specs.declared.shape.Shape.{Shape}
use Rattle.sv_meaning.specs.Layouts.{Origin, NamedSignal}
use Rattle.sv_typed.specs.declared.tree.Typed.{Typed}
use Rattle.sv_typed.specs.declared.tree.TypedForm.{TypedForm, Literal, Named', Turned', Reduced', Computed', Moved', Compared', Combined', Chosen', Power', Concat', Repeat', Standing', Fitted', Row_of-Typed, end_of-Typed, more_of-Typed, Row_of-Pick, end_of-Pick, more_of-Pick}
use Rattle.sv_typed.specs.declared.tree.PickPlace.{PickPlace, Fixed, Moving'}
use Rattle.sv_typed.specs.declared.tree.Root.{Root}
use Rattle.sv_typed.specs.declared.tree.Root.TheVariants.{Number, Signal}
use Rattle.sv_typed.specs.Typed.{root_names, form_names, row_names, pick_names, place_names, names_of}
use Rattle.sv_lower.specs.declared.look.Look.{Look}
use Rattle.sv_lower.specs.Lowering.{look_test, each_root, each_form, each_row, each_pick_row, each_place, each_signal}

-- a test holds of each of these signals
abbrev pub HoldsOf : (Origin → ℕ → ℕ → Bool) → List NamedSignal → Type 0
HoldsOf q all = (s : NamedSignal) → Contains all s → IsTrue (q s.owner s.number s.width)

left : (q : Origin → ℕ → ℕ → Bool) (a b : List NamedSignal) → HoldsOf q (a ++ b) → HoldsOf q a
left q a b h s i = h s (Contains-append_left a b s i)

right : (q : Origin → ℕ → ℕ → Bool) (a b : List NamedSignal) → HoldsOf q (a ++ b) → HoldsOf q b
right q a b h s i = h s (Contains-append_right a b s i)

root_holds : (q : Origin → ℕ → ℕ → Bool) (root : Root) → HoldsOf q (root_names root) → IsTrue (each_root q root)
root_holds q (Number v) h = refl
root_holds q (Signal o n w) h = h _ (0, omega arith, refl)

mutual
  unfolding form_names each_form

  form_holds : (q : Origin → ℕ → ℕ → Bool) (x : TypedForm) → HoldsOf q (form_names x) → IsTrue (each_form q x)
  form_holds q (Literal l) h = refl
  form_holds q (Named' root k picks) h =
      both _ _ (root_holds q root (left q (root_names root) (pick_names picks) h)) (picks_hold q picks (right q (root_names root) (pick_names picks) h))
  form_holds q (Turned' op t (more_of-Typed u p c x end_of-Typed)) h = form_holds q x h
  form_holds q (Reduced' op t (more_of-Typed u p c x end_of-Typed)) h = form_holds q x h
  form_holds q (Computed' op t (more_of-Typed u p c x end_of-Typed) r (more_of-Typed v i d y end_of-Typed)) h =
      both _ _ (form_holds q x (left q (form_names x) (form_names y) h)) (form_holds q y (right q (form_names x) (form_names y) h))
  form_holds q (Moved' op t (more_of-Typed u p c x end_of-Typed) r (more_of-Typed v i d y end_of-Typed)) h =
      both _ _ (form_holds q x (left q (form_names x) (form_names y) h)) (form_holds q y (right q (form_names x) (form_names y) h))
  form_holds q (Compared' op t (more_of-Typed u p c x end_of-Typed) r (more_of-Typed v i d y end_of-Typed)) h =
      both _ _ (form_holds q x (left q (form_names x) (form_names y) h)) (form_holds q y (right q (form_names x) (form_names y) h))
  form_holds q (Combined' op t (more_of-Typed u p c x end_of-Typed) r (more_of-Typed v i d y end_of-Typed)) h =
      both _ _ (form_holds q x (left q (form_names x) (form_names y) h)) (form_holds q y (right q (form_names x) (form_names y) h))
  form_holds q (Chosen' k (more_of-Typed b o e z end_of-Typed) t (more_of-Typed u p c x end_of-Typed) r (more_of-Typed v i d y end_of-Typed)) h =
      let first = left q (form_names z ++ form_names x) (form_names y) h in
      both _ _ (form_holds q z (left q (form_names z) (form_names x) first))
      (both _ _ (form_holds q x (right q (form_names z) (form_names x) first)) (form_holds q y (right q (form_names z ++ form_names x) (form_names y) h)))
  form_holds q (Power' t (more_of-Typed u p c x end_of-Typed) e) h = form_holds q x h
  form_holds q (Concat' k all) h = row_holds q all h
  form_holds q (Repeat' count k all) h = row_holds q all h
  form_holds q (Standing' t (more_of-Typed u p c x end_of-Typed)) h = form_holds q x h
  form_holds q (Fitted' t (more_of-Typed u p c x end_of-Typed)) h = form_holds q x h

  row_holds : {k : Count} (q : Origin → ℕ → ℕ → Bool) (all : Row_of-Typed k) → HoldsOf q (row_names all) → IsTrue (each_row q all)
  row_holds q end_of-Typed h = refl
  row_holds q (more_of-Typed u p c x all) h =
      both _ _ (form_holds q x (left q (form_names x) (row_names all) h)) (row_holds q all (right q (form_names x) (row_names all) h))

  picks_hold : {k : Count} (q : Origin → ℕ → ℕ → Bool) (picks : Row_of-Pick k) → HoldsOf q (pick_names picks) → IsTrue (each_pick_row q picks)
  picks_hold q end_of-Pick h = refl
  picks_hold q (more_of-Pick w c place all) h =
      both _ _ (place_holds q place (left q (place_names place) (pick_names all) h)) (picks_hold q all (right q (place_names place) (pick_names all) h))

  place_holds : (q : Origin → ℕ → ℕ → Bool) (place : PickPlace) → HoldsOf q (place_names place) → IsTrue (each_place q place)
  place_holds q (Fixed i) h = refl
  place_holds q (Moving' t (more_of-Typed u p c x end_of-Typed) spot) h = form_holds q x h

pub each_holds : (q : Origin → ℕ → ℕ → Bool) (t : Typed) → HoldsOf q (names_of t) → IsTrue (each_signal q t)
each_holds q t h = form_holds q t.form h

-- What holds of what each named signal reads holds of all that the names of an expression read.
pub look_holds : (look : Look) (shapes : List Shape) (t : Typed) (p : VarName → ℕ → Bool)
    → ((s : NamedSignal) → Contains (names_of t) s → IsTrue (look_test look shapes p s.owner s.number s.width)) → IsTrue (each_signal (look_test look shapes p) t)
look_holds look shapes t p h = each_holds (look_test look shapes p) t h
