-- What names no signal has the same bits whatever names read.
use Rattle.std.proofs.Common.{◌≡◌, ℕ, max, Bool, true, ◌&&◌, List, ◌++◌, refl, ap, ◌∙◌, IsTrue}
use mathlib.Core.Former.{Count}
use Rattle.fourvec.specs.declared.Bit.{Bit}
use Rattle.fourvec.specs.Bits.{truth_of, cond_of}
use Rattle.fourvec.proofs.Tables.{left_of, right_of}
use Rattle.sv_meaning.specs.Layouts.{Read}
use Rattle.sv_meaning.specs.Meanings.{nowhere, extend, fitted, copies, bits_at}
use Rattle.sv_typed.specs.declared.tree.Typed.{Typed}
use Rattle.sv_typed.specs.declared.tree.TypedForm.{TypedForm, Literal, Named', Turned', Reduced', Computed', Moved', Compared', Combined', Chosen', Power', Concat', Repeat', Standing', Fitted', Row_of-Typed, end_of-Typed, more_of-Typed, Row_of-Pick, end_of-Pick, more_of-Pick}
use Rattle.sv_typed.specs.declared.tree.PickPlace.{PickPlace, Fixed, Moving'}
use Rattle.sv_typed.specs.declared.tree.Root.{Root}
use Rattle.sv_typed.specs.declared.tree.Root.TheVariants.{Number, Signal}
use Rattle.sv_typed.specs.Ops.{turned, reduced, computed, moved, compared, combined}
use Rattle.sv_typed.specs.Typed.{form_worth, row_together, row_picked, place_in, spot_place, root_bits, worth}
use Rattle.sv_lower.specs.Lowering.{each_root, each_form, each_row, each_pick_row, each_place, each_signal, no_signal}

root_nameless : (root : Root) (read : Read) → each_root no_signal root ≡ true → root_bits root read ≡ root_bits root nowhere
root_nameless (Number v) read h = refl
root_nameless (Signal o n w) read h = cc

mutual
  unfolding form_worth each_form

  form_nameless : (n : ℕ) (x : TypedForm) (read : Read) (w : ℕ) (s : Bool) → each_form no_signal x ≡ true → form_worth n x read w s ≡ form_worth n x nowhere w s
  form_nameless n (Literal l) read w s h = refl
  form_nameless n (Named' root k picks) read w s h =
      ap (extend s w) (picks_nameless picks read (root_bits root read) (right_of _ _ h) ∙ ap (row_picked picks nowhere) (root_nameless root read (left_of _ _ h)))
  form_nameless n (Turned' op t (more_of-Typed u p c x end_of-Typed)) read w s h = ap (turned op) (form_nameless u x read w s h)
  form_nameless n (Reduced' op t (more_of-Typed u p c x end_of-Typed)) read w s h = ap (λ a. extend s w (reduced op a)) (form_nameless u x read u p h)
  form_nameless n (Computed' op t (more_of-Typed u p c x end_of-Typed) r (more_of-Typed v q d y end_of-Typed)) read w s h =
      ap (λ a. computed op s a (form_worth v y read w s)) (form_nameless u x read w s (left_of _ _ h)) ∙ ap (computed op s (form_worth u x nowhere w s)) (form_nameless v y read w s (right_of _ _ h))
  form_nameless n (Moved' op t (more_of-Typed u p c x end_of-Typed) r (more_of-Typed v q d y end_of-Typed)) read w s h =
      ap (λ a. moved op s a (form_worth v y read v q)) (form_nameless u x read w s (left_of _ _ h)) ∙ ap (moved op s (form_worth u x nowhere w s)) (form_nameless v y read v q (right_of _ _ h))
  form_nameless n (Compared' op t (more_of-Typed u p c x end_of-Typed) r (more_of-Typed v q d y end_of-Typed)) read w s h =
      ap (λ a. extend s w (compared op (p && q) a (form_worth v y read (max u v) (p && q)))) (form_nameless u x read (max u v) (p && q) (left_of _ _ h))
      ∙ ap (λ b. extend s w (compared op (p && q) (form_worth u x nowhere (max u v) (p && q)) b)) (form_nameless v y read (max u v) (p && q) (right_of _ _ h))
  form_nameless n (Combined' op t (more_of-Typed u p c x end_of-Typed) r (more_of-Typed v q d y end_of-Typed)) read w s h =
      ap (λ a. extend s w (combined op a (form_worth v y read v q))) (form_nameless u x read u p (left_of _ _ h))
      ∙ ap (λ b. extend s w (combined op (form_worth u x nowhere u p) b)) (form_nameless v y read v q (right_of _ _ h))
  form_nameless n (Chosen' i (more_of-Typed b o e z end_of-Typed) t (more_of-Typed u p c x end_of-Typed) r (more_of-Typed v q d y end_of-Typed)) read w s h =
      ap (λ a. cond_of (truth_of a) (form_worth u x read w s) (form_worth v y read w s)) (form_nameless b z read b o (left_of _ _ h))
      ∙ ap (λ a. cond_of (truth_of (form_worth b z nowhere b o)) a (form_worth v y read w s)) (form_nameless u x read w s (left_of _ _ (right_of _ _ h)))
      ∙ ap (cond_of (truth_of (form_worth b z nowhere b o)) (form_worth u x nowhere w s)) (form_nameless v y read w s (right_of _ _ (right_of _ _ h)))
  form_nameless n (Power' t (more_of-Typed u p c x end_of-Typed) e) read w s h = refl
  form_nameless n (Concat' k all) read w s h = ap (extend s w) (row_nameless all read h)
  form_nameless n (Repeat' count k all) read w s h = ap (λ a. extend s w (copies count a)) (row_nameless all read h)
  form_nameless n (Standing' t (more_of-Typed u p c x end_of-Typed)) read w s h = ap (extend s w) (form_nameless u x read u p h)
  form_nameless n (Fitted' t (more_of-Typed u p c x end_of-Typed)) read w s h = ap (λ a. extend s w (fitted p n a)) (form_nameless u x read u p h)

  row_nameless : {k : Count} (all : Row_of-Typed k) (read : Read) → each_row no_signal all ≡ true → row_together all read ≡ row_together all nowhere
  row_nameless end_of-Typed read h = refl
  row_nameless (more_of-Typed u p c x all) read h =
      ap (λ a. a ++ form_worth u x read u p) (row_nameless all read (right_of _ _ h)) ∙ ap (λ a. row_together all nowhere ++ a) (form_nameless u x read u p (left_of _ _ h))

  picks_nameless : {k : Count} (picks : Row_of-Pick k) (read : Read) (a : List Bit) → each_pick_row no_signal picks ≡ true → row_picked picks read a ≡ row_picked picks nowhere a
  picks_nameless end_of-Pick read a h = refl
  picks_nameless (more_of-Pick w c place all) read a h =
      picks_nameless all read (bits_at (place_in place read) w a) (right_of _ _ h) ∙ ap (λ p. row_picked all nowhere (bits_at p w a)) (place_nameless place read (left_of _ _ h))

  place_nameless : (place : PickPlace) (read : Read) → each_place no_signal place ≡ true → place_in place read ≡ place_in place nowhere
  place_nameless (Fixed i) read h = refl
  place_nameless (Moving' t (more_of-Typed u p c x end_of-Typed) spot) read h = ap (spot_place spot) (form_nameless u x read u p h)

pub nameless : (t : Typed) (read : Read) (w : ℕ) (s : Bool) → IsTrue (each_signal no_signal t) → worth t read w s ≡ worth t nowhere w s
nameless t read w s h = form_nameless t.width t.form read w s h
