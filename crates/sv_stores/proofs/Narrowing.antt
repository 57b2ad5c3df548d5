-- The bits of an expression depend on those bits alone that its names have below their widths.
use Rattle.std.proofs.Common.{◌≡◌, ℕ, zero, suc, ◌+◌, ◌<◌, ◌≤◌, max, Bool, true, ◌&&◌, List, ◌∷◌, ◌++◌, refl, ap, ◌∙◌, arith, IsTrue}
use mathlib.Core.Former.{Count}
use Rattle.fourvec.specs.declared.Bit.{Bit}
use Rattle.fourvec.specs.Bits.{truth_of, cond_of}
use Rattle.fourvec.proofs.Tables.{left_of, right_of}
use Rattle.sv_meaning.specs.Layouts.{Read, Origin}
use Rattle.sv_meaning.specs.Meanings.{extend, fitted, copies, bits_at, bits_from}
use Rattle.sv_typed.specs.declared.tree.PickPlace.{PickPlace, Fixed, Moving'}
use Rattle.sv_typed.specs.declared.tree.Root.{Root}
use Rattle.sv_typed.specs.declared.tree.Root.TheVariants.{Number, Signal}
use Rattle.sv_typed.specs.declared.tree.Typed.{Typed}
use Rattle.sv_typed.specs.declared.tree.TypedForm.{TypedForm, Literal, Named', Turned', Reduced', Computed', Moved', Compared', Combined', Chosen', Power', Concat', Repeat', Standing', Fitted', Row_of-Typed, end_of-Typed, more_of-Typed, Row_of-Pick, end_of-Pick, more_of-Pick}
use Rattle.sv_typed.specs.Ops.{turned, reduced, computed, moved, compared, combined}
use Rattle.sv_typed.specs.Typed.{form_worth, row_together, row_picked, place_in, root_bits, origin_is, spot_place, worth}
use Rattle.sv_lower.specs.Lowering.{each_root, each_form, each_row, each_pick_row, each_place, each_signal}

-- two readings that agree on each bit of the signals for which a test holds, each below its width
abbrev pub SameWhere : (Origin → ℕ → ℕ → Bool) → Read → Read → Type 0
SameWhere t r q = (o : Origin) (n w k : ℕ) → IsTrue (t o n w) → k < w → r o n k ≡ q o n k

pub same_bits : (f g : ℕ → Bit) (k w : ℕ) → ((i : ℕ) → k ≤ i → i < k + w → f i ≡ g i) → bits_from f k w ≡ bits_from g k w
unfolding bits_from
same_bits f g k zero h = refl
same_bits f g k (suc w) h =
    ap (λ b. b ∷ bits_from f (suc k) w) (h k (omega arith) (omega arith)) ∙ ap (λ more. g k ∷ more) (same_bits f g (suc k) w (λ i l m. h i (omega arith) (omega arith)))

same_root : (T : Origin → ℕ → ℕ → Bool) (r q : Read) → SameWhere T r q → (root : Root) → each_root T root ≡ true → root_bits root r ≡ root_bits root q
same_root T r q g (Number v) h = refl
same_root T r q g (Signal o n w) h = same_bits _ _ 0 w (λ i l m. g (origin_is o) n w i h (omega arith))

mutual
  unfolding form_worth each_form

  same_form : (T : Origin → ℕ → ℕ → Bool) (r q : Read) → SameWhere T r q → (n : ℕ) (x : TypedForm) → each_form T x ≡ true → (w : ℕ) (s : Bool) → form_worth n x r w s ≡ form_worth n x q w s
  same_form T r q same n (Literal l) h w s = refl
  same_form T r q same n (Named' root k picks) h w s =
      ap (λ y. extend s w (row_picked picks r y)) (same_root T r q same root (left_of _ _ h))
      ∙ ap (λ y. extend s w y) (same_picks T r q same picks (right_of _ _ h) (root_bits root q))
  same_form T r q same n (Turned' op t (more_of-Typed u p c x end_of-Typed)) h w s = ap (λ y. turned op y) (same_form T r q same u x h w s)
  same_form T r q same n (Reduced' op t (more_of-Typed u p c x end_of-Typed)) h w s = ap (λ y. extend s w (reduced op y)) (same_form T r q same u x h u p)
  same_form T r q same n (Computed' op t (more_of-Typed u p c x end_of-Typed) i (more_of-Typed v o d y end_of-Typed)) h w s =
      ap (λ z. computed op s z (form_worth v y r w s)) (same_form T r q same u x (left_of _ _ h) w s)
      ∙ ap (λ z. computed op s (form_worth u x q w s) z) (same_form T r q same v y (right_of _ _ h) w s)
  same_form T r q same n (Moved' op t (more_of-Typed u p c x end_of-Typed) i (more_of-Typed v o d y end_of-Typed)) h w s =
      ap (λ z. moved op s z (form_worth v y r v o)) (same_form T r q same u x (left_of _ _ h) w s)
      ∙ ap (λ z. moved op s (form_worth u x q w s) z) (same_form T r q same v y (right_of _ _ h) v o)
  same_form T r q same n (Compared' op t (more_of-Typed u p c x end_of-Typed) i (more_of-Typed v o d y end_of-Typed)) h w s =
      ap (λ z. extend s w (compared op (p && o) z (form_worth v y r (max u v) (p && o)))) (same_form T r q same u x (left_of _ _ h) (max u v) (p && o))
      ∙ ap (λ z. extend s w (compared op (p && o) (form_worth u x q (max u v) (p && o)) z)) (same_form T r q same v y (right_of _ _ h) (max u v) (p && o))
  same_form T r q same n (Combined' op t (more_of-Typed u p c x end_of-Typed) i (more_of-Typed v o d y end_of-Typed)) h w s =
      ap (λ z. extend s w (combined op z (form_worth v y r v o))) (same_form T r q same u x (left_of _ _ h) u p)
      ∙ ap (λ z. extend s w (combined op (form_worth u x q u p) z)) (same_form T r q same v y (right_of _ _ h) v o)
  same_form T r q same n (Chosen' j (more_of-Typed b g e z end_of-Typed) t (more_of-Typed u p c x end_of-Typed) i (more_of-Typed v o d y end_of-Typed)) h w s =
      let rest = right_of _ _ h in
      ap (λ a. cond_of (truth_of a) (form_worth u x r w s) (form_worth v y r w s)) (same_form T r q same b z (left_of _ _ h) b g)
      ∙ ap (λ a. cond_of (truth_of (form_worth b z q b g)) a (form_worth v y r w s)) (same_form T r q same u x (left_of _ _ rest) w s)
      ∙ ap (λ a. cond_of (truth_of (form_worth b z q b g)) (form_worth u x q w s) a) (same_form T r q same v y (right_of _ _ rest) w s)
  same_form T r q same n (Power' t (more_of-Typed u p c x end_of-Typed) e) h w s = refl
  same_form T r q same n (Concat' k all) h w s = ap (λ y. extend s w y) (same_row T r q same all h)
  same_form T r q same n (Repeat' count k all) h w s = ap (λ y. extend s w (copies count y)) (same_row T r q same all h)
  same_form T r q same n (Standing' t (more_of-Typed u p c x end_of-Typed)) h w s = ap (λ y. extend s w y) (same_form T r q same u x h u p)
  same_form T r q same n (Fitted' t (more_of-Typed u p c x end_of-Typed)) h w s = ap (λ y. extend s w (fitted p n y)) (same_form T r q same u x h u p)

  same_row : {k : Count} (T : Origin → ℕ → ℕ → Bool) (r q : Read) → SameWhere T r q → (all : Row_of-Typed k) → each_row T all ≡ true → row_together all r ≡ row_together all q
  same_row T r q same end_of-Typed h = refl
  same_row T r q same (more_of-Typed u p c x all) h =
      ap (λ y. y ++ form_worth u x r u p) (same_row T r q same all (right_of _ _ h))
      ∙ ap (λ y. row_together all q ++ y) (same_form T r q same u x (left_of _ _ h) u p)

  same_picks : {k : Count} (T : Origin → ℕ → ℕ → Bool) (r q : Read) → SameWhere T r q → (picks : Row_of-Pick k) → each_pick_row T picks ≡ true → (a : List Bit) → row_picked picks r a ≡ row_picked picks q a
  same_picks T r q same end_of-Pick h a = refl
  same_picks T r q same (more_of-Pick w c place all) h a =
      ap (λ i. row_picked all r (bits_at i w a)) (same_place T r q same place (left_of _ _ h))
      ∙ same_picks T r q same all (right_of _ _ h) (bits_at (place_in place q) w a)

  same_place : (T : Origin → ℕ → ℕ → Bool) (r q : Read) → SameWhere T r q → (p : PickPlace) → each_place T p ≡ true → place_in p r ≡ place_in p q
  same_place T r q same (Fixed i) h = refl
  same_place T r q same (Moving' t (more_of-Typed u p c x end_of-Typed) spot) h = ap (λ a. spot_place spot a) (same_form T r q same u x h u p)

pub same_worth : (T : Origin → ℕ → ℕ → Bool) (r q : Read) → SameWhere T r q → (t : Typed) (w : ℕ) (s : Bool) → IsTrue (each_signal T t) → worth t r w s ≡ worth t q w s
same_worth T r q same t w s h = same_form T r q same t.width t.form h w s
