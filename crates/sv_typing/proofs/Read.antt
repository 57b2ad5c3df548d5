-- Literals.
use Rattle.std.proofs.Common.{◌≡◌, ◌↔◌, Bool, true, false, not, IsTrue, IsFalse, [], refl, ap, Result, Ok, Err}
use Rattle.std.specs.List.{Contains}
use Rattle.sv_literal.specs.declared.meaning.Literal.{Literal}
use Rattle.sv_literal.specs.declared.meaning.LitErr.{LitErr}
use Rattle.sv_literal.specs.declared.meaning.LitErr.TheVariants.{Shape, Wide, Range}
use Rattle.sv_literal.specs.Meaning.{is_wide, is_out_of_range}
use Rattle.sv_outside.specs.Literals.{is_literal}
use Rattle.sv_tree.specs.declared.word.Word.{Word}
use Rattle.sv_meaning.specs.Faults.{bad_token, bad_width, literal_range}
use Rattle.sv_meaning.specs.Meanings.{literal_faults}
use Rattle.sv_typing.specs.Literals.{refused}
use Rattle.sv_typing.proofs.Lists.{in_first, in_second, in_fault, no_fault, then_clear}

-- a test that holds where a reading is no such error fails, and the other way round
holds : (b : Bool) (r : Result Literal LitErr) (e : LitErr) → (r ≡ Err e) ↔ IsFalse b → (r ≡ Err e → ⊥) → b ≡ true
holds true r e h n = refl
holds false r e h n = absurd (n (h.1 refl))

fails : (b : Bool) (r : Result Literal LitErr) (e : LitErr) → (r ≡ Err e) ↔ IsTrue b → (r ≡ Err e → ⊥) → b ≡ false
fails false r e h n = refl
fails true r e h n = absurd (n (h.1 refl))

pub clear_literal : (w : Word) (l : Literal) (r : Result Literal LitErr) → r ≡ Ok l →
    (r ≡ Err Shape) ↔ IsFalse (is_literal w.text) → (r ≡ Err Wide) ↔ IsTrue (is_wide w.text) → (r ≡ Err Range) ↔ IsTrue (is_out_of_range w.text) → literal_faults w ≡ []
clear_literal w l r e a b c =
    let x = holds (is_literal w.text) r Shape a (λ h. cc) in
    let y = fails (is_wide w.text) r Wide b (λ h. cc) in
    let z = fails (is_out_of_range w.text) r Range c (λ h. cc) in
    then_clear _ _ (no_fault _ _ _ (ap not x)) (then_clear _ _ (no_fault _ _ _ y) (no_fault _ _ _ z))

shape_fault : (w : Word) (r : Result Literal LitErr) → r ≡ Err Shape → (r ≡ Err Shape) ↔ IsFalse (is_literal w.text) →
    Contains (literal_faults w) (record { number = bad_token; place = w.place; count = 0 })
shape_fault w r e a = in_first _ _ _ (in_fault _ _ _ (ap not (a.0 e)))

wide_fault : (w : Word) (r : Result Literal LitErr) → r ≡ Err Wide → (r ≡ Err Shape) ↔ IsFalse (is_literal w.text) → (r ≡ Err Wide) ↔ IsTrue (is_wide w.text) →
    Contains (literal_faults w) (record { number = bad_width; place = w.place; count = 0 })
wide_fault w r e a b =
    let x = holds (is_literal w.text) r Shape a (λ h. cc) in
    in_second _ _ _ (no_fault _ _ _ (ap not x)) (in_first _ _ _ (in_fault _ _ _ (b.0 e)))

range_fault : (w : Word) (r : Result Literal LitErr) → r ≡ Err Range → (r ≡ Err Shape) ↔ IsFalse (is_literal w.text) → (r ≡ Err Wide) ↔ IsTrue (is_wide w.text) → (r ≡ Err Range) ↔ IsTrue (is_out_of_range w.text) →
    Contains (literal_faults w) (record { number = literal_range; place = w.place; count = 0 })
range_fault w r e a b c =
    let x = holds (is_literal w.text) r Shape a (λ h. cc) in
    let y = fails (is_wide w.text) r Wide b (λ h. cc) in
    in_second _ _ _ (no_fault _ _ _ (ap not x)) (in_second _ _ _ (no_fault _ _ _ y) (in_fault _ _ _ (c.0 e)))

pub cause_stands : (w : Word) (r : Result Literal LitErr) (e : LitErr) → r ≡ Err e →
    (r ≡ Err Shape) ↔ IsFalse (is_literal w.text) → (r ≡ Err Wide) ↔ IsTrue (is_wide w.text) → (r ≡ Err Range) ↔ IsTrue (is_out_of_range w.text) → Contains (literal_faults w) (refused e w.place)
cause_stands w r Shape e a b c = shape_fault w r e a
cause_stands w r Wide e a b c = wide_fault w r e a b
cause_stands w r Range e a b c = range_fault w r e a b c
