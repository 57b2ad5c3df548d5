-- Rules of typing.
use Rattle.std.proofs.Common.{◌≡◌, ℕ, Bool, true, false, ◌&&◌, not, List, [], ◌++◌, length, if◌then◌else◌, refl, sym, ap, ◌∙◌, subst, int_lt, pos, nat_abs, Result, Ok, Err, IfOk, IfErr, ◌⊎◌, inl, inr}
use Rattle.std.specs.List.{Contains}
use Rattle.fourvec.specs.declared.Bit.{Bit}
use Rattle.fourvec.specs.Bits.{is_known}
use Rattle.sv_outside.specs.declared.refusal.Place.{Place}
use Rattle.sv_outside.specs.declared.refusal.TextErr.{TextErr}
use Rattle.sv_outside.specs.Literals.{is_number, is_based}
use Rattle.sv_literal.specs.declared.meaning.Literal.{Literal}
use Rattle.sv_literal.specs.Meaning.{meaning_of, number_of as number_literal, based_of, fill_of}
use Rattle.sv_tree.specs.declared.word.Word.{Word}
use Rattle.sv_meaning.specs.Faults.{Faults, fault_if, or_then, bad_width, not_constant, out_of_scope}
use Rattle.sv_meaning.specs.Meanings.{Meaning, of_literal, literal_meaning, literal_faults, power, power_faults, constant_of, number_of, fixed_faults, sized_by, is_width, nowhere, whole}
use Rattle.sv_typed.specs.declared.tree.Typed.{Typed}
use Rattle.sv_typing.specs.declared.position.Fixed.{Fixed}
use Rattle.sv_typed.specs.declared.ops.Pair.{Pair}
use Rattle.sv_typed.specs.declared.ops.Pair.TheVariants.{Computed, Moved, Compared, Combined}
use Rattle.sv_typed.specs.declared.ops.Two.{Two}
use Rattle.sv_typed.specs.Ops.{pair_meaning, two_meaning}
use Rattle.sv_typed.specs.Typed.{Stands, IsSound, LiteralIsSound, own}
use Rattle.sv_typing.specs.Judging.{IsTyped, IsCause, IsExponent, Judges, JudgesBoth, Fixes}
use Rattle.sv_typing.proofs.Lists.{in_left, in_right, in_first, in_second, in_fault, no_fault, both_clear, then_clear}
use Rattle.sv_typing.proofs.Judged.{cause_from, typed_ok, typed_err, fixed_err}

-- ---- literals

fill_is_one : (t : List ℕ) → (meaning_of t).fill ≡ true → length (meaning_of t).value ≡ 1
unfolding meaning_of number_literal based_of fill_of
fill_is_one t h = go (is_number t) (is_based t) h
  where
    go : (a b : Bool) → (if a then number_literal t else (if b then based_of t else fill_of t)).fill ≡ true → length (if a then number_literal t else (if b then based_of t else fill_of t)).value ≡ 1
    go true b h = cc
    go false true h = cc
    go false false h = refl

literal_sound : (t : List ℕ) (l : Literal) → meaning_of t ≡ l → LiteralIsSound l
literal_sound t l e = let P : Literal → Type 0 = λ x. x.fill ≡ true → length x.value ≡ 1 in subst P e (fill_is_one t)

pub literal_typed : (w : Word) (l : Literal) (t : Typed) (c : Bool) → literal_faults w ≡ [] → meaning_of w.text ≡ l → ((all : Faults) (p : Place) → Stands t (literal_meaning all p l)) → (LiteralIsSound l → IsSound t) → IsTyped (of_literal w) ((of_literal w).faults c) t
literal_typed w l t c f e h k = record {
  clear = f;
  stands = let P : Literal → Type 0 = λ x. Stands t (literal_meaning (literal_faults w) w.place x) in subst P (sym e) (h (literal_faults w) w.place);
  sound = k (literal_sound w.text l e);
}

-- ---- operators

pub pair_faults : (op : Pair) (m n : Meaning) (c : Bool) → (pair_meaning op m n).faults c ≡ m.faults c ++ n.faults c
pair_faults (Computed op) m n c = refl
pair_faults (Moved op) m n c = refl
pair_faults (Compared op) m n c = refl
pair_faults (Combined op) m n c = refl

pub pair_cause : (op : Pair) (m n : Meaning) (c : Bool) (e : TextErr) → IsCause (m.faults c ++ n.faults c) e → IsCause ((pair_meaning op m n).faults c) e
pair_cause op m n c e h = subst (λ f. IsCause f e) (sym (pair_faults op m n c)) h

-- what stands against a size
abbrev wide_count : Meaning → Faults
wide_count n = fault_if (not (int_lt (pos 0) (number_of n) && is_width (nat_abs (number_of n)))) bad_width n.start

pub cause_left : (a b : Faults) (e : TextErr) → IsCause a e → IsCause (a ++ b) e
cause_left a b e h = cause_from a (a ++ b) (in_left a b) e h

pub cause_right : (a b : Faults) (e : TextErr) → IsCause b e → IsCause (a ++ b) e
cause_right a b e h = cause_from b (a ++ b) (in_right a b) e h

pub cause_first : (a b : Faults) (e : TextErr) → IsCause a e → IsCause (or_then a b) e
cause_first a b e h = cause_from a (or_then a b) (in_first a b) e h

-- two that are judged each by itself
pub both_judged : (m n : Meaning) (c : Bool) (x y : Result Typed TextErr) (r : Result (Typed × Typed) TextErr)
    → IfOk r (λ p. (x ≡ Ok p.0) × (y ≡ Ok p.1)) → IfErr r (λ e. (x ≡ Err e) ⊎ (y ≡ Err e)) → Judges m c x → Judges n c y → JudgesBoth m n c r
both_judged m n c x y (Ok t) p q h k = (typed_ok m (m.faults c) x t.0 p.0 h, typed_ok n (n.faults c) y t.1 p.1 k)
both_judged m n c x y (Err e) p (inl q) h k = cause_left (m.faults c) (n.faults c) e (typed_err m (m.faults c) x e q h)
both_judged m n c x y (Err e) p (inr q) h k = cause_right (m.faults c) (n.faults c) e (typed_err n (n.faults c) y e q k)

-- why one of two is refused
pub both_cause : (m n : Meaning) (c : Bool) (x y : Result Typed TextErr) (e : TextErr) → (x ≡ Err e) ⊎ (y ≡ Err e) → Judges m c x → Judges n c y → IsCause (m.faults c ++ n.faults c) e
both_cause m n c x y e (inl p) h k = cause_left (m.faults c) (n.faults c) e (typed_err m (m.faults c) x e p h)
both_cause m n c x y e (inr p) h k = cause_right (m.faults c) (n.faults c) e (typed_err n (n.faults c) y e p k)

pub third_cause : (l m n : Meaning) (c : Bool) (x : Result (Typed × Typed) TextErr) (y : Result Typed TextErr) (e : TextErr) → (x ≡ Err e) ⊎ (y ≡ Err e) → JudgesBoth l m c x → Judges n c y
    → IsCause ((l.faults c ++ m.faults c) ++ n.faults c) e
third_cause l m n c x y e (inl p) h k = cause_left (l.faults c ++ m.faults c) (n.faults c) e (subst (JudgesBoth l m c) p h)
third_cause l m n c x y e (inr p) h k = cause_right (l.faults c ++ m.faults c) (n.faults c) e (typed_err n (n.faults c) y e p k)

pub cast_cause : (n m : Meaning) (c : Bool) (count : Result Fixed TextErr) (x : Result Typed TextErr) (e : TextErr) → (count ≡ Err e) ⊎ (x ≡ Err e) → Fixes n count → Judges m c x
    → IsCause ((sized_by n m).faults c) e
cast_cause n m c count x e (inl p) h k = cause_first (fixed_faults n ++ m.faults c) (wide_count n) e (cause_left (fixed_faults n) (m.faults c) e (fixed_err n count e p h))
cast_cause n m c count x e (inr p) h k = cause_first (fixed_faults n ++ m.faults c) (wide_count n) e (cause_right (fixed_faults n) (m.faults c) e (typed_err m (m.faults c) x e p k))

-- ---- powers

pub power_cause : (p : Place) (m n : Meaning) (c : Bool) (r : Result (List Bit) TextErr) (e : TextErr) → r ≡ Err e → IfErr r (λ x. IsCause ((power p m n).faults c) x) → IsCause ((power p m n).faults c) e
power_cause p m n c r e q h = let P : Result (List Bit) TextErr → Type 0 = λ x. IfErr x (λ y. IsCause ((power p m n).faults c) y) in subst P q h

pub exponent_ok : (x y : Typed) (r : Result (List Bit) TextErr) (bits : List Bit) → r ≡ Ok bits → IfOk r (λ b. IsExponent x y b) → IsExponent x y bits
exponent_ok x y r bits q h = let P : Result (List Bit) TextErr → Type 0 = λ z. IfOk z (λ b. IsExponent x y b) in subst P q h

constants : (m n : Meaning) (x y : Typed) → Stands x m → Stands y n → (m.constant && n.constant) ≡ (x.constant && y.constant)
unfolding Stands
constants m n x y h k = ap (λ z. z.constant && n.constant) h.is ∙ ap (λ z. x.constant && z.constant) k.is

below_is : (n : Meaning) (y : Typed) → Stands y n → (is_known (constant_of n) && int_lt (number_of n) (pos 0)) ≡ (is_known (own y nowhere) && int_lt (whole y.signed (own y nowhere)) (pos 0))
unfolding Stands
below_is n y h = ap (λ z. is_known (constant_of z) && int_lt (number_of z) (pos 0)) h.is

pub power_free : (p : Place) (m n : Meaning) (c : Bool) (x y : Typed) → IsTyped m (m.faults c) x → IsTyped n (n.faults c) y → (x.constant && y.constant) ≡ false →
    Contains ((power p m n).faults c) (record { number = out_of_scope; place = p; count = 0 })
power_free p m n c x y h k e =
    in_second (m.faults c ++ n.faults c) (power_faults p m n) _ (both_clear _ _ h.clear k.clear) (in_first _ _ _ (in_fault _ out_of_scope p (ap not (constants m n x y h.stands k.stands ∙ e))))

pub power_below : (p : Place) (m n : Meaning) (c : Bool) (x y : Typed) → IsTyped m (m.faults c) x → IsTyped n (n.faults c) y → (x.constant && y.constant) ≡ true →
    (is_known (own y nowhere) && int_lt (whole y.signed (own y nowhere)) (pos 0)) ≡ true → Contains ((power p m n).faults c) (record { number = not_constant; place = m.start; count = 0 })
power_below p m n c x y h k e b =
    in_second (m.faults c ++ n.faults c) (power_faults p m n) _ (both_clear _ _ h.clear k.clear)
    (in_second _ _ _ (no_fault _ out_of_scope p (ap not (constants m n x y h.stands k.stands ∙ e))) (in_fault _ not_constant m.start (below_is n y k.stands ∙ b)))

pub power_ok : (p : Place) (m n : Meaning) (c : Bool) (x y t : Typed) → IsTyped m (m.faults c) x → IsTyped n (n.faults c) y → (x.constant && y.constant) ≡ true →
    (is_known (own y nowhere) && int_lt (whole y.signed (own y nowhere)) (pos 0)) ≡ false → Stands t (power p m n) → IsSound t → IsTyped (power p m n) ((power p m n).faults c) t
power_ok p m n c x y t h k e b s z = record {
  clear = then_clear (m.faults c ++ n.faults c) (power_faults p m n) (both_clear _ _ h.clear k.clear)
      (then_clear _ _ (no_fault _ out_of_scope p (ap not (constants m n x y h.stands k.stands ∙ e))) (no_fault _ not_constant m.start (below_is n y k.stands ∙ b)));
  stands = s;
  sound = z;
}

-- the operator that it is
pub two_is : (p : Place) (f g : Two) (m n : Meaning) (c : Bool) (r : Result Typed TextErr) → f ≡ g → Judges (two_meaning p g m n) c r → Judges (two_meaning p f m n) c r
two_is p f g m n c r h j = subst (λ v. Judges (two_meaning p v m n) c r) (sym h) j
