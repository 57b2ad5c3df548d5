-- Values of parameters.
use Rattle.std.proofs.Common.{◌≡◌, ℕ, max, Bool, true, false, not, List, take, drop, Result, Ok, Err, Option, Some, None, refl, sym, ap, ◌∙◌, subst}
use Rattle.fourvec.specs.declared.Bit.{Bit}
use Rattle.fourvec.specs.Bits.{is_known}
use Rattle.sv_outside.specs.declared.refusal.Place.{Place}
use Rattle.sv_outside.specs.declared.refusal.TextErr.{TextErr}
use Rattle.sv_outside.specs.declared.refusal.TextErr.TheVariants.{No}
use Rattle.sv_meaning.specs.Faults.{Judged, provided, ◌>>=◌, not_constant}
use Rattle.sv_meaning.specs.Layouts as m
use Rattle.sv_meaning.specs.Meanings.{Meaning, nowhere, assigned, constant_of, fixed_faults}
use Rattle.sv_meaning.specs.Params as params
use Rattle.sv_meaning.specs.Forms.{has_sign}
use Rattle.sv_meaning.specs.Values.{is_signed_word}
use Rattle.sv_tree.specs.declared.exprs.Sign.{Sign}
use Rattle.sv_tree.specs.declared.forms.Range.{Range}
use Rattle.sv_tree.specs.declared.design.ParamBits.{ParamBits}
use Rattle.sv_tree.specs.declared.design.ParamType.TheVariants as param_type
use Rattle.sv_typed.specs.declared.tree.Typed.{Typed}
use Rattle.sv_typed.specs.Typed.{worth}
use Rattle.sv_typing.specs.declared.position.Fixed.{Fixed}
use Rattle.sv_names.specs.declared.layout.Known.{Known}
use Rattle.sv_typing.specs.Judging.{IsCause, IsTyped, IsFixed}
use Rattle.sv_typing.proofs.Lists.{in_second, in_fault, no_fault, then_clear}
use Rattle.sv_typing.proofs.OfRules.{cause_first}
use Rattle.sv_const.proofs.Valued.{value_is}
use Rattle.sv_types.specs.Types.{Refused}
use Rattle.sv_types.specs.declared.kinds.ParamKind.{ParamKind as Kind}
use Rattle.sv_types.specs.Values.{JudgesKind, JudgesValue, IsWidth, JudgesWidth, kind_is, sized_in}
use Rattle.sv_types.proofs.Judging.{then_err, provided_ok, provided_err}

pub untyped_ok : (x : Meaning) (f : Fixed) → IsFixed x f → params.untyped x ≡ Ok (m.number_is f.known.value f.known.signed)
untyped_ok x f h = provided_ok (fixed_faults x) (m.number_is (constant_of x) x.sign) h.clear ∙ ap Ok (ap (λ v. m.number_is v x.sign) h.value ∙ ap (m.number_is f.known.value) h.signed)

pub with_sign_ok : (s : Bool) (x : Meaning) (f : Fixed) → IsFixed x f → params.with_sign s x ≡ Ok (m.number_is f.known.value s)
with_sign_ok s x f h = provided_ok (fixed_faults x) (m.number_is (constant_of x) s) h.clear ∙ ap Ok (ap (λ v. m.number_is v s) h.value)

pub fixed_cause : (x : Meaning) (y : m.What) (e : TextErr) → IsCause (fixed_faults x) e → Refused (provided (fixed_faults x) y) e
fixed_cause x y e h = provided_err (fixed_faults x) y e h

drop_none : {A : Type 0} (a : List A) → drop 0 a ≡ a
drop_none a = refl

pub typed_ok : (w : ℕ) (s : Bool) (x : Meaning) (t : Typed) (whole v : List Bit) → IsTyped x (x.faults true) t → whole ≡ worth t nowhere (max w t.width) t.signed → v ≡ take w (drop 0 whole) → is_known v ≡ true → params.typed w s x ≡ Ok (m.number_is v s)
typed_ok w s x t whole v h e k b =
    let i : assigned x nowhere w ≡ v = ap (take w) (value_is w t x h.stands ∙ sym e) ∙ sym k in
    provided_ok (params.converted_faults w x) (m.number_is (assigned x nowhere w) s) (then_clear (x.faults true) _ h.clear (no_fault _ not_constant x.start (ap not (ap is_known i ∙ b)))) ∙ ap (λ y. Ok (m.number_is y s)) i

pub typed_unknown : (w : ℕ) (s : Bool) (x : Meaning) (t : Typed) (whole v : List Bit) (p : Place) → x.start ≡ p → IsTyped x (x.faults true) t → whole ≡ worth t nowhere (max w t.width) t.signed → v ≡ take w (drop 0 whole) → is_known v ≡ false →
    Refused (params.typed w s x) (No (record { number = not_constant; place = p; count = 0 }))
typed_unknown w s x t whole v p a h e k b =
    let i : assigned x nowhere w ≡ v = ap (take w) (value_is w t x h.stands ∙ sym e) ∙ sym k in
    subst (λ (q : Place). Refused (params.typed w s x) (No (record { number = not_constant; place = q; count = 0 }))) a
    (provided_err (params.converted_faults w x) (m.number_is (assigned x nowhere w) s) (No (record { number = not_constant; place = x.start; count = 0 })) (in_second (x.faults true) _ _ h.clear (in_fault _ not_constant x.start (ap not (ap is_known i ∙ b)))))

pub typed_cause : (w : ℕ) (s : Bool) (x : Meaning) (e : TextErr) → IsCause (x.faults true) e → Refused (params.typed w s x) e
typed_cause w s x e h = provided_err (params.converted_faults w x) (m.number_is (assigned x nowhere w) s) e (cause_first (x.faults true) _ e h)

-- ---- ranges

pub width_of_result : (j : Judged ℕ) (r : Result ℕ TextErr) (w : ℕ) → r ≡ Ok w → JudgesWidth j r → IsWidth j w
width_of_result j r w e h = subst (JudgesWidth j) e h

pub width_refused : (j : Judged ℕ) (r : Result ℕ TextErr) (x : TextErr) → r ≡ Err x → JudgesWidth j r → Refused j x
width_refused j r x e h = subst (JudgesWidth j) e h

pub in_range : (j : Judged ℕ) (s : Bool) (w : ℕ) → IsWidth j w → sized_in j s ≡ Ok (params.sized_as w s)
in_range j s w h = ap (λ z. z >>= λ v. Ok (params.sized_as v s)) h.is

pub not_in_range : (j : Judged ℕ) (s : Bool) (e : TextErr) → Refused j e → Refused (sized_in j s) e
not_in_range j s e h = then_err j (λ w. Ok (params.sized_as w s)) e h

-- ---- the forms of parameters

range_form : (at : m.Scope) (word : Option ParamBits) (s : Option Sign) (r : Range) → params.param_kind at (Some (param_type.Bits word s (Some r))) ≡ sized_in (params.range_width at r) (has_sign s)
range_form at None None r = refl
range_form at None (Some s) r = refl
range_form at (Some word) None r = refl
range_form at (Some word) (Some s) r = refl

kind_as : (j k : Judged params.ParamKind) (r : Result Kind TextErr) → j ≡ k → JudgesKind k r → JudgesKind j r
kind_as j k r h x = subst (λ z. JudgesKind z r) (sym h) x

pub bits_range : (at : m.Scope) (word : Option ParamBits) (s : Option Sign) (o : Option Range) (r : Range) (b : Bool) (found : Result Kind TextErr) → o ≡ Some r → b ≡ has_sign s → JudgesKind (sized_in (params.range_width at r) b) found →
    JudgesKind (params.param_kind at (Some (param_type.Bits word s o))) found
bits_range at word s o r b found e h k =
    kind_as _ _ found (ap (λ (z : Option Range). params.param_kind at (Some (param_type.Bits word s z))) e ∙ range_form at word s r ∙ ap (λ z. sized_in (params.range_width at r) z) (sym h)) k

pub bits_plain : (at : m.Scope) (word : Option ParamBits) (s : Option Sign) (o : Option Range) (k : Kind) → o ≡ None → params.param_kind at (Some (param_type.Bits word s None)) ≡ Ok (kind_is k) → params.param_kind at (Some (param_type.Bits word s o)) ≡ Ok (kind_is k)
bits_plain at word s o k e h = ap (λ (z : Option Range). params.param_kind at (Some (param_type.Bits word s z))) e ∙ h

pub plain_word : (at : m.Scope) (word : Option ParamBits) (v : ParamBits) (s : Option Sign) (b : Bool) → word ≡ Some v → b ≡ has_sign s → params.param_kind at (Some (param_type.Bits word s None)) ≡ Ok (params.sized_as 1 b)
plain_word at word v s b g h = ap (λ (z : Option ParamBits). params.param_kind at (Some (param_type.Bits z s None))) g ∙ alone s ∙ ap (λ z. Ok (params.sized_as 1 z)) (sym h)
  where
    alone : (q : Option Sign) → params.param_kind at (Some (param_type.Bits (Some v) q None)) ≡ Ok (params.sized_as 1 (has_sign q))
    alone None = refl
    alone (Some q) = refl

pub plain_sign : (at : m.Scope) (word : Option ParamBits) (s : Option Sign) (q : Sign) (b : Bool) → word ≡ None → s ≡ Some q → b ≡ is_signed_word q → params.param_kind at (Some (param_type.Bits word s None)) ≡ Ok (params.signed_as b)
plain_sign at word s q b g i h =
    ap (λ (z : Option ParamBits). params.param_kind at (Some (param_type.Bits z s None))) g ∙ ap (λ (z : Option Sign). params.param_kind at (Some (param_type.Bits None z None))) i ∙ ap (λ z. Ok (params.signed_as z)) (sym h)

pub plain_none : (at : m.Scope) (word : Option ParamBits) (s : Option Sign) → word ≡ None → s ≡ None → params.param_kind at (Some (param_type.Bits word s None)) ≡ Ok params.kept
plain_none at word s g i = ap (λ (z : Option ParamBits). params.param_kind at (Some (param_type.Bits z s None))) g ∙ ap (λ (z : Option Sign). params.param_kind at (Some (param_type.Bits None z None))) i

-- ---- values

pub value_by : (k l : params.ParamKind) (x : Meaning) (r : Result Known TextErr) → k ≡ l → JudgesValue (params.value_as l x) r → JudgesValue (params.value_as k x) r
value_by k l x r e h = subst (λ (z : params.ParamKind). JudgesValue (params.value_as z x) r) (sym e) h
