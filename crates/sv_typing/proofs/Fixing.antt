-- Constants that are wholly 0 and 1.
use Rattle.std.proofs.Common.{◌≡◌, true, false, not, sym, ap, ◌∙◌, subst}
use Rattle.std.specs.List.{Contains}
use Rattle.fourvec.specs.Bits.{is_known}
use Rattle.sv_outside.specs.declared.refusal.Refusal.{Refusal}
use Rattle.sv_outside.specs.declared.refusal.Place.{Place}
use Rattle.sv_meaning.specs.Faults.{fault_if, or_then, not_constant}
use Rattle.sv_meaning.specs.Meanings.{Meaning, from, nowhere, constant_of, fixed_faults}
use Rattle.sv_typed.specs.declared.tree.Typed.{Typed}
use Rattle.sv_typed.specs.Typed.{Stands, own}
use Rattle.sv_typing.specs.declared.position.Fixed.{Fixed}
use Rattle.sv_typing.specs.Judging.{IsTyped, IsFixed}
use Rattle.sv_typing.proofs.Lists.{in_first, in_second, in_fault, no_fault, then_clear}

pub own_is : (t : Typed) (x : Meaning) → Stands t x → constant_of x ≡ own t nowhere
unfolding Stands
own_is t x h = ap constant_of h.is

pub fixing_ok : (p : Place) (x : Meaning) (t : Typed) (f : Fixed) → IsTyped x (x.faults true) t → f.known.value ≡ own t nowhere → f.known.signed ≡ t.signed → f.constant ≡ t.constant → is_known (own t nowhere) ≡ true → IsFixed (from p x) f
unfolding Stands
fixing_ok p x t f h v s c k = record {
  clear = then_clear (x.faults true) _ h.clear (no_fault _ not_constant p (ap not (ap is_known (own_is t x h.stands) ∙ k)));
  value = own_is t x h.stands ∙ sym v;
  signed = ap (λ y. y.sign) h.stands.is ∙ sym s;
  constant = ap (λ y. y.constant) h.stands.is ∙ sym c;
}

pub fixing_cause : (p : Place) (x : Meaning) (r : Refusal) → Contains (x.faults true) r → Contains (fixed_faults (from p x)) r
fixing_cause p x r h = in_first (x.faults true) _ r h

pub unknown_cause : (p : Place) (x : Meaning) (t : Typed) → IsTyped x (x.faults true) t → is_known (own t nowhere) ≡ false → Contains (fixed_faults (from p x)) (record { number = not_constant; place = p; count = 0 })
unknown_cause p x t h k = in_second (x.faults true) _ _ h.clear (in_fault _ not_constant p (ap not (ap is_known (own_is t x h.stands) ∙ k)))

-- ---- where it begins is where its meaning begins

pub from_start : (x : Meaning) (p : Place) → x.start ≡ p → fixed_faults (from p x) ≡ fixed_faults x
from_start x p h = ap (λ q. or_then (x.faults true) (fault_if (not (is_known (constant_of x))) not_constant q)) (sym h)

pub fixed_here : (x : Meaning) (p : Place) (f : Fixed) → x.start ≡ p → IsFixed (from p x) f → IsFixed x f
fixed_here x p f h k = record { clear = sym (from_start x p h) ∙ k.clear; value = k.value; signed = k.signed; constant = k.constant }

pub index_clear : (x : Meaning) (t : Typed) (p : Place) → x.start ≡ p → IsTyped x (x.faults true) t → is_known (own t nowhere) ≡ true → IsTyped x (fixed_faults x) t
index_clear x t p e h k = record {
  clear = then_clear (x.faults true) _ h.clear (no_fault _ not_constant x.start (ap not (ap is_known (own_is t x h.stands) ∙ k)));
  stands = h.stands;
  sound = h.sound;
}

pub index_cause : (x : Meaning) (r : Refusal) → Contains (x.faults true) r → Contains (fixed_faults x) r
index_cause x r h = in_first (x.faults true) _ r h

pub index_unknown : (p : Place) (x : Meaning) (t : Typed) → x.start ≡ p → IsTyped x (x.faults true) t → is_known (own t nowhere) ≡ false → Contains (fixed_faults x) (record { number = not_constant; place = p; count = 0 })
index_unknown p x t e h k = subst (λ f. Contains f (record { number = not_constant; place = p; count = 0 })) (from_start x p e) (unknown_cause p x t h k)

pub ruleset fixings = (fixing_ok, fixing_cause, unknown_cause, index_clear, index_cause, index_unknown)
