-- Values at a width, and sizes.
use Rattle.std.proofs.Common.{◌≡◌, ℕ, ◌≤◌, max, true, false, not, sym, ap, ◌∙◌, subst}
use Rattle.std.specs.List.{Contains}
use Rattle.fourvec.specs.Bits.{is_known}
use Rattle.sv_outside.specs.declared.refusal.Place.{Place}
use Rattle.sv_outside.specs.declared.refusal.TextErr.{TextErr}
use Rattle.sv_meaning.specs.Faults.{not_constant}
use Rattle.sv_meaning.specs.Meanings.{Meaning, nowhere, constant_at, fixed_faults_at}
use Rattle.sv_typed.specs.declared.tree.Typed.{Typed}
use Rattle.sv_typed.specs.Typed.{Stands, worth}
use Rattle.sv_typed.proofs.Sound.{some_bits, most_bits}
use Rattle.sv_names.specs.declared.layout.Known.{Known}
use Rattle.sv_names.specs.declared.layout.Size.{Size}
use Rattle.sv_typing.specs.Judging.{IsTyped, IsCause}
use Rattle.sv_const.specs.Sizes.{IsConstant, IsSize}
use Rattle.sv_typing.proofs.Lists.{in_second, in_fault, no_fault, then_clear}
use Rattle.sv_typing.proofs.OfRules.{cause_first}

pub value_is : (w : ℕ) (t : Typed) (m : Meaning) → Stands t m → constant_at w m ≡ worth t nowhere (max w t.width) t.signed
unfolding Stands
value_is w t m h = ap (constant_at w) h.is

pub constant_ok : (w : ℕ) (m : Meaning) (t : Typed) (k : Known) → IsTyped m (m.faults true) t → k.value ≡ worth t nowhere (max w t.width) t.signed → k.signed ≡ t.signed → is_known k.value ≡ true → IsConstant w m k
unfolding Stands
constant_ok w m t k h v s e =
    let value : constant_at w m ≡ k.value = value_is w t m h.stands ∙ sym v in
    record {
      clear = then_clear (m.faults true) _ h.clear (no_fault _ not_constant m.start (ap not (ap is_known value ∙ e)));
      value = value;
      signed = ap (λ y. y.sign) h.stands.is ∙ sym s;
    }

pub constant_unknown : (w : ℕ) (m : Meaning) (t : Typed) (p : Place) → IsTyped m (m.faults true) t → m.start ≡ p → is_known (worth t nowhere (max w t.width) t.signed) ≡ false →
    Contains (fixed_faults_at w m) (record { number = not_constant; place = p; count = 0 })
constant_unknown w m t p h s e =
    subst (λ q. Contains (fixed_faults_at w m) (record { number = not_constant; place = q; count = 0 })) s
    (in_second (m.faults true) _ _ h.clear (in_fault _ not_constant m.start (ap not (ap is_known (value_is w t m h.stands) ∙ e))))

pub constant_cause : (w : ℕ) (m : Meaning) (e : TextErr) → IsCause (m.faults true) e → IsCause (fixed_faults_at w m) e
constant_cause w m e h = cause_first (m.faults true) _ e h

pub size_ok : (m : Meaning) (t : Typed) (s : Size) → IsTyped m (m.faults false) t → s.width ≡ t.width → s.signed ≡ t.signed → IsSize m s
unfolding Stands
size_ok m t s h w g = record {
  clear = h.clear;
  width = ap (λ y. y.size) h.stands.is ∙ sym w;
  signed = ap (λ y. y.sign) h.stands.is ∙ sym g;
  some = let b = some_bits t h.sound in subst (λ n. 1 ≤ n) (sym w) b;
  most = let b = most_bits t h.sound in subst (λ n. n ≤ 128) (sym w) b;
}
