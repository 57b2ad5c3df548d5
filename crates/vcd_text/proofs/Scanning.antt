-- Steps of a scan.
use Rattle.std.proofs.Common.{◌≡◌, ℕ, Bool, true, false, not, length, is_some, List, [], ◌∷◌, ◌++◌, Option, None, Some, refl, ap, ◌∙◌}
use Rattle.std.specs.Prelude.{◌==◌, ◌||◌, if◌then◌else◌}
use Rattle.std.proofs.lemmas.Bool.{and_parts}
use Rattle.fourvec.specs.declared.Bit.{Bit}
use Rattle.vcd_text.specs.declared.role.Lead.TheVariants.{Time, Scalar, Vector, Real, Nothing}
use Rattle.vcd_text.specs.Words.{Text}
use Rattle.vcd_text.specs.Forms.{is_code, is_bit, all_bits, are_bits, bit_of, bits_of, bits_behind, lead_of, chain}
use Rattle.vcd_text.specs.Waves.{Told, with_change}
use Rattle.vcd_text.specs.Steps.{goes, between, code_step, lead_step}

never : {A B : Type 0} (o : Option A) → chain {B = B} o (λ _. None) ≡ None
never None = refl
never (Some a) = refl

pub code_refused : (told : Told) (digits code : Text) → is_code code ≡ false → code_step told digits code ≡ None
code_refused told digits code h = ap (λ v. chain (bits_of digits) (λ bits. goes v between (with_change told code bits))) h ∙ never (bits_of digits)

pub code_taken : (told : Told) (digits code : Text) → is_code code ≡ true → code_step told digits code ≡ chain (bits_of digits) (λ bits. goes true between (with_change told code bits))
code_taken told digits code h = ap (λ v. chain (bits_of digits) (λ bits. goes v between (with_change told code bits))) h

bit_led : (t v r : Bool) (o : Option Bit) (bit : Bit)
    → (if t then Time else (if v then Vector else (if r then Real else (elim o [ None ↦ Nothing | Some b ↦ Scalar b ])))) ≡ Scalar bit → o ≡ Some bit
bit_led true v r o bit h = cc
bit_led false true r o bit h = cc
bit_led false false true o bit h = cc
bit_led false false false None bit h = cc
bit_led false false false (Some b) bit h = cc

one_bit : (b : ℕ) (bit : Bit) → lead_of b ≡ Scalar bit → bits_of (b ∷ []) ≡ Some (bit ∷ [])
unfolding lead_of bits_behind
one_bit b bit l = ap (λ o. chain o (λ x. Some (x ∷ []))) (bit_led (b == 35) ((b == 98) || (b == 66)) ((b == 114) || (b == 82)) (bit_of b) bit l)

pub scalar_put : (told : Told) (first rest : Text) (b : ℕ) (bit : Bit) → first ≡ b ∷ [] → lead_of b ≡ Scalar bit → code_step told first rest ≡ lead_step told rest (Scalar bit)
scalar_put told first rest b bit e l = ap (λ o. chain o (λ bits. goes (is_code rest) between (with_change told rest bits))) (ap bits_of e ∙ one_bit b bit l)

pub scalar_bits : (first : Text) (b : ℕ) (bit : Bit) → first ≡ b ∷ [] → lead_of b ≡ Scalar bit → is_some (bits_of first) ≡ true
scalar_bits first b bit e l = ap is_some (ap bits_of e ∙ one_bit b bit l)

-- what is made of bits
bits_behind_some : (front : List Bit) (t : Text) → all_bits t ≡ true → is_some (bits_behind front t) ≡ true
unfolding bits_behind
bits_behind_some front [] all = refl
bits_behind_some front (d ∷ t) all =
    let parts = and_parts (is_bit d) (all_bits t) all in
    by_case (bit_of d) parts.0 (λ b. bits_behind_some (front ++ b ∷ []) t parts.1)
  where
    by_case : (o : Option Bit) → is_some o ≡ true → ((b : Bit) → is_some (bits_behind (front ++ b ∷ []) t) ≡ true) → is_some (chain o (λ b. bits_behind (front ++ b ∷ []) t)) ≡ true
    by_case None some more = cc
    by_case (Some b) some more = more b

pub bits_some : (t : Text) → are_bits t ≡ true → is_some (bits_of t) ≡ true
bits_some t h = bits_behind_some [] t (and_parts (not (length t == 0)) (all_bits t) h).1
