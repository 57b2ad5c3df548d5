-- Values of parameters as code finds them (IEEE 1800-2017, 6.20.2).
use Rattle.std.specs.Prelude.{◌≡◌, ℕ, suc, ◌≤◌, Bool, not, nat_abs, ℤ, Result, Ok, Err}
use Rattle.sv_outside.specs.declared.refusal.Place.{Place}
use Rattle.sv_outside.specs.declared.refusal.TextErr.{TextErr}
use Rattle.sv_meaning.specs.Faults.{Judged, provided, ◌>>=◌, fault_if, bad_width}
use Rattle.sv_meaning.specs.Layouts as m
use Rattle.sv_meaning.specs.Params.{is_plain_range, ParamKind, kept, signed_as, sized_as}
use Rattle.sv_names.specs.declared.layout.Known.{Known}
use Rattle.sv_types.specs.declared.kinds.ParamKind.{ParamKind as Kind}
use Rattle.sv_types.specs.declared.kinds.ParamKind.TheVariants.{Kept, Signed, Sized}
use Rattle.sv_types.specs.Types.{Refused}

abbrev pub JudgesValue : Judged m.What → Result Known TextErr → Type 0
JudgesValue j (Ok k) = j ≡ Ok (m.number_is k.value k.signed)
JudgesValue j (Err e) = Refused j e

-- the bits of a range [n:0] at a place
abbrev pub width_in : Place → Judged (ℤ × ℤ) → Judged ℕ
width_in p k = k >>= λ b. provided (fault_if (not (is_plain_range b)) bad_width p) (suc (nat_abs b.0))

-- so many bits of such a sign
abbrev pub sized_in : Judged ℕ → Bool → Judged ParamKind
sized_in j s = j >>= λ w. Ok (sized_as w s)

-- a kind as code has it
abbrev pub kind_is : Kind → ParamKind
kind_is Kept = kept
kind_is (Signed s) = signed_as s
kind_is (Sized x) = sized_as x.width x.signed

abbrev pub JudgesKind : Judged ParamKind → Result Kind TextErr → Type 0
JudgesKind j (Ok k) = j ≡ Ok (kind_is k)
JudgesKind j (Err e) = Refused j e

pub record IsWidth (j : Judged ℕ) (w : ℕ) : Type 0 where
  pub is : j ≡ Ok w
  pub some : 1 ≤ w
  pub most : w ≤ 128

abbrev pub JudgesWidth : Judged ℕ → Result ℕ TextErr → Type 0
JudgesWidth j (Ok w) = IsWidth j w
JudgesWidth j (Err e) = Refused j e
