-- What constants and sizes are found.
use Rattle.std.specs.Prelude.{◌≡◌, ℕ, ◌≤◌, false, [], Result, Ok, Err}
use Rattle.sv_outside.specs.declared.refusal.TextErr.{TextErr}
use Rattle.sv_meaning.specs.Meanings.{Meaning, constant_at, fixed_faults_at}
use Rattle.sv_names.specs.declared.layout.Known.{Known}
use Rattle.sv_names.specs.declared.layout.Size.{Size}
use Rattle.sv_typing.specs.Judging.{IsCause}

-- the value and the sign of a constant at the larger of a width and its own length, against which nothing stands
pub record IsConstant (width : ℕ) (m : Meaning) (k : Known) : Type 0 where
  pub clear : fixed_faults_at width m ≡ []
  pub value : constant_at width m ≡ k.value
  pub signed : m.sign ≡ k.signed

abbrev pub JudgesConstant : ℕ → Meaning → Result Known TextErr → Type 0
JudgesConstant width m (Ok k) = IsConstant width m k
JudgesConstant width m (Err e) = IsCause (fixed_faults_at width m) e

-- the own size of what may name signals, against which nothing stands
pub record IsSize (m : Meaning) (s : Size) : Type 0 where
  pub clear : m.faults false ≡ []
  pub width : m.size ≡ s.width
  pub signed : m.sign ≡ s.signed
  pub some : 1 ≤ s.width
  pub most : s.width ≤ 128

abbrev pub JudgesSize : Meaning → Result Size TextErr → Type 0
JudgesSize m (Ok s) = IsSize m s
JudgesSize m (Err e) = IsCause (m.faults false) e
