-- What is printed so far, and what a dump stands for.
use Rattle.std.specs.Prelude.{◌≡◌, ℕ, ◌-◌, ◌<◌, ◌++◌, List, [], ◌∷◌, length, map, min, codes, All, Some}
use Rattle.std.specs.List.{slice_get}
use Rattle.fourvec.specs.declared.Bit.{Bit}
use Rattle.sv_outside.specs.declared.text.Signal.{Signal}
use Rattle.vcd_text.specs.declared.waves.VcdVar.{VcdVar}
use Rattle.vcd_text.specs.Words.{Text}
use Rattle.vcd_text.specs.Waves.{Change, Wave, value_at}
use Rattle.vcd_print.specs.Printed.{dump_text}

-- a text that grows, and the number of phases in it
pub record Printed : Type 0 where
  pub text : Text
  pub phases : ℕ

-- the values of the last phase, and none where there is no phase
unfoldable pub last_behind : List (List Bit) → List (List (List Bit)) → List (List Bit)
last_behind before [] = before
last_behind before (values ∷ more) = last_behind values more

abbrev pub last_phase : List (List (List Bit)) → List (List Bit)
last_phase phases = last_behind [] phases

abbrev pub HasBits : List Bit → Type 0
HasBits v = 0 < length v

-- The text is the dump of the wires in these phases. With it stands what the types say of widths: one of a wire is a byte, and each
-- value has a bit.
pub record IsDump (wires : List Signal) (phases : List (List (List Bit))) (d : Printed) : Type 0 where
  pub text_is : d.text ≡ dump_text wires phases
  pub count_is : d.phases ≡ length phases
  pub widths : All (λ w. w.width < 256) wires
  pub values : All (All HasBits) phases

-- The text stands for signals with the paths `top.` and those of the wires, in order, at their widths. At each time a signal has the value
-- of its wire in the phase of this number, and behind the last phase the value in the last.
pub record IsDumpOf (wires : List Signal) (phases : List (List (List Bit))) (text : Text) : Type 0 where
  pub vars : List VcdVar
  pub changes : List Change
  pub wave : Wave text vars changes
  pub paths : map (λ v. v.path) vars ≡ map (λ w. codes "top." ++ w.path) wires
  pub widths : map (λ v. v.width) vars ≡ map (λ w. w.width) wires
  pub values : (n t : ℕ) (v : VcdVar) (values : List (List Bit)) (value : List Bit) → slice_get vars n ≡ Some v → slice_get phases (min t (length phases - 1)) ≡ Some values
      → slice_get values n ≡ Some value → value_at changes v t ≡ value
