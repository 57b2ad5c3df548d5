-- What a scan of the words behind the declarations holds, as the definitions see it: no scopes and no signals, and no changes, since it
-- hands on each.
use Rattle.std.specs.Prelude.{[], ◌∷◌, Option, None, Some}
use Rattle.vcd_text.specs.declared.mode.Rest.{Rest}
use Rattle.vcd_text.specs.declared.mode.Rest.TheVariants as rest
use Rattle.vcd_text.specs.declared.scan.Scan.{Scan}
use Rattle.vcd_text.specs.declared.scan.Step.{Step}
use Rattle.vcd_text.specs.declared.scan.Step.TheVariants as came
use Rattle.vcd_text.specs.declared.scan.WrittenChange.{WrittenChange}
use Rattle.vcd_text.specs.Forms.{bits_of, chain}
use Rattle.vcd_text.specs.Waves.{Told}
use Rattle.vcd_text.specs.Steps.{State, Wait, between, skipping, vector_code, real_code, behind, at}

abbrev pub rest_of : Rest → Wait
rest_of rest.Between = between
rest_of rest.Skipping = skipping
rest_of (rest.VectorCode digits) = vector_code digits.now
rest_of rest.RealCode = real_code

abbrev pub told_of : Scan → Told
told_of s = behind [] [] [] s.dumping s.time

abbrev pub state_of : Scan → State
state_of s = at (rest_of s.wait) (told_of s)

-- what is told by a change that is handed on, and was not told before
abbrev pub told_with : WrittenChange → State → Option State
told_with w s = chain (bits_of w.bits.now) (λ bits. Some (at s.wait (record s.told { changes = (record { time = w.time; code = w.code.now; bits = bits }) ∷ [] })))

-- what comes of a word, and what is waited for and was told then
abbrev pub stepped : Step → State → Option State
stepped came.Taken s = Some s
stepped (came.Change w) s = told_with w s
stepped came.Refused s = None
