-- What goes over the changes of a text answers.
use Rattle.std.specs.Prelude.{◌≡◌, List, [], ◌∷◌, false, Option, None, Some, Result, Ok, Err}
use Rattle.sv_outside.specs.declared.refusal.Place.{Place}
use Rattle.vcd_text.specs.declared.scan.WrittenChange.{WrittenChange}
use Rattle.vcd_text.specs.declared.waves.VcdVar.{VcdVar}
use Rattle.vcd_text.specs.Words.{Text, past, words_from}
use Rattle.vcd_text.specs.Forms.{bits_of}
use Rattle.vcd_text.specs.Waves.{Change}
use Rattle.vcd_text.specs.Steps.{State, between, at, behind, outcome}

-- a change as it stands in the text
pub record IsWritten (w : WrittenChange) (c : Change) : Type 0 where
  pub time : w.time ≡ c.time
  pub code : w.code.now ≡ c.code
  pub bits : bits_of w.bits.now ≡ Some c.bits

-- the first of the changes, or that there is none
abbrev pub Gives : List Change → Option WrittenChange → List Change → Type 0
Gives left None more = left ≡ []
Gives left (Some w) more = (c : Change) × (left ≡ c ∷ more) × IsWritten w c

-- what comes of the words from a place on, behind declarations with these scopes and signals
abbrev pub outcome_of : List Text → List VcdVar → Place → Text → Result State Place
outcome_of scopes vars p text = outcome (past p text) (at between (behind scopes vars [] false 0)) (words_from p text)

-- the text may end behind them
abbrev pub EndsIn : List Text → List VcdVar → Place → Text → Type 0
EndsIn scopes vars p text = (s : State) × (outcome_of scopes vars p text ≡ Ok s)

-- reading stops at this place
abbrev pub BreaksIn : List Text → List VcdVar → Place → Text → Place → Type 0
BreaksIn scopes vars p text place = outcome_of scopes vars p text ≡ Err place
