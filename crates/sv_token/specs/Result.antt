-- What the lexer answers.
use Rattle.std.specs.Prelude.{◌≡◌, List, Result, Ok, Err}
use Rattle.sv_outside.specs.declared.refusal.Refusal.{Refusal}
use Rattle.sv_outside.specs.declared.refusal.TextErr.{TextErr}
use Rattle.sv_outside.specs.declared.refusal.TextErr.TheVariants.{No, Memory}

-- a refusal has this cause; want of memory says nothing
abbrev pub IfRefused : (Refusal → Type 0) → TextErr → Type 0
IfRefused Why (No refusal) = Why refusal
IfRefused Why Memory = Unit {0}

-- these tokens, or memory ran out
abbrev pub GivesOnly : {V T : Type 0} → (V → List T) → Result V TextErr → List T → Type 0
GivesOnly view (Ok v) tokens = view v ≡ tokens
GivesOnly view (Err (No refusal)) tokens = ⊥
GivesOnly view (Err Memory) tokens = Unit {0}
