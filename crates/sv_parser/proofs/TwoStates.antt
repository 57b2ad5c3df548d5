-- Where reading stops, by what a reader answers.
use Rattle.std.proofs.Common.{◌≡◌, ◌≢◌, ℕ, Bool, false, List, Result, Ok, Err, IfOk, sym, ap, ◌∙◌}
use Rattle.sv_outside.specs.declared.text.Token.{Token}
use Rattle.sv_tree.specs.declared.design.Source.{Source}
use Rattle.sv_cursor.specs.declared.error.ParseErr.{ParseErr}
use Rattle.sv_cursor.specs.declared.error.ParseErr.TheVariants.{Memory, Syntax, TooDeep}
use Rattle.sv_cursor.specs.Parsers.{Outcome, Reads}
use Rattle.sv_parser.specs.TwoState.{stops_at_last, IsAtLast}

pub syntax_real : (left : ℕ) → Syntax left ≢ Memory
syntax_real left e = absurd (cc)

pub deep_real : (deep left : ℕ) → TooDeep deep left ≢ Memory
deep_real deep left e = absurd (cc)

pub goes_by : (outcome : Outcome Source) (x : Source) (new : List Token) → Reads outcome (Ok x) new → stops_at_last outcome ≡ false
goes_by outcome x new h = ap stops_at_last h

pub stops_by : {E : Type 0} → (outcome : Outcome Source) (refusal : ParseErr) (r : Result Bool E) (new : List Token) → Reads outcome (Err refusal) new → IsAtLast refusal r → IfOk r (λ b. b ≡ stops_at_last outcome)
stops_by outcome refusal (Ok b) new h a = a.1 ∙ sym (ap stops_at_last (h a.0))
stops_by outcome refusal (Err e) new h a = tt
