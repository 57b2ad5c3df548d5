-- What is made of what a rule reads is read where the rule reads, and refused where the rule refuses.
use Rattle.std.proofs.Common.{◌≡◌, ◌≢◌, List, Result, Ok, Err, subst}
use Rattle.sv_outside.specs.declared.text.Token.{Token}
use Rattle.sv_cursor.specs.declared.error.ParseErr.{ParseErr}
use Rattle.sv_cursor.specs.declared.error.ParseErr.TheVariants.{Memory}
use Rattle.sv_cursor.specs.Parsers.{Outcome, Reads}

pub failed_as : {A : Type 0} (start : Outcome A) (part : Result A ParseErr) (new : List Token) (z : ParseErr) → Reads start part new → (z ≢ Memory → part ≡ Err z) → Reads {A = A} start (Err z) new
failed_as start part new z r f = λ real. subst (λ x. Reads start x new) (f real) r real

pub read_as : {A : Type 0} (start : Outcome A) (part : Result A ParseErr) (new : List Token) (x : A) → Reads start part new → part ≡ Ok x → start ≡ Ok (x, new)
read_as start part new x r e = subst (λ y. Reads start y new) e r
