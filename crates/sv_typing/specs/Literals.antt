-- Literals as code reads them.
use Rattle.sv_literal.specs.declared.meaning.LitErr.{LitErr}
use Rattle.sv_literal.specs.declared.meaning.LitErr.TheVariants.{Shape, Wide, Range}
use Rattle.sv_outside.specs.declared.refusal.Place.{Place}
use Rattle.sv_meaning.specs.Faults.{bad_token, bad_width, literal_range}
use Rattle.sv_outside.specs.declared.refusal.Refusal.{Refusal}

-- the refusal for each cause
abbrev pub refused : LitErr → Place → Refusal
refused Shape p = record { number = bad_token; place = p; count = 0 }
refused Wide p = record { number = bad_width; place = p; count = 0 }
refused Range p = record { number = literal_range; place = p; count = 0 }
