-- Refusals of texts.
use Rattle.std.specs.Prelude.{◌≡◌, ℕ, Result, Err}
use Rattle.sv_outside.specs.declared.refusal.Place.{Place}
use Rattle.sv_outside.specs.declared.refusal.Refusal.{Refusal}
use Rattle.vcd_text.specs.Steps.{State}

-- a refusal at a place
abbrev pub refused : ℕ → Place → Refusal
refused number place = record { number = number; place = place; count = 0 }

-- what comes of the words is the place of this refusal
abbrev pub IsRefusedAt : Result State Place → Refusal → Type 0
IsRefusedAt result r = (result ≡ Err r.place) × (r ≡ refused 47 r.place)
