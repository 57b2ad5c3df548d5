-- A connection by name is put behind those before it.
use Rattle.std.specs.Prelude.{◌≡◌, ◌⊎◌, true, false, List, [], ◌∷◌, ◌++◌, map, Result, Ok, Err}
use Rattle.sv_outside.specs.declared.refusal.TextErr.{TextErr}
use Rattle.sv_outside.specs.declared.refusal.TextErr.TheVariants.{No, Memory}
use Rattle.sv_tree.specs.declared.design.NamedPin.{NamedPin}
use Rattle.sv_meaning.specs.Faults.{port_twice, port_unknown}
use Rattle.sv_meaning.specs.Params.{pinned}
use Rattle.sv_modules.specs.declared.connect.Connection.{Connection}
use Rattle.sv_modules.specs.declared.name_set.NameSet.{NameSet}
use Rattle.sv_modules.specs.Connections.{connection_is}
use Rattle.sv_modules.specs.Naming.{Adds, holds}

-- its name is known and new, and is used now
pub record IsPut (known used : NameSet) (list : List Connection) (pin : NamedPin) (more : NameSet) (all : List Connection) : Type 0 where
  pub is_known : holds known pin.name.text ≡ true
  pub is_new : holds used pin.name.text ≡ false
  pub adds : Adds used (pin.name.text ∷ []) more
  pub all_is : map connection_is all ≡ map connection_is list ++ (pin.name.text, pinned pin.name pin.pin) ∷ []

-- or it is refused by the one or the other
abbrev pub PutsPin : NameSet → NameSet → List Connection → NamedPin → NameSet → List Connection → Result Unit TextErr → Type 0
PutsPin known used list pin more all (Ok u) = IsPut known used list pin more all
PutsPin known used list pin more all (Err (No r)) =
    ((holds known pin.name.text ≡ false) × (r ≡ record { number = port_unknown; place = pin.name.place; count = 0 }))
    ⊎ ((holds known pin.name.text ≡ true) × (holds used pin.name.text ≡ true) × (r ≡ record { number = port_twice; place = pin.name.place; count = 0 }))
PutsPin known used list pin more all (Err Memory) = Unit {0}
