-- Words of settlings.
use Rattle.flat_net.specs.declared.flat.Flat.{Flat}
use Rattle.event_sim.specs.Sims.{Fits}
use Rattle.event_rows.specs.declared.settled.Settler.{Settler}

-- the simulation is one of the design where the wires that are kept with it are overridden
abbrev pub IsMadeFor : Flat → Settler → Type 0
IsMadeFor flat s = Fits flat s.over s.sim
