-- What contracts see of a `Trail`.
use Rattle.std.specs.Prelude.{Bool, Option, List}
use Rattle.sat_state.specs.declared.trail.Assigned.{Assigned}

-- the value of each variable, and the literals that are false, the oldest first
pub record TrailLists : Type 0 where
  pub values : List (Option Bool)
  pub entries : List Assigned
