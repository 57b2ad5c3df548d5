-- What a net needs: what is given to its classes.
use Rattle.std.specs.Prelude.{ℕ, ◌<◌, List, map, filter, Option, None, Some, IfSome, slice_index_or}
use Rattle.std.specs.declared.vec.Vec.{Vec}
use Rattle.std.specs.declared.alloc.Global.{Global}
use Rattle.event_nets.specs.declared.gift.Gift.{Gift}
use Rattle.event_nets.specs.declared.gift.Source.{Source}
use Rattle.event_nets.specs.declared.gift.Source.TheVariants.{Value, Stimulus}
use Rattle.event_nets.specs.Runs.{is_at}

-- ---- what is given to a net

abbrev pub gift_rows : List (Vec Gift Global) → List (List Gift)
gift_rows given = map (λ v. v.items) given

-- what is given to the first bits of the net whose lowest bit has this place, in order
abbrev pub given_to : List (Option ℕ) → List Gift → ℕ → List Gift
given_to lows gifts low = filter (λ g. is_at (slice_index_or lows g.to None) low) gifts

-- the node whose value is the source
abbrev pub node_of : Source → Option ℕ
node_of (Value k) = Some k
node_of (Stimulus n) = None

-- the node whose value is given, if it is one, has a number below this
abbrev pub IsRoot : ℕ → Gift → Type 0
IsRoot n g = IfSome (node_of g.from) (λ k. k < n)
