-- Events: one net after another takes the resolution of what is given to it.
use Rattle.std.specs.Prelude.{◌≡◌, Bool, List, [], ◌∷◌, if◌then◌else◌}
use Rattle.fourvec.specs.declared.Bit.{Bit}
use Rattle.fourvec.specs.declared.Bit.TheVariants.{Unknown, Floating}
use Rattle.fourvec.specs.Bits.{res_bit, over}
use Rattle.lhs_alias.specs.declared.segs.WireBit.{WireBit}
use Rattle.lhs_alias.specs.Segs.{bit}
use Rattle.settling.specs.Settling.{Store, value_at, Link, given_to, SettlesBy}
use Rattle.settling.specs.Least.{Under, Giving, Rises, IsLeast}

-- the resolution, and X where nothing is given
abbrev pub resolved : List Bit → Bit
resolved [] = Unknown
resolved (y ∷ more) = over res_bit Floating (y ∷ more)

-- each bit with the resolution of what is given to its class in a valuation
abbrev pub step : List Link → Giving → Store → Store
step links gives s n k = resolved (given_to links (bit n k) (gives s))

-- the bits that an event sets
abbrev pub Net : Type 0
Net = WireBit → Bool

-- the net takes its resolution, and all else stays
abbrev pub event : List Link → Giving → Net → Store → Store
event links gives net s n k = if net (bit n k) then step links gives s n k else s n k

abbrev pub all_unknown : Store
all_unknown n k = Unknown

-- the valuation after events, the latest first, from X at every bit
unfoldable pub after_events : List Link → Giving → List Net → Store
after_events links gives [] = all_unknown
after_events links gives (net ∷ before) = event links gives net (after_events links gives before)

-- the valuation stays below every settling
abbrev pub EventsStayBelow : Type 0
EventsStayBelow = (links : List Link) (gives : Giving) → Rises gives → (nets : List Net)
    → (t : Store) → SettlesBy links (gives t) t → Under (after_events links gives nets) t

-- an event raises bits or changes nothing
abbrev pub EventsRaise : Type 0
EventsRaise = (links : List Link) (gives : Giving) → Rises gives → (nets : List Net) (net : Net)
    → Under (after_events links gives nets) (event links gives net (after_events links gives nets))

-- where no event on any bit changes anything more, that is the least settling
abbrev pub RestIsLeast : Type 0
RestIsLeast = (links : List Link) (gives : Giving) → Rises gives → (nets : List Net)
    → ((b : WireBit) → value_at (step links gives (after_events links gives nets)) b ≡ value_at (after_events links gives nets) b)
    → IsLeast links gives (after_events links gives nets)
