-- Steps from X at every bit, each on a net by its number.
use Rattle.std.specs.Prelude.{◌≡◌, ℕ, suc, ◌<◌, ◌≤◌, List, [], ◌∷◌, length, map, slice_index_or}
use Rattle.lhs_alias.specs.Segs.{bit}
use Rattle.lhs_alias.specs.Joined.{all_bits}
use Rattle.settling.specs.Settling.{Store}
use Rattle.settling.specs.Least.{Under}
use Rattle.settling.specs.Events.{Net, event, after_events}
use Rattle.driver_resolve.specs.Drivers.{widths_of}
use Rattle.flat_net.specs.declared.flat.Flat.{Flat}
use Rattle.flat_net.specs.Flats.{links_of, given_in, Settles, IsLeastSettling}
use Rattle.event_sim.specs.declared.sim.Sim.{Sim}
use Rattle.event_nets.specs.Nets.{nets_of, net_bits}
use Rattle.event_sim.specs.Sims.{now_of, prev_of, stim_of}

-- the bits of the net of a number
abbrev pub net_of : Flat → List ℕ → ℕ → Net
net_of flat over k = net_bits flat over (slice_index_or (nets_of flat over) k (bit 0 0))

-- one step
abbrev pub stepped : Flat → List ℕ → Store → Store → ℕ → Store → Store
stepped flat over stim prev k now = event (links_of flat.joins) (given_in flat over stim prev) (net_of flat over k) now

-- the valuation after steps, the latest first
abbrev pub after_steps : Flat → List ℕ → Store → Store → List ℕ → Store
after_steps flat over stim prev steps = after_events (links_of flat.joins) (given_in flat over stim prev) (map (net_of flat over) steps)

-- the simulation has the valuation after these steps, over the stimulus and the previous valuation that it holds
abbrev pub IsAfter : Flat → List ℕ → Sim → List ℕ → Type 0
IsAfter flat over sim steps = (n at : ℕ) → now_of sim n at ≡ after_steps flat over (stim_of sim) (prev_of sim) steps n at

-- events lead to the valuation from X at every bit
pub record IsReached (flat : Flat) (over : List ℕ) (stim prev now : Store) : Type 0 where
  pub nets : List Net
  pub is : now ≡ after_events (links_of flat.joins) (given_in flat over stim prev) nets

-- the simulation has a valuation to which events lead over the stimulus and the previous valuation that it holds
abbrev pub IsOnTheWay : Flat → List ℕ → Sim → Type 0
IsOnTheWay flat over sim = IsReached flat over (stim_of sim) (prev_of sim) (now_of sim)

-- it stays below every settling
abbrev pub StepsStayBelow : Flat → List ℕ → Type 0
StepsStayBelow flat over = (stim prev : Store) (steps : List ℕ) (t : Store) → Settles flat over stim prev t → Under (after_steps flat over stim prev steps) t

-- a step raises bits or changes nothing
abbrev pub StepsRaise : Flat → List ℕ → Type 0
StepsRaise flat over = (stim prev : Store) (steps : List ℕ) (k : ℕ)
    → Under (after_steps flat over stim prev steps) (stepped flat over stim prev k (after_steps flat over stim prev steps))

-- where no step changes anything more, it is the least settling
abbrev pub RestIsLeast : Flat → List ℕ → Type 0
RestIsLeast flat over = (stim prev : Store) (steps : List ℕ)
    → ((k : ℕ) → k < length (nets_of flat over) → (n at : ℕ) → stepped flat over stim prev k (after_steps flat over stim prev steps) n at ≡ after_steps flat over stim prev steps n at)
    → IsLeastSettling flat over stim prev (after_steps flat over stim prev steps)

-- so many of the steps changed the valuation
pub data Changed (flat : Flat) (over : List ℕ) (stim prev : Store) : List ℕ → ℕ → Type 0 where
  none : Changed flat over stim prev [] 0
  stayed : {k : ℕ} {before : List ℕ} {count : ℕ} → Changed flat over stim prev before count
      → after_steps flat over stim prev (k ∷ before) ≡ after_steps flat over stim prev before → Changed flat over stim prev (k ∷ before) count
  rose : {k : ℕ} {before : List ℕ} {count : ℕ} → Changed flat over stim prev before count
      → (after_steps flat over stim prev (k ∷ before) ≡ after_steps flat over stim prev before → ⊥) → Changed flat over stim prev (k ∷ before) (suc count)

-- at most as many steps change it as there are bits
abbrev pub FewChange : Flat → List ℕ → Type 0
FewChange flat over = (stim prev : Store) (steps : List ℕ) (count : ℕ) → Changed flat over stim prev steps count → count ≤ length (all_bits (widths_of flat.wires))
