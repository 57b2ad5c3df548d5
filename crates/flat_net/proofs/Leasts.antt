-- A flat design has a least settling, and it rises with what wires are set to from outside and with the previous valuation.
use Rattle.std.proofs.Common.{ℕ, suc, Bool, true, false, List, [], ◌∷◌, map, cond}
use Rattle.settling.specs.Settling.{Store, value_at}
use Rattle.settling.specs.Least.{Under, More, Rises}
use Rattle.settling.proofs.Rounds.{under-refl}
use Rattle.settling.proofs.Least.{least_exists, least_rises}
use Rattle.settling.proofs.More.{more-append, more-store}
use Rattle.settling.proofs.Overriding.{overriding_rises}
use Rattle.sv_outside.specs.declared.text.Signal.{Signal}
use Rattle.svex_arena.specs.Arenas.{IsArena}
use Rattle.driver_resolve.specs.Drivers.{drivers_give, stimuli_from, overriding_from, has_wire, wire_bits, widths_of}
use Rattle.driver_resolve.proofs.Rising.{drivers_rise}
use Rattle.flat_net.specs.declared.flat.Flat.{Flat}
use Rattle.flat_net.specs.Flats.{IsFlat, links_of, given_in, IsLeastSettling}

stimulus-rises : (n w : ℕ) (b : Bool) (stim more : Store) → Under stim more
    → More (cond b (map (λ c. (c, value_at stim c)) (wire_bits n w)) []) (cond b (map (λ c. (c, value_at more c)) (wire_bits n w)) [])
stimulus-rises n w true stim more h = more-store (wire_bits n w) stim more h
stimulus-rises n w false stim more h = tt

stimuli-rise : (n : ℕ) (all : List Signal) (stim more : Store) → Under stim more → More (stimuli_from n all stim) (stimuli_from n all more)
unfolding stimuli_from
stimuli-rise n [] stim more h = tt
stimuli-rise n (s ∷ all) stim more h = more-append _ _ _ _ (stimulus-rises n s.width s.input stim more h) (stimuli-rise (suc n) all stim more h)

overriding-rises : (n : ℕ) (all : List Signal) (over : List ℕ) (stim more : Store) → Under stim more → More (overriding_from n all over stim) (overriding_from n all over more)
unfolding overriding_from
overriding-rises n [] over stim more h = tt
overriding-rises n (s ∷ all) over stim more h =
    more-append _ _ _ _ (stimulus-rises n s.width (has_wire over n) stim more h) (overriding-rises (suc n) all over stim more h)

-- with more before, now and outside there is more of each
more-given : (flat : Flat) → IsArena flat.arena → IsFlat flat → (over : List ℕ) (stim prev more before s t : Store)
    → Under stim more → Under prev before → Under s t → More (given_in flat over stim prev s) (given_in flat over more before t)
more-given flat i ok over stim prev more before s t h k u =
    overriding_rises (links_of flat.joins) (overriding_from 0 flat.wires over stim) (overriding_from 0 flat.wires over more) _ _
    (overriding-rises 0 flat.wires over stim more h)
    (more-append (drivers_give flat.arena flat.drivers (record { stim = stim; previous = prev; present = s })) (stimuli_from 0 flat.wires stim)
    (drivers_give flat.arena flat.drivers (record { stim = more; previous = before; present = t })) (stimuli_from 0 flat.wires more)
    (drivers_rise (widths_of flat.wires) flat.arena i flat.drivers _ _ ok.drivers k u) (stimuli-rise 0 flat.wires stim more h))

pub given-rises : (flat : Flat) → IsArena flat.arena → IsFlat flat → (over : List ℕ) (stim prev : Store) → Rises (given_in flat over stim prev)
given-rises flat i ok over stim prev s t h = more-given flat i ok over stim prev stim prev s t (under-refl stim) (under-refl prev) h

pub exists : (flat : Flat) → IsArena flat.arena → IsFlat flat → (over : List ℕ) (stim prev : Store) → (now : Store) × IsLeastSettling flat over stim prev now
exists flat i ok over stim prev = least_exists (links_of flat.joins) (given_in flat over stim prev) (given-rises flat i ok over stim prev)

pub rises : (flat : Flat) → IsArena flat.arena → IsFlat flat → (over : List ℕ) (stim prev more before now later : Store) → Under stim more → Under prev before
    → IsLeastSettling flat over stim prev now → IsLeastSettling flat over more before later → Under now later
rises flat i ok over stim prev more before now later h k e f =
    least_rises (links_of flat.joins) (given_in flat over stim prev) (given_in flat over more before) (given-rises flat i ok over stim prev)
    (given-rises flat i ok over more before) (λ s. more-given flat i ok over stim prev more before s s h k (under-refl s)) now later e f
