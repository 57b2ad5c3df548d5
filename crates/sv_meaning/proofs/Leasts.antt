-- The least settling of a design.
use Rattle.std.proofs.Common.{ℕ, suc, refl, subst, Bool, true, false, List, [], ◌∷◌, map, cond}
use Rattle.settling.specs.Settling.{Store, value_at}
use Rattle.settling.specs.Least.{Under, More, Rises}
use Rattle.settling.proofs.Least.{least_exists, least_rises}
use Rattle.settling.proofs.Overriding.{overriding_rises}
use Rattle.settling.proofs.More.{more-append, more-store}
use Rattle.settling.proofs.Rounds.{under-refl}
use Rattle.sv_outside.specs.declared.text.Signal.{Signal}
use Rattle.sv_meaning.specs.Designs.{Design, Overriding, links_of, given_in, stimuli_from, overriding_from, has_wire, bits_of_wire}
use Rattle.sv_meaning.specs.Laws.{LeastSettlingExists, LeastSettlingRises, IsLess}
use Rattle.sv_meaning.proofs.Contributions.{contributions-rise}

stimulus-rises : (n : ℕ) (w : Signal) (b : Bool) (stim more : Store) → Under stim more
    → More (cond b (map (λ c. (c, value_at stim c)) (bits_of_wire n 0 w.width)) []) (cond b (map (λ c. (c, value_at more c)) (bits_of_wire n 0 w.width)) [])
stimulus-rises n w true stim more h = more-store (bits_of_wire n 0 w.width) stim more h
stimulus-rises n w false stim more h = tt

stimuli-rise : (n : ℕ) (all : List Signal) (stim more : Store) → Under stim more → More (stimuli_from n all stim) (stimuli_from n all more)
unfolding stimuli_from
stimuli-rise n [] stim more h = tt
stimuli-rise n (w ∷ all) stim more h = more-append _ _ _ _ (stimulus-rises n w w.input stim more h) (stimuli-rise (suc n) all stim more h)

setting-rises : (n : ℕ) (w : Signal) (b : Bool) (o p : Store) → Under o p
    → More (cond b (map (λ c. (c, value_at o c)) (bits_of_wire n 0 w.width)) []) (cond b (map (λ c. (c, value_at p c)) (bits_of_wire n 0 w.width)) [])
setting-rises n w true o p h = more-store (bits_of_wire n 0 w.width) o p h
setting-rises n w false o p h = tt

settings-rise : (n : ℕ) (all : List Signal) (o p : Overriding) → IsLess o p → More (overriding_from n all o) (overriding_from n all p)
unfolding overriding_from
settings-rise n [] o p h = tt
settings-rise n (w ∷ all) o p h =
    more-append _ _ _ _ (subst (λ l. More (cond (has_wire o.wires n) (map (λ c. (c, value_at o.values c)) (bits_of_wire n 0 w.width)) [])
    (cond (has_wire l n) (map (λ c. (c, value_at p.values c)) (bits_of_wire n 0 w.width)) [])) h.wires
    (setting-rises n w (has_wire o.wires n) o.values p.values h.values)) (settings-rise (suc n) all o p h)

less-refl : (o : Overriding) → IsLess o o
less-refl o = record { wires = refl; values = under-refl o.values }

more-given : (d : Design) (stim : Store) (o : Overriding) (prev more : Store) (p : Overriding) (before s t : Store)
    → Under stim more → IsLess o p → Under prev before → Under s t → More (given_in d stim o prev s) (given_in d more p before t)
more-given d stim o prev more p before s t h l k u =
    overriding_rises (links_of d.works) (overriding_from 0 d.wires o) (overriding_from 0 d.wires p) _ _ (settings-rise 0 d.wires o p l)
    (more-append _ _ _ _ (contributions-rise d prev s before t k u) (stimuli-rise 0 d.wires stim more h))

given-rises : (d : Design) (stim : Store) (o : Overriding) (prev : Store) → Rises (given_in d stim o prev)
given-rises d stim o prev s t h = more-given d stim o prev stim o prev s t (under-refl stim) (less-refl o) (under-refl prev) h

pub least_settling_exists : LeastSettlingExists
least_settling_exists d stim o prev = least_exists (links_of d.works) (given_in d stim o prev) (given-rises d stim o prev)

pub least_settling_rises : LeastSettlingRises
least_settling_rises d stim o prev more p before now later h l k e f =
    least_rises (links_of d.works) (given_in d stim o prev) (given_in d more p before) (given-rises d stim o prev) (given-rises d more p before)
    (λ s. more-given d stim o prev more p before s s h l k (under-refl s)) now later e f
