-- Events on the valuations that a simulation holds.
use Rattle.std.proofs.Common.{◌≡◌, ℕ, true, List, [], length, get_or, refl, sym, ap, ◌∙◌, subst, inl, inr, arith}
use Rattle.std.proofs.lemmas.Bool.{cases_lt}
use Rattle.std.proofs.lemmas.List.{get_or_past}
use Rattle.fourvec.specs.declared.Bit.{Bit}
use Rattle.fourvec.specs.declared.Bit.TheVariants.{Zero, One, Unknown, Floating}
use Rattle.fourvec.specs.Bits.{bit_below}
use Rattle.settling.specs.Settling.{Store}
use Rattle.settling.specs.Least.{Under}
use Rattle.settling.specs.Events.{Net, event}
use Rattle.svex_arena.specs.Arenas.{IsArena}
use Rattle.svex_shape.specs.Values.{Vector}
use Rattle.flat_net.specs.declared.flat.Flat.{Flat}
use Rattle.flat_net.specs.Flats.{IsFlat, links_of, given_in}
use Rattle.event_sim.specs.declared.sim.Sim.{Sim}
use Rattle.event_nets.specs.Tables.{store_of, IsValuation}
use Rattle.event_sim.specs.Sims.{now_of, prev_of, stim_of, now_values, prev_values, stim_values}
use Rattle.event_sim.specs.Steps.{IsReached, IsOnTheWay}
use Rattle.event_sim.proofs.Settled.{reached-more, reached-raises}
use Rattle.event_sim.proofs.Passing.{as-many, width-at}

-- where events lead to a valuation, they lead there over the same stimulus and previous valuation, wherever these are held
pub on-the-way : (flat : Flat) (over : List ℕ) (old new : Sim) → stim_values new ≡ stim_values old → prev_values new ≡ prev_values old
    → IsReached flat over (stim_of old) (prev_of old) (now_of new) → IsOnTheWay flat over new
on-the-way flat over old new s p r =
    subst (λ (rows : List Vector). IsReached flat over (store_of rows) (prev_of new) (now_of new)) (sym s)
    (subst (λ (rows : List Vector). IsReached flat over (stim_of old) (store_of rows) (now_of new)) (sym p) r)

pub same-way : (flat : Flat) (over : List ℕ) (old new : Sim) → now_values new ≡ now_values old → stim_values new ≡ stim_values old → prev_values new ≡ prev_values old
    → IsOnTheWay flat over old → IsOnTheWay flat over new
same-way flat over old new n s p r =
    on-the-way flat over old new s p (subst (λ (rows : List Vector). IsReached flat over (stim_of old) (prev_of old) (store_of rows)) (sym n) r)

-- an event from a valuation to which events lead
pub way-more : (flat : Flat) (over : List ℕ) (old new : Sim) (net : Net) → stim_values new ≡ stim_values old → prev_values new ≡ prev_values old
    → ((n k : ℕ) → now_of new n k ≡ event (links_of flat.joins) (given_in flat over (stim_of old) (prev_of old)) net (now_of old) n k)
    → IsOnTheWay flat over old → IsOnTheWay flat over new
way-more flat over old new net s p h r = on-the-way flat over old new s p (reached-more flat over (stim_of old) (prev_of old) (now_of old) (now_of new) r net h)

pub way-rises : (flat : Flat) → IsArena flat.arena → IsFlat flat → (over : List ℕ) (old new : Sim) (net : Net)
    → ((n k : ℕ) → now_of new n k ≡ event (links_of flat.joins) (given_in flat over (stim_of old) (prev_of old)) net (now_of old) n k)
    → IsOnTheWay flat over old → Under (now_of old) (now_of new)
way-rises flat i ok over old new net h r = reached-raises flat i ok over (stim_of old) (prev_of old) (now_of old) (now_of new) r net h

pub under-itself : (s : Store) → Under s s
under-itself s n k = at (s n k)
  where
    at : (x : Bit) → bit_below x x ≡ true
    at Unknown = refl
    at Zero = refl
    at One = refl
    at Floating = refl

pub lengths-same : (widths : List ℕ) (old new : List Vector) → IsValuation widths old → IsValuation widths new → (length old ≡ length new) × ((n : ℕ) → length (get_or old n []) ≡ length (get_or new n []))
lengths-same widths old new v u =
    let many : length old ≡ length new = as-many widths old v ∙ sym (as-many widths new u) in (
      many,
      λ n. elim (cases_lt n (length widths)) [
        | inl lt ↦ width-at widths old v n lt ∙ sym (width-at widths new u n lt)
        | inr past ↦ ap (λ r. length r) (get_or_past old n [] (omega (arith, as-many widths old v, past)) ∙ sym (get_or_past new n [] (omega (arith, as-many widths new u, past))))
      ],
    )
