-- A simulation after steps.
use Rattle.std.proofs.Common.{◌≡◌, ℕ, List, [], ◌∷◌, sym, ap, ◌∙◌}
use mathlib.Core.Path.{fun_ext}
use Rattle.fourvec.specs.declared.Bit.TheVariants.{Unknown}
use Rattle.settling.specs.Events.{event, after_events}
use Rattle.flat_net.specs.declared.flat.Flat.{Flat}
use Rattle.flat_net.specs.Flats.{links_of, given_in}
use Rattle.event_sim.specs.declared.sim.Sim.{Sim}
use Rattle.event_nets.specs.Tables.{store_of}
use Rattle.event_sim.specs.Sims.{now_of, prev_of, stim_of, prev_values, stim_values}
use Rattle.event_sim.specs.Steps.{net_of, after_steps, IsAfter}

pub after-none : (flat : Flat) (over : List ℕ) (sim : Sim) → ((n k : ℕ) → now_of sim n k ≡ Unknown) → IsAfter flat over sim []
unfolding after_events
after-none flat over sim h n k = h n k

pub after-more : (flat : Flat) (over : List ℕ) (old new : Sim) (net : ℕ) (steps : List ℕ) → stim_values new ≡ stim_values old → prev_values new ≡ prev_values old
    → ((n k : ℕ) → now_of new n k ≡ event (links_of flat.joins) (given_in flat over (stim_of old) (prev_of old)) (net_of flat over net) (now_of old) n k)
    → IsAfter flat over old steps → IsAfter flat over new (net ∷ steps)
unfolding after_events
after-more flat over old new net steps s p h a n k =
    let same : now_of old ≡ after_steps flat over (stim_of old) (prev_of old) steps = fun_ext (λ i. fun_ext (λ j. a i j)) in
    h n k
    ∙ ap (λ t. event (links_of flat.joins) (given_in flat over (stim_of old) (prev_of old)) (net_of flat over net) t n k) same
    ∙ ap (λ rows. after_steps flat over (store_of rows) (prev_of old) (net ∷ steps) n k) (sym s)
    ∙ ap (λ rows. after_steps flat over (stim_of new) (store_of rows) (net ∷ steps) n k) (sym p)
