-- Events reach the least settling.
use Rattle.std.proofs.Common.{◌≡◌, ℕ, true, List, [], ◌∷◌, sym, ap, ◌∙◌, subst}
use mathlib.Core.Path.{fun_ext}
use Rattle.fourvec.specs.declared.Bit.TheVariants.{Unknown}
use Rattle.fourvec.specs.Bits.{bit_below}
use Rattle.settling.specs.Settling.{Store}
use Rattle.settling.specs.Least.{Under}
use Rattle.settling.specs.Events.{step, Net, event, all_unknown, after_events}
use Rattle.settling.proofs.Events.{events_raise, rest_is_least}
use Rattle.svex_arena.specs.Arenas.{IsArena}
use Rattle.flat_net.specs.declared.flat.Flat.{Flat}
use Rattle.flat_net.specs.Flats.{IsFlat, links_of, given_in, IsLeastSettling}
use Rattle.event_sim.specs.Steps.{IsReached}
use Rattle.flat_net.proofs.Leasts.{given-rises}

same-store : (s t : Store) → ((n k : ℕ) → s n k ≡ t n k) → s ≡ t
same-store s t h = fun_ext (λ n. fun_ext (λ k. h n k))

pub reached-none : (flat : Flat) (over : List ℕ) (stim prev now : Store) → ((n k : ℕ) → now n k ≡ Unknown) → IsReached flat over stim prev now
unfolding after_events
reached-none flat over stim prev now h = record { nets = []; is = same-store now all_unknown h }

pub reached-more : (flat : Flat) (over : List ℕ) (stim prev old new : Store) → IsReached flat over stim prev old → (net : Net)
    → ((n k : ℕ) → new n k ≡ event (links_of flat.joins) (given_in flat over stim prev) net old n k) → IsReached flat over stim prev new
unfolding after_events
reached-more flat over stim prev old new r net h = record {
  nets = net ∷ r.nets;
  is = same-store new (event (links_of flat.joins) (given_in flat over stim prev) net old) h
      ∙ ap (λ s. event (links_of flat.joins) (given_in flat over stim prev) net s) r.is;
}

pub reached-raises : (flat : Flat) → IsArena flat.arena → IsFlat flat → (over : List ℕ) (stim prev old new : Store) → IsReached flat over stim prev old → (net : Net)
    → ((n k : ℕ) → new n k ≡ event (links_of flat.joins) (given_in flat over stim prev) net old n k) → (n k : ℕ) → bit_below (old n k) (new n k) ≡ true
reached-raises flat i ok over stim prev old new r net h n k =
    let links = links_of flat.joins in
    let gives = given_in flat over stim prev in
    let up : Under old (event links gives net old) =
    subst (λ s. Under s (event links gives net s)) (sym r.is) (events_raise links gives (given-rises flat i ok over stim prev) r.nets net) in
    subst (λ x. bit_below (old n k) x ≡ true) (sym (h n k)) (up n k)

pub reached-rest : (flat : Flat) → IsArena flat.arena → IsFlat flat → (over : List ℕ) (stim prev now : Store) → IsReached flat over stim prev now
    → ((n k : ℕ) → step (links_of flat.joins) (given_in flat over stim prev) now n k ≡ now n k) → IsLeastSettling flat over stim prev now
reached-rest flat i ok over stim prev now r h =
    let links = links_of flat.joins in
    let gives = given_in flat over stim prev in
    let rest = subst (λ s. (n k : ℕ) → step links gives s n k ≡ s n k) r.is h in
    subst (λ s. IsLeastSettling flat over stim prev s) (sym r.is) (rest_is_least links gives (given-rises flat i ok over stim prev) r.nets (λ b. rest b.wire b.at))
