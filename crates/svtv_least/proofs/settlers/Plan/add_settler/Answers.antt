use Rattle.std.proofs.Common.{ℕ, List, sym, subst}
use Rattle.event_sim.specs.Sims.{Fits}
use Rattle.svtv_least.specs.declared.settlers.Settler.{Settler}
use Rattle.svtv_least.specs.Running.{HaveOwnWires, AreFit}
use Rattle.svtv_least.proofs.Planning.{apart_more, fit_more}
use Rattle.svtv_least.proofs.settlers.Plan.add_settler.Goals as goal

pub returns-clause-fit : goal.returns-clause-fit
returns-clause-fit c =
    let flat = c.args.flat.now in
    let fits : Fits flat c.args.over c.in_ok-sim.sim = subst (λ (over : List ℕ). Fits flat over c.in_ok-sim.sim) c.as_slice.ensures c.in_ok-sim.ensures in
    subst (λ (z : List Settler). AreFit flat z) (sym c.in_ok-push.ensures.items) (fit_more flat c.args.self.now.settlers.items (record { over = c.args.over; sim = c.in_ok-sim.sim }) c.requires.fit fits)

pub returns-clause-apart : goal.returns-clause-apart
returns-clause-apart c =
    let made : Settler = record { over = c.args.over; sim = c.in_ok-sim.sim } in
    subst (λ (z : List Settler). HaveOwnWires z) (sym c.in_ok-push.ensures.items) (apart_more c.args.self.now.settlers.items made c.requires.apart c.requires.none)
