use Rattle.std.proofs.Common.{sym, ◌∙◌}
use Rattle.std.proofs.lemmas.Bool.{false≢true}
use Rattle.event_sim.proofs.Queueing.{without-none}
use Rattle.event_sim.proofs.queue.leave.Goals as goal

pub returns-else-has-clause-items : goal.returns-else-has-clause-items
returns-else-has-clause-items c = sym (without-none c.args.low c.args.waiting.now.items (λ h. false≢true (sym c.if-has.false ∙ c.has.ensures.1 h)))
