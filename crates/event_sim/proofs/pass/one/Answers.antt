use Rattle.std.proofs.Common.{[], ◌∷◌, sym, ap, ◌∙◌}
use Rattle.event_nets.proofs.Reading.{one-zero, one-one, one-unknown, one-floating}
use Rattle.event_sim.proofs.pass.one.Goals as goal

pub returns-in-Zero : goal.returns-in-Zero
returns-in-Zero c = c.new.ensures ∙ one-zero ∙ ap (λ b. b ∷ []) (sym c.in-Zero.is)

pub returns-in-One : goal.returns-in-One
returns-in-One c = c.new-in-One.ensures ∙ one-one ∙ ap (λ b. b ∷ []) (sym c.in-One.is)

pub returns-in-Unknown : goal.returns-in-Unknown
returns-in-Unknown c = c.new-in-Unknown.ensures ∙ one-unknown ∙ ap (λ b. b ∷ []) (sym c.in-Unknown.is)

pub returns-in-Floating : goal.returns-in-Floating
returns-in-Floating c = c.new-in-Floating.ensures ∙ one-floating ∙ ap (λ b. b ∷ []) (sym c.in-Floating.is)
