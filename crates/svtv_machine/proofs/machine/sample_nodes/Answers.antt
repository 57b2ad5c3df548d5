use Rattle.std.proofs.Common.{◌≡◌, Err, refl, sym, ap, ◌∙◌}
use Rattle.std.proofs.lemmas.Result.{IfErr-at_err}
use Rattle.net_equations.specs.declared.group.ComposeErr.TheVariants.{LoopTooWide}
use Rattle.svtv_machine.proofs.machine.sample_nodes.Goals as goal

pub returns-in-Err-clause-wide : goal.returns-in-Err-clause-wide
returns-in-Err-clause-wide c = λ bits is d elaborated.
    let same : c.in-Err.error ≡ LoopTooWide bits = IfErr-at_err (λ e. c.in-Err.error ≡ e) is refl in
    c.machine_of.ensures.wide bits (c.in-Err.is ∙ ap Err same) d elaborated

pub returns-in-Err-clause-first : goal.returns-in-Err-clause-first
returns-in-Err-clause-first c = λ bits is.
    let same : c.in-Err.error ≡ LoopTooWide bits = IfErr-at_err (λ e. c.in-Err.error ≡ e) is refl in
    c.machine_of.ensures.first bits (c.in-Err.is ∙ ap Err same)

pub returns-in-Ok-unroll-clause-narrow : goal.returns-in-Ok-unroll-clause-narrow
returns-in-Ok-unroll-clause-narrow c = c.in-Ok.ensures.narrow

pub returns-in-Ok-unroll-clause-least : goal.returns-in-Ok-unroll-clause-least
returns-in-Ok-unroll-clause-least c = λ d elaborated. record {
  nodes = c.in-Ok-unroll.ensures.nodes;
  least = c.in-Ok-unroll.ensures.least d c.args.flat elaborated (sym c.in-Ok.ensures.wires) c.in-Ok.ensures.machine;
}
