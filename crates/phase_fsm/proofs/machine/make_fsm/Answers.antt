use Rattle.std.proofs.Common.{◌∙◌, ℕ, List, length, Err, sym, subst, ap}
use Rattle.std.proofs.lemmas.Result.{err_from_is_err_and}
use Rattle.net_equations.specs.declared.group.ComposeErr.TheVariants.{LoopTooWide}
use Rattle.phase_fsm.specs.Machines.{IsMachine}
use Rattle.phase_fsm.specs.Sets.{AreNarrow, IsFirstWide}
use Rattle.phase_fsm.proofs.Setting.{same-error}
use Rattle.phase_fsm.proofs.machine.make_fsm.Goals as goal

-- src/machine.rt:123:17
pub returns-in_err-nodes-clause-wide : goal.returns-in_err-nodes-clause-wide
returns-in_err-nodes-clause-wide c = λ bits is.
    let p = err_from_is_err_and c.from_residual-in_err-nodes.result c.from_residual-in_err-nodes.ensures.1 in
    subst (λ (sets : List (List ℕ)). IsFirstWide c.args.flat sets bits) c.as_slice-2.ensures
    (c.all_nodes.ensures.wide bits (c.in_err-nodes.was ∙ ap Err (sym p.2 ∙ same-error p.0 (LoopTooWide bits) (sym p.1 ∙ is))))

-- src/machine.rt:111:1
pub returns-clause-machine : goal.returns-clause-machine
returns-clause-machine c = subst (λ (sets : List (List ℕ)). IsMachine c.args.flat sets c.all_nodes.new.flat.arena c.in_ok-nodes.nodes) c.as_slice-2.ensures c.in_ok-nodes.ensures.machine

-- src/machine.rt:111:1
pub returns-clause-narrow : goal.returns-clause-narrow
returns-clause-narrow c = subst (λ (sets : List (List ℕ)). AreNarrow c.args.flat sets (length sets)) c.as_slice-2.ensures c.in_ok-nodes.ensures.narrow
