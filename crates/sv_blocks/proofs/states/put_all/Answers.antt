use Rattle.std.proofs.lemmas.Result.{IfOk-from_err}
use Rattle.std.proofs.Common.{sym, subst}
use Rattle.sv_blocks.specs.Overlays.{Covers}
use Rattle.sv_blocks.proofs.states.put_all.Goals as goal

pub put_places-requires-clause-places : goal.put_places-requires-clause-places
put_places-requires-clause-places c = subst (λ xs. Covers xs c.args.puts.now) (sym c.as_slice.ensures) c.in_ok-places.ensures

pub returns-in_err-places-clause-nodes : goal.returns-in_err-places-clause-nodes
returns-in_err-places-clause-nodes c = IfOk-from_err _ _ c.from_residual.ensures.0

pub returns-in_err-places-clause-state : goal.returns-in_err-places-clause-state
returns-in_err-places-clause-state c = IfOk-from_err _ _ c.from_residual.ensures.0

pub returns-in_err-places-clause-kept : goal.returns-in_err-places-clause-kept
returns-in_err-places-clause-kept c = IfOk-from_err _ _ c.from_residual.ensures.0
