use Rattle.std.proofs.lemmas.Result.{IfOk-from_err}
use Rattle.std.proofs.Common.{ℕ, ◌≤◌, List, sym, ap, ◌∙◌, subst}
use Rattle.std.specs.Prelude.{All}
use Rattle.driver_resolve.specs.Drivers.{widths_of}
use Rattle.event_nets.proofs.Making.{wires-narrow}
use Rattle.event_sim.proofs.sim.Sim.new.Goals as goal

pub tables_of-requires-clause-widths : goal.tables_of-requires-clause-widths
tables_of-requires-clause-widths c = c.deref.ensures.value ∙ c.in_ok-widths.ensures ∙ ap (λ l. widths_of l) c.as_slice.ensures

pub env_of-requires : goal.env_of-requires
env_of-requires c =
    let P : List ℕ → Type 0 = All (λ width. (1 ≤ width) × (width ≤ 128)) in
    subst P (sym (c.deref-3.ensures.value ∙ c.in_ok-widths.ensures ∙ ap (λ l. widths_of l) c.as_slice.ensures)) (wires-narrow c.args.flat.now.wires c.requires.wires)

pub returns-in_err-env : goal.returns-in_err-env
returns-in_err-env c = IfOk-from_err _ _ c.from_residual-in_err-env.ensures.0

pub returns-in_err-tables : goal.returns-in_err-tables
returns-in_err-tables c = IfOk-from_err _ _ c.from_residual-in_err-tables.ensures.0

pub returns-in_err-links : goal.returns-in_err-links
returns-in_err-links c = IfOk-from_err _ _ c.from_residual-in_err-links.ensures.0

pub returns-in_err-memo : goal.returns-in_err-memo
returns-in_err-memo c = IfOk-from_err _ _ c.from_residual-in_err-memo.ensures.0

pub returns-in_err-waiting : goal.returns-in_err-waiting
returns-in_err-waiting c = IfOk-from_err _ _ c.from_residual-in_err-waiting.ensures.0

pub returns-in_err-widths : goal.returns-in_err-widths
returns-in_err-widths c = IfOk-from_err _ _ c.from_residual.ensures.0
