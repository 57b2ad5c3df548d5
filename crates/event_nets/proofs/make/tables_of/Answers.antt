use Rattle.std.proofs.lemmas.Result.{IfOk-from_err}
use Rattle.std.proofs.Common.{ℕ, ◌≤◌, List, sym, subst}
use Rattle.std.specs.Prelude.{All}
use Rattle.lhs_alias.specs.Pairs.{HaveOwnChildren}
use Rattle.flat_net.specs.declared.flat.Join.{Join}
use Rattle.flat_net.specs.Flats.{links_of}
use Rattle.event_nets.proofs.Making.{wires-narrow}
use Rattle.event_nets.proofs.make.tables_of.Goals as goal

pub join_all-requires-clause-widths : goal.join_all-requires-clause-widths
join_all-requires-clause-widths c =
    let P : List ℕ → Type 0 = All (λ width. (1 ≤ width) × (width ≤ 128)) in
    subst P (sym c.requires.widths) (wires-narrow c.args.flat.now.wires c.requires.flat.wires)

pub join_all-requires-clause-own_children : goal.join_all-requires-clause-own_children
join_all-requires-clause-own_children c = subst (λ (l : List Join). HaveOwnChildren (links_of l)) (sym c.as_slice.ensures) c.requires.flat.own_children

pub returns-in_err-joins-clause-tables : goal.returns-in_err-joins-clause-tables
returns-in_err-joins-clause-tables c = IfOk-from_err _ _ c.from_residual-in_err-joins.ensures.0

pub returns-in_err-joins-clause-told : goal.returns-in_err-joins-clause-told
returns-in_err-joins-clause-told c = IfOk-from_err _ _ c.from_residual-in_err-joins.ensures.0

pub returns-in_err-lay-clause-tables : goal.returns-in_err-lay-clause-tables
returns-in_err-lay-clause-tables c = IfOk-from_err _ _ c.from_residual.ensures.0

pub returns-in_err-lay-clause-told : goal.returns-in_err-lay-clause-told
returns-in_err-lay-clause-told c = IfOk-from_err _ _ c.from_residual.ensures.0
