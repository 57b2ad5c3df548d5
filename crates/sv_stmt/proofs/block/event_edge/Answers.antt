use Rattle.std.proofs.Common.{sym, ap, ◌∙◌}
use Rattle.sv_meaning.specs.Layouts.{find}
use Rattle.sv_names.specs.Names.{names_are}
use Rattle.sv_stmt.proofs.block.event_edge.Goals as goal

pub returns-in-Some : goal.returns-in-Some
returns-in-Some c =
    let at = names_are c.args.names.now in
    c.edge_in.ensures at c.in-Some.ensures.sound (sym (c.in-Some.ensures.is ∙ ap (λ n. find n at) c.bytes.ensures))
