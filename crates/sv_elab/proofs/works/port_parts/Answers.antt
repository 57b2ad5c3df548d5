use Rattle.std.proofs.Common.{sym, subst}
use Rattle.sv_tree.specs.declared.exprs.Expr.{Expr}
use Rattle.sv_names.specs.Names.{names_are}
use Rattle.sv_names.specs.Kinds.{layout_is}
use Rattle.sv_names.proofs.Sound.{sign_is}
use Rattle.sv_meaning.specs.Designs as d
use Rattle.sv_levels.specs.declared.tasks.Actual.{Actual}
use Rattle.sv_levels.specs.Tasks.{actual_is}
use Rattle.sv_elab.specs.Working.{JudgesWork}
use Rattle.sv_elab.proofs.works.port_parts.Goals as goal

pub returns-in_ok-expr-in-Named-clause-is : goal.returns-in_ok-expr-in-Named-clause-is
returns-in_ok-expr-in-Named-clause-is c = λ wires s.
    let at = names_are c.args.names.now in
    let x = layout_is c.args.layout.now in
    subst (λ (z : Actual). JudgesWork wires (d.port at c.args.way c.args.wire x (actual_is z)) c.args.made c.connected.new.arena c.connected.result) (sym c.in-Named.is)
    (subst (λ (z : Expr). JudgesWork wires (d.port at c.args.way c.args.wire x z) c.args.made c.connected.new.arena c.connected.result) c.in_ok-expr-in-Named.ensures (c.connected.ensures.is wires x s (sym c.requires.port.1) (sym (sign_is c.args.layout.now))))

pub returns-in-Written-clause-is : goal.returns-in-Written-clause-is
returns-in-Written-clause-is c = λ wires s.
    let at = names_are c.args.names.now in
    let x = layout_is c.args.layout.now in
    subst (λ (z : Actual). JudgesWork wires (d.port at c.args.way c.args.wire x (actual_is z)) c.args.made c.connected-in-Written.new.arena c.connected-in-Written.result) (sym c.in-Written.is)
    (c.connected-in-Written.ensures.is wires x s (sym c.requires.port.1) (sym (sign_is c.args.layout.now)))
