use Rattle.std.proofs.Common.{List, [], ◌∷◌, ◌++◌, sym, subst}
use Rattle.driver_resolve.specs.declared.driver.Driver.{Driver}
use Rattle.sv_tree.specs.declared.design.Way.TheVariants as ways
use Rattle.sv_names.specs.Names.{names_are}
use Rattle.sv_meaning.specs.Values.{mean}
use Rattle.sv_meaning.specs.Designs.{port_gives, wires_named}
use Rattle.sv_elab.specs.Working.{Supplies}
use Rattle.sv_elab.proofs.Reaching.{whole_lies}
use Rattle.sv_elab.proofs.Supplying.{supply_wire}
use Rattle.sv_elab.proofs.ports.input.Goals as goal

pub returns-clause-is : goal.returns-clause-is
returns-clause-is c = λ x e.
    let at = names_are c.args.names.now in
    let a = c.args.actual.now in (
      c.in_ok-value.ensures.clear,
      subst (λ (z : List Driver). Supplies c.args.widths.now (wires_named (mean at a).names) c.lower_expr.new.arena (port_gives ways.Input at c.args.port.wire x a) z) (sym c.in_ok-push.ensures.ok)
          (subst (λ (z : List Driver). Supplies c.args.widths.now (wires_named (mean at a).names) c.lower_expr.new.arena (port_gives ways.Input at c.args.port.wire x a) (z ++ record { target = c.in_ok-target.target; value = c.in_ok-value.value } ∷ [])) (sym c.new-all.ensures)
          (supply_wire at a c.args.widths.now c.args.arena.now c.lower_expr.new.arena c.args.port.wire c.args.port.width c.in_ok-value.value x c.in_ok-target.target c.requires.names e c.in_ok-target.ensures (whole_lies c.args.widths.now c.args.port.wire c.args.port.width c.in_ok-target.target c.requires.wire c.requires.some c.requires.most c.in_ok-target.ensures) c.in_ok-value.ensures.within
          c.in_ok-value.ensures.width c.in_ok-value.ensures.value c.in_ok-value.ensures.mentions)),
    )
