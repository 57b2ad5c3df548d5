use Rattle.std.proofs.Common.{ℕ, List, refl, sym, subst}
use Rattle.std.specs.List.{All}
use Rattle.lhs_alias.specs.Lies.{LieIn}
use Rattle.svex_shape.specs.Shapes.{width_at}
use Rattle.sv_names.specs.Names.{names_are}
use Rattle.sv_targets.specs.declared.parts.Part.{Part}
use Rattle.sv_targets.specs.Slots.{Slots, AreParts}
use Rattle.sv_elab.specs.Working.{Fills, IsWithin}
use Rattle.sv_elab.proofs.Supplying.{supply_value}
use Rattle.sv_elab.proofs.assigns.valued.Goals as goal

pub part_drivers-requires-clause-parts : goal.part_drivers-requires-clause-parts
part_drivers-requires-clause-parts c =
    subst (λ (z : List Part). All (IsWithin (width_at c.lower_expr.new.arena c.in_ok-node.node)) z) (sym c.as_slice.ensures) (subst (λ (w : ℕ). All (IsWithin w) c.args.target.now.parts) (sym c.in_ok-node.ensures.width) c.requires.parts)

pub returns-clause-is : goal.returns-clause-is
returns-clause-is c = λ f ts l.
    let widths = c.args.widths.now in
    let filled = subst (λ (z : List Part). (slots : Slots) → All (λ p. LieIn widths p.to) z → AreParts slots z → Fills widths c.lower_expr.new.arena c.part_drivers.new.arena c.in_ok-node.node slots c.in_ok-all.all) c.as_slice.ensures (c.in_ok-all.ensures.ok widths) in (
      c.in_ok-node.ensures.clear,
      supply_value (names_are c.args.names.now) c.args.value.now ts c.args.target.now f widths c.args.arena.now c.lower_expr.new.arena c.part_drivers.new.arena c.args.target.now.width c.in_ok-node.node c.in_ok-all.all c.requires.names l refl c.in_ok-node.ensures.value
          c.in_ok-node.ensures.mentions (λ slots a. filled slots c.requires.lie a),
    )
