use Rattle.std.proofs.Common.{false, ap, ◌∙◌}
use Rattle.lhs_alias.specs.Joined.{widths_of}
use Rattle.svex_shape.specs.declared.shape.VarName.{VarName}
use Rattle.svex_shape.specs.declared.shape.Shape.TheVariants.{Var}
use Rattle.svex_arena.proofs.Keeping.{extends_self}
use Rattle.compose_rounds.proofs.Standing.{variable_wire, variable_stands, not_now}
use Rattle.compose_rounds.proofs.reaching.named.Goals as goal

pub wire_node-requires-clause-wire : goal.wire_node-requires-clause-wire
wire_node-requires-clause-wire c =
    variable_wire (widths_of c.args.joins.now) c.args.arena.now c.args.node c.in-Now.wire c.args.width c.requires.scene.arena c.requires.inner.there
    (c.requires.is ∙ ap (λ (x : VarName). Var x c.args.width) c.in-Now.is) c.requires.inner.mentions

pub returns-in_default : goal.returns-in_default
returns-in_default c =
    let s = c.args.scene.now in
    record {
      stands =
          variable_stands c.args.joins.now c.args.arena.now s.segments.eqs s.nodes.items s.settled.items false c.args.name.now c.args.width c.args.node c.requires.scene.arena c.requires.inner.there c.requires.is
          (not_now c.args.name.now c.in_default.not-Now) c.requires.inner.mentions;
      extends = extends_self c.args.arena.now;
      arena = c.requires.scene.arena;
    }
