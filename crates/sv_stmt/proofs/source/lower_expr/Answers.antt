use Rattle.std.proofs.Common.{◌∙◌}
use Rattle.sv_meaning.specs.Values.{mean}
use Rattle.sv_names.specs.Names.{names_are}
use Rattle.sv_lower.specs.declared.look.Look.TheVariants.{Present}
use Rattle.sv_lower.specs.Lowering.{look_read}
use Rattle.sv_lower.proofs.Sources.{assigned_worth, names_hold}
use Rattle.sv_stmt.proofs.source.lower_expr.Goals as goal

pub returns-in_ok-node-in-Ok-clause-value : goal.returns-in_ok-node-in-Ok-clause-value
returns-in_ok-node-in-Ok-clause-value c = λ bits.
    c.in_ok-node-in-Ok.ensures.value bits
    ∙ assigned_worth c.in-Ok.tree (mean (names_are c.args.names.now) c.args.expr.now) (look_read Present c.args.arena.now bits) c.args.width c.in-Ok.ensures.stands

pub returns-in_ok-node-in-Ok-clause-mentions : goal.returns-in_ok-node-in-Ok-clause-mentions
returns-in_ok-node-in-Ok-clause-mentions c = λ p h.
    c.in_ok-node-in-Ok.ensures.mentions p (names_hold (mean (names_are c.args.names.now) c.args.expr.now) c.in-Ok.tree c.args.arena.now p c.in-Ok.ensures.stands h)
