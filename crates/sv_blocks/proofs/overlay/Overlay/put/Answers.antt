use Rattle.std.proofs.Common.{◌∙◌, ap, get_or, None}
use Rattle.wire_places.proofs.Laying.{placed_here, placed_apart}
use Rattle.sv_blocks.proofs.overlay.Overlay.put.Goals as goal

pub returns-clause-here : goal.returns-clause-here
returns-clause-here c = placed_here c.self.inside.nodes.entries c.insert.new.self.entries c.args.at c.args.node c.in_ok-insert.ensures.updates.1

pub returns-clause-others : goal.returns-clause-others
returns-clause-others c = λ n apart. placed_apart c.self.inside.nodes.entries c.insert.new.self.entries c.args.at c.args.node c.in_ok-insert.ensures.updates.2 n apart ∙ ap (λ xs. get_or xs n None) c.self.view_is
