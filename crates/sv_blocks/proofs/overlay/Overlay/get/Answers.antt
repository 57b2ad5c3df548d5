use Rattle.std.proofs.Common.{◌∙◌, sym, ap, get_or, None}
use Rattle.wire_places.proofs.Laying.{laid_at}
use Rattle.sv_blocks.proofs.overlay.Overlay.get.Goals as goal

pub returns : goal.returns
returns c = c.copied.ensures ∙ c.get.ensures.value ∙ sym (laid_at c.self.inside.nodes.entries c.args.at) ∙ ap (λ xs. get_or xs c.args.at None) c.self.view_is
