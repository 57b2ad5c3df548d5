use Rattle.std.proofs.Common.{◌∙◌}
use Rattle.sv_names.specs.Linked.{latest_of}
use Rattle.sv_names.proofs.links.Links.latest.Goals as goal

pub returns : goal.returns
unfolding latest_of
returns c = λ names linked. c.get.ensures ∙ linked.latest c.args.name.now
