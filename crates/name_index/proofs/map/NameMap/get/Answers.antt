use Rattle.std.proofs.Common.{◌∙◌}
use Rattle.name_index.specs.Under.{under}
use Rattle.name_index.proofs.map.NameMap.get.Goals as goal

pub returns : goal.returns
unfolding under
returns c = c.copied.ensures ∙ c.get.ensures.value
