use Rattle.std.proofs.Common.{◌∙◌, ap, get_or, None}
use Rattle.wire_places.proofs.Laying.{placed_apart}
use Rattle.wire_places.proofs.places.WirePlaces.put.Goals as goal

pub returns-clause-others : goal.returns-clause-others
returns-clause-others c = λ n apart. placed_apart c.self.inside.places.entries c.insert.new.self.entries c.args.wire c.args.place c.in_ok-insert.ensures.updates.2 n apart ∙ ap (λ xs. get_or xs n None) c.self.view_is
