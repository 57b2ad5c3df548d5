use Rattle.std.proofs.Common.{◌∙◌, sym, ap, get_or, None}
use Rattle.wire_places.proofs.Laying.{laid_at}
use Rattle.wire_places.proofs.places.WirePlaces.get.Goals as goal

pub returns : goal.returns
returns c = c.copied.ensures ∙ c.get.ensures.value ∙ sym (laid_at c.self.inside.places.entries c.args.wire) ∙ ap (λ xs. get_or xs c.args.wire None) c.self.view_is
