use Rattle.std.proofs.Common.{◌++◌, ◌∙◌, ap, subst, sym, length, None, length-set}
use Rattle.std.specs.Option.{option_to_list}
use Rattle.sat_state.specs.Lists.{TrailLists}
use Rattle.sat_state.specs.Trail.{Tracks}
use Rattle.sat_state.proofs.Trails.{tracks_pop}
use Rattle.sat_state.proofs.trail.Trail.pop.Goals as goal

pub returns-clause-tracks : goal.returns-clause-tracks
returns-clause-tracks c = tracks_pop c.self.inside.values.items c.self.inside.entries.items c.pop.new.self.items c.unwrap-e.result
    (c.pop.ensures.items ∙ ap (λ o. c.pop.new.self.items ++ option_to_list o) c.unwrap-e.ensures)
    (subst (λ (t : TrailLists). Tracks t.values t.entries) (sym c.self.view_is) c.requires.tracks)

pub returns-clause-width : goal.returns-clause-width
returns-clause-width c = length-set c.self.inside.values.items c.unwrap-e.result.dim.var None ∙ ap (λ (t : TrailLists). length t.values) c.self.view_is
