use Rattle.std.proofs.Common.{◌≡◌, ◌∙◌, List, length, map, ap}
use Rattle.event_nets.specs.Tables.{store_of}
use Rattle.svex_shape.specs.Values.{Vector}
use Rattle.svtv_invariants.proofs.Reading.{shown_by}
use Rattle.svtv_runs.specs.Truths.{sampled}
use Rattle.svtv_invariants.proofs.showing.samples_from.Goals as goal

pub returns : goal.returns
returns c =
    let values : c.in_ok-values.values.items ≡ c.run_from.new.self.values = c.in_ok-values.ensures.items_if_clones_equal (λ x y h. h) ∙ c.samples.ensures in
    λ d e r h. c.from_vec.ensures
    ∙ shown_by (sampled r) c.args.bound.now.samples c.in_ok-values.values.items (ap (map (λ (v : Vector). length v)) values ∙ c.run_from.ensures.serves.values)
    (λ n k. ap (λ (z : List Vector). store_of z n k) values ∙ c.run_from.ensures.least d e r h n k)
