use Rattle.std.proofs.Common.{List, [], ◌∷◌, ◌++◌, ap, ◌∙◌}
use Rattle.std.proofs.lemmas.List.{take_all}
use Rattle.event_nets.specs.Tables.{store_of}
use Rattle.svex_shape.specs.Values.{Vector}
use Rattle.svtv_periods.specs.Invariants.{signals_in}
use Rattle.svtv_table.specs.declared.bound.Sample.{Sample}
use Rattle.svtv_invariants.proofs.Reading.{signals_more}
use Rattle.svtv_invariants.proofs.showing.signals.Goals as goal

pub samples-preserved : goal.samples-preserved
samples-preserved c =
    c.in_ok-push.ensures.ok
    ∙ ap (λ (v : Vector). c.samples.values ++ v ∷ []) c.signal.ensures
    ∙ signals_more c.args.samples.now (store_of c.args.state.now) c.samples.sample-index c.sample-item.result c.samples.values c.samples-test.true c.sample-item.is c.samples.invariant

pub returns : goal.returns
returns c = c.samples.invariant ∙ ap (λ (all : List Sample). signals_in all (store_of c.args.state.now)) (take_all c.samples.sample-index c.args.samples.now c.samples-test.false)
