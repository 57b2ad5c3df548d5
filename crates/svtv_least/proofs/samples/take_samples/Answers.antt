use Rattle.std.proofs.Common.{length, refl, ◌∙◌, subst, sym, arith}
use Rattle.std.proofs.lemmas.List.{length-map}
use Rattle.svex_shape.specs.Values.{Vector}
use Rattle.svtv_least.specs.Running.{IsOf}
use Rattle.event_sim.specs.Sims.{store_of}
use Rattle.svtv_least.proofs.Setting.{at_below, got_at, lengths, width_of_sample}
use Rattle.svtv_least.proofs.Taking.{taken_none, taken_more, taken_all}
use Rattle.svtv_least.proofs.samples.take_samples.Goals as goal

pub samples-init : goal.samples-init
samples-init c = record { widths = refl; taken = taken_none c.args.samples.now c.args.phase (store_of c.args.now.now) (store_of c.args.values.now) }

pub take_sample-requires-clause-at : goal.take_sample-requires-clause-at
take_sample-requires-clause-at c = at_below c.samples.values c.args.samples.now c.samples.at (c.samples.invariant.widths ∙ c.requires.widths) c.samples-test.true

pub take_sample-requires-clause-wire : goal.take_sample-requires-clause-wire
take_sample-requires-clause-wire c =
    let is = subst (IsOf (lengths c.args.now.now)) (sym c.index-samples-at.is) (c.requires.are_of c.samples.at c.index-samples-at.result c.samples-test.true) in
    omega (arith, is.wire, length-map c.args.now.now (λ (v : Vector). length v))

pub take_sample-requires-clause-width : goal.take_sample-requires-clause-width
take_sample-requires-clause-width c =
    let is = subst (IsOf (lengths c.args.now.now)) (sym c.index-samples-at.is) (c.requires.are_of c.samples.at c.index-samples-at.result c.samples-test.true) in
    width_of_sample c.samples.values c.args.now.now c.args.samples.now c.samples.at c.index-samples-at.result (c.samples.invariant.widths ∙ c.requires.widths) c.samples-test.true c.index-samples-at.is is

pub samples-preserved : goal.samples-preserved
samples-preserved c = record {
  widths = c.take_sample.ensures.widths ∙ c.samples.invariant.widths;
  taken = taken_more c.args.samples.now c.args.phase c.samples.at (store_of c.args.now.now) (store_of c.args.values.now) c.samples.values c.take_sample.new.values c.index-samples-at.result c.samples-test.true
      (got_at c.args.samples.now c.samples.at c.index-samples-at.result c.samples-test.true c.index-samples-at.is) c.samples.invariant.taken c.take_sample.ensures.same c.take_sample.ensures.taken;
}

pub returns-clause-taken : goal.returns-clause-taken
returns-clause-taken c = λ n k.
    c.samples.invariant.taken n k ∙ taken_all c.args.samples.now c.args.phase c.samples.at (store_of c.args.now.now) (store_of c.args.values.now) n k c.samples-test.false
