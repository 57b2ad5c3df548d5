use Rattle.std.proofs.Common.{List, [], ◌∷◌, ◌++◌, length, ap, ◌∙◌}
use Rattle.std.proofs.lemmas.List.{take_all}
use Rattle.svtv_table.specs.declared.bound.Sample.{Sample}
use Rattle.svex_shape.specs.Values.{Vector}
use Rattle.event_sim.specs.Sims.{store_of}
use Rattle.svtv_least.specs.Running.{sample_widths}
use Rattle.svtv_least.proofs.Setting.{all_x_long, lengths_more, pushed_unknown}
use Rattle.svtv_least.proofs.samples.blank_values.Goals as goal

pub samples-preserved : goal.samples-preserved
samples-preserved c =
    let s : Sample = c.sample-item.result in
    record {
      widths = lengths_more (λ (x : Sample). x.width) c.args.samples.now c.samples.sample-index s c.samples.values c.push.new.self c.unknown.result c.samples-test.true c.sample-item.is c.samples.invariant.widths (ap length c.unknown.ensures ∙ all_x_long s.width) c.in_ok-push.ensures.ok;
      unknown = λ n k. ap (λ (z : List Vector). store_of z n k) (c.in_ok-push.ensures.ok ∙ ap (λ (v : Vector). c.samples.values ++ v ∷ []) c.unknown.ensures) ∙ pushed_unknown c.samples.values s.width c.samples.invariant.unknown n k;
    }

pub returns-clause-widths : goal.returns-clause-widths
returns-clause-widths c = c.samples.invariant.widths ∙ ap sample_widths (take_all c.samples.sample-index c.args.samples.now c.samples-test.false)
