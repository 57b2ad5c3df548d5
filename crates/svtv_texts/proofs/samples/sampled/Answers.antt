use Rattle.std.proofs.Common.{[], ◌∙◌, ap}
use Rattle.svtv_decide.proofs.Reading.{shown_is}
use Rattle.svtv_report.specs.Shown.{sample_texts}
use Rattle.svtv_report.specs.Texts.{value_lines}
use Rattle.svtv_texts.proofs.samples.sampled.Goals as goal

pub returns : goal.returns
returns c d elaborated r least =
    let samples = c.args.bound.now.samples in
    c.in_ok-text.ensures
    ∙ (ap (λ ss. value_lines [] (sample_texts ss) c.samples.result.now) c.as_slice.ensures
    ∙ ap (λ vs. value_lines [] (sample_texts samples) vs)
    (c.samples.ensures ∙ shown_is samples r c.run.new.self.values c.run.ensures.serves.values (c.run.ensures.least d elaborated r least)))
