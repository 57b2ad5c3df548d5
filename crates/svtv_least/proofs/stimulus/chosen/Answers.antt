use Rattle.std.proofs.Common.{[], length, ap, ◌∙◌}
use Rattle.std.proofs.lemmas.List.{get_or_default}
use Rattle.fourvec.specs.Bits.{not_bit}
use Rattle.svex_shape.specs.Values.{Vector}
use Rattle.svtv_least.proofs.Setting.{each_long}
use Rattle.svtv_least.proofs.stimulus.chosen.Goals as goal

pub returns-then-flipped-clause-width : goal.returns-then-flipped-clause-width
returns-then-flipped-clause-width c =
    let value : Vector = c.index-choice-number.result in
    ap (λ (v : Vector). length v) c.not.ensures ∙ each_long not_bit value ∙ ap (λ (v : Vector). length v) (c.index-choice-number.is ∙ get_or_default c.args.choice.now c.args.number value [] c.requires)
