use Rattle.std.proofs.Common.{◌≡◌, [], length, get_or, sym, ap, ◌∙◌}
use Rattle.std.proofs.lemmas.List.{get_or_default}
use Rattle.svtv_least.proofs.Setting.{set_lengths, lengths}
use Rattle.svtv_least.proofs.samples.take_sample.Goals as goal

pub returns-clause-widths : goal.returns-clause-widths
returns-clause-widths c =
    let value : c.index-now-wire.result ≡ get_or c.args.now.now c.args.sample.now.wire [] = c.index-now-wire.is ∙ get_or_default c.args.now.now c.args.sample.now.wire c.index-now-wire.result [] c.requires.wire in
    ap lengths c.set.ensures ∙ set_lengths c.args.values.now c.args.at c.index-now-wire.result c.requires.at (ap length value ∙ sym c.requires.width)
