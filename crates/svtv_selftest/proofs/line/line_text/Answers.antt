use Rattle.std.proofs.Common.{◌∙◌}
use Rattle.svtv_selftest.specs.Line.{counts_text, line_text}
use Rattle.svtv_selftest.proofs.Turns.{alone}
use Rattle.svtv_selftest.proofs.line.line_text.Goals as goal

pub returns : goal.returns
unfolding line_text
returns c =
    alone c.new-text.result.items c.push_parts.new.text.items (counts_text c.args.count c.count_of.result c.count_of-2.result c.count_of-3.result) c.new-text.ensures.items c.in_ok-push_parts.ensures
    ∙ λ i. counts_text c.args.count (c.count_of.ensures i) (c.count_of-2.ensures i) (c.count_of-3.ensures i)
