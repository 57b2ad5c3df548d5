use Rattle.svtv_selftest.specs.Texts.{table_text}
use Rattle.svtv_selftest.proofs.Turns.{alone}
use Rattle.svtv_selftest.proofs.texts.table_text.Goals as goal

pub returns : goal.returns
unfolding table_text
returns c = alone c.new-text.result.items c.push_parts.new.text.items (table_text c.args.count) c.new-text.ensures.items c.in_ok-push_parts.ensures
