use Rattle.svtv_selftest.specs.Texts.{goals_text}
use Rattle.svtv_selftest.proofs.Turns.{alone}
use Rattle.svtv_selftest.proofs.texts.goals_text.Goals as goal

pub returns : goal.returns
unfolding goals_text
returns c = alone c.new-text.result.items c.push_parts.new.text.items (goals_text c.args.count) c.new-text.ensures.items c.in_ok-push_parts.ensures
