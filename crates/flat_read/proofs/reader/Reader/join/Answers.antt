use Rattle.std.proofs.Common.{sym, ◌∙◌}
use Rattle.flat_net.specs.declared.flat.Join.{Join}
use Rattle.flat_lines.specs.Fits.{FitsJoin, join_words}
use Rattle.flat_lines.specs.Items.{a_join, join}
use Rattle.flat_lines.proofs.WholeLines.{join_form}
use Rattle.flat_read.proofs.Refusing.{none_refused, added_judged}
use Rattle.flat_read.proofs.reader.Reader.join.Goals as goal

pub returns-in-Some-clause-judged : goal.returns-in-Some-clause-judged
returns-in-Some-clause-judged c shown h =
    added_judged c.add_join.result Join a_join FitsJoin join_words join shown c.args.words.now.rest.now c.add_join.new.self c.in-Some.join join_form (sym c.in-Some.is ∙ c.in_ok-join.ensures) (c.add_join.ensures.judged shown h)

pub returns-in-None-clause-judged : goal.returns-in-None-clause-judged
returns-in-None-clause-judged c shown h = none_refused Join a_join FitsJoin join_words join shown c.args.words.now.rest.now join_form (sym c.in-None.is ∙ c.in_ok-join.ensures)
