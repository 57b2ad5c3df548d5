use Rattle.std.proofs.Common.{sym}
use Rattle.svex_shape.specs.declared.shape.Shape.{Shape}
use Rattle.flat_text.specs.Lines.{shape_text}
use Rattle.flat_lines.specs.Fits.{FitsShape}
use Rattle.flat_lines.specs.Items.{a_node, node}
use Rattle.flat_lines.proofs.WholeLines.{node_form}
use Rattle.flat_read.proofs.Refusing.{none_refused, added_judged}
use Rattle.flat_read.proofs.Adding.{has_spot}
use Rattle.flat_read.proofs.reader.Reader.node.Goals as goal

pub returns-in-Some-clause-judged : goal.returns-in-Some-clause-judged
returns-in-Some-clause-judged c shown h =
    added_judged c.add_node.result Shape a_node FitsShape shape_text node shown c.args.words.now.rest.now c.add_node.new.self c.in-Some.shape node_form c.in-Some.ensures
    (c.add_node.ensures.judged shown h (has_spot c.in-Some.shape (node_form.gives c.args.words.now.rest.now c.in-Some.shape (sym c.in-Some.ensures)).1))

pub returns-in-None-clause-judged : goal.returns-in-None-clause-judged
returns-in-None-clause-judged c shown h = none_refused Shape a_node FitsShape shape_text node shown c.args.words.now.rest.now node_form c.in-None.ensures
