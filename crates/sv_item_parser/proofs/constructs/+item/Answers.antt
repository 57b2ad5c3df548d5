use Rattle.std.proofs.Common.{◌-◌, ap, sym, ◌∙◌, Err, arith}
use Rattle.sv_item_parser.proofs.ItemLevel.{no_item_begins, flat_begins, held_begins}
use Rattle.sv_item_parser.proofs.constructs.+item.Goals as goal

pub returns : goal.returns
returns t c = rw (held_begins c.args.depth (c.args.depth - 1) c.in-Some.opener c.args.tokens.now (omega arith) (sym c.item_next.ensures ∙ c.in-Some.is)) c.item_for.ensures

pub returns-then-depth-eq0 : goal.returns-then-depth-eq0
returns-then-depth-eq0 t c = rw (flat_begins c.args.depth c.in-Some.opener c.args.tokens.now (omega arith) (sym c.item_next.ensures ∙ c.in-Some.is)) c.flat_item.ensures

pub returns-in_default : goal.returns-in_default
returns-in_default t c = λ _. no_item_begins c.args.depth c.args.tokens.now (sym c.item_next.ensures ∙ c.in_default.is) ∙ ap Err (sym c.refuse.ensures)
