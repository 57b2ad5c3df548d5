use Rattle.std.proofs.Common.{sym, ◌∙◌}
use Rattle.sv_cursor.proofs.Entries.{entry_more, entry_found, entry_none}
use Rattle.sv_cursor.proofs.sorts.keyword_in.Goals as goal

pub loop-table-preserved : goal.loop-table-preserved
loop-table-preserved c = entry_more _ c.args.text.now _ c.loop-table.table.now c.in-len1-up.len_at_least (sym c.same.ensures ∙ c.if-same.false) c.loop-table.invariant

pub returns-then-same : goal.returns-then-same
returns-then-same c = entry_found _ c.args.text.now _ c.loop-table.table.now c.in-len1-up.len_at_least (sym c.same.ensures ∙ c.if-same.true) c.loop-table.invariant

pub returns : goal.returns
returns c = entry_none c.args.text.now _ c.loop-table.table.now c.in_default.len_below c.loop-table.invariant
