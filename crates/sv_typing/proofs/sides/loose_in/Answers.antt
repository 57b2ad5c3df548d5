use Rattle.std.proofs.Common.{◌∙◌, sym, arith}
use Rattle.sv_typing.proofs.Beside.{loose_at, none_loose, loose_goes, loose_ends, same_length}
use Rattle.sv_typing.proofs.sides.loose_in.Goals as goal

pub returns-then-is_loose : goal.returns-then-is_loose
returns-then-is_loose c = λ at h.
    loose_at at c.args.exprs.now c.args.parts.now c.parts.i c.index-exprs-i.result c.index-parts-i.result c.start.result h (omega arith) c.index-exprs-i.is c.index-parts-i.is (sym c.is_loose.ensures ∙ c.if-is_loose.true) (c.start.ensures at)

pub parts-preserved : goal.parts-preserved
parts-preserved c = loose_goes c.args.parts.now c.parts.i c.index-parts-i.result (omega arith) c.index-parts-i.is (sym c.is_loose.ensures ∙ c.if-is_loose.false) ∙ c.parts.invariant

pub returns : goal.returns
returns c = λ at h. none_loose at c.args.exprs.now c.args.parts.now h (sym c.parts.invariant ∙ loose_ends c.args.parts.now c.parts.i (let e = same_length at c.args.exprs.now c.args.parts.now h in omega arith))
