use Rattle.std.proofs.Common.{sym, subst}
use Rattle.lhs_alias.specs.Segs.{lhs_bits}
use Rattle.lhs_alias.specs.Pairs.{FallTo}
use Rattle.sv_elab.specs.Working.{parts_bits}
use Rattle.sv_elab.proofs.Joining.{joins_to}
use Rattle.sv_elab.proofs.Reaching.{whole_lies, wire_falls}
use Rattle.sv_elab.proofs.joins.join_of.Goals as goal

pub returns : goal.returns
returns c = λ widths there some most lie below.
    let n = c.args.wire in
    let w = c.args.width in
    let child = c.in_ok-child.child in
    let bits = c.in_ok-parent.ensures.bits in
    joins_to widths n w c.args.parts.now child c.in_ok-parent.parent some c.in_ok-child.ensures bits (whole_lies widths n w child there some most c.in_ok-child.ensures) (c.in_ok-parent.ensures.lies widths lie)
    (subst (FallTo (lhs_bits child)) (sym bits) (wire_falls n w child (parts_bits c.args.parts.now) c.in_ok-child.ensures c.requires below))
