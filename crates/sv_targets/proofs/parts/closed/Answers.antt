use Rattle.std.proofs.Common.{List, length, ap, sym, ◌∙◌, subst}
use Rattle.lhs_alias.specs.declared.segs.Seg.{Seg}
use Rattle.lhs_alias.specs.Segs.{lhs_bits, AreSegs}
use Rattle.sv_targets.proofs.Spreading.{nonempty, runs_closed}
use Rattle.sv_targets.proofs.parts.closed.Goals as goal

pub returns : goal.returns
returns c = λ all h.
    runs_closed all c.args.end c.args.parts c.push.new.self c.args.run.now c.from_vec.result (nonempty c.is_empty.result (length c.args.run.now) c.is_empty.ensures c.if-is_empty.false) h
    (ap lhs_bits c.from_vec.ensures ∙ c.in_ok-segs.ensures.bits) (subst (λ (z : List Seg). AreSegs z) (sym c.from_vec.ensures) c.in_ok-segs.ensures.segs) c.in_ok-push.ensures.ok
