use Rattle.std.proofs.lemmas.Result.{IfOk-from_err}
use Rattle.std.proofs.Common.{arith}
use Rattle.std.proofs.lemmas.List.{length-replicate}
use Rattle.fourvec.specs.declared.Bit.TheVariants.{Unknown}
use Rattle.sv_lower.proofs.Pieces.{widths_kept, topped_some}
use Rattle.sv_lower.proofs.parts.topped.Goals as goal

pub binary-requires-clause-fits : goal.binary-requires-clause-fits
binary-requires-clause-fits c =
    let e = widths_kept _ _ _ _ _ c.unknown.ensures.stays c.requires.a (length-replicate c.args.count Unknown) c.in_ok-x.ensures.ok in
    let m = c.requires.most in
    omega arith

pub returns-clause-ok : goal.returns-clause-ok
returns-clause-ok c =
    let e = widths_kept _ _ _ _ _ c.unknown.ensures.stays c.requires.a (length-replicate c.args.count Unknown) c.in_ok-x.ensures.ok in
    topped_some _ _ _ _ _ _ _ _ c.unknown.ensures.stays c.requires.a c.in_ok-x.ensures.ok (omega arith) c.in_ok-node.ensures.ok

pub returns-in_err-node-clause-ok : goal.returns-in_err-node-clause-ok
returns-in_err-node-clause-ok c = IfOk-from_err _ _ c.from_residual-in_err-node.ensures.0

pub returns-in_err-x-clause-ok : goal.returns-in_err-x-clause-ok
returns-in_err-x-clause-ok c = IfOk-from_err _ _ c.from_residual.ensures.0
