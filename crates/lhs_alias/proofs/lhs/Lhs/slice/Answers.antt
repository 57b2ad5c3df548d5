use Rattle.std.proofs.lemmas.Result.{IfOk-from_err}
use Rattle.std.proofs.Common.{◌≡◌, take, drop, arith}
use Rattle.std.proofs.lemmas.Grind.{common_steps, elements}
use Rattle.lhs_alias.specs.Segs.{lhs_bits, AreSegs}
use Rattle.lhs_alias.proofs.Lying.{lie-part}
use Rattle.lhs_alias.proofs.lhs.Lhs.slice.Goals as goal

pub returns-clause-lies : goal.returns-clause-lies
returns-clause-lies c =
    let segs : AreSegs c.from_vec.result = grind (arith, elements) in
    let part : lhs_bits c.from_vec.result ≡ take c.args.width (drop c.args.lo (lhs_bits c.args.self.now)) = grind (arith, common_steps) in
    λ widths. lie-part widths c.args.self.now c.from_vec.result c.args.lo c.args.width segs part

pub returns-in_err-parts-clause-bits : goal.returns-in_err-parts-clause-bits
returns-in_err-parts-clause-bits c = IfOk-from_err _ _ c.from_residual.ensures.0

pub returns-in_err-parts-clause-lies : goal.returns-in_err-parts-clause-lies
returns-in_err-parts-clause-lies c = IfOk-from_err _ _ c.from_residual.ensures.0

pub returns-in_err-parts-clause-segs : goal.returns-in_err-parts-clause-segs
returns-in_err-parts-clause-segs c = IfOk-from_err _ _ c.from_residual.ensures.0
