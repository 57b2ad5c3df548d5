use Rattle.std.proofs.lemmas.Result.{IfOk-from_err}
use Rattle.std.proofs.Common.{◌≡◌, ℕ, ◌+◌, ◌*◌, ◌<◌, ◌≤◌, arith}
use Rattle.std.proofs.Math.Nat.{mul-le-mul_right}
use Rattle.svex_shape.specs.Shapes.{width_at}
use Rattle.svex_arena.proofs.Keeping.{extends_self, extends_on}
use Rattle.svex_arena.proofs.Steps.{width-extends}
use Rattle.sv_lower.proofs.Pieces.{one_copy, copy_more}
use Rattle.sv_lower.proofs.parts.repeated.Goals as goal

pub loop-more-init : goal.loop-more-init
loop-more-init c = record { stays = extends_self _; made = one_copy _ _ c.requires.a }

one_more : (i w : ℕ) → (i + 1) * w ≡ i * w + w
one_more i w = grind arith

at_most : (i n w : ℕ) → i < n → (i + 1) * w ≤ n * w
at_most i n w h = mul-le-mul_right w (omega arith)

pub binary-requires-clause-fits : goal.binary-requires-clause-fits
binary-requires-clause-fits c =
    let i = c.loop-more.invariant in
    let kept = width-extends _ _ _ i.stays c.requires.a in
    let w = i.made.width in
    let m = at_most c.loop-more._more c.args.count (width_at c.args.arena.now c.args.a) c.loop-more-test.true in
    let e = one_more c.loop-more._more (width_at c.args.arena.now c.args.a) in
    let n = c.requires.most in
    omega arith

pub loop-more-preserved : goal.loop-more-preserved
loop-more-preserved c =
    let i = c.loop-more.invariant in
    let kept = width-extends _ _ _ i.stays c.requires.a in
    let w = i.made.width in
    let e = one_more c.loop-more._more (width_at c.args.arena.now c.args.a) in
    record {
      stays = extends_on _ _ _ i.stays c.binary.ensures.stays;
      made = copy_more _ _ _ _ _ _ _ _ i.stays c.requires.a i.made (omega arith) c.in_ok-node.ensures.ok;
    }

pub returns-in_err-node-clause-ok : goal.returns-in_err-node-clause-ok
returns-in_err-node-clause-ok c = IfOk-from_err _ _ c.from_residual.ensures.0
