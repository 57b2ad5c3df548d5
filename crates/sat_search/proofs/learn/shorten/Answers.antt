use Rattle.std.proofs.Common.{◌≤◌, length, take, reverse, arith}
use Rattle.std.proofs.lemmas.Result.{IfOk-from_err}
use Rattle.sat_search.proofs.Shorter.{walk_start, walk_end}
use Rattle.sat_search.proofs.learn.shorten.Goals as goal

pub returns-in_err-drop_implied : goal.returns-in_err-drop_implied
returns-in_err-drop_implied c =
    let e = c.from_residual.ensures.0 in
    record {
      enough = IfOk-from_err _ _ e;
      traced = IfOk-from_err _ _ e;
    }

pub loop-next-init : goal.loop-next-init
loop-next-init c = record {
  most = omega arith;
  enough = walk_start c.args.store.now (length c.args.trail.now.values) c.args.left c.args.trail.now.entries c.args.seen.now c.args.hints.now.items c.requires.sound.tracks.apart c.requires.range c.requires.explains;
  traced = c.requires.traced;
}

pub returns-clause-enough : goal.returns-clause-enough
returns-clause-enough c =
    walk_end c.args.store.now c.loop-next.next (reverse (take c.args.left c.args.trail.now.entries)) c.args.trail.now.entries c.loop-next.seen c.loop-next.hints.items (omega (arith, c.loop-next-test.false)) c.loop-next.invariant.enough
