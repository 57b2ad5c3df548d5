use Rattle.std.proofs.Common.{map, length, arith, below_more, refl, ◌∙◌}
use Rattle.refute_check.proofs.Derivations.{known_below}
use Rattle.refute_check.proofs.checker.front.Goals as goal

pub follows-requires-clause-width : goal.follows-requires-clause-width
follows-requires-clause-width c =
    rw c.loop-k.invariant.clear
    (known_below (length c.args.marks.now) c.args.vars (map (λ v. v.items) c.args.clauses.now) c.args.steps.now c.loop-k.k c.requires.fits.steps (omega arith) c.requires.fits.clauses c.loop-k.invariant.derived)

pub loop-k-preserved : goal.loop-k-preserved
loop-k-preserved c = record {
  clear = c.follows.ensures.clear ∙ c.loop-k.invariant.clear;
  derived = below_more _ _ c.loop-k.invariant.derived (c.if-not-follows.ensures.answer.0 refl);
}
