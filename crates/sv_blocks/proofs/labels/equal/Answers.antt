use Rattle.std.proofs.lemmas.Result.{IfOk-from_err}
use Rattle.std.proofs.Common.{◌≡◌, refl, subst, length, IfSome}
use Rattle.svex_shape.specs.Shapes.{width_at}
use Rattle.sv_blocks.proofs.Labeling.{fits_mask, fits_other, fits_both, equal_some}
use Rattle.sv_blocks.proofs.labels.equal.Goals as goal

pub binary-requires-clause-fits : goal.binary-requires-clause-fits
binary-requires-clause-fits c =
    fits_mask _ _ _ _ _ c.in_ok-mask-in-Some.ensures.stays c.requires.a c.in_ok-mask-in-Some.ensures.ok (subst (λ o. IfSome o (λ m. length m ≡ width_at c.args.arena.now c.args.a)) c.in-Some.is c.requires.mask)

pub binary-requires-in-Some-clause-fits : goal.binary-requires-in-Some-clause-fits
binary-requires-in-Some-clause-fits c =
    fits_other _ _ _ _ _ _ _ c.in_ok-mask-in-Some.ensures.stays c.in_ok-a-in-Some.ensures.stays c.requires.b c.requires.same c.in_ok-mask-in-Some.ensures.ok
    (subst (λ o. IfSome o (λ m. length m ≡ width_at c.args.arena.now c.args.a)) c.in-Some.is c.requires.mask)

pub binary-requires-in-Some-2-clause-fits : goal.binary-requires-in-Some-2-clause-fits
binary-requires-in-Some-2-clause-fits c =
    fits_both _ _ _ _ _ _ _ _ _ _ _ c.in_ok-mask-in-Some.ensures.stays c.in_ok-a-in-Some.ensures.stays c.in_ok-b-in-Some.ensures.stays c.requires.a c.requires.b c.requires.same refl refl
    c.in_ok-a-in-Some.ensures.ok c.in_ok-b-in-Some.ensures.ok

pub returns-in_ok-node-in-Some-clause-ok : goal.returns-in_ok-node-in-Some-clause-ok
returns-in_ok-node-in-Some-clause-ok c =
    equal_some _ _ _ _ _ _ _ _ _ _ _ _ _ _ _ _ c.in-Some.is refl c.requires.a c.requires.b c.in_ok-mask-in-Some.ensures.stays c.in_ok-a-in-Some.ensures.stays c.in_ok-b-in-Some.ensures.stays
    c.in_ok-mask-in-Some.ensures.ok c.in_ok-a-in-Some.ensures.ok c.in_ok-b-in-Some.ensures.ok c.in_ok-node-in-Some.ensures.ok

pub returns-in_err-a-in-Some-clause-ok : goal.returns-in_err-a-in-Some-clause-ok
returns-in_err-a-in-Some-clause-ok c = IfOk-from_err _ _ c.from_residual-in_err-a-in-Some.ensures.0

pub returns-in_err-b-in-Some-clause-ok : goal.returns-in_err-b-in-Some-clause-ok
returns-in_err-b-in-Some-clause-ok c = IfOk-from_err _ _ c.from_residual-in_err-b-in-Some.ensures.0

pub returns-in_err-mask-in-Some-clause-ok : goal.returns-in_err-mask-in-Some-clause-ok
returns-in_err-mask-in-Some-clause-ok c = IfOk-from_err _ _ c.from_residual.ensures.0

pub returns-in_err-node-in-None-clause-ok : goal.returns-in_err-node-in-None-clause-ok
returns-in_err-node-in-None-clause-ok c = IfOk-from_err _ _ c.from_residual-in_err-node-in-None.ensures.0

pub returns-in_err-node-in-Some-clause-ok : goal.returns-in_err-node-in-Some-clause-ok
returns-in_err-node-in-Some-clause-ok c = IfOk-from_err _ _ c.from_residual-in_err-node-in-Some.ensures.0
