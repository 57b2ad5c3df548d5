use Rattle.std.proofs.lemmas.Result.{IfOk-from_err}
use Rattle.std.proofs.Common.{refl}
use Rattle.svex_arena.proofs.Keeping.{extends_on}
use Rattle.sv_lower.proofs.Lowered.{if_ok}
use Rattle.sv_stores.proofs.Starting.{tells_pos, tells_neg, fits_pos, fits_neg}
use Rattle.sv_stores.proofs.start.edge_node.Goals as goal

pub binary-requires-clause-fits : goal.binary-requires-clause-fits
binary-requires-clause-fits c =
    fits_pos _ _ _ _ c.args.edge.wire _ _ _ _ c.in_ok-before.ensures.stays c.in_ok-low-in-Pos.ensures.stays c.in_ok-now.ensures.ok c.in_ok-before.ensures.ok c.in_ok-low-in-Pos.ensures.ok refl

pub binary-requires-in-Neg-clause-fits : goal.binary-requires-in-Neg-clause-fits
binary-requires-in-Neg-clause-fits c =
    fits_neg _ _ _ _ c.args.edge.wire _ _ _ _ c.in_ok-before.ensures.stays c.in_ok-low-in-Neg.ensures.stays c.in_ok-now.ensures.ok c.in_ok-before.ensures.ok c.in_ok-low-in-Neg.ensures.ok refl

pub returns-in_ok-low-in-Pos-clause-ok : goal.returns-in_ok-low-in-Pos-clause-ok
returns-in_ok-low-in-Pos-clause-ok c =
    if_ok _ _ _ c.binary.ensures.ok (λ n h.
    tells_pos _ _ _ _ _ c.args.edge _ _ _ _ _ _ c.in-Pos.is c.in_ok-before.ensures.stays c.in_ok-low-in-Pos.ensures.stays c.in_ok-now.ensures.ok c.in_ok-before.ensures.ok c.in_ok-low-in-Pos.ensures.ok h refl)

pub returns-in_ok-low-in-Neg-clause-ok : goal.returns-in_ok-low-in-Neg-clause-ok
returns-in_ok-low-in-Neg-clause-ok c =
    if_ok _ _ _ c.binary-in-Neg.ensures.ok (λ n h.
    tells_neg _ _ _ _ _ c.args.edge _ _ _ _ _ _ c.in-Neg.is c.in_ok-before.ensures.stays c.in_ok-low-in-Neg.ensures.stays c.in_ok-now.ensures.ok c.in_ok-before.ensures.ok c.in_ok-low-in-Neg.ensures.ok refl h refl)

pub returns-in_err-now-clause-ok : goal.returns-in_err-now-clause-ok
returns-in_err-now-clause-ok c = IfOk-from_err _ _ c.from_residual.ensures.0

pub returns-in_err-before-clause-ok : goal.returns-in_err-before-clause-ok
returns-in_err-before-clause-ok c = IfOk-from_err _ _ c.from_residual-in_err-before.ensures.0

pub returns-in_err-low-in-Pos-clause-ok : goal.returns-in_err-low-in-Pos-clause-ok
returns-in_err-low-in-Pos-clause-ok c = IfOk-from_err _ _ c.from_residual-in_err-low-in-Pos.ensures.0

pub returns-in_err-low-in-Neg-clause-ok : goal.returns-in_err-low-in-Neg-clause-ok
returns-in_err-low-in-Neg-clause-ok c = IfOk-from_err _ _ c.from_residual-in_err-low-in-Neg.ensures.0

pub returns-in_err-now-clause-stays : goal.returns-in_err-now-clause-stays
returns-in_err-now-clause-stays c = c.in_err-now.ensures.stays

pub returns-in_err-before-clause-stays : goal.returns-in_err-before-clause-stays
returns-in_err-before-clause-stays c = extends_on _ _ _ c.in_ok-now.ensures.stays c.in_err-before.ensures.stays

pub returns-in_err-low-in-Pos-clause-stays : goal.returns-in_err-low-in-Pos-clause-stays
returns-in_err-low-in-Pos-clause-stays c = extends_on _ _ _ (extends_on _ _ _ c.in_ok-now.ensures.stays c.in_ok-before.ensures.stays) c.in_err-low-in-Pos.ensures.stays

pub returns-in_err-low-in-Neg-clause-stays : goal.returns-in_err-low-in-Neg-clause-stays
returns-in_err-low-in-Neg-clause-stays c = extends_on _ _ _ (extends_on _ _ _ c.in_ok-now.ensures.stays c.in_ok-before.ensures.stays) c.in_err-low-in-Neg.ensures.stays

pub returns-in_ok-low-in-Pos-clause-stays : goal.returns-in_ok-low-in-Pos-clause-stays
returns-in_ok-low-in-Pos-clause-stays c = extends_on _ _ _ (extends_on _ _ _ (extends_on _ _ _ c.in_ok-now.ensures.stays c.in_ok-before.ensures.stays) c.in_ok-low-in-Pos.ensures.stays) c.binary.ensures.stays

pub returns-in_ok-low-in-Neg-clause-stays : goal.returns-in_ok-low-in-Neg-clause-stays
returns-in_ok-low-in-Neg-clause-stays c = extends_on _ _ _ (extends_on _ _ _ (extends_on _ _ _ c.in_ok-now.ensures.stays c.in_ok-before.ensures.stays) c.in_ok-low-in-Neg.ensures.stays) c.binary-in-Neg.ensures.stays
