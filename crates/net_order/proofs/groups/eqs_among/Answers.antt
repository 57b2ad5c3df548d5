use Rattle.std.proofs.Common.{take_all, ap, ◌∙◌}
use Rattle.net_order.specs.Kept.{eqs_in}
use Rattle.std.proofs.lemmas.Result.{IfOk-from_err}
use Rattle.std.proofs.Common.{◌+◌, take, get_or, arith}
use Rattle.std.proofs.lemmas.List.{take_more}
use Rattle.net_order.proofs.Keeping.{eqs_more}
use Rattle.net_order.proofs.groups.eqs_among.Goals as goal

pub places-preserved : goal.places-preserved
places-preserved c =
    let i = c.places.place-index in
    let all = c.args.places.now in
    eqs_more c.args.nodes (take i all) (take (i + 1) all) c.places.numbers.items c.put_eq.new.numbers.items (get_or all i 0) (take_more all i 0 (omega arith)) c.places.invariant c.in_ok-put_eq.ensures

pub returns-in_err-put_eq : goal.returns-in_err-put_eq
returns-in_err-put_eq c = IfOk-from_err _ _ c.from_residual.ensures.0

pub returns : goal.returns
returns c = c.places.invariant ∙ ap (eqs_in c.args.nodes) (take_all c.places.place-index c.args.places.now c.places-test.false)
