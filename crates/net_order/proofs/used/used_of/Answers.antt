use Rattle.std.proofs.Common.{◌≡◌, ◌++◌, ◌∷◌, [], false, length, get_or, refl, ap, ◌∙◌, subst, arith}
use Rattle.net_order.specs.Rows.{AreMarked}
use Rattle.net_order.proofs.Listing.{marked_more}
use Rattle.std.proofs.lemmas.Result.{IfOk-from_err}
use Rattle.net_order.proofs.used.used_of.Goals as goal

pub returns-in_err-places : goal.returns-in_err-places
returns-in_err-places c = IfOk-from_err _ _ c.from_residual.ensures.0

pub returns-in_err-push : goal.returns-in_err-push
returns-in_err-push c = IfOk-from_err _ _ c.from_residual-in_err-push.ensures.0

pub returns-in_err-put_marked : goal.returns-in_err-put_marked
returns-in_err-put_marked c = IfOk-from_err _ _ c.from_residual-in_err-put_marked.ensures.0

pub nodes-preserved : goal.nodes-preserved
nodes-preserved c =
    let marks = c.args.marks.now in
    let nodes = c.nodes.nodes.items in
    let places = c.nodes.places.items in
    let many : c.len.result ≡ length nodes = omega (arith, c.len.ensures, c.nodes.nodes.ok.0) in
    marked_more marks nodes places c.put_marked.new.nodes.items c.push.new.self.items c.nodes.node (get_or marks c.nodes.node false) c.nodes.invariant refl
    (c.in_ok-push.ensures.items ∙ ap (λ n. places ++ n ∷ []) many) c.in_ok-put_marked.ensures

pub returns : goal.returns
returns c =
    let all : c.nodes.node ≡ length c.args.marks.now = omega (arith, c.nodes-test.false, c.nodes.auto.node-end) in
    subst (AreMarked c.args.marks.now c.nodes.nodes.items c.nodes.places.items) all c.nodes.invariant
