use Rattle.std.proofs.Common.{◌≡◌, ◌++◌, ◌∷◌, [], map, sym, ap, ◌∙◌, subst}
use Rattle.std.specs.Prelude.{IfOk}
use Rattle.std.proofs.lemmas.Result.{IfOk-weaker, IfOk-from_err}
use Rattle.lhs_alias.specs.declared.segs.Seg.{Seg}
use Rattle.lhs_alias.specs.Segs.{lhs_bits}
use Rattle.lhs_alias.specs.Lies.{LieIn}
use Rattle.lhs_alias.specs.Joined.{widths_of, first_of}
use Rattle.net_order.specs.Rows.{IsFed, IsTold}
use Rattle.net_order.proofs.Telling.{whole-lies, told}
use Rattle.net_order.proofs.tellers.Tellers.of_wire.Goals as goal

pub canon-requires : goal.canon-requires
canon-requires c =
    let s : Seg = record { wire = c.args.wire; lo = 0; width = c.args.width } in
    subst (LieIn (widths_of c.args.joins.now)) (sym (c.from_vec-whole.ensures ∙ c.in_ok-push.ensures.items ∙ ap (λ l. l ++ s ∷ []) c.new-whole.ensures.items))
    (whole-lies (widths_of c.args.joins.now) c.args.wire c.args.width c.requires.some c.requires.most c.requires.wire)

pub returns : goal.returns
returns c =
    let s : Seg = record { wire = c.args.wire; lo = 0; width = c.args.width } in
    let segs = c.args.self.now.segs.items in
    let firsts = c.in_ok-firsts.firsts in
    let whole : c.from_vec-whole.result ≡ s ∷ [] = c.from_vec-whole.ensures ∙ c.in_ok-push.ensures.items ∙ ap (λ l. l ++ s ∷ []) c.new-whole.ensures.items in
    IfOk-weaker c.fed.result (λ row. IsFed segs c.args.nodes firsts row.items) (λ row. IsTold c.args.joins.now segs c.args.nodes c.args.wire row.items)
    (λ row f. told c.args.joins.now segs firsts c.args.nodes c.args.wire c.args.width row.items c.requires.can.whole c.in_ok-firsts.ensures.lies c.requires.wire
    (c.in_ok-firsts.ensures.firsts ∙ ap (λ l. map (first_of c.args.joins.now) (lhs_bits l)) whole) f)
    (subst (λ l. IfOk c.fed.result (λ row. IsFed segs c.args.nodes l row.items)) c.segs.ensures c.fed.ensures)

pub returns-in_err-firsts : goal.returns-in_err-firsts
returns-in_err-firsts c = IfOk-from_err _ _ c.from_residual-in_err-firsts.ensures.0

pub returns-in_err-push : goal.returns-in_err-push
returns-in_err-push c = IfOk-from_err _ _ c.from_residual.ensures.0
