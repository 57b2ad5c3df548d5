use Rattle.std.proofs.Common.{◌≡◌, ℕ, ◌++◌, ◌∷◌, [], List, length, get_or, map, take, sym, ap, ◌∙◌, arith}
use Rattle.std.proofs.lemmas.Result.{IfOk-from_err}
use Rattle.std.proofs.lemmas.List.{length-replicate, map-append, take_all, take_more}
use Rattle.fourvec.specs.declared.Bit.TheVariants.{Unknown}
use Rattle.svex_shape.specs.Values.{Vector}
use Rattle.event_nets.proofs.make.unknowns.Goals as goal

pub loop-width-init : goal.loop-width-init
loop-width-init c = ap (λ (l : List Vector). map (λ (row : Vector). length row) l) c.new-values.ensures.items

pub unknown-requires-clause-some : goal.unknown-requires-clause-some
unknown-requires-clause-some c = (c.requires c.loop-width.width-index 0 (omega arith)).0

pub unknown-requires-clause-most : goal.unknown-requires-clause-most
unknown-requires-clause-most c = (c.requires c.loop-width.width-index 0 (omega arith)).1

pub loop-width-preserved : goal.loop-width-preserved
loop-width-preserved c =
    let widths = c.args.widths.now in
    let i = c.loop-width.width-index in
    let long : List Vector → List ℕ = λ l. map (λ (row : Vector). length row) l in
    let wide : length c.unknown.result ≡ get_or widths i 0 = ap (λ (row : Vector). length row) c.unknown.ensures ∙ length-replicate (get_or widths i 0) Unknown in
    ap long c.in_ok-push.ensures.items ∙ map-append (λ (row : Vector). length row) c.loop-width.values.items (c.unknown.result ∷ [])
    ∙ ap (λ (l : List ℕ). l ++ length c.unknown.result ∷ []) c.loop-width.invariant
    ∙ ap (λ (n : ℕ). take i widths ++ n ∷ []) wide
    ∙ sym (take_more widths i 0 (omega arith))

pub returns : goal.returns
returns c = c.loop-width.invariant ∙ take_all c.loop-width.width-index c.args.widths.now (omega arith)

pub returns-in_err-push : goal.returns-in_err-push
returns-in_err-push c = IfOk-from_err _ _ c.from_residual.ensures.0
