use Rattle.std.proofs.Common.{ℕ, ◌+◌, ◌*◌, ◌%◌, ◌^◌, List, length, cond, ap, sym, subst, ◌∙◌, arith}
use Rattle.std.specs.Prelude.{IfOk}
use Rattle.std.proofs.lemmas.Result.{IfOk-from_err}
use Rattle.aig.specs.declared.gate.Lit.{Lit}
use Rattle.aig.specs.Graph.{holds}
use Rattle.aig.proofs.Growth.{Obeys-older}
use Rattle.aig.proofs.Values.{always_from}
use Rattle.aig_words.specs.Words.{number, IsWord}
use Rattle.aig_words.proofs.Grown.{Grew-then, Grew-wider, All-later, if_ok}
use Rattle.aig_words.proofs.products.add_row.Goals as goal

pub add-requires-clause-some : goal.add-requires-clause-some
add-requires-clause-some c = omega (arith, c.requires.some, c.requires.as_total)

pub add-requires-clause-same : goal.add-requires-clause-same
add-requires-clause-same c = c.requires.as_total ∙ sym (ap (λ (xs : List Lit). length xs) c.deref.ensures.value ∙ c.in_ok-row.ensures.word.long)

pub add-requires-clause-a_in : goal.add-requires-clause-a_in
add-requires-clause-a_in c = All-later c.args.aig.now c.moved_if.new.aig c.args.total.now c.in_ok-row.ensures.grew.grows c.requires.total_in

pub add-requires-clause-b_in : goal.add-requires-clause-b_in
add-requires-clause-b_in c = rw c.deref.ensures.value c.in_ok-row.ensures.word.inside

pub returns-clause-grew : goal.returns-clause-grew
returns-clause-grew c =
    let l = length c.args.a.now in
    Grew-then (3 * l) (7 * length c.args.total.now) (10 * l) c.args.aig.now c.moved_if.new.aig _ (omega (arith, c.requires.as_total)) c.in_ok-row.ensures.grew c.add.ensures.grew

pub returns-clause-word : goal.returns-clause-word
returns-clause-word c = subst (λ (n : ℕ). IfOk c.add.result (λ r. IsWord c.add.new.aig n r.items)) c.requires.as_total c.add.ensures.word

pub returns-clause-value : goal.returns-clause-value
returns-clause-value c = if_ok _ _ _ c.add.ensures.value (λ r h. always_from _ _ h.graph (λ v o.
    let l = length c.args.a.now in
    let total = number v c.args.total.now in
    let row = c.in_ok-row.ensures.value.obeyed v (Obeys-older v _ _ c.add.ensures.grew.grows o) in
    h.obeyed v o ∙ ap (λ (xs : List Lit). (total + number v xs) % 2 ^ length c.args.total.now) c.deref.ensures.value ∙
    ap (λ n. (total + n) % 2 ^ length c.args.total.now) row ∙
    ap (λ n. (total + cond (holds v c.args.bit) ((number v c.args.a.now * 2 ^ c.args.k) % 2 ^ l) (number v c.args.none.now)) % 2 ^ n) c.requires.as_total))

pub returns-in_err-row-clause-grew : goal.returns-in_err-row-clause-grew
returns-in_err-row-clause-grew c = Grew-wider (3 * length c.args.a.now) (10 * length c.args.a.now) c.args.aig.now _ (omega arith) c.in_err-row.ensures.grew

pub returns-in_err-row-clause-word : goal.returns-in_err-row-clause-word
returns-in_err-row-clause-word c = IfOk-from_err _ _ c.from_residual.ensures.0

pub returns-in_err-row-clause-value : goal.returns-in_err-row-clause-value
returns-in_err-row-clause-value c = IfOk-from_err _ _ c.from_residual.ensures.0
