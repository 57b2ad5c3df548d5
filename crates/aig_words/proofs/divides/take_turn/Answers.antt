use Rattle.std.proofs.Common.{◌≡◌, ℕ, ◌<◌, ◌+◌, ◌*◌, List, ◌∷◌, length, ap, sym, subst, ◌∙◌, arith, add-one}
use Rattle.std.specs.Prelude.{IfOk}
use Rattle.std.proofs.lemmas.Result.{IfOk-from_err}
use Rattle.std.proofs.lemmas.List.Elements.{All-cons}
use Rattle.aig.specs.declared.gate.Lit.{Lit}
use Rattle.aig.specs.Graph.{holds, IsIn}
use Rattle.aig.proofs.Values.{always_from}
use Rattle.aig_words.specs.Words.{IsWord, number, weight}
use Rattle.aig_words.proofs.Grown.{Grew-refl, if_ok}
use Rattle.aig_words.proofs.Numbers.{turn_with}
use Rattle.aig_words.proofs.divides.take_turn.Goals as goal

as_long : (l : Lit) (rest xs : List Lit) → xs ≡ l ∷ rest → length xs ≡ length rest + 1
as_long l rest xs is = ap (λ (ys : List Lit). length ys) is ∙ sym (add-one (length rest))

pub turn_over-requires-clause-some : goal.turn_over-requires-clause-some
turn_over-requires-clause-some c = omega (arith, as_long c.args.bit c.args.rest.now _ (c.deref.ensures.value ∙ c.in_ok-shifted.ensures))

pub turn_over-requires-clause-short : goal.turn_over-requires-clause-short
turn_over-requires-clause-short c = omega (arith, c.requires.short, as_long c.args.bit c.args.rest.now _ (c.deref.ensures.value ∙ c.in_ok-shifted.ensures))

pub turn_over-requires-clause-shifted_in : goal.turn_over-requires-clause-shifted_in
turn_over-requires-clause-shifted_in c = rw (c.deref.ensures.value, c.in_ok-shifted.ensures) (All-cons (IsIn c.args.aig.now) c.args.bit c.args.rest.now c.requires.bit_in c.requires.rest_in)

pub turn_over-requires-clause-b_in : goal.turn_over-requires-clause-b_in
turn_over-requires-clause-b_in c = c.requires.b_in

pub returns-clause-grew : goal.returns-clause-grew
returns-clause-grew c = c.turn_over.ensures.grew

pub returns-clause-bit_out : goal.returns-clause-bit_out
returns-clause-bit_out c = c.turn_over.ensures.bit_out

pub returns-clause-word : goal.returns-clause-word
returns-clause-word c = subst (λ (n : ℕ). IfOk c.turn_over.result (λ t. IsWord c.turn_over.new.aig n t.rest.items)) (as_long c.args.bit c.args.rest.now _ (c.deref.ensures.value ∙ c.in_ok-shifted.ensures)) c.turn_over.ensures.word

pub returns-clause-value : goal.returns-clause-value
returns-clause-value c = if_ok _ _ _ c.turn_over.ensures.value (λ t h. always_from _ _ h.graph (λ v o less.
    let nb = number v c.args.b.now in
    let taken = weight (holds v t.bit) * nb in
    let left = number v t.rest.items in
    turn_with v c.args.bit c.args.rest.now nb taken left less
    (subst (λ (xs : List Lit). number v xs < 2 * nb → (number v xs ≡ taken + left) × (left < nb)) (c.deref.ensures.value ∙ c.in_ok-shifted.ensures) (h.obeyed v o))))

pub returns-in_err-shifted-clause-grew : goal.returns-in_err-shifted-clause-grew
returns-in_err-shifted-clause-grew c = Grew-refl _ c.args.aig.now

pub returns-in_err-shifted-clause-bit_out : goal.returns-in_err-shifted-clause-bit_out
returns-in_err-shifted-clause-bit_out c = IfOk-from_err _ _ c.from_residual.ensures.0

pub returns-in_err-shifted-clause-word : goal.returns-in_err-shifted-clause-word
returns-in_err-shifted-clause-word c = IfOk-from_err _ _ c.from_residual.ensures.0

pub returns-in_err-shifted-clause-value : goal.returns-in_err-shifted-clause-value
returns-in_err-shifted-clause-value c = IfOk-from_err _ _ c.from_residual.ensures.0
