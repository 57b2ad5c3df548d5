use Rattle.std.proofs.Common.{◌≡◌, ℕ, ◌*◌, ◌≤◌, List, length, cond, ap, subst, ◌∙◌, arith}
use Rattle.std.specs.Prelude.{IfOk}
use Rattle.std.proofs.lemmas.Result.{IfOk-from_err}
use Rattle.aig.specs.declared.gate.Lit.{Lit}
use Rattle.aig.specs.Graph.{holds}
use Rattle.aig.proofs.Values.{always_from}
use Rattle.aig_words.specs.declared.lists.Way.{Way}
use Rattle.aig_words.specs.Words.{number, Grew, IsWord, moved}
use Rattle.aig_words.proofs.Grown.{Grew-refl, moved_in, some_node, if_ok}
use Rattle.aig_words.proofs.Moves.{length-moved, number-moved}
use Rattle.aig_words.proofs.shifts.moved_if.Goals as goal

as_long : (way : Way) (k : ℕ) (a xs : List Lit) → k ≤ length a → xs ≡ moved way k a → length xs ≡ length a
as_long way k a xs le is = ap (λ (ys : List Lit). length ys) is ∙ length-moved way k a le

pub mux-requires-clause-some : goal.mux-requires-clause-some
mux-requires-clause-some c = omega (arith, c.requires.some, as_long c.args.way c.args.k c.args.a.now _ c.requires.within (c.deref.ensures.value ∙ c.in_ok-moved.ensures))

pub mux-requires-clause-same : goal.mux-requires-clause-same
mux-requires-clause-same c = as_long c.args.way c.args.k c.args.a.now _ c.requires.within (c.deref.ensures.value ∙ c.in_ok-moved.ensures) ∙ c.requires.same

pub mux-requires-clause-a_in : goal.mux-requires-clause-a_in
mux-requires-clause-a_in c = rw (c.deref.ensures.value, c.in_ok-moved.ensures)
    (moved_in c.args.aig.now c.args.way c.args.k c.args.a.now (some_node c.args.aig.now c.args.a.now c.requires.some c.requires.a_in) c.requires.way_in c.requires.a_in)

pub mux-requires-clause-b_in : goal.mux-requires-clause-b_in
mux-requires-clause-b_in c = c.requires.kept_in

pub mux-requires-clause-c_in : goal.mux-requires-clause-c_in
mux-requires-clause-c_in c = c.requires.condition_in

pub returns-clause-grew : goal.returns-clause-grew
returns-clause-grew c = subst (λ (n : ℕ). Grew (3 * n) c.args.aig.now c.mux.new.aig)
    (as_long c.args.way c.args.k c.args.a.now _ c.requires.within (c.deref.ensures.value ∙ c.in_ok-moved.ensures)) c.mux.ensures.grew

pub returns-clause-word : goal.returns-clause-word
returns-clause-word c = subst (λ (n : ℕ). IfOk c.mux.result (λ r. IsWord c.mux.new.aig n r.items))
    (as_long c.args.way c.args.k c.args.a.now _ c.requires.within (c.deref.ensures.value ∙ c.in_ok-moved.ensures)) c.mux.ensures.word

pub returns-clause-value : goal.returns-clause-value
returns-clause-value c = if_ok _ _ _ c.mux.ensures.value (λ r h. always_from _ _ h.graph (λ v o. h.obeyed v o ∙
    ap (λ n. cond (holds v c.args.condition) n (number v c.args.kept.now))
    (ap (λ (xs : List Lit). number v xs) (c.deref.ensures.value ∙ c.in_ok-moved.ensures) ∙ number-moved v c.args.way c.args.k c.args.a.now o.bottom c.requires.within)))

pub returns-in_err-moved-clause-grew : goal.returns-in_err-moved-clause-grew
returns-in_err-moved-clause-grew c = Grew-refl _ c.args.aig.now

pub returns-in_err-moved-clause-word : goal.returns-in_err-moved-clause-word
returns-in_err-moved-clause-word c = IfOk-from_err _ _ c.from_residual.ensures.0

pub returns-in_err-moved-clause-value : goal.returns-in_err-moved-clause-value
returns-in_err-moved-clause-value c = IfOk-from_err _ _ c.from_residual.ensures.0
