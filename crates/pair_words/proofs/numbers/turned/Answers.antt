use Rattle.std.proofs.lemmas.Result.{IfOk-from_err}
use Rattle.std.proofs.Common.{◌≡◌, ◌*◌, ◌<◌, List, length, sym, ap, subst, ◌∙◌, arith}
use Rattle.aig.specs.declared.gate.Lit.{Lit}
use Rattle.aig.specs.Graph.{holds}
use Rattle.aig.proofs.Growth.{Obeys-older}
use Rattle.aig_words.specs.Words.{number}
use Rattle.aig_words.proofs.Grown.{Grew-then, Grew-wider, IsIn-later, All-later, if_ok}
use Rattle.pair_words.proofs.Growing.{word_at, literals_at, if_both}
use Rattle.pair_words.proofs.Truths.{turned_is}
use Rattle.pair_words.proofs.numbers.turned.Goals as goal

pub opposite-requires-clause-some : goal.opposite-requires-clause-some
opposite-requires-clause-some c = c.requires.some

pub opposite-requires-clause-a_in : goal.opposite-requires-clause-a_in
opposite-requires-clause-a_in c = c.requires.a_in

pub mux-requires-clause-some : goal.mux-requires-clause-some
mux-requires-clause-some c =
    let a = c.args.a.now in
    let long : length c.deref.result.now ≡ length a = ap (λ (xs : List Lit). length xs) c.deref.ensures.value ∙ c.in_ok-other.ensures.word.long in
    subst (λ n. 0 < n) (sym long) c.requires.some

pub mux-requires-clause-same : goal.mux-requires-clause-same
mux-requires-clause-same c =
    let a = c.args.a.now in
    let long : length c.deref.result.now ≡ length a = ap (λ (xs : List Lit). length xs) c.deref.ensures.value ∙ c.in_ok-other.ensures.word.long in
    long

pub mux-requires-clause-c_in : goal.mux-requires-clause-c_in
mux-requires-clause-c_in c = IsIn-later c.args.aig.now c.opposite.new.aig c.args.c c.in_ok-other.ensures.grew.grows c.requires.c_in

pub mux-requires-clause-a_in : goal.mux-requires-clause-a_in
mux-requires-clause-a_in c = literals_at c.opposite.new.aig c.in_ok-other.other.items c.deref.result.now c.deref.ensures.value c.in_ok-other.ensures.word.inside

pub mux-requires-clause-b_in : goal.mux-requires-clause-b_in
mux-requires-clause-b_in c = All-later c.args.aig.now c.opposite.new.aig c.args.a.now c.in_ok-other.ensures.grew.grows c.requires.a_in

pub returns-in_err-other-clause-grew : goal.returns-in_err-other-clause-grew
returns-in_err-other-clause-grew c = Grew-wider (7 * length c.args.a.now) (10 * length c.args.a.now) c.args.aig.now c.opposite.new.aig (omega arith) c.in_err-other.ensures.grew

pub returns-clause-grew : goal.returns-clause-grew
returns-clause-grew c =
    let a = c.args.a.now in
    let long : length c.deref.result.now ≡ length a = ap (λ (xs : List Lit). length xs) c.deref.ensures.value ∙ c.in_ok-other.ensures.word.long in
    Grew-then (7 * length a) (3 * length c.deref.result.now) (10 * length a) c.args.aig.now c.opposite.new.aig _ (omega (arith, long)) c.in_ok-other.ensures.grew c.mux.ensures.grew

pub returns-clause-word : goal.returns-clause-word
returns-clause-word c =
    let a = c.args.a.now in
    let long : length c.deref.result.now ≡ length a = ap (λ (xs : List Lit). length xs) c.deref.ensures.value ∙ c.in_ok-other.ensures.word.long in
    if_ok c.mux.result _ _ c.mux.ensures.word (λ r h. word_at _ _ (length a) r.items long h)

pub returns-clause-value : goal.returns-clause-value
returns-clause-value c =
    let a = c.args.a.now in
    let long : length c.deref.result.now ≡ length a = ap (λ (xs : List Lit). length xs) c.deref.ensures.value ∙ c.in_ok-other.ensures.word.long in
    if_both c.mux.result _ _ _ c.mux.ensures.word c.mux.ensures.value (λ r w h v o.
    let o1 = Obeys-older v _ _ c.mux.ensures.grew.grows o in
    turned_is v a c.deref.result.now r.items (holds v c.args.c) (w.long ∙ long)
    (ap (λ (xs : List Lit). number v xs) c.deref.ensures.value ∙ c.in_ok-other.ensures.value v o1) (h.obeyed v o))

pub returns-in_err-other-clause-value : goal.returns-in_err-other-clause-value
returns-in_err-other-clause-value c = IfOk-from_err _ _ c.from_residual.ensures.0

pub returns-in_err-other-clause-word : goal.returns-in_err-other-clause-word
returns-in_err-other-clause-word c = IfOk-from_err _ _ c.from_residual.ensures.0
