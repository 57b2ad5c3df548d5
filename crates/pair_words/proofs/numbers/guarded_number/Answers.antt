use Rattle.std.proofs.Common.{◌≡◌, ℕ, ◌+◌, ◌*◌, ◌≤◌, Bool, ◌&&◌, List, length, ap, ◌∙◌, arith}
use Rattle.std.proofs.lemmas.Result.{IfOk-weaker, IfOk-from_err}
use Rattle.aig.specs.declared.gate.Lit.{Lit}
use Rattle.aig.specs.Graph.{holds}
use Rattle.aig.proofs.Growth.{Obeys-older}
use Rattle.aig_words.specs.Words.{Grew, number}
use Rattle.aig_words.proofs.Grown.{Grew-then, Grew-wider, All-later, IsIn-later}
use Rattle.pair_words.specs.Rails.{bits}
use Rattle.pair_words.specs.Truths.{truths, number_value, number_width, is_defined}
use Rattle.pair_words.proofs.Growing.{vector_at, literals_at}
use Rattle.pair_words.proofs.Truths.{guarded_by, narrow}
use Rattle.pair_words.proofs.numbers.guarded_number.Goals as goal

pub returns-clause-value : goal.returns-clause-value
returns-clause-value c = IfOk-weaker c.guarded.result _ _ (λ r h v o.
    let op = c.args.op in
    let a = c.args.a.now in
    let b = c.args.b.now in
    let w : List Lit = c.deref.result.now in
    let o3 = Obeys-older v _ _ c.guarded.ensures.grew.grows o in
    let o2 = Obeys-older v _ _ c.in_ok-word.ensures.grew.grows o3 in
    let o1 = Obeys-older v _ _ c.in_ok-all.ensures.grows o2 in
    let fine = c.in_ok-fine.ensures.value v o1 in
    guarded_by (holds v c.args.c) (is_defined op (number v b)) (holds v c.in_ok-all.all) (truths v w) (number_value op (truths v a) (truths v b)) (bits v r.items) (length w) (number_width op (length a))
    (c.in_ok-all.ensures.value.obeyed v o2 ∙ ap (λ (t : Bool). holds v c.args.c && t) fine)
    (λ d. ap (λ (t : List Lit). truths v t) c.deref.ensures.value ∙ c.in_ok-word.ensures.value v o3 d)
    (ap (λ (t : List Lit). length t) c.deref.ensures.value ∙ c.in_ok-word.ensures.word.long)
    (h v o)) c.guarded.ensures.value

pub returns-clause-word : goal.returns-clause-word
returns-clause-word c = IfOk-weaker c.guarded.result _ _ (λ r h. vector_at _ _ (number_width c.args.op (length c.args.a.now)) r.items
    (ap (λ (t : List Lit). length t) c.deref.ensures.value ∙ c.in_ok-word.ensures.word.long) h) c.guarded.ensures.word

pub returns-clause-grew : goal.returns-clause-grew
returns-clause-grew c =
    let n : ℕ = length c.args.a.now in
    let old = c.args.aig.now in
    let same : n ≡ length c.args.b.now = c.requires.same in
    let s : Grew 1 _ _ = record { grows = c.in_ok-all.ensures.grows; nodes = c.in_ok-all.ensures.nodes; flat = c.in_ok-all.ensures.flat } in
    let g2 = Grew-then (4 * length c.args.b.now) 1 (4 * n + 1) old _ _ (omega (arith, same)) c.in_ok-fine.ensures.grew s in
    let g3 = Grew-then (4 * n + 1) (100 * n * n) (100 * n * n + 4 * n + 1) old _ _ (omega arith) g2 c.in_ok-word.ensures.grew in
    let few : length c.deref.result.now ≤ n = omega (arith, ap (λ (t : List Lit). length t) c.deref.ensures.value ∙ c.in_ok-word.ensures.word.long, narrow c.args.op n c.requires.some) in
    Grew-then (100 * n * n + 4 * n + 1) (2 * length c.deref.result.now) (100 * n * n + 6 * n + 1) old _ _ (omega (arith, few)) g3 c.guarded.ensures.grew

pub returns-in_err-word-clause-grew : goal.returns-in_err-word-clause-grew
returns-in_err-word-clause-grew c =
    let n : ℕ = length c.args.a.now in
    let old = c.args.aig.now in
    let same : n ≡ length c.args.b.now = c.requires.same in
    let s : Grew 1 _ _ = record { grows = c.in_ok-all.ensures.grows; nodes = c.in_ok-all.ensures.nodes; flat = c.in_ok-all.ensures.flat } in
    let g2 = Grew-then (4 * length c.args.b.now) 1 (4 * n + 1) old _ _ (omega (arith, same)) c.in_ok-fine.ensures.grew s in
    Grew-then (4 * n + 1) (100 * n * n) (100 * n * n + 6 * n + 1) old _ _ (omega arith) g2 c.in_err-word.ensures.grew

pub returns-in_err-all-clause-grew : goal.returns-in_err-all-clause-grew
returns-in_err-all-clause-grew c =
    let n : ℕ = length c.args.a.now in
    let old = c.args.aig.now in
    let same : n ≡ length c.args.b.now = c.requires.same in
    let s : Grew 1 _ _ = record { grows = c.in_err-all.ensures.grows; nodes = c.in_err-all.ensures.nodes; flat = c.in_err-all.ensures.flat } in
    Grew-then (4 * length c.args.b.now) 1 (100 * n * n + 6 * n + 1) old _ _ (omega (arith, same)) c.in_ok-fine.ensures.grew s

pub returns-in_err-fine-clause-grew : goal.returns-in_err-fine-clause-grew
returns-in_err-fine-clause-grew c =
    let n : ℕ = length c.args.a.now in
    let old = c.args.aig.now in
    let same : n ≡ length c.args.b.now = c.requires.same in
    Grew-wider (4 * length c.args.b.now) (100 * n * n + 6 * n + 1) _ _ (omega (arith, same)) c.in_err-fine.ensures.grew

pub computed-requires-clause-a_in : goal.computed-requires-clause-a_in
computed-requires-clause-a_in c = All-later c.defined.new.aig _ c.args.a.now c.in_ok-all.ensures.grows (All-later c.args.aig.now c.defined.new.aig c.args.a.now c.in_ok-fine.ensures.grew.grows c.requires.a_in)

pub computed-requires-clause-b_in : goal.computed-requires-clause-b_in
computed-requires-clause-b_in c = All-later c.defined.new.aig _ c.args.b.now c.in_ok-all.ensures.grows (All-later c.args.aig.now c.defined.new.aig c.args.b.now c.in_ok-fine.ensures.grew.grows c.requires.b_in)

pub defined-requires-clause-some : goal.defined-requires-clause-some
defined-requires-clause-some c = let some = c.requires.some in omega (arith, some, c.requires.same)

pub defined-requires-clause-b_in : goal.defined-requires-clause-b_in
defined-requires-clause-b_in c = c.requires.b_in

pub and-requires-clause-a_in : goal.and-requires-clause-a_in
and-requires-clause-a_in c = IsIn-later c.args.aig.now c.defined.new.aig c.args.c c.in_ok-fine.ensures.grew.grows c.requires.c_in

pub and-requires-clause-b_in : goal.and-requires-clause-b_in
and-requires-clause-b_in c = c.in_ok-fine.ensures.within

pub computed-requires-clause-some : goal.computed-requires-clause-some
computed-requires-clause-some c = c.requires.some

pub computed-requires-clause-same : goal.computed-requires-clause-same
computed-requires-clause-same c = c.requires.same

pub guarded-requires-clause-c_in : goal.guarded-requires-clause-c_in
guarded-requires-clause-c_in c = IsIn-later c.and.new.self c.computed.new.aig c.in_ok-all.all c.in_ok-word.ensures.grew.grows c.in_ok-all.ensures.within

pub guarded-requires-clause-word_in : goal.guarded-requires-clause-word_in
guarded-requires-clause-word_in c = literals_at c.computed.new.aig c.in_ok-word.word.items c.deref.result.now c.deref.ensures.value c.in_ok-word.ensures.word.inside

pub returns-in_err-all-clause-value : goal.returns-in_err-all-clause-value
returns-in_err-all-clause-value c = IfOk-from_err _ _ c.from_residual-in_err-all.ensures.0

pub returns-in_err-all-clause-word : goal.returns-in_err-all-clause-word
returns-in_err-all-clause-word c = IfOk-from_err _ _ c.from_residual-in_err-all.ensures.0

pub returns-in_err-fine-clause-value : goal.returns-in_err-fine-clause-value
returns-in_err-fine-clause-value c = IfOk-from_err _ _ c.from_residual.ensures.0

pub returns-in_err-fine-clause-word : goal.returns-in_err-fine-clause-word
returns-in_err-fine-clause-word c = IfOk-from_err _ _ c.from_residual.ensures.0

pub returns-in_err-word-clause-value : goal.returns-in_err-word-clause-value
returns-in_err-word-clause-value c = IfOk-from_err _ _ c.from_residual-in_err-word.ensures.0

pub returns-in_err-word-clause-word : goal.returns-in_err-word-clause-word
returns-in_err-word-clause-word c = IfOk-from_err _ _ c.from_residual-in_err-word.ensures.0
