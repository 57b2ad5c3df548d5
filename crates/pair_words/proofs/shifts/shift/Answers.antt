use Rattle.std.proofs.lemmas.Result.{IfOk-from_err}
use Rattle.std.proofs.Common.{◌≡◌, ◌+◌, ◌*◌, ◌∙◌, ℕ, List, length, map, cond, ap, arith}
use Rattle.aig.specs.declared.gate.Lit.{Lit}
use Rattle.aig.specs.Graph.{holds}
use Rattle.aig.proofs.Growth.{Obeys-older}
use Rattle.aig_words.specs.Words.{number}
use Rattle.fourvec.specs.Bits.{all_x}
use Rattle.pair_words.specs.declared.pairs.Pair.{Pair}
use Rattle.pair_words.specs.Rails.{bits}
use Rattle.pair_words.specs.Ways.{moved_bits}
use Rattle.pair_words.proofs.Moving.{shift_by, fills-later}
use Rattle.std.proofs.lemmas.List.{length-map}
use Rattle.aig_words.proofs.Grown.{Grew-then, Grew-wider, IsIn-later, if_ok}
use Rattle.pair_words.proofs.Growing.{wired-later, Grew_at, vector_at, wired_at}
use Rattle.pair_words.proofs.Truths.{uppers_in}
use Rattle.pair_words.proofs.shifts.shift.Goals as goal

pub returns-clause-value : goal.returns-clause-value
returns-clause-value c = if_ok c.vector_or_x.result _ _ c.vector_or_x.ensures.value (λ r h v o.
    let a = c.args.a.now in
    let b = c.args.b.now in
    let o2 = Obeys-older v _ _ c.vector_or_x.ensures.grew.grows o in
    let o1 = Obeys-older v _ _ c.in_ok-plain.ensures.grew.grows o2 in
    let long : length c.deref-2.result.now ≡ length a = ap (λ (xs : List Pair). length xs) c.deref-2.ensures.value ∙ c.in_ok-plain.ensures.word.long in
    let by : c.deref.result.now ≡ map (λ (q : Pair). q.up) b = c.deref.ensures.value ∙ c.in_ok-by.ensures in
    shift_by v c.args.way b (bits v a) (bits v c.deref-2.result.now) (bits v r.items) (holds v c.in_ok-fine.fine) (length a) (c.in_ok-fine.ensures.value v o1)
    (ap (λ (xs : List Pair). bits v xs) c.deref-2.ensures.value ∙ c.in_ok-plain.ensures.value v o2 ∙ ap (λ (xs : List Lit). moved_bits v c.args.way (number v xs) (bits v a)) by)
    (h v o ∙ ap (λ n. cond (holds v c.in_ok-fine.fine) (bits v c.deref-2.result.now) (all_x n)) long))

pub moved_far-requires-clause-b_in : goal.moved_far-requires-clause-b_in
moved_far-requires-clause-b_in c =
    rw (c.deref.ensures.value, c.in_ok-by.ensures) (uppers_in _ c.args.b.now (wired-later c.args.aig.now _ c.args.b.now c.in_ok-fine.ensures.grew.grows c.requires.b_in))

pub returns-clause-grew : goal.returns-clause-grew
returns-clause-grew c =
    let a = c.args.a.now in
    let b = c.args.b.now in
    let m : ℕ = length a in
    let n : ℕ = length b in
    let by : length c.deref.result.now ≡ n = ap (λ (xs : List Lit). length xs) (c.deref.ensures.value ∙ c.in_ok-by.ensures) ∙ length-map b (λ (q : Pair). q.up) in
    let long : length c.deref-2.result.now ≡ m = ap (λ (xs : List Pair). length xs) c.deref-2.ensures.value ∙ c.in_ok-plain.ensures.word.long in
    let two = Grew_at (6 * m * length c.deref.result.now + 4 * length c.deref.result.now) (6 * m * n + 4 * n) _ _ (ap (λ k. 6 * m * k + 4 * k) by) c.in_ok-plain.ensures.grew in
    Grew-then (4 * n) (6 * m * n + 4 * n + 2 * length c.deref-2.result.now) (6 * m * n + 8 * n + 2 * m) c.args.aig.now _ _ (omega (arith, long)) c.in_ok-fine.ensures.grew
    (Grew-then (6 * m * n + 4 * n) (2 * length c.deref-2.result.now) (6 * m * n + 4 * n + 2 * length c.deref-2.result.now) _ _ _ (omega arith) two c.vector_or_x.ensures.grew)

pub returns-in_err-by-clause-value : goal.returns-in_err-by-clause-value
returns-in_err-by-clause-value c = IfOk-from_err _ _ c.from_residual-in_err-by.ensures.0

pub returns-in_err-by-clause-word : goal.returns-in_err-by-clause-word
returns-in_err-by-clause-word c = IfOk-from_err _ _ c.from_residual-in_err-by.ensures.0

pub returns-in_err-fine-clause-value : goal.returns-in_err-fine-clause-value
returns-in_err-fine-clause-value c = IfOk-from_err _ _ c.from_residual.ensures.0

pub returns-in_err-fine-clause-word : goal.returns-in_err-fine-clause-word
returns-in_err-fine-clause-word c = IfOk-from_err _ _ c.from_residual.ensures.0

pub returns-in_err-plain-clause-value : goal.returns-in_err-plain-clause-value
returns-in_err-plain-clause-value c = IfOk-from_err _ _ c.from_residual-in_err-plain.ensures.0

pub returns-in_err-plain-clause-word : goal.returns-in_err-plain-clause-word
returns-in_err-plain-clause-word c = IfOk-from_err _ _ c.from_residual-in_err-plain.ensures.0

pub moved_far-requires-clause-way_in : goal.moved_far-requires-clause-way_in
moved_far-requires-clause-way_in c = fills-later c.args.aig.now c.known.new.aig c.args.way c.in_ok-fine.ensures.grew.grows c.requires.way_in

pub moved_far-requires-clause-a_in : goal.moved_far-requires-clause-a_in
moved_far-requires-clause-a_in c = wired-later c.args.aig.now c.known.new.aig c.args.a.now c.in_ok-fine.ensures.grew.grows c.requires.a_in

pub vector_or_x-requires-clause-c_in : goal.vector_or_x-requires-clause-c_in
vector_or_x-requires-clause-c_in c = IsIn-later c.known.new.aig c.moved_far.new.aig c.in_ok-fine.fine c.in_ok-plain.ensures.grew.grows c.in_ok-fine.ensures.within

pub vector_or_x-requires-clause-a_in : goal.vector_or_x-requires-clause-a_in
vector_or_x-requires-clause-a_in c = wired_at c.moved_far.new.aig c.in_ok-plain.plain.items c.deref-2.result.now c.deref-2.ensures.value c.in_ok-plain.ensures.word.inside

pub returns-clause-word : goal.returns-clause-word
returns-clause-word c =
    let long : length c.deref-2.result.now ≡ length c.args.a.now = ap (λ (xs : List Pair). length xs) c.deref-2.ensures.value ∙ c.in_ok-plain.ensures.word.long in
    if_ok c.vector_or_x.result _ _ c.vector_or_x.ensures.word (λ r h. vector_at _ _ (length c.args.a.now) r.items long h)

pub returns-in_err-fine-clause-grew : goal.returns-in_err-fine-clause-grew
returns-in_err-fine-clause-grew c =
    let m : ℕ = length c.args.a.now in
    let n : ℕ = length c.args.b.now in
    Grew-wider (4 * n) (6 * m * n + 8 * n + 2 * m) _ _ (omega arith) c.in_err-fine.ensures.grew

pub returns-in_err-by-clause-grew : goal.returns-in_err-by-clause-grew
returns-in_err-by-clause-grew c =
    let m : ℕ = length c.args.a.now in
    let n : ℕ = length c.args.b.now in
    Grew-wider (4 * n) (6 * m * n + 8 * n + 2 * m) _ _ (omega arith) c.in_ok-fine.ensures.grew

pub returns-in_err-plain-clause-grew : goal.returns-in_err-plain-clause-grew
returns-in_err-plain-clause-grew c =
    let b = c.args.b.now in
    let m : ℕ = length c.args.a.now in
    let n : ℕ = length b in
    let by : length c.deref.result.now ≡ n = ap (λ (xs : List Lit). length xs) (c.deref.ensures.value ∙ c.in_ok-by.ensures) ∙ length-map b (λ (q : Pair). q.up) in
    let two = Grew_at (6 * m * length c.deref.result.now + 4 * length c.deref.result.now) (6 * m * n + 4 * n) _ _ (ap (λ k. 6 * m * k + 4 * k) by) c.in_err-plain.ensures.grew in
    Grew-then (4 * n) (6 * m * n + 4 * n) (6 * m * n + 8 * n + 2 * m) c.args.aig.now _ _ (omega arith) c.in_ok-fine.ensures.grew two
