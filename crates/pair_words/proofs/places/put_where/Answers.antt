use Rattle.std.proofs.lemmas.Result.{IfOk-from_err}
use Rattle.std.proofs.Common.{◌≡◌, ℕ, ◌+◌, ◌*◌, List, length, cond, sym, ap, ◌∙◌, arith}
use Rattle.aig.specs.Graph.{holds}
use Rattle.aig.proofs.Growth.{Obeys-older}
use Rattle.aig_words.proofs.Grown.{Grew-then, Grew-wider, IsIn-later, if_ok}
use Rattle.fourvec.specs.declared.Bit.{Bit}
use Rattle.pair_words.specs.declared.pairs.Pair.{Pair}
use Rattle.pair_words.specs.Rails.{bits}
use Rattle.pair_words.proofs.Growing.{vector_at, wired_at, wired-later}
use Rattle.pair_words.proofs.places.put_where.Goals as goal

pub kept_under-requires-clause-a_in : goal.kept_under-requires-clause-a_in
kept_under-requires-clause-a_in c = c.requires.a_in

pub kept_under-requires-clause-put_in : goal.kept_under-requires-clause-put_in
kept_under-requires-clause-put_in c = c.requires.put_in

pub pick_vector-requires-clause-same : goal.pick_vector-requires-clause-same
pick_vector-requires-clause-same c =
    let first : length c.deref.result.now ≡ length c.args.a.now = ap (λ (t : List Pair). length t) c.deref.ensures.value ∙ c.requires.same in
    first ∙ sym (ap (λ (t : List Pair). length t) c.deref-2.ensures.value ∙ c.in_ok-kept.ensures.word.long)

pub pick_vector-requires-clause-c_in : goal.pick_vector-requires-clause-c_in
pick_vector-requires-clause-c_in c = IsIn-later c.args.aig.now c.kept_under.new.aig c.args.fine c.in_ok-kept.ensures.grew.grows c.requires.fine_in

pub pick_vector-requires-clause-a_in : goal.pick_vector-requires-clause-a_in
pick_vector-requires-clause-a_in c = wired_at c.kept_under.new.aig c.args.plain.items c.deref.result.now c.deref.ensures.value (wired-later c.args.aig.now c.kept_under.new.aig c.args.plain.items c.in_ok-kept.ensures.grew.grows c.requires.plain_in)

pub pick_vector-requires-clause-b_in : goal.pick_vector-requires-clause-b_in
pick_vector-requires-clause-b_in c = wired_at c.kept_under.new.aig c.in_ok-kept.kept.items c.deref-2.result.now c.deref-2.ensures.value c.in_ok-kept.ensures.word.inside

pub returns-in_err-kept-clause-grew : goal.returns-in_err-kept-clause-grew
returns-in_err-kept-clause-grew c =
    let n : ℕ = length c.args.a.now in
    let m : ℕ = 11 * n * length c.args.put.now in
    Grew-wider m (m + 6 * n) _ _ (omega arith) c.in_err-kept.ensures.grew

pub returns-clause-grew : goal.returns-clause-grew
returns-clause-grew c =
    let n : ℕ = length c.args.a.now in
    let m : ℕ = 11 * n * length c.args.put.now in
    let first : length c.deref.result.now ≡ n = ap (λ (t : List Pair). length t) c.deref.ensures.value ∙ c.requires.same in
    Grew-then m (6 * length c.deref.result.now) (m + 6 * n) c.args.aig.now _ _ (omega (arith, first)) c.in_ok-kept.ensures.grew c.pick_vector.ensures.grew

pub returns-clause-word : goal.returns-clause-word
returns-clause-word c =
    let first : length c.deref.result.now ≡ length c.args.a.now = ap (λ (t : List Pair). length t) c.deref.ensures.value ∙ c.requires.same in
    if_ok c.pick_vector.result _ _ c.pick_vector.ensures.word (λ r h. vector_at _ _ (length c.args.a.now) r.items first h)

pub returns-clause-value : goal.returns-clause-value
returns-clause-value c = if_ok c.pick_vector.result _ _ c.pick_vector.ensures.value (λ r h v o.
    let t = holds v c.args.fine in
    h v o ∙ ap (λ (xs : List Pair). cond t (bits v xs) (bits v c.deref-2.result.now)) c.deref.ensures.value ∙
    ap (λ (xs : List Bit). cond t (bits v c.args.plain.items) xs)
    (ap (λ (xs : List Pair). bits v xs) c.deref-2.ensures.value ∙ c.in_ok-kept.ensures.value v (Obeys-older v _ _ c.pick_vector.ensures.grew.grows o)))

pub returns-in_err-kept-clause-value : goal.returns-in_err-kept-clause-value
returns-in_err-kept-clause-value c = IfOk-from_err _ _ c.from_residual.ensures.0

pub returns-in_err-kept-clause-word : goal.returns-in_err-kept-clause-word
returns-in_err-kept-clause-word c = IfOk-from_err _ _ c.from_residual.ensures.0
