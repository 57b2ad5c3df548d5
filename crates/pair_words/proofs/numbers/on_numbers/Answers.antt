use Rattle.std.proofs.Common.{◌≡◌, ℕ, ◌+◌, ◌*◌, ◌<◌, ◌&&◌, List, length, map, cond, ap, subst, sym, ◌∙◌, arith}
use Rattle.std.proofs.lemmas.Result.{IfOk-from_err, IfOk-weaker}
use Rattle.std.proofs.lemmas.List.{length-map}
use Rattle.aig.specs.declared.gate.Lit.{Lit}
use Rattle.aig.specs.Graph.{holds}
use Rattle.aig.proofs.Growth.{Obeys-older}
use Rattle.aig_words.specs.Words.{Grew, number}
use Rattle.aig_words.proofs.Grown.{Grew-then, Grew-wider}
use Rattle.fourvec.specs.Bits.{all_x}
use Rattle.fourvec.specs.declared.Bit.TheVariants.{Zero}
use Rattle.pair_words.specs.declared.pairs.Pair.{Pair}
use Rattle.pair_words.specs.Rails.{bit_at, bits}
use Rattle.pair_words.specs.Truths.{truths, number_value, number_width, is_defined}
use Rattle.pair_words.specs.Ways.{constant_pair}
use Rattle.pair_words.proofs.Growing.{some_gate, wired-later, vector_at}
use Rattle.pair_words.proofs.Truths.{known_is, numbers_at, number-truths, uppers_in}
use Rattle.pair_words.proofs.numbers.on_numbers.Goals as goal

pub both_known-requires-clause-node : goal.both_known-requires-clause-node
both_known-requires-clause-node c = some_gate c.args.aig.now c.args.a.now (constant_pair Zero) c.requires.some c.requires.a_in

pub guarded_number-requires-clause-some : goal.guarded_number-requires-clause-some
guarded_number-requires-clause-some c = subst (λ n. 0 < n) (sym (ap (λ (xs : List Lit). length xs) (c.deref.ensures.value ∙ c.in_ok-x.ensures) ∙ length-map c.args.a.now (λ (p : Pair). p.up))) c.requires.some

pub guarded_number-requires-clause-same : goal.guarded_number-requires-clause-same
guarded_number-requires-clause-same c =
    ap (λ (xs : List Lit). length xs) (c.deref.ensures.value ∙ c.in_ok-x.ensures) ∙ length-map c.args.a.now (λ (p : Pair). p.up) ∙ c.requires.same ∙
    sym (ap (λ (xs : List Lit). length xs) (c.deref-2.ensures.value ∙ c.in_ok-y.ensures) ∙ length-map c.args.b.now (λ (p : Pair). p.up))

pub guarded_number-requires-clause-a_in : goal.guarded_number-requires-clause-a_in
guarded_number-requires-clause-a_in c =
    rw (c.deref.ensures.value, c.in_ok-x.ensures) (uppers_in _ c.args.a.now (wired-later c.args.aig.now _ c.args.a.now c.in_ok-both.ensures.grew.grows c.requires.a_in))

pub guarded_number-requires-clause-b_in : goal.guarded_number-requires-clause-b_in
guarded_number-requires-clause-b_in c =
    rw (c.deref-2.ensures.value, c.in_ok-y.ensures) (uppers_in _ c.args.b.now (wired-later c.args.aig.now _ c.args.b.now c.in_ok-both.ensures.grew.grows c.requires.b_in))

pub returns-clause-value : goal.returns-clause-value
returns-clause-value c = IfOk-weaker c.guarded_number.result _ _ (λ r h v o.
    let op = c.args.op in
    let a = c.args.a.now in
    let b = c.args.b.now in
    let x : List Lit = map (λ (p : Pair). p.up) a in
    let y : List Lit = map (λ (p : Pair). p.up) b in
    let xd : c.deref.result.now ≡ x = c.deref.ensures.value ∙ c.in_ok-x.ensures in
    let yd : c.deref-2.result.now ≡ y = c.deref-2.ensures.value ∙ c.in_ok-y.ensures in
    let j = c.in_ok-both.ensures.value v (Obeys-older v _ _ c.guarded_number.ensures.grew.grows o) in
    let wide : length x ≡ length (bits v a) = length-map a (λ (p : Pair). p.up) ∙ sym (length-map a (bit_at v)) in
    numbers_at op (bits v a) (bits v b) (truths v x) (truths v y) (bits v r.items) (number v y) (holds v c.in_ok-both.both) (known_is v a) (known_is v b) j (number-truths v y)
    (h v o ∙
    ap (λ (xs : List Lit). cond (holds v c.in_ok-both.both && is_defined op (number v c.deref-2.result.now)) (number_value op (truths v xs) (truths v c.deref-2.result.now)) (all_x (number_width op (length xs)))) xd ∙
    ap (λ (ys : List Lit). cond (holds v c.in_ok-both.both && is_defined op (number v ys)) (number_value op (truths v x) (truths v ys)) (all_x (number_width op (length x)))) yd ∙
    ap (λ n. cond (holds v c.in_ok-both.both && is_defined op (number v y)) (number_value op (truths v x) (truths v y)) (all_x (number_width op n))) wide)) c.guarded_number.ensures.value

pub returns-clause-word : goal.returns-clause-word
returns-clause-word c = IfOk-weaker c.guarded_number.result _ _ (λ r h. vector_at _ _ (number_width c.args.op (length c.args.a.now)) r.items
    (ap (λ (xs : List Lit). number_width c.args.op (length xs)) (c.deref.ensures.value ∙ c.in_ok-x.ensures) ∙ ap (λ n. number_width c.args.op n) (length-map c.args.a.now (λ (p : Pair). p.up))) h) c.guarded_number.ensures.word

pub returns-clause-grew : goal.returns-clause-grew
returns-clause-grew c =
    let w : ℕ = length c.args.a.now in
    let some : 0 < w = c.requires.some in
    let same : w ≡ length c.args.b.now = c.requires.same in
    let m : ℕ = 100 * w * w + 6 * w + 1 in
    let e : length c.deref.result.now ≡ w = ap (λ (xs : List Lit). length xs) (c.deref.ensures.value ∙ c.in_ok-x.ensures) ∙ length-map c.args.a.now (λ (p : Pair). p.up) in
    let last : Grew m _ _ = subst (λ (n : ℕ). Grew (100 * n * n + 6 * n + 1) c.both_known.new.aig c.guarded_number.new.aig) e c.guarded_number.ensures.grew in
    Grew-then (4 * w + 4 * length c.args.b.now + 1) m (100 * w * w + 20 * w) c.args.aig.now _ _ (omega (arith, same, some)) c.in_ok-both.ensures.grew last

pub returns-in_err-both-clause-grew : goal.returns-in_err-both-clause-grew
returns-in_err-both-clause-grew c =
    let w : ℕ = length c.args.a.now in
    Grew-wider (4 * w + 4 * length c.args.b.now + 1) (100 * w * w + 20 * w) _ _ (omega (arith, c.requires.same, c.requires.some)) c.in_err-both.ensures.grew

pub returns-in_err-x-clause-grew : goal.returns-in_err-x-clause-grew
returns-in_err-x-clause-grew c =
    let w : ℕ = length c.args.a.now in
    Grew-wider (4 * w + 4 * length c.args.b.now + 1) (100 * w * w + 20 * w) _ _ (omega (arith, c.requires.same, c.requires.some)) c.in_ok-both.ensures.grew

pub returns-in_err-y-clause-grew : goal.returns-in_err-y-clause-grew
returns-in_err-y-clause-grew c =
    let w : ℕ = length c.args.a.now in
    Grew-wider (4 * w + 4 * length c.args.b.now + 1) (100 * w * w + 20 * w) _ _ (omega (arith, c.requires.same, c.requires.some)) c.in_ok-both.ensures.grew

pub returns-in_err-both-clause-value : goal.returns-in_err-both-clause-value
returns-in_err-both-clause-value c = IfOk-from_err _ _ c.from_residual.ensures.0

pub returns-in_err-both-clause-word : goal.returns-in_err-both-clause-word
returns-in_err-both-clause-word c = IfOk-from_err _ _ c.from_residual.ensures.0

pub returns-in_err-x-clause-value : goal.returns-in_err-x-clause-value
returns-in_err-x-clause-value c = IfOk-from_err _ _ c.from_residual-in_err-x.ensures.0

pub returns-in_err-x-clause-word : goal.returns-in_err-x-clause-word
returns-in_err-x-clause-word c = IfOk-from_err _ _ c.from_residual-in_err-x.ensures.0

pub returns-in_err-y-clause-value : goal.returns-in_err-y-clause-value
returns-in_err-y-clause-value c = IfOk-from_err _ _ c.from_residual-in_err-y.ensures.0

pub returns-in_err-y-clause-word : goal.returns-in_err-y-clause-word
returns-in_err-y-clause-word c = IfOk-from_err _ _ c.from_residual-in_err-y.ensures.0

pub both_known-requires-clause-a_in : goal.both_known-requires-clause-a_in
both_known-requires-clause-a_in c = c.requires.a_in

pub both_known-requires-clause-b_in : goal.both_known-requires-clause-b_in
both_known-requires-clause-b_in c = c.requires.b_in

pub guarded_number-requires-clause-c_in : goal.guarded_number-requires-clause-c_in
guarded_number-requires-clause-c_in c = c.in_ok-both.ensures.within
