use Rattle.std.proofs.lemmas.Result.{IfOk-from_err}
use Rattle.std.proofs.Common.{◌≡◌, ℕ, ◌+◌, ◌*◌, ◌<◌, List, length, sym, ap, ◌∙◌, arith}
use Rattle.aig.specs.Graph.{holds}
use Rattle.aig.proofs.Growth.{Obeys-older, Grows-trans}
use Rattle.aig_words.proofs.Grown.{Grew-then, Grew-wider, Grew-both, IsIn-later, if_ok}
use Rattle.pair_words.specs.declared.pairs.Pair.{Pair}
use Rattle.pair_words.specs.Rails.{bits, two_value, two_nodes}
use Rattle.pair_words.proofs.Growing.{wired-later, wired_at}
use Rattle.pair_words.proofs.Picking.{choice_by}
use Rattle.pair_words.proofs.choices.joined_choice.Goals as goal

pub unfloat-requires : goal.unfloat-requires
unfloat-requires c = record { a_in = c.requires.c_in }

pub on_both-requires-clause-same : goal.on_both-requires-clause-same
on_both-requires-clause-same c = c.requires.same

pub on_both-requires-clause-a_in : goal.on_both-requires-clause-a_in
on_both-requires-clause-a_in c = wired-later c.args.aig.now c.unfloat.new.aig c.args.a.now c.in_ok-some.ensures.grew.grows c.requires.a_in

pub on_both-requires-clause-b_in : goal.on_both-requires-clause-b_in
on_both-requires-clause-b_in c = wired-later c.args.aig.now c.unfloat.new.aig c.args.b.now c.in_ok-some.ensures.grew.grows c.requires.b_in

pub pick_vector-requires-clause-same : goal.pick_vector-requires-clause-same
pick_vector-requires-clause-same c = ap (λ (t : List Pair). length t) c.deref.ensures.value ∙ c.in_ok-joined.ensures.word.long ∙ c.requires.same

pub pick_vector-requires-clause-c_in : goal.pick_vector-requires-clause-c_in
pick_vector-requires-clause-c_in c = IsIn-later c.unfloat.new.aig c.on_both.new.aig c.in_ok-some.some.up c.in_ok-joined.ensures.grew.grows c.in_ok-some.ensures.within.up

pub pick_vector-requires-clause-a_in : goal.pick_vector-requires-clause-a_in
pick_vector-requires-clause-a_in c = wired_at c.on_both.new.aig c.in_ok-joined.joined.items c.deref.result.now c.deref.ensures.value c.in_ok-joined.ensures.word.inside

pub pick_vector-requires-clause-b_in : goal.pick_vector-requires-clause-b_in
pick_vector-requires-clause-b_in c = wired-later c.args.aig.now c.on_both.new.aig c.args.b.now (Grows-trans c.args.aig.now c.unfloat.new.aig c.on_both.new.aig c.in_ok-some.ensures.grew.grows c.in_ok-joined.ensures.grew.grows) c.requires.b_in

pub pick_vector-requires-2-clause-same : goal.pick_vector-requires-2-clause-same
pick_vector-requires-2-clause-same c =
    let joined : length c.deref.result.now ≡ length c.args.a.now = ap (λ (t : List Pair). length t) c.deref.ensures.value ∙ c.in_ok-joined.ensures.word.long in
    sym (ap (λ (t : List Pair). length t) c.deref-2.ensures.value ∙ c.in_ok-other.ensures.word.long ∙ joined)

pub pick_vector-requires-2-clause-c_in : goal.pick_vector-requires-2-clause-c_in
pick_vector-requires-2-clause-c_in c = IsIn-later c.unfloat.new.aig c.pick_vector.new.aig c.in_ok-some.some.low (Grows-trans c.unfloat.new.aig c.on_both.new.aig c.pick_vector.new.aig c.in_ok-joined.ensures.grew.grows c.in_ok-other.ensures.grew.grows) c.in_ok-some.ensures.within.low

pub pick_vector-requires-2-clause-a_in : goal.pick_vector-requires-2-clause-a_in
pick_vector-requires-2-clause-a_in c =
    let grows = Grows-trans c.args.aig.now c.unfloat.new.aig c.on_both.new.aig c.in_ok-some.ensures.grew.grows c.in_ok-joined.ensures.grew.grows in
    wired-later c.args.aig.now c.pick_vector.new.aig c.args.a.now (Grows-trans c.args.aig.now c.on_both.new.aig c.pick_vector.new.aig grows c.in_ok-other.ensures.grew.grows) c.requires.a_in

pub pick_vector-requires-2-clause-b_in : goal.pick_vector-requires-2-clause-b_in
pick_vector-requires-2-clause-b_in c = wired_at c.pick_vector.new.aig c.in_ok-other.other.items c.deref-2.result.now c.deref-2.ensures.value c.in_ok-other.ensures.word.inside

pub returns-in_err-some-clause-grew : goal.returns-in_err-some-clause-grew
returns-in_err-some-clause-grew c =
    let n : ℕ = length c.args.a.now in
    let m : ℕ = two_nodes c.args.op * n in
    let some : 0 < n = c.requires.some in
    let old = c.args.aig.now in
    Grew-wider 2 (m + 14 * n) old _ (omega (arith, some)) c.in_err-some.ensures.grew

pub returns-in_err-joined-clause-grew : goal.returns-in_err-joined-clause-grew
returns-in_err-joined-clause-grew c =
    let n : ℕ = length c.args.a.now in
    let m : ℕ = two_nodes c.args.op * n in
    let some : 0 < n = c.requires.some in
    let old = c.args.aig.now in
    Grew-then 2 m (m + 14 * n) old _ _ (omega (arith, some)) c.in_ok-some.ensures.grew c.in_err-joined.ensures.grew

pub returns-in_err-other-clause-grew : goal.returns-in_err-other-clause-grew
returns-in_err-other-clause-grew c =
    let n : ℕ = length c.args.a.now in
    let m : ℕ = two_nodes c.args.op * n in
    let some : 0 < n = c.requires.some in
    let old = c.args.aig.now in
    let g2 = Grew-both 2 m old c.unfloat.new.aig c.on_both.new.aig c.in_ok-some.ensures.grew c.in_ok-joined.ensures.grew in
    let wide : length c.deref.result.now ≡ n = ap (λ (t : List Pair). length t) c.deref.ensures.value ∙ c.in_ok-joined.ensures.word.long in
    Grew-then (2 + m) (6 * length c.deref.result.now) (m + 14 * n) old _ _ (omega (arith, wide, some)) g2 c.in_err-other.ensures.grew

pub returns-clause-grew : goal.returns-clause-grew
returns-clause-grew c =
    let n : ℕ = length c.args.a.now in
    let m : ℕ = two_nodes c.args.op * n in
    let some : 0 < n = c.requires.some in
    let old = c.args.aig.now in
    let g2 = Grew-both 2 m old c.unfloat.new.aig c.on_both.new.aig c.in_ok-some.ensures.grew c.in_ok-joined.ensures.grew in
    let wide : length c.deref.result.now ≡ n = ap (λ (t : List Pair). length t) c.deref.ensures.value ∙ c.in_ok-joined.ensures.word.long in
    let g3 = Grew-then (2 + m) (6 * length c.deref.result.now) (2 + m + 6 * n) old _ _ (omega (arith, wide)) g2 c.in_ok-other.ensures.grew in
    Grew-then (2 + m + 6 * n) (6 * n) (m + 14 * n) old _ _ (omega (arith, some)) g3 c.pick_vector-2.ensures.grew

pub returns-clause-word : goal.returns-clause-word
returns-clause-word c = c.pick_vector-2.ensures.word

pub returns-clause-value : goal.returns-clause-value
returns-clause-value c = if_ok c.pick_vector-2.result _ _ c.pick_vector-2.ensures.value (λ r h v o.
    let o3 = Obeys-older v _ _ c.pick_vector-2.ensures.grew.grows o in
    let o2 = Obeys-older v _ _ c.in_ok-other.ensures.grew.grows o3 in
    let o1 = Obeys-older v _ _ c.in_ok-joined.ensures.grew.grows o2 in
    let ends = c.in_ok-some.ensures.value v o1 in
    choice_by (two_value c.args.op) (holds v c.args.c.up) (holds v c.args.c.low) (holds v c.in_ok-some.some.up) (holds v c.in_ok-some.some.low) (bits v c.args.a.now) (bits v c.args.b.now)
    (bits v c.deref.result.now) (bits v c.deref-2.result.now) (bits v r.items) ends.0 ends.1
    (ap (λ (xs : List Pair). bits v xs) c.deref.ensures.value ∙ c.in_ok-joined.ensures.value v o2)
    (ap (λ (xs : List Pair). bits v xs) c.deref-2.ensures.value ∙ c.in_ok-other.ensures.value v o3)
    (h v o))

pub returns-in_err-some-clause-value : goal.returns-in_err-some-clause-value
returns-in_err-some-clause-value c = IfOk-from_err _ _ c.from_residual.ensures.0

pub returns-in_err-some-clause-word : goal.returns-in_err-some-clause-word
returns-in_err-some-clause-word c = IfOk-from_err _ _ c.from_residual.ensures.0

pub returns-in_err-joined-clause-value : goal.returns-in_err-joined-clause-value
returns-in_err-joined-clause-value c = IfOk-from_err _ _ c.from_residual-in_err-joined.ensures.0

pub returns-in_err-joined-clause-word : goal.returns-in_err-joined-clause-word
returns-in_err-joined-clause-word c = IfOk-from_err _ _ c.from_residual-in_err-joined.ensures.0

pub returns-in_err-other-clause-value : goal.returns-in_err-other-clause-value
returns-in_err-other-clause-value c = IfOk-from_err _ _ c.from_residual-in_err-other.ensures.0

pub returns-in_err-other-clause-word : goal.returns-in_err-other-clause-word
returns-in_err-other-clause-word c = IfOk-from_err _ _ c.from_residual-in_err-other.ensures.0
