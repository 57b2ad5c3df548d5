use Rattle.std.proofs.Common.{◌≡◌, ℕ, ◌+◌, ◌-◌, ◌*◌, ◌<◌, ◌≤◌, Bool, cond, List, length, map, refl, sym, ap, subst, ◌∙◌, arith}
use Rattle.std.specs.List.{All}
use Rattle.std.proofs.lemmas.Result.{IfOk-from_err, IfOk-weaker}
use Rattle.aig.specs.declared.gate.Lit.{Lit}
use Rattle.aig.specs.Graph.{holds}
use Rattle.aig.proofs.Growth.{Obeys-older}
use Rattle.aig_words.specs.Words.{number}
use Rattle.aig_words.proofs.Grown.{Grew-then, Grew-wider, IsIn-later}
use Rattle.fourvec.specs.Bits.{all_x}
use Rattle.pair_words.specs.declared.pairs.Pair.{Pair}
use Rattle.pair_words.specs.Rails.{bits, IsVector}
use Rattle.pair_words.specs.Truths.{truths}
use Rattle.pair_words.specs.Starts.{picked, begin_at, padded, parts_of}
use Rattle.pair_words.proofs.Growing.{wired-later, vector_at, Grew_at, literals_at, wired_at}
use Rattle.pair_words.proofs.Starting.{back_plain}
use Rattle.pair_words.proofs.Windows.{length-padded, length-parts, padded_in, parts_in, slice_by}
use Rattle.pair_words.proofs.places.slice_at.Goals as goal

pub led_part-requires-clause-parts_in : goal.led_part-requires-clause-parts_in
led_part-requires-clause-parts_in c =
    let a = c.args.a.now in
    let w : ℕ = c.args.width in
    let aig = c.sought.new.aig in
    let some : 0 < w = omega (arith, c.requires.some_width, c.requires.width_is) in
    let grows = c.in_ok-fine.ensures.grew.grows in
    let node : 0 < length aig = omega (arith, c.requires.node, grows.longer) in
    let fits : w ≤ length (padded (w - 1) a) = omega (arith, length-padded (w - 1) a, some, c.requires.some) in
    let all = parts_in aig w w (padded (w - 1) a) refl fits (padded_in aig (w - 1) a node (wired-later c.args.aig.now _ a grows c.requires.a_in)) in
    subst (λ (xs : List (List Pair)). All (IsVector aig w) xs) (sym (c.deref-2.ensures.value ∙ c.in_ok-parts.ensures)) all

pub led_part-requires-clause-back_is : goal.led_part-requires-clause-back_is
led_part-requires-clause-back_is c = λ plain v o. c.in_ok-fine.ensures.back v o ∙ back_plain c.args.spot.now (truths v (map (λ (p : Pair). p.up) c.args.at.now)) plain

pub returns-in_err-fine-clause-grew : goal.returns-in_err-fine-clause-grew
returns-in_err-fine-clause-grew c =
    let a = c.args.a.now in
    let old = c.args.aig.now in
    let w : ℕ = c.args.width in
    let some : 0 < w = omega (arith, c.requires.some_width, c.requires.width_is) in
    let t : ℕ = length c.args.at.now in
    let whole : ℕ = (2 * t + 3 + 6 * w) * (length a + w - 1) + 14 * t + 2 * w in
    Grew-wider (14 * t) whole old _ (omega arith) c.in_err-fine.ensures.grew

pub returns-in_err-parts-clause-grew : goal.returns-in_err-parts-clause-grew
returns-in_err-parts-clause-grew c =
    let a = c.args.a.now in
    let old = c.args.aig.now in
    let w : ℕ = c.args.width in
    let some : 0 < w = omega (arith, c.requires.some_width, c.requires.width_is) in
    let t : ℕ = length c.args.at.now in
    let whole : ℕ = (2 * t + 3 + 6 * w) * (length a + w - 1) + 14 * t + 2 * w in
    Grew-wider (14 * t) whole old _ (omega arith) c.in_ok-fine.ensures.grew

pub returns-in_err-plain-clause-grew : goal.returns-in_err-plain-clause-grew
returns-in_err-plain-clause-grew c =
    let a = c.args.a.now in
    let old = c.args.aig.now in
    let w : ℕ = c.args.width in
    let some : 0 < w = omega (arith, c.requires.some_width, c.requires.width_is) in
    let t : ℕ = length c.args.at.now in
    let whole : ℕ = (2 * t + 3 + 6 * w) * (length a + w - 1) + 14 * t + 2 * w in
    let far1 : length c.deref.result.now ≡ t = ap (λ (xs : List Lit). length xs) c.deref.ensures.value ∙ c.in_ok-fine.ensures.word.long in
    let long = length-padded (w - 1) a in
    let parts1 : length c.deref-2.result.now ≡ length a + w - 1 =
    ap (λ (xs : List (List Pair)). length xs) (c.deref-2.ensures.value ∙ c.in_ok-parts.ensures) ∙ length-parts w (padded (w - 1) a) ∙ (let h : length (padded (w - 1) a) - w + 1 ≡ length a + w - 1 = omega (arith, long, some, c.requires.some) in h) in
    let m : ℕ = (2 * t + 3 + 6 * w) * (length a + w - 1) in
    let same : (2 * length c.deref.result.now + 3 + 6 * w) * length c.deref-2.result.now ≡ m = λ i. (2 * far1 i + 3 + 6 * w) * parts1 i in
    Grew-then (14 * t) m whole old _ _ (omega arith) c.in_ok-fine.ensures.grew (Grew_at _ m _ _ same c.in_err-plain.ensures.grew)

pub returns-clause-grew : goal.returns-clause-grew
returns-clause-grew c =
    let a = c.args.a.now in
    let old = c.args.aig.now in
    let w : ℕ = c.args.width in
    let some : 0 < w = omega (arith, c.requires.some_width, c.requires.width_is) in
    let t : ℕ = length c.args.at.now in
    let whole : ℕ = (2 * t + 3 + 6 * w) * (length a + w - 1) + 14 * t + 2 * w in
    let far1 : length c.deref.result.now ≡ t = ap (λ (xs : List Lit). length xs) c.deref.ensures.value ∙ c.in_ok-fine.ensures.word.long in
    let long = length-padded (w - 1) a in
    let parts1 : length c.deref-2.result.now ≡ length a + w - 1 =
    ap (λ (xs : List (List Pair)). length xs) (c.deref-2.ensures.value ∙ c.in_ok-parts.ensures) ∙ length-parts w (padded (w - 1) a) ∙ (let h : length (padded (w - 1) a) - w + 1 ≡ length a + w - 1 = omega (arith, long, some, c.requires.some) in h) in
    let m : ℕ = (2 * t + 3 + 6 * w) * (length a + w - 1) in
    let same : (2 * length c.deref.result.now + 3 + 6 * w) * length c.deref-2.result.now ≡ m = λ i. (2 * far1 i + 3 + 6 * w) * parts1 i in
    let long2 : length c.deref-3.result.now ≡ w = ap (λ (xs : List Pair). length xs) c.deref-3.ensures.value ∙ c.in_ok-plain.ensures.word.long in
    let g3 = Grew-then (14 * t) m (m + 14 * t) old _ _ (omega arith) c.in_ok-fine.ensures.grew (Grew_at _ m _ _ same c.in_ok-plain.ensures.grew) in
    Grew-then (m + 14 * t) (2 * length c.deref-3.result.now) whole old _ _ (omega (arith, long2)) g3 c.vector_or_x.ensures.grew

pub returns-clause-word : goal.returns-clause-word
returns-clause-word c = IfOk-weaker c.vector_or_x.result _ _ (λ r h.
    vector_at _ _ c.args.width r.items (ap (λ (xs : List Pair). length xs) c.deref-3.ensures.value ∙ c.in_ok-plain.ensures.word.long) h) c.vector_or_x.ensures.word

pub returns-clause-value : goal.returns-clause-value
returns-clause-value c = IfOk-weaker c.vector_or_x.result _ _ (λ r h v o.
    let a = c.args.a.now in
    let at = c.args.at.now in
    let spot = c.args.spot.now in
    let w : ℕ = c.args.width in
    let wi : w ≡ spot.width = c.requires.width_is in
    let o2 = Obeys-older v _ _ c.vector_or_x.ensures.grew.grows o in
    let o1 = Obeys-older v _ _ c.in_ok-plain.ensures.grew.grows o2 in
    let back : Bool = holds v c.in_ok-fine.field-0.back in
    let far : ℕ = number v c.deref.result.now in
    let sb : Bool = c.start_of-start.result.back in
    let sf : ℕ = c.start_of-start.result.far in
    let fine : Bool = holds v c.in_ok-fine.field-0.fine in
    let long : length c.deref-3.result.now ≡ spot.width = ap (λ (xs : List Pair). length xs) c.deref-3.ensures.value ∙ c.in_ok-plain.ensures.word.long ∙ wi in
    let parts : c.deref-2.result.now ≡ parts_of spot.width (padded (spot.width - 1) a) = c.deref-2.ensures.value ∙ c.in_ok-parts.ensures ∙ ap (λ n. parts_of n (padded (n - 1) a)) wi in
    slice_by v spot a at back sb fine far sf (bits v c.deref-3.result.now) (bits v r.items) (all_x spot.width) o.bottom c.requires.some c.requires.some_width
    (c.in_ok-fine.ensures.fine v o1) (c.in_ok-fine.ensures.back v o1)
    (ap (λ (xs : List Lit). number v xs) c.deref.ensures.value ∙ c.in_ok-fine.ensures.far v o1)
    c.start_of-start.ensures.is refl
    (ap (λ (xs : List Pair). bits v xs) c.deref-3.ensures.value ∙ c.in_ok-plain.ensures.value v o2 ∙
    ap (λ (xs : List (List Pair)). picked (map (λ (q : List Pair). bits v q) xs) (begin_at back far c.args.each sb sf) (all_x w)) parts ∙
    ap (λ n. picked (map (λ (q : List Pair). bits v q) (parts_of spot.width (padded (spot.width - 1) a))) (begin_at back far n sb sf) (all_x w)) c.requires.each_is ∙
    ap (λ n. picked (map (λ (q : List Pair). bits v q) (parts_of spot.width (padded (spot.width - 1) a))) (begin_at back far spot.each sb sf) (all_x n)) wi)
    (h v o ∙ ap (λ n. cond fine (bits v c.deref-3.result.now) (all_x n)) long)) c.vector_or_x.ensures.value

pub returns-in_err-fine-clause-word : goal.returns-in_err-fine-clause-word
returns-in_err-fine-clause-word c = IfOk-from_err _ _ c.from_residual.ensures.0

pub returns-in_err-fine-clause-value : goal.returns-in_err-fine-clause-value
returns-in_err-fine-clause-value c = IfOk-from_err _ _ c.from_residual.ensures.0

pub returns-in_err-parts-clause-word : goal.returns-in_err-parts-clause-word
returns-in_err-parts-clause-word c = IfOk-from_err _ _ c.from_residual-in_err-parts.ensures.0

pub returns-in_err-parts-clause-value : goal.returns-in_err-parts-clause-value
returns-in_err-parts-clause-value c = IfOk-from_err _ _ c.from_residual-in_err-parts.ensures.0

pub returns-in_err-plain-clause-word : goal.returns-in_err-plain-clause-word
returns-in_err-plain-clause-word c = IfOk-from_err _ _ c.from_residual-in_err-plain.ensures.0

pub returns-in_err-plain-clause-value : goal.returns-in_err-plain-clause-value
returns-in_err-plain-clause-value c = IfOk-from_err _ _ c.from_residual-in_err-plain.ensures.0

pub sought-requires-clause-node : goal.sought-requires-clause-node
sought-requires-clause-node c = c.requires.node

pub sought-requires-clause-some : goal.sought-requires-clause-some
sought-requires-clause-some c = c.requires.some_at

pub sought-requires-clause-at_in : goal.sought-requires-clause-at_in
sought-requires-clause-at_in c = c.requires.at_in

pub led_part-requires-clause-node : goal.led_part-requires-clause-node
led_part-requires-clause-node c = let longer = c.in_ok-fine.ensures.grew.grows.longer in omega (arith, c.requires.node, longer)

pub led_part-requires-clause-near : goal.led_part-requires-clause-near
led_part-requires-clause-near c = c.start_of-start.ensures.near

pub led_part-requires-clause-back_in : goal.led_part-requires-clause-back_in
led_part-requires-clause-back_in c = c.in_ok-fine.ensures.back_in

pub led_part-requires-clause-far_in : goal.led_part-requires-clause-far_in
led_part-requires-clause-far_in c = literals_at c.sought.new.aig _ c.deref.result.now c.deref.ensures.value c.in_ok-fine.ensures.word.inside

pub led_part-requires-clause-each_is : goal.led_part-requires-clause-each_is
led_part-requires-clause-each_is c = c.requires.each_is

pub windows-requires-clause-some : goal.windows-requires-clause-some
windows-requires-clause-some c = c.requires.some

pub vector_or_x-requires-clause-c_in : goal.vector_or_x-requires-clause-c_in
vector_or_x-requires-clause-c_in c = IsIn-later c.sought.new.aig c.led_part.new.aig c.in_ok-fine.field-0.fine c.in_ok-plain.ensures.grew.grows c.in_ok-fine.ensures.fine_in

pub vector_or_x-requires-clause-a_in : goal.vector_or_x-requires-clause-a_in
vector_or_x-requires-clause-a_in c = wired_at c.led_part.new.aig c.in_ok-plain.plain.items c.deref-3.result.now c.deref-3.ensures.value c.in_ok-plain.ensures.word.inside
