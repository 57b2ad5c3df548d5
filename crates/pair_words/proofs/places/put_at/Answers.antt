use Rattle.std.proofs.Common.{◌≡◌, ℕ, ◌+◌, ◌-◌, ◌*◌, ◌<◌, Bool, List, length, map, refl, sym, ap, subst, ◌∙◌, arith}
use Rattle.std.specs.List.{All}
use Rattle.std.proofs.lemmas.Result.{IfOk-from_err, IfOk-weaker}
use Rattle.aig.specs.declared.gate.Lit.{Lit}
use Rattle.aig.specs.Graph.{holds}
use Rattle.aig.proofs.Growth.{Obeys-older, Grows-trans}
use Rattle.aig_words.specs.Words.{number}
use Rattle.aig_words.proofs.Grown.{Grew-then, Grew-wider, IsIn-later}
use Rattle.fourvec.specs.Bits.{each}
use Rattle.fourvec.specs.Spots.{kept_bit}
use Rattle.pair_words.specs.declared.pairs.Pair.{Pair}
use Rattle.pair_words.specs.Rails.{bits, IsVector}
use Rattle.pair_words.specs.Starts.{picked, begin_at, padded, laid_of}
use Rattle.pair_words.proofs.Growing.{wired-later, Grew_at, literals_at}
use Rattle.pair_words.proofs.Windows.{length-padded, padded_in}
use Rattle.pair_words.proofs.Laying.{length-laid, laid_in, put_by}
use Rattle.pair_words.proofs.places.put_at.Goals as goal

pub led_to-requires-clause-parts_in : goal.led_to-requires-clause-parts_in
led_to-requires-clause-parts_in c =
    let a = c.args.a.now in
    let put = c.args.put.now in
    let old = c.args.aig.now in
    let w : ℕ = length put in
    let n : ℕ = length a in
    let aig = c.sought.new.aig in
    let grows = c.in_ok-fine.ensures.grew.grows in
    let node : 0 < length aig = omega (arith, c.requires.node, grows.longer) in
    let P : List Pair = padded (w - 1) a in
    let long = length-padded (w - 1) a in
    let all = laid_in aig P put (w - 1) n (omega (arith, long, c.requires.some_put)) (omega (arith, long, c.requires.some_put, c.requires.some))
    (padded_in aig (w - 1) a node (wired-later old _ a grows c.requires.a_in)) (wired-later old _ put grows c.requires.put_in) in
    subst (λ (xs : List (List Pair)). All (IsVector aig n) xs) (sym (c.deref-2.ensures.value ∙ c.in_ok-parts.ensures)) all

pub returns-in_err-fine-clause-grew : goal.returns-in_err-fine-clause-grew
returns-in_err-fine-clause-grew c =
    let a = c.args.a.now in
    let put = c.args.put.now in
    let old = c.args.aig.now in
    let w : ℕ = length put in
    let n : ℕ = length a in
    let t : ℕ = length c.args.at.now in
    let m : ℕ = (2 * t + 3 + 6 * n) * (n + w - 1) in
    let whole : ℕ = m + 14 * t + 11 * n * w + 6 * n in
    Grew-wider (14 * t) whole old _ (omega arith) c.in_err-fine.ensures.grew

pub returns-in_err-parts-clause-grew : goal.returns-in_err-parts-clause-grew
returns-in_err-parts-clause-grew c =
    let a = c.args.a.now in
    let put = c.args.put.now in
    let old = c.args.aig.now in
    let w : ℕ = length put in
    let n : ℕ = length a in
    let t : ℕ = length c.args.at.now in
    let m : ℕ = (2 * t + 3 + 6 * n) * (n + w - 1) in
    let whole : ℕ = m + 14 * t + 11 * n * w + 6 * n in
    Grew-wider (14 * t) whole old _ (omega arith) c.in_ok-fine.ensures.grew

pub returns-in_err-plain-clause-grew : goal.returns-in_err-plain-clause-grew
returns-in_err-plain-clause-grew c =
    let a = c.args.a.now in
    let put = c.args.put.now in
    let old = c.args.aig.now in
    let w : ℕ = length put in
    let n : ℕ = length a in
    let t : ℕ = length c.args.at.now in
    let m : ℕ = (2 * t + 3 + 6 * n) * (n + w - 1) in
    let whole : ℕ = m + 14 * t + 11 * n * w + 6 * n in
    let far1 : length c.deref.result.now ≡ t = ap (λ (xs : List Lit). length xs) c.deref.ensures.value ∙ c.in_ok-fine.ensures.word.long in
    let long = length-padded (w - 1) a in
    let parts1 : length c.deref-2.result.now ≡ n + w - 1 =
    ap (λ (xs : List (List Pair)). length xs) (c.deref-2.ensures.value ∙ c.in_ok-parts.ensures) ∙ length-laid (padded (w - 1) a) put (w - 1) n ∙
    (let h : length (padded (w - 1) a) - w + 1 ≡ n + w - 1 = omega (arith, long, c.requires.some_put, c.requires.some) in h) in
    let same : (2 * length c.deref.result.now + 3 + 6 * n) * length c.deref-2.result.now ≡ m = λ i. (2 * far1 i + 3 + 6 * n) * parts1 i in
    Grew-then (14 * t) m whole old _ _ (omega arith) c.in_ok-fine.ensures.grew (Grew_at _ m _ _ same c.in_err-plain.ensures.grew)

pub returns-clause-grew : goal.returns-clause-grew
returns-clause-grew c =
    let a = c.args.a.now in
    let put = c.args.put.now in
    let old = c.args.aig.now in
    let w : ℕ = length put in
    let n : ℕ = length a in
    let t : ℕ = length c.args.at.now in
    let m : ℕ = (2 * t + 3 + 6 * n) * (n + w - 1) in
    let whole : ℕ = m + 14 * t + 11 * n * w + 6 * n in
    let far1 : length c.deref.result.now ≡ t = ap (λ (xs : List Lit). length xs) c.deref.ensures.value ∙ c.in_ok-fine.ensures.word.long in
    let long = length-padded (w - 1) a in
    let parts1 : length c.deref-2.result.now ≡ n + w - 1 =
    ap (λ (xs : List (List Pair)). length xs) (c.deref-2.ensures.value ∙ c.in_ok-parts.ensures) ∙ length-laid (padded (w - 1) a) put (w - 1) n ∙
    (let h : length (padded (w - 1) a) - w + 1 ≡ n + w - 1 = omega (arith, long, c.requires.some_put, c.requires.some) in h) in
    let same : (2 * length c.deref.result.now + 3 + 6 * n) * length c.deref-2.result.now ≡ m = λ i. (2 * far1 i + 3 + 6 * n) * parts1 i in
    let g3 = Grew-then (14 * t) m (m + 14 * t) old _ _ (omega arith) c.in_ok-fine.ensures.grew (Grew_at _ m _ _ same c.in_ok-plain.ensures.grew) in
    Grew-then (m + 14 * t) (11 * n * w + 6 * n) whole old _ _ (omega arith) g3 c.put_where.ensures.grew

pub returns-clause-value : goal.returns-clause-value
returns-clause-value c = IfOk-weaker c.put_where.result _ _ (λ r h v o.
    let a = c.args.a.now in
    let at = c.args.at.now in
    let put = c.args.put.now in
    let spot = c.args.spot.now in
    let w : ℕ = length put in
    let o2 = Obeys-older v _ _ c.put_where.ensures.grew.grows o in
    let o1 = Obeys-older v _ _ c.in_ok-plain.ensures.grew.grows o2 in
    let back : Bool = holds v c.in_ok-fine.field-0.back in
    let far : ℕ = number v c.deref.result.now in
    let sb : Bool = c.start_of-start.result.back in
    let sf : ℕ = c.start_of-start.result.far in
    let parts : c.deref-2.result.now ≡ laid_of (padded (w - 1) a) put (w - 1) (length a) = c.deref-2.ensures.value ∙ c.in_ok-parts.ensures in
    put_by v spot a at put back sb (holds v c.in_ok-fine.field-0.fine) far sf (bits v c.in_ok-plain.plain.items) (each (kept_bit (bits v put)) (bits v a)) (bits v r.items) o.bottom c.requires.some c.requires.some_put c.requires.wide
    (c.in_ok-fine.ensures.fine v o1) (c.in_ok-fine.ensures.back v o1)
    (ap (λ (xs : List Lit). number v xs) c.deref.ensures.value ∙ c.in_ok-fine.ensures.far v o1)
    c.start_of-start.ensures.is
    (c.in_ok-plain.ensures.value v o2 ∙
    ap (λ (xs : List (List Pair)). picked (map (λ (q : List Pair). bits v q) xs) (begin_at back far c.args.each sb sf) (bits v a)) parts ∙
    ap (λ n. picked (map (λ (q : List Pair). bits v q) (laid_of (padded (w - 1) a) put (w - 1) (length a))) (begin_at back far n sb sf) (bits v a)) c.requires.each_is)
    refl (h v o)) c.put_where.ensures.value

pub returns-in_err-fine-clause-word : goal.returns-in_err-fine-clause-word
returns-in_err-fine-clause-word c = IfOk-from_err _ _ c.from_residual.ensures.0

pub returns-in_err-fine-clause-value : goal.returns-in_err-fine-clause-value
returns-in_err-fine-clause-value c = IfOk-from_err _ _ c.from_residual.ensures.0

pub returns-in_err-parts-clause-word : goal.returns-in_err-parts-clause-word
returns-in_err-parts-clause-word c = IfOk-from_err _ _ c.from_residual-in_err-parts.ensures.0

pub returns-in_err-parts-clause-value : goal.returns-in_err-parts-clause-value
returns-in_err-parts-clause-value c = IfOk-from_err _ _ c.from_residual-in_err-parts.ensures.0

pub returns-in_err-plain-clause-word : goal.returns-in_err-plain-clause-word
returns-in_err-plain-clause-word c = IfOk-from_err _ _ c.from_residual-in_err-plain.ensures.0

pub returns-in_err-plain-clause-value : goal.returns-in_err-plain-clause-value
returns-in_err-plain-clause-value c = IfOk-from_err _ _ c.from_residual-in_err-plain.ensures.0

pub sought-requires-clause-node : goal.sought-requires-clause-node
sought-requires-clause-node c = c.requires.node

pub sought-requires-clause-some : goal.sought-requires-clause-some
sought-requires-clause-some c = c.requires.some_at

pub sought-requires-clause-at_in : goal.sought-requires-clause-at_in
sought-requires-clause-at_in c = c.requires.at_in

pub led_to-requires-clause-node : goal.led_to-requires-clause-node
led_to-requires-clause-node c = let longer = c.in_ok-fine.ensures.grew.grows.longer in omega (arith, c.requires.node, longer)

pub led_to-requires-clause-near : goal.led_to-requires-clause-near
led_to-requires-clause-near c = c.start_of-start.ensures.near

pub led_to-requires-clause-back_in : goal.led_to-requires-clause-back_in
led_to-requires-clause-back_in c = c.in_ok-fine.ensures.back_in

pub led_to-requires-clause-far_in : goal.led_to-requires-clause-far_in
led_to-requires-clause-far_in c = literals_at c.sought.new.aig _ c.deref.result.now c.deref.ensures.value c.in_ok-fine.ensures.word.inside

pub led_to-requires-clause-none_in : goal.led_to-requires-clause-none_in
led_to-requires-clause-none_in c = wired-later c.args.aig.now c.sought.new.aig c.args.a.now c.in_ok-fine.ensures.grew.grows c.requires.a_in

pub put_where-requires-clause-same : goal.put_where-requires-clause-same
put_where-requires-clause-same c = c.in_ok-plain.ensures.word.long

pub put_where-requires-clause-fine_in : goal.put_where-requires-clause-fine_in
put_where-requires-clause-fine_in c = IsIn-later c.sought.new.aig c.led_to.new.aig c.in_ok-fine.field-0.fine c.in_ok-plain.ensures.grew.grows c.in_ok-fine.ensures.fine_in

pub put_where-requires-clause-plain_in : goal.put_where-requires-clause-plain_in
put_where-requires-clause-plain_in c = c.in_ok-plain.ensures.word.inside

pub put_where-requires-clause-a_in : goal.put_where-requires-clause-a_in
put_where-requires-clause-a_in c = wired-later c.args.aig.now c.led_to.new.aig c.args.a.now (Grows-trans c.args.aig.now c.sought.new.aig c.led_to.new.aig c.in_ok-fine.ensures.grew.grows c.in_ok-plain.ensures.grew.grows) c.requires.a_in

pub put_where-requires-clause-put_in : goal.put_where-requires-clause-put_in
put_where-requires-clause-put_in c = wired-later c.args.aig.now c.led_to.new.aig c.args.put.now (Grows-trans c.args.aig.now c.sought.new.aig c.led_to.new.aig c.in_ok-fine.ensures.grew.grows c.in_ok-plain.ensures.grew.grows) c.requires.put_in

pub layings-requires-clause-some : goal.layings-requires-clause-some
layings-requires-clause-some c = c.requires.some

pub layings-requires-clause-some_put : goal.layings-requires-clause-some_put
layings-requires-clause-some_put c = c.requires.some_put

pub returns-clause-word : goal.returns-clause-word
returns-clause-word c = c.put_where.ensures.word
