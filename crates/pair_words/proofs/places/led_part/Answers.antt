use Rattle.std.proofs.Common.{◌≡◌, ℕ, Bool, List, length, map, replicate, refl, sym, ap, subst, ◌∙◌, ◌+◌, ◌*◌, [], get_or}
use Rattle.std.specs.Prelude.{ℤ}
use Rattle.std.proofs.lemmas.Result.{IfOk-weaker, IfOk-from_err}
use Rattle.std.proofs.lemmas.List.{length-map, length-replicate}
use Rattle.aig.specs.Graph.{holds}
use Rattle.aig.proofs.Growth.{Obeys-older}
use Rattle.aig_words.specs.Words.{number}
use Rattle.aig_words.proofs.Numbers.{number-below}
use Rattle.fourvec.specs.declared.Bit.{Bit}
use Rattle.fourvec.specs.declared.Bit.TheVariants.{Unknown}
use Rattle.fourvec.specs.Bits.{all_x}
use Rattle.pair_words.specs.declared.pairs.Pair.{Pair}
use Rattle.pair_words.specs.Rails.{bits, IsWired, IsVector}
use Rattle.pair_words.specs.Ways.{constant_pair}
use Rattle.pair_words.specs.Starts.{IsPlace, picked, begin_at}
use Rattle.pair_words.proofs.Moving.{constant_is, replicate_is, constant_wired}
use Rattle.pair_words.proofs.Starting.{picked_there}
use Rattle.aig_words.proofs.Grown.{Grew-refl}
use Rattle.std.specs.List.{All}
use Rattle.std.proofs.lemmas.List.Elements.{All-replicate}
use Rattle.pair_words.proofs.Growing.{vector_at, wired_at, Grew_at}
use Rattle.pair_words.proofs.places.led_part.Goals as goal

pub returns-then-always_leads-clause-value : goal.returns-then-always_leads-clause-value
returns-then-always_leads-clause-value c = IfOk-weaker c.led_to.result _ _ (λ r h v o.
    let parts = c.args.parts.now in
    let spot = c.args.spot.now in
    let far : ℕ = number v c.args.far.now in
    let sb : Bool = c.args.start.back in
    let sf : ℕ = c.args.start.far in
    let z : ℤ = begin_at (holds v c.args.back) far c.args.each sb sf in
    let eb : holds v c.args.back ≡ spot.negate = c.requires.back_is (c.if-always_leads.ensures.plain refl) v (Obeys-older v _ _ c.led_to.ensures.grew.grows o) in
    let ee : c.args.each ≡ spot.each = c.requires.each_is in
    let same : begin_at spot.negate far spot.each sb sf ≡ z = λ i. begin_at (sym eb i) far (sym ee i) sb sf in
    let there : IsPlace (length parts) z = subst (λ q. IsPlace (length parts) q) same (c.if-always_leads.ensures.all refl far (number-below v c.args.far.now)) in
    h v o ∙ picked_there (map (λ (q : List Pair). bits v q) parts) z _ (all_x c.args.width) (subst (λ n. IsPlace n z) (sym (length-map parts (λ (q : List Pair). bits v q))) there)) c.led_to.ensures.value

pub returns-in_ok-none-clause-value : goal.returns-in_ok-none-clause-value
returns-in_ok-none-clause-value c = IfOk-weaker c.led_to-else-always_leads.result _ _ (λ r h v o.
    let w : ℕ = c.args.width in
    let z : ℤ = begin_at (holds v c.args.back) (number v c.args.far.now) c.args.each c.args.start.back c.args.start.far in
    h v o ∙ ap (λ (d : List Bit). picked (map (λ (q : List Pair). bits v q) c.args.parts.now) z d)
    (ap (λ (xs : List Pair). bits v xs) (c.deref.ensures.value ∙ c.in_ok-none.ensures) ∙ replicate_is v w (constant_pair Unknown) ∙ ap (λ (t : Bit). replicate w t) (constant_is v Unknown o.bottom))) c.led_to-else-always_leads.ensures.value

pub returns-in_err-none-clause-value : goal.returns-in_err-none-clause-value
returns-in_err-none-clause-value c = IfOk-from_err _ _ c.from_residual.ensures.0

pub returns-in_err-none-clause-word : goal.returns-in_err-none-clause-word
returns-in_err-none-clause-word c = IfOk-from_err _ _ c.from_residual.ensures.0

pub led_to-requires-clause-node : goal.led_to-requires-clause-node
led_to-requires-clause-node c = c.requires.node

pub led_to-requires-clause-near : goal.led_to-requires-clause-near
led_to-requires-clause-near c = c.requires.near

pub led_to-requires-clause-back_in : goal.led_to-requires-clause-back_in
led_to-requires-clause-back_in c = c.requires.back_in

pub led_to-requires-clause-far_in : goal.led_to-requires-clause-far_in
led_to-requires-clause-far_in c = c.requires.far_in

pub led_to-requires-clause-parts_in : goal.led_to-requires-clause-parts_in
led_to-requires-clause-parts_in c =
    let parts = c.args.parts.now in
    let fits = c.requires.parts_in c.args.start.far [] (c.if-always_leads.ensures.first refl) in
    let long : length c.nth-some.result.now ≡ c.args.width = ap (λ (xs : List Pair). length xs) c.nth-some.ensures ∙ fits.long in
    subst (λ n. All (IsVector c.args.aig.now n) c.args.parts.now) (sym long) c.requires.parts_in

pub led_to-requires-else-always_leads-clause-node : goal.led_to-requires-else-always_leads-clause-node
led_to-requires-else-always_leads-clause-node c = c.requires.node

pub led_to-requires-else-always_leads-clause-near : goal.led_to-requires-else-always_leads-clause-near
led_to-requires-else-always_leads-clause-near c = c.requires.near

pub led_to-requires-else-always_leads-clause-back_in : goal.led_to-requires-else-always_leads-clause-back_in
led_to-requires-else-always_leads-clause-back_in c = c.requires.back_in

pub led_to-requires-else-always_leads-clause-far_in : goal.led_to-requires-else-always_leads-clause-far_in
led_to-requires-else-always_leads-clause-far_in c = c.requires.far_in

pub led_to-requires-else-always_leads-clause-parts_in : goal.led_to-requires-else-always_leads-clause-parts_in
led_to-requires-else-always_leads-clause-parts_in c =
    let w : ℕ = c.args.width in
    let same : c.deref.result.now ≡ replicate w (constant_pair Unknown) = c.deref.ensures.value ∙ c.in_ok-none.ensures in
    let long : length c.deref.result.now ≡ w = ap (λ (xs : List Pair). length xs) same ∙ length-replicate w (constant_pair Unknown) in
    subst (λ n. All (IsVector c.args.aig.now n) c.args.parts.now) (sym long) c.requires.parts_in

pub led_to-requires-clause-none_in : goal.led_to-requires-clause-none_in
led_to-requires-clause-none_in c =
    let parts = c.args.parts.now in
    let fits = c.requires.parts_in c.args.start.far [] (c.if-always_leads.ensures.first refl) in
    let long : length c.nth-some.result.now ≡ c.args.width = ap (λ (xs : List Pair). length xs) c.nth-some.ensures ∙ fits.long in
    wired_at c.args.aig.now (get_or parts c.args.start.far []) c.nth-some.result.now c.nth-some.ensures fits.inside

pub led_to-requires-else-always_leads-clause-none_in : goal.led_to-requires-else-always_leads-clause-none_in
led_to-requires-else-always_leads-clause-none_in c =
    let w : ℕ = c.args.width in
    let same : c.deref.result.now ≡ replicate w (constant_pair Unknown) = c.deref.ensures.value ∙ c.in_ok-none.ensures in
    let long : length c.deref.result.now ≡ w = ap (λ (xs : List Pair). length xs) same ∙ length-replicate w (constant_pair Unknown) in
    wired_at c.args.aig.now (replicate w (constant_pair Unknown)) c.deref.result.now same (All-replicate (IsWired c.args.aig.now) w (constant_pair Unknown) (constant_wired c.args.aig.now Unknown c.requires.node))

pub returns-then-always_leads-clause-grew : goal.returns-then-always_leads-clause-grew
returns-then-always_leads-clause-grew c =
    let parts = c.args.parts.now in
    let fits = c.requires.parts_in c.args.start.far [] (c.if-always_leads.ensures.first refl) in
    let long : length c.nth-some.result.now ≡ c.args.width = ap (λ (xs : List Pair). length xs) c.nth-some.ensures ∙ fits.long in
    Grew_at ((2 * length c.args.far.now + 3 + 6 * length c.nth-some.result.now) * length c.args.parts.now) ((2 * length c.args.far.now + 3 + 6 * c.args.width) * length c.args.parts.now) c.args.aig.now _ (λ i. (2 * length c.args.far.now + 3 + 6 * long i) * length c.args.parts.now) c.led_to.ensures.grew

pub returns-in_ok-none-clause-grew : goal.returns-in_ok-none-clause-grew
returns-in_ok-none-clause-grew c =
    let w : ℕ = c.args.width in
    let same : c.deref.result.now ≡ replicate w (constant_pair Unknown) = c.deref.ensures.value ∙ c.in_ok-none.ensures in
    let long : length c.deref.result.now ≡ w = ap (λ (xs : List Pair). length xs) same ∙ length-replicate w (constant_pair Unknown) in
    Grew_at ((2 * length c.args.far.now + 3 + 6 * length c.deref.result.now) * length c.args.parts.now) ((2 * length c.args.far.now + 3 + 6 * w) * length c.args.parts.now) c.args.aig.now _ (λ i. (2 * length c.args.far.now + 3 + 6 * long i) * length c.args.parts.now) c.led_to-else-always_leads.ensures.grew

pub returns-in_err-none-clause-grew : goal.returns-in_err-none-clause-grew
returns-in_err-none-clause-grew c = Grew-refl _ c.args.aig.now

pub returns-then-always_leads-clause-word : goal.returns-then-always_leads-clause-word
returns-then-always_leads-clause-word c =
    let parts = c.args.parts.now in
    let fits = c.requires.parts_in c.args.start.far [] (c.if-always_leads.ensures.first refl) in
    let long : length c.nth-some.result.now ≡ c.args.width = ap (λ (xs : List Pair). length xs) c.nth-some.ensures ∙ fits.long in
    IfOk-weaker c.led_to.result _ _ (λ r h. vector_at _ _ c.args.width r.items long h) c.led_to.ensures.word

pub returns-in_ok-none-clause-word : goal.returns-in_ok-none-clause-word
returns-in_ok-none-clause-word c =
    let w : ℕ = c.args.width in
    let same : c.deref.result.now ≡ replicate w (constant_pair Unknown) = c.deref.ensures.value ∙ c.in_ok-none.ensures in
    let long : length c.deref.result.now ≡ w = ap (λ (xs : List Pair). length xs) same ∙ length-replicate w (constant_pair Unknown) in
    IfOk-weaker c.led_to-else-always_leads.result _ _ (λ r h. vector_at _ _ w r.items long h) c.led_to-else-always_leads.ensures.word
