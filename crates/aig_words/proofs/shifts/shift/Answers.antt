use Rattle.std.proofs.Common.{◌≡◌, ℕ, ◌+◌, ◌-◌, ◌*◌, ◌^◌, ◌<◌, ◌≤◌, Bool, false, List, length, get_or, drop, cond, ltb, ap, sym, subst, refl, ◌∙◌, arith, add-one, length-drop}
use Rattle.std.proofs.Math.Nat.{pow-suc}
use Rattle.std.proofs.lemmas.List.{drop_all, take_rest}
use Rattle.std.proofs.lemmas.List.Elements.{All-drop, All-take}
use Rattle.std.proofs.lemmas.Result.{IfOk-from_err}
use Rattle.aig.specs.declared.gate.Lit.{Lit}
use Rattle.aig.specs.Graph.{holds, constant_lit, IsIn}
use Rattle.aig.proofs.Growth.{Grows-trans, Obeys-older}
use Rattle.aig.proofs.Values.{always_from}
use Rattle.aig_words.specs.Words.{number, Grew, IsWord, shifted}
use Rattle.aig_words.proofs.Steps.{stages_fit}
use Rattle.aig_words.proofs.Grown.{Grew-refl, Grew-then, Grew-stages, IsIn-later, All-later, some_node, fills_later, if_ok}
use Rattle.aig_words.proofs.Numbers.{number-nil, number-below}
use Rattle.aig_words.proofs.Moves.{shifted_none, shift_more, shift_end}
use Rattle.aig_words.proofs.shifts.shift.Goals as goal
use Rattle.aig_words.proofs.shifts.shift.Goals.{then-loop-j-test+else-k-a, else-loop-j-test}

pub loop-j-init : goal.loop-j-init
loop-j-init c =
    let a = c.args.a.now in
    rw c.in_ok-word.ensures.items (record {
      grew = Grew-refl _ c.args.aig.now;
      within = omega arith;
      step = refl;
      word = record { long = refl; inside = c.requires.a_in };
      value = λ v o. sym (ap (λ n. shifted v c.args.way (length a) (number v a) n) (number-nil v) ∙ shifted_none v c.args.way (length a) (number v a) (number-below v a));
    })

pub any-requires-clause-some : goal.any-requires-clause-some
any-requires-clause-some c =
    let node : 0 < length c.args.aig.now = some_node c.args.aig.now c.args.a.now c.requires.some c.requires.a_in in
    omega (arith, c.loop-j.invariant.grew.grows.longer)

pub any-requires-clause-a_in : goal.any-requires-clause-a_in
any-requires-clause-a_in c =
    let b = c.args.b.now in
    let j = c.loop-j.j in
    All-take (IsIn c.loop-j.aig) (length b - j) (drop j b) (All-drop (IsIn c.loop-j.aig) j b (All-later c.args.aig.now c.loop-j.aig b c.loop-j.invariant.grew.grows c.requires.b_in))

pub moved_if-requires-clause-some : goal.moved_if-requires-clause-some
moved_if-requires-clause-some c = omega (arith, c.requires.some, ap (λ (xs : List Lit). length xs) c.deref.ensures.value, c.loop-j.invariant.word.long)

pub moved_if-requires-clause-within : goal.moved_if-requires-clause-within
moved_if-requires-clause-within c = omega (arith, c.if-k-a.true, ap (λ (xs : List Lit). length xs) c.deref.ensures.value, c.loop-j.invariant.word.long)

pub moved_if-requires-clause-same : goal.moved_if-requires-clause-same
moved_if-requires-clause-same c = ap (λ (xs : List Lit). length xs) (c.deref.ensures.value ∙ sym c.deref-in-loop-j.ensures.value)

pub moved_if-requires-clause-condition_in : goal.moved_if-requires-clause-condition_in
moved_if-requires-clause-condition_in c = IsIn-later c.args.aig.now c.loop-j.aig (get_or c.args.b.now c.loop-j.j (constant_lit false)) c.loop-j.invariant.grew.grows (c.requires.b_in c.loop-j.j (constant_lit false) c.loop-j-test.true)

pub moved_if-requires-clause-way_in : goal.moved_if-requires-clause-way_in
moved_if-requires-clause-way_in c = fills_later c.args.aig.now c.loop-j.aig c.args.way c.loop-j.invariant.grew.grows c.requires.way_in

pub moved_if-requires-clause-a_in : goal.moved_if-requires-clause-a_in
moved_if-requires-clause-a_in c = rw c.deref.ensures.value c.loop-j.invariant.word.inside

pub moved_if-requires-clause-kept_in : goal.moved_if-requires-clause-kept_in
moved_if-requires-clause-kept_in c = rw c.deref-in-loop-j.ensures.value c.loop-j.invariant.word.inside

pub loop-j-preserved : goal.loop-j-preserved
loop-j-preserved c =
    let a = c.args.a.now in
    let b = c.args.b.now in
    let j = c.loop-j.j in
    let k = c.loop-j.k in
    let way = c.args.way in
    let word = c.loop-j.word.items in
    let long = c.loop-j.invariant.word.long in
    let wide : length c.deref.result.now ≡ length a = ap (λ (xs : List Lit). length xs) c.deref.ensures.value ∙ long in
    let p : 2 ^ (j + 1) ≡ 2 ^ j * 2 = rw add-one (pow-suc 2 j) in
    let ek : k ≡ 2 ^ j = omega (arith, c.loop-j.invariant.step, c.if-k-a.true) in
    record {
      grew = Grew-then (3 * length a * j) _ (3 * length a * (j + 1)) c.args.aig.now c.loop-j.aig _ (omega arith) c.loop-j.invariant.grew c.in_ok-word-2.ensures.grew;
      within = omega (arith, c.loop-j-test.true);
      step = omega (arith, c.loop-j.invariant.step, c.saturating_mul-k.ensures);
      word = subst (λ (n : ℕ). IsWord c.moved_if.new.aig n c.in_ok-word-2.word.items) wide c.in_ok-word-2.ensures.word;
      value = λ v o.
          let o1 = Obeys-older v _ _ c.in_ok-word-2.ensures.grew.grows o in
          let x : Bool = holds v (get_or b j (constant_lit false)) in
          let e : number v c.in_ok-word-2.word.items ≡ cond x (shifted v way (length a) (number v word) k) (number v word) =
          c.in_ok-word-2.ensures.value.obeyed v o ∙ ap (λ (n : ℕ). cond x (shifted v way n (number v c.deref.result.now) k) (number v c.deref-in-loop-j.result.now)) wide ∙
          ap (λ (xs : List Lit). cond x (shifted v way (length a) (number v xs) k) (number v c.deref-in-loop-j.result.now)) c.deref.ensures.value ∙
          ap (λ (xs : List Lit). cond x (shifted v way (length a) (number v word) k) (number v xs)) c.deref-in-loop-j.ensures.value in
          shift_more v way b (length a) (number v a) j k (number v word) (number v c.in_ok-word-2.word.items) c.loop-j-test.true ek (c.loop-j.invariant.value v o1) e;
    }

-- ---- the bits that no stage has looked at

pub moved_if-requires-2-clause-same : goal.moved_if-requires-2-clause-same
moved_if-requires-2-clause-same c = sym (ap (λ (xs : List Lit). length xs) c.deref-2.ensures.value ∙ c.loop-j.invariant.word.long)

pub moved_if-requires-2-clause-condition_in : goal.moved_if-requires-2-clause-condition_in
moved_if-requires-2-clause-condition_in c = c.in_ok-far.ensures.within

pub moved_if-requires-2-clause-way_in : goal.moved_if-requires-2-clause-way_in
moved_if-requires-2-clause-way_in c = fills_later c.args.aig.now c.any.new.aig c.args.way (Grows-trans c.args.aig.now c.loop-j.aig c.any.new.aig c.loop-j.invariant.grew.grows c.in_ok-far.ensures.grew.grows) c.requires.way_in

pub moved_if-requires-2-clause-a_in : goal.moved_if-requires-2-clause-a_in
moved_if-requires-2-clause-a_in c = All-later c.args.aig.now c.any.new.aig c.args.a.now (Grows-trans c.args.aig.now c.loop-j.aig c.any.new.aig c.loop-j.invariant.grew.grows c.in_ok-far.ensures.grew.grows) c.requires.a_in

pub moved_if-requires-2-clause-kept_in : goal.moved_if-requires-2-clause-kept_in
moved_if-requires-2-clause-kept_in c = rw c.deref-2.ensures.value (All-later c.loop-j.aig c.any.new.aig c.loop-j.word.items c.in_ok-far.ensures.grew.grows c.loop-j.invariant.word.inside)

pub returns-clause-grew : goal.returns-clause-grew
returns-clause-grew c =
    let a = c.args.a.now in
    let b = c.args.b.now in
    let j = c.loop-j.j in
    Grew-stages (length a) j (drop j b) c.args.aig.now c.loop-j.aig c.any.new.aig _ c.requires.some (omega (arith, c.loop-j.invariant.within, c.requires.same))
    (omega (arith, length-drop j b, c.requires.same)) c.loop-j.invariant.grew (subst (λ (xs : List Lit). Grew (length xs) c.loop-j.aig c.any.new.aig) (take_rest b j) c.in_ok-far.ensures.grew) c.moved_if-2.ensures.grew

pub returns-clause-word : goal.returns-clause-word
returns-clause-word c = c.moved_if-2.ensures.word

pub returns-clause-value : goal.returns-clause-value
returns-clause-value c = if_ok _ _ _ c.moved_if-2.ensures.value (λ r h. always_from _ _ h.graph (λ v o.
    let a = c.args.a.now in
    let b = c.args.b.now in
    let j = c.loop-j.j in
    let way = c.args.way in
    let o2 = Obeys-older v _ _ c.moved_if-2.ensures.grew.grows o in
    let o1 = Obeys-older v _ _ c.in_ok-far.ensures.grew.grows o2 in
    let far : Bool = holds v c.in_ok-far.far in
    let step = c.loop-j.invariant.step in
    let late : 0 < number v (drop j b) → length a ≤ 2 ^ j = elim c.loop-j-test.branch [
      | then-loop-j-test+else-k-a w ↦ λ h. omega (arith, w.if-k-a.false, step)
      | else-loop-j-test w ↦ λ h. absurd (let z : number v (drop j b) ≡ 0 = ap (λ (xs : List Lit). number v xs) (drop_all j b w.loop-j-test.false) ∙ number-nil v in omega arith)
    ] in
    let e : number v r.items ≡ cond far (shifted v way (length a) (number v a) (length a)) (number v c.loop-j.word.items) =
    h.obeyed v o ∙ ap (λ (xs : List Lit). cond far (shifted v way (length a) (number v a) (length a)) (number v xs)) c.deref-2.ensures.value in
    shift_end v way b (length a) (number v a) j (number v c.loop-j.word.items) (number v r.items) far (number-below v a) c.loop-j.invariant.within late (c.loop-j.invariant.value v o1)
    (c.in_ok-far.ensures.value v o2 ∙ ap (λ (xs : List Lit). ltb 0 (number v xs)) (take_rest b j)) e))

-- ---- where memory ends

pub returns-in_err-word-clause-grew : goal.returns-in_err-word-clause-grew
returns-in_err-word-clause-grew c = Grew-refl _ c.args.aig.now

pub returns-in_err-word-2-clause-grew : goal.returns-in_err-word-2-clause-grew
returns-in_err-word-2-clause-grew c =
    let l = length c.args.a.now in
    let j = c.loop-j.j in
    let wide : length c.deref.result.now ≡ l = ap (λ (xs : List Lit). length xs) c.deref.ensures.value ∙ c.loop-j.invariant.word.long in
    let most = stages_fit l j 0 c.requires.some (omega (arith, c.loop-j.invariant.within, c.requires.same)) (omega arith) in
    Grew-then (3 * l * j) (3 * length c.deref.result.now) (7 * l * l) c.args.aig.now c.loop-j.aig _ (omega (arith, most, ap (λ n. 3 * n) wide)) c.loop-j.invariant.grew c.in_err-word-2.ensures.grew

pub returns-in_err-far-clause-grew : goal.returns-in_err-far-clause-grew
returns-in_err-far-clause-grew c =
    let l = length c.args.a.now in
    let b = c.args.b.now in
    let j = c.loop-j.j in
    let few : length (drop j b) ≤ l = omega (arith, length-drop j b, c.requires.same) in
    let most = stages_fit l j (length (drop j b)) c.requires.some (omega (arith, c.loop-j.invariant.within, c.requires.same)) few in
    Grew-then (3 * l * j) (length (drop j b)) (7 * l * l) c.args.aig.now c.loop-j.aig _ (omega (arith, most)) c.loop-j.invariant.grew
    (subst (λ (xs : List Lit). Grew (length xs) c.loop-j.aig c.any.new.aig) (take_rest b j) c.in_err-far.ensures.grew)

pub returns-in_err-word-clause-word : goal.returns-in_err-word-clause-word
returns-in_err-word-clause-word c = IfOk-from_err _ _ c.from_residual.ensures.0

pub returns-in_err-word-clause-value : goal.returns-in_err-word-clause-value
returns-in_err-word-clause-value c = IfOk-from_err _ _ c.from_residual.ensures.0

pub returns-in_err-word-2-clause-word : goal.returns-in_err-word-2-clause-word
returns-in_err-word-2-clause-word c = IfOk-from_err _ _ c.from_residual-in_err-word-2.ensures.0

pub returns-in_err-word-2-clause-value : goal.returns-in_err-word-2-clause-value
returns-in_err-word-2-clause-value c = IfOk-from_err _ _ c.from_residual-in_err-word-2.ensures.0

pub returns-in_err-far-clause-word : goal.returns-in_err-far-clause-word
returns-in_err-far-clause-word c = IfOk-from_err _ _ c.from_residual-in_err-far.ensures.0

pub returns-in_err-far-clause-value : goal.returns-in_err-far-clause-value
returns-in_err-far-clause-value c = IfOk-from_err _ _ c.from_residual-in_err-far.ensures.0
