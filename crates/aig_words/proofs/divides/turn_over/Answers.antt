use Rattle.std.proofs.Common.{◌≡◌, ℕ, ◌-◌, ◌+◌, ◌*◌, ◌≤◌, Bool, not, ◌&&◌, List, length, drop, cond, ltb, ap, sym, subst, ◌∙◌, arith, length-drop}
use Rattle.std.proofs.lemmas.Result.{IfOk-from_err}
use Rattle.std.proofs.lemmas.List.{take_rest, length-take-le}
use Rattle.std.proofs.lemmas.List.Elements.{All-drop, All-take}
use Rattle.aig.specs.declared.gate.Lit.{Lit}
use Rattle.aig.specs.Graph.{holds, IsIn}
use Rattle.aig.proofs.Growth.{Grows-trans, Obeys-older}
use Rattle.aig.proofs.Values.{always_from}
use Rattle.aig_words.specs.Words.{Grew, IsWord, number}
use Rattle.aig_words.proofs.Grown.{Grew-then, Grew-wider, All-later, some_node, turn_fits}
use Rattle.aig_words.proofs.Numbers.{turn_value}
use Rattle.aig_words.proofs.divides.turn_over.Goals as goal

pub difference-requires-clause-same : goal.difference-requires-clause-same
difference-requires-clause-same c = sym (length-take-le (length c.args.shifted.now) c.args.b.now c.requires.short)

pub difference-requires-clause-b_in : goal.difference-requires-clause-b_in
difference-requires-clause-b_in c = All-take (IsIn c.args.aig.now) (length c.args.shifted.now) c.args.b.now c.requires.b_in

pub goes_in-requires-clause-some : goal.goes_in-requires-clause-some
goes_in-requires-clause-some c = omega (arith, some_node c.args.aig.now c.args.shifted.now c.requires.some c.requires.shifted_in, c.in_ok-word.ensures.grew.grows.longer)

pub goes_in-requires-clause-carry_in : goal.goes_in-requires-clause-carry_in
goes_in-requires-clause-carry_in c = c.in_ok-word.ensures.carry_out

pub goes_in-requires-clause-above_in : goal.goes_in-requires-clause-above_in
goes_in-requires-clause-above_in c =
    let b = c.args.b.now in
    let n = length c.args.shifted.now in
    All-take (IsIn c.difference.new.aig) (length b - n) (drop n b) (All-drop (IsIn c.difference.new.aig) n b (All-later c.args.aig.now c.difference.new.aig b c.in_ok-word.ensures.grew.grows c.requires.b_in))

pub mux-requires-clause-some : goal.mux-requires-clause-some
mux-requires-clause-some c = omega (arith, c.requires.some, ap (λ (xs : List Lit). length xs) c.deref.ensures.value, c.in_ok-word.ensures.word.long)

pub mux-requires-clause-same : goal.mux-requires-clause-same
mux-requires-clause-same c = ap (λ (xs : List Lit). length xs) c.deref.ensures.value ∙ c.in_ok-word.ensures.word.long

pub mux-requires-clause-c_in : goal.mux-requires-clause-c_in
mux-requires-clause-c_in c = c.in_ok-bit.ensures.within

pub mux-requires-clause-a_in : goal.mux-requires-clause-a_in
mux-requires-clause-a_in c = rw c.deref.ensures.value (All-later c.difference.new.aig c.goes_in.new.aig c.in_ok-word.field-0.word.items c.in_ok-bit.ensures.grew.grows c.in_ok-word.ensures.word.inside)

pub mux-requires-clause-b_in : goal.mux-requires-clause-b_in
mux-requires-clause-b_in c = All-later c.args.aig.now c.goes_in.new.aig c.args.shifted.now (Grows-trans c.args.aig.now c.difference.new.aig c.goes_in.new.aig c.in_ok-word.ensures.grew.grows c.in_ok-bit.ensures.grew.grows) c.requires.shifted_in

pub returns-clause-bit_out : goal.returns-clause-bit_out
returns-clause-bit_out c = omega (arith, c.in_ok-bit.ensures.within, c.in_ok-rest.ensures.grew.grows.longer)

pub returns-clause-word : goal.returns-clause-word
returns-clause-word c = subst (λ (n : ℕ). IsWord c.mux.new.aig n c.in_ok-rest.rest.items) (ap (λ (xs : List Lit). length xs) c.deref.ensures.value ∙ c.in_ok-word.ensures.word.long) c.in_ok-rest.ensures.word

pub returns-clause-value : goal.returns-clause-value
returns-clause-value c = always_from _ _ c.in_ok-rest.ensures.value.graph (λ v o less.
    let shifted = c.args.shifted.now in
    let b = c.args.b.now in
    let n = length shifted in
    let carry : Bool = holds v c.in_ok-word.field-0.carry in
    let taken : Bool = holds v c.in_ok-bit.bit in
    let word = c.in_ok-word.field-0.word.items in
    let o2 = Obeys-older v _ _ c.in_ok-rest.ensures.grew.grows o in
    let o1 = Obeys-older v _ _ c.in_ok-bit.ensures.grew.grows o2 in
    let fits : taken ≡ (carry && not (ltb 0 (number v (drop n b)))) = c.in_ok-bit.ensures.value.obeyed v o2 ∙ ap (λ (xs : List Lit). carry && not (ltb 0 (number v xs))) (take_rest b n) in
    let left : number v c.in_ok-rest.rest.items ≡ cond taken (number v word) (number v shifted) =
    c.in_ok-rest.ensures.value.obeyed v o ∙ ap (λ (xs : List Lit). cond taken (number v xs) (number v shifted)) c.deref.ensures.value in
    turn_value v shifted b word c.in_ok-rest.rest.items carry taken c.requires.short c.in_ok-word.ensures.word.long less (c.in_ok-word.ensures.value.obeyed v o1) fits left)

-- ---- what the graph has grown by, also where memory ends

pub returns-clause-grew : goal.returns-clause-grew
returns-clause-grew c =
    let b = c.args.b.now in
    let l = length b in
    let n = length c.args.shifted.now in
    let d = length (drop n b) in
    let most : 7 * n + (d + (1 + 3 * n)) ≤ 11 * l = turn_fits n d l (omega (arith, c.requires.some, c.requires.short)) (omega (arith, length-drop n b, c.requires.short)) in
    let wide : length c.deref.result.now ≡ n = ap (λ (xs : List Lit). length xs) c.deref.ensures.value ∙ c.in_ok-word.ensures.word.long in
    let g2 : Grew (7 * n + (d + 1)) c.args.aig.now c.goes_in.new.aig = Grew-then (7 * n) (d + 1) (7 * n + (d + 1)) c.args.aig.now c.difference.new.aig _ (omega arith) c.in_ok-word.ensures.grew
    (subst (λ (xs : List Lit). Grew (length xs + 1) c.difference.new.aig c.goes_in.new.aig) (take_rest b n) c.in_ok-bit.ensures.grew) in
    Grew-then (7 * n + (d + 1)) (3 * length c.deref.result.now) (11 * l) c.args.aig.now c.goes_in.new.aig _ (omega (arith, most, ap (λ k. 3 * k) wide)) g2 c.in_ok-rest.ensures.grew

pub returns-in_err-word-clause-grew : goal.returns-in_err-word-clause-grew
returns-in_err-word-clause-grew c = Grew-wider (7 * length c.args.shifted.now) (11 * length c.args.b.now) c.args.aig.now _ (omega (arith, c.requires.short)) c.in_err-word.ensures.grew

pub returns-in_err-bit-clause-grew : goal.returns-in_err-bit-clause-grew
returns-in_err-bit-clause-grew c =
    let b = c.args.b.now in
    let l = length b in
    let n = length c.args.shifted.now in
    let d = length (drop n b) in
    let most : 7 * n + (d + (1 + 3 * n)) ≤ 11 * l = turn_fits n d l (omega (arith, c.requires.some, c.requires.short)) (omega (arith, length-drop n b, c.requires.short)) in
    Grew-then (7 * n) (d + 1) (11 * l) c.args.aig.now c.difference.new.aig _ (omega (arith, most)) c.in_ok-word.ensures.grew
    (subst (λ (xs : List Lit). Grew (length xs + 1) c.difference.new.aig c.goes_in.new.aig) (take_rest b n) c.in_err-bit.ensures.grew)

pub returns-in_err-rest-clause-grew : goal.returns-in_err-rest-clause-grew
returns-in_err-rest-clause-grew c =
    let b = c.args.b.now in
    let l = length b in
    let n = length c.args.shifted.now in
    let d = length (drop n b) in
    let most : 7 * n + (d + (1 + 3 * n)) ≤ 11 * l = turn_fits n d l (omega (arith, c.requires.some, c.requires.short)) (omega (arith, length-drop n b, c.requires.short)) in
    let wide : length c.deref.result.now ≡ n = ap (λ (xs : List Lit). length xs) c.deref.ensures.value ∙ c.in_ok-word.ensures.word.long in
    let g2 : Grew (7 * n + (d + 1)) c.args.aig.now c.goes_in.new.aig = Grew-then (7 * n) (d + 1) (7 * n + (d + 1)) c.args.aig.now c.difference.new.aig _ (omega arith) c.in_ok-word.ensures.grew
    (subst (λ (xs : List Lit). Grew (length xs + 1) c.difference.new.aig c.goes_in.new.aig) (take_rest b n) c.in_ok-bit.ensures.grew) in
    Grew-then (7 * n + (d + 1)) (3 * length c.deref.result.now) (11 * l) c.args.aig.now c.goes_in.new.aig _ (omega (arith, most, ap (λ k. 3 * k) wide)) g2 c.in_err-rest.ensures.grew

pub returns-in_err-word-clause-bit_out : goal.returns-in_err-word-clause-bit_out
returns-in_err-word-clause-bit_out c = IfOk-from_err _ _ c.from_residual.ensures.0

pub returns-in_err-word-clause-word : goal.returns-in_err-word-clause-word
returns-in_err-word-clause-word c = IfOk-from_err _ _ c.from_residual.ensures.0

pub returns-in_err-word-clause-value : goal.returns-in_err-word-clause-value
returns-in_err-word-clause-value c = IfOk-from_err _ _ c.from_residual.ensures.0

pub returns-in_err-bit-clause-bit_out : goal.returns-in_err-bit-clause-bit_out
returns-in_err-bit-clause-bit_out c = IfOk-from_err _ _ c.from_residual-in_err-bit.ensures.0

pub returns-in_err-bit-clause-word : goal.returns-in_err-bit-clause-word
returns-in_err-bit-clause-word c = IfOk-from_err _ _ c.from_residual-in_err-bit.ensures.0

pub returns-in_err-bit-clause-value : goal.returns-in_err-bit-clause-value
returns-in_err-bit-clause-value c = IfOk-from_err _ _ c.from_residual-in_err-bit.ensures.0

pub returns-in_err-rest-clause-bit_out : goal.returns-in_err-rest-clause-bit_out
returns-in_err-rest-clause-bit_out c = IfOk-from_err _ _ c.from_residual-in_err-rest.ensures.0

pub returns-in_err-rest-clause-word : goal.returns-in_err-rest-clause-word
returns-in_err-rest-clause-word c = IfOk-from_err _ _ c.from_residual-in_err-rest.ensures.0

pub returns-in_err-rest-clause-value : goal.returns-in_err-rest-clause-value
returns-in_err-rest-clause-value c = IfOk-from_err _ _ c.from_residual-in_err-rest.ensures.0
