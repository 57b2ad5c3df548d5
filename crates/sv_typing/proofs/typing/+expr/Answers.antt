use Rattle.std.proofs.lemmas.Result.{err_from_is_err_and}
use Rattle.std.proofs.Common.{ℕ, ◌+◌, true, List, [], map, take, refl, sym, ap, ◌∙◌, subst, option_map, arith}
use Rattle.std.specs.Option.{option_copied}
use Rattle.sv_tree.specs.declared.exprs.RangeMark.TheVariants as mark
use Rattle.sv_tree.specs.declared.exprs.Select.{Select}
use Rattle.sv_tree.specs.declared.exprs.Select.TheVariants as s
use Rattle.sv_tree.specs.declared.exprs.SystemName.TheVariants as system_name
use Rattle.sv_meaning.specs.Layouts.{find}
use Rattle.sv_meaning.specs.Meanings.{named, from, of_literal, cast_to, to_member}
use Rattle.sv_meaning.specs.Values.{mean, step}
use Rattle.sv_typed.specs.declared.tree.Typed.{Typed}
use Rattle.sv_typed.specs.declared.tree.Pick.{Pick}
use Rattle.sv_typed.specs.Ops.{one_meaning}
use Rattle.sv_names.specs.Cursors.{cursor_is}
use Rattle.sv_typing.specs.Judging.{IsCause, Judges, Types, AreTyped}
use Rattle.sv_names.specs.Kinds.{what_is}
use Rattle.sv_names.specs.Names.{names_are, constants_are}
use Rattle.sv_typing.specs.Positions.{is_constant, seen_in}
use Rattle.sv_typing.specs.Picks.{Chains, Leads, rule_faults, rule_scope}
use Rattle.sv_typing.specs.Roots.{JudgesRoot}
use Rattle.sv_typing.proofs.Arms.{sound_of_judged, fixed_expr, judged_at, types_at, fixes_at, all_at, concat_at, repeat_at, judged_literal, judged_name, judged_paren, judged_concat, judged_repeat, judged_cast_literal, judged_cast_name, judged_cast_paren, judged_cast_sign, judged_system, system_is, judged_unary, judged_two, judged_choose, led_member, led_index, led_range, led_many, is_many, parts_start, parts_more, parts_all, parts_cause, chain_begins, chain_next, chain_cause, chain_ends}
use Rattle.sv_typing.proofs.typing.+expr.Goals as goal

pub fixed-returns : goal.fixed-returns
fixed-returns t c =
    let at = constants_are c.args.names.now in
    fixed_expr (mean at c.args.expr.now) c.start.result c.fixed_of.result (c.start.ensures at) (c.fixed_of.ensures (mean at c.args.expr.now) c.typed.ensures)

pub named_typed-returns-in-Ok : goal.named_typed-returns-in-Ok
named_typed-returns-in-Ok t c =
    let at = seen_in c.args.position (names_are c.args.names.now) in
    let w = c.args.word.now in
    let steps = map (step at) c.args.selects.now in
    let what = option_map what_is (option_copied c.found.result) in
    let led = subst (λ k. JudgesRoot w what k c.root_of.result) c.is_constant.ensures c.root_of.ensures in
    subst (λ o. Judges (named w o steps) (is_constant c.args.position) c.named_by.result) c.found.ensures.is
    (c.named_by.ensures w what c.args.position c.in-Ok.at steps (subst (JudgesRoot w what (is_constant c.args.position)) c.in-Ok.is led).0 c.chain_behind.ensures)

pub named_typed-returns-in-Err : goal.named_typed-returns-in-Err
named_typed-returns-in-Err t c =
    let w = c.args.word.now in
    let steps = map (step (seen_in c.args.position (names_are c.args.names.now))) c.args.selects.now in
    let what = option_map what_is (option_copied c.found.result) in
    let led = subst (λ k. JudgesRoot w what k c.root_of.result) c.is_constant.ensures c.root_of.ensures in
    subst (λ o. IsCause ((named w o steps).faults (is_constant c.args.position)) c.in-Err.why) c.found.ensures.is (subst (JudgesRoot w what (is_constant c.args.position)) c.in-Err.is led steps)

pub chain_behind-returns-in-Err : goal.chain_behind-returns-in-Err
chain_behind-returns-in-Err t c =
    let at = rule_scope c.args.rule (names_are c.args.names.now) in
    chain_cause at (rule_faults c.args.rule) (cursor_is c.args.at) (cursor_is c.selects.end) c.args.selects.now c.selects.select-index c.select-item.result c.selects.picks c.in-Err.why c.selects-test.true c.select-item.is
    c.selects.invariant.chains (subst (Leads (rule_faults c.args.rule) (cursor_is c.selects.end) (step at c.select-item.result)) c.in-Err.is c.select_step.ensures)

pub chain_behind-returns : goal.chain_behind-returns
chain_behind-returns t c =
    let at = rule_scope c.args.rule (names_are c.args.names.now) in
    chain_ends at (rule_faults c.args.rule) (cursor_is c.args.at) (cursor_is c.selects.end) c.args.selects.now c.selects.select-index c.selects.picks c.chain_of.result (omega arith)
    c.selects.invariant.chains c.chain_of.ensures.picks c.chain_of.ensures.width c.chain_of.ensures.signed

pub select_step-returns-in-Member : goal.select_step-returns-in-Member
select_step-returns-in-Member t c =
    let at = rule_scope c.args.rule (names_are c.args.names.now) in
    led_member at (rule_faults c.args.rule) (cursor_is c.args.at) c.args.select.now c.in-Member.place c.in-Member.word c.member_pick.result c.in-Member.is
    (subst (λ (n : List ℕ). Leads (rule_faults c.args.rule) (cursor_is c.args.at) (to_member c.in-Member.place n) c.member_pick.result) c.bytes.ensures (c.member_pick.ensures (rule_faults c.args.rule)))

pub select_step-returns-in-Index : goal.select_step-returns-in-Index
select_step-returns-in-Index t c =
    let at = rule_scope c.args.rule (names_are c.args.names.now) in
    led_index at (rule_faults c.args.rule) (cursor_is c.args.at) c.args.select.now c.in-Index.place c.in-Index.index c.index_pick.result c.in-Index.is
    (c.index_pick.ensures (rule_faults c.args.rule) (mean at c.in-Index.index) (types_at at (rule_faults c.args.rule) _ _ _ c.get.ensures c.typed_index.ensures))

pub select_step-returns-in-To : goal.select_step-returns-in-To
select_step-returns-in-To t c =
    let at = rule_scope c.args.rule (names_are c.args.names.now) in
    let above = constants_are c.args.names.now in
    led_range at (rule_faults c.args.rule) (cursor_is c.args.at) c.args.select.now c.in-Range.place c.in-Range.left mark.To c.in-Range.right c.between_pick.result (c.in-Range.is ∙ ap (λ z. s.Range c.in-Range.place c.in-Range.left z c.in-Range.right) c.in-To.is)
    (c.between_pick.ensures (rule_faults c.args.rule) (mean above c.in-Range.left) (mean above c.in-Range.right) (fixes_at above _ _ _ c.get-in-To.ensures c.fixed.ensures) (fixes_at above _ _ _ c.get-in-To-2.ensures c.fixed-in-To.ensures))

pub select_step-many_pick-requires : goal.select_step-many_pick-requires
select_step-many_pick-requires t c = record { at = c.requires; mark = is_many c.in-Range.mark c.in-Up.is }

pub select_step-returns-in-Up : goal.select_step-returns-in-Up
select_step-returns-in-Up t c =
    let at = rule_scope c.args.rule (names_are c.args.names.now) in
    let above = constants_are c.args.names.now in
    led_many at (rule_faults c.args.rule) (cursor_is c.args.at) c.args.select.now c.in-Range.place c.in-Range.left c.in-Range.mark c.in-Range.right c.many_pick.result c.in-Range.is (is_many c.in-Range.mark c.in-Up.is)
    (c.many_pick.ensures (rule_faults c.args.rule) (mean at c.in-Range.left) (mean above c.in-Range.right) (types_at at (rule_faults c.args.rule) _ _ _ c.get-in-Up.ensures c.typed_index-in-Up.ensures) (fixes_at above _ _ _ c.get-in-Up-2.ensures c.fixed-in-Up.ensures))

pub typed-fixed_of-requires : goal.typed-fixed_of-requires
typed-fixed_of-requires t c = sound_of_judged (of_literal c.in-CastLiteral.word) ((of_literal c.in-CastLiteral.word).faults true) c.literal_typed-in-CastLiteral.result (c.literal_typed-in-CastLiteral.ensures true)

pub typed-returns-in-Literal : goal.typed-returns-in-Literal
typed-returns-in-Literal t c =
    let at = seen_in c.args.position (names_are c.args.names.now) in
    let k = is_constant c.args.position in
    judged_literal at c.args.expr.now c.in-Literal.word k c.literal_typed.result c.in-Literal.is (c.literal_typed.ensures k)

pub typed-returns-in-Name : goal.typed-returns-in-Name
typed-returns-in-Name t c =
    let at = seen_in c.args.position (names_are c.args.names.now) in
    let k = is_constant c.args.position in
    let w = c.in-Name.word in
    judged_name at c.args.expr.now w c.in-Name.selects k c.named_typed.result c.in-Name.is
    (subst (λ (all : List Select). Judges (named w (find w.text at) (map (step at) all)) k c.named_typed.result) c.as_slice.ensures c.named_typed.ensures)

pub typed-returns-in-Paren : goal.typed-returns-in-Paren
typed-returns-in-Paren t c =
    let at = seen_in c.args.position (names_are c.args.names.now) in
    let k = is_constant c.args.position in
    judged_paren at c.args.expr.now c.in-Paren.field-0 c.in-Paren.inner k c.one_typed.result c.in-Paren.is
    (c.one_typed.ensures (mean at c.in-Paren.inner) k c.in-Paren.field-0 (judged_at at _ _ _ _ c.get.ensures c.typed.ensures))

pub typed-returns-in-Concat : goal.typed-returns-in-Concat
typed-returns-in-Concat t c =
    let at = seen_in c.args.position (names_are c.args.names.now) in
    let k = is_constant c.args.position in
    judged_concat at c.args.expr.now c.in-Concat.place c.in-Concat.parts k c.concat_of.result c.in-Concat.is
    (concat_at at c.in-Concat.place _ _ k c.concat_of.result c.as_slice-in-Concat.ensures
    (c.concat_of.ensures at k (all_at at _ _ k _ (c.as_slice-in-Concat-2.ensures ∙ sym c.as_slice-in-Concat.ensures) c.typed_parts.ensures)))

pub typed-returns-in-Repeat : goal.typed-returns-in-Repeat
typed-returns-in-Repeat t c =
    let at = seen_in c.args.position (names_are c.args.names.now) in
    let k = is_constant c.args.position in
    let n = mean (constants_are c.args.names.now) c.in-Repeat.count in
    judged_repeat at c.args.expr.now c.in-Repeat.place c.in-Repeat.count c.in-Repeat.parts k c.repeat_of.result c.in-Repeat.is
    (repeat_at at c.in-Repeat.place n _ _ k c.repeat_of.result c.as_slice-in-Repeat.ensures
    (c.repeat_of.ensures at n k (fixes_at (constants_are c.args.names.now) _ _ _ c.get-in-Repeat.ensures c.fixed.ensures)
    (all_at at _ _ k _ (c.as_slice-in-Repeat-2.ensures ∙ sym c.as_slice-in-Repeat.ensures) c.typed_parts-in-Repeat.ensures)))

pub typed-returns-in-CastLiteral : goal.typed-returns-in-CastLiteral
typed-returns-in-CastLiteral t c =
    let at = seen_in c.args.position (names_are c.args.names.now) in
    let k = is_constant c.args.position in
    let w = c.in-CastLiteral.word in
    judged_cast_literal at c.args.expr.now w c.in-CastLiteral.inner k c.cast_typed.result c.in-CastLiteral.is
    (c.cast_typed.ensures.judged (of_literal w) (mean at c.in-CastLiteral.inner) k refl
    (fixed_expr (of_literal w) w.place c.fixed_of.result refl (c.fixed_of.ensures (of_literal w) (c.literal_typed-in-CastLiteral.ensures true)))
    (judged_at at _ _ _ _ c.get-in-CastLiteral.ensures c.typed-in-CastLiteral.ensures))

pub typed-returns-in-CastName : goal.typed-returns-in-CastName
typed-returns-in-CastName t c =
    let at = seen_in c.args.position (names_are c.args.names.now) in
    let w = c.in-CastName.word in
    let m = mean at c.in-CastName.inner in
    let what = option_map what_is (option_copied c.find_above.result) in
    let cast = subst (λ k. Judges m k c.typed-in-CastName.result → Judges (cast_to w what m) k c.name_cast_typed.result) c.is_constant.ensures (c.name_cast_typed.ensures m) in
    judged_cast_name at c.args.expr.now w c.in-CastName.inner (is_constant c.args.position) c.name_cast_typed.result c.in-CastName.is
    (subst (λ o. Judges (cast_to w o m) (is_constant c.args.position) c.name_cast_typed.result) (c.find_above.ensures.is ∙ ap (λ (n : List ℕ). find n (constants_are c.args.names.now)) c.bytes.ensures)
    (cast (judged_at at _ _ _ _ c.get-in-CastName.ensures c.typed-in-CastName.ensures)))

pub typed-returns-in-CastParen : goal.typed-returns-in-CastParen
typed-returns-in-CastParen t c =
    let at = seen_in c.args.position (names_are c.args.names.now) in
    let k = is_constant c.args.position in
    let n = mean (constants_are c.args.names.now) c.in-CastParen.count in
    judged_cast_paren at c.args.expr.now c.in-CastParen.place c.in-CastParen.count c.in-CastParen.inner k c.cast_typed-in-CastParen.result c.in-CastParen.is
    (c.cast_typed-in-CastParen.ensures.judged (from c.in-CastParen.place n) (mean at c.in-CastParen.inner) k refl
    (c.fixed_of-in-CastParen.ensures n (judged_at (constants_are c.args.names.now) _ _ _ _ c.get-in-CastParen.ensures c.typed-in-CastParen.ensures))
    (judged_at at _ _ _ _ c.get-in-CastParen-2.ensures c.typed-in-CastParen-2.ensures))

pub typed-returns-in-CastSign : goal.typed-returns-in-CastSign
typed-returns-in-CastSign t c =
    let at = seen_in c.args.position (names_are c.args.names.now) in
    let k = is_constant c.args.position in
    judged_cast_sign at c.args.expr.now c.in-CastSign.sign c.in-CastSign.field-1 c.in-CastSign.inner c.is_signed.result k c.sign_typed.result c.in-CastSign.is c.is_signed.ensures
    (c.sign_typed.ensures (mean at c.in-CastSign.inner) k c.in-CastSign.field-1 (judged_at at _ _ _ _ c.get-in-CastSign.ensures c.typed-in-CastSign.ensures))

pub typed-returns-in-Unary : goal.typed-returns-in-Unary
typed-returns-in-Unary t c =
    let at = seen_in c.args.position (names_are c.args.names.now) in
    let k = is_constant c.args.position in
    let m = mean at c.in-Unary.inner in
    judged_unary at c.args.expr.now c.in-Unary.op c.in-Unary.field-1 c.in-Unary.inner k c.one_typed-in-Unary.result c.in-Unary.is
    (subst (λ o. Judges (from c.in-Unary.field-1 (one_meaning o m)) k c.one_typed-in-Unary.result) c.one_of.ensures
    (c.one_typed-in-Unary.ensures m k c.in-Unary.field-1 (judged_at at _ _ _ _ c.get-in-Unary.ensures c.typed-in-Unary.ensures)))

pub typed-returns-in-System : goal.typed-returns-in-System
typed-returns-in-System t c =
    let at = seen_in c.args.position (names_are c.args.names.now) in
    let k = is_constant c.args.position in
    judged_system at c.args.expr.now c.in-System.name c.in-System.field-1 c.in-System.inner _ k c.system_typed.result c.in-System.is c.get-in-System.ensures
    (c.system_typed.ensures c.in-System.field-1)

pub typed-returns-in-Binary : goal.typed-returns-in-Binary
typed-returns-in-Binary t c =
    let at = seen_in c.args.position (names_are c.args.names.now) in
    let k = is_constant c.args.position in
    judged_two at c.args.expr.now c.in-Binary.x _ c.in-Binary.op c.in-Binary.place c.in-Binary.y c.two_of.result k c.two_typed.result c.in-Binary.is c.two_of.ensures c.get-in-Binary.ensures
    (c.two_typed.ensures at (mean at c.in-Binary.y) k
    (judged_at at _ _ _ _ (c.get-in-Binary-2.ensures ∙ sym c.get-in-Binary.ensures) c.typed-in-Binary.ensures) (judged_at at _ _ _ _ c.get-in-Binary-3.ensures c.typed-in-Binary-2.ensures))

pub system_typed-returns-in-Signed : goal.system_typed-returns-in-Signed
system_typed-returns-in-Signed t c = λ p.
    let at = seen_in c.args.position (names_are c.args.names.now) in
    let k = is_constant c.args.position in
    system_is at c.args.name system_name.Signed p c.args.inner.now k c.sign_typed.result c.in-Signed.is (c.sign_typed.ensures (mean at c.args.inner.now) k p c.typed.ensures)

pub system_typed-returns-in-Unsigned : goal.system_typed-returns-in-Unsigned
system_typed-returns-in-Unsigned t c = λ p.
    let at = seen_in c.args.position (names_are c.args.names.now) in
    let k = is_constant c.args.position in
    system_is at c.args.name system_name.Unsigned p c.args.inner.now k c.sign_typed-in-Unsigned.result c.in-Unsigned.is (c.sign_typed-in-Unsigned.ensures (mean at c.args.inner.now) k p c.typed-in-Unsigned.ensures)

pub system_typed-returns-in-Clog2 : goal.system_typed-returns-in-Clog2
system_typed-returns-in-Clog2 t c = λ p.
    let at = seen_in c.args.position (names_are c.args.names.now) in
    let k = is_constant c.args.position in
    system_is at c.args.name system_name.Clog2 p c.args.inner.now k c.log_typed.result c.in-Clog2.is (c.log_typed.ensures (mean (constants_are c.args.names.now) c.args.inner.now) k p c.fixed.ensures)

pub typed-returns-in-Choose : goal.typed-returns-in-Choose
typed-returns-in-Choose t c =
    let at = seen_in c.args.position (names_are c.args.names.now) in
    let k = is_constant c.args.position in
    judged_choose at c.args.expr.now c.in-Choose.condition c.in-Choose.x c.in-Choose.y k c.chosen_typed.result c.in-Choose.is
    (c.chosen_typed.ensures (mean at c.in-Choose.condition) (mean at c.in-Choose.x) (mean at c.in-Choose.y) k
    (judged_at at _ _ _ _ c.get-in-Choose.ensures c.typed-in-Choose.ensures) (judged_at at _ _ _ _ c.get-in-Choose-2.ensures c.typed-in-Choose-2.ensures) (judged_at at _ _ _ _ c.get-in-Choose-3.ensures c.typed-in-Choose-3.ensures))

pub typed_index-returns-in-Fixed : goal.typed_index-returns-in-Fixed
typed_index-returns-in-Fixed t c =
    let at = constants_are c.args.names.now in
    subst (λ r. Types (mean (rule_scope r (names_are c.args.names.now)) c.args.expr.now) (rule_faults r (mean (rule_scope r (names_are c.args.names.now)) c.args.expr.now)) c.fixed_index.result) (sym c.in-Fixed.is) (c.fixed_index.ensures (mean at c.args.expr.now) (c.start.ensures at) c.typed-in-Fixed.ensures)

pub typed_index-returns-in-Joined : goal.typed_index-returns-in-Joined
typed_index-returns-in-Joined t c =
    let at = names_are c.args.names.now in
    subst (λ r. Types (mean (rule_scope r (names_are c.args.names.now)) c.args.expr.now) (rule_faults r (mean (rule_scope r (names_are c.args.names.now)) c.args.expr.now)) c.fixed_index-in-Joined.result) (sym c.in-Joined.is) (c.fixed_index-in-Joined.ensures (mean at c.args.expr.now) (c.start-in-Joined.ensures at) c.typed-in-Joined.ensures)

pub typed_index-returns-in-Read : goal.typed_index-returns-in-Read
typed_index-returns-in-Read t c =
    subst (λ r. Types (mean (rule_scope r (names_are c.args.names.now)) c.args.expr.now) (rule_faults r (mean (rule_scope r (names_are c.args.names.now)) c.args.expr.now)) c.typed.result) (sym c.in-Read.is) c.typed.ensures

pub typed_parts-parts-preserved : goal.typed_parts-parts-preserved
typed_parts-parts-preserved t c =
    let at = seen_in c.args.position (names_are c.args.names.now) in
    let k = is_constant c.args.position in
    subst (AreTyped (map (mean at) (take (c.parts.expr-index + 1) c.args.all.now)) k) (sym c.in_ok-push.ensures.ok)
    (parts_more at c.args.all.now c.parts.expr-index c.expr-item.result k c.parts.list c.in_ok-part.part c.parts-test.true c.expr-item.is c.parts.invariant
    (subst (Judges (mean at c.expr-item.result) k) c.in_ok-part.was c.typed.ensures))

-- ---- what is sound

pub typed-fixed_of-requires-in-CastParen : goal.typed-fixed_of-requires-in-CastParen
typed-fixed_of-requires-in-CastParen t c =
    let m = mean (constants_are c.args.names.now) c.get-in-CastParen.result.now in
    sound_of_judged m (m.faults true) c.typed-in-CastParen.result c.typed-in-CastParen.ensures

pub typed-two_typed-requires : goal.typed-two_typed-requires
typed-two_typed-requires t c =
    let m = mean (seen_in c.args.position (names_are c.args.names.now)) c.get-in-Binary-3.result.now in
    sound_of_judged m (m.faults (is_constant c.args.position)) c.typed-in-Binary-2.result c.typed-in-Binary-2.ensures

pub fixed-fixed_of-requires : goal.fixed-fixed_of-requires
fixed-fixed_of-requires t c =
    let m = mean (constants_are c.args.names.now) c.args.expr.now in
    sound_of_judged m (m.faults true) c.typed.result c.typed.ensures

pub typed_index-fixed_index-requires : goal.typed_index-fixed_index-requires
typed_index-fixed_index-requires t c =
    let m = mean (constants_are c.args.names.now) c.args.expr.now in
    sound_of_judged m (m.faults true) c.typed-in-Fixed.result c.typed-in-Fixed.ensures

pub typed_index-fixed_index-requires-in-Joined : goal.typed_index-fixed_index-requires-in-Joined
typed_index-fixed_index-requires-in-Joined t c =
    let m = mean (names_are c.args.names.now) c.args.expr.now in
    sound_of_judged m (m.faults true) c.typed-in-Joined.result c.typed-in-Joined.ensures

-- ---- lists of parts and of selects

pub typed_parts-parts-init : goal.typed_parts-parts-init
typed_parts-parts-init t c =
    let k = is_constant c.args.position in
    subst (λ (z : List Typed). AreTyped [] k z) (sym c.new-list.ensures) (parts_start k)

pub typed_parts-returns-in_err-part : goal.typed_parts-returns-in_err-part
typed_parts-returns-in_err-part t c =
    let p = err_from_is_err_and c.from_residual.result c.from_residual.ensures.1 in
    let at = seen_in c.args.position (names_are c.args.names.now) in
    let k = is_constant c.args.position in
    rw (p.1, p.2)
    (parts_cause at c.args.all.now c.parts.expr-index c.expr-item.result k c.in_err-part.field-0.0 c.parts-test.true c.expr-item.is (subst (Judges (mean at c.expr-item.result) k) c.in_err-part.was c.typed.ensures))

pub typed_parts-returns : goal.typed_parts-returns
typed_parts-returns t c =
    parts_all (seen_in c.args.position (names_are c.args.names.now)) c.args.all.now c.parts.expr-index (is_constant c.args.position) c.parts.list c.parts-test.false c.parts.invariant

pub chain_behind-selects-init : goal.chain_behind-selects-init
chain_behind-selects-init t c =
    let j = rule_faults c.args.rule in
    let x = cursor_is c.args.at in
    record { chains = subst (λ (z : List Pick). Chains j x [] z x) (sym c.new-picks.ensures) (chain_begins j x); sound = c.requires }

pub chain_behind-selects-preserved : goal.chain_behind-selects-preserved
chain_behind-selects-preserved t c =
    let at = rule_scope c.args.rule (names_are c.args.names.now) in
    let j = rule_faults c.args.rule in
    let led = subst (Leads j (cursor_is c.selects.end) (step at c.select-item.result)) c.in-Ok.is c.select_step.ensures in
    record {
      chains = subst (λ (z : List Pick). Chains j (cursor_is c.args.at) (map (step at) (take (c.selects.select-index + 1) c.args.selects.now)) z (cursor_is c.in-Ok.next)) (sym c.in_ok-push-in-Ok.ensures.ok)
          (chain_next at j (cursor_is c.args.at) (cursor_is c.selects.end) (cursor_is c.in-Ok.next) c.args.selects.now c.selects.select-index c.select-item.result c.selects.picks c.in-Ok.pick c.selects-test.true c.select-item.is c.selects.invariant.chains led.0);
      sound = led.1;
    }

-- ---- what is required, and want of memory

pub chain_behind-chain_of-requires : goal.chain_behind-chain_of-requires
chain_behind-chain_of-requires t c = c.selects.invariant.sound

pub named_typed-root_of-requires : goal.named_typed-root_of-requires
named_typed-root_of-requires t c = c.found.ensures.sound

pub typed-name_cast_typed-requires : goal.typed-name_cast_typed-requires
typed-name_cast_typed-requires t c = c.find_above.ensures.sound

pub select_step-member_pick-requires : goal.select_step-member_pick-requires
select_step-member_pick-requires t c = c.requires

pub select_step-index_pick-requires : goal.select_step-index_pick-requires
select_step-index_pick-requires t c = c.requires

pub select_step-between_pick-requires : goal.select_step-between_pick-requires
select_step-between_pick-requires t c = c.requires

pub chain_behind-returns-in_err-push-in-Ok : goal.chain_behind-returns-in_err-push-in-Ok
chain_behind-returns-in_err-push-in-Ok t c = let p = err_from_is_err_and c.from_residual.result c.from_residual.ensures.1 in rw (p.1, p.2) tt

pub typed_parts-returns-in_err-push : goal.typed_parts-returns-in_err-push
typed_parts-returns-in_err-push t c = let p = err_from_is_err_and c.from_residual-in_err-push.result c.from_residual-in_err-push.ensures.1 in rw (p.1, p.2) tt
