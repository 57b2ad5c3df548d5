use Rattle.std.proofs.Common.{◌≡◌, ◌+◌, ◌-◌, ◌*◌, ◌<◌, ◌≤◌, get_or, arith, sym, ap, ◌∙◌}
use Rattle.lrat_text.specs.Texts.{value}
use Rattle.lrat_text.proofs.Values.{value_more, few_room, few_step}
use Rattle.lrat_text.proofs.numbers.few_value.Goals as goal

pub overflow_mul-number : goal.overflow_mul-number
overflow_mul-number c = let room = few_room c.loop-b.number c.loop-b.b-index 0 (omega arith) c.loop-b.invariant.below (omega arith) in omega arith

pub overflow_add-number : goal.overflow_add-number
overflow_add-number c =
    let byte = c.type_inv.digits c.loop-b.b-index in
    let small : c.from.result ≤ 207 = omega arith in
    let room = few_room c.loop-b.number c.loop-b.b-index c.from.result (omega arith) c.loop-b.invariant.below small in
    omega arith

pub loop-b-preserved : goal.loop-b-preserved
loop-b-preserved c =
    let byte = c.type_inv.digits c.loop-b.b-index in
    let small : c.from.result ≤ 207 = omega arith in
    let more = value_more c.args.digits.now c.loop-b.b-index c.loop-b-test.true in
    let is = c.loop-b.invariant.is in
    record { is = omega arith; below = few_step c.loop-b.number c.loop-b.b-index c.from.result c.loop-b.invariant.below small }
