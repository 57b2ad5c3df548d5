use Rattle.std.proofs.lemmas.Result.{IfOk-from_err}
use Rattle.std.proofs.Common.{◌++◌, Some, None, ◌∙◌, ap, sym}
use Rattle.std.proofs.lemmas.List.{append-nil, get_or_default}
use Rattle.sv_blocks.proofs.Marking.{present_begin, present_more, present_some, present_none, present_end}
use Rattle.sv_blocks.proofs.bits.target_bits.Goals as goal
use Rattle.sv_blocks.proofs.bits.target_bits.Goals.{in-Some+in_ok-push, in_default}

pub slots-init : goal.slots-init
slots-init c = present_begin c.as_slice-slot-items.result.now c.args.bits.now.items

pub slots-preserved : goal.slots-preserved
slots-preserved c = elim c.match-slot.branch [
  | in-Some+in_ok-push w ↦
      let all = c.as_slice-slot-items.result.now in
      let i = c.slots.slot-index in
      let o = Some w.in-Some.bit in
      ap (λ v. v.items) w.bits-is ∙ w.in_ok-push.ensures.items ∙ ap (λ xs. c.slots.bits.items ++ xs) (sym (present_some w.in-Some.bit))
      ∙ present_more all i o c.args.bits.now.items c.slots.bits.items c.slots-test.true (sym w.in-Some.is ∙ get_or_default all i None o c.slots-test.true) c.slots.invariant
  | in_default w ↦
      let all = c.as_slice-slot-items.result.now in
      let i = c.slots.slot-index in
      ap (λ v. v.items) w.bits-is ∙ sym (ap (λ xs. c.slots.bits.items ++ xs) present_none ∙ append-nil c.slots.bits.items)
      ∙ present_more all i None c.args.bits.now.items c.slots.bits.items c.slots-test.true (sym w.in_default.is) c.slots.invariant
]

pub returns : goal.returns
returns c = present_end c.as_slice-slot-items.result.now _ c.slots.slot-index c.args.bits.now.items c.slots.bits.items c.slots-test.false (c.as_slice-slot-items.ensures ∙ c.in_ok-slots.ensures.is) c.slots.invariant

pub returns-in_err-push : goal.returns-in_err-push
returns-in_err-push c = IfOk-from_err _ _ c.from_residual-in_err-push.ensures.0

pub returns-in_err-slots : goal.returns-in_err-slots
returns-in_err-slots c = IfOk-from_err _ _ c.from_residual.ensures.0
