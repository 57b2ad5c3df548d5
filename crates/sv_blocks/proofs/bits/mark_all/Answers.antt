use Rattle.std.proofs.lemmas.Result.{IfOk-from_err}
use Rattle.std.proofs.Common.{◌≡◌, ◌+◌, ◌-◌, ◌<◌, length, drop, refl, sym, subst, arith}
use Rattle.std.proofs.lemmas.List.{get_or_default}
use Rattle.sv_blocks.specs.Declaring.{IsSoFar}
use Rattle.sv_blocks.proofs.Marking.{so_far_none, so_far_step, so_far_at, same_scene, same_marks, same_bit_sits}
use Rattle.sv_blocks.proofs.bits.mark_all.Goals as goal

pub bits-init : goal.bits-init
bits-init c = record { within = omega arith; made = subst (λ xs. IsSoFar c.args.scene c.args.scene (drop (length c.args.bits.now) c.args.bits.now) xs) (sym c.new-each.ensures.items) (so_far_none c.args.scene c.args.bits.now _ c.requires.clear refl) }

pub bits-preserved : goal.bits-preserved
bits-preserved c =
    let i = c.bits.invariant in
    let l : c.bits.at - 1 < length c.args.bits.now = let a = c.bits-test.true in let b = i.within in omega arith in
    let next : c.bits.at ≡ c.bits.at - 1 + 1 = let a = c.bits-test.true in omega arith in
    record {
      within = let b = i.within in omega arith;
      made = so_far_step c.args.scene _ c.args.bits.now _ _ _ l (get_or_default c.args.bits.now (c.bits.at - 1) _ _ l) (c.in_ok-mark_bit.ensures (drop (c.bits.at - 1 + 1) c.args.bits.now) c.args.scene c.requires.sound (so_far_at c.args.scene _ c.args.bits.now _ _ _ next i.made));
    }

pub mark_bit-requires-clause-scene : goal.mark_bit-requires-clause-scene
mark_bit-requires-clause-scene c = same_scene c.args.scene _ c.bits.invariant.made.same c.requires.sound

pub mark_bit-requires-clause-marks : goal.mark_bit-requires-clause-marks
mark_bit-requires-clause-marks c = same_marks c.args.scene _ c.bits.invariant.made.same c.requires.marks

pub mark_bit-requires-clause-bit : goal.mark_bit-requires-clause-bit
mark_bit-requires-clause-bit c =
    let i = c.bits.invariant in
    let l : c.bits.at - 1 < length c.args.bits.now = let a = c.bits-test.true in let b = i.within in omega arith in
    same_bit_sits c.args.scene _ _ i.made.same (c.requires.bits (c.bits.at - 1) _ l)

pub returns-in_err-mark_bit : goal.returns-in_err-mark_bit
returns-in_err-mark_bit c = IfOk-from_err _ _ c.from_residual.ensures.0
