use Rattle.std.proofs.Common.{◌≡◌, ◌<◌, Bool, true, false, List, length, get_or, sym, subst}
use Rattle.sv_blocks.proofs.Marking.{so_far_new, so_far_same}
use Rattle.sv_blocks.proofs.bits.mark_bit.Goals as goal

pub returns-in_ok-push : goal.returns-in_ok-push
returns-in_ok-push c = λ all start sc s.
    so_far_new start c.args.scene.now all c.args.bits.now.items c.push.new.self.items c.set.new.self c.args.bit.now c.mark_place-place.result sc s c.mark_place-place.ensures.is
    c.mark_place-place.ensures.within (subst (λ (z : List Bool). get_or z c.mark_place-place.result false ≡ false) c.as_slice.ensures c.if-not-as_slice-place.true) c.set.ensures c.in_ok-push.ensures.items

pub returns-else-not-as_slice-place : goal.returns-else-not-as_slice-place
returns-else-not-as_slice-place c = λ all start sc s.
    so_far_same start c.args.scene.now all c.args.bits.now.items c.args.bit.now c.mark_place-place.result s c.mark_place-place.ensures.is (subst (λ (z : List Bool). get_or z c.mark_place-place.result false ≡ true) c.as_slice.ensures c.if-not-as_slice-place.false)

pub bounds-as_slice-place : goal.bounds-as_slice-place
bounds-as_slice-place c = subst (λ (z : List Bool). c.mark_place-place.result < length z) (sym c.as_slice.ensures) c.mark_place-place.ensures.within
