use Rattle.fourvec.proofs.Monotone.{dyn_put_monotone, dyn_slice_monotone, unfloat_monotone, not_monotone, and_monotone, or_monotone, xor_monotone, res_monotone, red_and_monotone, red_or_monotone, red_xor_monotone, truth_monotone, neg_monotone, add_monotone, sub_monotone, mul_monotone, div_monotone, rem_monotone, lt_monotone, slt_monotone, shl_monotone, shr_monotone, sar_monotone, concat_monotone, eq_monotone, cond_monotone, pick_monotone, slice_monotone, zext_monotone, sext_monotone, sdiv_monotone, srem_monotone}
use Rattle.fourvec.proofs.laws.operators_are_monotone.Goals as goal

pub returns-clause-unfloat : goal.returns-clause-unfloat
returns-clause-unfloat c = unfloat_monotone

pub returns-clause-not : goal.returns-clause-not
returns-clause-not c = not_monotone

pub returns-clause-and : goal.returns-clause-and
returns-clause-and c = and_monotone

pub returns-clause-or : goal.returns-clause-or
returns-clause-or c = or_monotone

pub returns-clause-xor : goal.returns-clause-xor
returns-clause-xor c = xor_monotone

pub returns-clause-res : goal.returns-clause-res
returns-clause-res c = res_monotone

pub returns-clause-red_and : goal.returns-clause-red_and
returns-clause-red_and c = red_and_monotone

pub returns-clause-red_or : goal.returns-clause-red_or
returns-clause-red_or c = red_or_monotone

pub returns-clause-red_xor : goal.returns-clause-red_xor
returns-clause-red_xor c = red_xor_monotone

pub returns-clause-neg : goal.returns-clause-neg
returns-clause-neg c = neg_monotone

pub returns-clause-add : goal.returns-clause-add
returns-clause-add c = add_monotone

pub returns-clause-sub : goal.returns-clause-sub
returns-clause-sub c = sub_monotone

pub returns-clause-mul : goal.returns-clause-mul
returns-clause-mul c = mul_monotone

pub returns-clause-div : goal.returns-clause-div
returns-clause-div c = div_monotone

pub returns-clause-rem : goal.returns-clause-rem
returns-clause-rem c = rem_monotone

pub returns-clause-lt : goal.returns-clause-lt
returns-clause-lt c = lt_monotone

pub returns-clause-slt : goal.returns-clause-slt
returns-clause-slt c = slt_monotone

pub returns-clause-shl : goal.returns-clause-shl
returns-clause-shl c = shl_monotone

pub returns-clause-shr : goal.returns-clause-shr
returns-clause-shr c = shr_monotone

pub returns-clause-sar : goal.returns-clause-sar
returns-clause-sar c = sar_monotone

pub returns-clause-concat : goal.returns-clause-concat
returns-clause-concat c = concat_monotone

pub returns-clause-eq : goal.returns-clause-eq
returns-clause-eq c = eq_monotone

pub returns-clause-cond : goal.returns-clause-cond
returns-clause-cond c = cond_monotone

pub returns-clause-pick : goal.returns-clause-pick
returns-clause-pick c = pick_monotone

pub returns-clause-slice : goal.returns-clause-slice
returns-clause-slice c = slice_monotone

pub returns-clause-zext : goal.returns-clause-zext
returns-clause-zext c = zext_monotone

pub returns-clause-sext : goal.returns-clause-sext
returns-clause-sext c = sext_monotone

pub returns-clause-sdiv : goal.returns-clause-sdiv
returns-clause-sdiv c = sdiv_monotone

pub returns-clause-srem : goal.returns-clause-srem
returns-clause-srem c = srem_monotone

pub returns-clause-dyn_slice : goal.returns-clause-dyn_slice
returns-clause-dyn_slice c = dyn_slice_monotone

pub returns-clause-dyn_put : goal.returns-clause-dyn_put
returns-clause-dyn_put c = dyn_put_monotone

pub returns-clause-truth : goal.returns-clause-truth
returns-clause-truth c = truth_monotone
