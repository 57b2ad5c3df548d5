use Rattle.std.proofs.lemmas.Result.{IfOk-from_err}
use Rattle.std.proofs.Common.{List, ◌++◌, All, sym, ap, ◌∙◌, subst}
use Rattle.lhs_alias.specs.declared.segs.WireBit.{WireBit}
use Rattle.sv_actions.specs.Doing.{writes_all}
use Rattle.sv_blocks.specs.Fitting.{BitSits}
use Rattle.sv_blocks.proofs.Sitting.{bits_sit_all}
use Rattle.sv_stmt.proofs.Placing.{marked_by}
use Rattle.sv_stmt.proofs.block.marked_in.Goals as goal

pub mark_all-requires-clause-bits : goal.mark_all-requires-clause-bits
mark_all-requires-clause-bits c =
    subst (All (BitSits c.args.scene)) (sym (c.deref.ensures.value ∙ c.in_ok-all_bits.ensures ∙ ap (λ (z : List WireBit). z ++ writes_all c.args.actions.now) c.new-bits.ensures.items)) (bits_sit_all c.args.scene c.args.actions.now c.requires.sits)

pub returns : goal.returns
returns c = marked_by c.mark_all.result c.args.scene c.deref.result.now (writes_all c.args.actions.now) (c.deref.ensures.value ∙ c.in_ok-all_bits.ensures ∙ ap (λ (z : List WireBit). z ++ writes_all c.args.actions.now) c.new-bits.ensures.items) c.mark_all.ensures

pub returns-in_err-all_bits : goal.returns-in_err-all_bits
returns-in_err-all_bits c = IfOk-from_err _ _ c.from_residual.ensures.0
