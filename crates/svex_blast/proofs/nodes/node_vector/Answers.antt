use Rattle.svex_shape.specs.Shapes.{width_of}
use Rattle.svex_shape.specs.Values.{value_of}
use Rattle.svex_blast.proofs.nodes.node_vector.Goals as goal

pub returns-in-Const-clause-word : goal.returns-in-Const-clause-word
unfolding width_of
returns-in-Const-clause-word c = rw c.in-Const.is c.on_constant.ensures.word

pub returns-in-Const-clause-value : goal.returns-in-Const-clause-value
unfolding value_of
returns-in-Const-clause-value c = rw c.in-Const.is c.on_constant.ensures.value

pub returns-in-Var-clause-word : goal.returns-in-Var-clause-word
unfolding width_of
returns-in-Var-clause-word c = rw c.in-Var.is c.on_variable.ensures.word

pub returns-in-Var-clause-value : goal.returns-in-Var-clause-value
unfolding value_of
returns-in-Var-clause-value c = rw c.in-Var.is c.on_variable.ensures.value

pub returns-in-Unary-clause-value : goal.returns-in-Unary-clause-value
unfolding value_of
returns-in-Unary-clause-value c = rw c.in-Unary.is c.on_unary.ensures.value

pub returns-in-Binary-clause-value : goal.returns-in-Binary-clause-value
unfolding value_of
returns-in-Binary-clause-value c = rw c.in-Binary.is c.on_binary.ensures.value

pub returns-in-Cond-clause-value : goal.returns-in-Cond-clause-value
unfolding value_of
returns-in-Cond-clause-value c = rw c.in-Cond.is c.on_cond.ensures.value

pub returns-in-Pick-clause-value : goal.returns-in-Pick-clause-value
unfolding value_of
returns-in-Pick-clause-value c = rw c.in-Pick.is c.on_pick.ensures.value

pub returns-in-Slice-clause-value : goal.returns-in-Slice-clause-value
unfolding value_of
returns-in-Slice-clause-value c = rw c.in-Slice.is c.on_slice.ensures.value

pub returns-in-Zext-clause-value : goal.returns-in-Zext-clause-value
unfolding value_of
returns-in-Zext-clause-value c = rw c.in-Zext.is c.on_zext.ensures.value

pub returns-in-Sext-clause-value : goal.returns-in-Sext-clause-value
unfolding value_of
returns-in-Sext-clause-value c = rw c.in-Sext.is c.on_sext.ensures.value

pub returns-in-DynSlice-clause-value : goal.returns-in-DynSlice-clause-value
unfolding value_of
returns-in-DynSlice-clause-value c = rw c.in-DynSlice.is c.on_dyn_slice.ensures.value

pub returns-in-DynPut-clause-value : goal.returns-in-DynPut-clause-value
unfolding value_of
returns-in-DynPut-clause-value c = rw c.in-DynPut.is c.on_dyn_put.ensures.value

pub returns-in-Const-clause-grew : goal.returns-in-Const-clause-grew
returns-in-Const-clause-grew c = rw c.in-Const.is c.on_constant.ensures.grew

pub returns-in-Var-clause-grew : goal.returns-in-Var-clause-grew
returns-in-Var-clause-grew c = rw c.in-Var.is c.on_variable.ensures.grew

pub returns-in-Unary-clause-grew : goal.returns-in-Unary-clause-grew
returns-in-Unary-clause-grew c = rw c.in-Unary.is c.on_unary.ensures.grew

pub returns-in-Unary-clause-word : goal.returns-in-Unary-clause-word
returns-in-Unary-clause-word c = rw c.in-Unary.is c.on_unary.ensures.word

pub returns-in-Binary-clause-grew : goal.returns-in-Binary-clause-grew
returns-in-Binary-clause-grew c = rw c.in-Binary.is c.on_binary.ensures.grew

pub returns-in-Binary-clause-word : goal.returns-in-Binary-clause-word
returns-in-Binary-clause-word c = rw c.in-Binary.is c.on_binary.ensures.word

pub returns-in-Cond-clause-grew : goal.returns-in-Cond-clause-grew
returns-in-Cond-clause-grew c = rw c.in-Cond.is c.on_cond.ensures.grew

pub returns-in-Cond-clause-word : goal.returns-in-Cond-clause-word
returns-in-Cond-clause-word c = rw c.in-Cond.is c.on_cond.ensures.word

pub returns-in-Pick-clause-grew : goal.returns-in-Pick-clause-grew
returns-in-Pick-clause-grew c = rw c.in-Pick.is c.on_pick.ensures.grew

pub returns-in-Pick-clause-word : goal.returns-in-Pick-clause-word
returns-in-Pick-clause-word c = rw c.in-Pick.is c.on_pick.ensures.word

pub returns-in-Slice-clause-grew : goal.returns-in-Slice-clause-grew
returns-in-Slice-clause-grew c = rw c.in-Slice.is c.on_slice.ensures.grew

pub returns-in-Slice-clause-word : goal.returns-in-Slice-clause-word
returns-in-Slice-clause-word c = rw c.in-Slice.is c.on_slice.ensures.word

pub returns-in-Zext-clause-grew : goal.returns-in-Zext-clause-grew
returns-in-Zext-clause-grew c = rw c.in-Zext.is c.on_zext.ensures.grew

pub returns-in-Zext-clause-word : goal.returns-in-Zext-clause-word
returns-in-Zext-clause-word c = rw c.in-Zext.is c.on_zext.ensures.word

pub returns-in-Sext-clause-grew : goal.returns-in-Sext-clause-grew
returns-in-Sext-clause-grew c = rw c.in-Sext.is c.on_sext.ensures.grew

pub returns-in-Sext-clause-word : goal.returns-in-Sext-clause-word
returns-in-Sext-clause-word c = rw c.in-Sext.is c.on_sext.ensures.word

pub returns-in-DynSlice-clause-grew : goal.returns-in-DynSlice-clause-grew
returns-in-DynSlice-clause-grew c = rw c.in-DynSlice.is c.on_dyn_slice.ensures.grew

pub returns-in-DynSlice-clause-word : goal.returns-in-DynSlice-clause-word
returns-in-DynSlice-clause-word c = rw c.in-DynSlice.is c.on_dyn_slice.ensures.word

pub returns-in-DynPut-clause-grew : goal.returns-in-DynPut-clause-grew
returns-in-DynPut-clause-grew c = rw c.in-DynPut.is c.on_dyn_put.ensures.grew

pub returns-in-DynPut-clause-word : goal.returns-in-DynPut-clause-word
returns-in-DynPut-clause-word c = rw c.in-DynPut.is c.on_dyn_put.ensures.word
