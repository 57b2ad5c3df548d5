use Rattle.svex_shape.proofs.shape.same.Goals as goal

pub returns-in-Const : goal.returns-in-Const
returns-in-Const c = rw c.in-Const.is c.is_const.ensures

pub returns-in-Var : goal.returns-in-Var
returns-in-Var c = rw c.in-Var.is c.is_var.ensures

pub returns-in-Unary : goal.returns-in-Unary
returns-in-Unary c = rw c.in-Unary.is c.is_unary.ensures

pub returns-in-Binary : goal.returns-in-Binary
returns-in-Binary c = rw c.in-Binary.is c.is_binary.ensures

pub returns-in-Cond : goal.returns-in-Cond
returns-in-Cond c = rw c.in-Cond.is c.is_cond.ensures

pub returns-in-Pick : goal.returns-in-Pick
returns-in-Pick c = rw c.in-Pick.is c.is_pick.ensures

pub returns-in-Slice : goal.returns-in-Slice
returns-in-Slice c = rw c.in-Slice.is c.is_slice.ensures

pub returns-in-Zext : goal.returns-in-Zext
returns-in-Zext c = rw c.in-Zext.is c.is_zext.ensures

pub returns-in-Sext : goal.returns-in-Sext
returns-in-Sext c = rw c.in-Sext.is c.is_sext.ensures

pub returns-in-DynSlice : goal.returns-in-DynSlice
returns-in-DynSlice c = rw c.in-DynSlice.is c.is_dyn_slice.ensures

pub returns-in-DynPut : goal.returns-in-DynPut
returns-in-DynPut c = rw c.in-DynPut.is c.is_dyn_put.ensures
