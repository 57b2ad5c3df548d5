use Rattle.svex_blast.specs.Knowns.{known_of}
use Rattle.svex_blast.proofs.known.is_known.Goals as goal

pub returns-in-Const : goal.returns-in-Const
unfolding known_of
returns-in-Const c = rw c.in-Const.is c.is_bool.ensures

pub returns-in-Var : goal.returns-in-Var
unfolding known_of
returns-in-Var c = rw c.in-Var.is c.is_declared.ensures

pub returns-in-Unary : goal.returns-in-Unary
unfolding known_of
returns-in-Unary c = rw c.in-Unary.is c.twin.ensures

pub returns-in-Binary : goal.returns-in-Binary
unfolding known_of
returns-in-Binary c = rw c.in-Binary.is c.kept.ensures

pub returns-in-Cond : goal.returns-in-Cond
unfolding known_of
returns-in-Cond c = rw c.in-Cond.is c.three.ensures

pub returns-in-Pick : goal.returns-in-Pick
unfolding known_of
returns-in-Pick c = rw c.in-Pick.is c.three-in-Pick.ensures

pub returns-in-Slice : goal.returns-in-Slice
unfolding known_of
returns-in-Slice c = rw c.in-Slice.is c.twin-in-Slice.ensures

pub returns-in-Zext : goal.returns-in-Zext
unfolding known_of
returns-in-Zext c = rw c.in-Zext.is c.twin-in-Zext.ensures

pub returns-in-Sext : goal.returns-in-Sext
unfolding known_of
returns-in-Sext c = rw c.in-Sext.is c.twin-in-Sext.ensures

pub returns-in-DynSlice : goal.returns-in-DynSlice
unfolding known_of
returns-in-DynSlice c = rw c.in-DynSlice.is c.part_is_known.ensures

pub returns-in-DynPut : goal.returns-in-DynPut
unfolding known_of
returns-in-DynPut c = rw c.in-DynPut.is c.three-in-DynPut.ensures
