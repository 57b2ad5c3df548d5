use Rattle.std.proofs.lemmas.Result.{IfOk-from_err}
use Rattle.std.proofs.lemmas.List.{take_all}
use Rattle.std.proofs.Common.{[], take, sym, ap, refl, arith}
use Rattle.sv_typing.specs.Judging.{IsCause}
use Rattle.sv_hierarchy.specs.Libraries.{modules_in, repeated}
use Rattle.sv_modules.proofs.Libraries.{module_next, typedef_next, param_next}
use Rattle.sv_modules.specs.Libraries.{trees_of}
use Rattle.sv_modules.proofs.Named.{handed_on, lists_more, lists_none, lists_same, refused_at}
use Rattle.sv_modules.proofs.library.named_in.Goals as goal
use Rattle.sv_modules.proofs.library.named_in.Goals.{in-Module+in_ok-put-in-Module, in-Typedef, in-Param}

pub parts-init : goal.parts-init
parts-init c = lists_none c.new-numbers.result c.new-trees.result.items c.new-numbers.ensures c.new-trees.ensures.items

pub parts-preserved : goal.parts-preserved
parts-preserved c = elim c.match-part.branch [
  | in-Module+in_ok-put-in-Module w ↦
      lists_same _ _ _ _ _ _ w.numbers-is (ap (λ v. trees_of v.items) w.trees-is) (module_next c.args.parts.now c.parts.part-index c.part-item.result w.in-Module.tree c.parts-test.true c.part-item.is w.in-Module.is)
      (lists_more c.parts.numbers w.put.new.numbers _ _ (modules_in (take c.parts.part-index c.args.parts.now)) w.in-Module.tree c.parts.invariant w.in_ok-put-in-Module.ensures)
  | in-Typedef w ↦ lists_same _ _ _ _ _ _ w.numbers-is (ap (λ v. trees_of v.items) w.trees-is) (typedef_next c.args.parts.now c.parts.part-index c.part-item.result w.in-Typedef.field-0 c.parts-test.true c.part-item.is w.in-Typedef.is) c.parts.invariant
  | in-Param w ↦ lists_same _ _ _ _ _ _ w.numbers-is (ap (λ v. trees_of v.items) w.trees-is) (param_next c.args.parts.now c.parts.part-index c.part-item.result w.in-Param.field-0 c.parts-test.true c.part-item.is w.in-Param.is) c.parts.invariant
]

pub returns-clause-ok : goal.returns-clause-ok
returns-clause-ok c = lists_same _ _ _ _ _ _ refl refl (ap modules_in (sym (take_all c.parts.part-index c.args.parts.now (omega (arith, c.parts-test.false))))) c.parts.invariant

pub returns-in_err-put-in-Module-clause-ok : goal.returns-in_err-put-in-Module-clause-ok
returns-in_err-put-in-Module-clause-ok c = IfOk-from_err _ _ c.from_residual.ensures.0

pub returns-in_err-put-in-Module-clause-err : goal.returns-in_err-put-in-Module-clause-err
returns-in_err-put-in-Module-clause-err c =
    let e = c.in_err-put-in-Module.field-0.0 in
    handed_on c.from_residual.result e (IsCause (repeated [] (modules_in c.args.parts.now))) c.from_residual.ensures.1
    (refused_at c.parts.numbers c.put.new.numbers (trees_of c.parts.trees.items) (trees_of c.put.new.trees.items) c.args.parts.now c.parts.part-index c.part-item.result c.in-Module.tree e c.parts-test.true c.part-item.is c.in-Module.is c.parts.invariant c.in_err-put-in-Module.ensures)
