use Rattle.std.proofs.Common.{sym, subst}
use Rattle.std.proofs.lemmas.List.Elements.{All-nil}
use Rattle.lhs_alias.specs.Lies.{LiesIn, LieIn}
use Rattle.sv_targets.specs.declared.parts.Part.{Part}
use Rattle.sv_elab.proofs.Joining.{bits_none, bits_next, bits_all}
use Rattle.sv_elab.proofs.joins.together.Goals as goal

pub parts-init : goal.parts-init
parts-init c = record {
  bits = bits_none c.args.parts.now c.new-all.result c.new-all.ensures;
  lies = λ widths h. subst (LieIn widths) (sym c.new-all.ensures) (All-nil (LiesIn widths));
}

pub parts-preserved : goal.parts-preserved
parts-preserved c = record {
  bits = bits_next c.args.parts.now c.parts.part-index c.part-item.result c.parts.all c.in_ok-all.all c.parts-test.true c.part-item.is c.parts.invariant.bits c.in_ok-all.ensures.bits;
  lies = λ widths h.
      c.in_ok-all.ensures.lies widths (subst (λ (p : Part). LieIn widths p.to) (sym c.part-item.is) (h c.parts.part-index c.part-item.result c.parts-test.true)) (c.parts.invariant.lies widths h);
}

pub returns-clause-bits : goal.returns-clause-bits
returns-clause-bits c = bits_all c.args.parts.now c.parts.part-index c.parts.all c.parts-test.false c.parts.invariant.bits

pub returns-clause-lies : goal.returns-clause-lies
returns-clause-lies c = c.parts.invariant.lies
