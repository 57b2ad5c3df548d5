use Rattle.std.proofs.Common.{◌+◌, List, take, sym, subst}
use Rattle.lhs_alias.specs.Lies.{LieIn}
use Rattle.svex_arena.proofs.Keeping.{extends_self, extends_on}
use Rattle.driver_resolve.specs.declared.driver.Driver.{Driver}
use Rattle.sv_targets.specs.declared.parts.Part.{Part}
use Rattle.sv_elab.specs.Working.{PutAll}
use Rattle.sv_elab.proofs.Parting.{part_within, put_none, put_more, put_end, fills}
use Rattle.sv_elab.proofs.parts.part_drivers.Goals as goal

pub parts-init : goal.parts-init
parts-init c = record {
  stays = extends_self _;
  made = λ widths lie. subst (λ (z : List Driver). PutAll widths c.args.arena.now c.args.arena.now c.args.value (take 0 c.args.parts.now) z) (sym c.new-all.ensures) (put_none widths c.args.arena.now c.args.value c.args.parts.now);
}

pub part_driver-requires-clause-some : goal.part_driver-requires-clause-some
part_driver-requires-clause-some c = let within = part_within c.args.arena.now c.parts.arena c.args.value c.args.parts.now c.parts.part-index c.part-item.result c.parts.invariant.stays c.requires.value c.parts-test.true c.part-item.is c.requires.parts in within.some

pub part_driver-requires-clause-ends : goal.part_driver-requires-clause-ends
part_driver-requires-clause-ends c = let within = part_within c.args.arena.now c.parts.arena c.args.value c.args.parts.now c.parts.part-index c.part-item.result c.parts.invariant.stays c.requires.value c.parts-test.true c.part-item.is c.requires.parts in within.ends

pub parts-preserved : goal.parts-preserved
parts-preserved c = record {
  stays = extends_on _ _ _ c.parts.invariant.stays c.in_ok-driver.ensures.stays;
  made = λ widths lie.
      let own = subst (λ (p : Part). LieIn widths p.to) (sym c.part-item.is) (lie c.parts.part-index c.part-item.result c.parts-test.true) in
      subst (λ (z : List Driver). PutAll widths c.args.arena.now c.part_driver.new.arena c.args.value (take (c.parts.part-index + 1) c.args.parts.now) z) (sym c.in_ok-push.ensures.ok)
      (put_more widths c.args.arena.now c.parts.arena c.part_driver.new.arena c.args.value c.args.parts.now c.parts.part-index c.part-item.result c.parts.all c.in_ok-driver.driver c.requires.value c.parts.invariant.stays c.in_ok-driver.ensures.stays c.parts-test.true c.part-item.is
      (c.parts.invariant.made widths lie) (c.in_ok-driver.ensures.ok widths own));
}

pub returns-clause-ok : goal.returns-clause-ok
returns-clause-ok c = λ widths slots lie a.
    fills widths c.args.arena.now c.parts.arena c.args.value c.args.parts.now c.parts.all c.len.ensures.arena c.requires.value (put_end widths c.args.arena.now c.parts.arena c.args.value c.args.parts.now c.parts.part-index c.parts.all c.parts-test.false (c.parts.invariant.made widths lie)) slots a
