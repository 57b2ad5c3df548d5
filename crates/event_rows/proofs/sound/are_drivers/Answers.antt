use Rattle.std.proofs.Common.{List, refl, subst, arith}
use Rattle.std.specs.Prelude.{All}
use Rattle.std.proofs.lemmas.List.{take_all}
use Rattle.std.proofs.lemmas.List.Elements.{All-more}
use Rattle.driver_resolve.specs.declared.driver.Driver.{Driver}
use Rattle.driver_resolve.specs.Drivers.{IsDriver}
use Rattle.event_rows.proofs.sound.are_drivers.Goals as goal

pub loop-driver-preserved : goal.loop-driver-preserved
loop-driver-preserved c =
    let P : Driver → Type 0 = IsDriver c.args.widths.now c.args.arena.now in
    All-more P c.args.drivers.now c.loop-driver.driver-index c.driver-item.result (omega arith) c.loop-driver.invariant (subst P c.driver-item.is (c.if-not-is_driver.ensures refl))

pub returns : goal.returns
returns c = λ t.
    let P : List Driver → Type 0 = All (IsDriver c.args.widths.now c.args.arena.now) in
    subst P (take_all c.loop-driver.driver-index c.args.drivers.now (omega arith)) c.loop-driver.invariant
