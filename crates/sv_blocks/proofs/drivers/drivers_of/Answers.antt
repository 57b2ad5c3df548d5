use Rattle.std.proofs.lemmas.Result.{IfOk-from_err}
use Rattle.std.proofs.Common.{List, ◌≡◌, ◌≤◌, ◌+◌, length, take, drop, get_or, length-drop, get_or-drop, refl, sym, ap, ◌∙◌, subst, arith}
use Rattle.svex_arena.proofs.Keeping.{extends_self, extends_on}
use Rattle.std.proofs.lemmas.List.{take_rest, get_or_default}
use Rattle.std.proofs.lemmas.List.Elements.{All-drop}
use Rattle.lhs_alias.specs.declared.segs.WireBit.{WireBit}
use Rattle.lhs_alias.specs.Segs.{seg_bits}
use Rattle.sv_blocks.specs.Driving.{run_seg, DriveAll}
use Rattle.sv_stores.proofs.Stores.{nodes_kept}
use Rattle.sv_blocks.specs.Fitting.{BitSits}
use Rattle.sv_blocks.proofs.Sitting.{run_sits}
use Rattle.sv_blocks.proofs.Driving.{drive_none, drive_more}
use Rattle.sv_blocks.proofs.drivers.drivers_of.Goals as goal

pub bits-init : goal.bits-init
bits-init c = record {
  stays = extends_self _;
  within = omega arith;
  made = subst (λ xs. DriveAll c.args.scene.now c.args.arena.now c.args.arena.now c.args.nodes.now (take 0 c.args.bits.now) xs) (sym c.new-all.ensures) (drive_none c.args.scene.now c.args.arena.now c.args.nodes.now c.args.bits.now);
}

pub driver_of-requires-clause-nodes : goal.driver_of-requires-clause-nodes
driver_of-requires-clause-nodes c = nodes_kept _ _ _ _ c.requires.nodes c.bits.invariant.stays

pub driver_of-requires-clause-run : goal.driver_of-requires-clause-run
driver_of-requires-clause-run c =
    let i = c.bits.invariant in
    let none : WireBit = record { wire = 0; at = 0 } in
    let here : get_or (drop c.bits.at c.args.bits.now) 0 none ≡ get_or c.args.bits.now c.bits.at none =
    get_or-drop c.bits.at c.args.bits.now 0 none ∙ (let z : c.bits.at + 0 ≡ c.bits.at = omega arith in ap (λ n. get_or c.args.bits.now n none) z) in
    run_sits c.args.scene.now (drop c.bits.at c.args.bits.now) _ none c.run_of-count.result (All-drop (BitSits c.args.scene.now) c.bits.at c.args.bits.now c.requires.bits) c.run_of-count.ensures.some
    (let a = c.run_of-count.ensures.within in let b = i.within in let t = c.bits-test.true in omega (arith, length-drop c.bits.at c.args.bits.now))
    (get_or_default c.args.bits.now c.bits.at _ none c.bits-test.true ∙ sym here)
    (subst (λ (z : List WireBit). take c.run_of-count.result z ≡ seg_bits (run_seg (get_or z 0 none) c.run_of-count.result)) (take_rest c.args.bits.now c.bits.at) (c.run_of-count.ensures.bits none)
    ∙ ap (λ b. seg_bits (run_seg b c.run_of-count.result)) (here ∙ get_or_default c.args.bits.now c.bits.at none _ c.bits-test.true))

pub bits-preserved : goal.bits-preserved
bits-preserved c =
    let i = c.bits.invariant in
    let none : WireBit = record { wire = 0; at = 0 } in
    let within : c.bits.at + c.run_of-count.result ≤ length c.args.bits.now = (let a = c.run_of-count.ensures.within in let b = i.within in let t = c.bits-test.true in omega (arith, length-drop c.bits.at c.args.bits.now)) in
    record {
      stays = extends_on _ _ _ i.stays c.in_ok-driver.ensures.stays;
      within = within;
      made =
          subst (λ xs. DriveAll c.args.scene.now c.args.arena.now c.driver_of.new.arena c.args.nodes.now (take (c.bits.at + c.run_of-count.result) c.args.bits.now) xs) (sym c.in_ok-push.ensures.ok)
          (drive_more c.args.scene.now c.args.arena.now _ _ c.args.nodes.now c.args.bits.now c.bits.at c.run_of-count.result (c.bits.at + c.run_of-count.result) _ c.bits.all c.in_ok-driver.driver c.requires.scene c.requires.nodes i.stays c.in_ok-driver.ensures.stays
          (subst (λ (z : List WireBit). take c.run_of-count.result z ≡ seg_bits (run_seg (get_or z 0 none) c.run_of-count.result)) (take_rest c.args.bits.now c.bits.at) (c.run_of-count.ensures.bits none)
          ∙ ap (λ b. seg_bits (run_seg b c.run_of-count.result)) (get_or-drop c.bits.at c.args.bits.now 0 none ∙ (let z : c.bits.at + 0 ≡ c.bits.at = omega arith in ap (λ n. get_or c.args.bits.now n none) z)))
          refl within i.made c.in_ok-driver.ensures.ok);
    }

pub returns-in_err-driver-clause-stays : goal.returns-in_err-driver-clause-stays
returns-in_err-driver-clause-stays c = extends_on _ _ _ c.bits.invariant.stays c.in_err-driver.ensures.stays

pub returns-in_err-driver-clause-ok : goal.returns-in_err-driver-clause-ok
returns-in_err-driver-clause-ok c = IfOk-from_err _ _ c.from_residual.ensures.0

pub returns-in_err-push-clause-stays : goal.returns-in_err-push-clause-stays
returns-in_err-push-clause-stays c = extends_on _ _ _ c.bits.invariant.stays c.in_ok-driver.ensures.stays

pub returns-in_err-push-clause-ok : goal.returns-in_err-push-clause-ok
returns-in_err-push-clause-ok c = IfOk-from_err _ _ c.from_residual-in_err-push.ensures.0

pub returns-clause-stays : goal.returns-clause-stays
returns-clause-stays c = c.bits.invariant.stays
