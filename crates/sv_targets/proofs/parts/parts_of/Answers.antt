use Rattle.std.proofs.lemmas.Result.{IfOk-from_err}
use Rattle.std.proofs.Common.{◌≡◌, ℕ, ◌<◌, List, All, length, sym, subst, arith}
use Rattle.lhs_alias.specs.declared.segs.WireBit.{WireBit}
use Rattle.sv_targets.specs.Slots.{Runs}
use Rattle.sv_targets.proofs.Spreading.{runs_begin, parts_final}
use Rattle.sv_targets.proofs.parts.parts_of.Goals as goal

pub slots-init : goal.slots-init
slots-init c = record {
  within = omega arith;
  runs = runs_begin c.args.all.now c.new-parts.result c.new-run.result.items c.new-parts.ensures c.new-run.ensures.items;
  near = subst (λ (z : List WireBit). All (λ b. b.at < 128) z) (sym c.new-run.ensures.items) (λ k d lt. absurd (omega arith));
}

pub returns : goal.returns
returns c =
    let all = c.args.all.now in
    let w = c.slots.invariant.within in
    let t = c.slots-test.false in
    let e : c.slots.at ≡ length all = omega arith in
    parts_final all (length all) c.closed.result (omega arith)
    (c.closed.ensures all (subst (λ (z : List WireBit). Runs all (length all) c.slots.parts z) (sym c.deref.ensures.value) (subst (λ (k : ℕ). Runs all k c.slots.parts c.slots.run.items) e c.slots.invariant.runs)))

pub returns-in_err-parts : goal.returns-in_err-parts
returns-in_err-parts c = IfOk-from_err _ _ c.from_residual.ensures.0
