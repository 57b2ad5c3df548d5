use Rattle.std.proofs.Common.{arith, ◌≡◌, ◌<◌, ◌≤◌, List, length, get_or, sym, subst, ◌∙◌}
use Rattle.sv_typed.specs.declared.tree.Pick.{Pick}
use Rattle.sv_targets.proofs.Slotting.{none_known, known_more, known_end, unknown_one}
use Rattle.sv_targets.proofs.fixed.is_fixed.Goals as goal

pub picks-init : goal.picks-init
picks-init c = sym none_known

pub returns-then-not-is_known : goal.returns-then-not-is_known
returns-then-not-is_known c =
    let seen = c.as_slice-pick-items.ensures in
    unknown_one c.args.target.now.picks _ c.pick-item.result (subst (λ (z : List Pick). c.picks.pick-index < length z) seen c.picks-test.true)
    (subst (λ (z : List Pick). c.pick-item.result ≡ get_or z c.picks.pick-index c.pick-item.result) seen c.pick-item.is) (sym c.is_known.ensures ∙ c.if-not-is_known.true)

pub picks-preserved : goal.picks-preserved
picks-preserved c =
    let seen = c.as_slice-pick-items.ensures in
    known_more c.args.target.now.picks _ c.pick-item.result (subst (λ (z : List Pick). c.picks.pick-index < length z) seen c.picks-test.true)
    (subst (λ (z : List Pick). c.pick-item.result ≡ get_or z c.picks.pick-index c.pick-item.result) seen c.pick-item.is) (sym c.is_known.ensures ∙ c.if-not-is_known.false) c.picks.invariant

pub returns : goal.returns
returns c =
    let i = c.picks.pick-index in
    known_end c.args.target.now.picks i (subst (λ (z : List Pick). length z ≤ i) c.as_slice-pick-items.ensures (omega arith)) c.picks.invariant
