use Rattle.std.proofs.lemmas.Result.{IfOk-from_err}
use Rattle.std.proofs.Common.{◌≡◌, ◌<◌, ◌++◌, List, length, take, sym, ◌∙◌, subst, arith}
use Rattle.std.specs.Prelude.{OnOk}
use Rattle.std.specs.List.{zip}
use Rattle.settling.specs.Settling.{Link}
use Rattle.lhs_alias.specs.Segs.{lhs_bits}
use Rattle.lhs_alias.specs.Joined.{Stands}
use Rattle.flat_net.specs.declared.flat.Join.{Join}
use Rattle.flat_net.specs.Flats.{links_of}
use Rattle.event_nets.proofs.Laying.{links-more}
use Rattle.event_nets.proofs.Joining.{is-joined}
use Rattle.std.proofs.lemmas.List.{take_all}
use Rattle.event_nets.proofs.lay.join_all.Goals as goal

pub loop-join-init : goal.loop-join-init
unfolding links_of
loop-join-init c = record { widths = c.in_ok-made.ensures.widths; stands = c.in_ok-made.ensures.none }

pub unwrap-requires : goal.unwrap-requires
unwrap-requires c =
    let joins = c.args.joins.now in
    let i = c.loop-join.join-index in
    let j = c.join-item.result in
    let within : i < length joins = omega arith in
    let even : length (lhs_bits j.child) ≡ length (lhs_bits j.parent) = subst (λ (x : Join). length (lhs_bits x.child) ≡ length (lhs_bits x.parent)) (sym c.join-item.is) (c.requires.joins i j within).falls.as_many in
    is-joined c.join.result joins i j within (sym c.join-item.is) even c.requires.own_children (λ e. c.join.ensures.taken e (links_of (take i joins)) c.loop-join.invariant.stands) c.join.ensures.no_memory

pub loop-join-preserved : goal.loop-join-preserved
loop-join-preserved c =
    let joins = c.args.joins.now in
    let i = c.loop-join.join-index in
    let j = c.join-item.result in
    let kept = c.loop-join.invariant in
    let within : i < length joins = omega arith in
    let own : List Link = zip (lhs_bits j.child) (lhs_bits j.parent) in
    let joined : (links : List Link) → Stands c.loop-join.made links → Stands c.join.new.self (links ++ own) =
    subst (λ r. OnOk r ((links : List Link) → Stands c.loop-join.made links → Stands c.join.new.self (links ++ own))) c.unwrap.ensures c.join.ensures.joined in
    record {
      widths = c.join.ensures.widths ∙ kept.widths;
      stands =
          let P : List Link → Type 0 = Stands c.join.new.self in
          subst P (sym (links-more joins i j within (sym c.join-item.is))) (joined (links_of (take i joins)) kept.stands);
    }

pub returns-in_err-made-clause-stands : goal.returns-in_err-made-clause-stands
returns-in_err-made-clause-stands c = IfOk-from_err _ _ c.from_residual.ensures.0

pub returns-in_err-made-clause-widths : goal.returns-in_err-made-clause-widths
returns-in_err-made-clause-widths c = IfOk-from_err _ _ c.from_residual.ensures.0

pub returns-clause-stands : goal.returns-clause-stands
returns-clause-stands c = subst (λ js. Stands c.loop-join.made (links_of js)) (take_all c.loop-join.join-index c.args.joins.now (omega arith)) c.loop-join.invariant.stands

pub returns-clause-widths : goal.returns-clause-widths
returns-clause-widths c = c.loop-join.invariant.widths
