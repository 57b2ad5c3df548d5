use Rattle.std.proofs.Common.{◌<◌, List, length, take, sym, ◌∙◌, subst, refl, arith}
use Rattle.std.specs.Prelude.{All}
use Rattle.std.proofs.lemmas.List.{take_all}
use Rattle.std.proofs.lemmas.List.Elements.{All-more, All-nil}
use Rattle.settling.specs.Settling.{Link}
use Rattle.lhs_alias.specs.Pairs.{HaveOwnChildren}
use Rattle.lhs_alias.specs.Joined.{Stands}
use Rattle.flat_net.specs.declared.flat.Join.{Join}
use Rattle.flat_net.specs.Flats.{IsJoin, links_of}
use Rattle.event_nets.proofs.Laying.{links-more}
use Rattle.event_rows.proofs.sound.are_joins.Goals as goal

pub loop-join-init : goal.loop-join-init
unfolding links_of
loop-join-init c = record { widths = c.in_ok-made.ensures.widths; joins = All-nil (IsJoin c.args.widths.now); stands = c.in_ok-made.ensures.none }

pub loop-join-preserved : goal.loop-join-preserved
loop-join-preserved c =
    let joins = c.args.joins.now in
    let i = c.loop-join.join-index in
    let kept = c.loop-join.invariant in
    let within : i < length joins = omega arith in
    let sound : IsJoin c.args.widths.now c.join-item.result = c.if-not-is_join.ensures refl in
    record {
      widths = c.join.ensures.widths ∙ kept.widths;
      joins =
          let P : Join → Type 0 = IsJoin c.args.widths.now in
          All-more P joins i c.join-item.result within kept.joins (subst P c.join-item.is sound);
      stands =
          let P : List Link → Type 0 = Stands c.join.new.self in
          subst P (sym (links-more joins i c.join-item.result within (sym c.join-item.is))) (c.in-Ok.ensures.joined (links_of (take i joins)) kept.stands);
    }

pub returns-clause-own : goal.returns-clause-own
returns-clause-own c = λ t.
    let all = take_all c.loop-join.join-index c.args.joins.now (omega arith) in
    let P : List Join → Type 0 = λ l. HaveOwnChildren (links_of l) in
    subst P all c.loop-join.invariant.stands.own_children

pub returns-clause-joins : goal.returns-clause-joins
returns-clause-joins c = λ t.
    let all = take_all c.loop-join.join-index c.args.joins.now (omega arith) in
    let P : List Join → Type 0 = All (IsJoin c.args.widths.now) in
    subst P all c.loop-join.invariant.joins
