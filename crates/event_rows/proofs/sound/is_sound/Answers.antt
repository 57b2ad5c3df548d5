use Rattle.std.proofs.Common.{◌≡◌, ℕ, ◌≤◌, List, refl, sym, ap, ◌∙◌, subst}
use Rattle.std.specs.Prelude.{All}
use Rattle.sv_outside.specs.declared.text.Signal.{Signal}
use Rattle.driver_resolve.specs.declared.driver.Driver.{Driver}
use Rattle.driver_resolve.specs.Drivers.{widths_of, IsDriver}
use Rattle.flat_net.specs.declared.flat.Join.{Join}
use Rattle.flat_net.specs.Flats.{IsSignal, IsJoin, links_of}
use Rattle.lhs_alias.specs.Pairs.{HaveOwnChildren}
use Rattle.event_nets.proofs.Making.{wires-narrow}
use Rattle.event_rows.proofs.sound.is_sound.Goals as goal

pub are_joins-requires : goal.are_joins-requires
are_joins-requires c =
    let wires : List Signal = c.as_slice.result.now in
    let P : List ℕ → Type 0 = All (λ width. (1 ≤ width) × (width ≤ 128)) in
    subst P (sym (c.deref-4.ensures.value ∙ c.in_ok-widths.ensures ∙ ap (λ l. widths_of l) (c.as_slice-2.ensures ∙ sym c.as_slice.ensures))) (wires-narrow wires (c.if-not-are_signals.ensures refl))

pub returns : goal.returns
returns c = λ t.
    let flat = c.args.flat.now in
    let widths = widths_of flat.wires in
    let S : List Signal → Type 0 = All IsSignal in
    let wide : c.in_ok-widths.widths.items ≡ widths = c.in_ok-widths.ensures ∙ ap (λ l. widths_of l) c.as_slice-2.ensures in
    let D : List ℕ → Type 0 = λ ws. All (IsDriver ws flat.arena) flat.drivers in
    let E : List Driver → Type 0 = All (IsDriver c.deref-2.result.now flat.arena) in
    let J : List ℕ → Type 0 = λ ws. All (IsJoin ws) flat.joins in
    let K : List Join → Type 0 = All (IsJoin c.deref-4.result.now) in
    let O : List Join → Type 0 = λ l. HaveOwnChildren (links_of l) in
    record {
      wires = subst S c.as_slice.ensures (c.if-not-are_signals.ensures refl);
      drivers = subst D (c.deref-2.ensures.value ∙ wide) (subst E c.as_slice-3.ensures (c.if-not-are_drivers.ensures refl));
      joins = subst J (c.deref-4.ensures.value ∙ wide) (subst K c.as_slice-4.ensures (c.in_ok-sound.ensures.joins t));
      own_children = subst O c.as_slice-4.ensures (c.in_ok-sound.ensures.own t);
    }
