use Rattle.std.proofs.Common.{◌≡◌, ◌+◌, ◌++◌, ◌∷◌, [], List, map, take, Vec, Global, refl, sym, ap, ◌∙◌, subst}
use Rattle.std.proofs.lemmas.List.{take_all}
use Rattle.std.proofs.lemmas.List.Elements.{All-map}
use Rattle.fourvec.specs.declared.Four.{Four}
use Rattle.fourvec.specs.declared.Bit.{Bit}
use Rattle.vcd_print.specs.Printed.{IsPhase}
use Rattle.vcd_print.specs.Dumps.{last_behind, last_phase, IsDump}
use Rattle.vcd_print.proofs.Adding.{last_pushed, map_one_more}
use Rattle.vcd_print.proofs.phases.print_vcd.Goals as goal

pub phases-init : goal.phases-init
unfolding last_behind
phases-init c = record { dump = c.in_ok-dump.ensures; before = refl }

pub phases-preserved : goal.phases-preserved
phases-preserved c =
    let f : Vec Four Global → List (List Bit) = λ p. p.items in
    let more : map f (take (c.phases.values-index + 1) c.args.phases.now) ≡ map f (take c.phases.values-index c.args.phases.now) ++ c.deref.result.now ∷ [] =
    map_one_more f c.args.phases.now c.phases.values-index c.values-item.result c.deref.result.now c.phases-test.true c.values-item.is c.deref.ensures.value in
    record {
      dump = subst (λ l. IsDump c.args.wires.now l c.phase.new.self) (sym more)
          (c.in_ok-phase.ensures.dump c.args.wires.now (map f (take c.phases.values-index c.args.phases.now)) c.phases.invariant.before c.phases.invariant.dump);
      before = c.deref-before.ensures.value ∙ sym c.deref.ensures.value ∙ sym (last_pushed [] (map f (take c.phases.values-index c.args.phases.now)) c.deref.result.now) ∙ ap last_phase (sym more);
    }

pub returns-clause-stands : goal.returns-clause-stands
returns-clause-stands c =
    let f : Vec Four Global → List (List Bit) = λ p. p.items in
    let whole : IsDump c.args.wires.now (map f c.args.phases.now) c.phases.dump =
    subst (λ l. IsDump c.args.wires.now (map f l) c.phases.dump) (take_all c.phases.values-index c.args.phases.now c.phases-test.false) c.phases.invariant.dump in
    c.into_text.ensures.stands c.args.wires.now (map f c.args.phases.now) whole c.requires.parts (All-map (IsPhase c.args.wires.now) f c.args.phases.now c.requires.phases)
