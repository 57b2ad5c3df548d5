use Rattle.std.proofs.Common.{◌≡◌, ◌≤◌, ◌++◌, List, ap, ◌∙◌, subst, arith}
use Rattle.fourvec.specs.declared.Bit.{Bit}
use Rattle.sv_meaning.specs.Designs.{Design}
use Rattle.svtv_decide.specs.Passed.{IsElaborated}
use Rattle.svtv_decide.proofs.Passed.{wires_are}
use Rattle.svtv_runs.specs.Leasts.{all_unknown}
use Rattle.svtv_runs.specs.Runs.{IsLeastRun, Run, asks_of}
use Rattle.svtv_texts.specs.Phases.{phases_in, wires_in}
use Rattle.vcd_print.specs.Dumps.{IsDump, last_behind}
use Rattle.svtv_texts.proofs.Dumping.{dump_more, last_is}
use Rattle.svtv_texts.proofs.dumps.put_phases.Goals as goal

pub begin-requires : goal.begin-requires
begin-requires c = (c.args.flat.now, c.args.bound.now, c.requires.serves)

pub phases-init : goal.phases-init
unfolding last_behind
phases-init c = record {
  serves = c.begin.ensures.serves c.args.flat.now c.args.bound.now c.requires.serves;
  stands = c.begin.ensures.stands c.args.flat.now c.args.bound.now c.requires.serves c.args.choice.now;
  dump = λ d e r h. c.requires.dump;
  before = λ d e r h. c.in_ok-before.ensures.items;
}

pub step-requires-clause-serves : goal.step-requires-clause-serves
step-requires-clause-serves c = c.phases.invariant.serves

pub phases-preserved : goal.phases-preserved
phases-preserved c =
    let flat = c.args.flat.now in
    let bound = c.args.bound.now in
    let choice = c.args.choice.now in
    let phase = c.phases.phase in
    let stands = c.step.ensures.stands all_unknown c.phases.invariant.stands in
    let values : (d : Design) → IsElaborated d flat → (r : Run) → IsLeastRun d (asks_of choice bound) bound.phases r → c.wires-values.result.now ≡ wires_in flat.wires r phase = λ d e r h.
    c.wires-values.ensures ∙ wires_are flat bound choice phase c.step.new.self.prev.values d r c.requires.bound c.step.ensures.serves.prev (stands d e) h in
    record {
      serves = c.step.ensures.serves;
      stands = stands;
      dump = λ d e r h.
          dump_more flat.wires r phase c.wires-values.result.now c.phase.new.self (values d e r h)
          (c.in_ok-phase.ensures.dump flat.wires (phases_in flat.wires phase r) (c.deref.ensures.value ∙ c.phases.invariant.before d e r h) (c.phases.invariant.dump d e r h));
      before = λ d e r h.
          c.in_ok-extend_from_slice.ensures.items ∙ ap (λ (l : List (List Bit)). l ++ c.wires-values.result.now) c.clear.ensures.items ∙ values d e r h ∙ last_is flat.wires r phase;
    }

pub returns : goal.returns
returns c d e r h =
    let bound = c.args.bound.now in
    let flat = c.args.flat.now in
    let all : c.phases.phase ≡ bound.phases = (let a : bound.phases ≤ c.phases.phase = c.phases-test.false in let b = c.phases.auto.phase-end in omega arith) in
    subst (λ n. IsDump flat.wires (phases_in flat.wires n r) c.phases.dump) all (c.phases.invariant.dump d e r h)
