use Rattle.std.proofs.Common.{◌≡◌, ◌∙◌, ◌++◌, false, List, Vec, Global, None, map, ap, sym, subst}
use Rattle.sv_tree.specs.declared.design.ParamWord.TheVariants as param_word
use Rattle.sv_tree.specs.declared.design.Way.TheVariants as way
use Rattle.sv_meaning.specs.Faults.{Judged}
use Rattle.sv_meaning.specs.Layouts.{scalar}
use Rattle.sv_meaning.specs.Params.{kept}
use Rattle.sv_hierarchy.specs.Scopes as m
use Rattle.sv_loops.specs.Answers.{Answers}
use Rattle.sv_modules.specs.Connections.{connection_is}
use Rattle.sv_levels.specs.Levels.{front_is}
use Rattle.sv_levels.specs.Ports.{port_is}
use Rattle.sv_walk.specs.Walks.{state_of}
use Rattle.sv_levels.specs.declared.ports.OpenPort.{OpenPort}
use Rattle.sv_walk.proofs.Opening.{Reached, walked_to, found_with, instance_no_params, instance_no_ports, instance_opened}
use Rattle.sv_levels.proofs.Wired.{passed_on}
use Rattle.sv_walk.proofs.walker.Walker.instance.Goals as goal

pub returns-in_err-header_params : goal.returns-in_err-header_params
returns-in_err-header_params c =
    let e = c.in_err-header_params.field-0.0 in
    let st = state_of c.args.self.now c.args.current.now in
    let at = front_is c.args.at in
    let pins = map connection_is c.args.pins.now in
    passed_on Reached _ (m.instance_walk c.args.top c.args.tree.now at pins st) c.from_residual.result e c.from_residual.ensures.1
    (instance_no_params (λ (s : m.State) (u : Unit {0}). s ≡ state_of c.header_params.new.self c.header_params.new.current) Reached c.args.top c.args.tree.now at pins st c.as_slice.result.now e c.as_slice.ensures c.in_err-header_params.ensures)

pub returns-in_err-ports : goal.returns-in_err-ports
returns-in_err-ports c =
    let e = c.in_err-ports.field-0.0 in
    let st = state_of c.args.self.now c.args.current.now in
    let first = state_of c.header_params.new.self c.header_params.new.current in
    let at = front_is c.args.at in
    let pins = map connection_is c.args.pins.now in
    passed_on Reached _ (m.instance_walk c.args.top c.args.tree.now at pins st) c.from_residual-in_err-ports.result e c.from_residual-in_err-ports.ensures.1
    (instance_no_ports (λ (found : List m.OpenPort × m.State) (ports : Vec OpenPort Global). (found.0 ≡ map port_is ports.items) × (found.1 ≡ state_of c.header_ports.new.self c.header_ports.new.current)) Reached
    c.args.top c.args.tree.now at pins st first c.as_slice.result.now c.ports_of.result.now e c.as_slice.ensures c.ports_of.ensures
    (walked_to (m.header_params param_word.Parameter kept c.as_slice.result.now st) first c.in_ok-header_params.field-0 c.in_ok-header_params.ensures) c.in_err-ports.ensures.is)

pub returns : goal.returns
returns c =
    let st = state_of c.args.self.now c.args.current.now in
    let first = state_of c.header_params.new.self c.header_params.new.current in
    let second = state_of c.header_ports.new.self c.header_ports.new.current in
    let at = front_is c.args.at in
    let pins = map connection_is c.args.pins.now in
    subst (λ (j : Judged m.State). Answers (λ (s : m.State) (u : Unit {0}). s ≡ state_of c.items.new.self c.items.new.current) j c.items.result)
    (sym (instance_opened c.args.top c.args.tree.now at pins st first second c.as_slice.result.now c.ports_of.result.now c.as_slice-2.result.now (map port_is c.in_ok-ports.ports.items) _ c.as_slice.ensures c.ports_of.ensures c.as_slice-2.ensures
    (walked_to (m.header_params param_word.Parameter kept c.as_slice.result.now st) first c.in_ok-header_params.field-0 c.in_ok-header_params.ensures)
    (found_with (λ (v : Vec OpenPort Global). map port_is v.items) (m.header_ports c.args.top way.Input (scalar false) c.ports_of.result.now first) second c.in_ok-ports.ports c.in_ok-ports.ensures.is)
    (c.in_ok-joined.ensures ∙ ap (λ (ps : List OpenPort). second.works ++ m.port_works at pins (map port_is ps)) c.deref.ensures.value)))
    c.items.ensures
