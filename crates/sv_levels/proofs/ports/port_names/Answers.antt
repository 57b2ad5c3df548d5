use Rattle.std.proofs.lemmas.Result.{IfOk-from_err}
use Rattle.std.proofs.Common.{◌∙◌, ap, refl}
use Rattle.std.proofs.lemmas.List.{take_all}
use Rattle.sv_hierarchy.specs.Scopes.{port_texts}
use Rattle.sv_modules.specs.Naming.{texts_of}
use Rattle.sv_levels.proofs.PortsLists.{texts_next, no_texts}
use Rattle.sv_levels.proofs.ports.port_names.Goals as goal

pub ports-init : goal.ports-init
ports-init c = ap texts_of c.new-words.ensures.items ∙ no_texts

pub ports-preserved : goal.ports-preserved
ports-preserved c =
    texts_next c.args.ports.now c.ports.port-index c.port-item.result c.ports.words.items c.push.new.self.items _ c.ports-test.true c.port-item.is c.ports.invariant c.in_ok-push.ensures.items refl

pub returns : goal.returns
returns c = c.ports.invariant ∙ ap port_texts (take_all c.ports.port-index c.args.ports.now c.ports-test.false)

pub returns-in_err-push : goal.returns-in_err-push
returns-in_err-push c = IfOk-from_err _ _ c.from_residual.ensures.0
