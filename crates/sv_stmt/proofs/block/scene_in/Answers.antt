use Rattle.std.proofs.lemmas.Result.{IfOk-from_err}
use Rattle.std.proofs.Common.{◌≡◌, List, ◌++◌, All, sym, ap, ◌∙◌, subst}
use Rattle.sv_names.specs.Names.{names_are}
use Rattle.sv_actions.specs.Texts.{target_signals}
use Rattle.sv_blocks.specs.declared.wires.Wire.{Wire}
use Rattle.sv_blocks.specs.Declaring.{IsAmong, wires_are}
use Rattle.sv_blocks.proofs.Wiring.{among_all}
use Rattle.sv_stmt.proofs.Placing.{there_by}
use Rattle.sv_stmt.proofs.block.scene_in.Goals as goal

pub returns-clause-begun : goal.returns-clause-begun
returns-clause-begun c =
    let targets = target_signals (names_are c.args.names.now) c.args.body.now in
    let found : wires_are c.stmt_wires.new.wires.items ≡ targets = c.in_ok-stmt_wires.ensures.is ∙ ap (λ (z : List Wire). wires_are z ++ targets) c.new-wires.ensures.items in
    c.scene_of.ensures.begun targets (subst (λ (z : List Wire). All (IsAmong targets) z) (sym c.deref.ensures.value) (among_all targets c.stmt_wires.new.wires.items found c.in_ok-stmt_wires.ensures.bits))

pub returns-clause-there : goal.returns-clause-there
returns-clause-there c =
    let targets = target_signals (names_are c.args.names.now) c.args.body.now in
    let found : wires_are c.stmt_wires.new.wires.items ≡ targets = c.in_ok-stmt_wires.ensures.is ∙ ap (λ (z : List Wire). wires_are z ++ targets) c.new-wires.ensures.items in
    there_by c.scene_of.result targets c.deref.result.now (ap wires_are c.deref.ensures.value ∙ found) c.scene_of.ensures.there

pub returns-in_err-stmt_wires-clause-begun : goal.returns-in_err-stmt_wires-clause-begun
returns-in_err-stmt_wires-clause-begun c = IfOk-from_err _ _ c.from_residual.ensures.0

pub returns-in_err-stmt_wires-clause-there : goal.returns-in_err-stmt_wires-clause-there
returns-in_err-stmt_wires-clause-there c = IfOk-from_err _ _ c.from_residual.ensures.0
