use Rattle.std.proofs.lemmas.Result.{IfOk-from_err}
use Rattle.std.proofs.Common.{◌≡◌, ◌∙◌, Ok, sym, subst}
use Rattle.sv_names.specs.declared.layout.Layout.{Layout as Coded}
use Rattle.sv_names.specs.Kinds.{IsSound, layout_is}
use Rattle.sv_meaning.specs.Faults.{Judged}
use Rattle.sv_meaning.specs.Layouts.{Layout}
use Rattle.sv_loops.specs.Answers.{Answers}
use Rattle.sv_hierarchy.specs.Scopes.{State, port_form}
use Rattle.sv_walk.specs.Walks.{state_of}
use Rattle.sv_walk.proofs.HeaderPorts.{bare_form, bit_form, finds, typed_form}
use Rattle.sv_walk.proofs.walker.Walker.port_form.Goals as goal

pub returns-then-is_bare-clause-is : goal.returns-then-is_bare-clause-is
returns-then-is_bare-clause-is c =
    let s = state_of c.args.self.now c.args.current.now in
    finds layout_is s (port_form c.args.port.now (layout_is c.args.before.now) s) c.in_ok-copy.field-0
    (bare_form c.args.port.now (layout_is c.args.before.now) s (sym c.is_bare.ensures ∙ c.if-is_bare.true) ∙ λ i. Ok (layout_is (sym c.in_ok-copy.ensures i), s))

pub returns-then-is_bare-clause-sound : goal.returns-then-is_bare-clause-sound
returns-then-is_bare-clause-sound c = subst (λ (l : Coded). IsSound l) (sym c.in_ok-copy.ensures) c.requires

pub returns-in-Some-clause-is : goal.returns-in-Some-clause-is
returns-in-Some-clause-is c =
    let s = state_of c.args.self.now c.args.current.now in
    subst (λ (j : Judged (Layout × State)). Answers (λ found x. (found.0 ≡ layout_is x) × (found.1 ≡ state_of c.formed.new.self c.formed.new.current)) j c.formed.result)
    (sym (typed_form c.args.port.now (layout_is c.args.before.now) s c.in-Some.tree (sym c.is_bare.ensures ∙ c.if-is_bare.false) c.in-Some.is)) c.formed.ensures.is

pub returns-in-None-clause-is : goal.returns-in-None-clause-is
returns-in-None-clause-is c =
    let s = state_of c.args.self.now c.args.current.now in
    finds layout_is s (port_form c.args.port.now (layout_is c.args.before.now) s) c.scalar.result
    (bit_form c.args.port.now (layout_is c.args.before.now) s (sym c.is_bare.ensures ∙ c.if-is_bare.false) c.in-None.is ∙ λ i. Ok (sym c.scalar.ensures.is i, s))

pub returns-in_err-copy-clause-sound : goal.returns-in_err-copy-clause-sound
returns-in_err-copy-clause-sound c = IfOk-from_err _ _ c.from_residual.ensures.0
