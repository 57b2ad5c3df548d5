use Rattle.std.proofs.Common.{◌∙◌, sym}
use mathlib.Core.Path.{fun_ext}
use Rattle.sv_hierarchy.specs.Scopes.{declare_at}
use Rattle.sv_walk.specs.Walks.{state_of}
use Rattle.sv_walk.proofs.Declaring.{leads, name_declared, name_taken, no_name, ran_out}
use Rattle.sv_walk.proofs.walker.Open.declare_at.Goals as goal

pub returns-then-not-is_name : goal.returns-then-not-is_name
returns-then-not-is_name c = λ w.
    let s = state_of w c.args.self.now in
    no_name c.args.place c.args.name.now s s c.refusal.result (sym c.is_name.ensures ∙ c.if-not-is_name.true) c.refusal.ensures

pub returns-then-has : goal.returns-then-has
returns-then-has c = λ w.
    let s = state_of w c.args.self.now in
    name_taken c.args.place c.args.name.now s s c.refusal-then-has.result (sym c.is_name.ensures ∙ c.if-not-is_name.false) (sym c.has.ensures ∙ c.if-has.true) c.refusal-then-has.ensures

pub returns : goal.returns
returns c = λ w.
    let s = state_of w c.args.self.now in
    leads (declare_at c.args.place c.args.name.now s) w (record c.args.self.now { taken = c.add.new.self }) tt
    (name_declared c.args.place c.args.name.now s _ (sym c.is_name.ensures ∙ c.if-not-is_name.false) (sym c.has.ensures ∙ c.if-has.false)
    (λ i. record s { taken = fun_ext (λ other. sym (c.in_ok-add.ensures other)) i }))

pub returns-in_err-add : goal.returns-in_err-add
returns-in_err-add c = λ w. ran_out _ (declare_at c.args.place c.args.name.now (state_of w c.args.self.now)) c.from_residual.result c.from_residual.ensures.1
