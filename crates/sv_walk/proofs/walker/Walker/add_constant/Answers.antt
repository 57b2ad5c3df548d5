use Rattle.sv_hierarchy.specs.Scopes as m
use Rattle.sv_names.specs.Kinds.{what_is}
use Rattle.sv_walk.specs.Walks.{state_of}
use Rattle.sv_walk.proofs.Declaring.{const_done, const_refused, handed, ran_out}
use Rattle.sv_walk.proofs.walker.Walker.add_constant.Goals as goal

pub returns-in_err-declare_at : goal.returns-in_err-declare_at
returns-in_err-declare_at c =
    let w = c.args.self.now in
    let o = c.args.current.now in
    let p = c.declare_at.new.self in
    let e = c.in_err-declare_at.field-0.0 in
    handed (m.add_constant (record { text = c.args.name.now; place = c.args.place }, what_is c.args.what) (state_of w o)) w w p p c.from_residual.result e c.from_residual.ensures.1
    (const_refused w w o p p c.args.place c.args.name.now c.bytes.result.now c.args.what e c.bytes.ensures (c.in_err-declare_at.ensures w))

pub returns : goal.returns
returns c =
    const_done c.args.self.now c.add_const.new.self c.args.current.now c.declare_at.new.self c.args.place c.args.name.now c.bytes.result.now c.in_ok-text.text c.args.what tt c.bytes.ensures c.in_ok-text.ensures (c.in_ok-declare_at.ensures c.args.self.now)
    c.in_ok-add_const.ensures

pub returns-in_err-text : goal.returns-in_err-text
returns-in_err-text c = ran_out _ (m.add_constant (record { text = c.args.name.now; place = c.args.place }, what_is c.args.what) (state_of c.args.self.now c.args.current.now)) c.from_residual-in_err-text.result c.from_residual-in_err-text.ensures.1

pub returns-in_err-add_const : goal.returns-in_err-add_const
returns-in_err-add_const c = ran_out _ (m.add_constant (record { text = c.args.name.now; place = c.args.place }, what_is c.args.what) (state_of c.args.self.now c.args.current.now)) c.from_residual-in_err-add_const.result c.from_residual-in_err-add_const.ensures.1
