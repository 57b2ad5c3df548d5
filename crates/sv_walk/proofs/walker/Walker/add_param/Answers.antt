use Rattle.std.proofs.Common.{Result, Ok, Err, refl}
use Rattle.sv_meaning.specs.Params.{value_as}
use Rattle.sv_types.specs.Values.{kind_is}
use Rattle.sv_names.specs.Kinds.{what_is}
use Rattle.sv_names.specs.declared.layout.Known.{Known}
use Rattle.sv_names.specs.declared.layout.What.TheVariants.{Number}
use Rattle.sv_outside.specs.declared.refusal.TextErr.{TextErr}
use Rattle.sv_hierarchy.specs.Scopes as m
use Rattle.sv_levels.specs.Levels.{levels_are}
use Rattle.sv_levels.specs.declared.tasks.Actual.TheVariants.{Written}
use Rattle.sv_levels.specs.declared.tasks.Given.{Given}
use Rattle.sv_walk.specs.Walks.{state_of}
use Rattle.sv_walk.proofs.DeclaringParams.{param_added, param_refused, value_is}
use Rattle.sv_walk.proofs.walker.Walker.add_param.Goals as goal

pub returns-in_err-known : goal.returns-in_err-known
returns-in_err-known c =
    let w = c.args.self.now in
    let o = c.args.current.now in
    let e = c.in_err-known.field-0.0 in
    let r : Result Known TextErr = Err e in
    let own : Given = record { name = c.args.name; at = c.here-at.result; value = Written c.args.value } in
    param_refused (value_as (kind_is c.args.kind) (m.meant (levels_are w.levels) (m.given_to c.args.word c.args.name.now c.args.value.now (state_of w o)))) c.args.name.now (state_of w o) w o c.from_residual.result e c.from_residual.ensures.1
    (value_is w o (kind_is c.args.kind) c.args.word c.args.name.now c.args.value.now c.here-at.result own c.given_to-given.result r
    c.in_err-known.ensures c.here-at.ensures (λ i. record { name = c.args.name.now.text; at = c.here-at.ensures i; value = c.args.value.now }) c.given_to-given.ensures)

pub returns : goal.returns
returns c =
    let w = c.args.self.now in
    let o = c.args.current.now in
    let known = c.in_ok-known.known in
    let r : Result Known TextErr = Ok known in
    let own : Given = record { name = c.args.name; at = c.here-at.result; value = Written c.args.value } in
    param_added (value_as (kind_is c.args.kind) (m.meant (levels_are w.levels) (m.given_to c.args.word c.args.name.now c.args.value.now (state_of w o)))) (what_is (Number known)) (what_is (Number known)) c.args.name.now (state_of w o) c.add_constant.new.self c.add_constant.new.current c.add_constant.result
    (value_is w o (kind_is c.args.kind) c.args.word c.args.name.now c.args.value.now c.here-at.result own c.given_to-given.result r
    c.in_ok-known.ensures c.here-at.ensures (λ i. record { name = c.args.name.now.text; at = c.here-at.ensures i; value = c.args.value.now }) c.given_to-given.ensures) refl c.add_constant.ensures
