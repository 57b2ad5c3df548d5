use Rattle.std.proofs.Common.{map}
use Rattle.std.proofs.lemmas.Result.{err_from_is_err_and, IfOk-at_ok}
use Rattle.sv_names.specs.Kinds.{IsSound}
use Rattle.sv_types.specs.declared.forms.Formed.{Formed}
use Rattle.sv_types.specs.Types.{pushed}
use Rattle.sv_types.proofs.Above.{left_then}
use Rattle.sv_types.proofs.Membership.{fields_of_result, fields_refused}
use Rattle.sv_types.proofs.Shapes.{form_of_result, form_refused, joined_ok, joined_cause, joined_left}
use Rattle.sv_types.proofs.forms.joined.Goals as goal

pub returns-in_err-layout : goal.returns-in_err-layout
returns-in_err-layout c = λ j a b d above h.
    let p = err_from_is_err_and c.from_residual.result c.from_residual.ensures.1 in
    let e = c.in_err-layout.field-0.0 in
    rw (p.1, p.2) (joined_left j a b d c.args.listed c.args.words.now e above (form_refused j b d c.args.formed e c.in_err-layout.was h))

pub returns-in_err-bits : goal.returns-in_err-bits
returns-in_err-bits c = λ j a b d above h.
    let p = err_from_is_err_and c.from_residual-in_err-bits.result c.from_residual-in_err-bits.ensures.1 in
    let e = c.in_err-bits.field-0.0 in
    let x = c.in_ok-layout.field-0 in
    rw (p.1, p.2) (joined_cause j a b d c.args.listed c.args.words.now x e above (form_of_result j b d c.args.formed x c.in_ok-layout.was h) c.requires.listed
    (fields_refused x.layout c.args.words.now c.args.listed.fields c.add_fields.new.fields c.add_fields.result e c.in_err-bits.was c.add_fields.ensures))

pub returns : goal.returns
returns c = λ j a b d above h.
    let x = c.in_ok-layout.field-0 in
    joined_ok j a b d c.args.listed _ c.args.words.now x above (form_of_result j b d c.args.formed x c.in_ok-layout.was h) c.requires.listed
    (fields_of_result x.layout c.args.words.now c.args.listed.fields c.add_fields.new.fields c.add_fields.result c.in_ok-bits.bits c.in_ok-bits.was c.add_fields.ensures) c.in_ok-append.ensures.ok

pub returns-in_err-append : goal.returns-in_err-append
returns-in_err-append c = λ j a b d above h.
    let p = err_from_is_err_and c.from_residual-in_err-append.result c.from_residual-in_err-append.ensures.1 in
    let x = c.in_ok-layout.field-0 in
    let form = form_of_result j b d c.args.formed x c.in_ok-layout.was h in
    rw (p.1, p.2) (record { cause = tt; left = left_then a b d (map pushed c.args.listed.declared) above (map pushed x.declared, form.names) })

pub add_fields-requires-clause-bits : goal.add_fields-requires-clause-bits
add_fields-requires-clause-bits c = c.requires.listed.bits

pub add_fields-requires-clause-most : goal.add_fields-requires-clause-most
add_fields-requires-clause-most c = c.requires.listed.most

pub add_fields-requires-clause-sound : goal.add_fields-requires-clause-sound
add_fields-requires-clause-sound c = IfOk-at_ok (λ (y : Formed). IsSound y.layout) c.in_ok-layout.was c.requires.formed
