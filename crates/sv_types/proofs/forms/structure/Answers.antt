use Rattle.std.proofs.Common.{◌∙◌, ap, List, min, suc}
use Rattle.std.proofs.lemmas.Result.{IfOk-from_err}
use Rattle.sv_meaning.specs.Layouts.{deepest}
use Rattle.sv_names.specs.Kinds.{members_of}
use Rattle.sv_names.specs.declared.layout.Field.{Field}
use Rattle.sv_types.proofs.Shapes.{structure_is, structure_sound}
use Rattle.sv_types.proofs.forms.structure.Goals as goal

pub returns-clause-is : goal.returns-clause-is
returns-clause-is c = structure_is c.args.signed c.in_ok-fields.fields c.args.fields c.in_ok-fields.ensures

pub returns-clause-sound : goal.returns-clause-sound
returns-clause-sound c =
    structure_sound c.args.signed c.in_ok-fields.fields c.args.fields c.in_ok-fields.ensures c.args.bits c.depth_over-depth.result c.requires.sound c.requires.bits c.requires.some c.requires.most (c.depth_over-depth.ensures ∙ ap (λ (all : List Field). min 1000 (suc (deepest (members_of all)))) c.as_slice.ensures)

pub returns-in_err-fields-clause-is : goal.returns-in_err-fields-clause-is
returns-in_err-fields-clause-is c = IfOk-from_err _ _ c.from_residual.ensures.0

pub returns-in_err-fields-clause-sound : goal.returns-in_err-fields-clause-sound
returns-in_err-fields-clause-sound c = IfOk-from_err _ _ c.from_residual.ensures.0
