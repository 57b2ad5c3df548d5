use Rattle.std.proofs.Common.{◌≡◌, drop}
use Rattle.sv_meaning.specs.Names.{has_name}
use Rattle.sv_types.specs.Types.{field_names}
use Rattle.sv_types.proofs.members.has_field.Given as goal

abbrev pub invariant-fields : goal.invariant-fields
invariant-fields l = has_name l.name (field_names (drop l.field-index l.fields)) ≡ has_name l.name (field_names l.fields)
