use Rattle.std.proofs.Common.{◌≡◌, take}
use Rattle.sv_types.proofs.copies.+copy.Given as goal

abbrev pub invariant-copy_fields-fields : goal.invariant-copy_fields-fields
invariant-copy_fields-fields l = l.all ≡ take l.field-index l.fields
