use Rattle.std.proofs.Common.{◌≡◌, drop}
use Rattle.sv_names.specs.Kinds.{members_of}
use Rattle.sv_meaning.specs.Layouts.{width_all, member_in}
use Rattle.sv_names.proofs.cursor.member_at.Given as goal

abbrev pub invariant-loop-field : goal.invariant-loop-field
invariant-loop-field l = record {
  place : l.place ≡ width_all (members_of (drop l.field-index l.fields));
  rest : member_in l.name (members_of (drop l.field-index l.fields)) ≡ member_in l.name (members_of l.fields);
}
