use Rattle.std.proofs.Common.{map, drop}
use Rattle.sv_names.specs.Names.{constants_are}
use Rattle.sv_types.specs.Types.{IsAbove, IsListed, pushed}
use Rattle.sv_types.proofs.Gathering.{Gathers}
use Rattle.sv_types.proofs.forms.+form.Given as goal

abbrev pub invariant-forms-members : goal.invariant-forms-members
invariant-forms-members l = record {
  names : IsAbove l.fn.names l.names (map pushed l.listed.declared);
  listed : IsListed l.listed;
  gathers : Gathers (constants_are l.fn.names) l.members l.listed (drop l.member-index l.members);
}
