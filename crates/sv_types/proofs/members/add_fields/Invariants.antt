use Rattle.sv_types.proofs.Membership.{Adds}
use Rattle.sv_types.proofs.members.add_fields.Given as goal

abbrev pub invariant-words : goal.invariant-words
invariant-words l = Adds l.layout l.words l.fn.fields l.fields l.word-index l.total
