use Rattle.std.proofs.Common.{◌≡◌, length, ◌++◌}
use Rattle.sv_preproc.specs.Roles as roles
use Rattle.sv_preproc.specs.Seen.{line_of}
use Rattle.sv_preproc.proofs.line.put_line.Given as goal

abbrev pub invariant-line : goal.invariant-line
invariant-line l = l.out.items ++ roles.line_text (line_of l.line l.next) l.rest ≡ l.fn.out.items ++ roles.line_text l.initial.line l.tokens

abbrev pub decreases-line : goal.decreases-line
decreases-line l = length l.rest
