use Rattle.std.proofs.Common.{◌≡◌, drop}
use Rattle.sv_preproc.specs.Seen.{listed}
use Rattle.sv_preproc.proofs.role.listed.Given as goal

-- the directives so far have other names
abbrev pub invariant-loop-own : goal.invariant-loop-own
invariant-loop-own l = listed (drop l.own-index l.commands) l.name ≡ listed l.commands l.name
