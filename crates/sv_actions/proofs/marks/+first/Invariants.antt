use Rattle.std.proofs.Common.{◌≡◌, take}
use Rattle.sv_meaning.specs.Blocks.{first_mark}
use Rattle.sv_actions.specs.Listing.{arm_mark, first_in}
use Rattle.sv_actions.proofs.marks.+first.Given as goal

abbrev pub invariant-first_mark_arms-parts : goal.invariant-first_mark_arms-parts
invariant-first_mark_arms-parts l = l.found ≡ first_in arm_mark (take l.part-index l.all)

abbrev pub invariant-first_mark_of-parts : goal.invariant-first_mark_of-parts
invariant-first_mark_of-parts l = l.found ≡ first_in first_mark (take l.part-index l.all)
