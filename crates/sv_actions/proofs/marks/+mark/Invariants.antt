use Rattle.std.proofs.Common.{take}
use Rattle.sv_meaning.specs.Blocks.{marks}
use Rattle.sv_actions.specs.Listing.{JudgesFaults, arm_marks, faults_in}
use Rattle.sv_actions.proofs.marks.+mark.Given as goal

abbrev pub invariant-marks_arms-parts : goal.invariant-marks_arms-parts
invariant-marks_arms-parts l = JudgesFaults (faults_in (arm_marks l.mark) (take l.part-index l.all)) l.found

abbrev pub invariant-marks_of-parts : goal.invariant-marks_of-parts
invariant-marks_of-parts l = JudgesFaults (faults_in (marks l.mark) (take l.part-index l.all)) l.found
