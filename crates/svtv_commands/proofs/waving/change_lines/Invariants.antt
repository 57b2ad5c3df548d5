use Rattle.std.proofs.Common.{◌≡◌, ◌++◌, length}
use Rattle.svtv_report.specs.Texts.{change_lines}
use Rattle.svtv_commands.proofs.waving.change_lines.Given as goal

abbrev pub invariant-changes : goal.invariant-changes
invariant-changes l = l.text.items ++ change_lines l.left ≡ change_lines l.initial.left

abbrev pub decreases-changes : goal.decreases-changes
decreases-changes l = length l.left
