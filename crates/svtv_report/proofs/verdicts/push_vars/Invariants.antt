use Rattle.std.proofs.Common.{◌≡◌, ◌++◌, codes, length, drop}
use Rattle.svtv_report.specs.Texts.{value_lines}
use Rattle.svtv_report.specs.Shown.{var_texts}
use Rattle.svtv_report.proofs.verdicts.push_vars.Given as goal

abbrev pub invariant-vars : goal.invariant-vars
invariant-vars l =
    l.fn.text.items ++ value_lines (codes "  var ") (var_texts l.vars) l.values
    ≡ l.text.items ++ value_lines (codes "  var ") (var_texts (drop (length l.yielded) l.vars)) (drop (length l.yielded) l.values)
