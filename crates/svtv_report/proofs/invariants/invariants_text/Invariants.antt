use Rattle.std.proofs.Common.{◌≡◌, ◌++◌, drop}
use Rattle.svtv_report.specs.Invariants as t
use Rattle.svtv_report.specs.Shown.{names_of}
use Rattle.svtv_report.proofs.invariants.invariants_text.Given as goal

abbrev pub invariant-invariants : goal.invariant-invariants
invariant-invariants l =
    t.invariants_text (names_of l.columns) l.names l.verdicts l.before l.shown
    ≡ l.text.items ++ t.invariants_text (names_of l.columns) (drop l.at l.names) (drop l.at l.verdicts) (drop l.at l.before) (drop l.at l.shown)
