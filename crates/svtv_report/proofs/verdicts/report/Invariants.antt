use Rattle.std.proofs.Common.{◌≡◌, ◌++◌, map, drop}
use Rattle.svtv_report.specs.Seen.{verdict_is}
use Rattle.svtv_report.specs.Texts as t
use Rattle.svtv_report.specs.Shown.{sample_texts, var_texts}
use Rattle.svtv_report.proofs.verdicts.report.Given as goal

abbrev pub invariant-goals : goal.invariant-goals
invariant-goals l =
    t.report (var_texts l.vars) (sample_texts l.samples) l.names (map verdict_is l.verdicts) l.shown
    ≡ l.text.items ++ t.report (var_texts l.vars) (sample_texts l.samples) (drop l.at l.names) (map verdict_is (drop l.at l.verdicts)) (drop l.at l.shown)
