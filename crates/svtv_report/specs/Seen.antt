-- The program's verdicts, as the definitions see them.
use Rattle.svtv_report.specs.declared.verdicts.Verdict.{Verdict as Told}
use Rattle.svtv_report.specs.declared.verdicts.Verdict.TheVariants.{Proved, Vacuous, Failed, Undecided}
use Rattle.svtv_verdicts.specs.Verdicts.{Verdict, proved, vacuous, failed, undecided}

abbrev pub verdict_is : Told → Verdict
verdict_is Proved = proved
verdict_is Vacuous = vacuous
verdict_is (Failed choice) = failed choice
verdict_is (Undecided n) = undecided n
