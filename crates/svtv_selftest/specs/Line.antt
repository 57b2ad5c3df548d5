-- The line that a self test prints (this project's rules).
use Rattle.std.specs.Prelude.{ℕ, Bool, true, false, List, ◌++◌, codes, decimal}
use Rattle.std.specs.List.{count_by}
use Rattle.svtv_verdicts.specs.Verdicts.{Verdict, proved, vacuous, failed}
use Rattle.svtv_selftest.specs.Texts.{Text}

abbrev pub is_proved : Verdict → Bool
is_proved proved = true
is_proved v = false

abbrev pub is_vacuous : Verdict → Bool
is_vacuous vacuous = true
is_vacuous v = false

abbrev pub is_failed : Verdict → Bool
is_failed (failed choice) = true
is_failed v = false

-- `selftest N: P proved, V vacuous, F failed`
abbrev pub counts_text : (n p v f : ℕ) → Text
counts_text n p v f = codes "selftest " ++ (decimal n ++ (codes ": " ++ (decimal p ++ (codes " proved, " ++ (decimal v ++ (codes " vacuous, " ++ (decimal f ++ codes " failed\n")))))))

-- with the counts of these verdicts
unfoldable pub line_text : ℕ → List Verdict → Text
line_text n verdicts = counts_text n (count_by is_proved verdicts) (count_by is_vacuous verdicts) (count_by is_failed verdicts)
