-- One word at the most is right of a goal.
use Rattle.std.proofs.Common.{sym, ap, ◌∙◌}
use Rattle.refute_check.proofs.Bounds.{fresh_short}
use Rattle.svtv_runs.proofs.Runs.{least_run_is_one}
use Rattle.svtv_verdicts.specs.Benches.{sampled_in}
use Rattle.svtv_verdicts.specs.Laws.{ProvedIsNotVacuous, FailedIsNotProved, FailedIsNotVacuous, SamplesAreOne, BudgetIsUsedUp}
use Rattle.svtv_verdicts.specs.Questions.{asking}

pub proved_is_not_vacuous : ProvedIsNotVacuous
proved_is_not_vacuous b goal budget s t p v = v p.some.0 p.some.1

-- the least run is a run
pub failed_is_not_proved : FailedIsNotProved
failed_is_not_proved choice b goal budget s t f p = f.is.breaks (p.every choice f.is.meets f.is.run f.is.least.run)

pub failed_is_not_vacuous : FailedIsNotVacuous
failed_is_not_vacuous choice b goal budget s t f v = v choice f.is.meets

pub samples_are_one : SamplesAreOne
samples_are_one b goal budget choice s t f g =
    let same = least_run_is_one b.design (b.asked choice) b.phases f.is.run g.is.run f.is.least g.is.least in
    f.samples ∙ ap (sampled_in b.samples) same ∙ sym g.samples

pub budget_is_used_up : BudgetIsUsedUp
budget_is_used_up b goal budget n u = (u.given, u.many, fresh_short (asking u.gates u.root) u.log n u.fresh)
