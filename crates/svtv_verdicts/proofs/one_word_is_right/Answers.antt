use Rattle.svtv_verdicts.proofs.Words.{proved_is_not_vacuous, failed_is_not_proved, failed_is_not_vacuous, samples_are_one, budget_is_used_up}
use Rattle.svtv_verdicts.proofs.one_word_is_right.Goals as goal

pub returns-clause-vacuous : goal.returns-clause-vacuous
returns-clause-vacuous c = proved_is_not_vacuous

pub returns-clause-failed : goal.returns-clause-failed
returns-clause-failed c = failed_is_not_proved

pub returns-clause-failed_met : goal.returns-clause-failed_met
returns-clause-failed_met c = failed_is_not_vacuous

pub returns-clause-samples : goal.returns-clause-samples
returns-clause-samples c = samples_are_one

pub returns-clause-budget : goal.returns-clause-budget
returns-clause-budget c = budget_is_used_up
