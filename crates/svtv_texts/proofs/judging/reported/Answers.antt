use Rattle.std.proofs.Common.{List, map, sym, ap, ◌∙◌}
use Rattle.std.specs.List.{list_all}
use Rattle.std.proofs.lemmas.List.Folds.{list_all-map}
use Rattle.svtv_report.specs.Seen.{verdict_is}
use Rattle.svtv_report.specs.Shown.{sample_texts, var_texts}
use Rattle.svtv_report.specs.Texts.{report}
use Rattle.svtv_report.specs.declared.verdicts.Verdict.{Verdict}
use Rattle.svtv_texts.specs.Rights.{is_proved}
use Rattle.svtv_texts.proofs.judging.reported.Goals as goal

pub returns-clause-printed : goal.returns-clause-printed
returns-clause-printed c =
    c.in_ok-text.ensures
    ∙ λ i. report (var_texts (c.as_slice-3.ensures i)) (sample_texts (c.as_slice-4.ensures i)) (c.as_slice.ensures i) (map verdict_is (c.as_slice-2.ensures i)) (c.as_slice-5.ensures i)

pub returns-clause-whole : goal.returns-clause-whole
returns-clause-whole c =
    c.all_proved.ensures
    ∙ ap (λ (vs : List Verdict). list_all (λ v. is_proved (verdict_is v)) vs) c.as_slice-6.ensures
    ∙ sym (list_all-map is_proved verdict_is c.args.decisions.now.verdicts)
