use Rattle.std.proofs.Common.{◌≡◌, ◌++◌, length, drop}
use Rattle.svtv_report.specs.Texts.{value_lines}
use Rattle.svtv_report.specs.Shown.{sample_texts}
use Rattle.svtv_report.proofs.verdicts.push_samples.Given as goal

abbrev pub invariant-samples : goal.invariant-samples
invariant-samples l =
    l.fn.text.items ++ value_lines l.before (sample_texts l.samples) l.values
    ≡ l.text.items ++ value_lines l.before (sample_texts (drop (length l.yielded) l.samples)) (drop (length l.yielded) l.values)
