use Rattle.std.proofs.Common.{sym, ◌∙◌}
use Rattle.driver_resolve.specs.declared.driver.Driver.{Driver}
use Rattle.flat_lines.specs.Fits.{FitsDrive, drive_words}
use Rattle.flat_lines.specs.Items.{a_drive, drive}
use Rattle.flat_lines.proofs.WholeLines.{drive_form}
use Rattle.flat_read.proofs.Refusing.{none_refused, added_judged}
use Rattle.flat_read.proofs.reader.Reader.drive.Goals as goal

pub returns-in-Some-clause-judged : goal.returns-in-Some-clause-judged
returns-in-Some-clause-judged c shown h =
    added_judged c.add_driver.result Driver a_drive FitsDrive drive_words drive shown c.args.words.now.rest.now c.add_driver.new.self c.in-Some.driver drive_form (sym c.in-Some.is ∙ c.in_ok-driver.ensures) (c.add_driver.ensures.judged shown h)

pub returns-in-None-clause-judged : goal.returns-in-None-clause-judged
returns-in-None-clause-judged c shown h = none_refused Driver a_drive FitsDrive drive_words drive shown c.args.words.now.rest.now drive_form (sym c.in-None.is ∙ c.in_ok-driver.ensures)
