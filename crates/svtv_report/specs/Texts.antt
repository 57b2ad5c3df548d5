-- What is printed of values and verdicts (this project's rules).
use Rattle.std.specs.Prelude.{ℕ, List, [], ◌∷◌, ◌++◌, codes, decimal, Option, Some, None}
use Rattle.std.specs.List.{flat_map}
use Rattle.fourvec.specs.declared.Bit.{Bit}
pub use Rattle.flat_text.specs.Lines.{value_text}
use Rattle.svtv_verdicts.specs.Verdicts.{Verdict, proved, vacuous, failed, undecided}

abbrev pub Text : Type 0
Text = List ℕ

abbrev pub line_feed : Text
line_feed = 10 ∷ []

-- ---- values

-- a name with its value, after so much
abbrev pub value_line : Text → Text → List Bit → Text
value_line before name v = before ++ (name ++ (codes " = " ++ (value_text v ++ line_feed)))

-- a line for each name that has a value
unfoldable pub value_lines : Text → List Text → List (List Bit) → Text
value_lines before (name ∷ names) (v ∷ values) = value_line before name v ++ value_lines before names values
value_lines before names values = []

-- ---- verdicts

-- the lines of one goal: its verdict and, where it failed, the choice and the samples; where it is undecided, behind how many steps
abbrev pub verdict_text : List Text → List Text → Text → Verdict → List (List Bit) → Text
verdict_text vars samples name proved shown = name ++ (codes ": proved" ++ line_feed)
verdict_text vars samples name vacuous shown = name ++ (codes ": vacuous" ++ line_feed)
verdict_text vars samples name (failed choice) shown = name ++ (codes ": failed" ++ (line_feed ++ (value_lines (codes "  var ") vars choice ++ value_lines (codes "  sample ") samples shown)))
verdict_text vars samples name (undecided n) shown = name ++ (codes ": undecided after " ++ (decimal n ++ line_feed))

-- the lines of all goals, in order
unfoldable pub report : List Text → List Text → List Text → List Verdict → List (List (List Bit)) → Text
report vars samples (name ∷ names) (v ∷ verdicts) (s ∷ shown) = verdict_text vars samples name v s ++ report vars samples names verdicts shown
report vars samples names verdicts shown = []

-- ---- certificates

-- the word of a verdict
abbrev pub verdict_word : Verdict → Text
verdict_word proved = codes "proved"
verdict_word vacuous = codes "vacuous"
verdict_word (failed choice) = codes "failed"
verdict_word (undecided n) = codes "undecided"

-- what a certificate says of itself: the goal's name, a blank, and the word of its verdict
abbrev pub cert_note : Text → Verdict → Text
cert_note name verdict = name ++ (codes " " ++ verdict_word verdict)

-- what is said of a certificate that was checked: `verified`, or the step at which it was not
abbrev pub checked_text : Option ℕ → Text
checked_text None = codes "verified" ++ line_feed
checked_text (Some step) = codes "not verified: step " ++ (decimal step ++ line_feed)

-- ---- waveforms

-- a change of a signal: its time, a blank, and its value from there on
abbrev pub change_line : ℕ × List Bit → Text
change_line c = decimal c.0 ++ (codes " " ++ (value_text c.1 ++ line_feed))

-- a line for each change
abbrev pub change_lines : List (ℕ × List Bit) → Text
change_lines changes = flat_map change_line changes
