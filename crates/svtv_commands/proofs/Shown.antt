-- What is printed of a value change dump, and why one is refused.
use Rattle.std.proofs.Common.{◌≡◌, ◌⊎◌, ℕ, List, Some, None, refl, sym, ◌∙◌, inr}
use Rattle.fourvec.specs.declared.Bit.{Bit}
use Rattle.sv_outside.specs.declared.refusal.Refusal.{Refusal}
use Rattle.sv_outside.specs.declared.refusal.TextErr.{TextErr}
use Rattle.sv_outside.specs.declared.refusal.TextErr.TheVariants as e
use Rattle.sv_preproc.specs.Laws.{Possible}
use Rattle.svtv_commands.specs.Done.{Shows}
use Rattle.svtv_commands.proofs.Tables.{Causes}
use Rattle.svtv_files.specs.Files.{Text, Told}
use Rattle.svtv_files.specs.Refusals.{IsBadDump, IsSignalUnknown, TooLong, at_first}
use Rattle.svtv_report.specs.Texts.{change_lines}
use Rattle.vcd_text.specs.Waves.{BreaksAt, Change, Wave, told_of_path}
use Rattle.vcd_text.specs.declared.waves.VcdVar.{VcdVar}

-- ---- what a text stands for

-- these are all signals and changes for which the bytes stand
abbrev pub StandsAlone : Text → List VcdVar → List Change → Type 0
StandsAlone bytes vars changes = (vs : List VcdVar) (cs : List Change) → Wave bytes vs cs → (vars ≡ vs) × (changes ≡ cs)

-- these are the lines of the changes of the signal
abbrev pub HasLines : List VcdVar → List Change → Text → Text → Type 0
HasLines vars changes path text = (list : List (ℕ × List Bit)) × (told_of_path vars changes path ≡ Some list) × (text ≡ change_lines list)

pub shows : (told : Told) (file bytes path text : Text) (vars : List VcdVar) (changes : List Change) → Possible told file bytes → Wave bytes vars changes → StandsAlone bytes vars changes → HasLines vars changes path text
    → Shows told file path text
shows told file bytes path text vars changes has wave only h = record {
  bytes = bytes;
  has = has;
  vars = vars;
  changes = changes;
  wave = wave;
  only = only;
  list = h.0;
  of_path = h.1;
  printed = h.2;
}

pub signal_unknown : (told : Told) (file bytes path : Text) (vars : List VcdVar) (changes : List Change) (r : Refusal) → Possible told file bytes → Wave bytes vars changes → StandsAlone bytes vars changes
    → told_of_path vars changes path ≡ None → r ≡ record { number = 48; place = at_first; count = 0 } → IsSignalUnknown told file path r
signal_unknown told file bytes path vars changes r has wave only none is = record {
  text = bytes;
  stands = has;
  vars = vars;
  changes = changes;
  wave = wave;
  none = λ vs cs w. let same = only vs cs w in (λ i. told_of_path (sym same.0 i) (sym same.1 i) path) ∙ none;
  is = is;
}

pub bad_dump : (told : Told) (file bytes : Text) (r : Refusal) → Possible told file bytes → ((vars : List VcdVar) (changes : List Change) → Wave bytes vars changes → ⊥) → BreaksAt bytes r.place
    → r ≡ record { number = 47; place = r.place; count = 0 } → IsBadDump told file r
bad_dump told file bytes r has none breaks is = record {
  text = bytes;
  stands = has;
  none = none;
  breaks = breaks;
  is = is;
}

-- ---- refusals

-- why a text is refused
pub wave_causes : (told : Told) (file path : Text) (error : TextErr) → ((r : Refusal) → error ≡ e.No r → IsBadDump told file r ⊎ IsSignalUnknown told file path r)
    → Causes (λ r. TooLong told file r ⊎ (IsBadDump told file r ⊎ IsSignalUnknown told file path r)) error
wave_causes told file path (e.No r) h = inr (h r refl)
wave_causes told file path e.Memory h = tt
