-- What is said of a value change dump that stands.
use Rattle.std.proofs.Common.{◌≡◌, ℕ, List, Some, refl, sym, ◌∙◌, ap, subst, inl, inr}
use Rattle.fourvec.specs.declared.Bit.{Bit}
use Rattle.svtv_commands.specs.Done.{Shows}
use Rattle.svtv_files.specs.Files.{Text, Told}
use Rattle.svtv_files.specs.Refusals.{Refuses}
use Rattle.svtv_report.specs.Texts.{change_lines}
use Rattle.svtv_words.specs.Commands.{Command, IsCommand, wave}
use Rattle.svtv_words.proofs.Commands.{one_command}
use Rattle.vcd_text.specs.Waves.{Change, told_of_path}
use Rattle.vcd_text.specs.declared.waves.VcdVar.{VcdVar}
use Rattle.svtv.specs.Answers.{Answers, Prints, PrintsIf}
use Rattle.svtv.specs.Legal.{IsLegalWave}
use Rattle.svtv.specs.declared.status.Status.{Status}
use Rattle.svtv.specs.declared.status.Status.TheVariants.{AllProved, Done, NotAll, Usage, Refused, ReadFault, WriteFault, Memory}
use Rattle.svtv.proofs.Legal.{same_wave, wave_stands}
use Rattle.svtv.proofs.Said.{Says}

module _ (told : Told) (file path : Text) (vars : List VcdVar) (changes : List Change) (list : List (ℕ × List Bit)) (l : IsLegalWave told file path vars changes list) where
  -- the lines are those of these changes
  shown_is : (text : Text) → Shows told file path text → text ≡ change_lines list
  shown_is text s =
      let same = s.only vars changes (same_wave told file path s.bytes vars changes list l s.has) in
      let one : Some s.list ≡ Some list = sym s.of_path ∙ (λ i. told_of_path (same.0 i) (same.1 i) path) ∙ l.of_path in
      let all : s.list ≡ list = cc in
      s.printed ∙ ap change_lines all

  -- how a call for the signal ends
  pub shown_ends : (words : List Text) (status : Status) (text message : Text) → IsCommand words (wave file path) → Answers told words status text message → (status ≡ ReadFault → ⊥) → Says Done (change_lines list) status text
  shown_ends words status text message is = by status
    where
      its : (s : Status) → PrintsIf told words s text → Prints told (wave file path) s text
      its s h = subst (λ (x : Command). Prints told x s text) (one_command words h.0 (wave file path) h.1 is) h.2

      by : (s : Status) → Answers told words s text message → (s ≡ ReadFault → ⊥) → Says Done (change_lines list) s text
      by AllProved h n = absurd (its AllProved h.1)
      by NotAll h n = absurd (its NotAll h.1)
      by Done h n = inl (refl, shown_is text (its Done h.1))
      by Usage h n = absurd (h.2 (wave file path) is)
      by Refused h n =
          let why = h.1 in
          absurd (wave_stands told file path vars changes list l why.2 why.3 (subst (λ (x : Command). Refuses told x why.2 why.3) (one_command words why.0 (wave file path) why.1 is) why.4))
      by ReadFault h n = absurd (n refl)
      by WriteFault h n = absurd h
      by Memory h n = inr refl
