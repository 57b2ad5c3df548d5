-- What was decided of the goals of files, reported or counted.
use Rattle.std.proofs.Common.{◌≡◌, ℕ, Bool, map, Option, None, Result, Ok, Err, ◌∙◌, subst, arith, inl, inr}
use Rattle.std.specs.Prelude.{IfOk, IfErr}
use Rattle.std.specs.List.{list_all}
use Rattle.sv_outside.specs.Outside.{Rose}
use Rattle.sv_outside.specs.declared.refusal.Place.{Place}
use Rattle.svtv_commands.specs.Done.{Proves, SelfTests}
use Rattle.svtv_commands.specs.Judged.{IsJudgement, StopsTest}
use Rattle.svtv_commands.specs.declared.judging.Judgement.{Judgement}
use Rattle.svtv_files.specs.Files.{Text, Told}
use Rattle.svtv_files.specs.Refusals.{RefusesProof}
use Rattle.svtv_files.specs.Stopping.{IfUnread, Stops}
use Rattle.svtv_files.specs.declared.stop.Stop.{Stop}
use Rattle.svtv_files.specs.declared.stop.Stop.TheVariants.{Refused, Unread, Memory}
use Rattle.svtv_report.specs.Seen.{verdict_is}
use Rattle.svtv_report.specs.Shown.{sample_texts, var_texts}
use Rattle.svtv_report.specs.Texts.{report}
use Rattle.svtv_selftest.specs.Line.{line_text}
use Rattle.svtv_selftest.specs.Texts as test
use Rattle.svtv_table.specs.Binding.{bound_of}
use Rattle.svtv_texts.specs.Rights.{is_proved}

-- ---- proofs

-- the report of a judgement
pub proves_of : (told : Told) (d t g : Text) (top : Option Text) (budget : Option ℕ) (x : Judgement) (all : Bool) (text : Text) → IsJudgement told d t g top budget x
    → text ≡ report (var_texts x.bound.vars) (sample_texts x.bound.samples) x.decisions.names (map verdict_is x.decisions.verdicts) x.decisions.shown
    → all ≡ list_all is_proved (map verdict_is x.decisions.verdicts) → Proves told d t g top budget all text
unfolding bound_of
proves_of told d t g top budget x all text j printed whole = record {
  design = j.design;
  table = j.table;
  setup = j.setup;
  goals = j.goals;
  are_goals = j.are_goals;
  verdicts = map verdict_is x.decisions.verdicts;
  shown = x.decisions.shown;
  right = j.right;
  printed = printed ∙ λ i. report (var_texts (j.bound i).vars) (sample_texts (j.bound i).samples) (j.names i) (map verdict_is x.decisions.verdicts) x.decisions.shown;
  whole = whole;
}

-- ---- self tests

-- the line of a judgement
pub self_tests : (n : ℕ) (x : Judgement) (text : Text) → IsJudgement (test.told n) test.design_name test.table_name test.goals_name None None x → text ≡ line_text n (map verdict_is x.decisions.verdicts) → SelfTests n text
self_tests n x text j printed = record {
  design = j.design;
  table = j.table;
  setup = j.setup;
  goals = j.goals;
  are_goals = j.are_goals;
  verdicts = map verdict_is x.decisions.verdicts;
  shown = x.decisions.shown;
  right = j.right;
  printed = printed;
}

-- files of these names are those of a self test
pub test_judged : (n : ℕ) (d t g : Text) (r : Result Judgement Stop) → d ≡ test.design_name → t ≡ test.table_name → g ≡ test.goals_name → IfOk r (IsJudgement (test.told n) d t g None None)
    → IfOk r (IsJudgement (test.told n) test.design_name test.table_name test.goals_name None None)
test_judged n d t g r p q e h =
    subst (λ (z : Text). IfOk r (IsJudgement (test.told n) test.design_name test.table_name z None None)) e
    (subst (λ (y : Text). IfOk r (IsJudgement (test.told n) test.design_name y g None None)) q (subst (λ (x : Text). IfOk r (IsJudgement (test.told n) x t g None None)) p h))

no_rise : Rose 0 0 → ⊥
no_rise (inl h) = omega (arith, h)
no_rise (inr h) = omega (arith, h)

-- nothing is left unread where no count rises
pub test_stops : {A : Type 0} (n : ℕ) (d t g : Text) (Leaves : Text → Place → Type 0) (r : Result A Stop) → d ≡ test.design_name → t ≡ test.table_name → g ≡ test.goals_name
    → IfErr r (Stops (RefusesProof (test.told n) d t g None) Leaves) → IfErr r (IfUnread (Rose 0 0)) → IfErr r (StopsTest n)
test_stops n d t g Leaves (Ok x) p q e h u = tt
test_stops n d t g Leaves (Err Memory) p q e h u = tt
test_stops n d t g Leaves (Err (Unread file place)) p q e h u = absurd (no_rise u)
test_stops n d t g Leaves (Err (Refused file r)) p q e h u =
    subst (λ (z : Text). RefusesProof (test.told n) test.design_name test.table_name z None file r) e
    (subst (λ (y : Text). RefusesProof (test.told n) test.design_name y g None file r) q (subst (λ (x : Text). RefusesProof (test.told n) x t g None file r) p h))
