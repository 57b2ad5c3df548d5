-- Which answer comes when, and what it writes.
use Rattle.std.specs.Prelude.{◌≡◌, ◌⊎◌, ℕ, Bool, true, false, List, [], Option, Some, None}
use Rattle.fourvec.specs.declared.Bit.{Bit}
use Rattle.sv_meaning.specs.Designs.{Design}
use Rattle.sv_outside.specs.Outside.{one_more, AtMostOneMore, IsPartWritten}
use Rattle.sv_outside.specs.declared.refusal.Place.{Place}
use Rattle.sv_outside.specs.declared.refusal.Refusal.{Refusal}
use Rattle.svtv_commands.specs.Done.{Certifies, Checks, Dumps, Inducts, Proves, Reports, SelfTests, Shows, Simulated}
use Rattle.svtv_files.specs.Files.{Text, Told, bench_of, vars_of}
use Rattle.svtv_files.specs.Refusals.{Refuses, LeavesUnread}
use Rattle.svtv_report.specs.Refusals.{memory_text, read_fault_text, refusal_text, usage_text}
use Rattle.svtv_table.specs.Binding.{bind_faults}
use Rattle.svtv_table.specs.Stimuli.{IsChoice}
use Rattle.svtv_verdicts.specs.Benches.{HasOneLeast}
use Rattle.svtv_words.specs.Commands.{Command, IsCommand, prove, sim, dump, selftest, cert, check, induct, wave}
use Rattle.table_cells.specs.declared.table.Table.{Table}
use Rattle.svtv.specs.declared.status.Status.{Status}
use Rattle.svtv.specs.declared.status.Status.TheVariants.{AllProved, Done, NotAll, Usage, Refused, ReadFault, WriteFault, Memory}

-- ---- runs

-- Under each choice of its variables, a table against which nothing stands over the wires of a design has one least run, a run below every run: so no
-- verdict is over no runs.
abbrev pub HaveRuns : Type 0
HaveRuns = (design : Design) (table : Table) → bind_faults design.wires table ≡ [] → (choice : List (List Bit)) → IsChoice (vars_of design table) choice → HasOneLeast (bench_of design table) choice

-- ---- answers

-- what a command that is done prints; the verdicts of a proof are right by its budget
abbrev pub Prints : Told → Command → Status → Text → Type 0
Prints told (prove d t g top budget) AllProved text = Proves told d t g top budget true text
Prints told (prove d t g top budget) NotAll text = Proves told d t g top budget false text
Prints told (sim d t v top vcd) Done text = Simulated told d t v top vcd text
Prints told (dump d top) Done text = Dumps told d top text
Prints told (selftest n) Done text = SelfTests n text
Prints told (cert d t g name top budget) Done text = Certifies told d t g name top budget text
Prints told (cert d t g name top budget) NotAll text = Reports told d t g name top budget text
Prints told (check f) Done text = Checks told f None text
Prints told (check f) NotAll text = (step : ℕ) × Checks told f (Some step) text
Prints told (induct d a b g top budget) AllProved text = Inducts told d a b g top budget true text
Prints told (induct d a b g top budget) NotAll text = Inducts told d a b g top budget false text
Prints told (wave f path) Done text = Shows told f path text
Prints told command status text = ⊥

abbrev pub PrintsIf : Told → List Text → Status → Text → Type 0
PrintsIf told words status text = (command : Command) × IsCommand words command × Prints told command status text

abbrev pub RefusesIf : Told → List Text → Text → Type 0
RefusesIf told words message = (command : Command) × IsCommand words command × (file : Text) × (r : Refusal) × Refuses told command file r × (message ≡ refusal_text file r)

abbrev pub UnreadIf : Told → List Text → Text → Type 0
UnreadIf told words message = (command : Command) × IsCommand words command × (file : Text) × (place : Place) × LeavesUnread told command file place × (message ≡ read_fault_text file place)

-- what each answer but a write fault writes on the output and on the errors, and why it comes
abbrev pub Answers : Told → List Text → Status → Text → Text → Type 0
Answers told words AllProved text message = (message ≡ []) × PrintsIf told words AllProved text
Answers told words NotAll text message = (message ≡ []) × PrintsIf told words NotAll text
Answers told words Done text message = (message ≡ []) × PrintsIf told words Done text
Answers told words Usage text message = (text ≡ []) × (message ≡ usage_text) × ((command : Command) → IsCommand words command → ⊥)
Answers told words Refused text message = (text ≡ []) × RefusesIf told words message
Answers told words ReadFault text message = (text ≡ []) × UnreadIf told words message
Answers told words Memory text message = (text ≡ []) × (message ≡ memory_text)
Answers told words WriteFault text message = ⊥

-- the answers that print a text on the output; each other one prints a message on the errors
abbrev pub prints_text : Status → Bool
prints_text AllProved = true
prints_text NotAll = true
prints_text Done = true
prints_text _ = false

-- The count of reads that failed: one more where a file was not read, one more at most where memory ran out, and else as it was.
abbrev pub CountsReads : Status → ℕ → ℕ → Type 0
CountsReads ReadFault before now = now ≡ one_more before
CountsReads Memory before now = AtMostOneMore before now
CountsReads _ before now = now ≡ before

-- A write failed on a sink, behind a front of what was to be written there. The other sink is as it was.
pub record IsCutOff (text : Text) (cut cut_now : Option Text) (faults faults_now : ℕ) (other other_now : Option Text) (others others_now : ℕ) : Type 0 where
  pub part : IsPartWritten cut cut_now text
  pub failed : faults_now ≡ one_more faults
  pub stays : other_now ≡ other
  pub unfailed : others_now ≡ others

-- one write failed, on the output or on the errors
abbrev pub OneFailed : ℕ → ℕ → ℕ → ℕ → Type 0
OneFailed out new_out err new_err = ((new_out ≡ one_more out) × (new_err ≡ err)) ⊎ ((new_out ≡ out) × (new_err ≡ one_more err))

-- the answer where the judge finds this bad step, or none
abbrev pub checked_status : Option ℕ → Status
checked_status None = Done
checked_status (Some step) = NotAll

-- the exit code of the process
abbrev pub exit_code : Status → ℕ
exit_code AllProved = 0
exit_code Done = 0
exit_code NotAll = 1
exit_code Usage = 2
exit_code Refused = 3
exit_code ReadFault = 4
exit_code WriteFault = 5
exit_code Memory = 6
