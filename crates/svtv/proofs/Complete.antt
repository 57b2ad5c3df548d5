-- A command with legal files is done, but for faults and want of memory, and but for proofs of designs with wide loops.
use Rattle.std.proofs.Common.{◌≡◌, ◌⊎◌, List, None, refl, subst, inl, inr}
use Rattle.sv_outside.specs.declared.refusal.Refusal.{Refusal}
use Rattle.svtv_words.specs.Commands.{Command, IsCommand, prove, sim, dump, selftest, cert, check, induct, wave}
use Rattle.svtv_selftest.specs.Texts as test
use Rattle.svtv_words.proofs.Commands.{one_command}
use Rattle.svtv.specs.Answers.{Answers, PrintsIf, Prints}
use Rattle.svtv_files.specs.Files.{Text, Told}
use Rattle.svtv.specs.Legal.{AreLegal, IsDone, IsLooped}
use Rattle.svtv.specs.Outcomes.{IfLeft, status_of}
use Rattle.svtv_files.specs.Refusals.{Refuses}
use Rattle.svtv.specs.declared.status.Status.{Status}
use Rattle.svtv.specs.declared.status.Status.TheVariants.{AllProved, Done, NotAll, Usage, Refused, ReadFault, WriteFault, Memory}
use Rattle.svtv.specs.declared.work.Outcome.{Outcome}
use Rattle.svtv.specs.declared.work.Outcome.TheVariants as outcome
use Rattle.svtv.proofs.Legal.{cert_loops, check_stands, design_stands, induct_loops, proof_loops, simulation_stands, wave_stands}

-- legal files are refused for loops alone
legal_loops : (told : Told) (c : Command) (file : Text) (r : Refusal) → AreLegal told c → Refuses told c file r → IsLooped told c Refused
legal_loops told (prove d t g top budget) file r l h = (l.0, l.2.is_design.file, r.count, proof_loops told d t g top l.0 l.1 l.3 l.2 l.4 file r h)
legal_loops told (sim d t v top vcd) file r l h = absurd (simulation_stands told d t v top l.0 l.1 l.3 l.2 l.4 file r h)
legal_loops told (dump d top) file r l h = absurd (design_stands told d top l.0 l.1 file r h)
legal_loops told (selftest n) file r l h =
    (l.0, l.2.is_design.file, r.count, proof_loops (test.told n) test.design_name test.table_name test.goals_name None l.0 l.1 l.3 l.2 l.4 file r h)
legal_loops told (cert d t g name top budget) file r l h = (l.0, l.2.is_design.file, r.count, cert_loops told d t g name top l.0 l.1 l.3 l.2 l.4 l.5 file r h)
legal_loops told (check f) file r l h = absurd (check_stands told f l.0 l.1 l.2 file r h)
legal_loops told (induct d a b g top budget) file r l h = (l.0, l.4.is_design.file, r.count, induct_loops told d a b g top l.0 l.1 l.2 l.3 l.4 file r h)
legal_loops told (wave f path) file r l h = absurd (wave_stands told f path l.0 l.1 l.2 l.3 file r h)

-- what a command prints, it is done with
printed : (told : Told) (c : Command) (status : Status) (text : Text) → Prints told c status text → IsDone c status
printed told (prove d t g top budget) AllProved text h = tt
printed told (prove d t g top budget) NotAll text h = tt
printed told (sim d t v top vcd) Done text h = tt
printed told (dump d top) Done text h = tt
printed told (selftest n) Done text h = tt
printed told (prove d t g top budget) Done text h = absurd h
printed told (prove d t g top budget) Usage text h = absurd h
printed told (prove d t g top budget) Refused text h = absurd h
printed told (prove d t g top budget) ReadFault text h = absurd h
printed told (prove d t g top budget) WriteFault text h = absurd h
printed told (prove d t g top budget) Memory text h = absurd h
printed told (sim d t v top vcd) AllProved text h = absurd h
printed told (sim d t v top vcd) NotAll text h = absurd h
printed told (sim d t v top vcd) Usage text h = absurd h
printed told (sim d t v top vcd) Refused text h = absurd h
printed told (sim d t v top vcd) ReadFault text h = absurd h
printed told (sim d t v top vcd) WriteFault text h = absurd h
printed told (sim d t v top vcd) Memory text h = absurd h
printed told (dump d top) AllProved text h = absurd h
printed told (dump d top) NotAll text h = absurd h
printed told (dump d top) Usage text h = absurd h
printed told (dump d top) Refused text h = absurd h
printed told (dump d top) ReadFault text h = absurd h
printed told (dump d top) WriteFault text h = absurd h
printed told (dump d top) Memory text h = absurd h
printed told (selftest n) AllProved text h = absurd h
printed told (selftest n) NotAll text h = absurd h
printed told (selftest n) Usage text h = absurd h
printed told (selftest n) Refused text h = absurd h
printed told (selftest n) ReadFault text h = absurd h
printed told (selftest n) WriteFault text h = absurd h
printed told (selftest n) Memory text h = absurd h
printed told (cert d t g name top budget) Done text h = tt
printed told (cert d t g name top budget) NotAll text h = tt
printed told (check f) Done text h = tt
printed told (check f) NotAll text h = tt
printed told (cert d t g name top budget) AllProved text h = absurd h
printed told (cert d t g name top budget) Usage text h = absurd h
printed told (cert d t g name top budget) Refused text h = absurd h
printed told (cert d t g name top budget) ReadFault text h = absurd h
printed told (cert d t g name top budget) WriteFault text h = absurd h
printed told (cert d t g name top budget) Memory text h = absurd h
printed told (check f) AllProved text h = absurd h
printed told (check f) Usage text h = absurd h
printed told (check f) Refused text h = absurd h
printed told (check f) ReadFault text h = absurd h
printed told (check f) WriteFault text h = absurd h
printed told (check f) Memory text h = absurd h
printed told (induct d a b g top budget) AllProved text h = tt
printed told (induct d a b g top budget) NotAll text h = tt
printed told (induct d a b g top budget) Done text h = absurd h
printed told (induct d a b g top budget) Usage text h = absurd h
printed told (induct d a b g top budget) Refused text h = absurd h
printed told (induct d a b g top budget) ReadFault text h = absurd h
printed told (induct d a b g top budget) WriteFault text h = absurd h
printed told (induct d a b g top budget) Memory text h = absurd h
printed told (wave f path) Done text h = tt
printed told (wave f path) AllProved text h = absurd h
printed told (wave f path) NotAll text h = absurd h
printed told (wave f path) Usage text h = absurd h
printed told (wave f path) Refused text h = absurd h
printed told (wave f path) ReadFault text h = absurd h
printed told (wave f path) WriteFault text h = absurd h
printed told (wave f path) Memory text h = absurd h

done : (told : Told) (words : List Text) (status : Status) (text : Text) (c : Command) → IsCommand words c → PrintsIf told words status text → IsDone c status
done told words status text c is h = subst (λ (x : Command). IsDone x status) (one_command words h.0 c h.1 is) (printed told h.0 status text h.2)

-- how a command with legal files ends
pub ends : (told : Told) (words : List Text) (status : Status) (text message : Text) (c : Command) → IsCommand words c → AreLegal told c → Answers told words status text message
    → (status ≡ ReadFault → ⊥) → IsDone c status ⊎ (status ≡ Memory) ⊎ IsLooped told c status
ends told words AllProved text message c is l h n = inl (done told words AllProved text c is h.1)
ends told words NotAll text message c is l h n = inl (done told words NotAll text c is h.1)
ends told words Done text message c is l h n = inl (done told words Done text c is h.1)
ends told words Usage text message c is l h n = absurd (h.2 c is)
ends told words Refused text message c is l h n =
    let why = h.1 in
    inr (inr (legal_loops told c why.2 why.3 l (subst (λ (x : Command). Refuses told x why.2 why.3) (one_command words why.0 c why.1 is) why.4)))
ends told words ReadFault text message c is l h n = absurd (n refl)
ends told words WriteFault text message c is l h n = absurd h
ends told words Memory text message c is l h n = inr (inl refl)

-- only a file that was not read ends in a read fault
pub left : (P : Type 0) (outcome : Outcome) → IfLeft P outcome → status_of outcome ≡ ReadFault → P
left P (outcome.AllProved text) h e = cc
left P (outcome.NotAll text) h e = cc
left P (outcome.Done text) h e = cc
left P (outcome.Refused message) h e = cc
left P (outcome.Unread message) h e = h
left P outcome.Misused h e = cc
left P outcome.Memory h e = cc
