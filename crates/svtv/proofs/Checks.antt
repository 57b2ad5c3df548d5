-- What is said of a certificate that stands.
use Rattle.std.proofs.Common.{◌≡◌, ◌⊎◌, ℕ, ◌<◌, ◌≤◌, List, length, Option, Some, None, true, refl, ap, subst, inl, inr, arith}
use Rattle.cnf.specs.Formula.{Formula}
use Rattle.refute_check.specs.Accepted.{HasEmpty, IsAccepted, IsBadAt, IsDerivedAt}
use Rattle.refute_check.specs.Entry.{Entry}
use Rattle.svtv_commands.specs.Done.{Checks, IsJudged}
use Rattle.svtv_files.specs.Files.{Text, Told}
use Rattle.svtv_files.specs.Refusals.{Refuses}
use Rattle.svtv_report.specs.Texts.{checked_text}
use Rattle.svtv_words.specs.Commands.{Command, IsCommand, check}
use Rattle.svtv_words.proofs.Commands.{one_command}
use Rattle.svtv.specs.Answers.{Answers, Prints, PrintsIf, checked_status, prints_text}
use Rattle.svtv.specs.Legal.{IsLegalCert}
use Rattle.svtv.specs.declared.status.Status.{Status}
use Rattle.svtv.specs.declared.status.Status.TheVariants.{AllProved, Done, NotAll, Usage, Refused, ReadFault, WriteFault, Memory}
use Rattle.svtv.proofs.Legal.{check_stands, same_cert}
use Rattle.svtv.proofs.Said.{Says}

abbrev IsStop : Formula → List Entry → ℕ → Type 0
IsStop formula log k = ((k < length log) × (IsDerivedAt formula log k → ⊥)) ⊎ ((k ≡ length log) × (HasEmpty log → ⊥))

stop_within : (formula : Formula) (log : List Entry) (k : ℕ) → IsStop formula log k → k ≤ length log
stop_within formula log k (inl c) = omega (arith, c.0)
stop_within formula log k (inr c) = omega (arith, c.0)

-- a bad step is not behind another one
not_before : (formula : Formula) (log : List Entry) (j k : ℕ) → IsBadAt formula log j → IsBadAt formula log k → j < k → ⊥
not_before formula log j k a b h = first a.1
  where
    first : IsStop formula log j → ⊥
    first (inl c) = c.1 (b.0 j h)
    first (inr c) = let m = stop_within formula log k b.1 in omega (arith, h, c.0, m)

-- an accepted log has no bad step
not_both : (formula : Formula) (log : List Entry) (k : ℕ) → IsAccepted formula log → IsBadAt formula log k → ⊥
not_both formula log k a b = first b.1
  where
    first : IsStop formula log k → ⊥
    first (inl c) = c.1 (a.derived k c.0)
    first (inr c) = c.1 a.empty

one_step : (j k : ℕ) → (j < k → ⊥) → (k < j → ⊥) → j ≡ k
one_step j k h m = omega (arith, h, m)

-- the judge says one thing
one_judgement : (formula : Formula) (log : List Entry) (a b : Option ℕ) → IsJudged formula log a → IsJudged formula log b → a ≡ b
one_judgement formula log None None h k = refl
one_judgement formula log None (Some j) h k = absurd (not_both formula log j h k)
one_judgement formula log (Some i) None h k = absurd (not_both formula log i k h)
one_judgement formula log (Some i) (Some j) h k = ap Some (one_step i j (not_before formula log i j h k) (not_before formula log j i k h))

-- what is said of a certificate is what the judge says
said_is : (told : Told) (file : Text) (formula : Formula) (log : List Entry) (bad said : Option ℕ) (text : Text) → IsLegalCert told file formula log → IsJudged formula log bad → Checks told file said text
    → said ≡ bad
said_is told file formula log bad said text l judged c =
    let same = same_cert told file c.bytes formula c.formula log c.log l c.has c.stands in
    let one : IsJudged formula c.log said = subst (λ (x : Formula). IsJudged x c.log said) same.0 c.judged in
    one_judgement formula log said bad (subst (λ (x : List Entry). IsJudged formula x said) same.1 one) judged

-- what is said of a log with this bad step, or none
abbrev pub SaysOf : Option ℕ → Status → Text → Type 0
SaysOf bad status text = Says (checked_status bad) (checked_text bad) status text

says : (bad said : Option ℕ) (text : Text) → said ≡ bad → text ≡ checked_text said → SaysOf bad (checked_status said) text
says bad said text e is = inl (ap checked_status e, subst (λ (x : Option ℕ). text ≡ checked_text x) e is)

-- how the check of a certificate that stands ends
pub checked_ends : (told : Told) (words : List Text) (status : Status) (text message file : Text) (formula : Formula) (log : List Entry) (bad : Option ℕ) → IsCommand words (check file)
    → IsLegalCert told file formula log → IsJudged formula log bad → Answers told words status text message → (status ≡ ReadFault → ⊥) → SaysOf bad status text
checked_ends told words status text message file formula log bad is l judged = by status
  where
    its : (s : Status) → PrintsIf told words s text → Prints told (check file) s text
    its s h = subst (λ (x : Command). Prints told x s text) (one_command words h.0 (check file) h.1 is) h.2

    by : (s : Status) → Answers told words s text message → (s ≡ ReadFault → ⊥) → SaysOf bad s text
    by AllProved h n = absurd (its AllProved h.1)
    by NotAll h n =
        let c = its NotAll h.1 in
        says bad (Some c.0) text (said_is told file formula log bad (Some c.0) text l judged c.1) c.1.printed
    by Done h n =
        let c = its Done h.1 in
        says bad None text (said_is told file formula log bad None text l judged c) c.printed
    by Usage h n = absurd (h.2 (check file) is)
    by Refused h n =
        let why = h.1 in
        absurd (check_stands told file formula log l why.2 why.3 (subst (λ (x : Command). Refuses told x why.2 why.3) (one_command words why.0 (check file) why.1 is) why.4))
    by ReadFault h n = absurd (n refl)
    by WriteFault h n = absurd h
    by Memory h n = inr refl

pub prints : (bad : Option ℕ) → prints_text (checked_status bad) ≡ true
prints None = refl
prints (Some step) = refl
