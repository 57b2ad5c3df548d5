-- What is said of a certificate that was checked.
use Rattle.std.proofs.Common.{◌≡◌, ◌⊎◌, ℕ, List, length, Option, Some, None, Result, Ok, Err, refl, sym, subst, inr}
use Rattle.std.specs.Prelude.{◌↔◌, IsOk}
use Rattle.cert_names.specs.Names.{NamesBelow}
use Rattle.cnf.specs.Clauses.{AllBelow}
use Rattle.cnf.specs.Formula.{Formula}
use Rattle.lrat_text.specs.Causes.{IsCause}
use Rattle.lrat_text.specs.Certs.{CertText}
use Rattle.lrat_text.specs.Printed.{AllCanPrint}
use Rattle.lrat_text.specs.Reading as certs
use Rattle.refute_check.proofs.Refutes.{accepted_refutes}
use Rattle.refute_check.specs.Accepted.{IsAccepted, IsBadAt}
use Rattle.refute_check.specs.Certs.{Certificate}
use Rattle.refute_check.specs.Entry.{Entry}
use Rattle.refute_check.specs.declared.checker.CheckErr.{CheckErr}
use Rattle.refute_check.specs.declared.checker.CheckErr.TheVariants.{Bad}
use Rattle.sv_outside.specs.declared.refusal.Refusal.{Refusal}
use Rattle.sv_outside.specs.declared.refusal.TextErr.{TextErr}
use Rattle.sv_outside.specs.declared.refusal.TextErr.TheVariants as e
use Rattle.sv_preproc.specs.Laws.{Possible}
use Rattle.svtv_commands.specs.Done.{Checks, IsJudged}
use Rattle.svtv_commands.specs.Judged.{IsBadOf}
use Rattle.svtv_commands.proofs.Tables.{Causes}
use Rattle.svtv_files.specs.Files.{Text, Told}
use Rattle.svtv_files.specs.Refusals.{IsBadCert, TooLong}
use Rattle.svtv_report.specs.Texts.{checked_text}

-- what the judge says of clauses with other variables, it says of these
pub judged_as : (f g : Formula) (log more : List Entry) (r : Result Certificate CheckErr) (bad : Option ℕ) → (IsAccepted g more ↔ IsAccepted f log) → ((k : ℕ) → IsBadAt g more k ↔ IsBadAt f log k)
    → (IsOk r ↔ IsAccepted g more) → ((k : ℕ) → (r ≡ Err (Bad k)) ↔ IsBadAt g more k) → IsBadOf r bad → IsJudged f log bad
judged_as f g log more (Ok c) bad a b ok at h = subst (λ (o : Option ℕ). IsJudged f log o) (sym h) (a.0 (ok.0 refl))
judged_as f g log more (Err (Bad k)) bad a b ok at h = subst (λ (o : Option ℕ). IsJudged f log o) (sym h) ((b k).0 ((at k).0 refl))

-- what is read names variables below the bound alone
pub names_below : (f : Formula) (log : List Entry) → AllBelow f.vars f.clauses → AllCanPrint f.vars (length f.clauses) log → NamesBelow f.vars f log
names_below f log clauses steps = record { clauses = clauses; steps = λ k l. (steps k l).below }

-- why a text is refused
pub bad_cert : (told : Told) (name text : Text) (error : TextErr) → Possible told name text → ((r : Refusal) → error ≡ e.No r → certs.read text ≡ Err r) → ((r : Refusal) → error ≡ e.No r → IsCause text r)
    → Causes (λ r. TooLong told name r ⊎ IsBadCert told name r) error
bad_cert told name text (e.No r) stands read cause = inr (record { text = text; stands = stands; read = read r refl; cause = cause r refl })
bad_cert told name text e.Memory stands read cause = tt

-- what is printed of what was judged
pub is_checked : (told : Told) (name bytes : Text) (f : Formula) (log : List Entry) (bad : Option ℕ) (text : Text) → Possible told name bytes → CertText bytes f log → IsJudged f log bad → text ≡ checked_text bad
    → Checks told name bad text
is_checked told name bytes f log None text has stands judged printed = record {
  bytes = bytes;
  has = has;
  formula = f;
  log = log;
  stands = stands;
  judged = judged;
  refuted = λ _. accepted_refutes f log judged;
  printed = printed;
}
is_checked told name bytes f log (Some step) text has stands judged printed = record {
  bytes = bytes;
  has = has;
  formula = f;
  log = log;
  stands = stands;
  judged = judged;
  refuted = λ q. cc;
  printed = printed;
}
