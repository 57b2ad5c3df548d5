-- Which verdicts of a goal are right.
use Rattle.std.specs.Prelude.{◌≡◌, ℕ, ◌<◌, ◌≤◌, ◌⊎◌, Bool, List, Option, Some}
use Rattle.std.specs.List.{All}
use Rattle.choice_inputs.specs.Questions.{Asks, Tells, asking}
use Rattle.fourvec.specs.declared.Bit.{Bit}
use Rattle.refute_check.specs.Accepted.{IsAccepted}
use Rattle.refute_check.specs.Certs.{Certificate}
use Rattle.refute_check.specs.Fresh.{IsFresh}
use Rattle.svtv_choices.specs.Choices.{bits_of}
use Rattle.goal_gates.specs.Goals.{Goal, IsAnswer, IsBreaking, IsMeeting, IsOne, Question, some_breaks, some_meets}
use Rattle.goal_gates.specs.Rooms.{AreReached, FitsRoom, room}
use Rattle.goal_gates.specs.declared.posing.Posed.{Posed}
use Rattle.goal_prove.specs.declared.answers.Answer.{Answer}
use Rattle.goal_prove.specs.declared.answers.Answer.TheVariants as answer
use Rattle.goal_prove.specs.declared.certs.Cert.{Cert}
use Rattle.goal_prove.specs.declared.certs.Left.{Left}
use Rattle.goal_prove.specs.declared.certs.Verdict.{Verdict}
use Rattle.goal_prove.specs.declared.certs.Verdict.TheVariants.{Proved, Vacuous, Failed, Undecided}

-- Some choice meets the hypotheses, and under every choice that meets them the claims are 1. The certificate refutes clauses that ask
-- whether some choice that meets them breaks the claims.
pub record IsProved (g : Goal) (cert : Certificate) : Type 0 where
  pub some : (choice : List (List Bit)) × IsMeeting g choice
  pub every : (choice : List (List Bit)) → IsMeeting g choice → All (IsOne g choice) g.claims
  pub asks : Asks g.vars (IsAnswer g some_breaks) cert.cnf
  pub accepted : IsAccepted cert.cnf cert.log

-- No choice meets the hypotheses. The certificate refutes clauses that ask whether some choice does.
pub record IsVacuous (g : Goal) (cert : Certificate) : Type 0 where
  pub none : (choice : List (List Bit)) → IsMeeting g choice → ⊥
  pub asks : Asks g.vars (IsAnswer g some_meets) cert.cnf
  pub accepted : IsAccepted cert.cnf cert.log

-- The budget is n and the variables have over 12 bits. The gates and the literal tell one of the two questions, and have no more nodes than
-- the goal has room for; the clauses are theirs alone, and n new clauses follow from them, one after the other.
pub record IsUndecided (g : Goal) (budget : Option ℕ) (left : Left) : Type 0 where
  pub n : ℕ
  pub given : budget ≡ Some n
  pub many : 12 < bits_of g.vars
  pub question : Question
  pub tells : Tells g.vars (IsAnswer g question) left.aig left.root
  pub room : FitsRoom g left.aig
  pub clauses : left.cert.cnf ≡ asking left.aig left.root
  pub fresh : IsFresh left.cert.cnf left.cert.log n

-- A verdict is right where this budget is given, or none. A failure shows a choice that meets the hypotheses and breaks the claims.
abbrev pub IsRight : Goal → Option ℕ → Verdict → Type 0
IsRight g budget (Proved cert) = IsProved g cert
IsRight g budget (Vacuous cert) = IsVacuous g cert
IsRight g budget (Failed choice) = IsBreaking g choice
IsRight g budget (Undecided left) = IsUndecided g budget left

-- ---- the first question alone

-- The budget is n and the variables have over 12 bits. The clauses ask whether some choice meets the hypotheses and breaks the claims, over no
-- more variables than the goal has room for, and n new ones follow from them, one after the other.
pub record IsLeft (g : Goal) (budget : Option ℕ) (cert : Cert) : Type 0 where
  pub n : ℕ
  pub given : budget ≡ Some n
  pub many : 12 < bits_of g.vars
  pub asks : Asks g.vars (IsBreaking g) cert.cnf
  pub room : (marks : List Bool) → AreReached g marks → cert.cnf.vars ≤ room g marks
  pub fresh : IsFresh cert.cnf cert.log n

-- this choice meets the hypotheses and breaks the claims; none does; or the budget was used up
abbrev pub IsBrokenBy : Goal → Option ℕ → Answer → Type 0
IsBrokenBy g budget (answer.Found choice) = IsBreaking g choice
IsBrokenBy g budget (answer.Never cert) = ((choice : List (List Bit)) → IsBreaking g choice → ⊥) × IsAccepted cert.cnf cert.log
IsBrokenBy g budget (answer.Spent cert) = IsLeft g budget cert

-- ---- words of the inner functions

-- the gates and literals of a goal
pub record IsPosed (g : Goal) (posed : Posed) : Type 0 where
  pub meets : Tells g.vars (IsMeeting g) posed.aig posed.meets
  pub breaks : Tells g.vars (IsBreaking g) posed.aig posed.breaks
  pub room : FitsRoom g posed.aig
  pub claims : (choice : List (List Bit)) → All (IsOne g choice) g.claims ⊎ (All (IsOne g choice) g.claims → ⊥)
