-- What comes of questions, and of the two questions of a goal.
use Rattle.std.proofs.Common.{◌≡◌, ℕ, ◌≤◌, Bool, false, List, [], length, take, Option, Some, None, Result, Ok, Err, refl, sym, ◌∙◌, subst, arith, ⊎_elim, IsSomeAnd, IfOk, IfNone, slice_index_or, ext_get_or, get_or-take, length-take-le}
use Rattle.std.specs.declared.alloc.AllocError.{AllocError}
use Rattle.aig.specs.declared.gate.Gate.{Gate}
use Rattle.aig.specs.declared.gate.Lit.{Lit}
use Rattle.aig.specs.Graph.{IsGraph, IsIn, count_inputs}
use Rattle.choice_inputs.specs.Questions.{Asks, IsTold, NoneAnswers, Tells, asking}
use Rattle.choice_inputs.specs.Tables.{all_ruled_out}
use Rattle.choice_inputs.proofs.Asked.{gates_ask, asks_told}
use Rattle.choice_inputs.proofs.Resolving.{table_asks}
use Rattle.cnf.specs.Clauses.{Solves}
use Rattle.cnf.specs.Formula.{Formula}
use Rattle.fourvec.specs.declared.Bit.{Bit}
use Rattle.goal_gates.specs.Goals.{Goal, IsAnswer, IsBreaking, IsMeeting, Question}
use Rattle.goal_gates.specs.Rooms.{FitsRoom, room}
use Rattle.goal_gates.specs.declared.posing.Posed.{Posed}
use Rattle.refute_check.specs.Accepted.{IsAccepted}
use Rattle.refute_check.proofs.Refutes.{accepted_refutes}
use Rattle.refute_check.specs.Certs.{Certificate}
use Rattle.refute_check.specs.Fresh.{IsFresh}
use Rattle.svex_arena.specs.Arenas.{Extends}
use Rattle.svex_shape.specs.declared.shape.Shape.{Shape}
use Rattle.svex_shape.specs.declared.shape.Shape.TheVariants.{Const}
use Rattle.svtv_choices.specs.Choices.{bits_of}
use Rattle.svtv_table.specs.Stimuli.{IsChoice}
use Rattle.svtv_table.specs.declared.bound.VarDecl.{VarDecl}
use Rattle.goal_prove.specs.Asked.{IsAnswered, IsNever, IsSpent}
use Rattle.goal_prove.specs.Verdicts.{IsBrokenBy, IsPosed, IsProved, IsVacuous, IsUndecided}
use Rattle.goal_prove.specs.declared.answers.Answer.{Answer}
use Rattle.goal_prove.specs.declared.answers.Answer.TheVariants.{Found, Never, Spent}
use Rattle.goal_prove.specs.declared.certs.Cert.{Cert}

if_ok : {A E : Type 0} (r : Result A E) (P Q : A → Type 0) → IfOk r P → ((x : A) → P x → Q x) → IfOk r Q
if_ok (Ok x) P Q h f = f x h
if_ok (Err e) P Q h f = h

-- ---- one question

-- all choices are ruled out one by one
pub never_by_table : (vars : List VarDecl) (gates : List Gate) (root : Lit) (cert : Certificate) (bits : ℕ) (found : Option (List (List Bit))) → cert.cnf ≡ all_ruled_out bits → IsAccepted cert.cnf cert.log
    → found ≡ None → IfNone found (NoneAnswers vars (IsTold gates root)) → IsNever vars (IsTold gates root) cert
never_by_table vars gates root cert bits found e a none h =
    let no : NoneAnswers vars (IsTold gates root) = subst (λ o. IfNone o (NoneAnswers vars (IsTold gates root))) none h in
    record {
      none = no;
      asks = subst (Asks vars (IsTold gates root)) (sym e) (table_asks vars (IsTold gates root) bits cert.log (subst (λ f. IsAccepted f cert.log) e a) no);
      accepted = a;
    }

-- the clauses of the gates are refuted
pub never_by_log : (vars : List VarDecl) (gates : List Gate) (root : Lit) (cert : Certificate) → IsGraph gates → IsIn gates root → count_inputs gates ≡ bits_of vars → cert.cnf ≡ asking gates root → IsAccepted cert.cnf cert.log → IsNever vars (IsTold gates root) cert
never_by_log vars gates root cert g within n e a =
    let asks : Asks vars (IsTold gates root) cert.cnf = subst (Asks vars (IsTold gates root)) (sym e) (gates_ask vars gates root g within n) in
    record {
      none = λ choice c told. let s = asks.asked.1 (choice, c, told) in accepted_refutes cert.cnf cert.log a s.0 s.1;
      asks = asks;
      accepted = a;
    }

pub solved_by : (gates : List Gate) (root : Lit) (cnf : Formula) (xs ys : List Bool) → cnf ≡ asking gates root → ((length ys ≡ cnf.vars) × Solves (λ v. slice_index_or ys v false) cnf.clauses)
    → xs ≡ ys → Solves (λ v. slice_index_or xs v false) (asking gates root).clauses
solved_by gates root cnf xs ys e s same =
    subst (λ zs. Solves (λ v. slice_index_or zs v false) (asking gates root).clauses) (sym same) (subst (λ f. Solves (λ v. slice_index_or ys v false) f.clauses) e s.1)

-- ---- the two questions

pub proved_by : (g : Goal) (posed : Posed) (first : Certificate) (choice : List (List Bit)) → IsPosed g posed → IsNever g.vars (IsTold posed.aig posed.breaks) first → IsChoice g.vars choice → IsTold posed.aig posed.meets choice → IsProved g first
proved_by g posed first choice p never c told = record {
  some = (choice, (p.meets.told choice c).0 told);
  every = λ other m.
      ⊎_elim (λ all. all) (λ broken. absurd (never.none other m.is ((p.breaks.told other m.is).1 (record { meets = m; breaks = broken })))) (p.claims other);
  asks = asks_told g.vars (IsBreaking g) posed.aig posed.breaks first.cnf p.breaks never.asks;
  accepted = never.accepted;
}

pub vacuous_by : (g : Goal) (posed : Posed) (cert : Certificate) → IsPosed g posed → IsNever g.vars (IsTold posed.aig posed.meets) cert → IsVacuous g cert
vacuous_by g posed cert p never = record {
  none = λ choice m. never.none choice m.is ((p.meets.told choice m.is).1 m);
  asks = asks_told g.vars (IsMeeting g) posed.aig posed.meets cert.cnf p.meets never.asks;
  accepted = never.accepted;
}

some_given : (budget : Option ℕ) (P : ℕ → Type 0) → IsSomeAnd budget P → (n : ℕ) × (budget ≡ Some n) × P n
some_given None P h = absurd h
some_given (Some n) P h = (n, refl, h)

pub undecided_by : (g : Goal) (posed : Posed) (q : Question) (root : Lit) (budget : Option ℕ) (cert : Cert) → IsPosed g posed → Tells g.vars (IsAnswer g q) posed.aig root → IsSpent g.vars posed.aig root budget cert
    → IsUndecided g budget (record { aig = posed.aig; root = root; cert = cert })
undecided_by g posed q root budget cert p tells spent =
    let s = some_given budget (λ n. IsFresh cert.cnf cert.log n) spent.steps in
    record {
      n = s.0;
      given = s.1;
      many = spent.many;
      question = q;
      tells = tells;
      room = p.room;
      clauses = spent.clauses;
      fresh = s.2;
    }

-- ---- the first question alone

pub broken_by : (g : Goal) (gates : List Gate) (root : Lit) (budget : Option ℕ) (r : Result Answer AllocError) → Tells g.vars (IsBreaking g) gates root → FitsRoom g gates → IfOk r (IsAnswered g.vars gates root budget) → IfOk r (IsBrokenBy g budget)
broken_by g gates root budget r tells fits h = if_ok r (IsAnswered g.vars gates root budget) (IsBrokenBy g budget) h one
  where
    one : (a : Answer) → IsAnswered g.vars gates root budget a → IsBrokenBy g budget a
    one (Found choice) x = (tells.told choice x.0).0 x.1
    one (Never cert) x = ((λ choice m. x.none choice m.meets.is ((tells.told choice m.meets.is).1 m)), x.accepted)
    one (Spent cert) x =
        let s = some_given budget (λ n. IsFresh cert.cnf cert.log n) x.steps in
        let own : Asks g.vars (IsTold gates root) cert.cnf = subst (Asks g.vars (IsTold gates root)) (sym x.clauses) (gates_ask g.vars gates root tells.graph tells.within tells.inputs) in
        record {
          n = s.0;
          given = s.1;
          many = x.many;
          asks = asks_told g.vars (IsBreaking g) gates root cert.cnf tells own;
          room = λ marks reached. subst (λ (f : Formula). f.vars ≤ room g marks) (sym x.clauses) (fits marks reached);
          fresh = s.2;
        }

-- ---- the arena

pub cut_back : (old new : List Shape) (len : ℕ) → len ≡ length old → Extends old new → take len new ≡ old
cut_back old new len e x =
    let long : length (take len new) ≡ length old = length-take-le len new (omega (arith, e, x.longer)) ∙ e in
    ext_get_or (Const []) (take len new) old long (λ i l. get_or-take len new i (Const []) (omega (arith, l, long, e)) ∙ x.same i (omega (arith, l, long)))
