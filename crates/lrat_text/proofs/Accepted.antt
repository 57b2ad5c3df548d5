-- What the judge accepts can be printed.
use Rattle.std.proofs.Common.{◌≡◌, ℕ, ◌+◌, ◌<◌, ◌≤◌, List, [], ◌∷◌, length, map, take, subst, sym, arith, length-take-le}
use Rattle.std.specs.List.{All}
use Rattle.std.proofs.lemmas.List.{length-append, length-map}
use Rattle.std.proofs.lemmas.List.Elements.{All-nil, All-cons}
use Rattle.cnf.specs.declared.Dim.{Dim}
use Rattle.cnf.specs.Formula.{Formula}
use Rattle.cnf.specs.Clauses.{Valuation, assume}
use Rattle.refute_check.specs.Entry.{Entry}
use Rattle.refute_check.specs.Accepted.{Derives, entry_at, known_of, IsAccepted}
use Rattle.lrat_text.specs.Printed.{AllCanPrint}

-- hints by which a step is derived name what it may cite
hints_within : (db : List (List Dim)) (a : Valuation) (hints : List ℕ) → Derives db a hints → All (λ h. h < length db) hints
hints_within db a [] d = absurd d
hints_within db a (h ∷ []) d = All-cons (λ h. h < length db) h [] d.0 (All-nil (λ h. h < length db))
hints_within db a (h ∷ i ∷ hs) d = All-cons (λ h. h < length db) h (i ∷ hs) d.0 (hints_within db (assume a d.1) (i ∷ hs) d.3)

known_long : (clauses : List (List Dim)) (log : List Entry) (k : ℕ) → k < length log → length (known_of clauses log k) ≡ length clauses + k
known_long clauses log k within =
    let one = length-append clauses (map (λ (s : Entry). s.clause) (take k log)) in
    let two = length-map (take k log) (λ (s : Entry). s.clause) in
    let three = length-take-le k log (let h : k ≤ length log = omega arith in h) in
    omega arith

pub accepted_can : (f : Formula) (log : List Entry) → IsAccepted f log → AllCanPrint f.vars (length f.clauses) log
accepted_can f log accepted k within =
    let d = accepted.derived k within in
    record {
      below = d.in_range;
      named = subst (λ (n : ℕ). All (λ h. h < n) (entry_at log k).hints) (known_long f.clauses log k within) (hints_within (known_of f.clauses log k) _ (entry_at log k).hints d.derives);
    }

-- of clauses and a log that are the accepted ones
pub same_can : (f g : Formula) (log more : List Entry) → g ≡ f → more ≡ log → IsAccepted f log → AllCanPrint g.vars (length g.clauses) more
same_can f g log more e h accepted = subst (λ (l : List Entry). AllCanPrint g.vars (length g.clauses) l) (sym h) (subst (λ (x : Formula). AllCanPrint x.vars (length x.clauses) log) (sym e) (accepted_can f log accepted))
