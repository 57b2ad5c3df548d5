-- One hint of a derivation.
use Rattle.std.proofs.Common.{◌≡◌, ◌↔◌, ℕ, ◌<◌, ◌≤◌, ◌+◌, ◌⊎◌, Bool, false, List, [], ◌∷◌, length, get_or, map, take, sym, refl, ap, ◌∙◌, arith, subst, ⊎_elim, length-append}
use Rattle.std.specs.List.{All}
use Rattle.std.proofs.Common.{length-take-le, Vec, Global}
use Rattle.std.specs.Prelude.{IsTrue}
use Rattle.std.proofs.lemmas.Bool.{cases_lt, false≢true}
use Rattle.std.proofs.lemmas.List.{length-map, get_or-take, get_or_default}
use Rattle.std.proofs.lemmas.List.Elements.{All-contains, All-append, All-map, at_read}
use Rattle.cnf.specs.declared.Dim.{Dim}
use Rattle.cnf.specs.Clauses.{AllBelow, Valuation, assume, denied, IsOpen, IsFalsified, IsConflict, IsUnit}
use Rattle.refute_check.specs.Entry.{Entry, no_entry, entry_of}
use Rattle.refute_check.specs.Accepted.{clause_at, Derives, known_of, entry_at, HasRoom, IsConsistent, IsDerived}

-- an open literal is not false
open_false : (a : Valuation) (d : Dim) → IsOpen a d → IsFalsified a d → ⊥
open_false a d o f = cc

-- a conflict is not unit
pub unit_conflict : (a : Valuation) (c : List Dim) (d : Dim) → IsUnit a c d → IsConflict a c → ⊥
unit_conflict a c d u f = open_false a d u.opened (All-contains (IsFalsified a) c d f u.inside)

-- there is one open literal at most
pub unit_one : (a : Valuation) (c : List Dim) (d e : Dim) → IsUnit a c d → IsUnit a c e → e ≡ d
unit_one a c d e u w = ⊎_elim (λ s. s) (λ f. absurd (open_false a e w.opened f)) (All-contains (λ x. (x ≡ d) ⊎ IsFalsified a x) c e u.others w.inside)

pub derives_unit : (db : List (List Dim)) (a : Valuation) (h : ℕ) (rest : List ℕ) (d : Dim) → h < length db → IsUnit a (clause_at db h) d →
    Derives db (assume a d) rest ↔ Derives db a (h ∷ rest)
derives_unit db a h [] d lt u = (λ k. absurd k, λ k. absurd (unit_conflict a _ d u k.1))
derives_unit db a h (i ∷ hs) d lt u = (λ k. (lt, d, u, k), λ k. subst (λ (e : Dim). Derives db (assume a e) (i ∷ hs)) (unit_one a _ d k.1 u k.2) k.3)

pub derives_conflict : (db : List (List Dim)) (a : Valuation) (h : ℕ) (rest : List ℕ) → h < length db → IsConflict a (clause_at db h) →
    (rest ≡ []) ↔ Derives db a (h ∷ rest)
derives_conflict db a h [] lt f = (λ k. (lt, f), λ k. refl)
derives_conflict db a h (i ∷ hs) lt f = (λ k. cc, λ k. absurd (unit_conflict a _ k.1 k.2 f))

pub derives_neither : (db : List (List Dim)) (a : Valuation) (h : ℕ) (rest : List ℕ) → (IsConflict a (clause_at db h) → ⊥) → ((d : Dim) → IsUnit a (clause_at db h) d → ⊥) →
    Derives db a (h ∷ rest) → ⊥
derives_neither db a h [] f u k = f k.1
derives_neither db a h (i ∷ hs) f u k = u k.1 k.2

pub derives_past : (db : List (List Dim)) (a : Valuation) (h : ℕ) (rest : List ℕ) → length db ≤ h → Derives db a (h ∷ rest) → ⊥
derives_past db a h [] le k = let lt : h < length db = k.0 in omega arith
derives_past db a h (i ∷ hs) le k = let lt : h < length db = k.0 in omega arith

length_some : (clauses : List (List Dim)) (log : List Entry) (k : ℕ) → k ≤ length log → length (known_of clauses log k) ≡ length clauses + k
length_some clauses log k le =
    let t : length (take k log) ≡ k = length-take-le k log le in
    length-append clauses (map (λ s. s.clause) (take k log)) ∙ ap (λ n. length clauses + n) (length-map (take k log) (λ (s : Entry). s.clause) ∙ t)

pub length_known : (vs : List (Vec Dim Global)) (log : List Entry) (k : ℕ) → k ≤ length log → length (known_of (map (λ v. v.items) vs) log k) ≡ length vs + k
length_known vs log k le = length_some (map (λ v. v.items) vs) log k le ∙ ap (λ n. n + k) (length-map vs (λ (v : Vec Dim Global). v.items))

pub known_past : (vs : List (Vec Dim Global)) (log : List Entry) (k h : ℕ) → k ≤ length log → (h < length vs + k → IsTrue false) → length (known_of (map (λ v. v.items) vs) log k) ≤ h
known_past vs log k h le f = rw (length_known vs log k le) (⊎_elim (λ lt. absurd (false≢true (f lt))) (λ past. past) (cases_lt h (length vs + k)))

pub known_here : (vs : List (Vec Dim Global)) (log : List Entry) (k h : ℕ) → k ≤ length log → h < length vs + k → h < length (known_of (map (λ v. v.items) vs) log k)
known_here vs log k h le lt = rw (length_known vs log k le) lt

-- The loop over the hints: what is left does what all do from the beginning, which is D.
pub never : (db : List (List Dim)) (a : Valuation) (left rest : List ℕ) (h : ℕ) (D : Type 0) → left ≡ h ∷ rest →
    (Derives db a left ↔ D) → (Derives db a (h ∷ rest) → ⊥) → IsTrue false ↔ D
never db a left rest h D e iff not' = (λ t. absurd (false≢true t), λ d. absurd (not' (subst (Derives db a) e (iff.1 d))))

pub none_lead : (db : List (List Dim)) (a : Valuation) (left : List ℕ) (D : Type 0) → left ≡ [] → (Derives db a left ↔ D) → IsTrue false ↔ D
none_lead db a left D e iff = (λ t. absurd (false≢true t), λ d. absurd (let k : Derives db a [] = subst (Derives db a) e (iff.1 d) in k))

pub at_end : (db : List (List Dim)) (a : Valuation) (left rest : List ℕ) (h : ℕ) (D : Type 0) (r : Bool) → left ≡ h ∷ rest →
    (Derives db a left ↔ D) → h < length db → IsConflict a (clause_at db h) → (IsTrue r ↔ (rest ≡ [])) → IsTrue r ↔ D
at_end db a left rest h D r e iff lt f done =
    let here = derives_conflict db a h rest lt f in (
      λ t. iff.0 (subst (Derives db a) (sym e) (here.0 (done.0 t))),
      λ d. done.1 (here.1 (subst (Derives db a) e (iff.1 d))),
    )

pub one_more : (db : List (List Dim)) (a b : Valuation) (left rest : List ℕ) (h : ℕ) (d : Dim) (D : Type 0) → left ≡ h ∷ rest →
    (Derives db a left ↔ D) → h < length db → IsUnit a (clause_at db h) d → b ≡ assume a d → Derives db b rest ↔ D
one_more db a b left rest h d D e iff lt u s =
    let here = derives_unit db a h rest d lt u in (
      λ k. iff.0 (subst (Derives db a) (sym e) (here.0 (subst (λ (v : Valuation). Derives db v rest) s k))),
      λ k. subst (λ (v : Valuation). Derives db v rest) (sym s) (here.1 (subst (Derives db a) e (iff.1 k))),
    )

-- A step whose clause can be false follows where its hints lead to a conflict from there.
derived_iff : (vars : ℕ) (db : List (List Dim)) (s : Entry) (a : Valuation) (r : Bool) → All (λ d. d.var < vars) s.clause × IsConsistent s.clause →
    a ≡ denied s.clause → IsTrue r ↔ Derives db a s.hints → IsTrue r ↔ IsDerived vars db s
derived_iff vars db s a r can e iff = (
  λ t. record { in_range = can.0; consistent = can.1; derives = subst (λ (v : Valuation). Derives db v s.hints) e (iff.0 t) },
  λ d. iff.1 (subst (λ (v : Valuation). Derives db v s.hints) (sym e) d.derives),
)

pub derived_at : (vars : ℕ) (db : List (List Dim)) (log : List Entry) (k : ℕ) (s : Entry) (a : Valuation) (r : Bool) → k < length log → s ≡ get_or log k s →
    All (λ d. d.var < vars) s.clause × IsConsistent s.clause → a ≡ denied s.clause → IsTrue r ↔ Derives db a s.hints → IsTrue r ↔ IsDerived vars db (entry_at log k)
derived_at vars db log k s a r lt is can e iff =
    at_read log (λ x. IsTrue r ↔ IsDerived vars db x) k s lt is (derived_iff vars db s a r can e iff) no_entry

pub not_derived_at : (vars : ℕ) (db : List (List Dim)) (log : List Entry) (k : ℕ) (s : Entry) → k < length log → s ≡ get_or log k s →
    (All (λ d. d.var < vars) s.clause × IsConsistent s.clause → IsTrue false) → IsTrue false ↔ IsDerived vars db (entry_at log k)
not_derived_at vars db log k s lt is f =
    at_read log (λ x. IsTrue false ↔ IsDerived vars db x) k s lt is (λ t. absurd (false≢true t), λ d. f (d.in_range, d.consistent)) no_entry

entry_default : (log : List Entry) (j : ℕ) → j < length log → entry_at log j ≡ get_or log j (entry_at log j)
entry_default log j lt = get_or_default log j no_entry (entry_at log j) lt

-- a clause in range for which there is room is within the width
in_room : (width vars : ℕ) (clause : List Dim) → HasRoom width vars clause → All (λ d. d.var < vars) clause → All (λ d. d.var < width) clause
in_room width vars clause room below j d lt = room j d lt (below j d lt)

-- what step k may cite is within the width, where the clauses are and the steps before it follow
pub known_below : (width vars : ℕ) (clauses : List (List Dim)) (log : List Entry) (k : ℕ) → All (λ s. HasRoom width vars s.clause) log → k ≤ length log → AllBelow width clauses →
    ((j : ℕ) → j < k → IsDerived vars (known_of clauses log j) (entry_at log j)) → AllBelow width (known_of clauses log k)
known_below width vars clauses log k room kl h f =
    let P : Dim → Type 0 = λ d. d.var < width in
    All-append (All P) clauses (map (λ s. s.clause) (take k log)) h
    (All-map (All P) (λ s. s.clause) (take k log) (λ j e lt.
    let len : length (take k log) ≡ k = length-take-le k log kl in
    let jk : j < k = omega arith in
    let jl : j < length log = omega arith in
    rw (get_or-take k log j e jk) (at_read log (λ x. All P x.clause) j (entry_at log j) jl (entry_default log j jl)
    (in_room width vars (entry_at log j).clause (room j no_entry jl) (f j jk).in_range) e)))

-- the entry that the code read, field by field
pub same_entry : (log : List Entry) (k : ℕ) (r : Entry) (clause : List Dim) (hints : List ℕ) → k < length log →
    clause ≡ r.clause → hints ≡ r.hints → r ≡ get_or log k r → entry_of clause hints ≡ get_or log k (entry_of clause hints)
same_entry log k r clause hints lt e f is =
    let a : entry_of clause hints ≡ r = λ i. record { clause = e i; hints = f i } in
    a ∙ is ∙ get_or_default log k r (entry_of clause hints) lt

pub empty_at : (log : List Entry) (k : ℕ) (s : Entry) (r : Bool) → k < length log → s ≡ get_or log k s → (IsTrue r ↔ (s.clause ≡ [])) → IsTrue r ↔ ((entry_at log k).clause ≡ [])
empty_at log k s r lt is h = at_read log (λ x. IsTrue r ↔ (x.clause ≡ [])) k s lt is h no_entry
