-- Clauses that rule out rows of values, and steps that resolve them in pairs.
use Rattle.std.proofs.Common.{◌≡◌, ℕ, zero, suc, ◌+◌, ◌-◌, ◌*◌, ◌/◌, ◌%◌, ◌^◌, ◌<◌, ◌≤◌, ◌⊎◌, Bool, true, false, not, cond, eqb, List, [], ◌∷◌, ◌++◌, map, length, get_or, take, Some, None, refl, sym, ap, ◌∙◌, subst, arith, inl, inr, ⊎_elim, All, length-append, eq-eqb, ne_eqb, pow-suc, unwrap_or, append_assoc, append-nil}
use Rattle.std.specs.List.{range_with_len}
use Rattle.std.proofs.lemmas.Bool.{cases_eq, cases_lt}
use Rattle.std.proofs.lemmas.List.{length-map, get_or_append_left, take_all, take-append-le, map-append, get_or-map}
use Rattle.std.proofs.lemmas.List.Elements.{All-contains}
use Rattle.std.proofs.lemmas.List.FromFn.{length-range_with_len, get_or-range_with_len}
use Rattle.std.proofs.Math.Nat.{pow-le-pow_right}
use Rattle.std.proofs.Math.Seq.{get_or-append_seam}
use Rattle.cnf.specs.declared.Dim.{Dim}
use Rattle.cnf.specs.Clauses.{Valuation, negate, assume, denied, all_open, IsFalsified, IsConflict, IsUnit, AllBelow}
use Rattle.cnf.specs.Formula.{Formula}
use Rattle.fourvec.specs.Bits.{is_odd}
use Rattle.refute_check.specs.Accepted.{IsDerived, IsConsistent, AllDerived, IsAccepted, entry_at, known, clause_at}
use Rattle.refute_check.specs.Entry.{Entry, entry_of, no_entry}
use Rattle.svtv_choices.proofs.Numbers.{one_shifted}
use Rattle.refute_check.proofs.Refutes.{accepted_refutes}
use Rattle.fourvec.specs.declared.Bit.{Bit}
use Rattle.svtv_table.specs.declared.bound.VarDecl.{VarDecl}
use Rattle.choice_inputs.specs.Questions.{Asks, NoneAnswers}
use Rattle.choice_inputs.specs.Tables.{ruling_out, all_ruled_out, IsResolved, IsResolving}
use Rattle.choice_inputs.proofs.Chosen.{all_cons}

abbrev literal : ℕ → Bool → Dim
literal var negated = record { var = var; negated = negated }

-- ---- one clause

pub clause_more : (from to number : ℕ) (clause all : List Dim) → from < to → clause ++ ruling_out from (to - from) number ≡ all
    → (clause ++ literal from (is_odd number) ∷ []) ++ ruling_out (from + 1) (to - (from + 1)) (number / 2) ≡ all
unfolding ruling_out
clause_more from to number clause all l e =
    let more : to - from ≡ suc (to - (from + 1)) = omega (arith, l) in
    let on : from + 1 ≡ suc from = omega arith in
    append_assoc clause (literal from (is_odd number) ∷ []) (ruling_out (from + 1) (to - (from + 1)) (number / 2))
    ∙ ap (λ v. clause ++ literal from (is_odd number) ∷ ruling_out v (to - (from + 1)) (number / 2)) on
    ∙ sym (ap (λ n. clause ++ ruling_out from n number) more)
    ∙ e

pub clause_next : (from to number : ℕ) (clause now all : List Dim) → from < to → clause ++ ruling_out from (to - from) number ≡ all → now ≡ clause ++ literal from (is_odd number) ∷ []
    → now ++ ruling_out (from + 1) (to - (from + 1)) (number / 2) ≡ all
clause_next from to number clause now all l e is = ap (λ xs. xs ++ ruling_out (from + 1) (to - (from + 1)) (number / 2)) is ∙ clause_more from to number clause all l e

-- one number more
range_last : (a n j : ℕ) → a + n ≡ j → range_with_len a (suc n) ≡ range_with_len a n ++ j ∷ []
range_last a zero j e = ap (λ k. k ∷ []) (let f : a ≡ j = omega (arith, e) in f)
range_last a (suc n) j e = ap (λ ks. a ∷ ks) (range_last (a + 1) n j (omega (arith, e)))

pub clauses_next : (bits n : ℕ) (before after : List (List Dim)) (clause : List Dim) → before ≡ map (ruling_out 0 bits) (range_with_len 0 n) → clause ≡ ruling_out 0 (bits - 0) n → after ≡ before ++ clause ∷ []
    → after ≡ map (ruling_out 0 bits) (range_with_len 0 (n + 1))
clauses_next bits n before after clause b c e =
    let on : n + 1 ≡ suc n = omega arith in
    let whole : bits - 0 ≡ bits = omega arith in
    let z : 0 + n ≡ n = omega arith in
    e ∙ ap (λ x. before ++ x ∷ []) (c ∙ ap (λ m. ruling_out 0 m n) whole)
    ∙ ap (λ xs. xs ++ ruling_out 0 bits n ∷ []) b
    ∙ sym (map-append (ruling_out 0 bits) (range_with_len 0 n) (n ∷ []))
    ∙ sym (ap (map (ruling_out 0 bits)) (ap (range_with_len 0) on ∙ range_last 0 n n z))

pub clause_end : (from to number : ℕ) (clause all : List Dim) → to ≤ from → clause ++ ruling_out from (to - from) number ≡ all → clause ≡ all
unfolding ruling_out
clause_end from to number clause all l e =
    let none : to - from ≡ 0 = omega (arith, l) in
    sym (append-nil clause) ∙ sym (ap (λ n. clause ++ ruling_out from n number) none) ∙ e

vars_from : (i c n : ℕ) → All (λ d. i ≤ d.var) (ruling_out i c n)
unfolding ruling_out
vars_from i zero n k d l = absurd (omega (arith, l))
vars_from i (suc c) n zero d l = omega arith
vars_from i (suc c) n (suc k) d l = omega (arith, vars_from (suc i) c (n / 2) k d (omega (arith, l)))

vars_below : (i c n : ℕ) → All (λ d. d.var < i + c) (ruling_out i c n)
unfolding ruling_out
vars_below i zero n k d l = absurd (omega (arith, l))
vars_below i (suc c) n zero d l = omega arith
vars_below i (suc c) n (suc k) d l = omega (arith, vars_below (suc i) c (n / 2) k d (omega (arith, l)))

apart : (a b : ℕ) → b < a → eqb a b ≡ false
apart a b l = ne_eqb a b (λ e. absurd (omega (arith, e, l)))

apart_below : (a b : ℕ) → a < b → eqb a b ≡ false
apart_below a b l = ne_eqb a b (λ e. absurd (omega (arith, e, l)))

open_below : (i c n var : ℕ) → var < i → denied (ruling_out i c n) var ≡ None
unfolding ruling_out
open_below i zero n var l = refl
open_below i (suc c) n var l =
    ap (λ b. cond b (Some (is_odd n)) (denied (ruling_out (suc i) c (n / 2)) var)) (apart_below var i l) ∙ open_below (suc i) c (n / 2) var (omega (arith, l))

all_falsified : (i c n : ℕ) → All (IsFalsified (denied (ruling_out i c n))) (ruling_out i c n)
unfolding ruling_out
all_falsified i zero n k d l = absurd (omega (arith, l))
all_falsified i (suc c) n zero d l = ap (λ b. cond b (Some (is_odd n)) (denied (ruling_out (suc i) c (n / 2)) i)) (eq-eqb i i refl)
all_falsified i (suc c) n (suc k) d l =
    let rest : List Dim = ruling_out (suc i) c (n / 2) in
    let x : Dim = get_or rest k d in
    ap (λ b. cond b (Some (is_odd n)) (denied rest x.var)) (apart x.var i (omega (arith, vars_from (suc i) c (n / 2) k d (omega (arith, l)))))
    ∙ all_falsified (suc i) c (n / 2) k d (omega (arith, l))

not_self : (b : Bool) → b ≡ not b → ⊥
not_self true h = cc
not_self false h = cc

consistent : (i c n : ℕ) → IsConsistent (ruling_out i c n)
consistent i c n k d l has =
    let clause : List Dim = ruling_out i c n in
    let x : Dim = get_or clause k d in
    let one : denied clause x.var ≡ Some x.negated = all_falsified i c n k d l in
    let other : denied clause x.var ≡ Some (not x.negated) = All-contains (IsFalsified (denied clause)) clause (negate x) (all_falsified i c n) has in
    not_self x.negated (ap (λ o. unwrap_or o false) (sym one ∙ other))

-- ---- two clauses that differ in one variable

even_not_odd : (m : ℕ) → is_odd (2 * m) ≡ false
even_not_odd m = ne_eqb (2 * m % 2) 1 (λ e. absurd (omega (arith, e)))

odd_is : (m : ℕ) → is_odd (2 * m + 1) ≡ true
odd_is m = eq-eqb ((2 * m + 1) % 2) 1 (omega arith)

half_even : (m : ℕ) → 2 * m / 2 ≡ m
half_even m = omega arith

half_odd : (m : ℕ) → (2 * m + 1) / 2 ≡ m
half_odd m = omega arith

even_clause : (l c m : ℕ) → ruling_out l (suc c) (2 * m) ≡ literal l false ∷ ruling_out (suc l) c m
unfolding ruling_out
even_clause l c m = ap (λ b. literal l b ∷ ruling_out (suc l) c (2 * m / 2)) (even_not_odd m) ∙ ap (λ n. literal l false ∷ ruling_out (suc l) c n) (half_even m)

odd_clause : (l c m : ℕ) → ruling_out l (suc c) (2 * m + 1) ≡ literal l true ∷ ruling_out (suc l) c m
unfolding ruling_out
odd_clause l c m = ap (λ b. literal l b ∷ ruling_out (suc l) c ((2 * m + 1) / 2)) (odd_is m) ∙ ap (λ n. literal l true ∷ ruling_out (suc l) c n) (half_odd m)

first_unit : (l c m : ℕ) → IsUnit (denied (ruling_out (suc l) c m)) (literal l false ∷ ruling_out (suc l) c m) (literal l false)
first_unit l c m =
    let clause : List Dim = ruling_out (suc l) c m in
    let a : Valuation = denied clause in
    record {
      inside = (0, omega arith, refl);
      opened = open_below (suc l) c m l (omega arith);
      others = all_cons (λ e. (e ≡ literal l false) ⊎ IsFalsified a e) (literal l false) clause (inl refl) (λ k d lt. inr (all_falsified (suc l) c m k d lt));
    }

second_conflict : (l c m : ℕ) → IsConflict (assume (denied (ruling_out (suc l) c m)) (literal l false)) (literal l true ∷ ruling_out (suc l) c m)
second_conflict l c m =
    let clause : List Dim = ruling_out (suc l) c m in
    let a : Valuation = denied clause in
    all_cons (IsFalsified (assume a (literal l false))) (literal l true) clause (ap (λ b. cond b (Some true) (a l)) (eq-eqb l l refl))
    (λ k d lt. let x : Dim = get_or clause k d in
    ap (λ b. cond b (Some true) (a x.var)) (apart x.var l (omega (arith, vars_from (suc l) c m k d lt))) ∙ all_falsified (suc l) c m k d lt)

resolved : (bits l c m h : ℕ) (db : List (List Dim)) → suc l + c ≤ bits → h + 1 < length db → clause_at db h ≡ ruling_out l (suc c) (2 * m) → clause_at db (h + 1) ≡ ruling_out l (suc c) (2 * m + 1)
    → IsDerived bits db (entry_of (ruling_out (suc l) c m) (h ∷ (h + 1) ∷ []))
resolved bits l c m h db fits within e f =
    let a : Valuation = denied (ruling_out (suc l) c m) in
    record {
      in_range = λ k d lt. omega (arith, vars_below (suc l) c m k d lt, fits);
      consistent = consistent (suc l) c m;
      derives = (
        omega (arith, within),
        literal l false,
        subst (λ x. IsUnit a x (literal l false)) (sym (e ∙ even_clause l c m)) (first_unit l c m),
        (within, subst (IsConflict (assume a (literal l false))) (sym (f ∙ odd_clause l c m)) (second_conflict l c m)),
      );
    }

-- ---- logs with one step more

known_front : (formula : Formula) (log : List Entry) (s : Entry) (k : ℕ) → k ≤ length log → known formula (log ++ s ∷ []) k ≡ known formula log k
known_front formula log s k le = ap (λ l. formula.clauses ++ map (λ (t : Entry). t.clause) l) (take-append-le k log (s ∷ []) le)

entry_front : (log : List Entry) (s : Entry) (k : ℕ) → k < length log → entry_at (log ++ s ∷ []) k ≡ entry_at log k
entry_front log s k lt = get_or_append_left log (s ∷ []) no_entry k lt

entry_last : (log : List Entry) (s : Entry) → entry_at (log ++ s ∷ []) (length log) ≡ s
entry_last log s = get_or-append_seam log s [] no_entry

derived_push : (formula : Formula) (log : List Entry) (s : Entry) → AllDerived formula log (length log) → IsDerived formula.vars (known formula log (length log)) s
    → AllDerived formula (log ++ s ∷ []) (length (log ++ s ∷ []))
derived_push formula log s each last k lt =
    let len : length (log ++ s ∷ []) ≡ length log + 1 = length-append log (s ∷ []) in
    let P : List (List Dim) → Entry → Type 0 = IsDerived formula.vars in
    ⊎_elim
    (λ front. subst (λ (e : Entry). P (known formula (log ++ s ∷ []) k) e) (sym (entry_front log s k front))
    (subst (λ (db : List (List Dim)). P db (entry_at log k)) (sym (known_front formula log s k (omega arith))) (each k front)))
    (λ past. let here : k ≡ length log = omega arith in
    subst (λ (j : ℕ). P (known formula (log ++ s ∷ []) j) (entry_at (log ++ s ∷ []) j)) (sym here)
    (subst (λ (e : Entry). P (known formula (log ++ s ∷ []) (length log)) e) (sym (entry_last log s))
    (subst (λ (db : List (List Dim)). P db s) (sym (known_front formula log s (length log) (omega arith))) last)))
    (cases_lt k (length log))

known_push : (formula : Formula) (log : List Entry) (s : Entry) → known formula (log ++ s ∷ []) (length (log ++ s ∷ [])) ≡ known formula log (length log) ++ s.clause ∷ []
known_push formula log s =
    let clause : Entry → List Dim = λ t. t.clause in
    ap (λ l. formula.clauses ++ map clause l) (take_all (length (log ++ s ∷ [])) (log ++ s ∷ []) (omega arith))
    ∙ ap (λ l. formula.clauses ++ l) (map-append clause log (s ∷ []))
    ∙ sym (append_assoc formula.clauses (map clause log) (s.clause ∷ []))
    ∙ sym (ap (λ l. (formula.clauses ++ map clause l) ++ s.clause ∷ []) (take_all (length log) log (omega arith)))

long_known : (bits : ℕ) (log : List Entry) → length (known (all_ruled_out bits) log (length log)) ≡ 2 ^ bits + length log
long_known bits log =
    let clause : Entry → List Dim = λ t. t.clause in
    let given : List (List Dim) = (all_ruled_out bits).clauses in
    let a : length given ≡ 2 ^ bits = length-map (range_with_len 0 (2 ^ bits)) (ruling_out 0 bits) ∙ length-range_with_len 0 (2 ^ bits) in
    let b : length (map clause (take (length log) log)) ≡ length log = length-map (take (length log) log) clause ∙ ap length (take_all (length log) log (omega arith)) in
    omega (arith, length-append given (map clause (take (length log) log)), a, b)

-- ---- levels

pub resolved_start : (bits : ℕ) → IsResolved bits 0 0 []
resolved_start bits =
    let given : List (List Dim) = (all_ruled_out bits).clauses in
    let whole : bits - 0 ≡ bits = omega arith in
    let count : 2 ^ (bits - 0) ≡ 2 ^ bits = ap (λ n. 2 ^ n) whole in
    record {
      derived = λ k l. absurd (omega (arith, l));
      place = omega (arith, count);
      end = omega (arith, count);
      clauses = λ number l.
          let at : 0 + number ≡ number = omega arith in
          let lt : number < length (range_with_len 0 (2 ^ bits)) = omega (arith, l, count, length-range_with_len 0 (2 ^ bits)) in
          ap (clause_at (given ++ [])) at
          ∙ get_or_append_left given [] [] number (omega (arith, lt, length-map (range_with_len 0 (2 ^ bits)) (ruling_out 0 bits)))
          ∙ get_or-map (ruling_out 0 bits) (range_with_len 0 (2 ^ bits)) number 0 [] lt
          ∙ ap (ruling_out 0 bits) (get_or-range_with_len 0 (2 ^ bits) number 0 (omega (arith, l, count)) ∙ (let z : 0 + number ≡ number = omega arith in z)) ∙ ap (λ n. ruling_out 0 n number) (sym whole);
    }

pub level_start : (bits first level : ℕ) (log : List Entry) → IsResolved bits first level log → IsResolving bits first level 0 log
level_start bits first level log r = record {
  derived = r.derived;
  place = r.place;
  end = omega (arith, r.end);
  clauses = r.clauses;
  more = λ number l. absurd (omega (arith, l));
}

pub doubled : (bits level : ℕ) → level < bits → 2 ^ (bits - level) ≡ 2 * 2 ^ (bits - (level + 1))
doubled bits level lt =
    let rest : bits - level ≡ suc (bits - (level + 1)) = omega (arith, lt) in
    ap (λ n. 2 ^ n) rest ∙ (let p : 2 ^ suc (bits - (level + 1)) ≡ 2 ^ (bits - (level + 1)) * 2 = pow-suc 2 (bits - (level + 1)) in omega (arith, p))

pub small_place : (bits first level number : ℕ) (log : List Entry) → bits ≤ 12 → level < bits → number < 2 ^ (bits - (level + 1)) → IsResolving bits first level number log → first + 2 * number < 4294967296
small_place bits first level number log few lt nl r =
    let most : 2 ^ bits ≤ 2 ^ 12 = pow-le-pow_right (omega arith) few in
    omega (arith, most, r.place, doubled bits level lt, nl)

pub level_end : (bits first level count : ℕ) (log : List Entry) → level < bits → count ≡ 2 ^ (bits - (level + 1)) → IsResolving bits first level count log → IsResolved bits (first + 2 ^ (bits - level)) (level + 1) log
level_end bits first level count log lt e r = record {
  derived = r.derived;
  place = omega (arith, r.place, doubled bits level lt);
  end = omega (arith, r.end, e);
  clauses = λ number l. r.more number (omega (arith, l, e));
}

pub level_more : (bits first level number : ℕ) (log : List Entry) (s : Entry) → level < bits → number < 2 ^ (bits - (level + 1)) → IsResolving bits first level number log
    → s ≡ entry_of (ruling_out (level + 1) (bits - (level + 1)) number) ((first + 2 * number) ∷ (first + 2 * number + 1) ∷ [])
    → IsResolving bits first level (number + 1) (log ++ s ∷ [])
level_more bits first level number log s lt nl r is =
    let formula : Formula = all_ruled_out bits in
    let db : List (List Dim) = known formula log (length log) in
    let c : ℕ = bits - (level + 1) in
    let rest : bits - level ≡ suc c = omega (arith, lt) in
    let double : 2 ^ (bits - level) ≡ 2 * 2 ^ c = doubled bits level lt in
    let long : length db ≡ 2 ^ bits + length log = long_known bits log in
    let at : (j : ℕ) → j < 2 ^ (bits - level) → clause_at db (first + j) ≡ ruling_out level (suc c) j = λ j l. r.clauses j l ∙ ap (λ n. ruling_out level n j) rest in
    let derived : IsDerived bits db s = subst (IsDerived bits db) (sym is)
    (subst (λ v. IsDerived bits db (entry_of (ruling_out v c number) ((first + 2 * number) ∷ (first + 2 * number + 1) ∷ []))) (let on : suc level ≡ level + 1 = omega arith in on)
    (resolved bits level c number (first + 2 * number) db (omega (arith, lt)) (omega (arith, long, r.end, double, nl)) (at (2 * number) (omega (arith, double, nl)))
    (ap (clause_at db) (let assoc : first + 2 * number + 1 ≡ first + (2 * number + 1) = omega arith in assoc) ∙ at (2 * number + 1) (omega (arith, double, nl))))) in
    let front : (j : ℕ) → j < length db → clause_at (known formula (log ++ s ∷ []) (length (log ++ s ∷ []))) j ≡ clause_at db j =
    λ j l. ap (λ d. clause_at d j) (known_push formula log s) ∙ get_or_append_left db (s.clause ∷ []) [] j l in
    record {
      derived = derived_push formula log s r.derived derived;
      place = r.place;
      end = omega (arith, r.end, length-append log (s ∷ []));
      clauses = λ j l. front (first + j) (omega (arith, l, long, r.end)) ∙ r.clauses j l;
      more = λ j l. elim (cases_eq j number) [
        | inl same ↦
            ap (λ d. clause_at d (first + 2 ^ (bits - level) + j)) (known_push formula log s)
            ∙ ap (clause_at (db ++ s.clause ∷ [])) (let here : first + 2 ^ (bits - level) + j ≡ length db = omega (arith, same, long, r.end) in here)
            ∙ get_or-append_seam db s.clause [] []
            ∙ ap (λ (e : Entry). e.clause) is
            ∙ ap (ruling_out (level + 1) c) (sym same)
        | inr ne ↦ front (first + 2 ^ (bits - level) + j) (omega (arith, l, ne, long, r.end)) ∙ r.more j (omega (arith, l, ne))
      ];
    }

pub accepted_end : (bits first : ℕ) (log : List Entry) (s : Entry) → IsResolved bits first bits log → s ≡ entry_of [] (first ∷ []) → IsAccepted (all_ruled_out bits) (log ++ s ∷ [])
unfolding ruling_out
accepted_end bits first log s r is =
    let formula : Formula = all_ruled_out bits in
    let db : List (List Dim) = known formula log (length log) in
    let none : bits - bits ≡ 0 = omega arith in
    let one : 2 ^ (bits - bits) ≡ 1 = ap (λ n. 2 ^ n) none in
    let long : length db ≡ 2 ^ bits + length log = long_known bits log in
    let empty : clause_at db first ≡ [] = ap (clause_at db) (let e : first ≡ first + 0 = omega arith in e) ∙ r.clauses 0 (omega (arith, one)) ∙ ap (λ n. ruling_out bits n 0) none in
    let derived : IsDerived bits db (entry_of [] (first ∷ [])) = record {
      in_range = λ k d l. absurd (omega (arith, l));
      consistent = λ k d l. absurd (omega (arith, l));
      derives = (omega (arith, long, r.end, one), subst (IsConflict all_open) (sym empty) (λ k d l. absurd (omega (arith, l))));
    } in
    record {
      derived = derived_push formula log s r.derived (subst (IsDerived bits db) (sym is) derived);
      empty = (length log, omega (arith, length-append log (s ∷ [])), ap (λ (e : Entry). e.clause) (entry_last log s ∙ is));
    }

-- the same by the clauses of the code's steps
pub level_more_at : (bits first level number : ℕ) (log now : List Entry) (clause : List Dim) (s : Entry) → level < bits → number < 2 ^ (bits - (level + 1)) → IsResolving bits first level number log
    → clause ≡ ruling_out (level + 1) (bits - (level + 1)) number → s ≡ entry_of clause ((first + 2 * number) ∷ (first + 2 * number + 1) ∷ []) → now ≡ log ++ s ∷ []
    → IsResolving bits first level (number + 1) now
level_more_at bits first level number log now clause s lt nl r c is e =
    subst (IsResolving bits first level (number + 1)) (sym e)
    (level_more bits first level number log s lt nl r (is ∙ ap (λ x. entry_of x ((first + 2 * number) ∷ (first + 2 * number + 1) ∷ [])) c))

-- numbers below a power that is shifted
pub below_shifted : (bits level number : ℕ) → bits ≤ 12 → number < 1 * 2 ^ (bits - level - 1) % 18446744073709551616 → number < 2 ^ (bits - (level + 1))
below_shifted bits level number few l =
    let e : bits - level - 1 ≡ bits - (level + 1) = omega arith in
    omega (arith, l, one_shifted (bits - level - 1) (omega (arith, few)), ap (λ n. 2 ^ n) e)

-- ---- the clauses of all rows

all_below : (bits : ℕ) (numbers : List ℕ) → AllBelow bits (map (ruling_out 0 bits) numbers)
all_below bits [] k d l = absurd (omega (arith, l))
all_below bits (n ∷ numbers) zero d l = λ j e m. omega (arith, vars_below 0 bits n j e m)
all_below bits (n ∷ numbers) (suc k) d l = all_below bits numbers k d (omega (arith, l))

-- they ask whatever no choice answers
pub table_asks : (vars : List VarDecl) (Answers : List (List Bit) → Type 0) (bits : ℕ) (log : List Entry) → IsAccepted (all_ruled_out bits) log → NoneAnswers vars Answers → Asks vars Answers (all_ruled_out bits)
table_asks vars Answers bits log a none = record {
  below = all_below bits (range_with_len 0 (2 ^ bits));
  asked = (
    λ found. absurd (accepted_refutes (all_ruled_out bits) log a found.0 found.1),
    λ found. absurd (none found.0 found.1 found.2),
  );
}
