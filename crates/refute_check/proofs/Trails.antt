-- The trail of the variables that have a value.
use Rattle.std.proofs.Common.{◌≡◌, ℕ, ◌<◌, ◌≤◌, ◌+◌, Bool, true, not, cond, List, [], ◌∷◌, ◌++◌, length, get_or, set, replicate, Option, Some, None, sym, refl, ap, ◌∙◌, arith, subst, ⊎_elim, length-append, length-set, get_or-set_same, get_or-set_other}
use Rattle.std.specs.Prelude.{is_none}
use Rattle.std.specs.List.{Contains}
use mathlib.Core.Path.{fun_ext}
use Rattle.std.proofs.lemmas.Bool.{cases_eq, cases_lt, eq-eqb, ne_eqb}
use Rattle.std.proofs.lemmas.List.{get_or_past, same_lists, get_or_default, get_or_append_left, length-replicate, get_or-replicate}
use Rattle.std.proofs.lemmas.List.Sums.{sum_by-set, count_by-le-length}
use Rattle.std.proofs.lemmas.List.Elements.{All-nil, All-push, All-contains, Contains-append_left, Contains-push, Contains-push_cases}
use Rattle.cnf.specs.declared.Dim.{Dim}
use Rattle.cnf.specs.Clauses.{Valuation, valuation, all_open, assume}
use Rattle.refute_check.specs.Trail.{IsTracked}

-- ---- values as lists

abbrev open_one : Option Bool
open_one = None

get_replicate : (n v : ℕ) → get_or (replicate n open_one) v None ≡ None
get_replicate n v = ⊎_elim (λ lt. get_or-replicate n v open_one None lt)
    (λ le. get_or_past (replicate n open_one) v open_one (omega (arith, length-replicate n open_one)))
    (cases_lt v n)

-- where all are open
pub open_valuation : (values : List (Option Bool)) (n : ℕ) → values ≡ replicate n None → valuation values ≡ all_open
open_valuation values n e = ap valuation e ∙ fun_ext (λ v. get_replicate n v)

-- one variable gets a value
pub valuation_set : (values : List (Option Bool)) (d : Dim) → d.var < length values → valuation (set values d.var (Some (not d.negated))) ≡ assume (valuation values) d
valuation_set values d lt =
    let o : Option Bool = Some (not d.negated) in
    fun_ext (λ w. ⊎_elim
    (λ e. let here : get_or (set values d.var o) w None ≡ o = rw e (get_or-set_same values d.var o None lt) in
    here ∙ sym (ap (λ t. cond t o (valuation values w)) (eq-eqb w d.var e)))
    (λ ne. get_or-set_other values d.var w o None ne ∙ sym (ap (λ t. cond t o (valuation values w)) (ne_eqb w d.var ne)))
    (cases_eq w d.var))

-- ---- the trail

abbrev opens : Option Bool → ℕ
opens o = cond (is_none o) 1 0

opens_most : (o : Option Bool) → opens o ≤ 1
opens_most None = omega arith
opens_most (Some b) = omega arith

pub tracked_none : (values : List (Option Bool)) (n most : ℕ) → values ≡ replicate n None → n ≤ most → IsTracked values [] most
tracked_none values n most e le =
    let len : length values ≡ n = ap length e ∙ length-replicate n open_one in
    record {
      room = omega arith;
      within = All-nil (λ var. var < length values);
      named = λ var b h. let none : valuation values var ≡ None = ap (λ (a : Valuation). a var) (open_valuation values n e) in cc;
      counted = omega (arith, count_by-le-length (λ (o : Option Bool). is_none o) values);
    }

-- an open variable leaves room
pub tracked_room : (values : List (Option Bool)) (trail : List ℕ) (most var : ℕ) → IsTracked values trail most → var < length values → valuation values var ≡ None → length trail < most
tracked_room values trail most var h lt e =
    let one : opens (get_or values var None) ≡ 1 = ap opens e in
    omega (arith, h.room, h.counted, sum_by-set opens values var (Some true) None lt, one)

pub tracked_push : (values : List (Option Bool)) (trail : List ℕ) (most more var : ℕ) (b : Bool) → IsTracked values trail most → most ≤ more → var < length values → valuation values var ≡ None →
    IsTracked (set values var (Some b)) (trail ++ var ∷ []) more
tracked_push values trail most more var b h le lt e =
    let o : Option Bool = Some b in
    let len : length (set values var o) ≡ length values = length-set values var o in
    let one : opens (get_or values var None) ≡ 1 = ap opens e in
    record {
      room = omega (arith, h.room, len);
      within = All-push (λ v. v < length (set values var o)) trail var (λ k d kl. omega (arith, h.within k d kl, len)) (omega (arith, len));
      named = λ w c s. ⊎_elim
          (λ same. subst (Contains (trail ++ var ∷ [])) (sym same) (Contains-push trail var))
          (λ ne. Contains-append_left trail (var ∷ []) w (h.named w c (sym (get_or-set_other values var w o None ne) ∙ s)))
          (cases_eq w var);
      counted = omega (arith, h.counted, len, length-append trail (var ∷ []), sum_by-set opens values var o None lt, one);
    }

-- the last variable of the trail
pub tracked_last : (values : List (Option Bool)) (trail rest : List ℕ) (most var : ℕ) → IsTracked values trail most → trail ≡ rest ++ var ∷ [] → var < length values
tracked_last values trail rest most var h e = All-contains (λ v. v < length values) trail var h.within (subst (λ (t : List ℕ). Contains t var) (sym e) (Contains-push rest var))

pub tracked_pop : (values : List (Option Bool)) (trail rest : List ℕ) (most more var : ℕ) → IsTracked values trail most → most ≤ more → trail ≡ rest ++ var ∷ [] → IsTracked (set values var None) rest more
tracked_pop values trail rest most more var h le e =
    let o : Option Bool = None in
    let len : length (set values var o) ≡ length values = length-set values var o in
    let more_one : length trail ≡ length rest + 1 = ap length e ∙ length-append rest (var ∷ []) in
    let lt : var < length values = tracked_last values trail rest most var h e in
    record {
      room = omega (arith, h.room, len);
      within = λ k d kl.
          let same : get_or (rest ++ var ∷ []) k d ≡ get_or rest k d = get_or_append_left rest (var ∷ []) d k kl in
          let same2 : get_or trail k d ≡ get_or rest k d = ap (λ (t : List ℕ). get_or t k d) e ∙ same in
          omega (arith, h.within k d (omega arith), len, same2);
      named = λ w c s. ⊎_elim
          (λ same. absurd (let here : get_or (set values var o) w None ≡ o = rw same (get_or-set_same values var o None lt) in let no_value : ◌≡◌ {A = Option Bool} None (Some c) = sym here ∙ s in cc))
          (λ ne. ⊎_elim (λ k. k) (λ same. absurd (ne (sym same)))
          (Contains-push_cases rest var w (subst (λ (t : List ℕ). Contains t w) e (h.named w c (sym (get_or-set_other values var w o None ne) ∙ s)))))
          (cases_eq w var);
      counted = omega (arith, h.counted, len, more_one, sum_by-set opens values var o None lt);
    }

-- the same, by what the code has
pub tracked_pushed : (values : List (Option Bool)) (trail longer : List ℕ) (most more var : ℕ) (b : Bool) → IsTracked values trail most → most ≤ more → var < length values → valuation values var ≡ None →
    longer ≡ trail ++ var ∷ [] → IsTracked (set values var (Some b)) longer more
tracked_pushed values trail longer most more var b h le lt e is = subst (λ (t : List ℕ). IsTracked (set values var (Some b)) t more) (sym is) (tracked_push values trail most more var b h le lt e)

-- where the trail is empty, all are open
pub tracked_clear : (values : List (Option Bool)) (trail : List ℕ) (most n : ℕ) → IsTracked values trail most → trail ≡ [] → length values ≡ n → values ≡ replicate n None
tracked_clear values trail most n h e len =
    let open_at : (v : ℕ) (o : Option Bool) → valuation values v ≡ o → o ≡ None = λ v o. elim o as (λ o. valuation values v ≡ o → o ≡ None) [
      | None ↦ λ s. refl
      | Some b ↦ λ s. absurd (let c : Contains [] v = subst (λ (t : List ℕ). Contains t v) e (h.named v b s) in let lt : c.0 < 0 = c.1 in omega arith)
    ] in
    same_lists values (replicate n open_one) (len ∙ sym (length-replicate n open_one))
    (λ k d lt. let here : get_or values k None ≡ None = open_at k (get_or values k None) refl in
    get_or_default values k d None lt ∙ here ∙ sym (get_or-replicate n k open_one d (omega arith)))

pub none_left : (xs : List ℕ) → length xs ≡ 0 → xs ≡ []
none_left [] h = refl
none_left (x ∷ xs) h = absurd (omega arith)
