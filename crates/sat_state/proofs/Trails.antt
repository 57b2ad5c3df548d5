-- The trail grows and shrinks at its newest end.
use Rattle.std.proofs.Common.{◌≡◌, ℕ, ◌<◌, Bool, nat_eq, cond, List, [], ◌∷◌, ◌++◌, length, set, reverse, Option, Some, None, sym, ap, ◌∙◌, subst, ⊎_elim, length-set, get_or-set_same, get_or-set_other, ◌+◌, arith}
use mathlib.Core.Path.{fun_ext}
use Rattle.std.proofs.lemmas.List.{reverse-append}
use Rattle.std.proofs.lemmas.Bool.{cases_eq, eq-eqb, ne_eqb}
use Rattle.cnf.specs.declared.Dim.{Dim}
use Rattle.cnf.specs.Clauses.{Valuation, denied, valuation}
use Rattle.sat_state.specs.declared.trail.Assigned.{Assigned}
use Rattle.sat_state.specs.Trail.{dims, falses, IsApart, Tracks, Why, IsExplained, open_count}
use Rattle.std.proofs.lemmas.Grind.{common_steps}

pub newest_push : (xs : List Assigned) (e : Assigned) → reverse (xs ++ e ∷ []) ≡ e ∷ reverse xs
newest_push xs e = reverse-append xs (e ∷ [])

valuation_set : (values : List (Option Bool)) (v : ℕ) (o : Option Bool) → v < length values → valuation (set values v o) ≡ (λ w. cond (nat_eq w v) o (valuation values w))
valuation_set values v o lt = fun_ext (λ w. ⊎_elim
    (λ e. rw e (get_or-set_same values v o None lt) ∙ sym (ap (λ t. cond t o (valuation values w)) (eq-eqb w v e)))
    (λ ne. get_or-set_other values v w o None ne ∙ sym (ap (λ t. cond t o (valuation values w)) (ne_eqb w v ne)))
    (cases_eq w v))

pub tracks_push : (values : List (Option Bool)) (trail : List Assigned) (e : Assigned) → e.dim.var < length values → valuation values e.dim.var ≡ None → Tracks values trail →
    Tracks (set values e.dim.var (Some e.dim.negated)) (trail ++ e ∷ [])
tracks_push values trail e lt o h = record {
  apart = rw (length-set values e.dim.var (Some e.dim.negated), newest_push trail e) (lt, ap (λ (f : Valuation). f e.dim.var) (sym h.same) ∙ o, h.apart);
  same = valuation_set values e.dim.var (Some e.dim.negated) lt ∙ ap (λ (f : Valuation). λ w. cond (nat_eq w e.dim.var) (Some e.dim.negated) (f w)) h.same
      ∙ ap (λ es. denied (dims es)) (sym (newest_push trail e));
}

pub tracks_pop : (values : List (Option Bool)) (old trail : List Assigned) (e : Assigned) → old ≡ trail ++ e ∷ [] → Tracks values old → Tracks (set values e.dim.var None) trail
tracks_pop values old trail e is h =
    let newest : reverse old ≡ e ∷ reverse trail = ap reverse is ∙ newest_push trail e in
    let apart : IsApart (length values) (e ∷ reverse trail) = subst (IsApart (length values)) newest h.apart in
    let same : valuation values ≡ denied (dims (e ∷ reverse trail)) = h.same ∙ ap (λ es. denied (dims es)) newest in
    record {
      apart = rw (length-set values e.dim.var None) apart.2;
      same = valuation_set values e.dim.var None apart.0 ∙ fun_ext (λ w. ⊎_elim
          (λ s. ap (λ t. cond t None (valuation values w)) (eq-eqb w e.dim.var s) ∙ sym (rw s apart.1))
          (λ ne. ap (λ t. cond t None (valuation values w)) (ne_eqb w e.dim.var ne) ∙ ap (λ (f : Valuation). f w) same
          ∙ ap (λ t. cond t (Some e.dim.negated) (denied (dims (reverse trail)) w)) (ne_eqb w e.dim.var ne))
          (cases_eq w e.dim.var));
    }

pub explained_push : (db : List (List Dim)) (trail : List Assigned) (e : Assigned) → Why db (denied (falses trail)) e → IsExplained db (reverse trail) → IsExplained db (reverse (trail ++ e ∷ []))
explained_push db trail e why h = rw (newest_push trail e) (why, h)

pub explained_pop : (db : List (List Dim)) (old trail : List Assigned) (e : Assigned) → old ≡ trail ++ e ∷ [] → IsExplained db (reverse old) → Why db (denied (falses trail)) e × IsExplained db (reverse trail)
explained_pop db old trail e is h = subst (IsExplained db) (ap reverse is ∙ newest_push trail e) h

-- one open variable less
pub open_fewer : (values : List (Option Bool)) (v : ℕ) (b : Bool) → v < length values → valuation values v ≡ None → open_count (set values v (Some b)) + 1 ≡ open_count values
open_fewer values v b lt is = grind (arith, common_steps)
