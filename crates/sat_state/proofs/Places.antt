-- A literal that is not false is looked for from a place on, and then before it.
use Rattle.std.proofs.Common.{◌≡◌, ◌≢◌, ℕ, ◌<◌, ◌≤◌, ◌+◌, ◌-◌, ◌⊎◌, Option, Some, None, List, length, get_or, take, drop, arith, subst}
use Rattle.std.specs.List.{All}
use Rattle.std.proofs.lemmas.List.{take-append-drop, get_or-drop, get_or-take, length-drop, length-take-le}
use Rattle.std.proofs.lemmas.List.Elements.{All-append}
use Rattle.cnf.specs.declared.Dim.{Dim}
use Rattle.cnf.specs.Clauses.{Valuation, IsFalsified}
use Rattle.sat_state.specs.Visited.{IsFreeAt, no_dim}

pub free_later : (a : Valuation) (clause : List Dim) (other : Dim) (start i : ℕ) → start ≤ length clause → IsFreeAt a (drop start clause) other (Some i) → IsFreeAt a clause other (Some (start + i))
free_later a clause other start i le h =
    let at : get_or (drop start clause) i no_dim ≡ get_or clause (start + i) no_dim = get_or-drop start clause i no_dim in
    let l : length (drop start clause) ≡ length clause - start = length-drop start clause in
    (omega (arith, h.0, l), subst (λ (x : Dim). x ≢ other) at h.1, subst (λ (x : Dim). IsFalsified a x → ⊥) at h.2)

free_earlier : (a : Valuation) (clause : List Dim) (other : Dim) (start i : ℕ) → start ≤ length clause → IsFreeAt a (take start clause) other (Some i) → IsFreeAt a clause other (Some i)
free_earlier a clause other start i le h =
    let l : length (take start clause) ≡ start = length-take-le start clause le in
    let lt : i < start = omega (arith, h.0, l) in
    let at : get_or (take start clause) i no_dim ≡ get_or clause i no_dim = get_or-take start clause i no_dim lt in
    (omega (arith, lt, le), subst (λ (x : Dim). x ≢ other) at h.1, subst (λ (x : Dim). IsFalsified a x → ⊥) at h.2)

free_none : (a : Valuation) (clause : List Dim) (other : Dim) (start : ℕ) → IsFreeAt a (drop start clause) other None → IsFreeAt a (take start clause) other None → IsFreeAt a clause other None
free_none a clause other start later earlier =
    subst (All (λ (e : Dim). (e ≡ other) ⊎ IsFalsified a e)) (take-append-drop start clause)
    (All-append (λ (e : Dim). (e ≡ other) ⊎ IsFalsified a e) (take start clause) (drop start clause) earlier later)

pub free_rest : (a : Valuation) (clause : List Dim) (other : Dim) (start : ℕ) (place : Option ℕ) → start ≤ length clause → IsFreeAt a (drop start clause) other None → IsFreeAt a (take start clause) other place →
    IsFreeAt a clause other place
free_rest a clause other start None le later earlier = free_none a clause other start later earlier
free_rest a clause other start (Some i) le later earlier = free_earlier a clause other start i le earlier
