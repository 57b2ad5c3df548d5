-- What a clause comes to whose literals are false but one.
use Rattle.std.proofs.Common.{◌≡◌, ◌⊎◌, Bool, true, false, not, List, Option, Some, None, sym, refl, subst, ⊎_elim}
use Rattle.std.specs.List.{All, Contains}
use Rattle.cnf.specs.declared.Dim.{Dim}
use Rattle.cnf.specs.Clauses.{Valuation, IsFalsified, IsConflict, IsUnit}

neither : (o : Option Bool) (n : Bool) → (o ≡ Some (not n) → ⊥) → (o ≡ Some n → ⊥) → o ≡ None
neither None n a b = refl
neither (Some true) true a b = absurd (b refl)
neither (Some true) false a b = absurd (a refl)
neither (Some false) true a b = absurd (a refl)
neither (Some false) false a b = absurd (b refl)

-- a clause whose literals are false but o, which is neither true nor false, is unit
pub visit_unit : (high : Valuation) (c : List Dim) (o : Dim) → Contains c o → (high o.var ≡ Some (not o.negated) → ⊥) → (IsFalsified high o → ⊥) →
    All (λ e. (e ≡ o) ⊎ IsFalsified high e) c → IsUnit high c o
visit_unit high c o has not_true not_false others =
    record { inside = has; opened = neither (high o.var) o.negated not_true not_false; others = others }

pub visit_conflict : (high : Valuation) (c : List Dim) (o : Dim) → IsFalsified high o → All (λ e. (e ≡ o) ⊎ IsFalsified high e) c → IsConflict high c
visit_conflict high c o f others j e jl = ⊎_elim (λ s. subst (IsFalsified high) (sym s) f) (λ g. g) (others j e jl)
