-- How a conflict is traced back along the trail.
use Rattle.std.specs.Prelude.{cond, ◌++◌, ◌≡◌, ◌≢◌, ℕ, ◌⊎◌, Bool, true, false, Some, None, List, [], ◌∷◌, reverse, slice_index_or, length}
use Rattle.std.specs.List.{Contains}
use Rattle.cnf.specs.declared.Dim.{Dim}
use Rattle.cnf.specs.Clauses.{Valuation, denied}
use Rattle.refute_check.specs.Accepted.{Derives}
use Rattle.sat_state.specs.declared.trail.Assigned.{Assigned}
use Rattle.sat_state.specs.Lists.{TrailLists}
use Rattle.sat_state.specs.Trail.{dims}

abbrev pub no_assigned : Assigned
no_assigned = record { dim = record { var = 0; negated = false }; reason = None }

abbrev pub seen_at : List Bool → ℕ → Bool
seen_at seen var = slice_index_or seen var false

-- some literal of the clause is of the variable
abbrev pub HasVariable : List Dim → ℕ → Type 0
HasVariable clause v = (d : Dim) × Contains clause d × (d.var ≡ v)

-- Back to the last decision, which there is, no variable is seen. (The newest first, here and below.)
abbrev pub IsClear : List Bool → List Assigned → Type 0
IsClear seen [] = ⊥
IsClear seen (e ∷ es) = (seen_at seen e.dim.var ≡ false) × ((e.reason ≡ None) ⊎ IsClear seen es)

-- Back to the last decision some variable is seen, or there is no decision.
abbrev pub IsAnchored : List Bool → List Assigned → Type 0
IsAnchored seen [] = Unit {0}
IsAnchored seen (e ∷ es) = (seen_at seen e.dim.var ≡ true) ⊎ ((e.reason ≢ None) × IsAnchored seen es)

-- The newest variable is the only one that is seen since the last decision, which there is.
abbrev pub IsAlone : List Bool → List Assigned → Type 0
IsAlone seen [] = ⊥
IsAlone seen (e ∷ es) = (e.reason ≡ None) ⊎ IsClear seen es

-- nothing is left, or one variable
abbrev pub IsTraced : List Bool → List Assigned → Type 0
IsTraced seen [] = Unit {0}
IsTraced seen (e ∷ es) = (seen_at seen e.dim.var ≡ true) × ((e.reason ≡ None) ⊎ IsClear seen es)

-- a has no value that b has not
abbrev pub IsBelow : Valuation → Valuation → Type 0
IsBelow a b = (v : ℕ) (t : Bool) → a v ≡ Some t → b v ≡ Some t

-- From the values of the seen variables alone, and any others of the trail, the hints lead to a conflict.
abbrev pub Explains : List (List Dim) → List Assigned → List Bool → List ℕ → Type 0
Explains db es seen hints = (a : Valuation) → IsBelow a (denied (dims es)) →
    ((v : ℕ) → seen_at seen v ≡ true → a v ≡ denied (dims es) v) → Derives db a (reverse hints)

-- The hints lead to a conflict from the values of the seen variables and any others of the literals that are older; `all` are the
-- literals of the trail, and `older` its last ones.
abbrev pub ExplainsOver : List (List Dim) → List Assigned → List Assigned → List Bool → List ℕ → Type 0
ExplainsOver db all older seen hints = (a : Valuation) → ((v : ℕ) → seen_at seen v ≡ true → a v ≡ denied (dims all) v) →
    ((v : ℕ) (t : Bool) → a v ≡ Some t → (seen_at seen v ≡ true) ⊎ (denied (dims older) v ≡ Some t)) → Derives db a (reverse hints)

-- The front of the whole ends right below a decision.
abbrev pub StopsBelow : List Assigned → List Assigned → Type 0
StopsBelow whole front = (e : Assigned) × (rest : List Assigned) × (whole ≡ front ++ e ∷ rest) × (e.reason ≡ None)

-- From the values of the seen variables alone the hints lead to a conflict.
abbrev pub Suffices : List (List Dim) → List Assigned → List Bool → List ℕ → Type 0
Suffices db es seen hints = (a : Valuation) → ((v : ℕ) → a v ≡ cond (seen_at seen v) (denied (dims es) v) None) → Derives db a (reverse hints)

-- The trail is as it was, and so is the place up to which it was looked at; or it ends right below a decision, which is that place.
abbrev pub WentBack : TrailLists → TrailLists → ℕ → ℕ → Type 0
WentBack old new from place = ((new ≡ old) × (place ≡ from)) ⊎ (StopsBelow old.entries new.entries × (place ≡ length new.entries))
