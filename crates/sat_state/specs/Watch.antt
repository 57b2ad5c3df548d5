-- What two watched literals of each clause keep true.
use Rattle.std.specs.Prelude.{◌≡◌, ◌≢◌, ℕ, ◌+◌, ◌*◌, ◌<◌, ◌⊎◌, not, cond, Some, None, List, [], ◌∷◌, length, map, slice_index_or, slice_set, ◌++◌, false}
use Rattle.std.specs.List.{All, Contains}
use Rattle.std.specs.declared.vec.Vec.{Vec}
use Rattle.std.specs.declared.alloc.Global.{Global}
use Rattle.cnf.specs.declared.Dim.{Dim}
use Rattle.cnf.specs.Clauses.{Valuation, denied, IsFalsified}
use Rattle.refute_check.specs.Accepted.{clause_at}
use Rattle.sat_state.specs.declared.trail.Assigned.{Assigned}
use Rattle.sat_state.specs.Trail.{dims}
use Rattle.sat_state.specs.declared.watch.Pair.{Pair}
use Rattle.sat_state.specs.declared.watch.Watch.{Watch}

abbrev pub HasTrue : Valuation → List Dim → Type 0
HasTrue a clause = (d : Dim) × Contains clause d × (a d.var ≡ Some (not d.negated))

-- two literals of the clause, neither of them false
pub record AreFree (a : Valuation) (clause : List Dim) (p : Pair) : Type 0 where
  pub has_a : Contains clause p.a
  pub has_b : Contains clause p.b
  pub apart : p.a ≢ p.b
  pub free_a : IsFalsified a p.a → ⊥
  pub free_b : IsFalsified a p.b → ⊥

-- By all values some literal is true, or by those that were looked at both watched ones are not false.
abbrev pub IsHalf : Valuation → Valuation → List Dim → Pair → Type 0
IsHalf low high clause p = HasTrue high clause ⊎ AreFree low clause p

abbrev pub no_pair : Pair
no_pair = record { a = record { var = 0; negated = false }; b = record { var = 0; negated = false } }

abbrev pub no_watch : Watch
no_watch = record { clause = 0; blocker = record { var = 0; negated = false } }

abbrev pub pair_at : List Pair → ℕ → Pair
pair_at pairs k = slice_index_or pairs k no_pair

abbrev pub AllHalf : List (List Dim) → List Pair → Valuation → Valuation → Type 0
AllHalf db pairs low high = (k : ℕ) → k < length db → IsHalf low high (clause_at db k) (pair_at pairs k)

-- all that was assigned has been looked at
abbrev pub IsCalm : List (List Dim) → List Pair → Valuation → Type 0
IsCalm db pairs a = AllHalf db pairs a a

-- so it was below each decision of the trail, the newest first
abbrev pub WasCalm : List (List Dim) → List Pair → List Assigned → Type 0
WasCalm db pairs [] = Unit {0}
WasCalm db pairs (e ∷ es) = (e.reason ≡ None → IsCalm db pairs (denied (dims es))) × WasCalm db pairs es

-- one of the pair is d, and the other one is o
abbrev pub IsBeside : Pair → Dim → Dim → Type 0
IsBeside p d o = ((p.a ≡ d) × (p.b ≡ o)) ⊎ ((p.a ≡ o) × (p.b ≡ d))

-- d gives its place to p.b
pub record IsMove (a : Valuation) (clause : List Dim) (old : Pair) (d : Dim) (p : Pair) : Type 0 where
  pub two : d ≢ p.a
  pub beside : IsBeside old d p.a
  pub stays : Contains clause p.a
  pub has : Contains clause p.b
  pub apart : p.b ≢ p.a
  pub free : IsFalsified a p.b → ⊥

-- Each clause is done, or is as before and in the list that is left.
abbrev pub Rest : List (List Dim) → List Pair → Valuation → Valuation → Valuation → List ℕ → Type 0
Rest db pairs low next high left = (k : ℕ) → k < length db →
    IsHalf next high (clause_at db k) (pair_at pairs k) ⊎ (IsHalf low high (clause_at db k) (pair_at pairs k) × Contains left k)

-- ---- the lists

-- the number of a literal's list
abbrev pub code : Dim → ℕ
code d = cond d.negated (2 * d.var + 1) (2 * d.var)

abbrev pub rows : List (Vec Watch Global) → List (List Watch)
rows lists = map (λ v. v.items) lists

abbrev pub row_at : List (List Watch) → Dim → List Watch
row_at rows d = slice_index_or rows (code d) []

-- the numbers of the clauses
abbrev pub numbers : List Watch → List ℕ
numbers row = map (λ w. w.clause) row

-- it names a clause and one of its literals
abbrev pub IsGood : List (List Dim) → Watch → Type 0
IsGood db w = (w.clause < length db) × Contains (clause_at db w.clause) w.blocker

-- The pair is two literals, and this is one of them.
abbrev pub Watches : Pair → Dim → Type 0
Watches p x = (p.a ≢ p.b) × ((p.a ≡ x) ⊎ (p.b ≡ x))

-- Each clause is in the lists of its watched literals, and stands in its clause; or is one of `own`, in place of the list of d.
abbrev pub ListedBut : List Pair → List (List Watch) → Dim → List ℕ → Type 0
ListedBut pairs rows d own = (k : ℕ) (x : Dim) → k < length pairs → Watches (pair_at pairs k) x →
    ((x ≢ d) × Contains (numbers (row_at rows x)) k) ⊎ ((x ≡ d) × Contains own k)

abbrev pub Listed : List Pair → List (List Watch) → Type 0
Listed pairs rows = (k : ℕ) (x : Dim) → k < length pairs → Watches (pair_at pairs k) x → Contains (numbers (row_at rows x)) k

-- two watched literals stand in their clause
abbrev pub AllInside : List (List Dim) → List Pair → Type 0
AllInside db pairs = (k : ℕ) (x : Dim) → k < length db → Watches (pair_at pairs k) x → Contains (clause_at db k) x

-- what holds of the pairs whatever the values
pub record ArePairs (db : List (List Dim)) (pairs : List Pair) : Type 0 where
  pub count : length pairs ≡ length db
  pub inside : AllInside db pairs

-- and of the lists
pub record AreLists (vars : ℕ) (db : List (List Dim)) (rows : List (List Watch)) : Type 0 where
  pub count : length rows ≡ 2 * vars
  pub good : All (All (IsGood db)) rows

-- ---- one more clause

-- with one more watch in the list of a literal
abbrev pub grown : List (List Watch) → Dim → Watch → List (List Watch)
grown rows d w = slice_set rows (code d) (row_at rows d ++ w ∷ [])

-- with the clause k in the lists of its pair
abbrev pub with_pair : List (List Watch) → Pair → ℕ → List (List Watch)
with_pair rows p k = grown (grown rows p.a (record { clause = k; blocker = p.b })) p.b (record { clause = k; blocker = p.a })

abbrev pub pair_of : Dim → Dim → Pair
pair_of a b = record { a = a; b = b }

-- the first two literals, or twice the only one
abbrev pub first_pair : List Dim → Pair
first_pair clause = pair_of (slice_index_or clause 0 no_pair.a) (slice_index_or clause 1 (slice_index_or clause 0 no_pair.a))
