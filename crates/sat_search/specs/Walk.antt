-- What a walk along one list keeps.
use Rattle.std.specs.Prelude.{◌≡◌, ℕ, ◌+◌, ◌++◌, List, take, drop}
use Rattle.cnf.specs.declared.Dim.{Dim}
use Rattle.cnf.specs.Clauses.{negate, Valuation, denied, assume}
use Rattle.sat_state.specs.declared.trail.Assigned.{Assigned}
use Rattle.sat_state.specs.declared.watch.Watch.{Watch}
use Rattle.sat_state.specs.Trail.{falses}

-- what the first n literals of the trail make false
abbrev pub before : List Assigned → ℕ → Valuation
before entries n = denied (falses (take n entries))

-- the literal at this place of the trail is d
abbrev pub StandsAt : List Assigned → ℕ → Dim → Type 0
StandsAt entries at d = before entries (at + 1) ≡ assume (before entries at) (negate d)

-- the watches that are left, once those from `kept` up to `read` are gone
abbrev pub left_of : List Watch → ℕ → ℕ → List Watch
left_of list kept read = take kept list ++ drop read list
