-- Nodes at some places, over those of a store.
use Rattle.std.specs.Prelude.{◌≡◌, ◌≢◌, ℕ, ◌<◌, true, List, [], ◌∷◌, length, slice_index_or, Option, is_some}
use Rattle.std.specs.List.{Contains}
use Rattle.svex_arena.specs.Substs.{entry_at, given_or}

-- the node over a place where this one stands
abbrev pub node_over : List (Option ℕ) → ℕ → ℕ → ℕ
node_over puts at node = given_or (λ n. n) node (entry_at puts at)

-- the nodes of a store, each with the one over it in its place
unfoldable pub over : List (Option ℕ) → List ℕ → List ℕ
over [] nodes = nodes
over (p ∷ puts) [] = []
over (p ∷ puts) (x ∷ nodes) = given_or (λ n. n) x p ∷ over puts nodes

-- each place that has a node over it is among these
abbrev pub Covers : List ℕ → List (Option ℕ) → Type 0
Covers places puts = (i : ℕ) → is_some (entry_at puts i) ≡ true → Contains places i

-- the node over a place was put there, if there is one, and no other node was changed
pub record PutsOver (puts : List (Option ℕ)) (at : ℕ) (before after : List ℕ) : Type 0 where
  pub long : length after ≡ length before
  pub here : at < length before → slice_index_or after at 0 ≡ node_over puts at (slice_index_or before at 0)
  pub others : (i : ℕ) → i ≢ at → slice_index_or after i 0 ≡ slice_index_or before i 0
