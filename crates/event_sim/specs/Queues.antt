-- Nets that wait for their turn, and what wakes them. A net is named by the place of its lowest bit.
use Rattle.std.specs.Prelude.{◌≡◌, ◌⊎◌, ℕ, ◌+◌, ◌<◌, ◌≤◌, true, false, List, [], ◌++◌, length, All, IfSome, slice_index_or}
use Rattle.std.specs.List.{Contains}
use Rattle.svex_shape.specs.Values.{Vector}
use Rattle.node_memo.specs.declared.memo.Memo.{Memo}
use Rattle.node_memo.specs.Memos.{is_fresh, StayFresh}
use Rattle.event_nets.specs.declared.gift.Gift.{Gift}
use Rattle.event_nets.specs.Needs.{node_of}
use Rattle.event_nets.specs.declared.tables.Tables.{Tables}
use Rattle.event_sim.specs.declared.links.Links.{Links}
use Rattle.node_memo.specs.Memos.{rows_in}
use Rattle.event_sim.specs.Linked.{LieThere}

-- nets are put at the end of those that wait, and only where they were absent
pub record IsWoken (lows old new : List ℕ) : Type 0 where
  pub all : All (Contains new) lows
  pub behind : (more : List ℕ) × (new ≡ old ++ more) × All (Contains lows) more

-- what waited waits
abbrev pub StayWaiting : List ℕ → List ℕ → Type 0
StayWaiting old new = (k : ℕ) → Contains old k → Contains new k

-- the value that is given, if it is a node's, is fresh
abbrev pub IsGivenFresh : Memo → Gift → Type 0
IsGivenFresh memo g = IfSome (node_of g.from) (λ k. is_fresh memo.fresh.items k ≡ true)

-- Nodes were forgotten, and the nets to which their values are given wait.
pub record AreForgotten (takers : List (List ℕ)) (old new : Memo) (before after : List ℕ) : Type 0 where
  pub values : new.values ≡ old.values
  pub fewer : StayFresh new old
  pub woken : (k : ℕ) → is_fresh old.fresh.items k ≡ true → is_fresh new.fresh.items k ≡ false → All (Contains after) (slice_index_or takers k [])
  pub kept : StayWaiting before after

-- each wire stays as it was, or none of the nodes that have its present value is fresh
abbrev pub AreUnread : List (List ℕ) → List Vector → List Vector → Memo → Type 0
AreUnread present old new memo =
    (n : ℕ) → (slice_index_or new n [] ≡ slice_index_or old n []) ⊎ All (λ k. is_fresh memo.fresh.items k ≡ false) (slice_index_or present n [])

-- What is kept of a net fits wires of these widths, so many classes that are told, so many nodes, and a list of nets with so much room.
pub record FitsNet (tables : Tables) (links : Links) (low : ℕ) (widths : List ℕ) (told nodes room : ℕ) : Type 0 where
  pub starts : length tables.starts.items ≡ length widths
  pub places : (n : ℕ) → n < length widths → slice_index_or tables.starts.items n 0 + slice_index_or widths n 0 ≤ length tables.homes.items
  pub homes : All (λ home. home < told) tables.homes.items
  pub lows : length tables.lows.items ≡ told
  pub has_list : low < length links.wires.items
  pub inside : (n : ℕ) → Contains (slice_index_or (rows_in links.wires.items) low []) n → n < length widths
  pub lie : LieThere widths tables.starts.items tables.homes.items tables.lows.items (rows_in links.wires.items)
  pub present_each : length links.present.items ≡ length widths
  pub present_inside : (n k : ℕ) → Contains (slice_index_or (rows_in links.present.items) n []) k → k < nodes
  pub takers_each : length links.takers.items ≡ nodes
  pub takers_inside : (k net : ℕ) → Contains (slice_index_or (rows_in links.takers.items) k []) net → net < room
