-- A search for groups, as it stands between two steps.
use Rattle.std.specs.Prelude.{◌≡◌, ◌≢◌, ◌⊎◌, ◌<◌, ◌≤◌, ◌+◌, ◌*◌, ◌-◌, ℕ, Bool, true, false, List, [], ◌∷◌, ◌++◌, length, take, drop, sum, slice_index, slice_index_or, slice_set}
use Rattle.std.specs.List.{count_by}
use Rattle.dep_groups.specs.declared.finder.Finder.{Finder}
use Rattle.dep_groups.specs.declared.finder.Stage.{Stage}
use Rattle.dep_groups.specs.declared.finder.Stage.TheVariants.{Unseen, Waits, Grouped}
use Rattle.dep_groups.specs.Groups.{row, item, Chain}

-- Where each place stands, how many of its dependences were not looked at, the places that wait in the order in which they were met,
-- the positions at which their knots start, the positions that may have something left to look at, and the groups that were found.
pub record State : Type 0 where
  pub stages : List Stage
  pub left : List ℕ
  pub waiting : List ℕ
  pub starts : List ℕ
  pub pending : List ℕ
  pub groups : List (List ℕ)

abbrev pub state_of : Finder → State
state_of f = record { stages = f.stages.items; left = f.left.items; waiting = f.waiting.items; starts = f.starts.items; pending = f.pending.items; groups = f.groups.items }

abbrev pub stage_at : State → ℕ → Stage
stage_at s k = slice_index_or s.stages k Unseen

-- ---- what holds of a search

-- no knot starts behind the one position and up to the other
abbrev pub Together : List ℕ → ℕ → ℕ → Type 0
Together starts p q = (c : ℕ) → c < length starts → p < slice_index starts c → q < slice_index starts c

-- A dependence of the place at this position leads to its own knot or to a later one, or to a group.
abbrev pub LeadsOn : List ℕ → ℕ → Stage → Type 0
LeadsOn starts p Unseen = ⊥
LeadsOn starts p (Waits q) = (c : ℕ) → c < length starts → slice_index starts c ≤ p → slice_index starts c ≤ q
LeadsOn starts p (Grouped g) = Unit {0}

abbrev pub HasItem : List ℕ → ℕ → Type 0
HasItem list p = (a : ℕ) × ((a < length list) × (slice_index list a ≡ p))

-- Positions that rise, each below n.
pub record Rise (list : List ℕ) (n : ℕ) : Type 0 where
  pub below : (a : ℕ) → a < length list → slice_index list a < n
  pub rising : (a b : ℕ) → a < b → b < length list → slice_index list a < slice_index list b

-- how many dependences are left to look at
pub record AreLeft (all : List (List ℕ)) (s : State) : Type 0 where
  pub stages : length s.stages ≡ length all
  pub lefts : length s.left ≡ length all
  pub fits : (k : ℕ) → slice_index s.left k ≤ length (row all k)
  pub fresh : (k : ℕ) → stage_at s k ≡ Unseen → slice_index s.left k ≡ length (row all k)

-- The places that wait: each reaches all that were met after it, and those of one knot reach each other.
pub record AreWaiting (all : List (List ℕ)) (s : State) : Type 0 where
  pub stage : (p : ℕ) → p < length s.waiting → stage_at s (slice_index s.waiting p) ≡ Waits p
  pub place : (k p : ℕ) → stage_at s k ≡ Waits p → (p < length s.waiting) × (slice_index s.waiting p ≡ k)
  pub ahead : (p q : ℕ) → p ≤ q → q < length s.waiting → Chain all (slice_index s.waiting p) (slice_index s.waiting q)
  pub back : (p q : ℕ) → p ≤ q → q < length s.waiting → Together s.starts p q → Chain all (slice_index s.waiting q) (slice_index s.waiting p)
  pub looked : (p k : ℕ) → p < length s.waiting → slice_index s.left (slice_index s.waiting p) ≤ k → k < length (row all (slice_index s.waiting p))
      → item all (slice_index s.waiting p) k < length all → LeadsOn s.starts p (stage_at s (item all (slice_index s.waiting p) k))
  pub done : (p : ℕ) → p < length s.waiting → HasItem s.pending p ⊎ (slice_index s.left (slice_index s.waiting p) ≡ 0)
  pub first : 0 < length s.waiting → (0 < length s.starts) × (slice_index s.starts 0 ≡ 0)
  pub starts : Rise s.starts (length s.waiting)
  pub pending : Rise s.pending (length s.waiting)

-- The groups that were found: members reach each other, and depend only on earlier groups and their own.
pub record AreFound (all : List (List ℕ)) (s : State) : Type 0 where
  pub some : (g : ℕ) → g < length s.groups → 0 < length (row s.groups g)
  pub members : (g k : ℕ) → g < length s.groups → k < length (row s.groups g) → stage_at s (item s.groups g k) ≡ Grouped g
  pub grouped : (i g : ℕ) → stage_at s i ≡ Grouped g → (g < length s.groups) × ((k : ℕ) × ((k < length (row s.groups g)) × (item s.groups g k ≡ i)))
  pub distinct : (g k l : ℕ) → g < length s.groups → k < length (row s.groups g) → l < length (row s.groups g) → item s.groups g k ≡ item s.groups g l → k ≡ l
  pub loops : (g k l : ℕ) → g < length s.groups → k < length (row s.groups g) → l < length (row s.groups g) → Chain all (item s.groups g k) (item s.groups g l)
  pub earlier : (i g e : ℕ) → stage_at s i ≡ Grouped g → e < length (row all i) → item all i e < length all → (h : ℕ) × ((stage_at s (item all i e) ≡ Grouped h) × (h ≤ g))

pub record IsSearch (all : List (List ℕ)) (s : State) : Type 0 where
  pub rows : AreLeft all s
  pub waits : AreWaiting all s
  pub found : AreFound all s

-- ---- steps

-- a place is met: it waits behind all others, in a knot of its own
abbrev pub meeting : State → ℕ → State
meeting s k = record s {
  stages = slice_set s.stages k (Waits (length s.waiting));
  waiting = s.waiting ++ k ∷ [];
  starts = s.starts ++ length s.waiting ∷ [];
  pending = s.pending ++ length s.waiting ∷ [];
}

-- members take the number of their group
abbrev pub grouping_from : ℕ → List ℕ → List Stage → List Stage
grouping_from g [] stages = stages
grouping_from g (m ∷ more) stages = grouping_from g more (slice_set stages m (Grouped g))

-- a place at this stage is met if it was not met before
abbrev pub Begins : State → ℕ → Stage → State → Type 0
Begins s k Unseen t = t ≡ meeting s k
Begins s k (Waits at) t = t ≡ s
Begins s k (Grouped g) t = t ≡ s

-- there is a first start, at 0, and all others rise
pub record HasFirst (starts : List ℕ) : Type 0 where
  pub some : 0 < length starts
  pub first : slice_index starts 0 ≡ 0
  pub rising : (a b : ℕ) → a < b → b < length starts → slice_index starts a < slice_index starts b

-- the knots from a position on are one
pub record Unites (at : ℕ) (starts new : List ℕ) : Type 0 where
  pub front : new ≡ take (length new) starts
  pub some : 0 < length new
  pub fewer : length new ≤ length starts
  pub kept : (c : ℕ) → c < length new → slice_index starts c ≤ at
  pub dropped : (c : ℕ) → length new ≤ c → c < length starts → at < slice_index starts c

-- what is done where a dependence leads to a place at this stage
abbrev pub Follows : State → ℕ → Stage → State → Type 0
Follows s k Unseen t = t ≡ meeting s k
Follows s k (Waits at) t = (t ≡ record s { starts = t.starts }) × Unites at s.starts t.starts
Follows s k (Grouped g) t = t ≡ s

-- the same of any number, of which one that is no place changes nothing
pub record FollowsAny (s : State) (k : ℕ) (t : State) : Type 0 where
  pub within : k < length s.stages → Follows s k (stage_at s k) t
  pub past : length s.stages ≤ k → t ≡ s

-- the last knot becomes a group
abbrev pub closing : State → ℕ → State
closing s start = record s {
  stages = grouping_from (length s.groups) (drop start s.waiting) s.stages;
  waiting = take start s.waiting;
  starts = take (length s.starts - 1) s.starts;
  groups = s.groups ++ drop start s.waiting ∷ [];
}

abbrev pub is_unseen : Stage → Bool
is_unseen Unseen = true
is_unseen (Waits p) = false
is_unseen (Grouped g) = false

-- A place may still be met, be pending and wait; a dependence may still be looked at.
abbrev pub work_left : State → ℕ
work_left s = 3 * count_by is_unseen s.stages + sum s.left + length s.pending + length s.waiting

-- A search goes on: what was met stays so, and less is left to do.
pub record Advances (all : List (List ℕ)) (s t : State) : Type 0 where
  pub search : IsSearch all t
  pub less : work_left t < work_left s
  pub kept : (k : ℕ) → stage_at s k ≢ Unseen → stage_at t k ≢ Unseen
