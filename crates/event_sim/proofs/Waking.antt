-- A net stays at rest where nothing that is given to it has changed.
use Rattle.std.proofs.Common.{◌≡◌, ℕ, ◌<◌, Bool, true, false, cond, eqb, List, [], ◌∷◌, ◌⊎◌, length, get_or, refl, sym, ap, ◌∙◌, subst, inl, inr, arith}
use Rattle.std.specs.Prelude.{All, Option, Some, IfSome, Contains}
use Rattle.std.proofs.lemmas.Bool.{cases_lt, eqb-true, eq-eqb, false≢true}
use Rattle.std.proofs.lemmas.List.{get_or_past}
use Rattle.std.proofs.lemmas.List.Elements.{All-contains, Contains-append_cases}
use Rattle.fourvec.specs.declared.Bit.{Bit}
use Rattle.lhs_alias.specs.declared.segs.WireBit.{WireBit}
use Rattle.lhs_alias.specs.Lies.{IsBitOf}
use Rattle.lhs_alias.specs.Joined.{all_bits}
use Rattle.settling.specs.Settling.{value_at as value_in_store, given_to}
use Rattle.settling.specs.Events.{resolved, step, event}
use Rattle.svex_shape.specs.declared.shape.VarName.{VarName}
use Rattle.svex_shape.specs.declared.shape.VarName.TheVariants.{Now, Prev, Stim, Chosen, Sampled}
use Rattle.svex_shape.specs.declared.shape.Shape.{Shape}
use Rattle.svex_shape.specs.declared.shape.Shape.TheVariants.{Const, Var, Unary, Binary, Cond, Pick, Slice, Zext, Sext, DynSlice, DynPut}
use Rattle.svex_shape.specs.Shapes.{OnChildren, shape_at}
use Rattle.svex_shape.specs.Values.{Vector, Reading, Rows, read, fitted, value_of, value_at}
use Rattle.svex_arena.specs.Arenas.{IsArena}
use Rattle.svex_arena.proofs.Numbering.{every_node, map_children, join_children}
use Rattle.svex_arena.proofs.Steps.{value-step, value_reads}
use Rattle.node_memo.specs.declared.memo.Memo.{Memo}
use Rattle.node_memo.specs.Memos.{IsMemo, HasFresh, StayFresh, AreClosed, is_fresh}
use Rattle.driver_resolve.specs.Drivers.{widths_of}
use Rattle.flat_net.specs.declared.flat.Flat.{Flat}
use Rattle.flat_net.specs.Flats.{IsFlat, links_of, given_in}
use Rattle.event_nets.specs.declared.gift.Gift.{Gift}
use Rattle.event_nets.specs.declared.gift.Source.{Source}
use Rattle.event_nets.specs.declared.gift.Source.TheVariants.{Value, Stimulus}
use Rattle.event_nets.specs.declared.tables.Tables.{Tables}
use Rattle.event_nets.specs.Gifts.{source_in, given_at}
use Rattle.event_nets.specs.Needs.{node_of, IsRoot, gift_rows}
use Rattle.event_nets.specs.Runs.{is_at}
use Rattle.event_nets.specs.Tables.{store_of, IsValuation, home_of, AreTables}
use Rattle.event_nets.proofs.Needed.{net-roots}
use Rattle.event_sim.specs.Linked.{ArePresent, present_of, IsTakenBy}
use Rattle.event_sim.specs.Queues.{AreUnread, AreForgotten, IsGivenFresh}
use Rattle.event_sim.specs.Sims.{net_in, picked}
use Rattle.event_sim.proofs.Flats.{gifts-give}
use Rattle.event_sim.proofs.Forgetting.{given-rises}
use Rattle.node_memo.proofs.Rows.{one-has}
use Rattle.event_sim.proofs.Needing.{IsAlike, given-alike, own-given}
use Rattle.event_sim.proofs.Valued.{ideal, ideal-has}

-- ---- values before and after a change

-- the same values, but for the present
abbrev pub with_present : Rows → List Vector → Rows
with_present rows present = record { present = present; previous = rows.previous; stim = rows.stim; chosen = rows.chosen; sampled = rows.sampled }

pub same-rows : (old new : Rows) → new.previous ≡ old.previous → new.stim ≡ old.stim → new.chosen ≡ old.chosen → new.sampled ≡ old.sampled → with_present old new.present ≡ new
same-rows old new p s c m = λ i. record { present = new.present; previous = (sym p) i; stim = (sym s) i; chosen = (sym c) i; sampled = (sym m) i }

-- a shape that is a variable reads the same
abbrev IsReadAlike : Reading → Reading → Shape → Type 0
IsReadAlike r s shape = (name : VarName) (width : ℕ) → shape ≡ Var name width → r name width ≡ s name width

own-same : (r s : Reading) (g : ℕ → Vector) (shape : Shape) → IsReadAlike r s shape → value_of r g shape ≡ value_of s g shape
unfolding value_of
own-same r s g (Const v) h = refl
own-same r s g (Var name width) h = h name width refl
own-same r s g (Unary op a) h = refl
own-same r s g (Binary op a b) h = refl
own-same r s g (Cond c a b) h = refl
own-same r s g (Pick c a b) h = refl
own-same r s g (Slice a lo width) h = refl
own-same r s g (Zext a width) h = refl
own-same r s g (Sext a width) h = refl
own-same r s g (DynSlice a at spot) h = refl
own-same r s g (DynPut a at spot put) h = refl

-- where the children of a fresh node are fresh, and each fresh variable reads the same, fresh nodes keep their values
pub value-stays : (r s : Reading) (shapes : List Shape) (fresh : List Bool) → IsArena shapes → AreClosed shapes fresh
    → ((k : ℕ) → k < length shapes → is_fresh fresh k ≡ true → IsReadAlike r s (shape_at shapes k))
    → (k : ℕ) → k < length shapes → is_fresh fresh k ≡ true → value_at r shapes k ≡ value_at s shapes k
value-stays r s shapes fresh i closed reads k lt on = every_node (λ j. is_fresh fresh j ≡ true → value_at r shapes j ≡ value_at s shapes j) shapes i.children turn k lt on
  where
    turn : (j : ℕ) → j < length shapes → OnChildren (λ c. is_fresh fresh c ≡ true → value_at r shapes c ≡ value_at s shapes c) (shape_at shapes j) → is_fresh fresh j ≡ true
        → value_at r shapes j ≡ value_at s shapes j
    turn j l below h =
        value-step r shapes j (i.children j l)
        ∙ value_reads r (value_at r shapes) (value_at s shapes) (shape_at shapes j)
        (map_children (λ c. (is_fresh fresh c ≡ true) × (is_fresh fresh c ≡ true → value_at r shapes c ≡ value_at s shapes c)) (λ c. value_at r shapes c ≡ value_at s shapes c) (λ c p. p.1 p.0) (shape_at shapes j)
        (join_children (λ c. is_fresh fresh c ≡ true) (λ c. is_fresh fresh c ≡ true → value_at r shapes c ≡ value_at s shapes c) (shape_at shapes j) (closed j l h) below))
        ∙ own-same r s (value_at s shapes) (shape_at shapes j) (reads j l h)
        ∙ sym (value-step s shapes j (i.children j l))

reads-same : (shapes : List Shape) (present : List (List ℕ)) (rows : Rows) (new : List Vector) (memo : Memo) → ArePresent shapes (length shapes) present
    → length present ≡ length rows.present → length new ≡ length rows.present → AreUnread present rows.present new memo
    → (k : ℕ) → k < length shapes → is_fresh memo.fresh.items k ≡ true → IsReadAlike (read (with_present rows new)) (read rows) (shape_at shapes k)
reads-same shapes present rows new memo known many same unread k lt on (Prev n) width e = refl
reads-same shapes present rows new memo known many same unread k lt on (Stim n) width e = refl
reads-same shapes present rows new memo known many same unread k lt on (Chosen n) width e = refl
reads-same shapes present rows new memo known many same unread k lt on (Sampled n) width e = refl
reads-same shapes present rows new memo known many same unread k lt on (Now n) width e = ap (λ (v : Vector). fitted width v) (row (unread n))
  where
    row : (get_or new n [] ≡ get_or rows.present n []) ⊎ All (λ j. is_fresh memo.fresh.items j ≡ false) (get_or present n []) → get_or new n [] ≡ get_or rows.present n []
    row (inl stays) = stays
    row (inr gone) = elim (cases_lt n (length present)) [
      | inl below ↦ absurd (false≢true (sym (All-contains (λ j. is_fresh memo.fresh.items j ≡ false) (get_or present n []) k gone (known k n lt (ap present_of e) below)) ∙ on))
      | inr past ↦ get_or_past new n [] (omega (arith, many, same, past)) ∙ sym (get_or_past rows.present n [] (omega (arith, many, past)))
    ]

-- what is fresh has the value that it had
pub fresh-stays : (shapes : List Shape) (present : List (List ℕ)) (rows : Rows) (new : List Vector) (memo : Memo) → IsArena shapes → IsMemo shapes memo → ArePresent shapes (length shapes) present
    → length present ≡ length rows.present → length new ≡ length rows.present → AreUnread present rows.present new memo
    → (k : ℕ) → k < length shapes → is_fresh memo.fresh.items k ≡ true → value_at (read (with_present rows new)) shapes k ≡ value_at (read rows) shapes k
fresh-stays shapes present rows new memo i m known many same unread =
    value-stays (read (with_present rows new)) (read rows) shapes memo.fresh.items i m.closed (reads-same shapes present rows new memo known many same unread)

fresh-there : (shapes : List Shape) (memo : Memo) → IsMemo shapes memo → (k : ℕ) → is_fresh memo.fresh.items k ≡ true → k < length shapes
fresh-there shapes memo m k on = elim (cases_lt k (length memo.fresh.items)) [
  | inl lt ↦ omega (arith, lt, m.marks)
  | inr past ↦ absurd (false≢true (sym (get_or_past memo.fresh.items k false past) ∙ on))
]

-- so fresh values are right after a change, where what reads it was forgotten
pub right-stays : (shapes : List Shape) (present : List (List ℕ)) (rows : Rows) (new : List Vector) (takers : List (List ℕ)) (old memo : Memo) (before after : List ℕ) → IsArena shapes → IsMemo shapes memo
    → ArePresent shapes (length shapes) present → length present ≡ length rows.present → length new ≡ length rows.present → AreUnread present rows.present new memo
    → HasFresh (read rows) shapes old → AreForgotten takers old memo before after → HasFresh (read (with_present rows new)) shapes memo
right-stays shapes present rows new takers old memo before after i m known many same unread right f = record {
  is = λ k on.
      ap (λ v. get_or v.items k []) f.values
      ∙ right.is k (f.fewer k on)
      ∙ sym (fresh-stays shapes present rows new memo i m known many same unread k (fresh-there shapes memo m k on) on);
}

-- ---- what is given to the net

some-both : (P Q : ℕ → Type 0) → (from : Source) → IfSome (node_of from) P → IfSome (node_of from) Q → IfSome (node_of from) (λ k. P k × Q k)
some-both P Q (Value k) h g = (h, g)
some-both P Q (Stimulus n) h g = tt

source-alike : (r s : Reading) (shapes : List Shape) (stim : List Vector) (from : Source) → IfSome (node_of from) (λ k. k < length shapes) → IfSome (node_of from) (λ k. value_at r shapes k ≡ value_at s shapes k)
    → source_in (ideal r shapes) stim from ≡ source_in (ideal s shapes) stim from
source-alike r s shapes stim (Value k) lt e = (ideal-has r shapes).is k lt ∙ e ∙ sym ((ideal-has s shapes).is k lt)
source-alike r s shapes stim (Stimulus n) lt e = refl

some-stays : (r s : Reading) (shapes : List Shape) (memo : Memo) → ((k : ℕ) → k < length shapes → is_fresh memo.fresh.items k ≡ true → value_at r shapes k ≡ value_at s shapes k)
    → (from : Source) → IfSome (node_of from) (λ k. k < length shapes) → IfSome (node_of from) (λ k. is_fresh memo.fresh.items k ≡ true) → IfSome (node_of from) (λ k. value_at r shapes k ≡ value_at s shapes k)
some-stays r s shapes memo h (Value k) lt on = h k lt on
some-stays r s shapes memo h (Stimulus n) lt on = tt

all-alike : (r s : Reading) (shapes : List Shape) (stim : List Vector) (memo : Memo) → ((k : ℕ) → k < length shapes → is_fresh memo.fresh.items k ≡ true → value_at r shapes k ≡ value_at s shapes k)
    → (own : List Gift) → All (IsRoot (length shapes)) own → All (IsGivenFresh memo) own → All (IsAlike (ideal r shapes) (ideal s shapes) stim) own
all-alike r s shapes stim memo h own roots fresh k d lt =
    let from = (get_or own k d).from in
    source-alike r s shapes stim from (roots k d lt) (some-stays r s shapes memo h from (roots k d lt) (fresh k d lt))

-- by the net's own gifts
net-gives : (flat : Flat) → IsArena flat.arena → IsFlat flat → (over : List ℕ) (tables : Tables) → AreTables flat over tables → (low : ℕ) → low < length (all_bits (widths_of flat.wires))
    → (rows : Rows) → IsValuation (widths_of flat.wires) rows.present → IsValuation (widths_of flat.wires) rows.previous
    → (b : WireBit) → IsBitOf (widths_of flat.wires) b → is_at (net_in (links_of flat.joins) (widths_of flat.wires) tables.lows.items b) low ≡ true
    → given_to (links_of flat.joins) b (given_in flat over (store_of rows.stim) (store_of rows.previous) (store_of rows.present))
    ≡ given_at (ideal (read rows) flat.arena) rows.stim (home_of (links_of flat.joins) (widths_of flat.wires) b) (get_or (gift_rows tables.given.items) low [])
net-gives flat i ok over tables t low lt rows v u b ib on =
    let all = ideal (read rows) flat.arena in
    let home = home_of (links_of flat.joins) (widths_of flat.wires) b in
    sym (gifts-give flat i ok over rows v u all (ideal-has (read rows) flat.arena) b ib)
    ∙ ap (λ l. given_at all rows.stim home l) (sym t.gifts)
    ∙ sym (own-given all rows.stim tables.lows.items low home on tables.gifts.items)
    ∙ ap (λ l. given_at all rows.stim home l) (sym (t.given low lt))

-- ---- rest

abbrev pub stepped_in : Flat → List ℕ → Rows → WireBit → Bit
stepped_in flat over rows b = value_in_store (step (links_of flat.joins) (given_in flat over (store_of rows.stim) (store_of rows.previous)) (store_of rows.present)) b

pub stepped-alike : (flat : Flat) → IsArena flat.arena → IsFlat flat → (over : List ℕ) (tables : Tables) → AreTables flat over tables → (low : ℕ) → low < length (all_bits (widths_of flat.wires))
    → (rows : Rows) (new : List Vector) (memo : Memo) → IsValuation (widths_of flat.wires) rows.present → IsValuation (widths_of flat.wires) rows.previous → IsValuation (widths_of flat.wires) new
    → ((k : ℕ) → k < length flat.arena → is_fresh memo.fresh.items k ≡ true → value_at (read (with_present rows new)) flat.arena k ≡ value_at (read rows) flat.arena k)
    → All (IsGivenFresh memo) (get_or (gift_rows tables.given.items) low [])
    → (b : WireBit) → IsBitOf (widths_of flat.wires) b → is_at (net_in (links_of flat.joins) (widths_of flat.wires) tables.lows.items b) low ≡ true
    → stepped_in flat over (with_present rows new) b ≡ stepped_in flat over rows b
stepped-alike flat i ok over tables t low lt rows new memo v u w stays fresh b ib on =
    let home = home_of (links_of flat.joins) (widths_of flat.wires) b in
    let own = get_or (gift_rows tables.given.items) low [] in
    let r = read (with_present rows new) in
    ap resolved (net-gives flat i ok over tables t low lt (with_present rows new) w u b ib on
    ∙ given-alike (ideal r flat.arena) (ideal (read rows) flat.arena) rows.stim own
    (all-alike r (read rows) flat.arena rows.stim memo stays own (net-roots flat over tables ok t low lt) fresh) home
    ∙ sym (net-gives flat i ok over tables t low lt rows v u b ib on))

-- each bit is at rest whose net is none of these
abbrev pub RestIn : Flat → List ℕ → List (Option ℕ) → List ℕ → Rows → Type 0
RestIn flat over lows waiting rows =
    (b : WireBit) (low : ℕ) → IsBitOf (widths_of flat.wires) b → net_in (links_of flat.joins) (widths_of flat.wires) lows b ≡ Some low → (Contains waiting low → ⊥)
    → stepped_in flat over rows b ≡ value_in_store (store_of rows.present) b

-- what is given to each net but these is fresh
abbrev pub FreshIn : List ℕ → List (List Gift) → List ℕ → Memo → Type 0
FreshIn nets given waiting memo = (low : ℕ) → Contains nets low → (Contains waiting low → ⊥) → All (IsGivenFresh memo) (get_or given low [])

elsewhere : (low : ℕ) (before : List ℕ) (net : ℕ) → (net ≡ low → ⊥) → (Contains before net → ⊥) → Contains (low ∷ before) net → ⊥
elsewhere low before net apart out c = elim (Contains-append_cases (low ∷ []) before net c) [
  | inl one ↦ apart (one-has net low one)
  | inr there ↦ out there
]

some-kept : (takers : List (List ℕ)) (old new : Memo) (before after : List ℕ) (net : ℕ) → AreForgotten takers old new before after → (Contains after net → ⊥) → (g : Gift)
    → IsTakenBy takers net g → IsGivenFresh old g → IsGivenFresh new g
some-kept takers old new before after net f out g taken fresh = at g.from taken fresh
  where
    pick : (k : ℕ) → Contains (get_or takers k []) net → is_fresh old.fresh.items k ≡ true → (t : Bool) → is_fresh new.fresh.items k ≡ t → is_fresh new.fresh.items k ≡ true
    pick k c on true e = e
    pick k c on false e = absurd (out (All-contains (Contains after) (get_or takers k []) net (f.woken k on e) c))

    at : (from : Source) → IfSome (node_of from) (λ k. Contains (get_or takers k []) net) → IfSome (node_of from) (λ k. is_fresh old.fresh.items k ≡ true)
        → IfSome (node_of from) (λ k. is_fresh new.fresh.items k ≡ true)
    at (Value k) c on = pick k c on (is_fresh new.fresh.items k) refl
    at (Stimulus n) c on = tt

-- after a net's turn what is given to nets is fresh, but for those that wait
pub fresh-more : (nets : List ℕ) (given : List (List Gift)) (takers : List (List ℕ)) (first mid new : Memo) (before after : List ℕ) (low : ℕ)
    → ((net : ℕ) → Contains nets net → All (IsTakenBy takers net) (get_or given net []))
    → StayFresh first mid → All (IsGivenFresh mid) (get_or given low []) → AreForgotten takers mid new before after
    → FreshIn nets given (low ∷ before) first → FreshIn nets given after new
fresh-more nets given takers first mid new before after low taken stay own f fresh net h out k d lt =
    some-kept takers mid new before after net f out (get_or (get_or given net []) k d) (taken net h k d lt) (here (eqb net low) refl k d lt)
  where
    apart : eqb net low ≡ false → net ≡ low → ⊥
    apart e same = false≢true (sym e ∙ eq-eqb net low same)

    here : (t : Bool) → eqb net low ≡ t → All (IsGivenFresh mid) (get_or given net [])
    here true e = subst (λ (x : ℕ). All (IsGivenFresh mid) (get_or given x [])) (sym (eqb-true net low e)) own
    here false e = λ j c l. given-rises first mid stay (get_or (get_or given net []) j c) (fresh net h (elsewhere low before net (apart e) (λ there. out (f.kept net there))) j c l)

-- After a net's turn all nets are at rest but those that wait.
pub rest-more : (flat : Flat) → IsArena flat.arena → IsFlat flat → (over : List ℕ) (tables : Tables) → AreTables flat over tables
    → ((b : WireBit) (low : ℕ) → IsBitOf (widths_of flat.wires) b → net_in (links_of flat.joins) (widths_of flat.wires) tables.lows.items b ≡ Some low → Contains tables.nets.items low)
    → ((low : ℕ) → Contains tables.nets.items low → low < length (all_bits (widths_of flat.wires)))
    → (rows : Rows) (new : List Vector) (memo : Memo) → IsValuation (widths_of flat.wires) rows.present → IsValuation (widths_of flat.wires) rows.previous → IsValuation (widths_of flat.wires) new
    → (low : ℕ)
    → ((n k : ℕ) → store_of new n k ≡ event (links_of flat.joins) (given_in flat over (store_of rows.stim) (store_of rows.previous)) (picked (links_of flat.joins) (widths_of flat.wires) tables.lows.items low) (store_of rows.present) n k)
    → (before after : List ℕ) → ((k : ℕ) → Contains before k → Contains after k)
    → ((k : ℕ) → k < length flat.arena → is_fresh memo.fresh.items k ≡ true → value_at (read (with_present rows new)) flat.arena k ≡ value_at (read rows) flat.arena k)
    → FreshIn tables.nets.items (gift_rows tables.given.items) after memo
    → RestIn flat over tables.lows.items (low ∷ before) rows → RestIn flat over tables.lows.items after (with_present rows new)
rest-more flat i ok over tables t listed below rows new memo v u w low now before after kept stays fresh rest b net ib is out =
    let links = links_of flat.joins in
    let widths = widths_of flat.wires in
    let on : is_at (net_in links widths tables.lows.items b) net ≡ true = ap (λ o. is_at o net) is ∙ eq-eqb net net refl in
    let there = listed b net ib is in
    let same = stepped-alike flat i ok over tables t net (below net there) rows new memo v u w stays (fresh net there out) b ib on in
    same ∙ own (eqb net low) refl
  where
    here : (t : Bool) → eqb net low ≡ t → store_of new b.wire b.at ≡ cond t (stepped_in flat over rows b) (store_of rows.present b.wire b.at)
    here t e = now b.wire b.at ∙ ap (λ o. cond (is_at o low) (stepped_in flat over rows b) (store_of rows.present b.wire b.at)) is ∙ ap (λ u. cond u (stepped_in flat over rows b) (store_of rows.present b.wire b.at)) e

    apart : eqb net low ≡ false → net ≡ low → ⊥
    apart e same = false≢true (sym e ∙ eq-eqb net low same)

    own : (t : Bool) → eqb net low ≡ t → stepped_in flat over rows b ≡ store_of new b.wire b.at
    own true e = sym (here true e)
    own false e = rest b net ib is (elsewhere low before net (apart e) (λ c. out (kept net c))) ∙ sym (here false e)
