-- What a net's turn leaves.
use Rattle.std.proofs.Common.{◌≡◌, ℕ, List, ◌∷◌, length, sym, ◌∙◌, subst}
use Rattle.std.specs.Prelude.{All, Option, Contains}
use Rattle.idx_list.specs.Order.{Order}
use Rattle.fourvec.specs.declared.Bit.{Bit}
use Rattle.settling.specs.Events.{event}
use Rattle.svex_arena.specs.Arenas.{IsArena}
use Rattle.svex_shape.specs.Values.{Rows, read}
use Rattle.node_memo.specs.declared.memo.Memo.{Memo}
use Rattle.node_memo.specs.Memos.{IsMemo, HasFresh, StayFresh}
use Rattle.driver_resolve.specs.Drivers.{widths_of}
use Rattle.flat_net.specs.declared.flat.Flat.{Flat}
use Rattle.flat_net.specs.Flats.{IsFlat, links_of, given_in}
use Rattle.event_nets.specs.declared.tables.Tables.{Tables}
use Rattle.event_nets.specs.Needs.{gift_rows}
use Rattle.event_nets.specs.Tables.{store_of}
use Rattle.event_sim.specs.declared.sim.Sim.{Sim}
use Rattle.node_memo.specs.Memos.{rows_in}
use Rattle.event_sim.specs.Queues.{AreUnread, AreForgotten, IsGivenFresh}
use Rattle.event_sim.specs.Rows.{Passed}
use Rattle.event_sim.specs.Sims.{now_of, prev_of, stim_of, picked, Fits, AllRestBut}
use Rattle.node_memo.proofs.Rows.{rows-len}
use Rattle.event_sim.proofs.OneNet.{own_gifts}
use Rattle.event_sim.proofs.Passing.{passed-widths, as-many}
use Rattle.event_sim.proofs.Waiting.{net-listed, net-below}
use Rattle.event_sim.proofs.Waking.{RestIn, FreshIn, with_present, same-rows, fresh-stays, right-stays, fresh-more, rest-more}

-- values that were passed on over the net, and nodes that were forgotten where a wire changed
pub record IsPassed (sim : Sim) (low : ℕ) (told : List (Option Bit)) (mid : Memo) (env : Rows) (memo : Memo) (after : List ℕ) : Type 0 where
  pub rows : Passed sim.tables.homes.items sim.tables.starts.items sim.tables.lows.items low told sim.env.present env.present
  pub previous : env.previous ≡ sim.env.previous
  pub stim : env.stim ≡ sim.env.stim
  pub chosen : env.chosen ≡ sim.env.chosen
  pub sampled : env.sampled ≡ sim.env.sampled
  pub unread : AreUnread (rows_in sim.links.present.items) sim.env.present env.present memo
  pub forgotten : AreForgotten (rows_in sim.links.takers.items) mid memo sim.waiting.items after

many-present : (flat : Flat) (over : List ℕ) (sim : Sim) → Fits flat over sim → length (rows_in sim.links.present.items) ≡ length sim.env.present
many-present flat over sim fits = rows-len sim.links.present.items ∙ fits.links.present_each ∙ sym (as-many (widths_of flat.wires) sim.env.present fits.present)

-- fresh values are right
pub turn-right : (flat : Flat) (over : List ℕ) (sim : Sim) → IsArena flat.arena → Fits flat over sim → (low : ℕ) (told : List (Option Bit)) (mid : Memo) → HasFresh (read sim.env) flat.arena mid
    → (env : Rows) (memo : Memo) (after : List ℕ) → IsMemo flat.arena memo → IsPassed sim low told mid env memo after → HasFresh (read env) flat.arena memo
turn-right flat over sim i fits low told mid right env memo after m p =
    subst (λ (rows : Rows). HasFresh (read rows) flat.arena memo) (same-rows sim.env env p.previous p.stim p.chosen p.sampled)
    (right-stays flat.arena (rows_in sim.links.present.items) sim.env env.present (rows_in sim.links.takers.items) mid memo sim.waiting.items after i m fits.links.present
    (many-present flat over sim fits) p.rows.as_many p.unread right p.forgotten)

-- all nets are at rest but those that wait
pub turn-rests : (flat : Flat) (over : List ℕ) (sim new : Sim) → IsArena flat.arena → IsFlat flat → Fits flat over sim → (low : ℕ) (told : List (Option Bit)) (mid : Memo)
    → StayFresh sim.work.memo mid → All (IsGivenFresh mid) (own_gifts sim low) → IsMemo flat.arena new.work.memo
    → IsPassed sim low told mid new.env new.work.memo new.waiting.items → new.tables ≡ sim.tables
    → ((n k : ℕ) → store_of new.env.present n k ≡ event (links_of flat.joins) (given_in flat over (stim_of sim) (prev_of sim)) (picked (links_of flat.joins) (widths_of flat.wires) sim.tables.lows.items low) (now_of sim) n k)
    → AllRestBut flat over (low ∷ sim.waiting.items) sim → AllRestBut flat over new.waiting.items new
turn-rests flat over sim new i ok fits low told mid stay fresh m p same now rest =
    let widths = widths_of flat.wires in
    let tables = sim.tables in
    let after = new.waiting.items in
    let memo = new.work.memo in
    let others : FreshIn tables.nets.items (gift_rows tables.given.items) after memo =
    fresh-more tables.nets.items (gift_rows tables.given.items) (rows_in sim.links.takers.items) sim.work.memo mid memo sim.waiting.items after low fits.links.takers stay fresh p.forgotten rest.1 in
    let moved : RestIn flat over tables.lows.items after (with_present sim.env new.env.present) =
    rest-more flat i ok over tables fits.tables (net-listed flat ok over tables fits.tables) (net-below flat over tables fits.tables) sim.env new.env.present memo fits.present fits.previous
    (passed-widths widths _ _ _ _ _ sim.env.present new.env.present p.rows fits.present) low now sim.waiting.items after p.forgotten.kept
    (fresh-stays flat.arena (rows_in sim.links.present.items) sim.env new.env.present memo i m fits.links.present (many-present flat over sim fits) p.rows.as_many p.unread)
    others rest.0 in
    let here : RestIn flat over tables.lows.items after new.env =
    subst (λ (rows : Rows). RestIn flat over tables.lows.items after rows) (same-rows sim.env new.env p.previous p.stim p.chosen p.sampled) moved in
    subst (λ (t : Tables). RestIn flat over t.lows.items after new.env × FreshIn t.nets.items (gift_rows t.given.items) after memo) (sym same) (here, others)

-- ---- nets that wait

pub fits-waiting : (flat : Flat) (over : List ℕ) (sim : Sim) → Fits flat over sim → (waiting : Order) → waiting.room ≡ sim.waiting.room → Fits flat over (record sim { waiting = waiting })
fits-waiting flat over sim fits waiting same = record {
  present = fits.present;
  previous = fits.previous;
  stim = fits.stim;
  tables = fits.tables;
  links = fits.links;
  memo = fits.memo;
  right = fits.right;
  told = fits.told;
  queue = same ∙ fits.queue;
}

-- where more nets wait, less is said
pub rest-fewer : (flat : Flat) (over : List ℕ) (sim : Sim) (a b : List ℕ) → ((k : ℕ) → Contains a k → Contains b k) → AllRestBut flat over a sim → AllRestBut flat over b sim
rest-fewer flat over sim a b h rest = (
  λ x low ix is out. rest.0 x low ix is (λ c. out (h low c)),
  λ low there out. rest.1 low there (λ c. out (h low c)),
)
