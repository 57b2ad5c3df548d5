use Rattle.std.proofs.Common.{◌≡◌, ℕ, ◌<◌, List, [], length, get_or, map, sym, ap, ◌∙◌, subst, arith}
use Rattle.std.specs.Prelude.{All, Option, None, IfSome}
use Rattle.std.proofs.lemmas.List.{length-map}
use Rattle.lhs_alias.specs.Joined.{all_bits}
use Rattle.lhs_alias.proofs.Row.{length-all_bits, length-starts_of}
use Rattle.driver_resolve.specs.Drivers.{widths_of}
use Rattle.flat_net.specs.Flats.{links_of}
use Rattle.event_nets.specs.Needs.{IsRoot, gift_rows}
use Rattle.event_nets.specs.Tables.{home_of}
use Rattle.event_nets.proofs.Homes.{links-inside, homes-below}
use Rattle.event_nets.proofs.Needed.{lows-inside, net-roots}
use Rattle.node_memo.specs.Memos.{rows_in}
use Rattle.event_sim.specs.Linked.{LieThere}
use Rattle.event_sim.proofs.Fitting.{sum-start}
use Rattle.event_sim.proofs.Waiting.{nets-below}
use Rattle.event_sim.proofs.links.all_links.Goals as goal

pub wires_of-requires-clause-starts : goal.wires_of-requires-clause-starts
wires_of-requires-clause-starts c =
    let t = c.requires.tables.1 in
    ap (λ l. length l) t.starts ∙ length-starts_of (widths_of c.args.flat.now.wires) ∙ sym (ap (λ l. length l) c.requires.widths)

pub wires_of-requires-clause-places : goal.wires_of-requires-clause-places
wires_of-requires-clause-places c = λ n h.
    let flat = c.args.flat.now in
    let widths = widths_of flat.wires in
    let t = c.requires.tables.1 in
    let lt : n < length widths = omega (arith, h, ap (λ l. length l) c.requires.widths) in
    omega (arith, ap (λ l. get_or l n 0) t.starts, ap (λ l. get_or l n 0) c.requires.widths, sum-start widths n lt, ap (λ l. length l) t.homes, length-map (all_bits widths) (home_of (links_of flat.joins) widths), length-all_bits widths)

pub wires_of-requires-clause-homes : goal.wires_of-requires-clause-homes
wires_of-requires-clause-homes c =
    let flat = c.args.flat.now in
    let widths = widths_of flat.wires in
    let t = c.requires.tables.1 in
    let long : length c.args.tables.now.lows.items ≡ length (all_bits widths) = ap (λ l. length l) t.lows ∙ length-map (all_bits widths) _ in
    subst (λ (l : List ℕ). All (λ home. home < length c.args.tables.now.lows.items) l) (sym t.homes)
    (subst (λ (n : ℕ). All (λ home. home < n) (map (home_of (links_of flat.joins) widths) (all_bits widths))) (sym long)
    (homes-below widths (links_of flat.joins) (links-inside widths flat.joins c.requires.flat.joins)))

pub wires_of-requires-clause-lows : goal.wires_of-requires-clause-lows
wires_of-requires-clause-lows c = λ k.
    let flat = c.args.flat.now in
    let over = c.requires.tables.0 in
    let t = c.requires.tables.1 in
    let widths = widths_of flat.wires in
    let long : length c.args.tables.now.lows.items ≡ length (all_bits widths) = ap (λ l. length l) t.lows ∙ length-map (all_bits widths) _ in
    subst (λ (n : ℕ). IfSome (get_or c.args.tables.now.lows.items k None) (λ low. low < n)) (sym long)
    (subst (λ (l : List (Option ℕ)). IfSome (get_or l k None) (λ low. low < length (all_bits widths))) (sym t.lows) (lows-inside flat over k))

pub takers_of-requires-clause-roots : goal.takers_of-requires-clause-roots
takers_of-requires-clause-roots c = λ low lt.
    let flat = c.args.flat.now in
    let t = c.requires.tables.1 in
    let own = get_or (gift_rows c.args.tables.now.given.items) low [] in
    subst (λ (n : ℕ). All (IsRoot n) own) (sym c.len.ensures.is) (net-roots flat c.requires.tables.0 c.args.tables.now c.requires.flat t low (omega (arith, lt, t.given_each)))

pub takers_of-requires-clause-nets : goal.takers_of-requires-clause-nets
takers_of-requires-clause-nets c = nets-below c.args.flat.now c.requires.tables.0 c.args.tables.now c.requires.tables.1 (length c.args.tables.now.given.items) c.requires.tables.1.given_each

pub returns : goal.returns
returns c =
    let tables = c.args.tables.now in
    let widths = widths_of c.args.flat.now.wires in
    let t = c.requires.tables.1 in
    let many = ap (λ (l : List ℕ). length l) c.requires.widths in
    let long : length tables.lows.items ≡ length (all_bits widths) = ap (λ l. length l) t.lows ∙ length-map (all_bits widths) _ in
    record {
      wires_each = c.in_ok-wires.ensures.len ∙ long;
      wires_inside = λ low n h. omega (arith, c.in_ok-wires.ensures.inside low n h, many);
      wires = subst (λ (w : List ℕ). LieThere w tables.starts.items tables.homes.items tables.lows.items (rows_in c.in_ok-wires.wires.items)) c.requires.widths c.in_ok-wires.ensures.lie;
      present_each = c.in_ok-present.ensures.len ∙ many;
      present_inside = c.in_ok-present.ensures.inside;
      present = c.in_ok-present.ensures.present;
      takers_each = c.in_ok-takers.ensures.len ∙ c.len.ensures.is;
      takers_inside = λ k low h. omega (arith, c.in_ok-takers.ensures.inside k low h, t.given_each);
      takers = c.in_ok-takers.ensures.taken;
    }
