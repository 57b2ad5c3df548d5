use Rattle.std.proofs.Common.{◌≡◌, ℕ, ◌<◌, ◌≤◌, List, [], Vec, Global, false, length, get_or, map, take, take_all, sym, ap, ◌∙◌, subst, arith}
use Rattle.std.specs.Prelude.{All, Contains}
use Rattle.std.proofs.lemmas.Bool.{false≢true}
use Rattle.std.proofs.lemmas.List.{get_or_default, length-map}
use Rattle.idx_list.specs.Order.{Order}
use Rattle.svex_shape.specs.Values.{Vector}
use Rattle.node_memo.specs.declared.memo.Memo.{Memo}
use Rattle.node_memo.specs.Memos.{rows_in, IsMemo, is_fresh}
use Rattle.node_memo.proofs.Rows.{row-of}
use Rattle.event_sim.specs.Queues.{AreForgotten, AreUnread}
use Rattle.event_sim.specs.Rows.{passed_row}
use Rattle.event_sim.proofs.Forgetting.{forgotten-both, unread-more}
use Rattle.event_sim.proofs.Taking.{WiresTaken, as-many-taken, number-there, taken-next, changed-more, taken-all}
use Rattle.event_sim.proofs.pass.take_wires.Goals as goal
use Rattle.event_sim.proofs.pass.take_wires.Goals.{then-take_wire, else-take_wire}

pub take_wire-requires-clause-wire : goal.take_wire-requires-clause-wire
take_wire-requires-clause-wire c =
    let fits = c.requires.fits in
    let items = c.deref-wire-items.result.now in
    let wires = c.args.links.now.wires.items in
    let list : items ≡ get_or (rows_in wires) c.args.low [] = c.deref-wire-items.ensures.value ∙ row-of wires c.args.low c.index.result.now fits.has_list c.index.ensures in
    let below = number-there items (get_or (rows_in wires) c.args.low []) c.loop-wire.wire-index (length (map (λ (row : Vector). length row) c.args.present.now)) list (omega arith) fits.inside in
    omega (arith, below, length-map c.args.present.now (λ (row : Vector). length row))

pub forget_wire-requires-clause-nodes : goal.forget_wire-requires-clause-nodes
forget_wire-requires-clause-nodes c =
    let fits = c.requires.fits in
    let items = c.deref-wire-items.result.now in
    let wires = c.args.links.now.wires.items in
    let present = c.args.links.now.present.items in
    let list : items ≡ get_or (rows_in wires) c.args.low [] = c.deref-wire-items.ensures.value ∙ row-of wires c.args.low c.index.result.now fits.has_list c.index.ensures in
    let wire = get_or items c.loop-wire.wire-index 0 in
    let below = number-there items (get_or (rows_in wires) c.args.low []) c.loop-wire.wire-index (length (map (λ (row : Vector). length row) c.args.present.now)) list (omega arith) fits.inside in
    let row = get_or (rows_in present) wire [] in
    let nodes : c.deref.result.now ≡ row = c.deref.ensures.value ∙ row-of present wire c.index-then-take_wire.result.now (omega (arith, below, fits.present_each)) c.index-then-take_wire.ensures in
    subst (λ (l : List ℕ). All (λ k. k < length c.args.arena.now) l) (sym nodes) (λ j d l. fits.present_inside wire (get_or row j d) (j, l, get_or_default row j (get_or row j d) d l))

pub forget_wire-requires-clause-inside : goal.forget_wire-requires-clause-inside
forget_wire-requires-clause-inside c = λ k low h.
    let there : Contains (get_or (rows_in c.args.links.now.takers.items) k []) low = subst (λ (l : List (Vec ℕ Global)). Contains (get_or (rows_in l) k []) low) c.deref-then-take_wire.ensures.value h in
    omega (arith, c.requires.fits.takers_inside k low there, c.loop-wire.invariant.room)

pub loop-wire-preserved : goal.loop-wire-preserved
loop-wire-preserved c =
    let fits = c.requires.fits in
    let tables = c.args.tables.now in
    let low = c.args.low in
    let told = c.args.told.now in
    let items = c.deref-wire-items.result.now in
    let wires = c.args.links.now.wires.items in
    let list = get_or (rows_in wires) low [] in
    let i = c.loop-wire.wire-index in
    let lt : i < length items = omega arith in
    let e : items ≡ list = c.deref-wire-items.ensures.value ∙ row-of wires low c.index.result.now fits.has_list c.index.ensures in
    let wire = get_or items i 0 in
    let old = c.args.present.now in
    let mid = c.loop-wire.present in
    let new = c.take_wire.new.present in
    let kept = c.loop-wire.invariant in
    let below = number-there items list i (length (map (λ (row : Vector). length row) old)) e lt fits.inside in
    let many = as-many-taken tables.homes.items tables.starts.items tables.lows.items low told (take i list) old mid kept.taken in
    let there : wire < length mid = omega (arith, below, many, length-map old (λ (row : Vector). length row)) in
    let row = passed_row tables.homes.items tables.lows.items low told (get_or tables.starts.items wire 0) (get_or mid wire []) in
    let taken = taken-next tables.homes.items tables.starts.items tables.lows.items low told items list i old mid new e lt kept.taken there c.take_wire.ensures.row in
    let takers = rows_in c.args.links.now.takers.items in
    let present = rows_in c.args.links.now.present.items in
    elim c.if-take_wire.branch [
      | then-take_wire w ↦
          let memo2 = w.forget_wire.new.memo in
          let after = w.forget_wire.new.waiting.items in
          let nodes : w.deref.result.now ≡ get_or present wire [] =
          w.deref.ensures.value ∙ row-of c.args.links.now.present.items wire w.index-then-take_wire.result.now (omega (arith, below, fits.present_each)) w.index-then-take_wire.ensures in
          let gone = subst (λ (l : List ℕ). All (λ k. is_fresh memo2.fresh.items k ≡ false) l) nodes w.forget_wire.ensures.gone in
          let own : AreForgotten takers c.loop-wire.memo memo2 c.loop-wire.waiting.items after =
          subst (λ (l : List (Vec ℕ Global)). AreForgotten (rows_in l) c.loop-wire.memo memo2 c.loop-wire.waiting.items after) w.deref-then-take_wire.ensures.value w.forget_wire.ensures.forgotten in
          let all = forgotten-both takers c.args.memo.now c.loop-wire.memo memo2 c.args.waiting.now.items c.loop-wire.waiting.items after kept.forgotten own in
          let differ = changed-more tables.homes.items tables.starts.items tables.lows.items low told (take i list) old mid new kept.taken wire there c.take_wire.ensures.row (c.take_wire.ensures.changed w.if-take_wire.true) in
          record {
            taken = taken;
            memo = subst (λ (m : Memo). IsMemo c.args.arena.now m) (sym w.memo-is) w.forget_wire.ensures.memo;
            same = λ f. absurd (false≢true (sym f ∙ w.changed-is));
            still = λ f. absurd (false≢true (sym f ∙ w.changed-is));
            changed = λ t same. differ (ap (λ (rows : List Vector). get_or rows wire []) same);
            unread = subst (λ (m : Memo). AreUnread present old new m) (sym w.memo-is)
                (unread-more present old mid new wire row c.loop-wire.memo memo2 kept.unread c.take_wire.ensures.row w.forget_wire.ensures.forgotten.fewer gone);
            forgotten = subst (λ (m : Memo). AreForgotten takers c.args.memo.now m c.args.waiting.now.items c.if-take_wire.waiting.items) (sym w.memo-is)
                (subst (λ (l : List ℕ). AreForgotten takers c.args.memo.now memo2 c.args.waiting.now.items l) (sym (ap (λ (o : Order). o.items) w.waiting-is)) all);
            room = ap (λ (o : Order). o.room) w.waiting-is ∙ w.forget_wire.ensures.room ∙ kept.room;
          }
      | else-take_wire w ↦
          let stays : new ≡ mid = c.take_wire.ensures.same w.if-take_wire.false in
          record {
            taken = taken;
            memo = subst (λ (m : Memo). IsMemo c.args.arena.now m) (sym w.memo-is) kept.memo;
            same = λ f. stays ∙ kept.same (sym w.changed-is ∙ f);
            still = λ f. w.waiting-is ∙ kept.still (sym w.changed-is ∙ f);
            changed = λ t same. kept.changed (sym w.changed-is ∙ t) (sym stays ∙ same);
            unread = subst (λ (m : Memo). AreUnread present old new m) (sym w.memo-is) (subst (λ (rows : List Vector). AreUnread present old rows c.loop-wire.memo) (sym stays) kept.unread);
            forgotten = subst (λ (m : Memo). AreForgotten takers c.args.memo.now m c.args.waiting.now.items c.if-take_wire.waiting.items) (sym w.memo-is)
                (subst (λ (l : List ℕ). AreForgotten takers c.args.memo.now c.loop-wire.memo c.args.waiting.now.items l) (sym (ap (λ (o : Order). o.items) w.waiting-is)) kept.forgotten);
            room = ap (λ (o : Order). o.room) w.waiting-is ∙ kept.room;
          }
    ]

pub returns-clause-rows : goal.returns-clause-rows
returns-clause-rows c =
    let fits = c.requires.fits in
    let tables = c.args.tables.now in
    let low = c.args.low in
    let wires = c.args.links.now.wires.items in
    let list = get_or (rows_in wires) low [] in
    let items = c.deref-wire-items.result.now in
    let e : items ≡ list = c.deref-wire-items.ensures.value ∙ row-of wires low c.index.result.now fits.has_list c.index.ensures in
    let end : length list ≤ c.loop-wire.wire-index = omega (arith, ap (λ (l : List ℕ). length l) e) in
    taken-all tables.homes.items tables.starts.items tables.lows.items low c.args.told.now (rows_in wires) c.args.present.now c.loop-wire.present fits.lie
    (subst (λ (l : List ℕ). WiresTaken tables.homes.items tables.starts.items tables.lows.items low c.args.told.now l c.args.present.now c.loop-wire.present)
    (take_all c.loop-wire.wire-index list end) c.loop-wire.invariant.taken)
