use Rattle.std.proofs.Common.{◌≡◌, List, Vec, Global, sym, ◌∙◌, subst, arith}
use Rattle.std.proofs.lemmas.List.{length-map}
use Rattle.std.specs.Prelude.{All}
use Rattle.std.specs.List.{Contains}
use Rattle.svex_arena.proofs.Keeping.{if_ok}
use Rattle.driver_resolve.specs.Drivers.{widths_of}
use Rattle.event_nets.specs.declared.gift.Gift.{Gift}
use Rattle.event_nets.specs.Needs.{gift_rows}
use Rattle.event_nets.proofs.Gathering.{gift_row}
use Rattle.net_resolve.specs.Pieces.{IsMade, IsWithin, HasInRun, row_at, row_value, run_value}
use Rattle.net_resolve.proofs.Piecing.{piece-within, piece_made}
use Rattle.net_resolve.proofs.pieces.piece_node.Goals as goal

pub row_node-requires-clause-within : goal.row_node-requires-clause-within
row_node-requires-clause-within c =
    let widths = widths_of c.args.wires.now in
    let base = c.args.arena.now in
    let rows = gift_rows c.args.rows.now in
    let is : c.as_slice.result.now ≡ row_at rows c.args.low = c.as_slice.ensures.value ∙ gift_row c.args.rows.now c.args.low c.index-rows-low.result (omega (arith, c.requires.run.some, c.requires.run.inside, length-map c.args.rows.now (λ (w : Vec Gift Global). w.items))) c.index-rows-low.is in
    subst (λ (row : List Gift). All (IsWithin widths base c.args.width) row) (sym is) (piece-within widths base rows c.args.low c.args.width c.requires.run c.requires.moved)

pub returns-clause-made : goal.returns-clause-made
returns-clause-made c =
    let widths = widths_of c.args.wires.now in
    let base = c.args.arena.now in
    let new = c.row_node.new.arena in
    let rows = gift_rows c.args.rows.now in
    let low = c.args.low in
    let width = c.args.width in
    let is : c.as_slice.result.now ≡ row_at rows low = c.as_slice.ensures.value ∙ gift_row c.args.rows.now low c.index-rows-low.result (omega (arith, c.requires.run.some, c.requires.run.inside, length-map c.args.rows.now (λ (w : Vec Gift Global). w.items))) c.index-rows-low.is in
    if_ok _ (λ n. IsMade widths base (Contains c.as_slice.result.now) width (row_value widths base c.as_slice.result.now width) new n)
    (λ n. IsMade widths base (HasInRun rows low width) width (run_value widths base rows low width) new n) c.row_node.ensures.made
    (λ n m. piece_made widths base new rows low width n c.requires.run c.requires.moved
    (subst (λ (row : List Gift). IsMade widths base (Contains row) width (row_value widths base row width) new n) is m))
