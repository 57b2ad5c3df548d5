use Rattle.std.proofs.lemmas.Result.{IfOk-from_err}
use Rattle.std.proofs.Common.{◌≡◌, ℕ, List, map}
use Rattle.std.specs.Prelude.{All, ◌↔◌}
use Rattle.lhs_alias.specs.Joined.{Kept, Stands}
use Rattle.settling.specs.Settling.{Store}
use Rattle.svex_arena.proofs.Keeping.{if_ok}
use Rattle.driver_resolve.specs.declared.driver.NetEq.{NetEq}
use Rattle.lhs_alias.specs.Segs.{seg_bits}
use Rattle.svex_shape.specs.Values.{value_at}
use Rattle.driver_resolve.specs.Drivers.{Phase, reading, widths_of}
use Rattle.flat_net.specs.Flats.{links_of, Settles, IsLeastSettling}
use Rattle.event_nets.specs.Nets.{nets_of}
use Rattle.event_nets.specs.Tables.{AreTables}
use Rattle.net_equations.specs.Equations.{phase_of, Solves, IsLeastSolution, IsResolved}
use Rattle.net_equations.specs.Groups.{Mentions}
use Rattle.net_resolve.specs.Resolving.{lowest_bit, IsNet, IsFree, resolution_at, IsReadFor}
use Rattle.net_resolve.specs.Laid.{IsLaid}
use Rattle.net_resolve.proofs.Solving.{equations-are}
use Rattle.net_resolve.proofs.Whole.{all-free, all-nets, all-valued, all-mention, all-named, settles-exactly, least-exactly, resolved-exactly}
use Rattle.net_resolve.proofs.Growing.{flat_stays}
use Rattle.net_resolve.proofs.design.resolve.Goals as goal

pub returns-clause-flat : goal.returns-clause-flat
returns-clause-flat c = flat_stays c.args.flat.now c.laid.new.flat c.laid.ensures.kept c.requires

pub returns-clause-resolved : goal.returns-clause-resolved
returns-clause-resolved c =
    let flat = c.args.flat.now in
    let over = c.args.over.now in
    let new = c.laid.new.flat.arena in
    if_ok _ (λ set. (o : List ℕ) → AreTables flat o c.in_ok-tables.tables → IsLaid flat o new set)
    (λ set. (kept : Kept) → Stands kept (links_of flat.joins) → kept.widths ≡ widths_of flat.wires → IsResolved kept new set) c.laid.ensures.laid
    (λ set h. let l = h over c.in_ok-tables.ensures in resolved-exactly flat c.len.ensures.arena c.requires over new set l.eqs l.free)

pub returns-clause-nets : goal.returns-clause-nets
returns-clause-nets c =
    let flat = c.args.flat.now in
    let over = c.args.over.now in
    let new = c.laid.new.flat.arena in
    if_ok _ (λ set. (o : List ℕ) → AreTables flat o c.in_ok-tables.tables → IsLaid flat o new set)
    (λ set. map (λ (e : NetEq). lowest_bit e.seg) set.eqs ≡ nets_of flat over) c.laid.ensures.laid
    (λ set h. let l = h over c.in_ok-tables.ensures in all-named flat over new set.eqs l.eqs)

pub returns-clause-whole : goal.returns-clause-whole
returns-clause-whole c =
    let flat = c.args.flat.now in
    let over = c.args.over.now in
    let new = c.laid.new.flat.arena in
    if_ok _ (λ set. (o : List ℕ) → AreTables flat o c.in_ok-tables.tables → IsLaid flat o new set)
    (λ set. All (λ (e : NetEq). IsNet flat over e.seg) set.eqs) c.laid.ensures.laid
    (λ set h. let l = h over c.in_ok-tables.ensures in all-nets flat over new set.eqs (equations-are flat c.len.ensures.arena c.requires over new set.eqs l.eqs))

pub returns-clause-free : goal.returns-clause-free
returns-clause-free c =
    let flat = c.args.flat.now in
    let over = c.args.over.now in
    let new = c.laid.new.flat.arena in
    if_ok _ (λ set. (o : List ℕ) → AreTables flat o c.in_ok-tables.tables → IsLaid flat o new set)
    (λ set. All (IsFree flat over) set.free) c.laid.ensures.laid
    (λ set h. let l = h over c.in_ok-tables.ensures in all-free flat c.requires over set.free l.free)

pub returns-clause-settles : goal.returns-clause-settles
returns-clause-settles c =
    let flat = c.args.flat.now in
    let over = c.args.over.now in
    let new = c.laid.new.flat.arena in
    if_ok _ (λ set. (o : List ℕ) → AreTables flat o c.in_ok-tables.tables → IsLaid flat o new set)
    (λ set. (stim prev now : Store) → Settles flat over stim prev now ↔ Solves (links_of flat.joins) new set.eqs (phase_of stim prev now)) c.laid.ensures.laid
    (λ set h. let l = h over c.in_ok-tables.ensures in settles-exactly flat c.len.ensures.arena c.requires over new set.eqs l.eqs)

pub returns-clause-least : goal.returns-clause-least
returns-clause-least c =
    let flat = c.args.flat.now in
    let over = c.args.over.now in
    let new = c.laid.new.flat.arena in
    if_ok _ (λ set. (o : List ℕ) → AreTables flat o c.in_ok-tables.tables → IsLaid flat o new set)
    (λ set. (stim prev now : Store) → IsLeastSettling flat over stim prev now ↔ IsLeastSolution (links_of flat.joins) new set.eqs stim prev now) c.laid.ensures.laid
    (λ set h. let l = h over c.in_ok-tables.ensures in least-exactly flat c.len.ensures.arena c.requires over new set.eqs l.eqs)

pub returns-clause-values : goal.returns-clause-values
returns-clause-values c =
    let flat = c.args.flat.now in
    let over = c.args.over.now in
    let new = c.laid.new.flat.arena in
    if_ok _ (λ set. (o : List ℕ) → AreTables flat o c.in_ok-tables.tables → IsLaid flat o new set)
    (λ set. All (λ (e : NetEq). (p : Phase) → value_at (reading p) new e.value ≡ map (resolution_at flat over p) (seg_bits e.seg)) set.eqs) c.laid.ensures.laid
    (λ set h. let l = h over c.in_ok-tables.ensures in all-valued flat over new set.eqs (equations-are flat c.len.ensures.arena c.requires over new set.eqs l.eqs))

pub returns-clause-mentions : goal.returns-clause-mentions
returns-clause-mentions c =
    let flat = c.args.flat.now in
    let over = c.args.over.now in
    let new = c.laid.new.flat.arena in
    if_ok _ (λ set. (o : List ℕ) → AreTables flat o c.in_ok-tables.tables → IsLaid flat o new set)
    (λ set. All (λ (e : NetEq). (wire : ℕ) → Mentions new e.value wire ↔ IsReadFor flat over e.seg wire) set.eqs) c.laid.ensures.laid
    (λ set h. let l = h over c.in_ok-tables.ensures in all-mention flat over new set.eqs (equations-are flat c.len.ensures.arena c.requires over new set.eqs l.eqs))

pub returns-in_err-tables-clause-free : goal.returns-in_err-tables-clause-free
returns-in_err-tables-clause-free c = IfOk-from_err _ _ c.from_residual-in_err-tables.ensures.0

pub returns-in_err-tables-clause-mentions : goal.returns-in_err-tables-clause-mentions
returns-in_err-tables-clause-mentions c = IfOk-from_err _ _ c.from_residual-in_err-tables.ensures.0

pub returns-in_err-tables-clause-nets : goal.returns-in_err-tables-clause-nets
returns-in_err-tables-clause-nets c = IfOk-from_err _ _ c.from_residual-in_err-tables.ensures.0

pub returns-in_err-tables-clause-resolved : goal.returns-in_err-tables-clause-resolved
returns-in_err-tables-clause-resolved c = IfOk-from_err _ _ c.from_residual-in_err-tables.ensures.0

pub returns-in_err-tables-clause-settles : goal.returns-in_err-tables-clause-settles
returns-in_err-tables-clause-settles c = IfOk-from_err _ _ c.from_residual-in_err-tables.ensures.0

pub returns-in_err-tables-clause-whole : goal.returns-in_err-tables-clause-whole
returns-in_err-tables-clause-whole c = IfOk-from_err _ _ c.from_residual-in_err-tables.ensures.0

pub returns-in_err-widths-clause-free : goal.returns-in_err-widths-clause-free
returns-in_err-widths-clause-free c = IfOk-from_err _ _ c.from_residual.ensures.0

pub returns-in_err-widths-clause-mentions : goal.returns-in_err-widths-clause-mentions
returns-in_err-widths-clause-mentions c = IfOk-from_err _ _ c.from_residual.ensures.0

pub returns-in_err-widths-clause-nets : goal.returns-in_err-widths-clause-nets
returns-in_err-widths-clause-nets c = IfOk-from_err _ _ c.from_residual.ensures.0

pub returns-in_err-widths-clause-resolved : goal.returns-in_err-widths-clause-resolved
returns-in_err-widths-clause-resolved c = IfOk-from_err _ _ c.from_residual.ensures.0

pub returns-in_err-widths-clause-settles : goal.returns-in_err-widths-clause-settles
returns-in_err-widths-clause-settles c = IfOk-from_err _ _ c.from_residual.ensures.0

pub returns-in_err-widths-clause-whole : goal.returns-in_err-widths-clause-whole
returns-in_err-widths-clause-whole c = IfOk-from_err _ _ c.from_residual.ensures.0

pub returns-in_err-tables-clause-values : goal.returns-in_err-tables-clause-values
returns-in_err-tables-clause-values c = IfOk-from_err _ _ c.from_residual-in_err-tables.ensures.0

pub returns-in_err-widths-clause-values : goal.returns-in_err-widths-clause-values
returns-in_err-widths-clause-values c = IfOk-from_err _ _ c.from_residual.ensures.0

pub returns-in_err-tables-clause-least : goal.returns-in_err-tables-clause-least
returns-in_err-tables-clause-least c = IfOk-from_err _ _ c.from_residual-in_err-tables.ensures.0

pub returns-in_err-widths-clause-least : goal.returns-in_err-widths-clause-least
returns-in_err-widths-clause-least c = IfOk-from_err _ _ c.from_residual.ensures.0
