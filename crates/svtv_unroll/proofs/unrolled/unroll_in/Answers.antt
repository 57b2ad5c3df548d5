use Rattle.std.proofs.Common.{ℕ, List, Option, sym, ap, ◌∙◌, subst}
use Rattle.driver_resolve.specs.Drivers.{widths_of}
use Rattle.svtv_runs.specs.Runs.{asks_of}
use Rattle.svtv_runs.proofs.Runs.{least_at}
use Rattle.svtv_unroll.specs.Rows.{IsRow, store_in}
use Rattle.svtv_unroll.proofs.Growing.{grown_on, if_ok}
use Rattle.svtv_unroll.proofs.Running.{behaves_blank, behaves_least, design_grown, least_samples, outer_machine}
use Rattle.svtv_unroll.proofs.unrolled.unroll_in.Goals as goal

pub unknown_row-requires : goal.unknown_row-requires
unknown_row-requires c = (outer_machine c.args.fsm.now c.requires.design).wires

pub unroll_from-requires-clause-design : goal.unroll_from-requires-clause-design
unroll_from-requires-clause-design c = design_grown c.args.fsm.now c.unknown_row.new.fsm c.unknown_row.ensures.grown c.requires.design

pub unroll_from-requires-clause-start : goal.unroll_from-requires-clause-start
unroll_from-requires-clause-start c =
    subst (λ (row : List (Option ℕ)). IsRow c.args.bound.now.vars c.unknown_row.new.fsm.flat.arena (widths_of c.unknown_row.new.fsm.flat.wires) row) (sym c.deref.ensures.value) (c.in_ok-blank.ensures.row c.args.bound.now.vars)

pub returns-clause-settled : goal.returns-clause-settled
returns-clause-settled c = if_ok c.unroll_from.result _ _
    (λ nodes h choice states behaves.
    h choice states
    (behaves_blank c.args.fsm.now c.unknown_row.new.fsm c.args.bound.now c.deref.result.now choice states c.unknown_row.ensures.grown c.unknown_row.ensures.arena
    (subst (λ (row : List (Option ℕ)). IsRow c.args.bound.now.vars c.unknown_row.new.fsm.flat.arena (widths_of c.unknown_row.new.fsm.flat.wires) row) (sym c.deref.ensures.value) (c.in_ok-blank.ensures.row c.args.bound.now.vars))
    (λ other known n k. ap (λ (row : List (Option ℕ)). store_in other c.unknown_row.new.fsm.flat.arena row n k) c.deref.ensures.value ∙ c.in_ok-blank.ensures.unknown c.args.bound.now.vars other known n k) behaves)) c.unroll_from.ensures.settled

pub returns-clause-least : goal.returns-clause-least
returns-clause-least c = if_ok c.unroll_from.result _ _
    (λ nodes h design flat elaborated wires machine choice known r run.
    let bound = c.args.bound.now in
    least_samples c.args.fsm.now bound design choice r c.unroll_from.new.fsm.flat.arena nodes c.requires.bound run
    (h choice (least_at design (asks_of choice bound))
    (behaves_blank c.args.fsm.now c.unknown_row.new.fsm bound c.deref.result.now choice (least_at design (asks_of choice bound)) c.unknown_row.ensures.grown c.unknown_row.ensures.arena
    (subst (λ (row : List (Option ℕ)). IsRow bound.vars c.unknown_row.new.fsm.flat.arena (widths_of c.unknown_row.new.fsm.flat.wires) row) (sym c.deref.ensures.value) (c.in_ok-blank.ensures.row bound.vars))
    (λ other k n m. ap (λ (row : List (Option ℕ)). store_in other c.unknown_row.new.fsm.flat.arena row n m) c.deref.ensures.value ∙ c.in_ok-blank.ensures.unknown bound.vars other k n m)
    (behaves_least c.args.fsm.now bound design flat choice elaborated wires machine known)))) c.unroll_from.ensures.settled

pub returns-clause-grown : goal.returns-clause-grown
returns-clause-grown c = grown_on c.args.fsm.now c.unknown_row.new.fsm c.unroll_from.new.fsm c.unknown_row.ensures.grown c.unroll_from.ensures.grown
