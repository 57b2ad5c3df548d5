use Rattle.std.proofs.Common.{◌≡◌, ℕ, suc, ◌+◌, Bool, List, [], ◌∷◌, ◌++◌, Option, refl, sym, ap, ◌∙◌, subst, arith}
use Rattle.std.specs.Prelude.{slice_index}
use Rattle.std.proofs.lemmas.List.{get_or_default}
use Rattle.fourvec.specs.declared.Bit.{Bit}
use Rattle.event_nets.specs.Tables.{store_of}
use Rattle.driver_resolve.specs.Drivers.{widths_of}
use Rattle.phase_fsm.specs.declared.machine.Fsm.{Fsm}
use Rattle.phase_fsm.specs.Machines.{row_of}
use Rattle.svtv_unroll.specs.Rows.{AllTell, AreRows, IsRow, ReadsNeeded, Tells, marks_in, store_in}
use Rattle.svtv_unroll.proofs.Rows.{row_kept, shown_kept}
use Rattle.svtv_unroll.proofs.Growing.{grown_on, machine_grown}
use Rattle.svtv_unroll.proofs.Telling.{start_tells}
use Rattle.svtv_unroll.specs.Unrolled.{Start}
use Rattle.svtv_unroll.proofs.Running.{nodes_below, told_first, rows_none, rows_more, tell_more}
use Rattle.svtv_unroll.proofs.unrolled.all_rows.Goals as goal

pub phases-init : goal.phases-init
phases-init c =
    let fsm : Fsm = c.args.fsm.now in
    let bound = c.args.bound.now in
    let start : Start = record { shapes = fsm.flat.arena; row = c.args.start.now } in
    let new = c.unknowns.new.arena in
    let e = c.in_ok-blank.ensures in
    let copied : c.in_ok-previous.previous.items ≡ c.args.start.now = c.in_ok-previous.ensures in
    let blank : IsRow bound.vars new (widths_of fsm.flat.wires) c.in_ok-blank.blank.items = subst (λ ws. IsRow bound.vars new (widths_of ws) c.in_ok-blank.blank.items) c.as_slice.ensures (e.row bound.vars) in
    record {
      grown = record { wires = refl; sets = refl; nodes = refl; flat = refl; extends = e.extends };
      blank = blank;
      unknown = e.unknown bound.vars;
      previous = subst (IsRow bound.vars new (widths_of fsm.flat.wires)) (sym copied) (row_kept bound.vars fsm.flat.arena new (widths_of fsm.flat.wires) c.args.start.now e.extends c.requires.start);
      rows = subst (λ (rows : List (List (Option ℕ))). AreRows fsm bound new rows 0) (sym c.new-rows.ensures) (rows_none fsm bound new);
      tells = λ phase l. absurd (omega (arith, l));
      told = told_first fsm bound start new c.args.sets.now c.args.needs.now c.in_ok-previous.previous.items c.len-len.ensures.arena c.requires.machine c.requires.sets c.requires.marks
          (λ needed. subst (λ (row : List (Option ℕ)). Tells fsm bound start new needed row 0) (sym copied) (start_tells fsm bound start new needed e.extends c.requires.start));
    }

pub next_row-requires-clause-machine : goal.next_row-requires-clause-machine
next_row-requires-clause-machine c = machine_grown c.args.fsm.now c.phases.fsm c.phases.invariant.grown c.requires.machine

pub next_row-requires-clause-unknown : goal.next_row-requires-clause-unknown
next_row-requires-clause-unknown c = λ choice known n k.
    ap (λ (row : List (Option ℕ)). store_in choice c.phases.fsm.flat.arena row n k) c.deref.ensures.value ∙ c.phases.invariant.unknown choice known n k

pub phases-preserved : goal.phases-preserved
phases-preserved c =
    let fsm : Fsm = c.args.fsm.now in
    let start : Start = record { shapes = fsm.flat.arena; row = c.args.start.now } in
    let bound = c.args.bound.now in
    let i = c.phases.invariant in
    let phase = c.phases.phase in
    let old = c.phases.fsm.flat.arena in
    let new = c.next_row.new.fsm.flat.arena in
    let e = c.in_ok-row.ensures in
    let on = e.grown.extends in
    let widths : List ℕ = widths_of fsm.flat.wires in
    let row : List (Option ℕ) = c.in_ok-row.row.items in
    let inside = c.phases-test.true in
    let own : IsRow bound.vars new widths row = subst (λ ws. IsRow bound.vars new (widths_of ws) row) i.grown.wires e.row in
    let pushed : c.push.new.self ≡ c.phases.rows ++ row ∷ [] =
    c.in_ok-push.ensures.ok ∙ ap (λ (r : List (Option ℕ)). c.phases.rows ++ r ∷ []) (c.from_vec.ensures ∙ c.in_ok-copy.ensures ∙ c.deref-in-phases-2.ensures.value) in
    let next : suc phase ≡ phase + 1 = omega arith in
    let needed : c.as_slice-in-phases.result.now ≡ marks_in c.args.needs.now phase =
    c.as_slice-in-phases.ensures ∙ c.index-needs-phase.is ∙ get_or_default c.args.needs.now phase c.index-needs-phase.result [] (omega (arith, inside, c.requires.marks.as_many)) in
    let there = c.requires.sets.there phase inside in
    let tells : Tells fsm bound start new (marks_in c.args.needs.now phase) row (suc phase) = subst (λ (m : List Bool). Tells fsm bound start new m row (suc phase)) needed
    (e.tells fsm start i.told.before i.grown (nodes_below fsm (slice_index c.args.sets.now phase) c.requires.machine (omega (arith, there, c.requires.machine.as_many))) (c.requires.sets.wires phase inside) i.told.size
    (subst (λ (m : List Bool). ReadsNeeded fsm.flat.arena (row_of fsm.nodes (slice_index c.args.sets.now phase)) m i.told.before) (sym needed) (i.told.reads inside))
    (subst (λ (r : List (Option ℕ)). Tells fsm bound start old i.told.before r phase) (sym c.deref-in-phases.ensures.value) i.told.tells)) in
    record {
      grown = grown_on fsm c.phases.fsm c.next_row.new.fsm i.grown e.grown;
      blank = row_kept bound.vars old new widths c.in_ok-blank.blank.items on i.blank;
      unknown = λ choice known n k. ap (λ (z : List (List Bit)). store_of z n k) (shown_kept bound.vars old new widths c.in_ok-blank.blank.items choice on i.blank) ∙ i.unknown choice known n k;
      previous = own;
      rows = subst (λ (rows : List (List (Option ℕ))). AreRows fsm bound new rows (phase + 1)) (sym pushed) (rows_more fsm bound old new c.phases.rows row phase on i.rows own);
      tells = subst (λ (rows : List (List (Option ℕ))). AllTell fsm bound start new c.args.needs.now rows (phase + 1)) (sym pushed) (tell_more fsm bound start old new c.args.needs.now c.phases.rows row phase on i.rows i.tells tells);
      told = record {
        before = marks_in c.args.needs.now phase;
        size = c.requires.marks.size phase inside;
        tells = subst (λ k. Tells fsm bound start new (marks_in c.args.needs.now phase) row k) next tells;
        reads = λ l. subst (λ k. ReadsNeeded fsm.flat.arena (row_of fsm.nodes (slice_index c.args.sets.now k)) (marks_in c.args.needs.now k) (marks_in c.args.needs.now phase)) next (c.requires.reads phase (omega arith) (omega (arith, l)));
      };
    }

pub returns-clause-tell : goal.returns-clause-tell
returns-clause-tell c = λ phase l. c.phases.invariant.tells phase (let t = c.phases-test.false in omega (arith, l, t))
