use Rattle.std.proofs.lemmas.Result.{IfOk-from_err}
use Rattle.std.proofs.Common.{refl}
use Rattle.svex_arena.proofs.Keeping.{extends_on}
use Rattle.sv_blocks.proofs.Siding.{side_room, mixed_room, mixes_more}
use Rattle.sv_blocks.proofs.shown.mixed.Goals as goal

pub side-requires-in-runs-clause-stored_width : goal.side-requires-in-runs-clause-stored_width
side-requires-in-runs-clause-stored_width c = side_room _ _ _ _ _ _ c.runs.invariant.stays c.requires.stored c.requires.stored_width c.run_end-end.ensures.above c.run_end-end.ensures.within

pub side-requires-in-runs-clause-now_width : goal.side-requires-in-runs-clause-now_width
side-requires-in-runs-clause-now_width c = side_room _ _ _ _ _ _ c.runs.invariant.stays c.requires.now c.requires.now_width c.run_end-end.ensures.above c.run_end-end.ensures.within

pub beside-requires-clause-most : goal.beside-requires-clause-most
beside-requires-clause-most c =
    mixed_room _ _ _ _ _ _ _ c.in_ok-part.ensures.stays c.runs.invariant.made.within c.in_ok-part.ensures.ok.width c.runs.invariant.made.width c.run_end-end.ensures.above c.run_end-end.ensures.within c.requires.most

pub runs-preserved : goal.runs-preserved
runs-preserved c =
    let i = c.runs.invariant in
    record {
      stays = extends_on _ _ _ (extends_on _ _ _ i.stays c.in_ok-part.ensures.stays) c.in_ok-whole-2.ensures.stays;
      within = c.run_end-end.ensures.within;
      made = mixes_more _ _ _ _ _ _ _ _ _ _ _ _ _ _ c.len.ensures.arena c.requires.stored c.requires.now c.run_end-end.ensures.above i.stays c.in_ok-part.ensures.stays c.run_end-end.ensures.same i.made c.in_ok-part.ensures.ok c.in_ok-whole-2.ensures.ok refl;
    }

pub returns-in_err-whole-clause-stays : goal.returns-in_err-whole-clause-stays
returns-in_err-whole-clause-stays c = c.in_err-whole.ensures.stays

pub returns-in_err-whole-clause-ok : goal.returns-in_err-whole-clause-ok
returns-in_err-whole-clause-ok c = IfOk-from_err _ _ c.from_residual.ensures.0

pub returns-in_err-part-clause-stays : goal.returns-in_err-part-clause-stays
returns-in_err-part-clause-stays c = extends_on _ _ _ c.runs.invariant.stays c.in_err-part.ensures.stays

pub returns-in_err-part-clause-ok : goal.returns-in_err-part-clause-ok
returns-in_err-part-clause-ok c = IfOk-from_err _ _ c.from_residual-in_err-part.ensures.0

pub returns-in_err-whole-2-clause-stays : goal.returns-in_err-whole-2-clause-stays
returns-in_err-whole-2-clause-stays c = extends_on _ _ _ (extends_on _ _ _ c.runs.invariant.stays c.in_ok-part.ensures.stays) c.in_err-whole-2.ensures.stays

pub returns-in_err-whole-2-clause-ok : goal.returns-in_err-whole-2-clause-ok
returns-in_err-whole-2-clause-ok c = IfOk-from_err _ _ c.from_residual-in_err-whole-2.ensures.0

pub returns-clause-stays : goal.returns-clause-stays
returns-clause-stays c = c.runs.invariant.stays
