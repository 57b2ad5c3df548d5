use Rattle.std.proofs.Common.{◌∙◌, List, Bool, false, length, sym, ap, subst}
use Rattle.std.proofs.lemmas.Result.{IfOk-from_err}
use Rattle.std.proofs.lemmas.List.{length-replicate}
use Rattle.svex_arena.specs.Marks.{IsClosed, HasRoots, OnlyReached}
use Rattle.svex_arena.proofs.Marking.{slice_back}
use Rattle.svex_arena.proofs.marks.marks_of.Goals as goal

pub returns-in_err-marks : goal.returns-in_err-marks
returns-in_err-marks c =
    let e = c.from_residual.ensures.0 in
    record {
      len = IfOk-from_err _ _ e;
      roots = IfOk-from_err _ _ e;
      closed = IfOk-from_err _ _ e;
      only = IfOk-from_err _ _ e;
    }

pub returns : goal.returns
returns c =
    let made = c.in_ok-marks.marks in
    let roots = c.args.roots.now in
    let shapes = c.args.shapes.now in
    let back = slice_back made.len c.mark_reached.new.marks made.items c.as_mut_slice.result.now made.ok.0 c.mark_reached.auto.marks c.as_mut_slice.ensures.value in
    record {
      len = ap length back ∙ c.mark_reached.auto.marks ∙ ap length (c.as_mut_slice.ensures.value ∙ c.in_ok-marks.ensures.items_if_clones_equal (λ y e. e)) ∙ length-replicate c.args.len false;
      roots = subst (λ (m : List Bool). HasRoots roots m (length roots)) (sym back) c.mark_reached.ensures.roots;
      closed = subst (λ (m : List Bool). IsClosed shapes m 0) (sym back) c.mark_reached.ensures.closed;
      only = subst (λ (m : List Bool). OnlyReached shapes roots m) (sym back) c.mark_reached.ensures.only;
    }
