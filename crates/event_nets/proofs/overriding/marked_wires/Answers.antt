use Rattle.std.proofs.lemmas.Result.{IfOk-from_err}
use Rattle.std.proofs.Common.{List, Bool, length, sym, ap, ◌∙◌, arith}
use Rattle.event_nets.proofs.Backs.{slice_back}
use Rattle.event_nets.proofs.overriding.marked_wires.Goals as goal

pub returns-in_err-marks-clause-len : goal.returns-in_err-marks-clause-len
returns-in_err-marks-clause-len c = IfOk-from_err _ _ c.from_residual.ensures.0

pub returns-in_err-marks-clause-marks : goal.returns-in_err-marks-clause-marks
returns-in_err-marks-clause-marks c = IfOk-from_err _ _ c.from_residual.ensures.0

pub returns-clause-marks : goal.returns-clause-marks
returns-clause-marks c = λ wire lt.
    let long = ap (λ (l : List Bool). length l) c.deref_mut.ensures.value ∙ sym c.in_ok-marks.marks.ok.0 ∙ c.in_ok-marks.ensures.len in
    rw (slice_back c.in_ok-marks.marks.len c.mark_wires.new.marks c.in_ok-marks.marks.items c.deref_mut.result.now c.in_ok-marks.marks.ok.0 c.mark_wires.auto.marks c.deref_mut.ensures.value)
    (c.mark_wires.ensures wire (omega (arith, lt, long)))

pub returns-clause-len : goal.returns-clause-len
returns-clause-len c =
    ap (λ (l : List Bool). length l) (slice_back c.in_ok-marks.marks.len c.mark_wires.new.marks c.in_ok-marks.marks.items c.deref_mut.result.now c.in_ok-marks.marks.ok.0 c.mark_wires.auto.marks c.deref_mut.ensures.value)
    ∙ c.mark_wires.auto.marks ∙ ap (λ (l : List Bool). length l) c.deref_mut.ensures.value ∙ sym c.in_ok-marks.marks.ok.0 ∙ c.in_ok-marks.ensures.len
