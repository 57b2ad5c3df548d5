use Rattle.std.proofs.Common.{refl, sym, subst}
use Rattle.std.specs.List.{Contains}
use Rattle.std.proofs.lemmas.Result.{err_from_is_err_and}
use Rattle.sv_meaning.specs.Meanings.{to_index, step_faults}
use Rattle.sv_names.specs.Cursors.{cursor_is}
use Rattle.sv_typing.proofs.Judged.{typed_ok, typed_err, cause_from}
use Rattle.sv_typing.proofs.Steps.{index_picks, index_cause, no_row_index}
use Rattle.sv_typing.proofs.picks.index_pick.Goals as goal

pub returns : goal.returns
returns c = λ j m h. (
  index_picks j m (cursor_is c.args.at) _ c.in-Some.row c.args.place c.in_ok-index.index c.width-width.result c.in_ok-spot.spot c.in_ok-index.index.constant c.in-Some.ensures.is c.in-Some.ensures.sound
      (typed_ok m (j m) c.args.index c.in_ok-index.index c.in_ok-index.was h) c.width-width.ensures.is c.in_ok-spot.ensures refl,
  c.in-Some.ensures.sound.each,
)

pub returns-in_err-index : goal.returns-in_err-index
returns-in_err-index c = λ j m h.
    let p = err_from_is_err_and c.from_residual.result c.from_residual.ensures.1 in
    rw (p.1, p.2)
    (cause_from (j m) (step_faults j (cursor_is c.args.at) (to_index c.args.place m)) (index_cause j (cursor_is c.args.at) c.args.place m)
    c.in_err-index.field-0.0 (typed_err m (j m) c.args.index c.in_err-index.field-0.0 c.in_err-index.was h))

pub returns-in_default : goal.returns-in_default
returns-in_default c = λ j m h.
    subst (Contains (step_faults j (cursor_is c.args.at) (to_index c.args.place m))) (sym c.refusal.ensures) (no_row_index j (cursor_is c.args.at) c.args.place m c.in_default.ensures.is)
