use Rattle.std.proofs.Common.{ap, ◌∙◌, Bool, length}
use Rattle.aig.proofs.Values.{always_from}
use Rattle.aig_words.specs.Words.{number, moved_down_by}
use Rattle.aig_words.proofs.Grown.{if_ok}
use Rattle.aig_words.proofs.Numbers.{sign_is}
use Rattle.aig_words.proofs.shifts.sar.Goals as goal

pub returns-clause-value : goal.returns-clause-value
returns-clause-value c = if_ok _ _ _ c.shift.ensures.value (λ r h. always_from _ _ h.graph (λ v o. h.obeyed v o ∙
    ap (λ (f : Bool). moved_down_by f (length c.args.a.now) (number v c.args.a.now) (number v c.args.b.now)) (sign_is v c.args.a.now c.requires.some)))
