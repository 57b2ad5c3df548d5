use Rattle.std.proofs.Common.{Bool, false, sym, ap, ◌∙◌, arith}
use Rattle.std.specs.Prelude.{◌+ℤ◌}
use Rattle.fourvec.specs.Spots.{reached}
use Rattle.pair_words.specs.Starts.{is_there}
use Rattle.pair_words.proofs.Starting.{up_back, up_some, up_none}
use Rattle.pair_words.proofs.indexes.distance_up.Goals as goal

pub returns-then-start : goal.returns-then-start
returns-then-start c = λ p. up_back p c.args.start.far c.args.t ∙ ap (λ (b : Bool). is_there (reached false p +ℤ reached b c.args.start.far) c.args.t) (sym c.if-start.true)

pub returns-then-start-t : goal.returns-then-start-t
returns-then-start-t c = λ p. up_some p c.args.start.far c.args.t c.if-start-t.true ∙ ap (λ (b : Bool). is_there (reached false p +ℤ reached b c.args.start.far) c.args.t) (sym c.if-start.false)

pub returns-else-start-t : goal.returns-else-start-t
returns-else-start-t c = λ p. up_none p c.args.start.far c.args.t (omega (arith, c.if-start-t.false)) ∙ ap (λ (b : Bool). is_there (reached false p +ℤ reached b c.args.start.far) c.args.t) (sym c.if-start.false)
