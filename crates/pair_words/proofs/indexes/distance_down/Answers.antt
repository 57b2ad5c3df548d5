use Rattle.std.proofs.Common.{Bool, true, sym, ap, ◌∙◌, arith}
use Rattle.std.specs.Prelude.{◌+ℤ◌}
use Rattle.fourvec.specs.Spots.{reached}
use Rattle.pair_words.specs.Starts.{is_there}
use Rattle.pair_words.proofs.Starting.{down_back, down_back_none, down_some, down_none}
use Rattle.pair_words.proofs.indexes.distance_down.Goals as goal

pub returns-then-t-start-eq0 : goal.returns-then-t-start-eq0
returns-then-t-start-eq0 c = λ p. down_back p c.args.start.far c.args.t c.if-t-start-eq0.true ∙ ap (λ (b : Bool). is_there (reached true p +ℤ reached b c.args.start.far) c.args.t) (sym c.if-start.true)

pub returns-else-t-start-eq0 : goal.returns-else-t-start-eq0
returns-else-t-start-eq0 c = λ p. down_back_none p c.args.start.far c.args.t c.if-t-start-eq0.false ∙ ap (λ (b : Bool). is_there (reached true p +ℤ reached b c.args.start.far) c.args.t) (sym c.if-start.true)

pub returns-then-t-start : goal.returns-then-t-start
returns-then-t-start c = λ p. down_some p c.args.start.far c.args.t c.if-t-start.true ∙ ap (λ (b : Bool). is_there (reached true p +ℤ reached b c.args.start.far) c.args.t) (sym c.if-start.false)

pub returns-else-t-start : goal.returns-else-t-start
returns-else-t-start c = λ p. down_none p c.args.start.far c.args.t (omega (arith, c.if-t-start.false)) ∙ ap (λ (b : Bool). is_there (reached true p +ℤ reached b c.args.start.far) c.args.t) (sym c.if-start.false)
