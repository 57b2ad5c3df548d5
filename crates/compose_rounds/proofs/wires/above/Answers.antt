use Rattle.svex_arena.proofs.Keeping.{if_ok}
use Rattle.compose_rounds.proofs.Making.{concat_over, above_joined}
use Rattle.compose_rounds.proofs.wires.above.Goals as goal

pub make-requires : goal.make-requires
make-requires c = concat_over c.args.arena.now c.args.high c.args.low c.requires.arena c.requires.high c.requires.low c.requires.fits

pub returns-clause-joined : goal.returns-clause-joined
returns-clause-joined c = if_ok _ _ _ c.make.ensures.makes (λ n h. above_joined c.args.arena.now c.make.new.arena c.args.high c.args.low n h)
