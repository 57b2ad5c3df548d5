use Rattle.std.proofs.Common.{sym, ◌∙◌, subst}
use Rattle.sv_blocks.specs.Overlays.{Covers}
use Rattle.sv_blocks.proofs.Overlaying.{covers_left, covers_right}
use Rattle.sv_blocks.proofs.choices.either.Goals as goal

pub choose_places-requires-clause-left : goal.choose_places-requires-clause-left
choose_places-requires-clause-left c = subst (λ xs. Covers xs c.args.a.now) (sym (c.as_slice.ensures ∙ c.in_ok-append.ensures.ok)) (covers_left _ _ _ c.in_ok-places.ensures)

pub choose_places-requires-clause-right : goal.choose_places-requires-clause-right
choose_places-requires-clause-right c = subst (λ xs. Covers xs c.args.b.now) (sym (c.as_slice.ensures ∙ c.in_ok-append.ensures.ok)) (covers_right _ _ _ c.in_ok-places-2.ensures)
