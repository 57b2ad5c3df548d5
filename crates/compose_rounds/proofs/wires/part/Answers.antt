use Rattle.std.proofs.Common.{ap, ◌∙◌, arith}
use Rattle.std.proofs.lemmas.List.{get_or_read}
use Rattle.svex_shape.specs.declared.shape.Shape.TheVariants.{Const}
use Rattle.svex_arena.proofs.Keeping.{if_ok}
use Rattle.compose_rounds.proofs.Making.{slice_over, slice_made, free_made}
use Rattle.compose_rounds.proofs.wires.part.Goals as goal

pub make-requires : goal.make-requires
make-requires c =
    slice_over c.args.arena.now c.args.nodes.now c.args.piece c.index-nodes-piece.result c.requires.arena c.requires.piece c.requires.nodes c.requires.has c.if-piece-nodes.true
    (get_or_read c.args.nodes.now c.args.piece.wire c.index-nodes-piece.result c.if-piece-nodes.true c.index-nodes-piece.is 0)

pub returns-then-piece-nodes-clause-made : goal.returns-then-piece-nodes-clause-made
returns-then-piece-nodes-clause-made c =
    if_ok _ _ _ c.make.ensures.makes
    (λ n h. slice_made c.args.arena.now c.make.new.arena c.args.nodes.now c.args.piece c.index-nodes-piece.result n c.requires.arena c.requires.nodes c.requires.has c.if-piece-nodes.true
    (get_or_read c.args.nodes.now c.args.piece.wire c.index-nodes-piece.result c.if-piece-nodes.true c.index-nodes-piece.is 0) h)

pub returns-else-piece-nodes-clause-made : goal.returns-else-piece-nodes-clause-made
returns-else-piece-nodes-clause-made c =
    if_ok _ _ _ c.intern.ensures.is
    (λ n h. free_made c.args.arena.now c.intern.new.self c.args.nodes.now c.args.piece n c.intern.ensures.arena (omega (arith, c.if-piece-nodes.false)) h.0 (h.1 ∙ ap Const c.unknown.ensures))
