use Rattle.std.proofs.lemmas.Result.{IfOk-from_err}
use Rattle.std.proofs.Common.{◌<◌, List, length, sym, ap, subst, ◌∙◌}
use Rattle.pair_words.specs.declared.pairs.Pair.{Pair}
use Rattle.svex_blast.specs.Chosen.{planes_of}
use Rattle.svex_blast.proofs.Choosing.{all_more}
use Rattle.svex_blast.proofs.planes.all_rails.Goals as goal

pub loop-i-preserved : goal.loop-i-preserved
loop-i-preserved c =
    rw c.in_ok-push.ensures.items (all_more c.args.done.now c.args.roots.now c.loop-i.all.items c.loop-i.i c.index-roots-i.result c.in_ok-rails.rails c.loop-i-test.true c.index-roots-i.is c.loop-i.invariant
    (c.in_ok-rails.ensures ∙ ap (λ (t : List Pair). planes_of t) c.vector_of.ensures))

pub vector_of-requires : goal.vector_of-requires
vector_of-requires c = subst (λ k. k < length c.args.done.now) (sym c.index-roots-i.is) (c.requires c.loop-i.i c.index-roots-i.result c.loop-i-test.true)

pub returns-in_err-push : goal.returns-in_err-push
returns-in_err-push c = IfOk-from_err _ _ c.from_residual-in_err-push.ensures.0

pub returns-in_err-rails : goal.returns-in_err-rails
returns-in_err-rails c = IfOk-from_err _ _ c.from_residual.ensures.0
