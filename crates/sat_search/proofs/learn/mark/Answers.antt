use Rattle.std.proofs.Common.{◌≡◌, true, take, subst, false, List, ◌∙◌}
use Rattle.std.specs.List.{All}
use Rattle.std.proofs.lemmas.List.{take_all, get_or_default}
use Rattle.std.proofs.lemmas.List.Elements.{All-more, All-weaker}
use Rattle.cnf.specs.declared.Dim.{Dim}
use Rattle.sat_search.specs.Learn.{seen_at}
use Rattle.sat_search.proofs.learn.mark.Goals as goal

abbrev no_dim : Dim
no_dim = record { var = 0; negated = false }

pub loop-d-preserved : goal.loop-d-preserved
loop-d-preserved c = record {
  marked = All-more (λ d. seen_at c.mark_one.new.seen d.var ≡ true) c.args.clause.now c.loop-d.d-index no_dim c.loop-d-test.true
      (All-weaker (λ d. seen_at c.loop-d.seen d.var ≡ true) (λ d. seen_at c.mark_one.new.seen d.var ≡ true) (λ d h. c.mark_one.ensures.more d.var h) (take c.loop-d.d-index c.args.clause.now) c.loop-d.invariant.marked)
      (subst (λ (d : Dim). seen_at c.mark_one.new.seen d.var ≡ true) (c.dim.ensures.same ∙ c.d-item.is ∙ get_or_default c.args.clause.now c.loop-d.d-index c.d-item.result no_dim c.loop-d-test.true) c.mark_one.ensures.marked);
  more = λ v h. c.mark_one.ensures.more v (c.loop-d.invariant.more v h);
}

pub returns-clause-marked : goal.returns-clause-marked
returns-clause-marked c = subst (λ (l : List Dim). All (λ d. seen_at c.loop-d.seen d.var ≡ true) l) (take_all c.loop-d.d-index c.args.clause.now c.loop-d-test.false) c.loop-d.invariant.marked
