use Rattle.refute_check.specs.Packed.{number_of, literal_of}
use Rattle.refute_check.proofs.Denials.{no_dim}
use Rattle.refute_check.proofs.Packs.{put_more, put_all, back_more, back_all}
use Rattle.refute_check.proofs.packing.put_literals.Goals as goal

pub loop-d-preserved : goal.loop-d-preserved
loop-d-preserved c = record {
  put = put_more number_of c.args.clause.now c.loop-d.d-index no_dim _ _ _ _ c.loop-d-test.true c.packed.ensures.is c.loop-d.invariant.put c.in_ok-push.ensures.items;
  back = back_more number_of literal_of c.args.clause.now c.loop-d.d-index no_dim c.loop-d-test.true c.packed.ensures.back c.loop-d.invariant.back;
}

pub returns-clause-put : goal.returns-clause-put
returns-clause-put c = put_all number_of c.args.clause.now c.loop-d.d-index _ _ c.loop-d-test.false c.loop-d.invariant.put

pub returns-clause-back : goal.returns-clause-back
returns-clause-back c = back_all number_of literal_of c.args.clause.now c.loop-d.d-index c.loop-d-test.false c.loop-d.invariant.back
