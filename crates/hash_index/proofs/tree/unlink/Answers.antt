use Rattle.std.specs.Prelude.{slice_index}
use Rattle.hash_index.proofs.Linking.{some_bucket, linked_less}
use Rattle.hash_index.proofs.tree.unlink.Goals as goal

pub place_of-place-requires-clause-buckets : goal.place_of-place-requires-clause-buckets
place_of-place-requires-clause-buckets c = some_bucket c.args.number c.args.hashes.now c.args.low.now c.args.high.now c.args.roots.now c.requires.linked

pub returns : goal.returns
returns c =
    linked_less c.args.number c.args.hashes.now c.args.low.now c.args.high.now c.args.roots.now c.put.new.low c.put.new.high c.put.new.roots (slice_index c.args.hashes.now c.args.number) c.place_of-place.result
    c.put.auto.low c.put.auto.high c.put.auto.roots c.place_of-place.ensures.is c.put.ensures c.requires.linked
