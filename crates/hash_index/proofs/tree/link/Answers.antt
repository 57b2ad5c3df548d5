use Rattle.std.proofs.Common.{refl}
use Rattle.std.specs.Prelude.{slice_index}
use Rattle.hash_index.proofs.Linking.{linked_ends, linked_more}
use Rattle.hash_index.proofs.tree.link.Goals as goal

pub place_of-place-requires-clause-reaches : goal.place_of-place-requires-clause-reaches
place_of-place-requires-clause-reaches c =
    linked_ends c.args.number c.args.hashes.now c.args.low.now c.args.high.now c.args.roots.now (slice_index c.args.hashes.now c.args.number) c.requires.linked

pub returns : goal.returns
returns c =
    linked_more c.args.number c.args.hashes.now c.args.low.now c.args.high.now c.args.roots.now c.put.new.low c.put.new.high c.put.new.roots (slice_index c.args.hashes.now c.args.number) c.place_of-place.result refl
    c.requires.low c.requires.pairs c.put.auto.low c.put.auto.high c.put.auto.roots c.place_of-place.ensures.is c.put.ensures c.requires.linked
