use Rattle.std.proofs.Common.{refl, rules}
use Rattle.sv_blocks.proofs.Marking.{mark_room}
use Rattle.sv_blocks.proofs.bits.mark_place.Goals as goal

pub place_of-at-requires : goal.place_of-at-requires
place_of-at-requires c = c.requires.bit.there

pub overflow_mul-result : goal.overflow_mul-result
overflow_mul-result c =
    let room = (mark_room c.args.scene.now c.args.bit.now c.place_of-at.result c.requires.scene c.requires.marks c.requires.bit c.place_of-at.ensures).0 in
    let long = c.len.ensures in
    search rules

pub overflow_add-result : goal.overflow_add-result
overflow_add-result c =
    let room = (mark_room c.args.scene.now c.args.bit.now c.place_of-at.result c.requires.scene c.requires.marks c.requires.bit c.place_of-at.ensures).0 in
    let long = c.len.ensures in
    search rules

pub returns-clause-is : goal.returns-clause-is
returns-clause-is c =
    let near = (mark_room c.args.scene.now c.args.bit.now c.place_of-at.result c.requires.scene c.requires.marks c.requires.bit c.place_of-at.ensures).1 in
    record { place = c.place_of-at.result; is = c.place_of-at.ensures; near = near; at = refl }

pub returns-clause-within : goal.returns-clause-within
returns-clause-within c = (mark_room c.args.scene.now c.args.bit.now c.place_of-at.result c.requires.scene c.requires.marks c.requires.bit c.place_of-at.ensures).0
