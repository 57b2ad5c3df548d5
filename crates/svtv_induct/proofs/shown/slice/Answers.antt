use Rattle.std.proofs.Common.{◌∙◌, [], arith}
use Rattle.std.proofs.lemmas.List.{get_or_default}
use Rattle.svtv_induct.proofs.Failing.{slice_fits, slice_is, slice_there}
use Rattle.svtv_induct.proofs.shown.slice.Goals as goal

pub bounds-own-seg : goal.bounds-own-seg
bounds-own-seg c = slice_there c.args.own.now c.args.seg c.requires

pub slice-requires-clause-some : goal.slice-requires-clause-some
slice-requires-clause-some c = let s = c.requires.whole.some in omega (arith, s)

pub slice-requires-clause-within : goal.slice-requires-clause-within
slice-requires-clause-within c =
    slice_fits c.args.own.now c.args.seg c.index-own-seg.result c.requires (c.index-own-seg.is ∙ get_or_default c.args.own.now c.args.seg.wire c.index-own-seg.result [] (slice_there c.args.own.now c.args.seg c.requires))

pub returns : goal.returns
returns c =
    c.slice.ensures
    ∙ slice_is c.args.own.now c.args.seg c.index-own-seg.result c.requires (c.index-own-seg.is ∙ get_or_default c.args.own.now c.args.seg.wire c.index-own-seg.result [] (slice_there c.args.own.now c.args.seg c.requires))
