use Rattle.std.proofs.Common.{◌≡◌, ◌-◌, ◌&&◌, ◌==◌, length, arith}
use Rattle.sv_names.specs.Kinds.{layout_is}
use Rattle.sv_names.specs.Names.{constants_are}
use Rattle.sv_types.proofs.Ranging.{ranges_begin, ranges_end, ranges_go, sound_of_layout}
use Rattle.sv_types.proofs.ranges.over_ranges.Goals as goal

pub outward-init : goal.outward-init
outward-init c =
    let all = c.args.ranges.now in
    record { within = omega arith; found = ranges_begin (constants_are c.args.names.now) (c.args.signed && (length all == 0)) all (length all) c.args.each (omega arith) c.requires }

pub outward-preserved : goal.outward-preserved
outward-preserved c =
    let i = c.outward.invariant.within in
    let t = c.outward-test.true in
    record {
      within = omega arith;
      found = ranges_go (constants_are c.args.names.now) c.args.signed c.sign_at.result c.args.ranges.now c.outward.at (c.outward.at - 1) c.index-ranges-at.result (layout_is c.args.each) c.outward.found c.ranged-found.result c.bounds.result
          (omega arith) (omega arith) c.index-ranges-at.is c.sign_at.ensures c.outward.invariant.found c.bounds.ensures c.ranged-found.ensures;
    }

pub returns : goal.returns
returns c =
    let t = c.outward-test.false in
    let outermost : c.outward.at ≡ 0 = omega (arith, t) in
    ranges_end (constants_are c.args.names.now) c.args.signed c.args.ranges.now c.outward.at (layout_is c.args.each) c.outward.found outermost c.outward.invariant.found

pub ranged-found-requires : goal.ranged-found-requires
ranged-found-requires c = record { sound = sound_of_layout _ c.outward.found c.outward.invariant.found }
