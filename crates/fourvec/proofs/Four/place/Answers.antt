use Rattle.std.proofs.Common.{◌≤◌, ◌*◌, ◌^◌, arith}
use Rattle.fourvec.proofs.Places.{place_moved, place_past}
use Rattle.fourvec.proofs.Four.place.Goals as goal

pub returns-clause-near : goal.returns-clause-near
returns-clause-near c =
    let shift = c.shift_of-shift in
    let far = c.in-Some.ensures.1 in
    let is = place_moved c.args.spot.now c.args.self.now c.is_turned-below.result shift.result.below c.distance.result shift.result.far c.is_turned-below.ensures c.distance.ensures shift.ensures.below shift.ensures.far in
    rw (is, ← far) c.moved.ensures.near

pub returns-clause-far : goal.returns-clause-far
returns-clause-far c =
    let shift = c.shift_of-shift in
    let far = c.in-Some.ensures.1 in
    let is = place_moved c.args.spot.now c.args.self.now c.is_turned-below.result shift.result.below c.distance.result shift.result.far c.is_turned-below.ensures c.distance.ensures shift.ensures.below shift.ensures.far in
    rw (is, ← far) c.moved.ensures.far

pub returns-in_default-clause-far : goal.returns-in_default-clause-far
returns-in_default-clause-far c =
    let shift = c.shift_of-shift in
    let is = place_moved c.args.spot.now c.args.self.now c.is_turned-below.result shift.result.below c.distance.result shift.result.far c.is_turned-below.ensures c.distance.ensures shift.ensures.below shift.ensures.far in
    let past : 2 ^ 128 ≤ c.distance.result * c.args.spot.now.each = let no = c.in_default.ensures in omega (arith, no) in
    place_past c.args.spot.now c.args.self.now c.is_turned-below.result shift.result.below c.distance.result shift.result.far is past shift.ensures.near
