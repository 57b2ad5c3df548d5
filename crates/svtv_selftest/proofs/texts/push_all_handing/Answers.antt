use Rattle.std.proofs.Common.{◌+◌, arith}
use Rattle.svtv_selftest.specs.Texts.{handing}
use Rattle.svtv_selftest.proofs.Turns.{each_more, none_yet}
use Rattle.svtv_selftest.proofs.texts.push_all_handing.Goals as goal

pub handing-init : goal.handing-init
handing-init c = none_yet 2 handing c.args.text.now.items

pub handing-preserved : goal.handing-preserved
handing-preserved c =
    each_more 2 c.handing.k (c.handing.k + 2) handing c.args.text.now.items c.handing.text.items c.push_handing.new.text.items (omega arith) c.handing.invariant c.in_ok-push_handing.ensures
