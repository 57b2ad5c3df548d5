use Rattle.std.proofs.Common.{◌≡◌, take}
use Rattle.svtv_induct.proofs.wider.copy_rows.Given as goal

abbrev pub invariant-rows : goal.invariant-rows
invariant-rows l = l.copies ≡ take l.at l.rows
