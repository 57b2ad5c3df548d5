use Rattle.std.proofs.Common.{◌≡◌, ◌++◌, take, slice_index}
use Rattle.std.specs.List.{flat_map}
use Rattle.driver_resolve.specs.declared.driver.Driver.{Driver}
use Rattle.flat_text.specs.Lines.{ended, drive_line}
use Rattle.flat_print.proofs.print.push_drives.Given as goal

abbrev pub invariant-drivers : goal.invariant-drivers
invariant-drivers l =
    l.text.items ≡ l.fn.text.items ++ flat_map (λ (d : Driver). ended (drive_line (record { target = d.target; value = slice_index l.numbers d.value }))) (take l.driver-index l.drivers)
