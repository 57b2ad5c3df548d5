use Rattle.std.proofs.Common.{◌≡◌, ◌+◌, get_or, map}
use Rattle.std.specs.List.{range_with_len}
use Rattle.fourvec.specs.declared.Bit.TheVariants.{Unknown}
use Rattle.event_sim.specs.Rows.{passed_bit}
use Rattle.event_sim.proofs.pass.new_row.Given as goal

abbrev pub invariant-loop-at : goal.invariant-loop-at
invariant-loop-at l = l.new ≡ map (λ k. passed_bit l.homes l.lows l.low l.told (l.start + k) (get_or l.old k Unknown)) (range_with_len 0 l.at)
