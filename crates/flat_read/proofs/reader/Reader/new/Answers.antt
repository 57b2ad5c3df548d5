use Rattle.std.proofs.Common.{None, refl}
use Rattle.flat_read.proofs.Adding.{holds_nothing}
use Rattle.flat_read.proofs.reader.Reader.new.Goals as goal

pub returns-clause-holds : goal.returns-clause-holds
returns-clause-holds c =
    holds_nothing (record { alloc = c.args.alloc; wires = c.new.result; widths = c.new-2.result; joins = c.new-3.result; made = None; arena = c.new-arena.result; numbers = c.new-4.result; drivers = c.new-5.result })
    c.new.ensures c.new-2.ensures.items c.new-3.ensures c.len.ensures.arena c.new-4.ensures.items c.new-5.ensures refl
