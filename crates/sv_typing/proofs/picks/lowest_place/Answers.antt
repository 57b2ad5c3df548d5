use Rattle.sv_typing.proofs.picks.lowest_place.Goals as goal

pub in_bits-requires-clause-each : goal.in_bits-requires-clause-each
in_bits-requires-clause-each c = c.width.ensures.most

pub lowest-requires-clause-row : goal.lowest-requires-clause-row
lowest-requires-clause-row c = c.requires.row

pub width-requires : goal.width-requires
width-requires c = c.requires.row.each
