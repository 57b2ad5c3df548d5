use Rattle.sv_item_parser.proofs.constructs.+item.Given as goal

abbrev pub decreases-item : goal.decreases-item
decreases-item l = l.depth
