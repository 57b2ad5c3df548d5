use Rattle.std.proofs.Common.{take, take_all, sym, ◌∙◌, subst, arith}
use Rattle.std.proofs.lemmas.List.{append-nil}
use Rattle.lhs_alias.specs.declared.segs.Seg.{Seg}
use Rattle.lhs_alias.specs.Segs.{lhs_bits}
use Rattle.lhs_alias.proofs.SegBits.{lhs_bits-take_more}
use Rattle.svex_arena.proofs.Keeping.{extends_on}
use Rattle.compose_rounds.specs.Wires.{IsMade}
use Rattle.compose_rounds.proofs.Making.{there_kept, parts_kept, gather_fits}
use Rattle.compose_rounds.proofs.wires.gather.Goals as goal

pub pieces-init : goal.pieces-init
pieces-init c =
    let none : Seg = record { wire = 0; lo = 0; width = 0 } in
    let e = c.in_ok-made.ensures in
    record {
      extends = e.extends;
      arena = e.arena;
      there = there_kept c.args.arena.now c.part.new.arena c.args.nodes.now e.extends c.requires.nodes;
      has = parts_kept c.args.arena.now c.part.new.arena c.args.nodes.now c.args.pieces.now e.extends c.requires.nodes c.requires.has;
      made = subst (λ l. IsMade c.args.arena.now c.part.new.arena c.args.nodes.now l c.in_ok-made.made)
          (sym (lhs_bits-take_more c.args.pieces.now 0 none c.requires.some ∙ append-nil _))
          e.made;
    }

pub put_below-requires-clause-fits : goal.put_below-requires-clause-fits
put_below-requires-clause-fits c = gather_fits c.args.arena.now c.pieces.arena c.args.nodes.now c.args.pieces.now c.pieces.at c.pieces.made c.pieces-test.true c.requires.most c.pieces.invariant.made

pub pieces-preserved : goal.pieces-preserved
pieces-preserved c =
    let none : Seg = record { wire = 0; lo = 0; width = 0 } in
    let i = c.pieces.invariant in
    let e = c.in_ok-made-2.ensures in
    record {
      extends = extends_on c.args.arena.now c.pieces.arena c.put_below.new.arena i.extends e.extends;
      arena = e.arena;
      there = there_kept c.pieces.arena c.put_below.new.arena c.args.nodes.now e.extends i.there;
      has = parts_kept c.pieces.arena c.put_below.new.arena c.args.nodes.now c.args.pieces.now e.extends i.there i.has;
      made = subst (λ l. IsMade c.args.arena.now c.put_below.new.arena c.args.nodes.now l c.in_ok-made-2.made)
          (sym (lhs_bits-take_more c.args.pieces.now c.pieces.at none c.pieces-test.true))
          (e.made c.args.arena.now (lhs_bits (take c.pieces.at c.args.pieces.now)) i.extends c.requires.nodes i.made);
    }

pub returns-clause-made : goal.returns-clause-made
returns-clause-made c =
    subst (λ l. IsMade c.args.arena.now c.pieces.arena c.args.nodes.now (lhs_bits l) c.pieces.made) (take_all c.pieces.at c.args.pieces.now (omega arith)) c.pieces.invariant.made
