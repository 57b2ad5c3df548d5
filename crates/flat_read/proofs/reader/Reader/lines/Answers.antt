use Rattle.std.proofs.Common.{◌-◌, ◌^◌, ◌<◌, ◌++◌, Bool, length, codes, sym, ap, ◌∙◌, subst, arith}
use Rattle.std.proofs.lemmas.Bool.{both_ways, eqb-true, eqb-false}
use Rattle.std.proofs.lemmas.List.{nil_from_length}
use Rattle.flat_text.specs.Lines.{ended}
use Rattle.flat_read.specs.States.{Judged, HasRead, TookLine, RefusedLine}
use Rattle.flat_read.proofs.ReadSoFar.{start_read, read_more, cut_shorter, read_all, bad_line, bad_end, bad_behind}
use Rattle.flat_read.proofs.reader.Reader.lines.Goals as goal

pub lines-init : goal.lines-init
lines-init c = record {
  reader = c.requires.reader;
  so_far = start_read c.args.self.now c.args.text.now c.requires.holds;
  room = omega arith;
}

pub returns-then-is_empty-clause-all : goal.returns-then-is_empty-clause-all
returns-then-is_empty-clause-all c =
    read_all (ended (codes "flat 1") ++ c.args.text.now) c.lines.rest.now c.in-Some.line.now c.in-Some.more.now c.lines.read c.lines.self c.lines.invariant.so_far c.in-Some.ensures
    (c.is_end.ensures.0 c.if-is_end.true) (nil_from_length c.in-Some.more.now (eqb-true (length c.in-Some.more.now) 0 (sym c.is_empty.ensures ∙ c.if-is_empty.true)))

pub returns-else-is_empty-clause-line : goal.returns-else-is_empty-clause-line
returns-else-is_empty-clause-line c n e =
    bad_behind (ended (codes "flat 1") ++ c.args.text.now) c.lines.rest.now c.in-Some.line.now c.in-Some.more.now c.lines.read n c.lines.self c.lines.invariant.so_far c.in-Some.ensures
    (c.is_end.ensures.0 c.if-is_end.true) (λ none. eqb-false (length c.in-Some.more.now) 0 (sym c.is_empty.ensures ∙ c.if-is_empty.false) (ap length none)) cc

pub returns-then-not-branch-clause-line : goal.returns-then-not-branch-clause-line
returns-then-not-branch-clause-line c n e =
    let h : HasRead (ended (codes "flat 1") ++ c.args.text.now) c.lines.rest.now c.lines.read c.lines.self = c.lines.invariant.so_far in
    let refused : RefusedLine h.shown c.in-Some.line.now = subst (λ (b : Bool). Judged b (TookLine h.shown c.in-Some.line.now c.line.new.self) (RefusedLine h.shown c.in-Some.line.now)) c.if-not-branch.true (c.in_ok-line.ensures.judged h.shown h.holds) in
    let few : c.lines.read < 2 ^ 64 - 1 = omega (arith, c.lines.invariant.room, c.requires.long) in
    bad_line (ended (codes "flat 1") ++ c.args.text.now) c.lines.rest.now c.in-Some.line.now c.in-Some.more.now c.lines.read n c.lines.self h c.in-Some.ensures few
    (λ last. both_ways c.is_end.result c.if-is_end.false (c.is_end.ensures.1 last)) refused cc

pub lines-preserved : goal.lines-preserved
lines-preserved c =
    let h : HasRead (ended (codes "flat 1") ++ c.args.text.now) c.lines.rest.now c.lines.read c.lines.self = c.lines.invariant.so_far in
    let took : TookLine h.shown c.in-Some.line.now c.line.new.self = subst (λ (b : Bool). Judged b (TookLine h.shown c.in-Some.line.now c.line.new.self) (RefusedLine h.shown c.in-Some.line.now)) c.if-not-branch.false (c.in_ok-line.ensures.judged h.shown h.holds) in
    let shorter : length c.in-Some.more.now < length c.lines.rest.now = cut_shorter c.lines.rest.now c.in-Some.line.now c.in-Some.more.now c.in-Some.ensures in
    record {
      reader = c.in_ok-line.ensures.reader;
      so_far = read_more (ended (codes "flat 1") ++ c.args.text.now) c.lines.rest.now c.in-Some.line.now c.in-Some.more.now c.lines.read c.lines.self c.line.new.self h c.in-Some.ensures took;
      room = omega (arith, c.lines.invariant.room);
    }

pub returns-clause-line : goal.returns-clause-line
returns-clause-line c n e = bad_end (ended (codes "flat 1") ++ c.args.text.now) c.lines.rest.now c.lines.read n c.lines.self c.lines.invariant.so_far c.in_default.ensures cc
