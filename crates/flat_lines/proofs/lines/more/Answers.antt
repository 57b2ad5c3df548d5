use Rattle.std.proofs.Common.{◌≡◌, ◌<◌, ◌≤◌, List, length, Option, Some, refl, suc, sym, ap, ◌∙◌, arith}
use Rattle.lhs_alias.specs.declared.segs.Seg.{Seg}
use Rattle.flat_text.specs.Lines.{Text}
use Rattle.flat_lines.specs.Items.{segs, put_before}
use Rattle.flat_lines.proofs.Targets.{more_step, more_stops, more_ends, seg_shorter, comma_shorter}
use Rattle.flat_lines.proofs.lines.more.Goals as goal

pub segs-smaller : goal.segs-smaller
segs-smaller c =
    let one : length c.segs.words.rest.now ≡ suc (length c.pass.new.self.rest.now) = comma_shorter c.segs.words.rest.now c.pass.new.self.rest.now (sym c.segs-test.ensures.is) in
    let two : length c.seg.new.words.rest.now ≤ length c.pass.new.self.rest.now = seg_shorter c.pass.new.self.rest.now c.seg.new.words.rest.now c.in-Some.seg (sym c.in-Some.ensures) in
    let less : length c.seg.new.words.rest.now < length c.segs.words.rest.now = omega arith in
    less

pub segs-preserved : goal.segs-preserved
segs-preserved c =
    let whole : Option (List Seg × Text) = put_before c.args.segs.now.items (segs (length c.args.words.now.rest.now) c.args.words.now.rest.now) in
    let step = more_step c.segs.segs.items c.segs.invariant.0 c.segs.words.rest.now c.pass.new.self.rest.now c.seg.new.words.rest.now c.in-Some.seg whole c.segs.invariant.1.0 (sym c.segs-test.ensures.is) (sym c.in-Some.ensures) c.segs.invariant.1.1 in
    (step.0, (step.1.0, ap (λ (l : List Seg). put_before l (segs step.0 c.seg.new.words.rest.now)) c.in_ok-push-in-Some.ensures.items ∙ step.1.1))

pub returns-in-None : goal.returns-in-None
returns-in-None c =
    let whole : Option (List Seg × Text) = put_before c.args.segs.now.items (segs (length c.args.words.now.rest.now) c.args.words.now.rest.now) in
    more_stops c.segs.segs.items c.segs.invariant.0 c.segs.words.rest.now c.pass.new.self.rest.now whole c.segs.invariant.1.0 (sym c.segs-test.ensures.is) (sym c.in-None.ensures) c.segs.invariant.1.1

pub returns : goal.returns
returns c =
    let whole : Option (List Seg × Text) = put_before c.args.segs.now.items (segs (length c.args.words.now.rest.now) c.args.words.now.rest.now) in
    ap (λ (t : Text). Some (c.segs.segs.items, t)) (c.segs-test.ensures.kept refl)
    ∙ more_ends c.segs.segs.items c.segs.invariant.0 c.segs.words.rest.now whole (sym c.segs-test.ensures.is) c.segs.invariant.1.1
