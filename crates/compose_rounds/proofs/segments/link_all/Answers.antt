use Rattle.std.proofs.Common.{◌+◌, ◌++◌, length, refl, ap, ◌∙◌, sym, arith}
use Rattle.compose_rounds.proofs.Linking.{seg_here}
use Rattle.compose_rounds.proofs.segments.link_all.Goals as goal

pub segs-preserved : goal.segs-preserved
segs-preserved c =
    let i = c.segs.invariant in
    record {
      len = let l = i.len in let m = c.in_ok-link.ensures.len in omega (arith, l, m);
      linked = λ before behind long h. c.in_ok-link.ensures.linked (before ++ c.args.segs.now ++ behind)
          (seg_here before c.args.segs.now behind c.segs.seg-index (length c.segs.older.items) _ c.segs-test.true (i.len ∙ ap (λ k. k + c.segs.seg-index) (sym long)) refl)
          (i.linked before behind long h);
    }
