use Rattle.std.proofs.Common.{◌∙◌, List, ap, sym}
use Rattle.std.proofs.lemmas.List.{take_all}
use Rattle.event_nets.specs.Tables.{store_of}
use Rattle.lhs_alias.specs.Segs.{lhs_bits}
use Rattle.lhs_alias.specs.declared.segs.Seg.{Seg}
use Rattle.svtv_induct.specs.States.{bits_in}
use Rattle.svtv_induct.proofs.Joined.{taken_first}
use Rattle.svtv_induct.proofs.Failing.{slices_fit, slices_more}
use Rattle.svtv_induct.proofs.shown.joined.Goals as goal

abbrev none : Seg
none = record { wire = 0; lo = 0; width = 0 }

pub slice-all-requires : goal.slice-all-requires
slice-all-requires c = c.requires.lie 0 none c.requires.some

pub segs-init : goal.segs-init
segs-init c = c.slice-all.ensures ∙ ap (bits_in (store_of c.args.own.now)) (sym (taken_first c.args.segs.now none c.requires.some))

pub slice-low-requires : goal.slice-low-requires
slice-low-requires c = c.requires.lie c.segs.at none c.segs-test.true

pub concat-all-requires : goal.concat-all-requires
concat-all-requires c =
    slices_fit (store_of c.args.own.now) c.args.segs.now c.segs.at none c.segs.all c.slice-low.result c.segs-test.true c.requires.most c.segs.invariant c.slice-low.ensures

pub segs-preserved : goal.segs-preserved
segs-preserved c =
    c.concat-all.ensures ∙ slices_more (store_of c.args.own.now) c.args.segs.now c.segs.at none c.segs.all c.slice-low.result c.segs-test.true c.segs.invariant c.slice-low.ensures

pub returns : goal.returns
returns c =
    let past = c.segs-test.false in c.segs.invariant ∙ ap (λ (ss : List Seg). bits_in (store_of c.args.own.now) (lhs_bits ss)) (take_all c.segs.at c.args.segs.now past)
