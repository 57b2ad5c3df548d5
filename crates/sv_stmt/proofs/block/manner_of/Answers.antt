use Rattle.std.proofs.Common.{refl, sym, ap, ◌∙◌}
use Rattle.sv_names.specs.Names.{names_are}
use Rattle.sv_meaning.specs.Blocks.{kind_events, kind_manner, kind_mark}
use Rattle.sv_stores.specs.declared.scene.Manner.TheVariants.{Comb}
use Rattle.sv_stmt.proofs.Judging.{manner_plain, manner_clocked, mark_clocked}
use Rattle.sv_stmt.proofs.block.manner_of.Goals as goal

pub returns-in-Comb-clause-manner : goal.returns-in-Comb-clause-manner
returns-in-Comb-clause-manner c =
    let at = names_are c.args.names.now in
    let b = c.args.block.now in
    manner_plain at b Comb (ap kind_events c.in-Comb.is) refl (sym (ap (λ k. kind_manner at k b.body) c.in-Comb.is))

pub returns-in-Comb-clause-mark : goal.returns-in-Comb-clause-mark
returns-in-Comb-clause-mark c = sym (ap (λ k. kind_mark k c.args.block.now.body) c.in-Comb.is)

pub returns-in-Star-clause-manner : goal.returns-in-Star-clause-manner
returns-in-Star-clause-manner c =
    let at = names_are c.args.names.now in
    let b = c.args.block.now in
    manner_plain at b Comb (ap kind_events c.in-Star.is) refl (sym (ap (λ k. kind_manner at k b.body) c.in-Star.is))

pub returns-in-Star-clause-mark : goal.returns-in-Star-clause-mark
returns-in-Star-clause-mark c = sym (ap (λ k. kind_mark k c.args.block.now.body) c.in-Star.is)

pub returns-in-StarParen-clause-manner : goal.returns-in-StarParen-clause-manner
returns-in-StarParen-clause-manner c =
    let at = names_are c.args.names.now in
    let b = c.args.block.now in
    manner_plain at b Comb (ap kind_events c.in-StarParen.is) refl (sym (ap (λ k. kind_manner at k b.body) c.in-StarParen.is))

pub returns-in-StarParen-clause-mark : goal.returns-in-StarParen-clause-mark
returns-in-StarParen-clause-mark c = sym (ap (λ k. kind_mark k c.args.block.now.body) c.in-StarParen.is)

pub returns-in-Latch-clause-manner : goal.returns-in-Latch-clause-manner
returns-in-Latch-clause-manner c =
    let at = names_are c.args.names.now in
    let b = c.args.block.now in
    manner_plain at b c.latch_of.result (ap kind_events c.in-Latch.is) c.latch_of.ensures.named (c.latch_of.ensures.is ∙ sym (ap (λ k. kind_manner at k b.body) c.in-Latch.is))

pub returns-in-Latch-clause-mark : goal.returns-in-Latch-clause-mark
returns-in-Latch-clause-mark c = c.latch_of.ensures.mark ∙ sym (ap (λ k. kind_mark k c.args.block.now.body) c.in-Latch.is)

pub returns-in-Ff-clause-manner : goal.returns-in-Ff-clause-manner
returns-in-Ff-clause-manner c =
    let at = names_are c.args.names.now in
    let b = c.args.block.now in
    manner_clocked at b c.in-Ff.events c.edges_of.result c.map.result (ap kind_events c.in-Ff.is) (ap (λ k. kind_manner at k b.body) c.in-Ff.is) c.map.ensures.cases c.edges_of.ensures

pub returns-in-Ff-clause-mark : goal.returns-in-Ff-clause-mark
returns-in-Ff-clause-mark c = mark_clocked c.args.block.now c.edges_of.result c.map.result (ap (λ k. kind_mark k c.args.block.now.body) c.in-Ff.is) c.map.ensures.cases

pub returns-in-Always-clause-manner : goal.returns-in-Always-clause-manner
returns-in-Always-clause-manner c =
    let at = names_are c.args.names.now in
    let b = c.args.block.now in
    manner_clocked at b c.in-Always.events c.edges_of-in-Always.result c.map-in-Always.result (ap kind_events c.in-Always.is) (ap (λ k. kind_manner at k b.body) c.in-Always.is) c.map-in-Always.ensures.cases c.edges_of-in-Always.ensures

pub returns-in-Always-clause-mark : goal.returns-in-Always-clause-mark
returns-in-Always-clause-mark c = mark_clocked c.args.block.now c.edges_of-in-Always.result c.map-in-Always.result (ap (λ k. kind_mark k c.args.block.now.body) c.in-Always.is) c.map-in-Always.ensures.cases
