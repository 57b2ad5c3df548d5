use Rattle.std.proofs.Common.{ℕ, map, sym, ap, ◌∙◌, subst, Vec, Global}
use Rattle.std.proofs.lemmas.List.{length-map}
use Rattle.svex_arena.proofs.Keeping.{extends_on}
use Rattle.net_equations.specs.declared.group.Group.{Group}
use Rattle.node_replace.specs.Walks.{IsNew}
use Rattle.svex_compose.specs.Composed.{IsComposed}
use Rattle.svex_compose.specs.Grouping.{IsRest}
use Rattle.svex_compose.proofs.Settling.{rest_first, ready_first, composed_end, segs_whole}
use Rattle.svex_compose.proofs.grouping.compose.Goals as goal

pub start-requires-clause-segs : goal.start-requires-clause-segs
start-requires-clause-segs c = segs_whole c.args.joins.now c.args.arena.now c.args.set.now c.requires.resolved

pub settle_all-requires-clause-ready : goal.settle_all-requires-clause-ready
settle_all-requires-clause-ready c =
    let e = c.in_ok-scene.ensures in
    ready_first c.args.joins.now c.args.arena.now c.start.new.arena c.args.set.now c.in_ok-scene.scene c.in_ok-replacer.replacer e.arena e.extends c.requires.resolved e.start (subst (λ (n : ℕ). IsNew n c.in_ok-replacer.replacer) c.len-len.ensures.is c.in_ok-replacer.ensures.new)

pub settle_all-requires-clause-rest : goal.settle_all-requires-clause-rest
settle_all-requires-clause-rest c = rest_first c.args.joins.now c.start.new.arena c.args.set.now c.in_ok-scene.scene (map (λ (g : Group). g.members) c.args.groups.now) c.in_ok-scene.ensures.start

pub settle_all-requires-clause-ordered : goal.settle_all-requires-clause-ordered
settle_all-requires-clause-ordered c = record {
  base = c.args.arena.now;
  arena = c.len-len.ensures.arena;
  extends = c.in_ok-scene.ensures.extends;
  resolved = c.requires.resolved;
  order = c.requires.groups;
}

pub returns-clause-composed : goal.returns-clause-composed
returns-clause-composed c =
    let kept = c.args.joins.now in
    let set = c.args.set.now in
    let groups = map (λ (g : Group). g.members) c.args.groups.now in
    let old = c.args.arena.now in
    let new = c.settle_all.new.arena in
    let e = c.in_ok-settle_all.ensures in
    let extends = extends_on old c.start.new.arena new c.in_ok-scene.ensures.extends e.extends in
    let nodes = c.from_vec.ensures ∙ ap (λ (v : Vec ℕ Global). v.items) c.into_nodes.ensures in
    subst (IsComposed kept old new set.eqs) (sym nodes)
    (composed_end kept old new set c.settle_all.new.scene groups e.arena extends c.requires.resolved c.requires.groups e.ready.scene
    (subst (IsRest kept new set c.settle_all.new.scene groups) (sym (length-map c.args.groups.now (λ (g : Group). g.members))) e.rest))
