use Rattle.std.proofs.Common.{get_or, subst, ◌<◌, length}
use Rattle.std.proofs.lemmas.List.{get_or-map, length-map}
use Rattle.sv_outside.specs.declared.text.Signal.{Signal}
use Rattle.svex_shape.specs.declared.shape.VarName.TheVariants.{Stim}
use Rattle.svex_shape.specs.declared.shape.Shape.TheVariants.{Var}
use Rattle.svex_arena.specs.Arenas.{Interned}
use Rattle.svex_arena.proofs.Keeping.{if_ok}
use Rattle.driver_resolve.specs.Drivers.{widths_of}
use Rattle.net_resolve.specs.Pieces.{IsSource, HasSource}
use Rattle.net_resolve.proofs.Making.{value_source, stimulus_source}
use Rattle.net_resolve.proofs.pieces.source_node.Goals as goal

pub returns-in-Value-clause-made : goal.returns-in-Value-clause-made
returns-in-Value-clause-made c = value_source (widths_of c.args.wires.now) c.args.arena.now c.args.gift.now c.in-Value.node c.len.ensures.arena c.in-Value.is c.requires.source

pub returns-in-Stimulus-clause-made : goal.returns-in-Stimulus-clause-made
returns-in-Stimulus-clause-made c =
    let wires = c.args.wires.now in
    let widths = widths_of wires in
    let old = c.args.arena.now in
    let new = c.intern.new.self in
    let wire = c.in-Stimulus.wire in
    let s : Signal = get_or wires wire c.index-wires-wire.result in
    let inside : wire < length widths = subst (λ f. HasSource widths old f) c.in-Stimulus.is c.requires.source in
    let there : wire < length wires = subst (λ n. wire < n) (length-map wires (λ (x : Signal). x.width)) inside in
    let wide = get_or-map (λ (x : Signal). x.width) wires wire c.index-wires-wire.result 0 there in
    if_ok _ (λ n. Interned old (Var (Stim wire) s.width) new n) (λ n. IsSource widths old c.args.gift.now new n) c.intern.ensures.is
    (λ n i. stimulus_source widths old new c.args.gift.now wire s.width n c.intern.ensures.arena c.in-Stimulus.is c.requires.source wide i)
