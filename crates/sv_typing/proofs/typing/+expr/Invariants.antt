use Rattle.std.proofs.Common.{take, map}
use Rattle.sv_meaning.specs.Values.{mean, step}
use Rattle.sv_names.specs.Cursors.{cursor_is, CursorIsSound}
use Rattle.sv_typing.specs.Judging.{AreTyped}
use Rattle.sv_names.specs.Names.{names_are}
use Rattle.sv_typing.specs.Positions.{is_constant, seen_in}
use Rattle.sv_typing.specs.Picks.{Chains, rule_faults, rule_scope}
use Rattle.sv_typing.proofs.typing.+expr.Given as goal

abbrev pub invariant-chain_behind-selects : goal.invariant-chain_behind-selects
invariant-chain_behind-selects l = record {
  chains : Chains (rule_faults l.rule) (cursor_is l.at) (map (step (rule_scope l.rule (names_are l.names))) (take l.select-index l.selects)) l.picks (cursor_is l.end);
  sound : CursorIsSound l.end;
}

abbrev pub invariant-typed_parts-parts : goal.invariant-typed_parts-parts
invariant-typed_parts-parts l = AreTyped (map (mean (seen_in l.position (names_are l.names))) (take l.expr-index l.all)) (is_constant l.position) l.list
