use Rattle.std.proofs.Common.{◌∙◌, sym, ap, length, refl}
use Rattle.std.proofs.lemmas.List.{length-map}
use Rattle.sv_names.specs.Kinds.{entry_is}
use Rattle.sv_hierarchy.specs.Scopes as m
use Rattle.sv_levels.proofs.LevelsHeld.{got, not_got, level_found, level_past}
use Rattle.sv_levels.proofs.levels.nets_of.Goals as goal

pub returns-in-Some : goal.returns-in-Some
returns-in-Some c =
    c.len.ensures ∙ sym (length-map c.in-Some.level.now.nets entry_is)
    ∙ sym (ap (λ (y : m.Level). length y.nets) (level_found c.args.levels.now c.args.level c.in-Some.level.now (got c.args.levels.now c.args.levels.now c.args.level c.in-Some.level.now refl c.in-Some.ensures.lookup.3.0 c.in-Some.ensures.lookup.1)))

pub returns-in-None : goal.returns-in-None
returns-in-None c = sym (ap (λ (y : m.Level). length y.nets) (level_past c.args.levels.now c.args.level (not_got c.args.levels.now c.args.levels.now c.args.level refl c.in-None.ensures.lookup.3)))
