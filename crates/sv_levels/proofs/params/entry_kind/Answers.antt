use Rattle.sv_types.specs.Values.{kind_is}
use Rattle.sv_hierarchy.specs.Scopes as m
use Rattle.sv_levels.specs.Levels.{front_is, levels_are}
use Rattle.sv_levels.proofs.Giving.{kind_written, kind_by_word, kind_before}
use Rattle.sv_levels.proofs.params.entry_kind.Goals as goal

pub returns-in-Some : goal.returns-in-Some
returns-in-Some c =
    kind_written c.args.port.now.word c.args.port.now.form c.in-Some.form (kind_is c.args.before) (m.seen_at (levels_are c.args.levels.now) (front_is c.args.at)) c.kind_at.result c.in-Some.is c.kind_at.ensures

pub returns-in-Some-word : goal.returns-in-Some-word
returns-in-Some-word c =
    kind_by_word c.args.port.now.word c.args.port.now.form c.in-Some-word.field-0 (kind_is c.args.before) (m.seen_at (levels_are c.args.levels.now) (front_is c.args.at)) c.in-None.is c.in-Some-word.is

pub returns-in-None-word : goal.returns-in-None-word
returns-in-None-word c =
    kind_before c.args.port.now.word c.args.port.now.form (kind_is c.args.before) (m.seen_at (levels_are c.args.levels.now) (front_is c.args.at)) c.in-None.is c.in-None-word.is
