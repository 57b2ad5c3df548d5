use Rattle.std.proofs.Common.{◌∙◌, List, ap, sym}
use Rattle.std.specs.List.{slice_get}
use Rattle.name_index.specs.Indexing.{number_under}
use Rattle.sv_levels.specs.declared.tasks.Given.{Given}
use Rattle.sv_levels.proofs.Giving.{given_at, not_given}
use Rattle.sv_levels.proofs.PortsLists.{got}
use Rattle.sv_levels.proofs.overrides.Overrides.given_or.Goals as goal

pub returns-in-Some : goal.returns-in-Some
returns-in-Some c =
    given_at c.args.self.now.index c.args.other.name.now.text c.args.self.now.list.items c.in-Some.number c.copied.result c.args.other c.unwrap_or.result c.args.self.now.indexed
    (sym c.in-Some.is ∙ c.number.ensures ∙ ap (number_under c.args.self.now.index) c.bytes.ensures)
    (c.copied.ensures ∙ got c.deref.result.now c.in-Some.number c.get.result c.get.ensures.lookup ∙ ap (λ (all : List Given). slice_get all c.in-Some.number) c.deref.ensures.value) c.unwrap_or.ensures

pub returns-in-None : goal.returns-in-None
returns-in-None c =
    not_given c.args.self.now.index c.args.other.name.now.text c.args.self.now.list.items c.args.other c.args.self.now.indexed
    (sym c.in-None.is ∙ c.number.ensures ∙ ap (number_under c.args.self.now.index) c.bytes.ensures)
