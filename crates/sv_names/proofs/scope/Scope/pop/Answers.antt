use Rattle.std.proofs.Common.{◌∙◌, List, All, sym, subst}
use Rattle.sv_names.specs.Kinds.{Entry, EntryIsSound, names_of}
use Rattle.sv_names.specs.Linked.{IsLinked}
use Rattle.sv_names.proofs.Ends.{sound_front, linked_front, same_list, no_entries}
use Rattle.sv_names.proofs.scope.Scope.pop.Goals as goal

pub invariant_of-self : goal.invariant_of-self
invariant_of-self c =
    let old = c.self.inside.list.items in
    let new = c.pop.new.self.items in
    record {
      sound = sound_front old new c.in-Some.last c.in-Some.ensures.items c.self.invariant.sound;
      linked = c.forget.ensures (names_of new) (linked_front c.self.inside.links old new c.in-Some.last c.bytes.result.now c.bytes.ensures c.in-Some.ensures.items c.self.invariant.linked);
    }

pub invariant_of-self-in-None : goal.invariant_of-self-in-None
invariant_of-self-in-None c =
    let e = same_list c.self.inside.list.items c.pop.new.self.items c.in-None.ensures.items in
    record {
      sound = subst (All EntryIsSound) e c.self.invariant.sound;
      linked = subst (λ (all : List Entry). IsLinked c.self.inside.links (names_of all)) e c.self.invariant.linked;
    }

pub returns-in-Some : goal.returns-in-Some
returns-in-Some c = sym c.self.view_is ∙ c.in-Some.ensures.items

pub returns-in-None : goal.returns-in-None
returns-in-None c =
    let n = no_entries c.pop.new.self.items (sym c.pop.new.self.ok.0 ∙ c.in-None.ensures.cases.1) in
    (sym c.self.view_is ∙ same_list c.self.inside.list.items c.pop.new.self.items c.in-None.ensures.items ∙ n, n)
