use Rattle.std.proofs.Common.{Some, None, refl, sym, ◌∙◌, subst}
use Rattle.std.specs.Option.{IsSome}
use Rattle.sv_names.specs.Linked.{latest_of}
use Rattle.sv_names.specs.declared.links.Links.{Links}
use Rattle.sv_names.proofs.Latest.{forgotten, popped, known_last}
use Rattle.sv_names.proofs.links.Links.forget.Goals as goal

pub returns-in-Some : goal.returns-in-Some
unfolding latest_of
returns-in-Some c = λ names linked.
    let old = c.args.self.now in
    let now : Links = record { latest = c.set.new.self; earlier = c.pop.new.self } in
    let less = popped old c.args.name.now names c.pop.result (Some c.in-Some.place) c.pop.new.self.items linked c.pop.ensures.variant.1 c.pop.ensures.items (sym c.flatten.ensures ∙ c.in-Some.is) in
    let there : IsSome (latest_of old c.args.name.now) = subst IsSome (sym (known_last old c.args.name.now names linked)) refl in
    forgotten old now c.args.name.now (Some c.in-Some.place) names less (c.set.ensures there) linked

pub returns-in-None : goal.returns-in-None
unfolding latest_of
returns-in-None c = λ names linked.
    let old = c.args.self.now in
    let now : Links = record { latest = c.remove.new.self; earlier = c.pop.new.self } in
    let less = popped old c.args.name.now names c.pop.result None c.pop.new.self.items linked c.pop.ensures.variant.1 c.pop.ensures.items (sym c.flatten.ensures ∙ c.in-None.is) in
    forgotten old now c.args.name.now None names less c.remove.ensures linked
