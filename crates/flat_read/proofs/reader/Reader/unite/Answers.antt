use Rattle.std.proofs.Common.{ℕ, List, Option, ◌∙◌, sym, subst}
use Rattle.lhs_alias.specs.Joined.{Kept}
use Rattle.flat_read.specs.States.{HasMade}
use Rattle.flat_read.proofs.Uniting.{united}
use Rattle.flat_read.proofs.reader.Reader.unite.Goals as goal

pub returns-clause-made : goal.returns-clause-made
returns-clause-made c joins h =
    let given : HasMade c.take.result c.deref.result.now joins = subst (λ (o : Option Kept). HasMade o c.deref.result.now joins) (sym c.take.ensures.value) (subst (λ (w : List ℕ). HasMade c.args.self.now.made w joins) (sym c.deref.ensures.value) h) in
    united c.in_ok-made.made c.join.new.self c.args.self.now.widths.items joins c.args.join.now c.join.result c.is_ok-free.result c.requires.join (c.in_ok-made.ensures.widths ∙ c.deref.ensures.value) (c.in_ok-made.ensures.stands joins given)
    c.join.ensures.widths c.join.ensures.joined c.join.ensures.taken c.join.ensures.no_memory c.is_ok-free.ensures.value
