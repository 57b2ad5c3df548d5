use Rattle.std.proofs.Common.{◌≡◌, ◌<◌, ◌∙◌, List, ℕ, length, get_or, sym, ap, subst, arith}
use Rattle.std.proofs.lemmas.List.{get_or_read}
use Rattle.lhs_alias.specs.Roots.{root_of, EndAtRoots}
use Rattle.lhs_alias.proofs.Trees.{sized-ends, get_or-firsts_of, length-firsts_of}
use Rattle.lhs_alias.proofs.forest.Forest.first_of.Goals as goal

pub root-requires-clause-end : goal.root-requires-clause-end
root-requires-clause-end c =
    let P : List ℕ → Type 0 = EndAtRoots in
    subst P (sym c.deref.ensures.value) (sized-ends _ _ c.self.invariant.sized)

pub root-requires-clause-within : goal.root-requires-clause-within
root-requires-clause-within c =
    omega (arith, ap length c.self.view_is, length-firsts_of c.self.inside.links.items c.self.inside.firsts.items, ap length c.deref.ensures.value)

pub returns-clause-value : goal.returns-clause-value
returns-clause-value c =
    let links = c.self.inside.links.items in
    let firsts = c.self.inside.firsts.items in
    let viewed = c.self.view_is in
    let within : c.args.at < length links = omega (arith, ap length viewed, length-firsts_of links firsts) in
    let root : c.root.result ≡ root_of links c.args.at = c.root.ensures.value ∙ ap (λ s. root_of s c.args.at) c.deref.ensures.value in
    let read : c.index.result.now ≡ get_or firsts c.root.result 0 = get_or_read firsts c.root.result _ (omega (arith, c.self.invariant.as_many, c.root.ensures.within, ap length c.deref.ensures.value)) c.index.ensures 0 in
    read ∙ ap (λ r. get_or firsts r 0) root ∙ sym (get_or-firsts_of links firsts c.args.at within) ∙ ap (λ s. get_or s c.args.at 0) viewed

pub returns-clause-within : goal.returns-clause-within
returns-clause-within c =
    let links = c.self.inside.links.items in
    let firsts = c.self.inside.firsts.items in
    let root = c.root.result in
    let below : root < length links = omega (arith, c.root.ensures.within, ap length c.deref.ensures.value) in
    let is_root : get_or links root 0 ≡ root = ap (λ s. get_or s root 0) (sym c.deref.ensures.value) ∙ c.root.ensures.root in
    let read : c.index.result.now ≡ get_or firsts root 0 = get_or_read firsts root _ (omega (arith, c.self.invariant.as_many, below)) c.index.ensures 0 in
    omega (arith, read, c.self.invariant.within root below is_root, ap length c.self.view_is, length-firsts_of links firsts)
