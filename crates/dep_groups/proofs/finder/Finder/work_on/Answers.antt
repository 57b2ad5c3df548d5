use Rattle.std.proofs.Common.{◌≡◌, ◌-◌, length, take, sym, ap, ◌∙◌, subst, arith}
use Rattle.std.specs.Vec.{vec_len}
use Rattle.dep_groups.specs.Searches.{state_of, Advances}
use Rattle.dep_groups.proofs.Searching.{last-inside, is-at, left-at, finished-less}
use Rattle.dep_groups.proofs.finder.Finder.work_on.Goals as goal

pub index-place-requires : goal.index-place-requires
index-place-requires c = omega (arith, last-inside c.args.all.now (state_of c.args.self.now) c.args.at c.requires.search c.requires.some c.requires.at, c.args.self.now.waiting.ok.0)

pub index-requires : goal.index-requires
index-requires c =
    let s = state_of c.args.self.now in
    let p = is-at c.args.all.now s c.args.at c.index-place.result.now c.requires.search (last-inside c.args.all.now s c.args.at c.requires.search c.requires.some c.requires.at) c.index-place.ensures in
    omega (arith, p.in_left, c.args.self.now.left.ok.0)

pub look-requires-clause-at : goal.look-requires-clause-at
look-requires-clause-at c = last-inside c.args.all.now (state_of c.args.self.now) c.args.at c.requires.search c.requires.some c.requires.at

pub look-requires-clause-some : goal.look-requires-clause-some
look-requires-clause-some c =
    let s = state_of c.args.self.now in
    let p = is-at c.args.all.now s c.args.at c.index-place.result.now c.requires.search (last-inside c.args.all.now s c.args.at c.requires.search c.requires.some c.requires.at) c.index-place.ensures in
    let l = left-at c.args.all.now s c.args.at c.index-place.result.now c.index.result.now p c.index.ensures in
    omega (arith, l, c.if-index-gt0.true)

pub returns-else-index-gt0 : goal.returns-else-index-gt0
returns-else-index-gt0 c =
    let s = state_of c.args.self.now in
    let p = is-at c.args.all.now s c.args.at c.index-place.result.now c.requires.search (last-inside c.args.all.now s c.args.at c.requires.search c.requires.some c.requires.at) c.index-place.ensures in
    let l = left-at c.args.all.now s c.args.at c.index-place.result.now c.index.result.now p c.index.ensures in
    let pending = c.args.self.now.pending in
    let long : length pending.items ≡ vec_len pending = omega (arith, pending.ok.0) in
    let rest : c.pop.new.self.items ≡ take (length s.pending - 1) s.pending = c.pop.ensures.rest ∙ ap (λ n. take (n - 1) s.pending) (sym long) in
    subst (λ l. Advances c.args.all.now s (record s { pending = l })) (sym rest)
    (finished-less c.args.all.now s c.args.at c.requires.search c.requires.some c.requires.at (omega (arith, l, c.if-index-gt0.false)))
