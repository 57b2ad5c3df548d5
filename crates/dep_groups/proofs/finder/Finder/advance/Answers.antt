use Rattle.std.proofs.Common.{◌≡◌, length, sym, subst, arith}
use Rattle.std.proofs.lemmas.Result.{on_ok_weaker}
use Rattle.dep_groups.specs.Searches.{state_of, Advances}
use Rattle.dep_groups.proofs.Searching.{waiting-below, closed-less, last-start}
use Rattle.dep_groups.proofs.finder.Finder.advance.Goals as goal

pub index-start-requires : goal.index-start-requires
index-start-requires c = omega (arith, (c.requires.search.waits.first c.requires.some).0, c.len.ensures, c.args.self.now.starts.ok.0)

pub pending_from-requires : goal.pending_from-requires
pending_from-requires c = c.requires.search.waits.pending.rising

pub work_on-requires-clause-last : goal.work_on-requires-clause-last
work_on-requires-clause-last c =
    let s = state_of c.args.self.now in
    let long : c.len.result ≡ length s.starts = omega (arith, c.len.ensures, c.args.self.now.starts.ok.0) in
    let start = last-start c.args.all.now s c.len.result c.index-start.result.now c.requires.search c.requires.some long c.index-start.ensures in
    omega (arith, start.0, c.in-Some.ensures.some)

pub close-requires-clause-stages : goal.close-requires-clause-stages
close-requires-clause-stages c = waiting-below c.args.all.now (state_of c.args.self.now) c.requires.search

pub close-requires-clause-start : goal.close-requires-clause-start
close-requires-clause-start c =
    let s = state_of c.args.self.now in
    let long : c.len.result ≡ length s.starts = omega (arith, c.len.ensures, c.args.self.now.starts.ok.0) in
    let start = last-start c.args.all.now s c.len.result c.index-start.result.now c.requires.search c.requires.some long c.index-start.ensures in
    omega (arith, start.1)

pub returns-in-None : goal.returns-in-None
returns-in-None c =
    let s = state_of c.args.self.now in
    let x = c.index-start.result.now in
    let long : c.len.result ≡ length s.starts = omega (arith, c.len.ensures, c.args.self.now.starts.ok.0) in
    let start = last-start c.args.all.now s c.len.result x c.requires.search c.requires.some long c.index-start.ensures in
    on_ok_weaker c.close.result (λ e. subst (Advances c.args.all.now s) (sym e) (closed-less c.args.all.now s x c.requires.search c.requires.some (sym start.0) c.in-None.ensures.none)) c.close.ensures
