use Rattle.std.proofs.Common.{◌≡◌, ◌-◌, length, get_or, ap, arith}
use Rattle.std.proofs.lemmas.List.{get_or_read}
use Rattle.dep_groups.proofs.Uniting.{unites-of}
use Rattle.dep_groups.proofs.finder.unite.Goals as goal

pub returns : goal.returns
returns c =
    let new = c.starts.starts.items in
    let i = c.starts.invariant in
    let long : c.len.result ≡ length new = omega (arith, c.len.ensures, c.starts.starts.ok.0) in
    let last = get_or_read new (c.len.result - 1) c.index.result.now (omega (arith, long, i.some)) c.index.ensures 0 in
    unites-of c.args.at c.args.starts.now.items new c.requires i.front i.some i.fewer i.dropped
    (let same : get_or new (c.len.result - 1) 0 ≡ get_or new (length new - 1) 0 = ap (λ n. get_or new (n - 1) 0) long in omega (arith, last, same, c.starts-test.false))
