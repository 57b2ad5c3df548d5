use Rattle.std.proofs.Common.{◌++◌, length, map, ap, ◌∙◌, arith}
use Rattle.std.proofs.lemmas.Result.{on_ok_weaker, IfOk-from_err}
use Rattle.lhs_alias.specs.Segs.{lhs_bits}
use Rattle.lhs_alias.specs.Joined.{widths_of}
use Rattle.event_nets.specs.Gifts.{gifts_at}
use Rattle.event_nets.specs.Tables.{home_of}
use Rattle.event_nets.proofs.lay.give.Goals as goal

pub put_gifts-requires : goal.put_gifts-requires
put_gifts-requires c =
    omega (arith, ap (λ l. length l) c.deref.ensures.value, c.in_ok-put_homes.ensures.len, ap (λ l. length l) c.new-places.ensures.items, c.requires.narrow)

pub returns : goal.returns
returns c =
    on_ok_weaker c.put_gifts.result
    (λ e links s.
    e
    ∙ ap (λ l. c.args.gifts.now.items ++ gifts_at c.args.from.now 0 l)
    (c.deref.ensures.value ∙ c.in_ok-put_homes.ensures.homes links s ∙ ap (λ l. l ++ map (home_of links (widths_of c.args.joins.now)) (lhs_bits c.args.to.now)) c.new-places.ensures.items))
    c.put_gifts.ensures

pub returns-in_err-put_homes : goal.returns-in_err-put_homes
returns-in_err-put_homes c = IfOk-from_err _ _ c.from_residual.ensures.0
