use Rattle.std.proofs.lemmas.Result.{IfOk-from_err}
use Rattle.std.proofs.Common.{◌++◌, get_or, map, take, sym, ap, ◌∙◌, arith}
use Rattle.std.proofs.lemmas.List.{map-append, take_all}
use Rattle.lhs_alias.specs.Segs.{seg_bits, lhs_bits}
use Rattle.lhs_alias.specs.Joined.{all_bits, bits_from}
use Rattle.lhs_alias.proofs.Row.{all_bits-take_more}
use Rattle.event_nets.specs.Tables.{home_of}
use Rattle.event_nets.proofs.lay.all_homes.Goals as goal

pub loop-wire-init : goal.loop-wire-init
unfolding all_bits bits_from
loop-wire-init c = λ links s. c.new-homes.ensures.items

pub loop-wire-preserved : goal.loop-wire-preserved
loop-wire-preserved c = λ links s.
    let widths = c.args.widths.now in
    let i = c.loop-wire.wire in
    let home = home_of links widths in
    let front = all_bits (take i widths) in
    let here = seg_bits (record { wire = i; lo = 0; width = get_or widths i 0 }) in
    c.in_ok-put_homes.ensures.homes links s
    ∙ ap (λ ws. c.loop-wire.homes.items ++ map (home_of links ws) (lhs_bits c.in_ok-whole.whole)) c.requires.joins
    ∙ ap (λ l. l ++ map home (lhs_bits c.in_ok-whole.whole)) (c.loop-wire.invariant links s)
    ∙ ap (λ w. map home front ++ map home (lhs_bits w)) c.in_ok-whole.ensures
    ∙ sym (map-append home front here)
    ∙ ap (λ l. map home l) (sym (all_bits-take_more widths i 0 (omega arith)))

pub returns-in_err-put_homes : goal.returns-in_err-put_homes
returns-in_err-put_homes c = IfOk-from_err _ _ c.from_residual-in_err-put_homes.ensures.0

pub returns-in_err-whole : goal.returns-in_err-whole
returns-in_err-whole c = IfOk-from_err _ _ c.from_residual.ensures.0

pub bounds-widths-wire : goal.bounds-widths-wire
bounds-widths-wire c = c.loop-wire-test.true

pub returns : goal.returns
returns c = λ links s.
    c.loop-wire.invariant links s ∙ ap (λ ws. map (home_of links c.args.widths.now) (all_bits ws)) (take_all c.loop-wire.wire c.args.widths.now c.loop-wire-test.false)

pub put_homes-requires-clause-fits : goal.put_homes-requires-clause-fits
put_homes-requires-clause-fits c = rw c.requires.joins c.requires.fits

pub put_homes-requires-clause-starts : goal.put_homes-requires-clause-starts
put_homes-requires-clause-starts c = rw c.requires.joins c.requires.starts
