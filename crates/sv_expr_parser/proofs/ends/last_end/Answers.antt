use Rattle.std.proofs.Common.{◌≡◌, ◌+◌, take, sym, ◌∙◌, ap, arith}
use Rattle.sv_expr_parser.specs.Ends.{nothing_open, after, after_sort, all_after}
use Rattle.sv_expr_parser.proofs.Endings.{ends_next, few_open, next_last}
use Rattle.sv_expr_parser.proofs.ends.last_end.Goals as goal
use Rattle.sv_expr_parser.proofs.ends.last_end.Goals.{then-may_end, else-may_end}

pub loop-i-init : goal.loop-i-init
unfolding all_after
loop-i-init c = record { open_is = λ i. nothing_open; within = omega arith; last = λ n le can. le }

pub after-behind-requires-clause-brackets : goal.after-behind-requires-clause-brackets
after-behind-requires-clause-brackets c = let few = few_open c.args.tokens.now c.loop-i.i c.loop-i.behind c.loop-i.invariant.open_is in omega (arith, few.0)

pub after-behind-requires-clause-questions : goal.after-behind-requires-clause-questions
after-behind-requires-clause-questions c = let few = few_open c.args.tokens.now c.loop-i.i c.loop-i.behind c.loop-i.invariant.open_is in omega (arith, few.1)

pub loop-i-preserved : goal.loop-i-preserved
loop-i-preserved c =
    let e : c.after-behind.result ≡ all_after nothing_open (take (c.loop-i.i + 1) c.args.tokens.now) =
    c.after-behind.ensures ∙ (ap (λ x. after_sort x c.loop-i.behind) c.sort_of.ensures
    ∙ (ap (λ z. after z c.index-tokens-i.result) c.loop-i.invariant.open_is ∙ sym (ends_next c.args.tokens.now c.loop-i.i c.index-tokens-i.result c.loop-i-test.true c.index-tokens-i.is)))
    in
    elim c.if-may_end.branch [
      | then-may_end w ↦ record { open_is = e; within = omega (arith, w.last-is); last = λ n le can. omega (arith, w.last-is) }
      | else-may_end w ↦ record {
        open_is = e;
        within = omega (arith, w.last-is, c.loop-i.invariant.within);
        last = λ n le can.
            omega (arith, w.last-is, next_last c.args.tokens.now c.loop-i.i c.loop-i.last c.after-behind.result e (sym c.may_end.ensures ∙ w.if-may_end.false) c.loop-i.invariant.last n le can);
      }
    ]
