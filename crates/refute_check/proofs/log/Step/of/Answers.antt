use Rattle.std.proofs.Common.{List, subst, sym, ◌∙◌, ◌<◌}
use Rattle.std.specs.List.{All}
use Rattle.refute_check.specs.declared.number.Number.{Number}
use Rattle.refute_check.proofs.Packs.{row_small, entry_made}
use Rattle.refute_check.proofs.log.Step.of.Goals as goal

pub of-requires : goal.of-requires
of-requires c = subst (λ (ns : List Number). All (λ n. n.last < 128) ns) (sym (c.as_slice.ensures.value ∙ c.in_ok-numbers.ensures.numbers)) (row_small c.args.clause.now c.args.hints.now)

pub returns : goal.returns
returns c = entry_made c.args.clause.now c.args.hints.now _ _ _ c.in_ok-row.ensures c.as_slice.ensures.value c.in_ok-numbers.ensures.numbers
    c.in_ok-numbers.ensures.count c.in_ok-numbers.ensures.literals c.in_ok-numbers.ensures.hints
