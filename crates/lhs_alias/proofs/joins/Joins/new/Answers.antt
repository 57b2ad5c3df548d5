use Rattle.std.proofs.Common.{◌≡◌, ◌≤◌, subst, ℕ, List, length, replicate, false, sym, ap, ◌∙◌, arith}
use Rattle.std.specs.Prelude.{All}
use Rattle.std.specs.List.{range_with_len}
use Rattle.std.proofs.lemmas.Grind.{common_steps}
use Rattle.std.proofs.lemmas.Result.{IfOk-from_err}
use Rattle.lhs_alias.specs.Joined.{starts_of, all_bits}
use Rattle.lhs_alias.proofs.Joining.{laid-new, stands-new}
use Rattle.lhs_alias.proofs.joins.Joins.new.Goals as goal

pub invariant_of-result : goal.invariant_of-result
invariant_of-result c =
    let widths = c.in_ok-copied.copied.items in
    let same : widths ≡ c.args.widths.now = grind (arith, common_steps) in
    let count : c.len.result ≡ length c.in_ok-starts.bits.items = grind (arith, common_steps) in
    laid-new widths c.in_ok-starts.starts.items c.in_ok-starts.bits.items c.in_ok-forest.forest c.in_ok-forest.joined.items
    (let P : List ℕ → Type 0 = All (λ width. (1 ≤ width) × (width ≤ 128)) in subst P (sym same) c.requires)
    (c.in_ok-starts.ensures.starts ∙ ap starts_of (sym same))
    (c.in_ok-starts.ensures.bits ∙ ap all_bits (sym same))
    (c.in_ok-forest.ensures.forest ∙ ap (λ n. range_with_len 0 n) count)
    (c.in_ok-forest.ensures.joined ∙ ap (λ (n : ℕ). replicate n false) count)

pub returns-clause-none : goal.returns-clause-none
returns-clause-none c =
    let widths = c.in_ok-copied.copied.items in
    let same : widths ≡ c.args.widths.now = grind (arith, common_steps) in
    let count : c.len.result ≡ length c.in_ok-starts.bits.items = grind (arith, common_steps) in
    stands-new widths c.in_ok-starts.bits.items c.in_ok-forest.forest c.in_ok-forest.joined.items
    (c.in_ok-starts.ensures.bits ∙ ap all_bits (sym same))
    (c.in_ok-forest.ensures.forest ∙ ap (λ n. range_with_len 0 n) count)
    (c.in_ok-forest.ensures.joined ∙ ap (λ (n : ℕ). replicate n false) count)

pub returns-in_err-starts-clause-widths : goal.returns-in_err-starts-clause-widths
returns-in_err-starts-clause-widths c = IfOk-from_err _ _ c.from_residual-in_err-starts.ensures.0

pub returns-in_err-starts-clause-none : goal.returns-in_err-starts-clause-none
returns-in_err-starts-clause-none c = IfOk-from_err _ _ c.from_residual-in_err-starts.ensures.0

pub returns-in_err-forest-clause-widths : goal.returns-in_err-forest-clause-widths
returns-in_err-forest-clause-widths c = IfOk-from_err _ _ c.from_residual-in_err-forest.ensures.0

pub returns-in_err-forest-clause-none : goal.returns-in_err-forest-clause-none
returns-in_err-forest-clause-none c = IfOk-from_err _ _ c.from_residual-in_err-forest.ensures.0

pub returns-in_err-copied-clause-widths : goal.returns-in_err-copied-clause-widths
returns-in_err-copied-clause-widths c = IfOk-from_err _ _ c.from_residual.ensures.0

pub returns-in_err-copied-clause-none : goal.returns-in_err-copied-clause-none
returns-in_err-copied-clause-none c = IfOk-from_err _ _ c.from_residual.ensures.0
