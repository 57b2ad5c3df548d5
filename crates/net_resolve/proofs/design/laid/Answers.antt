use Rattle.std.proofs.lemmas.Result.{IfOk-from_err}
use Rattle.std.proofs.Common.{ℕ, List, length, sum, sym, ap, ◌∙◌, subst}
use Rattle.std.specs.Prelude.{Option}
use Rattle.lhs_alias.specs.declared.segs.Seg.{Seg}
use Rattle.lhs_alias.specs.Joined.{all_bits}
use Rattle.lhs_alias.proofs.Row.{length-all_bits}
use Rattle.driver_resolve.specs.declared.driver.NetEq.{NetEq}
use Rattle.driver_resolve.specs.Drivers.{widths_of}
use Rattle.net_resolve.specs.Laid.{AreEquations, HasFree}
use Rattle.net_resolve.proofs.Solving.{homes-long, lows-long}
use Rattle.net_resolve.proofs.Whole.{laid-free}
use Rattle.net_resolve.proofs.design.laid.Goals as goal

pub free_segs-requires-clause-bits : goal.free_segs-requires-clause-bits
free_segs-requires-clause-bits c = c.deref.ensures.value ∙ c.in_ok-bits.ensures

pub free_segs-requires-clause-homes : goal.free_segs-requires-clause-homes
free_segs-requires-clause-homes c =
    let flat = c.args.flat.now in
    ap (λ (l : List ℕ). length l) c.deref-2.ensures.value
    ∙ homes-long flat c.requires.tables.0 c.args.tables.now c.requires.tables.1
    ∙ length-all_bits (widths_of flat.wires)
    ∙ ap (λ (l : List ℕ). sum l) (sym c.requires.widths)

pub free_segs-requires-clause-lows : goal.free_segs-requires-clause-lows
free_segs-requires-clause-lows c =
    let flat = c.args.flat.now in
    ap (λ (l : List (Option ℕ)). length l) c.deref-3.ensures.value
    ∙ lows-long flat c.requires.tables.0 c.args.tables.now c.requires.tables.1
    ∙ length-all_bits (widths_of flat.wires)
    ∙ ap (λ (l : List ℕ). sum l) (sym c.requires.widths)

pub returns-clause-laid : goal.returns-clause-laid
returns-clause-laid c = λ over t.
    let flat = c.args.flat.now in
    let bits = c.deref.ensures.value ∙ c.in_ok-bits.ensures ∙ ap all_bits c.requires.widths in
    record {
      eqs = subst (λ (l : List NetEq). AreEquations flat over c.all_equations.new.flat.arena l) (sym c.from_vec.ensures) (c.in_ok-eqs.ensures.eqs over t);
      free = subst (λ (l : List Seg). HasFree flat over l) (sym c.from_vec-2.ensures)
          (laid-free flat over c.args.tables.now c.deref.result.now c.args.widths.now c.deref-2.result.now c.deref-3.result.now c.in_ok-free.free.items t bits c.requires.widths c.deref-2.ensures.value c.deref-3.ensures.value c.in_ok-free.ensures);
    }

pub returns-in_err-bits-clause-laid : goal.returns-in_err-bits-clause-laid
returns-in_err-bits-clause-laid c = IfOk-from_err _ _ c.from_residual.ensures.0

pub returns-in_err-eqs-clause-laid : goal.returns-in_err-eqs-clause-laid
returns-in_err-eqs-clause-laid c = IfOk-from_err _ _ c.from_residual-in_err-eqs.ensures.0

pub returns-in_err-free-clause-laid : goal.returns-in_err-free-clause-laid
returns-in_err-free-clause-laid c = IfOk-from_err _ _ c.from_residual-in_err-free.ensures.0
