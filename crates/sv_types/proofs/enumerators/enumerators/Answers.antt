use Rattle.std.proofs.Common.{◌+◌, List, [], ◌∷◌, ◌++◌, map, drop, sym, subst, arith, ℤ, pos}
use Rattle.std.specs.Option.{option_copied}
use Rattle.std.proofs.lemmas.Result.{err_from_is_err_and}
use Rattle.sv_meaning.specs.Layouts.{with_names}
use Rattle.sv_meaning.specs.Forms.{entries_of, label_entry}
use Rattle.sv_names.specs.Names.{constants_are}
use Rattle.sv_types.specs.declared.enumerators.Enumerator.{Enumerator}
use Rattle.sv_types.specs.Types.{whole_is, all_declared, pushed, IsAbove}
use Rattle.sv_types.proofs.Above.{above_none, above_names, left_then}
use Rattle.sv_types.proofs.Labels.{Counts, counts_begin, counts_go, counts_end, counts_number, counts_entry, number_ok, number_err, entry_of_result, entry_refused, above_more}
use Rattle.sv_types.proofs.enumerators.enumerators.Goals as goal

pub returns-in_err-number : goal.returns-in_err-number
returns-in_err-number c =
    let p = err_from_is_err_and c.from_residual.result c.from_residual.ensures.1 in
    let at = constants_are c.args.names.now in
    let done = c.labels.declared in
    let e = c.in_err-number.field-0.0 in
    let x = c.label-item.result in
    let here = above_names c.args.names.now c.labels.names done c.labels.invariant.names in
    rw (p.1, p.2) (record {
      cause = counts_number at c.args.width c.args.signed c.args.all.now done (whole_is c.labels.next) c.labels.label-index x e c.labels-test.true c.label-item.is
          (number_err (constants_are c.labels.names) (with_names at (entries_of (all_declared done))) c.args.width (whole_is c.labels.next) x.value (option_copied c.as_ref.result) c.label_number.result e c.in_err-number.was here c.as_ref.ensures.value c.label_number.ensures)
          c.labels.invariant.counts;
      left = (map pushed done, c.labels.invariant.names);
    })

pub returns-in_err-constant : goal.returns-in_err-constant
returns-in_err-constant c =
    let p = err_from_is_err_and c.from_residual-in_err-constant.result c.from_residual-in_err-constant.ensures.1 in
    let at = constants_are c.args.names.now in
    let done = c.labels.declared in
    let e = c.in_err-constant.field-0.0 in
    let x = c.label-item.result in
    let n = c.in_ok-number.number in
    let here = above_names c.args.names.now c.labels.names done c.labels.invariant.names in
    rw (p.1, p.2) (record {
      cause = counts_entry at c.args.width c.args.signed c.args.all.now done (whole_is c.labels.next) (whole_is n) c.labels.label-index x e c.labels-test.true c.label-item.is
          (number_ok (constants_are c.labels.names) (with_names at (entries_of (all_declared done))) c.args.width (whole_is c.labels.next) x.value (option_copied c.as_ref.result) c.label_number.result n c.in_ok-number.was here c.as_ref.ensures.value c.label_number.ensures)
          (entry_refused (label_entry c.args.width c.args.signed x.name (whole_is n)) c.label_entry.result e c.in_err-constant.was c.label_entry.ensures.is)
          c.labels.invariant.counts;
      left = (map pushed done, c.labels.invariant.names);
    })

pub labels-preserved : goal.labels-preserved
labels-preserved c =
    let at = constants_are c.args.names.now in
    let done = c.labels.declared in
    let x = c.label-item.result in
    let n = c.in_ok-number.number in
    let e = c.in_ok-constant.constant in
    let i = c.labels.label-index in
    let here = above_names c.args.names.now c.labels.names done c.labels.invariant.names in
    record {
      names = above_more c.args.names.now c.labels.names c.declare.new.names done c.declare.new.declared e c.in_ok-declare.ensures.ok c.labels.invariant.names c.in_ok-declare.ensures.above;
      counts = subst (λ (z : List Enumerator). Counts at c.args.width c.args.signed c.args.all.now z (whole_is c.next-next.result) (drop (i + 1) c.args.all.now)) (sym c.in_ok-declare.ensures.ok)
          (subst (λ (z : ℤ). Counts at c.args.width c.args.signed c.args.all.now (done ++ e ∷ []) z (drop (i + 1) c.args.all.now)) (sym c.next-next.ensures)
          (counts_go at c.args.width c.args.signed c.args.all.now done (whole_is c.labels.next) (whole_is n) i (i + 1) x e c.labels-test.true (omega arith) c.label-item.is
          (number_ok (constants_are c.labels.names) (with_names at (entries_of (all_declared done))) c.args.width (whole_is c.labels.next) x.value (option_copied c.as_ref.result) c.label_number.result n c.in_ok-number.was here c.as_ref.ensures.value c.label_number.ensures)
          (entry_of_result (label_entry c.args.width c.args.signed x.name (whole_is n)) c.label_entry.result e c.in_ok-constant.was c.label_entry.ensures.is)
          c.labels.invariant.counts));
    }

pub returns : goal.returns
returns c = record {
  is = counts_end (constants_are c.args.names.now) c.args.width c.args.signed c.args.all.now c.labels.declared (whole_is c.labels.next) c.labels.label-index c.labels-test.false c.labels.invariant.counts;
  names = c.labels.invariant.names;
}

pub labels-init : goal.labels-init
labels-init c =
    let names = c.args.names.now in
    let at = constants_are names in
    record {
      names = subst (λ (z : List Enumerator). IsAbove names names (map pushed z)) (sym c.new-declared.ensures) (above_none names);
      counts = subst (λ (z : List Enumerator). Counts at c.args.width c.args.signed c.args.all.now z (pos 0) c.args.all.now) (sym c.new-declared.ensures) (counts_begin at c.args.width c.args.signed c.args.all.now);
    }

pub next-next-requires-clause-held : goal.next-next-requires-clause-held
next-next-requires-clause-held c = c.in_ok-constant.ensures.held

pub next-next-requires-clause-most : goal.next-next-requires-clause-most
next-next-requires-clause-most c = c.requires.most

pub label_entry-requires-clause-some : goal.label_entry-requires-clause-some
label_entry-requires-clause-some c = c.requires.some

pub label_entry-requires-clause-most : goal.label_entry-requires-clause-most
label_entry-requires-clause-most c = c.requires.most

pub returns-in_err-declare : goal.returns-in_err-declare
returns-in_err-declare c =
    let p = err_from_is_err_and c.from_residual-in_err-declare.result c.from_residual-in_err-declare.ensures.1 in
    rw (p.1, p.2) (record { cause = tt; left = left_then c.args.names.now c.labels.names c.declare.new.names (map pushed c.labels.declared) c.labels.invariant.names c.in_err-declare.ensures.err })
