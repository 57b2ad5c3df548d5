use Rattle.std.proofs.lemmas.Option.{MatchOption-at_some}
use Rattle.std.proofs.lemmas.Result.{IfOk-from_err}
use Rattle.std.proofs.Common.{◌≡◌, ◌∷◌, [], ◌-◌, ◌+◌, suc, refl, arith, sym, ◌∙◌, ap, Some, None}
use Rattle.std.specs.Prelude.{option_map}
use Rattle.std.proofs.lemmas.Grind.{common_steps}
use Rattle.sv_preproc.specs.declared.error.ItemErr.TheVariants.{OutOfMemory}
use Rattle.sv_preproc.specs.declared.role.Role.TheVariants as role
use Rattle.sv_preproc.specs.Roles.{role_of}
use Rattle.sv_preproc.specs.Directives.{name_of}
use Rattle.sv_preproc.specs.Seen.{texts}
use Rattle.sv_preproc.specs.Reached.{Overruns}
use Rattle.sv_preproc.proofs.Errors.{handed_on, refused_as}
use Rattle.sv_preproc.proofs.Expanding.{at_start, one_kept, one_used, at_end, past_one_kept, past_one_used, overrun_many, overrun_foreign, overrun_unknown, overrun_deep, overrun_within}
use Rattle.sv_preproc.proofs.macros.+expand.Goals as goal

pub pieces-init : goal.pieces-init
pieces-init t c = record {
  so_far = at_start (texts c.args.macros.now) c.args.place c.args.depth c.args.text.now c.args.out.now.items c.args.counted;
  refuses = λ number h. h;
  within = c.requires;
}

pub pieces-preserved-in-Kept : goal.pieces-preserved-in-Kept
pieces-preserved-in-Kept t c =
    let whole : c.pieces.rest.now ≡ c.in-Some.first.now ∷ c.in-Some.after.now = (MatchOption-at_some _ _ _ c.in-Some.is c.split_first.ensures.cases).0 in
    let kept : role_of c.in-Some.first.now ≡ role.Kept = sym c.role_of.ensures ∙ c.in-Kept.is in
    record {
      so_far = one_kept (texts c.args.macros.now) c.args.place c.args.depth c.args.text.now c.args.out.now.items c.args.counted c.pieces.rest.now c.pieces.out.items c.pieces.total c.in-Some.first.now c.in-Some.after.now
          c.put_at.new.out.items _ c.pieces.invariant.so_far whole kept c.in_ok-put_at-in-Kept.ensures refl;
      refuses = past_one_kept (texts c.args.macros.now) c.args.place c.args.depth c.args.text.now c.args.counted c.pieces.rest.now c.pieces.total c.in-Some.first.now c.in-Some.after.now _ c.pieces.invariant.refuses whole kept refl;
      within = omega (arith, c.pieces.invariant.within, c.if-total-eq-MOST_COUNTED.false);
    }

pub pieces-preserved : goal.pieces-preserved
pieces-preserved t c =
    let whole : c.pieces.rest.now ≡ c.in-Some.first.now ∷ c.in-Some.after.now = (MatchOption-at_some _ _ _ c.in-Some.is c.split_first.ensures.cases).0 in
    let name : texts c.args.macros.now (name_of c.in-Some.first.now) ≡ Some c.in-Some-text.inner.now = rw (← c.name_of.ensures) (sym c.text.ensures ∙ ap (λ o. option_map (λ v. v.now) o) c.in-Some-text.is) in
    let used : role_of c.in-Some.first.now ≡ role.Used = sym c.role_of.ensures ∙ c.in-Used.is in
    let depth : c.args.depth ≡ suc (c.args.depth - 1) = omega (arith, c.if-depth-eq0.false) in
    record {
      so_far = one_used (texts c.args.macros.now) c.args.place c.args.depth (c.args.depth - 1) c.args.text.now c.args.out.now.items c.args.counted c.pieces.rest.now c.pieces.out.items c.pieces.total
          c.in-Some.first.now c.in-Some.after.now c.in-Some-text.inner.now c.expand.new.out.items c.in_ok-total-in-Used.total c.pieces.invariant.so_far whole used name depth c.in_ok-total-in-Used.ensures.written;
      refuses = past_one_used (texts c.args.macros.now) c.args.place c.args.depth (c.args.depth - 1) c.args.text.now c.args.counted c.pieces.rest.now c.pieces.out.items c.pieces.total
          c.in-Some.first.now c.in-Some.after.now c.in-Some-text.inner.now c.expand.new.out.items c.in_ok-total-in-Used.total c.pieces.invariant.refuses whole used name depth c.in_ok-total-in-Used.ensures.written;
      within = c.in_ok-total-in-Used.ensures.within;
    }

pub returns-clause-written : goal.returns-clause-written
returns-clause-written t c =
    let none : c.pieces.rest.now ≡ [] = grind (arith, common_steps) in
    at_end (texts c.args.macros.now) c.args.place c.args.depth c.args.text.now c.args.out.now.items c.args.counted c.pieces.rest.now c.pieces.out.items c.pieces.total c.pieces.invariant.so_far none

pub returns-then-total-eq-MOST_COUNTED-clause-refused : goal.returns-then-total-eq-MOST_COUNTED-clause-refused
returns-then-total-eq-MOST_COUNTED-clause-refused t c =
    let whole : c.pieces.rest.now ≡ c.in-Some.first.now ∷ c.in-Some.after.now = (MatchOption-at_some _ _ _ c.in-Some.is c.split_first.ensures.cases).0 in
    c.pieces.invariant.refuses 4 (overrun_many (texts c.args.macros.now) c.args.place c.args.depth c.pieces.rest.now c.pieces.total c.in-Some.first.now c.in-Some.after.now whole c.if-total-eq-MOST_COUNTED.true)

pub returns-in_default-text-clause-refused : goal.returns-in_default-text-clause-refused
returns-in_default-text-clause-refused t c =
    let whole : c.pieces.rest.now ≡ c.in-Some.first.now ∷ c.in-Some.after.now = (MatchOption-at_some _ _ _ c.in-Some.is c.split_first.ensures.cases).0 in
    let name : texts c.args.macros.now (name_of c.in-Some.first.now) ≡ None = rw (← c.name_of.ensures) (sym c.text.ensures ∙ ap (λ o. option_map (λ v. v.now) o) c.in_default-text.is) in
    c.pieces.invariant.refuses 6 (overrun_unknown (texts c.args.macros.now) c.args.place c.args.depth c.pieces.rest.now c.pieces.total c.in-Some.first.now c.in-Some.after.now whole (sym c.role_of.ensures ∙ c.in-Used.is) name)

pub returns-then-depth-eq0-clause-refused : goal.returns-then-depth-eq0-clause-refused
returns-then-depth-eq0-clause-refused t c =
    let whole : c.pieces.rest.now ≡ c.in-Some.first.now ∷ c.in-Some.after.now = (MatchOption-at_some _ _ _ c.in-Some.is c.split_first.ensures.cases).0 in
    let name : texts c.args.macros.now (name_of c.in-Some.first.now) ≡ Some c.in-Some-text.inner.now = rw (← c.name_of.ensures) (sym c.text.ensures ∙ ap (λ o. option_map (λ v. v.now) o) c.in-Some-text.is) in
    c.pieces.invariant.refuses 7 (overrun_deep (texts c.args.macros.now) c.args.place c.args.depth c.pieces.rest.now c.pieces.total c.in-Some.first.now c.in-Some-text.inner.now c.in-Some.after.now whole
    (sym c.role_of.ensures ∙ c.in-Used.is) name c.if-depth-eq0.true)

pub returns-in_err-total-in-Used-clause-refused : goal.returns-in_err-total-in-Used-clause-refused
returns-in_err-total-in-Used-clause-refused t c =
    let whole : c.pieces.rest.now ≡ c.in-Some.first.now ∷ c.in-Some.after.now = (MatchOption-at_some _ _ _ c.in-Some.is c.split_first.ensures.cases).0 in
    let name : texts c.args.macros.now (name_of c.in-Some.first.now) ≡ Some c.in-Some-text.inner.now = rw (← c.name_of.ensures) (sym c.text.ensures ∙ ap (λ o. option_map (λ v. v.now) o) c.in-Some-text.is) in
    let depth : c.args.depth ≡ suc (c.args.depth - 1) = omega (arith, c.if-depth-eq0.false) in
    handed_on c.from_residual-in_err-total-in-Used.result c.in_err-total-in-Used.field-0.0 _ c.from_residual-in_err-total-in-Used.ensures.1
    (refused_as (Overruns (texts c.args.macros.now) c.args.place (c.args.depth - 1) c.in-Some-text.inner.now (c.pieces.total + 1)) (Overruns (texts c.args.macros.now) c.args.place c.args.depth c.args.text.now c.args.counted)
    c.in_err-total-in-Used.field-0.0
    (λ number h. c.pieces.invariant.refuses number (overrun_within (texts c.args.macros.now) c.args.place c.args.depth (c.args.depth - 1) c.pieces.rest.now c.pieces.total c.in-Some.first.now c.in-Some-text.inner.now c.in-Some.after.now
    number whole (sym c.role_of.ensures ∙ c.in-Used.is) name depth h)) c.in_err-total-in-Used.ensures.refused)

pub returns-in_default-role_of : goal.returns-in_default-role_of
returns-in_default-role_of t c =
    let whole : c.pieces.rest.now ≡ c.in-Some.first.now ∷ c.in-Some.after.now = (MatchOption-at_some _ _ _ c.in-Some.is c.split_first.ensures.cases).0 in
    record {
      within = tt;
      written = tt;
      refused = c.pieces.invariant.refuses 6 (overrun_foreign (texts c.args.macros.now) c.args.place c.args.depth c.pieces.rest.now c.pieces.total c.in-Some.first.now c.in-Some.after.now whole
          (λ e. c.in_default-role_of.not-Kept (c.role_of.ensures ∙ e)) (λ e. c.in_default-role_of.not-Used (c.role_of.ensures ∙ e)));
    }

pub returns-in_err-put_at-in-Kept-clause-within : goal.returns-in_err-put_at-in-Kept-clause-within
returns-in_err-put_at-in-Kept-clause-within t c = IfOk-from_err _ _ c.from_residual.ensures.0

pub returns-in_err-put_at-in-Kept-clause-written : goal.returns-in_err-put_at-in-Kept-clause-written
returns-in_err-put_at-in-Kept-clause-written t c = IfOk-from_err _ _ c.from_residual.ensures.0

pub returns-in_err-put_at-in-Kept-clause-refused : goal.returns-in_err-put_at-in-Kept-clause-refused
returns-in_err-put_at-in-Kept-clause-refused t c = handed_on c.from_residual.result OutOfMemory _ c.from_residual.ensures.1 tt

pub returns-in_err-total-in-Used-clause-within : goal.returns-in_err-total-in-Used-clause-within
returns-in_err-total-in-Used-clause-within t c = IfOk-from_err _ _ c.from_residual-in_err-total-in-Used.ensures.0

pub returns-in_err-total-in-Used-clause-written : goal.returns-in_err-total-in-Used-clause-written
returns-in_err-total-in-Used-clause-written t c = IfOk-from_err _ _ c.from_residual-in_err-total-in-Used.ensures.0
