use Rattle.std.proofs.Common.{ℕ, List, Bool, Vec, Global, length, sym, ap, ◌∙◌, subst}
use Rattle.std.proofs.lemmas.Result.{IfOk-from_err}
use Rattle.svex_arena.specs.Marks.{IsClosed, HasRoots}
use Rattle.svex_arena.proofs.Keeping.{extends_self, if_ok}
use Rattle.svex_arena.proofs.Substituting.{nothing_answered, reached_answered, roots_replaced, roots_replaced_by_named}
use Rattle.svex_arena.proofs.arena.Arena.substitute.Goals as goal

pub substitute_marked-answers-requires-clause-within : goal.substitute_marked-answers-requires-clause-within
substitute_marked-answers-requires-clause-within c = c.requires

pub substitute_marked-answers-requires-clause-start : goal.substitute_marked-answers-requires-clause-start
substitute_marked-answers-requires-clause-start c =
    let now = c.args.self.now in
    let value = c.deref.ensures.value in
    nothing_answered c.args.by.now now c.deref.result.now c.len.ensures.arena (ap (λ (l : List Bool). length l) value ∙ c.in_ok-marks.ensures.len)
    (subst (λ (l : List Bool). IsClosed now l 0) (sym value) c.in_ok-marks.ensures.closed)

pub substitute_marked-answers-requires-clause-rooted : goal.substitute_marked-answers-requires-clause-rooted
substitute_marked-answers-requires-clause-rooted c =
    subst (λ (l : List Bool). HasRoots c.args.roots.now l (length c.args.roots.now)) (sym c.deref.ensures.value) c.in_ok-marks.ensures.roots

pub returns-clause-answers : goal.returns-clause-answers
returns-clause-answers c = if_ok {T = Vec ℕ Global} _ _ _ c.substitute_marked-answers.ensures.answers (λ v h.
    reached_answered c.args.self.now c.args.by.now c.substitute_marked-answers.new.arena c.args.roots.now v.items c.requires c.substitute_marked-answers.ensures.extends h)

pub returns-clause-replaced : goal.returns-clause-replaced
returns-clause-replaced c = if_ok {T = Vec ℕ Global} _ _ _ c.substitute_marked-answers.ensures.answers (λ v h.
    roots_replaced c.args.self.now c.args.by.now c.substitute_marked-answers.new.arena c.args.roots.now v.items c.requires c.substitute_marked-answers.ensures.extends h)

pub returns-clause-named : goal.returns-clause-named
returns-clause-named c = if_ok {T = Vec ℕ Global} _ _ _ c.substitute_marked-answers.ensures.answers (λ v h.
    roots_replaced_by_named c.args.self.now c.args.by.now c.substitute_marked-answers.new.arena c.args.roots.now v.items c.requires c.len.ensures.arena
    (roots_replaced c.args.self.now c.args.by.now c.substitute_marked-answers.new.arena c.args.roots.now v.items c.requires c.substitute_marked-answers.ensures.extends h))

pub returns-clause-extends : goal.returns-clause-extends
returns-clause-extends c = c.substitute_marked-answers.ensures.extends

pub returns-clause-arena : goal.returns-clause-arena
returns-clause-arena c = c.len-2.ensures.arena

pub returns-in_err-marks-clause-answers : goal.returns-in_err-marks-clause-answers
returns-in_err-marks-clause-answers c = IfOk-from_err _ _ c.from_residual.ensures.0

pub returns-in_err-marks-clause-replaced : goal.returns-in_err-marks-clause-replaced
returns-in_err-marks-clause-replaced c = IfOk-from_err _ _ c.from_residual.ensures.0

pub returns-in_err-marks-clause-named : goal.returns-in_err-marks-clause-named
returns-in_err-marks-clause-named c = IfOk-from_err _ _ c.from_residual.ensures.0

pub returns-in_err-marks-clause-extends : goal.returns-in_err-marks-clause-extends
returns-in_err-marks-clause-extends c = extends_self c.args.self.now

pub returns-in_err-marks-clause-arena : goal.returns-in_err-marks-clause-arena
returns-in_err-marks-clause-arena c = c.len.ensures.arena
