use Rattle.std.proofs.Common.{◌≡◌, ◌∙◌, Ok, sym, subst, arith}
use Rattle.sv_tree.specs.declared.design.ParamWord.TheVariants as param_word
use Rattle.sv_meaning.specs.Faults.{Judged}
use Rattle.sv_meaning.specs.Params.{ParamKind, kept}
use Rattle.sv_types.specs.Types.{Refused}
use Rattle.sv_types.specs.Values.{kind_is}
use Rattle.sv_levels.specs.Levels.{levels_are}
use Rattle.sv_hierarchy.specs.Scopes as m
use Rattle.sv_walk.specs.Walks.{state_of}
use Rattle.sv_walk.proofs.Declaring.{handed}
use Rattle.sv_walk.proofs.DeclaringParams.{header_walked, header_refused, header_untyped, header_end}
use Rattle.sv_walk.proofs.walker.Walker.header_params.Goals as goal

pub returns-in_err-kind : goal.returns-in_err-kind
returns-in_err-kind c =
    let p = c.port-item.result in
    header_untyped c.list.word (kind_is c.list.kind) c.args.list.now c.list.port-index p (m.header_params param_word.Parameter kept c.args.list.now (state_of c.args.self.now c.args.current.now)) c.list.self c.list.current c.from_residual.result c.in_err-kind.field-0.0
    c.list-test.true c.port-item.is c.list.invariant c.from_residual.ensures.1
    (subst (λ (j : Judged ParamKind). Refused j c.in_err-kind.field-0.0) (λ i. m.kind_or p.word p.form (kind_is c.list.kind) (m.seen_at (levels_are c.list.self.levels) (c.here-at.ensures i))) c.in_err-kind.ensures)

pub list-preserved : goal.list-preserved
list-preserved c =
    let p = c.port-item.result in
    let k = kind_is c.in_ok-kind.kind in
    let is : m.kind_or p.word p.form (kind_is c.list.kind) (m.seen (state_of c.list.self c.list.current)) ≡ Ok k =
    sym (λ i. m.kind_or p.word p.form (kind_is c.list.kind) (m.seen_at (levels_are c.list.self.levels) (c.here-at.ensures i))) ∙ c.in_ok-kind.ensures in
    header_walked c.list.word c.entry_word-word.result (kind_is c.list.kind) k c.args.list.now c.list.port-index p (m.header_params param_word.Parameter kept c.args.list.now (state_of c.args.self.now c.args.current.now)) c.list.self c.add_param.new.self c.list.current c.add_param.new.current tt
    c.list-test.true c.port-item.is c.entry_word-word.ensures is c.list.invariant c.in_ok-add_param.ensures

pub returns-in_err-add_param : goal.returns-in_err-add_param
returns-in_err-add_param c =
    let p = c.port-item.result in
    let k = kind_is c.in_ok-kind.kind in
    let is : m.kind_or p.word p.form (kind_is c.list.kind) (m.seen (state_of c.list.self c.list.current)) ≡ Ok k =
    sym (λ i. m.kind_or p.word p.form (kind_is c.list.kind) (m.seen_at (levels_are c.list.self.levels) (c.here-at.ensures i))) ∙ c.in_ok-kind.ensures in
    let whole = m.header_params param_word.Parameter kept c.args.list.now (state_of c.args.self.now c.args.current.now) in
    handed whole c.add_param.new.self c.add_param.new.self c.add_param.new.current c.add_param.new.current c.from_residual-in_err-add_param.result c.in_err-add_param.field-0.0 c.from_residual-in_err-add_param.ensures.1
    (header_refused c.list.word c.entry_word-word.result (kind_is c.list.kind) k c.args.list.now c.list.port-index p whole c.list.self c.add_param.new.self c.list.current c.add_param.new.current c.in_err-add_param.field-0.0
    c.list-test.true c.port-item.is c.entry_word-word.ensures is c.list.invariant c.in_err-add_param.ensures)

pub returns : goal.returns
returns c =
    header_end c.list.word (kind_is c.list.kind) c.args.list.now c.list.port-index (m.header_params param_word.Parameter kept c.args.list.now (state_of c.args.self.now c.args.current.now)) c.list.self c.list.current tt (omega (arith, c.list-test.false)) c.list.invariant
