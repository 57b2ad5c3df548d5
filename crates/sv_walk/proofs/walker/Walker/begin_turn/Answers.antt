use Rattle.std.proofs.Common.{◌≡◌, ◌∙◌, ◌∷◌, [], suc, Result, Ok, Err, refl, sym}
use Rattle.sv_names.specs.Kinds.{entries_are}
use Rattle.sv_outside.specs.declared.refusal.TextErr.{TextErr}
use Rattle.sv_meaning.specs.Deeds.{index_entry, turn_faults}
use Rattle.sv_hierarchy.specs.Scopes.{State, count_turn, inner, turn_name}
use Rattle.sv_walk.specs.Items.{opened_turn}
use Rattle.sv_walk.specs.Walks.{state_of}
use Rattle.sv_walk.proofs.Declaring.{ran_out}
use Rattle.sv_walk.proofs.Walking.{ended, handed}
use Rattle.sv_walk.proofs.WalkingBlocks.{answers_by, provided_handed, provided_ok, turn_opened}
use Rattle.sv_walk.proofs.walker.Walker.begin_turn.Goals as goal

pub returns-in_err-self : goal.returns-in_err-self
returns-in_err-self c =
    let s = state_of c.args.self.now c.args.current.now in
    let e = c.in_err-self.field-0.0 in
    let counted : Result (Unit {0}) TextErr = Err e in
    handed (λ st u. st ≡ s) _ (count_turn c.args.place s) (λ (x : State). Ok (inner (turn_name c.args.name.now c.args.bits) (index_entry c.args.variable.now.text c.args.bits ∷ []) x)) counted e c.from_residual.result refl
    (provided_handed (λ n t. (t.turns ≡ n) × (t.bits ≡ c.args.self.now.tally.bits)) (λ st u. st ≡ s) (turn_faults c.args.place s.turns) (suc s.turns) (record s { turns = suc s.turns }) c.with_turn.result e counted c.in_err-self.was c.with_turn.ensures refl)
    c.from_residual.ensures.1

pub returns : goal.returns
returns c =
    let s = state_of c.args.self.now c.args.current.now in
    let x = state_of (record c.args.self.now { tally = c.in_ok-self.field-0 }) c.args.current.now in
    answers_by (state_of c.begin.new.self) (opened_turn c.args.place c.args.name.now c.args.variable.now.text c.args.bits s) c.in_ok-block.block
    (turn_opened c.args.place c.args.name.now c.args.variable.now.text c.args.bits s x (state_of c.begin.new.self c.in_ok-block.block) c.bytes.result.now (entries_are c.in_ok-nets.nets)
    (ended x (count_turn c.args.place s) (tt {0})
    (provided_ok (λ n t. (t.turns ≡ n) × (t.bits ≡ c.args.self.now.tally.bits)) (λ st u. st ≡ x) (turn_faults c.args.place s.turns) (suc s.turns) (record s { turns = suc s.turns }) c.in_ok-self.field-0 (tt {0}) c.in_ok-self.ensures
    (λ h. λ i. record s { turns = sym h.0 i; bits = sym h.1 i })))
    c.in_ok-block.ensures (c.bytes.ensures ∙ c.in_ok-part.ensures) c.in_ok-nets.ensures)

pub returns-in_err-part : goal.returns-in_err-part
returns-in_err-part c = ran_out _ (opened_turn c.args.place c.args.name.now c.args.variable.now.text c.args.bits (state_of c.args.self.now c.args.current.now)) c.from_residual-in_err-part.result c.from_residual-in_err-part.ensures.1

pub returns-in_err-nets : goal.returns-in_err-nets
returns-in_err-nets c = ran_out _ (opened_turn c.args.place c.args.name.now c.args.variable.now.text c.args.bits (state_of c.args.self.now c.args.current.now)) c.from_residual-in_err-nets.result c.from_residual-in_err-nets.ensures.1

pub returns-in_err-block : goal.returns-in_err-block
returns-in_err-block c = ran_out _ (opened_turn c.args.place c.args.name.now c.args.variable.now.text c.args.bits (state_of c.args.self.now c.args.current.now)) c.from_residual-in_err-block.result c.from_residual-in_err-block.ensures.1
