use Rattle.std.proofs.Common.{◌≡◌, ◌∙◌, ◌+◌, ◌-◌, length, sym, ap, subst, Ok, Err, arith}
use Rattle.std.proofs.lemmas.List.{length_push}
use Rattle.std.proofs.lemmas.Result.{err_from_is_err_and}
use Rattle.sv_meaning.specs.Layouts.{Scope}
use Rattle.sv_meaning.specs.Deeds.{turns_from, most_turns, next_value, holds_at, with_index}
use Rattle.sv_names.specs.Names.{constants_are}
use Rattle.sv_loops.specs.Answers.{Gives}
use Rattle.sv_loops.proofs.Chains.{behind, if_taken, is_taken, turns_begin, turn_more, turn_refused, test_refused, too_long, all_taken}
use Rattle.sv_outside.specs.declared.refusal.TextErr.TheVariants.{No}
use Rattle.sv_names.proofs.Places.{same_constants}
use Rattle.sv_loops.proofs.runs.turns_from.Goals as goal

pub turns-init : goal.turns-init
turns-init c = record {
  wide = c.requires;
  most = omega (arith, ap length c.new-values.ensures);
  loops = c.in_ok-taken.ensures.loops;
  frames = c.in_ok-taken.ensures.frames;
  rest = turns_begin c.args.place (constants_are c.args.names.now) c.args.variable.now.text c.args.test.now c.args.next.now c.args.first c.in_ok-taken.taken c.in_ok-taken.ensures.is
      ∙ ap (λ vs. behind vs (if_taken c.in_ok-taken.taken (4096 - length vs) c.args.place (constants_are c.args.names.now) c.args.variable.now.text c.args.test.now c.args.next.now c.args.first)) (sym c.new-values.ensures);
}

pub returns-then-len-eq-MOST_TURNS-clause-is : goal.returns-then-len-eq-MOST_TURNS-clause-is
returns-then-len-eq-MOST_TURNS-clause-is c =
    subst (λ e. Gives (turns_from most_turns c.args.place (constants_are c.args.names.now) c.args.variable.now.text c.args.test.now c.args.next.now c.args.first) (Err (No e))) (sym c.refusal.ensures)
    (too_long (turns_from most_turns c.args.place (constants_are c.args.names.now) c.args.variable.now.text c.args.test.now c.args.next.now c.args.first) c.turns.values (4096 - length c.turns.values) c.args.place (constants_are c.args.names.now) c.args.variable.now.text c.args.test.now c.args.next.now c.turns.bits
    (omega (arith, c.len.ensures, c.if-len-eq-MOST_TURNS.true)) (is_taken (turns_from most_turns c.args.place (constants_are c.args.names.now) c.args.variable.now.text c.args.test.now c.args.next.now c.args.first) c.turns.values c.turns.taken (4096 - length c.turns.values) c.args.place (constants_are c.args.names.now) c.args.variable.now.text c.args.test.now c.args.next.now c.turns.bits c.turns-test.true c.turns.invariant.rest))

pub returns-then-len-eq-MOST_TURNS-clause-loops : goal.returns-then-len-eq-MOST_TURNS-clause-loops
returns-then-len-eq-MOST_TURNS-clause-loops c = c.turns.invariant.loops

pub returns-in_err-push-clause-loops : goal.returns-in_err-push-clause-loops
returns-in_err-push-clause-loops c = c.turns.invariant.loops

pub following-requires : goal.following-requires
following-requires c = c.turns.invariant.wide

pub returns-in_err-value-clause-is : goal.returns-in_err-value-clause-is
returns-in_err-value-clause-is c =
    let p = err_from_is_err_and c.from_residual-in_err-value.result c.from_residual-in_err-value.ensures.1 in
    rw (p.1, p.2)
    (turn_refused (turns_from most_turns c.args.place (constants_are c.args.names.now) c.args.variable.now.text c.args.test.now c.args.next.now c.args.first) c.turns.values (4096 - length c.turns.values) (4095 - length c.turns.values) c.args.place (constants_are c.args.names.now) c.args.variable.now.text c.args.test.now c.args.next.now c.turns.bits c.in_err-value.field-0.0
    (omega (arith, c.len.ensures, c.if-len-eq-MOST_TURNS.false, c.turns.invariant.most)) (is_taken (turns_from most_turns c.args.place (constants_are c.args.names.now) c.args.variable.now.text c.args.test.now c.args.next.now c.args.first) c.turns.values c.turns.taken (4096 - length c.turns.values) c.args.place (constants_are c.args.names.now) c.args.variable.now.text c.args.test.now c.args.next.now c.turns.bits c.turns-test.true c.turns.invariant.rest)
    (subst (λ (a : Scope). Gives (next_value (with_index a c.args.variable.now.text c.turns.bits) c.turns.bits c.args.next.now) (Err c.in_err-value.field-0.0)) (same_constants c.turns.names c.args.names.now c.turns.invariant.frames c.turns.invariant.loops)
    (subst (Gives (next_value (with_index (constants_are c.turns.names) c.args.variable.now.text c.turns.bits) c.turns.bits c.args.next.now)) c.in_err-value.was c.following.ensures.is)))

pub returns-in_err-value-clause-loops : goal.returns-in_err-value-clause-loops
returns-in_err-value-clause-loops c = c.following.ensures.loops ∙ c.turns.invariant.loops

pub returns-in_err-taken-2-clause-is : goal.returns-in_err-taken-2-clause-is
returns-in_err-taken-2-clause-is c =
    let p = err_from_is_err_and c.from_residual-in_err-taken-2.result c.from_residual-in_err-taken-2.ensures.1 in
    rw (p.1, p.2)
    (test_refused (turns_from most_turns c.args.place (constants_are c.args.names.now) c.args.variable.now.text c.args.test.now c.args.next.now c.args.first) c.turns.values (4096 - length c.turns.values) (4095 - length c.turns.values) c.args.place (constants_are c.args.names.now) c.args.variable.now.text c.args.test.now c.args.next.now c.turns.bits c.in_ok-value.value c.in_err-taken-2.field-0.0
    (omega (arith, c.len.ensures, c.if-len-eq-MOST_TURNS.false, c.turns.invariant.most)) (is_taken (turns_from most_turns c.args.place (constants_are c.args.names.now) c.args.variable.now.text c.args.test.now c.args.next.now c.args.first) c.turns.values c.turns.taken (4096 - length c.turns.values) c.args.place (constants_are c.args.names.now) c.args.variable.now.text c.args.test.now c.args.next.now c.turns.bits c.turns-test.true c.turns.invariant.rest)
    (subst (λ (a : Scope). Gives (next_value (with_index a c.args.variable.now.text c.turns.bits) c.turns.bits c.args.next.now) (Ok c.in_ok-value.value)) (same_constants c.turns.names c.args.names.now c.turns.invariant.frames c.turns.invariant.loops) c.in_ok-value.ensures.is)
    (subst (λ (a : Scope). Gives (holds_at a c.args.variable.now.text c.args.test.now c.in_ok-value.value) (Err c.in_err-taken-2.field-0.0)) (same_constants c.following.new.names c.args.names.now (c.following.ensures.frames ∙ c.turns.invariant.frames) (c.following.ensures.loops ∙ c.turns.invariant.loops))
    (subst (Gives (holds_at (constants_are c.following.new.names) c.args.variable.now.text c.args.test.now c.in_ok-value.value)) c.in_err-taken-2.was c.holds_at-in-turns.ensures.is)))

pub returns-in_err-taken-2-clause-loops : goal.returns-in_err-taken-2-clause-loops
returns-in_err-taken-2-clause-loops c = c.holds_at-in-turns.ensures.loops ∙ c.following.ensures.loops ∙ c.turns.invariant.loops

pub turns-smaller : goal.turns-smaller
turns-smaller c =
    let e : length c.push.new.self ≡ length c.turns.values + 1 = ap length c.in_ok-push.ensures.ok ∙ length_push c.turns.values c.turns.bits in
    omega (arith, e, c.len.ensures, c.if-len-eq-MOST_TURNS.false, c.turns.invariant.most)

pub turns-preserved : goal.turns-preserved
turns-preserved c =
    let e : length c.push.new.self ≡ length c.turns.values + 1 = ap length c.in_ok-push.ensures.ok ∙ length_push c.turns.values c.turns.bits in
    record {
      wide = c.in_ok-value.ensures.width;
      most = omega (arith, e, c.len.ensures, c.if-len-eq-MOST_TURNS.false, c.turns.invariant.most);
      loops = c.holds_at-in-turns.ensures.loops ∙ c.following.ensures.loops ∙ c.turns.invariant.loops;
      frames = c.holds_at-in-turns.ensures.frames ∙ c.following.ensures.frames ∙ c.turns.invariant.frames;
      rest = turn_more (turns_from most_turns c.args.place (constants_are c.args.names.now) c.args.variable.now.text c.args.test.now c.args.next.now c.args.first) c.turns.values (4096 - length c.turns.values) (4096 - length c.push.new.self) c.args.place (constants_are c.args.names.now) c.args.variable.now.text c.args.test.now c.args.next.now c.turns.bits c.in_ok-value.value c.in_ok-taken-2.taken
          (omega (arith, e, c.len.ensures, c.if-len-eq-MOST_TURNS.false, c.turns.invariant.most)) (is_taken (turns_from most_turns c.args.place (constants_are c.args.names.now) c.args.variable.now.text c.args.test.now c.args.next.now c.args.first) c.turns.values c.turns.taken (4096 - length c.turns.values) c.args.place (constants_are c.args.names.now) c.args.variable.now.text c.args.test.now c.args.next.now c.turns.bits c.turns-test.true c.turns.invariant.rest)
          (subst (λ (a : Scope). Gives (next_value (with_index a c.args.variable.now.text c.turns.bits) c.turns.bits c.args.next.now) (Ok c.in_ok-value.value)) (same_constants c.turns.names c.args.names.now c.turns.invariant.frames c.turns.invariant.loops) c.in_ok-value.ensures.is)
          (subst (λ (a : Scope). Gives (holds_at a c.args.variable.now.text c.args.test.now c.in_ok-value.value) (Ok c.in_ok-taken-2.taken)) (same_constants c.following.new.names c.args.names.now (c.following.ensures.frames ∙ c.turns.invariant.frames) (c.following.ensures.loops ∙ c.turns.invariant.loops)) c.in_ok-taken-2.ensures.is)
          ∙ ap (λ vs. behind vs (if_taken c.in_ok-taken-2.taken (4096 - length c.push.new.self) c.args.place (constants_are c.args.names.now) c.args.variable.now.text c.args.test.now c.args.next.now c.in_ok-value.value)) (sym c.in_ok-push.ensures.ok);
    }

pub returns-clause-is : goal.returns-clause-is
returns-clause-is c = all_taken (turns_from most_turns c.args.place (constants_are c.args.names.now) c.args.variable.now.text c.args.test.now c.args.next.now c.args.first) c.turns.values (4096 - length c.turns.values) c.args.place (constants_are c.args.names.now) c.args.variable.now.text c.args.test.now c.args.next.now c.turns.bits c.turns.taken c.turns-test.false c.turns.invariant.rest

pub returns-clause-loops : goal.returns-clause-loops
returns-clause-loops c = c.turns.invariant.loops

pub returns-then-len-eq-MOST_TURNS-clause-frames : goal.returns-then-len-eq-MOST_TURNS-clause-frames
returns-then-len-eq-MOST_TURNS-clause-frames c = c.turns.invariant.frames

pub returns-in_err-push-clause-frames : goal.returns-in_err-push-clause-frames
returns-in_err-push-clause-frames c = c.turns.invariant.frames

pub returns-in_err-value-clause-frames : goal.returns-in_err-value-clause-frames
returns-in_err-value-clause-frames c = c.following.ensures.frames ∙ c.turns.invariant.frames

pub returns-in_err-taken-2-clause-frames : goal.returns-in_err-taken-2-clause-frames
returns-in_err-taken-2-clause-frames c = c.holds_at-in-turns.ensures.frames ∙ c.following.ensures.frames ∙ c.turns.invariant.frames

pub returns-clause-frames : goal.returns-clause-frames
returns-clause-frames c = c.turns.invariant.frames
