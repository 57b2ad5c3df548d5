use Rattle.std.proofs.Common.{◌≡◌, Err, sym, ap, ◌∙◌}
use Rattle.sv_outside.specs.declared.refusal.TextErr.TheVariants.{No}
use Rattle.vcd_text.specs.Words.{words_from, past, words, start}
use Rattle.vcd_text.specs.Steps.{outcome, at_start}
use Rattle.vcd_text.proofs.Laws.{breaks, is_not_refused}
use Rattle.vcd_text.proofs.Declared.{Parted, read_stands, read_alone}
use Rattle.vcd_text.proofs.read.read_vcd.Goals as goal

pub returns-in-Ok-clause-stands : goal.returns-in-Ok-clause-stands
returns-in-Ok-clause-stands c =
    let d : Parted c.args.text.now c.in-Ok.vars c.read_declarations.new.cursor.place c.read_declarations.new.cursor.rest.now = record {
      scopes = c.in-Ok.ensures.told.0;
      is = ap (λ t. outcome (past start t) at_start (words t)) (sym c.new-cursor.ensures.rest)
          ∙ ap (λ p. outcome (past p c.new-cursor.result.rest.now) at_start (words_from p c.new-cursor.result.rest.now)) (sym c.new-cursor.ensures.place) ∙ c.in-Ok.ensures.told.1;
    } in
    read_stands c.args.text.now c.in-Ok.vars c.read_declarations.new.cursor.place c.read_declarations.new.cursor.rest.now c.read_changes.result d c.read_changes.ensures.told c.read_changes.ensures.ends

pub returns-in-Ok-clause-only : goal.returns-in-Ok-clause-only
returns-in-Ok-clause-only c vars changes w =
    let d : Parted c.args.text.now c.in-Ok.vars c.read_declarations.new.cursor.place c.read_declarations.new.cursor.rest.now = record {
      scopes = c.in-Ok.ensures.told.0;
      is = ap (λ t. outcome (past start t) at_start (words t)) (sym c.new-cursor.ensures.rest)
          ∙ ap (λ p. outcome (past p c.new-cursor.result.rest.now) at_start (words_from p c.new-cursor.result.rest.now)) (sym c.new-cursor.ensures.place) ∙ c.in-Ok.ensures.told.1;
    } in
    read_alone c.args.text.now c.in-Ok.vars c.read_declarations.new.cursor.place c.read_declarations.new.cursor.rest.now c.read_changes.result vars changes d c.read_changes.ensures.told c.read_changes.ensures.ends w

pub returns-in-Ok-clause-refused : goal.returns-in-Ok-clause-refused
returns-in-Ok-clause-refused c r e =
    let h = c.read_changes.ensures.refused r e in (
      breaks c.args.text.now r.place
          (ap (λ t. outcome (past start t) at_start (words t)) (sym c.new-cursor.ensures.rest)
          ∙ ap (λ p. outcome (past p c.new-cursor.result.rest.now) at_start (words_from p c.new-cursor.result.rest.now)) (sym c.new-cursor.ensures.place)
          ∙ c.in-Ok.ensures.told.1 ∙ h.0 c.in-Ok.ensures.told.0 c.in-Ok.vars),
      h.1,
    )

pub returns-in-Ok-clause-taken : goal.returns-in-Ok-clause-taken
returns-in-Ok-clause-taken c r e vars changes w =
    let h = c.read_changes.ensures.refused r e in
    is_not_refused c.args.text.now r.place vars changes
    (ap (λ t. outcome (past start t) at_start (words t)) (sym c.new-cursor.ensures.rest)
    ∙ ap (λ p. outcome (past p c.new-cursor.result.rest.now) at_start (words_from p c.new-cursor.result.rest.now)) (sym c.new-cursor.ensures.place)
    ∙ c.in-Ok.ensures.told.1 ∙ h.0 c.in-Ok.ensures.told.0 c.in-Ok.vars)
    w

pub returns-in-Err-clause-refused : goal.returns-in-Err-clause-refused
returns-in-Err-clause-refused c r e =
    let same : c.in-Err.e ≡ No r = cc in
    let h = c.in-Err.ensures.refused r (ap (λ x. Err x) same) in (
      breaks c.args.text.now r.place
          (ap (λ t. outcome (past start t) at_start (words t)) (sym c.new-cursor.ensures.rest)
          ∙ ap (λ p. outcome (past p c.new-cursor.result.rest.now) at_start (words_from p c.new-cursor.result.rest.now)) (sym c.new-cursor.ensures.place) ∙ h.0),
      h.1,
    )

pub returns-in-Err-clause-taken : goal.returns-in-Err-clause-taken
returns-in-Err-clause-taken c r e vars changes w =
    let same : c.in-Err.e ≡ No r = cc in
    is_not_refused c.args.text.now r.place vars changes
    (ap (λ t. outcome (past start t) at_start (words t)) (sym c.new-cursor.ensures.rest)
    ∙ ap (λ p. outcome (past p c.new-cursor.result.rest.now) at_start (words_from p c.new-cursor.result.rest.now)) (sym c.new-cursor.ensures.place)
    ∙ (c.in-Err.ensures.refused r (ap (λ x. Err x) same)).0)
    w
