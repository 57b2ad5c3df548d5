use Rattle.std.proofs.Common.{sym, ap, ◌∙◌, subst}
use Rattle.vcd_text.specs.declared.waves.VcdVar.{VcdVar}
use Rattle.vcd_text.specs.Waves.{width_under}
use Rattle.vcd_text.specs.Readers.{Notes}
use Rattle.vcd_text.proofs.Widths.{holds_more}
use Rattle.vcd_text.proofs.declarations.Declarations.declare.Goals as goal

pub returns-clause-widths : goal.returns-clause-widths
returns-clause-widths c held code =
    let v : VcdVar = record { path = c.in_ok-path.path; kind = c.args.named.kind; width = c.args.named.width; code = c.in_ok-code.code; place = c.args.named.place } in
    holds_more c.args.self.now.widths c.note.new.widths c.args.self.now.vars v held
    (subst (λ k. Notes c.args.self.now.widths k c.args.named.width c.note.new.widths) (sym c.in_ok-code.ensures) c.in_ok-note.ensures) code
    ∙ ap (λ vs. width_under vs code) (sym c.in_ok-push.ensures.ok)
