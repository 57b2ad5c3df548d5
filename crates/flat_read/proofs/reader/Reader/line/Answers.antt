use Rattle.std.proofs.Common.{◌≡◌, codes, refl, sym, ap, ◌∙◌}
use Rattle.flat_words.specs.Readers.{behind}
use Rattle.flat_words.proofs.Forms.{behind_gives}
use Rattle.flat_read.proofs.LineJudging.{wire_judged, join_judged, node_judged, drive_judged, no_kind}
use Rattle.flat_read.proofs.reader.Reader.line.Goals as goal

pub returns-then-pass-clause-judged : goal.returns-then-pass-clause-judged
returns-then-pass-clause-judged c shown h =
    wire_judged c.wire.result shown c.args.line.now c.pass.new.self.rest.now c.wire.new.self (behind_gives (codes "wire ") c.args.line.now c.pass.new.self.rest.now (sym c.if-pass.ensures.is)) (c.wire.ensures.judged shown h)

pub returns-then-pass-2-clause-judged : goal.returns-then-pass-2-clause-judged
returns-then-pass-2-clause-judged c shown h =
    let same : c.pass.new.self.rest.now ≡ c.args.line.now = c.if-pass.ensures.kept refl in
    join_judged c.join.result shown c.args.line.now c.pass-2.new.self.rest.now c.join.new.self (sym same ∙ behind_gives (codes "join ") c.pass.new.self.rest.now c.pass-2.new.self.rest.now (sym c.if-pass-2.ensures.is)) (c.join.ensures.judged shown h)

pub returns-then-pass-3-clause-judged : goal.returns-then-pass-3-clause-judged
returns-then-pass-3-clause-judged c shown h =
    let same : c.pass-2.new.self.rest.now ≡ c.args.line.now = c.if-pass-2.ensures.kept refl ∙ c.if-pass.ensures.kept refl in
    node_judged c.node.result shown c.args.line.now c.pass-3.new.self.rest.now c.node.new.self (sym same ∙ behind_gives (codes "node ") c.pass-2.new.self.rest.now c.pass-3.new.self.rest.now (sym c.if-pass-3.ensures.is)) (c.node.ensures.judged shown h)

pub returns-then-pass-4-clause-judged : goal.returns-then-pass-4-clause-judged
returns-then-pass-4-clause-judged c shown h =
    let same : c.pass-3.new.self.rest.now ≡ c.args.line.now = c.if-pass-3.ensures.kept refl ∙ c.if-pass-2.ensures.kept refl ∙ c.if-pass.ensures.kept refl in
    drive_judged c.drive.result shown c.args.line.now c.pass-4.new.self.rest.now c.drive.new.self (sym same ∙ behind_gives (codes "drive ") c.pass-3.new.self.rest.now c.pass-4.new.self.rest.now (sym c.if-pass-4.ensures.is)) (c.drive.ensures.judged shown h)

pub returns-clause-judged : goal.returns-clause-judged
returns-clause-judged c shown h =
    let one : c.pass.new.self.rest.now ≡ c.args.line.now = c.if-pass.ensures.kept refl in
    let two : c.pass-2.new.self.rest.now ≡ c.args.line.now = c.if-pass-2.ensures.kept refl ∙ one in
    let three : c.pass-3.new.self.rest.now ≡ c.args.line.now = c.if-pass-3.ensures.kept refl ∙ two in
    no_kind shown c.args.line.now c.if-pass.ensures.is (c.if-pass-2.ensures.is ∙ ap (behind (codes "join ")) one) (c.if-pass-3.ensures.is ∙ ap (behind (codes "node ")) two) (c.if-pass-4.ensures.is ∙ ap (behind (codes "drive ")) three)
