use Rattle.std.proofs.Common.{ℕ, subst}
use Rattle.std.proofs.lemmas.Result.{on_ok_weaker}
use Rattle.node_replace.specs.Walks.{Left}
use Rattle.node_replace.proofs.Walking.{walk_leaves, is_given, leaves_less}
use Rattle.node_replace.proofs.replacer.Replacer.give.Goals as goal

pub returns-clause-walk : goal.returns-clause-walk
returns-clause-walk c =
    let m = c.args.self.now in
    on_ok_weaker c.leave.result
    (λ e. walk_leaves c.args.arena.now m c.leave.new.self c.args.variable c.args.answer c.args.loose c.requires.walk c.requires.waits
    (subst (λ (k : ℕ). Left m k c.args.answer c.args.loose c.leave.new.self) c.index.ensures e) c.requires.answer) c.leave.ensures

pub returns-clause-given : goal.returns-clause-given
returns-clause-given c =
    let m = c.args.self.now in
    on_ok_weaker c.leave.result
    (λ e. is_given c.args.arena.now m c.leave.new.self c.args.variable c.args.answer c.args.loose c.requires.walk c.requires.waits
    (subst (λ (k : ℕ). Left m k c.args.answer c.args.loose c.leave.new.self) c.index.ensures e)) c.leave.ensures

pub returns-clause-less : goal.returns-clause-less
returns-clause-less c =
    let m = c.args.self.now in
    on_ok_weaker c.leave.result
    (λ e. leaves_less c.args.arena.now m c.leave.new.self c.args.variable c.args.answer c.args.loose c.requires.walk c.requires.waits
    (subst (λ (k : ℕ). Left m k c.args.answer c.args.loose c.leave.new.self) c.index.ensures e)) c.leave.ensures
