use Rattle.std.proofs.Common.{◌≡◌, ℕ, ◌<◌, List, length, ap, subst, arith}
use Rattle.std.proofs.lemmas.Result.{on_ok_weaker}
use Rattle.node_replace.specs.Walks.{Entered}
use Rattle.node_replace.proofs.Walking.{walk_enters, begins_entered}
use Rattle.node_replace.proofs.replacer.Replacer.begin.Goals as goal

pub returns-clause-walk : goal.returns-clause-walk
returns-clause-walk c =
    let m = c.args.self.now in
    let none : length m.path.items ≡ 0 = ap (λ (l : List ℕ). length l) c.requires.path in
    on_ok_weaker c.enter.result
    (λ e. walk_enters c.args.arena.now m c.enter.new.self c.args.root c.requires.walk c.requires.root (λ i d lt. absurd (omega (arith, none, lt)))
    (subst (λ (k : ℕ). Entered m k c.enter.new.self) c.index-3.ensures e)) c.enter.ensures

pub returns-clause-begins : goal.returns-clause-begins
returns-clause-begins c =
    let m = c.args.self.now in
    let within : c.args.root < length m.marks.items = let b = c.requires.root in let n = c.requires.walk.marks in omega (arith, b, n) in
    on_ok_weaker c.enter.result
    (λ e. begins_entered c.args.arena.now m c.enter.new.self c.args.root within (subst (λ (k : ℕ). Entered m k c.enter.new.self) c.index-3.ensures e)) c.enter.ensures
