use Rattle.std.proofs.Common.{◌++◌, ◌∷◌, ◌<◌, ◌≤◌, Bool, [], length, sym, ap, subst, ◌∙◌}
use Rattle.std.specs.List.{All}
use Rattle.std.proofs.lemmas.Bool.{both_ways}
use Rattle.lhs_alias.specs.Pairs.{HaveOwnChildren}
use Rattle.flat_net.specs.Flats.{IsJoin, links_of}
use Rattle.flat_read.specs.declared.reader.Reader.{Reader}
use Rattle.flat_read.specs.States.{HasMade, IsLaidFor, Judged}
use Rattle.flat_read.proofs.Adding.{join_added, join_comes, join_sound}
use Rattle.flat_read.proofs.reader.Reader.add_join.Goals as goal

pub returns-then-not-takes_joins-clause-judged : goal.returns-then-not-takes_joins-clause-judged
returns-then-not-takes_joins-clause-judged c shown h comes told =
    both_ways c.takes_joins.result c.if-not-takes_joins.true (c.takes_joins.ensures.1 (join_comes shown c.args.self.now c.args.join h comes))

pub returns-then-not-is_join-clause-judged : goal.returns-then-not-is_join-clause-judged
returns-then-not-is_join-clause-judged c shown h comes told =
    both_ways c.is_join.result c.if-not-is_join.true (c.is_join.ensures.is.1 (subst (λ w. IsJoin w c.args.join) (sym c.deref.ensures.value) (join_sound shown c.args.self.now c.args.join h told)))

pub returns-then-not-branch-clause-judged : goal.returns-then-not-branch-clause-judged
returns-then-not-branch-clause-judged c shown h comes told =
    let old = c.args.self.now in
    let joins = shown.joins ++ c.args.join ∷ [] in
    subst (λ (b : Bool). Judged b (HasMade c.unite.new.self.made old.widths.items joins) (¬ HaveOwnChildren (links_of joins))) c.if-not-branch.true (c.in_ok-unite.ensures.made shown.joins h.made) told.sound.own_children

pub returns-clause-judged : goal.returns-clause-judged
returns-clause-judged c shown h =
    let old = c.args.self.now in
    let joins = shown.joins ++ c.args.join ∷ [] in
    let sound = subst (λ w. IsJoin w c.args.join) c.deref.ensures.value (c.is_join.ensures.is.0 c.if-not-is_join.false) in
    let made = subst (λ (b : Bool). Judged b (HasMade c.unite.new.self.made old.widths.items joins) (¬ HaveOwnChildren (links_of joins))) c.if-not-branch.false (c.in_ok-unite.ensures.made shown.joins h.made) in
    let same = c.in_ok-unite.ensures.same in
    join_added shown old (record c.unite.new.self { joins = c.push.new.self }) c.args.join h (c.takes_joins.ensures.0 c.if-not-takes_joins.false) sound made (record {
      wires = ap (λ (r : Reader). r.wires) same;
      widths = ap (λ (r : Reader). r.widths.items) same;
      joins = c.in_ok-push.ensures.ok ∙ ap (λ (r : Reader). r.joins ++ c.args.join ∷ []) same;
      arena = ap (λ (r : Reader). r.arena) same;
      numbers = ap (λ (r : Reader). r.numbers.items) same;
      drivers = ap (λ (r : Reader). r.drivers) same;
    })

pub returns-clause-reader : goal.returns-clause-reader
returns-clause-reader c =
    let same = c.in_ok-unite.ensures.same in
    let widths = sym (ap (λ (r : Reader). r.widths.items) same) in
    record {
      wide = subst (All (λ w. (1 ≤ w) × (w ≤ 128))) widths c.requires.reader.wide;
      laid = subst (IsLaidFor c.unite.new.self.made) widths c.in_ok-unite.ensures.laid;
      there = subst (λ (r : Reader). All (λ k. k < length r.arena) r.numbers.items) (sym same) c.requires.reader.there;
    }
