use Rattle.std.proofs.Common.{ℕ, List, length, refl, ap, ◌∙◌, subst, inl, inr, Vec, Global}
use Rattle.compose_rounds.specs.Turns.{IsPut}
use Rattle.compose_rounds.proofs.Turning.{scene_on, turned, rest_same, rest_fixed, fixed_again, values_long}
use Rattle.compose_rounds.proofs.rounds.round.Goals as goal

pub returns-clause-ready : goal.returns-clause-ready
returns-clause-ready c =
    let s = c.args.scene.now in
    let r = c.in_ok-reach_all.ensures in
    let later = c.put_all-same.new.nodes.items in
    let m = c.reach_all.new.replacer in
    let put : IsPut m.answers.items s.values.items c.args.members.now s.nodes.items later (length c.args.members.now) =
    subst (λ (l : List ℕ). IsPut m.answers.items l c.args.members.now s.nodes.items later (length c.args.members.now)) c.deref.ensures.value c.put_all-same.ensures.put in
    record {
      scene = scene_on c.args.joins.now c.args.arena.now c.reach_all.new.arena s m c.args.members.now later c.requires.ready.scene.arena r.arena r.extends c.requires.ready.scene r.memo r.have c.requires.open put c.put_all-same.new.nodes refl;
      memo = fixed_again c.args.joins.now c.args.arena.now c.reach_all.new.arena s m c.args.members.now later c.requires.ready.scene.arena r.arena r.extends c.requires.ready.scene r.memo r.have c.requires.open put
          c.forget.new.self c.forget.ensures.forgotten;
      values = values_long s.values.items c.args.replacer.now.answers.items c.forget.new.self.answers.items (ap (λ (v : Vec ℕ Global). length v.items) c.forget.ensures.forgotten.answers ∙ r.size) c.requires.ready.values;
    }

pub returns-clause-turn : goal.returns-clause-turn
returns-clause-turn c =
    let s = c.args.scene.now in
    let r = c.in_ok-reach_all.ensures in
    let later = c.put_all-same.new.nodes.items in
    let m = c.reach_all.new.replacer in
    let put : IsPut m.answers.items s.values.items c.args.members.now s.nodes.items later (length c.args.members.now) =
    subst (λ (l : List ℕ). IsPut m.answers.items l c.args.members.now s.nodes.items later (length c.args.members.now)) c.deref.ensures.value c.put_all-same.ensures.put in
    turned c.args.joins.now c.args.arena.now c.reach_all.new.arena s m c.args.members.now later c.requires.ready.scene.arena r.arena r.extends c.requires.ready.scene r.memo r.have c.requires.open put

pub returns-clause-rest : goal.returns-clause-rest
returns-clause-rest c = λ rest.
    let s = c.args.scene.now in
    let r = c.in_ok-reach_all.ensures in
    let later = c.put_all-same.new.nodes.items in
    let m = c.reach_all.new.replacer in
    let put : IsPut m.answers.items s.values.items c.args.members.now s.nodes.items later (length c.args.members.now) =
    subst (λ (l : List ℕ). IsPut m.answers.items l c.args.members.now s.nodes.items later (length c.args.members.now)) c.deref.ensures.value c.put_all-same.ensures.put in
    elim (c.is_at_rest.ensures rest) [
      | inl same ↦ rest_same c.args.joins.now c.args.arena.now c.reach_all.new.arena s m c.args.members.now later c.requires.ready.scene.arena r.arena r.extends c.requires.ready.scene r.memo r.have c.requires.open put (c.put_all-same.ensures.same same)
      | inr fixed ↦ rest_fixed c.args.joins.now c.args.arena.now c.reach_all.new.arena s m c.args.members.now later c.requires.ready.scene.arena r.arena r.extends c.requires.ready.scene r.memo r.have c.requires.open put (c.is_fixed-fixed.ensures.0 fixed)
    ]
