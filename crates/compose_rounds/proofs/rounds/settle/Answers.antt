use Rattle.std.proofs.Common.{◌∙◌, refl, arith}
use Rattle.svex_arena.proofs.Keeping.{extends_self, extends_on}
use Rattle.compose_rounds.proofs.Turning.{only_self, only_on, open_as, turn_as, risen-first, risen_step, settled_end}
use Rattle.compose_rounds.proofs.rounds.settle.Goals as goal

pub rounds-init : goal.rounds-init
rounds-init c = record {
  ready = c.requires.ready;
  others = λ i none. refl;
  only = only_self c.args.scene.now;
  extends = extends_self c.args.arena.now;
  risen = risen-first c.args.joins.now c.args.arena.now c.args.scene.now.segments.eqs c.args.scene.now.values.items c.args.members.now c.args.scene.now.nodes.items c.args.bits c.requires.open.there c.requires.enough c.requires.ready.scene.grown;
}

pub round-requires-clause-open : goal.round-requires-clause-open
round-requires-clause-open c = open_as c.args.scene.now c.rounds.scene c.args.members.now c.rounds.invariant.only c.requires.open

pub rounds-preserved : goal.rounds-preserved
rounds-preserved c =
    let i = c.rounds.invariant in
    let e = c.in_ok-round.ensures in
    let s = c.args.scene.now in
    let turn = turn_as c.args.joins.now c.rounds.arena c.round.new.arena s c.rounds.scene c.args.members.now c.rounds.scene.nodes.items c.round.new.scene.nodes.items i.only e.turn in
    record {
      ready = e.ready;
      others = λ k none. turn.others k none ∙ i.others k none;
      only = only_on s c.rounds.scene c.round.new.scene i.only e.only;
      extends = extends_on c.args.arena.now c.rounds.arena c.round.new.arena i.extends e.extends;
      risen = risen_step c.args.joins.now c.rounds.arena c.round.new.arena s c.rounds.scene c.args.members.now c.round.new.scene.nodes.items c.rounds._round c.args.bits e.extends i.only i.ready.scene c.requires.open turn i.risen;
    }

pub returns-clause-settled : goal.returns-clause-settled
returns-clause-settled c =
    let i = c.rounds.invariant in
    settled_end c.args.joins.now c.rounds.arena c.args.scene.now c.rounds.scene c.args.members.now c.rounds._round c.args.bits (omega arith) i.only i.ready.scene c.requires.open i.risen
