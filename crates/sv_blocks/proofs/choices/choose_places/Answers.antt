use Rattle.std.proofs.lemmas.Result.{IfOk-from_err}
use Rattle.std.proofs.Common.{◌≤◌, length, refl, ◌∙◌, arith}
use Rattle.svex_arena.proofs.Keeping.{extends_self, extends_on}
use Rattle.svex_arena.proofs.Steps.{width-extends}
use Rattle.sv_stores.proofs.Stores.{nodes_kept}
use Rattle.sv_blocks.proofs.Overlaying.{over_long}
use Rattle.sv_blocks.proofs.Choosing.{choices_none, choices_more, choices_end}
use Rattle.sv_blocks.proofs.choices.choose_places.Goals as goal

pub places-init : goal.places-init
places-init c = record { stays = extends_self _; made = choices_none c.args.scene.now _ _ _ _ _ _ _ c.requires.a c.requires.left c.requires.right c.new-both.ensures }

pub choose_at-requires-clause-one : goal.choose_at-requires-clause-one
choose_at-requires-clause-one c = width-extends _ _ _ c.places.invariant.stays c.requires.truth ∙ c.requires.one

pub choose_at-requires-clause-a : goal.choose_at-requires-clause-a
choose_at-requires-clause-a c = nodes_kept _ _ _ _ c.requires.a c.places.invariant.stays

pub choose_at-requires-clause-b : goal.choose_at-requires-clause-b
choose_at-requires-clause-b c = nodes_kept _ _ _ _ c.requires.b c.places.invariant.stays

pub places-preserved : goal.places-preserved
places-preserved c =
    let i = c.places.invariant in
    record {
      stays = extends_on _ _ _ i.stays c.in_ok-choose_at.ensures.stays;
      made =
          choices_more c.args.scene.now _ _ _ _ _ _ _ _ _ _ _ _ c.requires.a c.requires.b (over_long _ _) c.requires.truth c.places-test.true refl i.stays c.in_ok-choose_at.ensures.stays
          i.made c.in_ok-choose_at.ensures.chosen c.in_ok-choose_at.ensures.others;
    }

pub returns-clause-stays : goal.returns-clause-stays
returns-clause-stays c = c.places.invariant.stays

pub returns-clause-ok : goal.returns-clause-ok
returns-clause-ok c =
    let all : length c.args.places.now ≤ c.places.at = let t = c.places-test.false in omega arith in
    choices_end c.args.scene.now _ _ _ _ _ _ _ _ _ c.requires.scene c.len-2.ensures.arena c.requires.a c.requires.b all c.places.invariant.made

pub returns-in_err-choose_at-clause-stays : goal.returns-in_err-choose_at-clause-stays
returns-in_err-choose_at-clause-stays c = extends_on _ _ _ c.places.invariant.stays c.in_err-choose_at.ensures.stays

pub returns-in_err-choose_at-clause-ok : goal.returns-in_err-choose_at-clause-ok
returns-in_err-choose_at-clause-ok c = IfOk-from_err _ _ c.from_residual.ensures.0
