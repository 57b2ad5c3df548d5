use Rattle.std.proofs.lemmas.Result.{IfOk-from_err}
use Rattle.std.proofs.Common.{◌≤◌, length, refl, sym, ◌∙◌, subst, arith}
use Rattle.svex_arena.proofs.Keeping.{extends_self, extends_on}
use Rattle.sv_stores.specs.Scenes.{AreNodes}
use Rattle.sv_stores.proofs.Stores.{nodes_kept}
use Rattle.sv_blocks.proofs.Overlaying.{all_none, all_more, all_end, put_same}
use Rattle.sv_blocks.proofs.states.put_places.Goals as goal

pub places-init : goal.places-init
places-init c = record { stays = extends_self _; state = c.requires.state; same = refl; kept = refl; made = all_none _ _ _ c.requires.places }

pub put_over-requires-clause-puts : goal.put_over-requires-clause-puts
put_over-requires-clause-puts c = let i = c.places.invariant in subst (AreNodes c.args.scene.now c.places.arena) (sym i.same) (nodes_kept _ _ _ _ c.requires.puts i.stays)

pub places-preserved : goal.places-preserved
places-preserved c =
    let i = c.places.invariant in
    record {
      stays = extends_on _ _ _ i.stays c.in_ok-put_over.ensures.stays;
      state = c.in_ok-put_over.ensures.state;
      same = put_same _ _ _ _ c.in_ok-put_over.ensures.put ∙ i.same;
      kept = c.in_ok-put_over.ensures.kept ∙ i.kept;
      made = all_more _ _ _ _ _ _ _ c.places-test.true refl i.same c.in_ok-put_over.ensures.put i.made;
    }

pub returns-clause-stays : goal.returns-clause-stays
returns-clause-stays c = c.places.invariant.stays

pub returns-clause-state : goal.returns-clause-state
returns-clause-state c = c.places.invariant.state

pub returns-clause-kept : goal.returns-clause-kept
returns-clause-kept c = c.places.invariant.kept

pub returns-clause-nodes : goal.returns-clause-nodes
returns-clause-nodes c =
    let all : length c.args.places.now ≤ c.places.at = let t = c.places-test.false in omega arith in
    all_end _ _ _ _ _ all c.places.invariant.same c.places.invariant.made

pub returns-in_err-put_over-clause-stays : goal.returns-in_err-put_over-clause-stays
returns-in_err-put_over-clause-stays c = extends_on _ _ _ c.places.invariant.stays c.in_err-put_over.ensures.stays

pub returns-in_err-put_over-clause-nodes : goal.returns-in_err-put_over-clause-nodes
returns-in_err-put_over-clause-nodes c = IfOk-from_err _ _ c.from_residual.ensures.0

pub returns-in_err-put_over-clause-state : goal.returns-in_err-put_over-clause-state
returns-in_err-put_over-clause-state c = IfOk-from_err _ _ c.from_residual.ensures.0

pub returns-in_err-put_over-clause-kept : goal.returns-in_err-put_over-clause-kept
returns-in_err-put_over-clause-kept c = IfOk-from_err _ _ c.from_residual.ensures.0
