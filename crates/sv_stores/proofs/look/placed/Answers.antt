use Rattle.std.proofs.lemmas.Result.{IfOk-from_err}
use Rattle.std.proofs.Common.{refl}
use Rattle.sv_lower.proofs.Naming.{each_holds}
use Rattle.sv_stores.specs.Scenes.{is_narrow}
use Rattle.sv_stores.proofs.Looking.{placed_in, placed_yields}
use Rattle.sv_stores.proofs.look.placed.Goals as goal

pub lower-requires-clause-look : goal.lower-requires-clause-look
lower-requires-clause-look c = placed_in _ _ _ _ c.as_slice.result refl c.as_slice.ensures c.requires.seen c.len.ensures.arena c.requires.scene c.requires.state

pub returns-clause-ok : goal.returns-clause-ok
returns-clause-ok c =
    placed_yields _ _ _ _ _ c.as_slice.result c.args.typed.now _ _ _ refl c.as_slice.ensures c.len.ensures.arena c.requires.scene c.requires.seen c.requires.state (each_holds (is_narrow c.args.scene.now) c.args.typed.now c.requires.narrow)
    c.in_ok-node.ensures.within c.in_ok-node.ensures.width c.in_ok-node.ensures.value c.in_ok-node.ensures.mentions

pub returns-in_err-node-clause-ok : goal.returns-in_err-node-clause-ok
returns-in_err-node-clause-ok c = IfOk-from_err _ _ c.from_residual.ensures.0
