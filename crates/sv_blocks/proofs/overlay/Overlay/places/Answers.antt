use Rattle.std.proofs.lemmas.Result.{IfOk-weaker}
use Rattle.std.proofs.Common.{◌≡◌, sym, subst}
use Rattle.std.specs.BTreeMap.{keys}
use Rattle.sv_blocks.specs.Overlays.{Covers}
use Rattle.sv_blocks.proofs.Overlaying.{covers_keys}
use Rattle.sv_blocks.proofs.overlay.Overlay.places.Goals as goal

pub returns : goal.returns
returns c =
    IfOk-weaker c.keys_of.result (λ all. all ≡ keys c.self.inside.nodes) (λ all. Covers all c.args.self.now)
    (λ all e. subst (λ xs. Covers xs c.args.self.now) (sym e) (covers_keys c.self.inside.nodes.entries c.args.self.now c.self.view_is)) c.keys_of.ensures
