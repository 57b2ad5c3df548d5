use Rattle.std.proofs.Common.{Some, refl, sym, subst}
use Rattle.sv_names.specs.Kinds.{what_is}
use Rattle.sv_typing.specs.Roots.{JudgesRoot}
use Rattle.sv_typing.proofs.roots.root_under.Goals as goal

pub returns-in-Wire : goal.returns-in-Wire
returns-in-Wire c = subst (λ o. JudgesRoot c.args.word.now (Some (what_is o)) c.args.constant c.signal_root.result) (sym c.in-Wire.is) (c.signal_root.ensures c.args.word.now refl)

pub returns-in-Chosen : goal.returns-in-Chosen
returns-in-Chosen c = subst (λ o. JudgesRoot c.args.word.now (Some (what_is o)) c.args.constant c.signal_root-in-Chosen.result) (sym c.in-Chosen.is) (c.signal_root-in-Chosen.ensures c.args.word.now refl)

pub returns-in-Sampled : goal.returns-in-Sampled
returns-in-Sampled c = subst (λ o. JudgesRoot c.args.word.now (Some (what_is o)) c.args.constant c.signal_root-in-Sampled.result) (sym c.in-Sampled.is) (c.signal_root-in-Sampled.ensures c.args.word.now refl)
