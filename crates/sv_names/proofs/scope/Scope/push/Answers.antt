use Rattle.std.proofs.lemmas.Result.{IfOk-from_err}
use Rattle.std.proofs.Common.{◌≡◌, ◌∙◌, List, [], ◌∷◌, ◌++◌, ap}
use Rattle.sv_names.specs.Kinds.{Entry}
use Rattle.sv_names.proofs.Ends.{sound_push, linked_push}
use Rattle.sv_names.proofs.scope.Scope.push.Goals as goal

pub invariant_of-self-2 : goal.invariant_of-self-2
invariant_of-self-2 c =
    let old = c.self.inside.list.items in
    let all = c.push_reserved.new.self.items in
    let last : Entry = (c.args.name, c.args.what) in
    let pushed : all ≡ old ++ last ∷ [] = c.push_reserved.ensures.items ∙ ap (λ (x : List Entry). x ++ last ∷ []) c.reserve.ensures.items in
    record {
      sound = sound_push old all last pushed c.requires c.self.invariant.sound;
      linked = linked_push c.self.inside.links c.note.new.self old all last c.bytes.result.now c.bytes.ensures pushed c.in_ok-note.ensures.ok c.self.invariant.linked;
    }

pub returns-in_err-note-clause-ok : goal.returns-in_err-note-clause-ok
returns-in_err-note-clause-ok c = IfOk-from_err _ _ c.from_residual-in_err-note.ensures.0

pub returns-in_err-reserve-clause-ok : goal.returns-in_err-reserve-clause-ok
returns-in_err-reserve-clause-ok c = IfOk-from_err _ _ c.from_residual.ensures.0
