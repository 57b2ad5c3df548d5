use Rattle.std.proofs.lemmas.Result.{IfOk-from_err}
use Rattle.std.proofs.Common.{◌∷◌, [], List, take, sym, subst, arith, Bor}
use Rattle.std.proofs.lemmas.List.{take_all}
use Rattle.sv_tree.specs.declared.word.Word.{Word}
use Rattle.sv_meaning.specs.Layouts.{Name}
use Rattle.sv_modules.specs.Naming.{Holds, Adds, texts_of}
use Rattle.sv_modules.proofs.Turns.{map_next}
use Rattle.sv_modules.proofs.Sets.{holds_more}
use Rattle.sv_modules.proofs.connect.set_of.Goals as goal

pub words-preserved : goal.words-preserved
words-preserved c =
    subst (Holds c.add.new.self) (sym (map_next (λ (w : Bor Word). w.now.text) c.args.words.now c.words.word-index c.word-item.result c.words-test.true c.word-item.is))
    (holds_more c.words.names c.add.new.self (texts_of (take c.words.word-index c.args.words.now)) (c.word-item.result.now.text ∷ []) c.words.invariant
    (subst (λ (n : Name). Adds c.words.names (n ∷ []) c.add.new.self) c.bytes.ensures c.in_ok-add.ensures))

pub returns : goal.returns
returns c =
    subst (λ (ws : List (Bor Word)). Holds c.words.names (texts_of ws)) (take_all c.words.word-index c.args.words.now (omega (arith, c.words-test.false))) c.words.invariant

pub returns-in_err-add : goal.returns-in_err-add
returns-in_err-add c = IfOk-from_err _ _ c.from_residual.ensures.0
