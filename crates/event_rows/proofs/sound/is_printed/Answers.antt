use Rattle.std.proofs.Common.{ℕ, List, sym, subst, arith}
use Rattle.std.specs.Prelude.{All, IsTrue}
use Rattle.std.proofs.lemmas.List.{take_all}
use Rattle.std.proofs.lemmas.List.Elements.{All-more}
use Rattle.flat_net.specs.Flats.{is_path_byte}
use Rattle.event_rows.proofs.sound.is_printed.Goals as goal

pub loop-byte-preserved : goal.loop-byte-preserved
loop-byte-preserved c =
    All-more (λ b. IsTrue (is_path_byte b)) c.args.path.now c.loop-byte.byte-index 0 (omega arith) c.loop-byte.invariant (sym c.if-not-is_path.ensures)

pub returns : goal.returns
returns c = λ t.
    let P : List ℕ → Type 0 = All (λ b. IsTrue (is_path_byte b)) in
    subst P (take_all c.loop-byte.byte-index c.args.path.now (omega arith)) c.loop-byte.invariant
