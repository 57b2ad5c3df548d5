use Rattle.std.proofs.Common.{◌≡◌, ℕ, ◌++◌, codes, sym, subst}
use Rattle.flat_text.specs.Lines.{Text, ended}
use Rattle.flat_text.specs.FlatTexts.{FlatText, BreaksAt}
use Rattle.flat_read.proofs.ReadSoFar.{stands_of, sound_of, first_there, first_missing}
use Rattle.flat_read.proofs.read.read_flat.Goals as goal

pub returns-in_default-clause-line : goal.returns-in_default-clause-line
returns-in_default-clause-line c n e = let one : 1 ≡ n = cc in subst (λ (m : ℕ). BreaksAt c.args.text.now m) one (first_missing c.args.text.now c.in_default.ensures.cases)

pub returns-clause-stands : goal.returns-clause-stands
returns-clause-stands c =
    subst (λ (t : Text). FlatText t c.into_flat.result) (sym (first_there c.args.text.now c.in-Some.rest.now c.in-Some.ensures.cases.0 c.in-Some.ensures.cases.1))
    (stands_of (ended (codes "flat 1") ++ c.in-Some.rest.now) c.lines.new.self c.into_flat.result c.in_ok-lines.ensures.all c.into_flat.ensures.arena c.into_flat.ensures.wires c.into_flat.ensures.drivers c.into_flat.ensures.joins)

pub returns-clause-sound : goal.returns-clause-sound
returns-clause-sound c =
    sound_of (ended (codes "flat 1") ++ c.in-Some.rest.now) c.lines.new.self c.into_flat.result c.in_ok-lines.ensures.all c.into_flat.ensures.arena c.into_flat.ensures.wires c.into_flat.ensures.drivers c.into_flat.ensures.joins
