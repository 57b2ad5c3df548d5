-- The changes that words tell, one word more.
use Rattle.std.proofs.Common.{◌≡◌, true, false, List, [], ◌∷◌, ◌++◌, Option, None, Some, is_some, refl, sym, ap, ◌∙◌}
use Rattle.fourvec.specs.declared.Bit.{Bit}
use Rattle.vcd_text.specs.declared.scan.WrittenChange.{WrittenChange}
use Rattle.vcd_text.specs.Words.{Word}
use Rattle.vcd_text.specs.Forms.{bits_of, chain}
use Rattle.vcd_text.specs.Waves.{Change}
use Rattle.vcd_text.specs.Steps.{State, at, step, cleared, changes_in}
use Rattle.vcd_text.specs.Scans.{told_with}
use Rattle.vcd_text.specs.Changes.{IsWritten}

abbrev pub told_after : List Word → Option State → List Change
told_after more None = []
told_after more (Some next) = next.told.changes ++ changes_in (cleared next) more

pub told_first : (s : State) (w : Word) (more : List Word) → changes_in s (w ∷ more) ≡ told_after more (step s w)
unfolding changes_in
told_first s w more = refl

pub told_none : (s : State) (all : List Word) → all ≡ [] → changes_in s all ≡ []
unfolding changes_in
told_none s all e = ap (changes_in s) e

pub told_refused : (s : State) (w : Word) (more all : List Word) → None ≡ step s w → all ≡ w ∷ more → changes_in s all ≡ []
told_refused s w more all stops is = ap (changes_in s) is ∙ told_first s w more ∙ ap (told_after more) (sym stops)

-- a word that is no change
pub told_nothing : (s next : State) (w : Word) (more all : List Word) → Some next ≡ step s w → next.told.changes ≡ [] → all ≡ w ∷ more → changes_in s all ≡ changes_in next more
told_nothing s next w more all took none is =
    ap (changes_in s) is ∙ told_first s w more ∙ ap (told_after more) (sym took) ∙ ap (λ l. l ++ changes_in (cleared next) more) none
    ∙ ap (λ l. changes_in (at next.wait (record next.told { changes = l })) more) (sym none)

-- the first change, and the others
pub record TellsFirst (left more : List Change) (w : WrittenChange) : Type 0 where
  pub change : Change
  pub is : left ≡ change ∷ more
  pub written : IsWritten w change

pub told_change : (s next : State) (c : WrittenChange) (w : Word) (more all : List Word) → told_with c next ≡ step s w → next.told.changes ≡ [] → all ≡ w ∷ more
    → TellsFirst (changes_in s all) (changes_in next more) c
told_change s next c w more all took none is = by_case (bits_of c.bits.now) refl
  where
    by_case : (o : Option (List Bit)) → bits_of c.bits.now ≡ o → TellsFirst (changes_in s all) (changes_in next more) c
    by_case None e = let no : false ≡ true = ap is_some (sym e) ∙ c.said in cc
    by_case (Some bits) e =
        let change : Change = record { time = c.time; code = c.code.now; bits = bits } in
        let here : step s w ≡ Some (at next.wait (record next.told { changes = change ∷ [] })) =
        sym took ∙ ap (λ o. chain o (λ b. Some (at next.wait (record next.told { changes = (record { time = c.time; code = c.code.now; bits = b }) ∷ [] })))) e in
        record {
          change = change;
          is = ap (changes_in s) is ∙ told_first s w more ∙ ap (told_after more) here ∙ ap (λ l. change ∷ changes_in (at next.wait (record next.told { changes = l })) more) (sym none);
          written = record { time = refl; code = refl; bits = e };
        }
