-- The refusals of a design stand in files that were read for it: at a token of the text, at its end or, where its meaning is refused, at 1:1 of
-- the main file or at a place that the tree keeps, which is that of a token.
use Rattle.std.proofs.Common.{◌≡◌, ◌⊎◌, ◌<◌, ℕ, zero, suc, List, [], ◌∷◌, length, Option, Err, sym, ap, subst, inl, inr}
use Rattle.std.specs.Prelude.{All}
use Rattle.std.specs.List.{Contains}
use Rattle.std.proofs.lemmas.List.Elements.{All-contains, All-head, All-tail}
use Rattle.sv_cursor.specs.Refusals.{place_at}
use Rattle.design_loops.specs.Passed.{sound_design}
use Rattle.sv_hierarchy.specs.Scopes.{source_faults}
use Rattle.sv_meaning.specs.Faults.{Faults, faults_of}
use Rattle.sv_outside.specs.Text.{TokenList}
use Rattle.sv_outside.specs.declared.refusal.Place.{Place}
use Rattle.sv_outside.specs.declared.refusal.Refusal.{Refusal}
use Rattle.sv_outside.specs.declared.refusal.TextErr.TheVariants.{No}
use Rattle.sv_outside.specs.declared.text.Token.{Token}
use Rattle.sv_parser.specs.Answers.{IsSpelled}
use Rattle.sv_parser.specs.Whole.{IsSyntax, IsDeep}
use Rattle.sv_places.specs.Within.{Within}
use Rattle.sv_places.proofs.Filed.{tokens_lie, some_file, end_lies}
use Rattle.sv_places.proofs.SpelledDesign.{source_in}
use Rattle.sv_places.proofs.SpelledExprs.{has_from_all}
use Rattle.sv_places.proofs.Told.{all_told}
use Rattle.sv_places.proofs.Walked.{source_told}
use Rattle.sv_preproc.specs.Directives.{IsWholeText}
use Rattle.sv_preproc.specs.Laws.{Possible}
use Rattle.sv_tree.specs.declared.design.Source.{Source}
use Rattle.svtv_files.specs.Files.{Text, Told}

-- the place of a token, or the end
token_lies : (n : ℕ) (tokens : List Token) (end : Place) (k : ℕ) → All (λ a. a.place.file < n) tokens → end.file < n → (place_at tokens end k).file < n
token_lies n [] end k h e = e
token_lies n (a ∷ more) end zero h e = All-head (λ b. b.place.file < n) a more h
token_lies n (a ∷ more) end (suc k) h e = token_lies n more end k (All-tail (λ b. b.place.file < n) a more h) e

own_place : (r s : Refusal) → No r ≡ No s → r.place ≡ s.place
own_place r s e = let same : r ≡ s = cc in ap (λ x. x.place) same

pub unparsed_lies : (told : Told) (name : Text) (tokens : TokenList) (r : Refusal) → IsWholeText (Possible told) name tokens
    → IsSyntax tokens.list tokens.end (No r) ⊎ IsDeep tokens.list tokens.end (No r) → r.place.file < length tokens.files
unparsed_lies told name tokens r text h = elim h [ inl x ↦ at _ (own_place r _ x.is) | inr x ↦ at _ (own_place r _ x.is) ]
  where
    at : (k : ℕ) → r.place ≡ place_at tokens.list tokens.end k → r.place.file < length tokens.files
    at k e =
        subst (λ p. p.file < length tokens.files) (sym e)
        (token_lies (length tokens.files) tokens.list tokens.end k (tokens_lie (Possible told) name tokens text) (end_lies (Possible told) name tokens text))

pub faulty_lies : (told : Told) (name : Text) (tokens : TokenList) (tree : Source) (top : Option Text) (faults : Faults) (r : Refusal) → IsWholeText (Possible told) name tokens
    → IsSpelled tree tokens.list → sound_design tree top ≡ Err faults → Contains faults r → r.place.file < length tokens.files
faulty_lies told name tokens tree top faults r text spelled means stands =
    let n : ℕ = length tokens.files in
    let P : Place → Type 0 = λ p. p.file < n in
    let some : 0 < n = some_file (Possible told) name tokens text in
    let kept : Within P tree = source_in P tree tokens.list spelled (has_from_all P tokens.list (tokens_lie (Possible told) name tokens text)) in
    let all : All (λ x. P x.place) (source_faults tree top) = all_told P (source_faults tree top) (source_told P tree top some kept) in
    All-contains (λ x. P x.place) faults r (subst (All (λ x. P x.place)) (ap faults_of means) all) stands
