-- What is in the library of a text.
use Rattle.std.proofs.Common.{◌≡◌, ℕ, zero, suc, ◌+◌, List, [], ◌∷◌, ◌++◌, length, map, Option, Some, Bool, true, false, ◌||◌, refl, sym, ap, ◌∙◌, subst, arith, Ok, Err, if◌then◌else◌}
use Rattle.std.proofs.Common.{append_assoc}
use Rattle.std.proofs.lemmas.List.{append-nil, length-map, map-append}
use Rattle.std.specs.List.{range_with_len}
use Rattle.std.specs.Str.{bytes_eq}
use Rattle.sv_outside.specs.declared.refusal.Place.{Place}
use Rattle.sv_tree.specs.declared.design.Module.{Module}
use Rattle.sv_tree.specs.declared.design.SourcePart.{SourcePart}
use Rattle.sv_tree.specs.declared.design.SourcePart.TheVariants as part
use Rattle.sv_meaning.specs.Faults.{Faults, fault_if, or_then, twice, Judged, provided, ◌>>=◌}
use Rattle.sv_meaning.specs.Layouts.{Name}
use Rattle.sv_meaning.specs.Names.{has_name}
use Rattle.sv_hierarchy.specs.Scopes.{Known, Library, State, here, library, module_named, is_there, add_typedef, add_params}
use Rattle.sv_hierarchy.specs.Libraries.{modules_in, repeated, IsLibraryOf}

abbrev tree_of : Known → Module
tree_of k = k.tree

abbrev number_of : Known → ℕ
number_of k = k.number

abbrev name_of : Known → Name
name_of k = k.tree.name.text

-- ---- no fault

then_clear : (a b : Faults) → a ≡ [] → b ≡ [] → or_then a b ≡ []
then_clear [] b p q = q
then_clear (x ∷ a) b p q = cc

no_fault : (b : Bool) (n : ℕ) (p : Place) → b ≡ false → fault_if b n p ≡ []
no_fault false n p h = refl
no_fault true n p h = cc

-- ---- steps

abbrev Outcome : Type 0
Outcome = Library × State

one_more : (b : Bool) (p : Place) (k : Known) (f : Known → Judged Outcome) (all : Outcome) → (provided (fault_if b twice p) k >>= f) ≡ Ok all → (b ≡ false) × (f k ≡ Ok all)
one_more true p k f all h = cc
one_more false p k f all h = (refl, h)

goes_on : (j : Judged State) (f : State → Judged Outcome) (all : Outcome) → (j >>= f) ≡ Ok all → (s : State) × (f s ≡ Ok all)
goes_on (Ok s) f all h = (s, h)
goes_on (Err why) f all h = cc

unfoldable known_at : Module → Library → State → Known
known_at m all st = record { tree = m; number = length all; above = (here st).consts }

there_if : (b : Bool) (m : Known) (o : Option Known) → is_there (if b then Some m else o) ≡ (b || is_there o)
there_if true m o = refl
there_if false m o = refl

pub there_is : (name : Name) (all : Library) → is_there (module_named name all) ≡ has_name name (map name_of all)
unfolding module_named has_name
there_is name [] = refl
there_is name (m ∷ all) = there_if (bytes_eq m.tree.name.text name) m (module_named name all) ∙ ap (λ b. bytes_eq m.tree.name.text name || b) (there_is name all)

-- ---- trees

trees_from : (parts : List SourcePart) (acc : Library) (st : State) (all : Outcome) → library parts acc st ≡ Ok all → map tree_of all.0 ≡ map tree_of acc ++ modules_in parts
unfolding library modules_in known_at
trees_from [] acc st all h = let e : acc ≡ all.0 = cc in sym (ap (map tree_of) e) ∙ sym (append-nil (map tree_of acc))
trees_from (part.Module m ∷ more) acc st all h =
    let g = one_more (is_there (module_named m.name.text acc)) m.name.place (known_at m acc st) (λ k. library more (acc ++ k ∷ []) st) all h in
    trees_from more (acc ++ known_at m acc st ∷ []) st all g.1
    ∙ ap (λ x. x ++ modules_in more) (map-append tree_of acc (known_at m acc st ∷ [])) ∙ append_assoc (map tree_of acc) (m ∷ []) (modules_in more)
trees_from (part.Typedef d ∷ more) acc st all h = let g = goes_on (add_typedef d st) (library more acc) all h in trees_from more acc g.0 all g.1
trees_from (part.Param p ∷ more) acc st all h = let g = goes_on (add_params p st) (library more acc) all h in trees_from more acc g.0 all g.1

-- ---- numbers

range_push : (a n : ℕ) → range_with_len a n ++ (a + n) ∷ [] ≡ range_with_len a (suc n)
range_push a zero = let e : a + 0 ≡ a = omega arith in ap (λ (k : ℕ). k ∷ []) e
range_push a (suc n) =
    let e : a + suc n ≡ a + 1 + n = omega arith in
    ap (λ (k : ℕ). a ∷ (range_with_len (a + 1) n ++ k ∷ [])) e ∙ ap (λ (x : List ℕ). a ∷ x) (range_push (a + 1) n)

length_more : (acc : Library) (k : Known) → length (acc ++ k ∷ []) ≡ suc (length acc)
length_more [] k = refl
length_more (x ∷ acc) k = ap suc (length_more acc k)

numbers_from : (parts : List SourcePart) (acc : Library) (st : State) (all : Outcome) → map number_of acc ≡ range_with_len 0 (length acc) → library parts acc st ≡ Ok all → map number_of all.0 ≡ range_with_len 0 (length all.0)
unfolding library known_at
numbers_from [] acc st all n h = let e : acc ≡ all.0 = cc in subst (λ (x : Library). map number_of x ≡ range_with_len 0 (length x)) e n
numbers_from (part.Module m ∷ more) acc st all n h =
    let k = known_at m acc st in
    let g = one_more (is_there (module_named m.name.text acc)) m.name.place k (λ x. library more (acc ++ x ∷ []) st) all h in
    let e : 0 + length acc ≡ length acc = omega arith in
    numbers_from more (acc ++ k ∷ []) st all
    (map-append number_of acc (k ∷ []) ∙ ap (λ (x : List ℕ). x ++ length acc ∷ []) n ∙ ap (λ (i : ℕ). range_with_len 0 (length acc) ++ i ∷ []) (sym e) ∙ range_push 0 (length acc)
    ∙ ap (λ (i : ℕ). range_with_len 0 i) (sym (length_more acc k))) g.1
numbers_from (part.Typedef d ∷ more) acc st all n h = let g = goes_on (add_typedef d st) (library more acc) all h in numbers_from more acc g.0 all n g.1
numbers_from (part.Param p ∷ more) acc st all n h = let g = goes_on (add_params p st) (library more acc) all h in numbers_from more acc g.0 all n g.1

pub library_is : (parts : List SourcePart) (st last : State) (all : Library) → library parts [] st ≡ Ok (all, last) → IsLibraryOf (modules_in parts) all
library_is parts st last all h =
    let t = trees_from parts [] st (all, last) h in
    record {
      trees = t;
      numbers = numbers_from parts [] st (all, last) refl h ∙ ap (λ (i : ℕ). range_with_len 0 i) (sym (length-map all tree_of) ∙ ap length t);
    }

-- ---- names

once_from : (parts : List SourcePart) (acc : Library) (st : State) (all : Outcome) → library parts acc st ≡ Ok all → repeated (map name_of acc) (modules_in parts) ≡ []
unfolding library modules_in repeated known_at
once_from [] acc st all h = refl
once_from (part.Module m ∷ more) acc st all h =
    let k = known_at m acc st in
    let g = one_more (is_there (module_named m.name.text acc)) m.name.place k (λ x. library more (acc ++ x ∷ []) st) all h in
    then_clear _ _ (no_fault _ twice m.name.place (sym (there_is m.name.text acc) ∙ g.0))
    (ap (λ (ns : List Name). repeated ns (modules_in more)) (sym (map-append name_of acc (k ∷ []))) ∙ once_from more (acc ++ k ∷ []) st all g.1)
once_from (part.Typedef d ∷ more) acc st all h = let g = goes_on (add_typedef d st) (library more acc) all h in once_from more acc g.0 all g.1
once_from (part.Param p ∷ more) acc st all h = let g = goes_on (add_params p st) (library more acc) all h in once_from more acc g.0 all g.1

pub library_once : (parts : List SourcePart) (st last : State) (all : Library) → library parts [] st ≡ Ok (all, last) → repeated [] (modules_in parts) ≡ []
library_once parts st last all h = once_from parts [] st (all, last) h
