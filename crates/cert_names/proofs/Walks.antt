-- The loops that number anew.
use Rattle.std.proofs.Common.{◌≡◌, ℕ, ◌+◌, ◌<◌, ◌≤◌, List, [], ◌∷◌, ◌++◌, length, get_or, map, take, Vec, Global, sym, ap, ◌∙◌, subst, arith}
use Rattle.std.specs.List.{All, AllZip}
use Rattle.std.proofs.lemmas.List.{take_more, take_all, map_more, map_push, length-map, get_or-map}
use Rattle.std.proofs.lemmas.List.Elements.{AllZip-push}
use Rattle.cnf.specs.declared.Dim.{Dim}
use Rattle.cnf.specs.Formula.{Formula, formula_of}
use Rattle.refute_check.specs.Entry.{Entry}
use Rattle.cert_names.specs.Names.{AreRenamed, IsRenamedStep, AreNamed}

-- one element more
pub zip_more : {X : Type 0} (R : X → X → Type 0) (xs ys zs : List X) (i : ℕ) (x y : X) → i < length xs → AllZip R (take i xs) ys → R (get_or xs i x) y → zs ≡ ys ++ y ∷ [] → AllZip R (take (i + 1) xs) zs
zip_more {X} R xs ys zs i x y within h r is =
    subst (λ (l : List X). AllZip R (take (i + 1) xs) l) (sym is) (subst (λ (l : List X). AllZip R l (ys ++ y ∷ [])) (sym (take_more xs i x within)) (AllZip-push R (take i xs) ys (get_or xs i x) y h r))

pub zip_done : {X : Type 0} (R : X → X → Type 0) (xs ys : List X) (i : ℕ) → length xs ≤ i → AllZip R (take i xs) ys → AllZip R xs ys
zip_done {X} R xs ys i past h = subst (λ (l : List X). AllZip R l ys) (take_all i xs past) h

abbrev listed : Vec Dim Global → List Dim
listed v = v.items

pub clauses_more : (names : List ℕ) (vs ws zs : List (Vec Dim Global)) (i : ℕ) (v w : Vec Dim Global) (items : List Dim) → i < length vs → v ≡ get_or vs i v → items ≡ v.items
    → AllZip (AreRenamed names) (map (λ v. v.items) (take i vs)) (map (λ v. v.items) ws) → AreRenamed names items w.items → zs ≡ ws ++ w ∷ []
    → AllZip (AreRenamed names) (map (λ v. v.items) (take (i + 1) vs)) (map (λ v. v.items) zs)
clauses_more names vs ws zs i v w items within is e h r more =
    let old : map listed (take (i + 1) vs) ≡ map listed (take i vs) ++ listed (get_or vs i v) ∷ [] = map_more listed vs i v within in
    let new : map listed zs ≡ map listed ws ++ listed w ∷ [] = ap (λ l. map listed l) more ∙ map_push listed ws w in
    let here : AreRenamed names (listed (get_or vs i v)) (listed w) = subst (λ (c : List Dim). AreRenamed names c w.items) (e ∙ ap listed is) r in
    subst (λ (l : List (List Dim)). AllZip (AreRenamed names) l (map listed zs)) (sym old)
    (subst (λ (l : List (List Dim)). AllZip (AreRenamed names) (map listed (take i vs) ++ listed (get_or vs i v) ∷ []) l) (sym new) (AllZip-push (AreRenamed names) (map listed (take i vs)) (map listed ws) (listed (get_or vs i v)) w.items h here))

-- ---- the names of the next clause or step

pub clause_named : (names : List ℕ) (vs : List (Vec Dim Global)) (i : ℕ) (v : Vec Dim Global) (items : List Dim) → All (AreNamed names) (map (λ v. v.items) vs) → i < length vs → v ≡ get_or vs i v → items ≡ v.items → AreNamed names items
clause_named names vs i v items all within is e =
    let there : get_or (map listed vs) i [] ≡ items = get_or-map listed vs i v [] within ∙ sym (e ∙ ap listed is) in
    let long = length-map vs listed in
    let here : AreNamed names (get_or (map listed vs) i []) = all i [] (omega arith) in
    subst (AreNamed names) there here

pub step_named : (names : List ℕ) (log : List Entry) (i : ℕ) (s : Entry) → All (λ s. AreNamed names s.clause) log → i < length log → s ≡ get_or log i s → AreNamed names s.clause
step_named names log i s all within is = subst (λ (x : Entry). AreNamed names x.clause) (sym is) (all i s within)

pub step_more : (names : List ℕ) (log ys zs : List Entry) (i : ℕ) (s t : Entry) → i < length log → s ≡ get_or log i s → AllZip (IsRenamedStep names) (take i log) ys → IsRenamedStep names s t → zs ≡ ys ++ t ∷ [] → AllZip (IsRenamedStep names) (take (i + 1) log) zs
step_more names log ys zs i s t within is h r more = zip_more (IsRenamedStep names) log ys zs i s t within h (subst (λ (x : Entry). IsRenamedStep names x t) is r) more

pub clauses_held : (names : List ℕ) (vars : ℕ) (f : Formula) (vs ws : List (Vec Dim Global)) → formula_of vars (map (λ v. v.items) vs) ≡ f → ws ≡ vs → All (AreNamed names) f.clauses → All (AreNamed names) (map (λ v. v.items) ws)
clauses_held names vars f vs ws e is all =
    subst (λ (l : List (List Dim)). All (AreNamed names) l) (sym (ap (λ (l : List (Vec Dim Global)). map listed l) is ∙ ap (λ (x : Formula). x.clauses) e)) all
