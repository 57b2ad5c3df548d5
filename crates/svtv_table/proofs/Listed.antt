-- The variables of a table in their order, and their places by name.
use Rattle.std.proofs.Common.{◌≡◌, ◌<◌, ℕ, List, [], ◌∷◌, ◌++◌, length, map, get_or, Option, Some, None, true, false, is_some, if◌then◌else◌, refl, sym, ap, subst, ◌∙◌}
use Rattle.std.proofs.lemmas.List.{get_or-map, length-map, map-append}
use Rattle.std.specs.Prelude.{IfSome}
use Rattle.name_index.specs.Indexing.{number_under, place_of}
use Rattle.name_index.specs.Under.{Puts, under}
use Rattle.name_index.specs.declared.map.NameMap.{NameMap}
use Rattle.name_index.proofs.Indexes.{none_from, noted, place_within}
use Rattle.svtv_table.specs.Holding.{AreNumbered, declaration}
use Rattle.svtv_table.specs.Indexing.{listed, with_var}
use Rattle.svtv_table.specs.Names.{name_of, number_of, width_at, width_under}
use Rattle.svtv_table.specs.declared.bound.VarDecl.{VarDecl}
use Rattle.svtv_table.specs.declared.variables.Variable.{Variable}
use Rattle.svtv_table.specs.declared.variables.Variables.{Variables}

pub listed_long : (all : Variables) → length (listed all) ≡ length all.list.items
unfolding listed
listed_long all = length-map all.list.items declaration

-- ---- by name

pub is_at : (all : Variables) (name : List ℕ) (o : Option ℕ) → o ≡ under all.numbers name → o ≡ number_of (listed all) name
unfolding listed
is_at all name o e = e ∙ all.numbered name

pub at_within : (all : Variables) (name : List ℕ) (o : Option ℕ) → o ≡ number_of (listed all) name → IfSome o (λ i. i < length (listed all))
at_within all name o e =
    let names = map name_of (listed all) in
    subst (λ n. IfSome o (λ i. i < n)) (length-map (listed all) name_of) (subst (λ p. IfSome p (λ i. i < length names)) (sym e) (place_within names name))

pub width_there : (all : Variables) (name : List ℕ) (i : ℕ) (v : Variable) → number_of (listed all) name ≡ Some i → i < length all.list.items → v ≡ get_or all.list.items i v → Some v.width ≡ width_under (listed all) name
unfolding listed
width_there all name i v e l h =
    let there : get_or (listed all) i (record { name = []; width = 0 }) ≡ declaration (get_or all.list.items i v) = get_or-map declaration all.list.items i v (record { name = []; width = 0 }) l in
    ap (λ (x : Variable). Some x.width) h ∙ ap (λ (x : VarDecl). Some x.width) (sym there) ∙ ap (width_at (listed all)) (sym e)

-- ---- one more

pub var_there : (vars : List VarDecl) (name : List ℕ) (width : ℕ) → is_some (number_of vars name) ≡ true → vars ≡ with_var vars (record { name = name; width = width })
var_there vars name width h = sym (ap (λ b. if b then vars else vars ++ record { name = name; width = width } ∷ []) h)

pub var_new : (old new : Variables) (v : Variable) (name : List ℕ) → new.list.items ≡ old.list.items ++ v ∷ [] → v.name.now ≡ name → is_some (number_of (listed old) name) ≡ false
    → listed new ≡ with_var (listed old) (record { name = name; width = v.width })
unfolding listed
var_new old new v name e k h =
    ap (map declaration) e ∙ map-append declaration old.list.items (v ∷ [])
    ∙ ap (λ (n : List ℕ). listed old ++ record { name = n; width = v.width } ∷ []) k
    ∙ sym (ap (λ b. if b then listed old else listed old ++ record { name = name; width = v.width } ∷ []) h)

-- the places of names, where one is put that is new
pub numbered_new : (old : Variables) (new : NameMap) (v : Variable) (number : ℕ) (list : List Variable) → is_some (number_of (listed old) v.name.now) ≡ false → Puts old.numbers v.name.now (Some number) new
    → number ≡ length old.list.items → list ≡ old.list.items ++ v ∷ [] → AreNumbered new list
unfolding listed number_under
numbered_new old new v number list none put count e name =
    let names = map name_of (listed old) in
    let long : length names ≡ length old.list.items = length-map (listed old) name_of ∙ length-map old.list.items declaration in
    let all : map name_of (map declaration list) ≡ names ++ v.name.now ∷ [] =
    ap (λ (items : List Variable). map name_of (map declaration items)) e ∙ ap (map name_of) (map-append declaration old.list.items (v ∷ [])) ∙ map-append name_of (listed old) (declaration v ∷ []) in
    noted (record { numbers = old.numbers }) (record { numbers = new }) v.name.now number names (old.numbered v.name.now ∙ none_from (number_of (listed old) v.name.now) none) put old.numbered (count ∙ sym long) name
    ∙ ap (λ (texts : List (List ℕ)). place_of texts name) (sym all)

-- where there is none
pub numbered_none : (numbers : NameMap) (list : List Variable) → ((name : List ℕ) → under numbers name ≡ None) → list ≡ [] → AreNumbered numbers list
unfolding place_of
numbered_none numbers list none e name = none name ∙ ap (λ (items : List Variable). place_of (map name_of (map declaration items)) name) (sym e)
