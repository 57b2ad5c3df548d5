-- Modules by number and by name.
use Rattle.std.proofs.Common.{◌≡◌, ℕ, zero, suc, ◌+◌, ◌<◌, ◌≤◌, Bool, true, false, List, [], ◌∷◌, length, map, get_or, Option, Some, None, Result, Ok, Err, refl, sym, ap, ◌∙◌, subst, arith, if◌then◌else◌, Bor}
use Rattle.std.specs.Option.{option_map}
use Rattle.std.specs.List.{slice_get, range_with_len}
use Rattle.std.proofs.lemmas.Option.{slice_get-map, slice_get_past, slice_get_read}
use Rattle.sv_outside.specs.declared.refusal.TextErr.{TextErr}
use Rattle.sv_outside.specs.declared.refusal.TextErr.TheVariants.{No, Memory}
use Rattle.sv_tree.specs.declared.design.Module.{Module}
use Rattle.sv_meaning.specs.Faults.{Judged, fault, unknown_module}
use Rattle.sv_meaning.specs.Layouts.{Name}
use Rattle.sv_meaning.specs.Names.{has_name}
use Rattle.std.specs.Str.{bytes_eq}
use Rattle.sv_hierarchy.specs.Libraries.{IsLibraryOf}
use Rattle.sv_hierarchy.specs.Scopes as m
use Rattle.sv_hierarchy.specs.Scopes.{unused, module_named}
use Rattle.sv_loops.specs.Answers.{Answers}
use Rattle.sv_levels.specs.Library.{known_is}
use Rattle.sv_levels.specs.declared.library.Known.{Known}
use Rattle.sv_levels.specs.declared.tasks.Child.{Child}

pub answers_memory : {A B : Type 0} (r : A → B → Type 0) (j : Judged A) → Answers r j (Err Memory)
answers_memory r (Ok x) = tt
answers_memory r (Err all) = tt

-- ---- the module of a number

abbrev tree_of : m.Known → Module
tree_of k = k.tree

abbrev number_of : m.Known → ℕ
number_of k = k.number

abbrev above_of : m.Known → ℕ
above_of k = k.above

-- is one of them
abbrev pub IsAmong : m.Library → m.Known → Type 0
IsAmong all k = (j : ℕ) × (slice_get all j ≡ Some k)

numbered_from : (k : ℕ) (all : m.Library) (len n : ℕ) (x : m.Known) → map number_of all ≡ range_with_len k len → slice_get all n ≡ Some x → x.number ≡ k + n
numbered_from k [] len n x h e = cc
numbered_from k (y ∷ all) zero n x h e = cc
numbered_from k (y ∷ all) (suc len) zero x h e =
    let a : y.number ≡ k = cc in
    let b : y ≡ x = cc in
    let c : y.number ≡ x.number = ap number_of b in
    omega arith
numbered_from k (y ∷ all) (suc len) (suc n) x h e =
    let a : map number_of all ≡ range_with_len (k + 1) len = cc in
    let b = numbered_from (k + 1) all len n x a e in
    omega (arith, b)

pub number_at : (modules : List Module) (all : m.Library) (n : ℕ) (x : m.Known) → IsLibraryOf modules all → slice_get all n ≡ Some x → x.number ≡ n
number_at modules all n x h e = let a = numbered_from 0 all (length modules) n x h.numbers e in omega (arith, a)

pub own_number : (modules : List Module) (all : m.Library) (x : m.Known) → IsLibraryOf modules all → IsAmong all x → slice_get all x.number ≡ Some x
own_number modules all x h k = ap (λ (j : ℕ). slice_get all j) (number_at modules all k.0 x h k.1) ∙ k.1

same_known : (o : Option m.Known) (t : Module) (n a : ℕ) → option_map tree_of o ≡ Some t → ((k : m.Known) → o ≡ Some k → k.number ≡ n) → option_map above_of o ≡ Some a → o ≡ Some (record { tree = t; number = n; above = a })
same_known None t n a h f g = cc
same_known (Some k) t n a h f g =
    let x : k.tree ≡ t = cc in
    let y : k.number ≡ n = f k refl in
    let z : k.above ≡ a = cc in
    let same : k ≡ record { tree = t; number = n; above = a } = λ i. record { tree = x i; number = y i; above = z i } in
    ap Some same

pub known_at : (modules : List Module) (all : m.Library) (above : List ℕ) (n : ℕ) (t : Module) (a : ℕ) → IsLibraryOf modules all → map (λ (k : m.Known). k.above) all ≡ above →
    slice_get modules n ≡ Some t → slice_get above n ≡ Some a → slice_get all n ≡ Some (record { tree = t; number = n; above = a })
known_at modules all above n t a h e f g =
    same_known (slice_get all n) t n a (sym (slice_get-map tree_of all n) ∙ ap (λ (x : List Module). slice_get x n) h.trees ∙ f)
    (λ k i. number_at modules all n k h i)
    (sym (slice_get-map above_of all n) ∙ ap (λ (x : List ℕ). slice_get x n) e ∙ g)

-- an element of what code lists
pub tree_got : (listed : List (Bor Module)) (modules : List Module) (n : ℕ) (t : Bor Module) → map (λ (x : Bor Module). x.now) listed ≡ modules → n < length listed → t ≡ get_or listed n t → slice_get modules n ≡ Some t.now
tree_got listed modules n t e h g =
    ap (λ (x : List Module). slice_get x n) (sym e) ∙ slice_get-map (λ (x : Bor Module). x.now) listed n ∙ ap (option_map (λ (x : Bor Module). x.now)) (slice_get_read listed (length listed) n t refl h g)

-- ---- the module of a name

among_if : (b : Bool) (k : m.Known) (all u : m.Library) (x : m.Known) → (IsAmong u x → IsAmong all x) → IsAmong (if b then u else k ∷ u) x → IsAmong (k ∷ all) x
among_if true k all u x f h = let g = f h in (suc g.0, g.1)
among_if false k all u x f (zero, e) = (zero, e)
among_if false k all u x f (suc j, e) = let g = f (j, e) in (suc g.0, g.1)

pub among_unused : (names : List Name) (all : m.Library) (x : m.Known) → IsAmong (m.unused names all) x → IsAmong all x
unfolding unused
among_unused names [] x h = h
among_unused names (k ∷ all) x h = among_if (has_name k.tree.name.text names) k all (m.unused names all) x (among_unused names all x) h

pub among_one : (all : m.Library) (x : m.Known) → m.the_one all ≡ Ok x → IsAmong all x
among_one [] x h = cc
among_one (k ∷ []) x h = let e : k ≡ x = cc in (zero, ap Some e)
among_one (k ∷ n ∷ all) x h = cc

named_if : (b : Bool) (k : m.Known) (all : m.Library) (o : Option m.Known) (x : m.Known) → (o ≡ Some x → IsAmong all x) → (if b then Some k else o) ≡ Some x → IsAmong (k ∷ all) x
named_if true k all o x f h = (zero, h)
named_if false k all o x f h = let g = f h in (suc g.0, g.1)

pub among_named : (n : Name) (all : m.Library) (x : m.Known) → m.module_named n all ≡ Some x → IsAmong all x
unfolding module_named
among_named n [] x h = cc
among_named n (k ∷ all) x h = named_if (bytes_eq k.tree.name.text n) k all (m.module_named n all) x (among_named n all x) h

named_is : (o : Option m.Known) (n : ℕ) → option_map number_of o ≡ Some n → (x : m.Known) × (o ≡ Some x) × (x.number ≡ n)
named_is None n h = cc
named_is (Some x) n h = (x, refl, cc)

unnamed_is : (o : Option m.Known) → option_map number_of o ≡ None → o ≡ None
unnamed_is None h = refl
unnamed_is (Some x) h = cc

module_is : (all : m.Library) (c : m.Child) (x : m.Known) → m.module_named c.of_module.text all ≡ Some x → m.module_of all c ≡ Ok x
module_is all c x e = rw e refl

module_missing : (all : m.Library) (c : m.Child) → m.module_named c.of_module.text all ≡ None → m.module_of all c ≡ Err (fault unknown_module c.of_module.place)
module_missing all c e = rw e refl

-- the module of the number that is found for a name is the one that has it
pub named_at : (modules : List Module) (all : m.Library) (name : Name) (n : ℕ) → IsLibraryOf modules all → option_map (λ (x : m.Known). x.number) (m.module_named name all) ≡ Some n → slice_get all n ≡ m.module_named name all
named_at modules all name n h e =
    let x = named_is (m.module_named name all) n e in
    ap (λ (j : ℕ). slice_get all j) (sym x.2) ∙ own_number modules all x.0 h (among_named name all x.0 x.1) ∙ sym x.1

pub not_named : (all : m.Library) (name : Name) → option_map (λ (x : m.Known). x.number) (m.module_named name all) ≡ None → None ≡ m.module_named name all
not_named all name e = sym (unnamed_is (m.module_named name all) e)

abbrev pub IsModule : m.Known → Known → Type 0
IsModule k known = k ≡ known_is known

pub module_told : (all : m.Library) (c : m.Child) (name : Name) (k : Known) → name ≡ c.of_module.text → Some (known_is k) ≡ m.module_named name all → Answers IsModule (m.module_of all c) (Ok k)
module_told all c name k e h =
    subst (λ (j : Judged m.Known). Answers IsModule j (Ok k)) (sym (module_is all c (known_is k) (ap (λ (n : Name). m.module_named n all) (sym e) ∙ sym h))) refl

pub module_none : (all : m.Library) (c : m.Child) (name : Name) → name ≡ c.of_module.text → None ≡ m.module_named name all → m.module_of all c ≡ Err (fault unknown_module c.of_module.place)
module_none all c name e h = module_missing all c (ap (λ (n : Name). m.module_named n all) (sym e) ∙ sym h)

-- ---- no module of a number

nothing_there : {A : Type 0} (f : m.Known → A) (all : m.Library) (n : ℕ) → slice_get (map f all) n ≡ None → None ≡ slice_get all n
nothing_there f all n h = go (slice_get all n) (sym (slice_get-map f all n) ∙ h)
  where
    go : (o : Option m.Known) → option_map f o ≡ None → None ≡ o
    go None e = refl
    go (Some k) e = cc

pub no_tree : (listed : List (Bor Module)) (modules : List Module) (all : m.Library) (n : ℕ) → IsLibraryOf modules all → map (λ (x : Bor Module). x.now) listed ≡ modules → length listed ≤ n → None ≡ slice_get all n
no_tree listed modules all n h e l =
    nothing_there tree_of all n (ap (λ (x : List Module). slice_get x n) (h.trees ∙ sym e) ∙ slice_get-map (λ (x : Bor Module). x.now) listed n ∙ ap (option_map (λ (x : Bor Module). x.now)) (slice_get_past listed n l))

pub no_above : (all : m.Library) (above : List ℕ) (n : ℕ) → map (λ (k : m.Known). k.above) all ≡ above → slice_get above n ≡ None → None ≡ slice_get all n
no_above all above n e h = nothing_there above_of all n (ap (λ (x : List ℕ). slice_get x n) e ∙ h)
