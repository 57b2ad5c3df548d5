-- Libraries, and the modules of which they are made.
use Rattle.std.proofs.Common.{◌≡◌, ℕ, suc, ◌+◌, ◌<◌, List, [], ◌∷◌, ◌++◌, length, map, Option, Some, None, Bool, true, false, cond, refl, sym, ap, ◌∙◌, subst, arith, Ok, Err, Result, option_map, if◌then◌else◌, append_assoc, take, drop, get_or, Bor}
use Rattle.std.proofs.lemmas.List.{append-nil, length-map}
use Rattle.std.proofs.Math.ListN.{take-append-drop, length-take}
use Rattle.std.specs.List.{position_from, range_with_len, Contains}
use Rattle.std.specs.Str.{bytes_eq}
use Rattle.std.specs.Cmp.Lexicographic.{nat_list_eq_equiv}
use Rattle.sv_outside.specs.declared.refusal.TextErr.{TextErr}
use Rattle.sv_outside.specs.declared.refusal.TextErr.TheVariants.{No, Memory}
use Rattle.sv_tree.specs.declared.design.Module.{Module}
use Rattle.sv_tree.specs.declared.forms.Typedef.{Typedef}
use Rattle.sv_tree.specs.declared.design.Param.{Param}
use Rattle.sv_tree.specs.declared.design.SourcePart.{SourcePart}
use Rattle.sv_tree.specs.declared.design.SourcePart.TheVariants as part
use Rattle.sv_meaning.specs.Faults.{Faults, fault_if, twice, Judged, unknown_module}
use Rattle.sv_meaning.specs.Layouts.{Name}
use Rattle.sv_meaning.specs.Names.{has_name}
use Rattle.sv_hierarchy.specs.Scopes.{Known, Library, module_named, all_used, unused, the_one, top_named, top_module, instantiated_by, design_start, unclear}
use Rattle.sv_typing.proofs.Lists.{in_first, in_second, in_fault, no_fault, then_clear, first_clear, second_clear}
use Rattle.sv_loops.specs.Answers.{Answers, Gives}
use Rattle.sv_hierarchy.specs.Libraries.{modules_in, repeated, IsLibraryOf}
use Rattle.sv_modules.specs.Libraries.{module_name, trees_of, used_in, unused_from, only_one}
use Rattle.sv_modules.proofs.Turns.{take_next, drop_next, map_next}

-- ---- a module whose name stands before it

pub repeated_front : (u : List Name) (a : List Module) (m : Module) → repeated u a ≡ [] → has_name m.name.text (u ++ map module_name a) ≡ false → repeated u (a ++ m ∷ []) ≡ []
unfolding repeated
repeated_front u [] m e h = then_clear _ _ (no_fault _ twice m.name.place (ap (λ (names : List Name). has_name m.name.text names) (sym (append-nil u)) ∙ h)) refl
repeated_front u (x ∷ a) m e h =
    then_clear (fault_if (has_name x.name.text u) twice x.name.place) _ (first_clear _ (repeated (u ++ x.name.text ∷ []) a) e)
    (repeated_front (u ++ x.name.text ∷ []) a m (second_clear (fault_if (has_name x.name.text u) twice x.name.place) (repeated (u ++ x.name.text ∷ []) a) e)
    (ap (λ (names : List Name). has_name m.name.text names) (append_assoc u (x.name.text ∷ []) (map module_name a)) ∙ h))

pub repeated_at : (u : List Name) (a : List Module) (m : Module) (more : List Module) → repeated u a ≡ [] → has_name m.name.text (u ++ map module_name a) ≡ true →
    Contains (repeated u (a ++ m ∷ more)) (record { number = twice; place = m.name.place; count = 0 })
unfolding repeated
repeated_at u [] m more e h = in_first _ _ _ (in_fault _ twice m.name.place (ap (λ (names : List Name). has_name m.name.text names) (sym (append-nil u)) ∙ h))
repeated_at u (x ∷ a) m more e h =
    in_second (fault_if (has_name x.name.text u) twice x.name.place) _ _ (first_clear _ (repeated (u ++ x.name.text ∷ []) a) e)
    (repeated_at (u ++ x.name.text ∷ []) a m more (second_clear (fault_if (has_name x.name.text u) twice x.name.place) (repeated (u ++ x.name.text ∷ []) a) e)
    (ap (λ (names : List Name). has_name m.name.text names) (append_assoc u (x.name.text ∷ []) (map module_name a)) ∙ h))

-- ---- by name

named_if : (b c : Bool) (m : Known) (o : Option Known) (k : ℕ) (p : Option ℕ) → b ≡ c → m.number ≡ k → option_map (λ (x : Known). x.number) o ≡ p → option_map (λ (x : Known). x.number) (if b then Some m else o) ≡ cond c (Some k) p
named_if true true m o k p h n e = ap (λ x. Some x) n
named_if true false m o k p h n e = cc
named_if false true m o k p h n e = cc
named_if false false m o k p h n e = e

named_from : (k : ℕ) (all : Library) (trees : List Module) (name : Name) → map (λ (x : Known). x.tree) all ≡ trees → map (λ (x : Known). x.number) all ≡ range_with_len k (length trees) →
    option_map (λ (x : Known). x.number) (module_named name all) ≡ position_from (bytes_eq name) k (map module_name trees)
unfolding module_named
named_from k [] [] name e h = refl
named_from k [] (t ∷ trees) name e h = cc
named_from k (m ∷ all) [] name e h = cc
named_from k (m ∷ all) (t ∷ trees) name e h =
    let a : m.tree ≡ t = cc in
    let b : map (λ (x : Known). x.tree) all ≡ trees = cc in
    let c : m.number ≡ k = cc in
    let d : map (λ (x : Known). x.number) all ≡ range_with_len (k + 1) (length trees) = cc in
    named_if (bytes_eq m.tree.name.text name) (bytes_eq name t.name.text) m (module_named name all) k _
    (nat_list_eq_equiv.symm m.tree.name.text name ∙ ap (λ (x : Module). bytes_eq name x.name.text) a) c (named_from (k + 1) all trees name b d)

pub number_is : (all : Library) (trees : List Module) (name : Name) (o : Option ℕ) → o ≡ position_from (bytes_eq name) 0 (map module_name trees) → IsLibraryOf trees all → option_map (λ (x : Known). x.number) (module_named name all) ≡ o
number_is all trees name o e h = named_from 0 all trees name h.trees h.numbers ∙ sym e

-- ---- the top

used_is : (all : Library) (trees : List Module) → map (λ (x : Known). x.tree) all ≡ trees → all_used all ≡ used_in trees
unfolding all_used used_in
used_is [] [] h = refl
used_is [] (t ∷ trees) h = cc
used_is (m ∷ all) [] h = cc
used_is (m ∷ all) (t ∷ trees) h =
    let a : m.tree ≡ t = cc in
    let b : map (λ (x : Known). x.tree) all ≡ trees = cc in
    ap (λ (x : Module). instantiated_by x.items ++ all_used all) a ∙ ap (λ x. instantiated_by t.items ++ x) (used_is all trees b)

unused_if : (b c : Bool) (m : Known) (all : Library) (k : ℕ) (ns : List ℕ) → b ≡ c → m.number ≡ k → map (λ (x : Known). x.number) all ≡ ns → map (λ (x : Known). x.number) (if b then all else m ∷ all) ≡ (if c then [] else k ∷ []) ++ ns
unused_if true true m all k ns h n e = e
unused_if true false m all k ns h n e = cc
unused_if false true m all k ns h n e = cc
unused_if false false m all k ns h n e = cc

unused_is : (k : ℕ) (names : List Name) (all : Library) (trees : List Module) → map (λ (x : Known). x.tree) all ≡ trees → map (λ (x : Known). x.number) all ≡ range_with_len k (length trees) →
    map (λ (x : Known). x.number) (unused names all) ≡ unused_from k names trees
unfolding unused unused_from
unused_is k names [] [] e h = refl
unused_is k names [] (t ∷ trees) e h = cc
unused_is k names (m ∷ all) [] e h = cc
unused_is k names (m ∷ all) (t ∷ trees) e h =
    let a : m.tree ≡ t = cc in
    let b : map (λ (x : Known). x.tree) all ≡ trees = cc in
    let c : m.number ≡ k = cc in
    let n : k + 1 ≡ suc k = omega arith in
    let d : map (λ (x : Known). x.number) all ≡ range_with_len (suc k) (length trees) = cc in
    unused_if (has_name m.tree.name.text names) (has_name t.name.text names) m (unused names all) k _ (ap (λ (x : Module). has_name x.name.text names) a) c (unused_is (suc k) names all trees b d)

-- what has no value under one relation has none under another
no_value : (all : Faults) (r : Result ℕ TextErr) → (let j : Judged ℕ = Err all in Gives j r) → let j : Judged Known = Err all in Answers (λ (x : Known) n. x.number ≡ n) j r
no_value all (Ok n) h = absurd h
no_value all (Err (No e)) h = h
no_value all (Err Memory) h = tt

one_value : (m : Known) (n : ℕ) (r : Result ℕ TextErr) → m.number ≡ n → (let j : Judged ℕ = Ok n in Gives j r) → let j : Judged Known = Ok m in Answers (λ (x : Known) n. x.number ≡ n) j r
one_value m n (Ok k) e h = e ∙ h
one_value m n (Err (No x)) e h = absurd h
one_value m n (Err Memory) e h = tt

only_is : (all : Library) (ns : List ℕ) (r : Result ℕ TextErr) → map (λ (x : Known). x.number) all ≡ ns → Gives (only_one ns) r → Answers (λ (x : Known) n. x.number ≡ n) (the_one all) r
only_is [] [] r e h = no_value (unclear 0) r h
only_is [] (n ∷ ns) r e h = cc
only_is (m ∷ all) [] r e h = cc
only_is (m ∷ []) (n ∷ []) r e h = let i : m.number ≡ n = cc in one_value m n r i h
only_is (m ∷ []) (n ∷ (k ∷ ns)) r e h = cc
only_is (m ∷ (x ∷ all)) (n ∷ []) r e h = cc
only_is (m ∷ (x ∷ all)) (n ∷ (k ∷ ns)) r e h =
    let i : length (n ∷ (k ∷ ns)) ≡ length (m ∷ (x ∷ all)) = sym (ap length e) ∙ length-map (m ∷ (x ∷ all)) (λ (y : Known). y.number) in
    no_value (unclear (length (m ∷ (x ∷ all)))) r (subst (λ c. let j : Judged ℕ = Err (unclear c) in Gives j r) i h)

pub top_is : (all : Library) (trees : List Module) (ns : List ℕ) (r : Result ℕ TextErr) → IsLibraryOf trees all → ns ≡ unused_from 0 (used_in trees) trees → Gives (only_one ns) r → Answers (λ (x : Known) n. x.number ≡ n) (top_module all None) r
top_is all trees ns r h e g =
    only_is (unused (all_used all) all) ns r (ap (λ names. map (λ (x : Known). x.number) (unused names all)) (used_is all trees h.trees) ∙ unused_is 0 (used_in trees) all trees h.trees h.numbers ∙ sym e) g

pub named_ok : (all : Library) (name : Name) (n : ℕ) → option_map (λ (x : Known). x.number) (module_named name all) ≡ Some n → Answers (λ (x : Known) k. x.number ≡ k) (top_module all (Some name)) (Ok n)
named_ok all name n h = go (module_named name all) h
  where
    go : (o : Option Known) → option_map (λ (x : Known). x.number) o ≡ Some n → Answers (λ (x : Known) k. x.number ≡ k) (top_named o) (Ok n)
    go None e = cc
    go (Some m) e = cc

pub named_none : (all : Library) (name : Name) → option_map (λ (x : Known). x.number) (module_named name all) ≡ None → Answers (λ (x : Known) k. x.number ≡ k) (top_module all (Some name)) (Err (No (record { number = unknown_module; place = design_start; count = 0 })))
named_none all name h = go (module_named name all) h
  where
    go : (o : Option Known) → option_map (λ (x : Known). x.number) o ≡ None → Answers (λ (x : Known) k. x.number ≡ k) (top_named o) (Err (No (record { number = unknown_module; place = design_start; count = 0 })))
    go None e = (0, omega arith, refl)
    go (Some m) e = cc

-- ---- the modules among the parts of a text

part_append : (a b : List SourcePart) → modules_in (a ++ b) ≡ modules_in a ++ modules_in b
unfolding modules_in
part_append [] b = refl
part_append (part.Module m ∷ a) b = ap (λ more. m ∷ more) (part_append a b)
part_append (part.Typedef d ∷ a) b = part_append a b
part_append (part.Param p ∷ a) b = part_append a b

first_module : (x : SourcePart) (m : Module) (more : List SourcePart) → x ≡ part.Module m → modules_in (x ∷ more) ≡ m ∷ modules_in more
unfolding modules_in
first_module x m more e = ap (λ (y : SourcePart). modules_in (y ∷ more)) e

one_module : (x : SourcePart) (m : Module) → x ≡ part.Module m → modules_in (x ∷ []) ≡ m ∷ []
unfolding modules_in
one_module x m e = ap (λ (y : SourcePart). modules_in (y ∷ [])) e

one_typedef : (x : SourcePart) (d : Typedef) → x ≡ part.Typedef d → modules_in (x ∷ []) ≡ []
unfolding modules_in
one_typedef x d e = ap (λ (y : SourcePart). modules_in (y ∷ [])) e

one_param : (x : SourcePart) (p : Param) → x ≡ part.Param p → modules_in (x ∷ []) ≡ []
unfolding modules_in
one_param x p e = ap (λ (y : SourcePart). modules_in (y ∷ [])) e

part_next : (all : List SourcePart) (i : ℕ) (x : SourcePart) → i < length all → x ≡ get_or all i x → modules_in (take (i + 1) all) ≡ modules_in (take i all) ++ modules_in (x ∷ [])
part_next all i x h e = ap modules_in (take_next all i x h e) ∙ part_append (take i all) (x ∷ [])

pub module_next : (all : List SourcePart) (i : ℕ) (x : SourcePart) (m : Module) → i < length all → x ≡ get_or all i x → x ≡ part.Module m → modules_in (take (i + 1) all) ≡ modules_in (take i all) ++ m ∷ []
module_next all i x m h e g = part_next all i x h e ∙ ap (λ more. modules_in (take i all) ++ more) (one_module x m g)

pub typedef_next : (all : List SourcePart) (i : ℕ) (x : SourcePart) (d : Typedef) → i < length all → x ≡ get_or all i x → x ≡ part.Typedef d → modules_in (take (i + 1) all) ≡ modules_in (take i all)
typedef_next all i x d h e g = part_next all i x h e ∙ ap (λ more. modules_in (take i all) ++ more) (one_typedef x d g) ∙ append-nil (modules_in (take i all))

pub param_next : (all : List SourcePart) (i : ℕ) (x : SourcePart) (p : Param) → i < length all → x ≡ get_or all i x → x ≡ part.Param p → modules_in (take (i + 1) all) ≡ modules_in (take i all)
param_next all i x p h e g = part_next all i x h e ∙ ap (λ more. modules_in (take i all) ++ more) (one_param x p g) ∙ append-nil (modules_in (take i all))

-- a module, with those before it and those behind it
pub modules_split : (all : List SourcePart) (i : ℕ) (x : SourcePart) (m : Module) → i < length all → x ≡ get_or all i x → x ≡ part.Module m → modules_in all ≡ modules_in (take i all) ++ m ∷ modules_in (drop (i + 1) all)
modules_split all i x m h e g =
    ap modules_in (sym (take-append-drop i all) ∙ ap (λ (ps : List SourcePart). take i all ++ ps) (drop_next all i x h e)) ∙ part_append (take i all) (x ∷ drop (i + 1) all)
    ∙ ap (λ (ms : List Module). modules_in (take i all) ++ ms) (first_module x m (drop (i + 1) all) g)

-- ---- modules one by one

pub trees_next : (all : List (Bor Module)) (i : ℕ) (m : Bor Module) → i < length all → m ≡ get_or all i m → trees_of (take (i + 1) all) ≡ trees_of (take i all) ++ m.now ∷ []
trees_next all i m h e = map_next (λ (x : Bor Module). x.now) all i m h e

unused_append : (n : ℕ) (names : List Name) (a : List Module) (m : Module) → unused_from n names (a ++ m ∷ []) ≡ unused_from n names a ++ (if has_name m.name.text names then [] else (n + length a) ∷ [])
unfolding unused_from
unused_append n names [] m = append-nil (if has_name m.name.text names then [] else n ∷ []) ∙ (let e : n ≡ n + 0 = omega arith in ap (λ (k : ℕ). if has_name m.name.text names then [] else k ∷ []) e)
unused_append n names (x ∷ a) m =
    let e : suc n + length a ≡ n + suc (length a) = omega arith in
    ap (λ more. (if has_name x.name.text names then [] else n ∷ []) ++ more) (unused_append (suc n) names a m)
    ∙ ap (λ (k : ℕ). (if has_name x.name.text names then [] else n ∷ []) ++ (unused_from (suc n) names a ++ (if has_name m.name.text names then [] else k ∷ []))) e
    ∙ sym (append_assoc (if has_name x.name.text names then [] else n ∷ []) (unused_from (suc n) names a) _)

pub no_unused : (names : List Name) → unused_from 0 names [] ≡ []
unfolding unused_from
no_unused names = refl

pub trees_len : (all : List (Bor Module)) (i : ℕ) → i < length all → length (trees_of (take i all)) ≡ i
trees_len all i h = length-map (take i all) (λ (x : Bor Module). x.now) ∙ (let e = length-take i all in omega arith)

pub unused_next : (names : List Name) (all : List (Bor Module)) (i : ℕ) (m : Bor Module) → i < length all → m ≡ get_or all i m →
    unused_from 0 names (trees_of (take (i + 1) all)) ≡ unused_from 0 names (trees_of (take i all)) ++ (if has_name m.now.name.text names then [] else i ∷ [])
unused_next names all i m h e =
    ap (unused_from 0 names) (trees_next all i m h e) ∙ unused_append 0 names (trees_of (take i all)) m.now
    ∙ (let g : 0 + length (trees_of (take i all)) ≡ i = omega (arith, trees_len all i h) in ap (λ (k : ℕ). unused_from 0 names (trees_of (take i all)) ++ (if has_name m.now.name.text names then [] else k ∷ [])) g)
