-- Modules and their numbers by name, as code holds them.
use Rattle.std.proofs.Common.{◌≡◌, ℕ, ◌+◌, ◌<◌, List, [], ◌∷◌, ◌++◌, length, map, Option, Some, None, Bool, true, false, cond, ◌||◌, refl, sym, ap, ◌∙◌, subst, Result, Ok, Err, take, drop, get_or, is_some, Bor}
use Rattle.std.proofs.lemmas.List.{length-map, map-append}
use Rattle.std.specs.Cmp.Lexicographic.{nat_list_eq_equiv}
use Rattle.std.specs.List.{position_from, Contains}
use Rattle.std.specs.Result.{IsErrAnd, IfErr}
use Rattle.std.specs.Str.{bytes_eq}
use Rattle.name_index.specs.Indexing.{number_under, place_of, Indexes}
use Rattle.name_index.specs.declared.index.NameIndex.{NameIndex}
use Rattle.sv_outside.specs.declared.refusal.Refusal.{Refusal}
use Rattle.sv_outside.specs.declared.refusal.TextErr.{TextErr}
use Rattle.sv_outside.specs.declared.refusal.TextErr.TheVariants.{No, Memory}
use Rattle.sv_tree.specs.declared.design.Module.{Module}
use Rattle.sv_tree.specs.declared.design.SourcePart.{SourcePart}
use Rattle.sv_tree.specs.declared.design.SourcePart.TheVariants as part
use Rattle.sv_meaning.specs.Layouts.{Name}
use Rattle.sv_meaning.specs.Names.{has_name}
use Rattle.sv_typing.specs.Judging.{IsCause}
use Rattle.sv_hierarchy.specs.Libraries.{modules_in, repeated}
use Rattle.sv_modules.specs.Libraries.{module_name, trees_of}
use Rattle.sv_modules.specs.Named.{AreNamed, Lists, IsPut, PutsModule}
use Rattle.sv_modules.proofs.Libraries.{modules_split, repeated_at, repeated_front}

some_or : {X : Type 0} (b : Bool) (x : X) (o : Option X) → is_some (cond b (Some x) o) ≡ (b || is_some o)
some_or true x o = refl
some_or false x o = refl

-- a name that is one of those has a place
is_found : (name : Name) (n : ℕ) (names : List Name) → is_some (position_from (bytes_eq name) n names) ≡ has_name name names
unfolding has_name
is_found name n [] = refl
is_found name n (m ∷ names) =
    some_or (bytes_eq name m) n (position_from (bytes_eq name) (n + 1) names)
    ∙ ap (λ b. bytes_eq name m || b) (is_found name (n + 1) names)
    ∙ ap (λ b. b || has_name name names) (nat_list_eq_equiv.symm name m)

pub none_from : {X : Type 0} (o : Option X) → is_some o ≡ false → o ≡ None
none_from None h = refl
none_from (Some x) h = cc

-- what `?` hands on is the error that came
pub handed_on : {A E : Type 0} (r : Result A E) (e : E) (P : E → Type 0) → IsErrAnd r (λ y. y ≡ e) → P e → IfErr r P
handed_on (Ok v) e P h p = tt
handed_on (Err y) e P h p = subst P (sym h) p

-- ---- by name

is_known : (numbers : NameIndex) (trees : List Module) (name : Name) → AreNamed numbers trees → is_some (number_under numbers name) ≡ has_name name (map module_name trees)
unfolding place_of
is_known numbers trees name h = ap is_some (h name) ∙ is_found name 0 (map module_name trees)

pub is_at : (numbers : NameIndex) (trees : List Module) (name : Name) (o : Option ℕ) → o ≡ number_under numbers name → AreNamed numbers trees → o ≡ position_from (bytes_eq name) 0 (map module_name trees)
unfolding place_of
is_at numbers trees name o e h = e ∙ h name

-- ---- one more

pub put_new : (old new : NameIndex) (before after : List (Bor Module)) (tree : Bor Module) (name : Name) (count : ℕ) → number_under old name ≡ None → name ≡ tree.now.name.text → count ≡ length before
    → after ≡ before ++ tree ∷ [] → ((names : List Name) → Indexes old names → count ≡ length names → Indexes new (names ++ name ∷ [])) → IsPut old (trees_of before) tree.now new (trees_of after)
put_new old new before after tree name count none same long more noted =
    let trees : trees_of after ≡ trees_of before ++ tree.now ∷ [] = ap trees_of more ∙ map-append (λ (m : Bor Module). m.now) before (tree ∷ []) in
    let names : map module_name (trees_of after) ≡ map module_name (trees_of before) ++ name ∷ [] =
    ap (map module_name) trees ∙ map-append module_name (trees_of before) (tree.now ∷ []) ∙ ap (λ (n : Name). map module_name (trees_of before) ++ n ∷ []) (sym same) in
    let count_is : count ≡ length (map module_name (trees_of before)) = long ∙ sym (length-map before (λ (m : Bor Module). m.now)) ∙ sym (length-map (trees_of before) module_name) in
    record {
      is_new = subst (λ (n : Name). number_under old n ≡ None) same none;
      named = λ h. subst (Indexes new) (sym names) (noted (map module_name (trees_of before)) h count_is);
      trees = trees;
    }

-- ---- the modules of a text, one by one

pub lists_none : (numbers : NameIndex) (trees : List (Bor Module)) → Indexes numbers [] → trees ≡ [] → Lists numbers (trees_of trees) (modules_in [])
unfolding modules_in repeated
lists_none numbers trees h e = record {
  trees_are = ap trees_of e;
  named = subst (λ (ts : List (Bor Module)). AreNamed numbers (trees_of ts)) (sym e) h;
  once = refl;
}

pub lists_more : (old new : NameIndex) (before after modules : List Module) (m : Module) → Lists old before modules → IsPut old before m new after → Lists new after (modules ++ m ∷ [])
lists_more old new before after modules m h p = record {
  trees_are = p.trees ∙ ap (λ (ts : List Module). ts ++ m ∷ []) h.trees_are;
  named = p.named h.named;
  once = repeated_front [] modules m h.once
      (ap (λ (ts : List Module). has_name m.name.text (map module_name ts)) (sym h.trees_are) ∙ sym (is_known old before m.name.text h.named) ∙ ap is_some p.is_new);
}

pub lists_same : (a b : NameIndex) (x y ts us : List Module) → a ≡ b → x ≡ y → ts ≡ us → Lists b y us → Lists a x ts
lists_same a b x y ts us p q r h = subst (λ (n : NameIndex). Lists n x ts) (sym p) (subst (λ (z : List Module). Lists b z ts) (sym q) (subst (Lists b y) (sym r) h))

-- a module whose name stands before it
pub refused_at : (old new : NameIndex) (before after : List Module) (parts : List SourcePart) (i : ℕ) (x : SourcePart) (m : Module) (e : TextErr) → i < length parts → x ≡ get_or parts i x → x ≡ part.Module m →
    Lists old before (modules_in (take i parts)) → PutsModule old before m new after (Err e) → IsCause (repeated [] (modules_in parts)) e
refused_at old new before after parts i x m Memory h g k l p = tt
refused_at old new before after parts i x m (No r) h g k l p =
    let front = modules_in (take i parts) in
    let more = modules_in (drop (i + 1) parts) in
    subst (λ (ms : List Module). Contains (repeated [] ms) r) (sym (modules_split parts i x m h g k))
    (subst (λ (f : Refusal). Contains (repeated [] (front ++ m ∷ more)) f) (sym p.1)
    (repeated_at [] front m more l.once
    (ap (λ (ts : List Module). has_name m.name.text (map module_name ts)) (sym l.trees_are) ∙ sym (is_known old before m.name.text l.named) ∙ p.0)))
