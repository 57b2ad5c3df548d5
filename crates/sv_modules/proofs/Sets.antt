-- Sets of names.
use Rattle.std.proofs.Common.{◌≡◌, ℕ, List, [], ◌∷◌, ◌++◌, Bool, true, false, cond, ◌||◌, Option, Some, None, is_some, refl, sym, ◌∙◌, ap, Result, Ok, Err}
use Rattle.std.specs.Result.{OnOk}
use Rattle.std.specs.Str.{bytes_eq}
use Rattle.name_index.specs.Under.{Puts, under}
use Rattle.sv_meaning.specs.Layouts.{Name}
use Rattle.sv_meaning.specs.Names.{has_name}
use Rattle.sv_modules.specs.Naming.{holds, Holds, Adds}
use Rattle.sv_modules.specs.declared.name_set.NameSet.{NameSet}

pub holds_none : (s : NameSet) → ((name : Name) → under s.names name ≡ None) → Holds s []
unfolding holds has_name
holds_none s e = λ name. ap is_some (e name)

some_or : (b : Bool) (o : Option ℕ) → is_some (cond b (Some 0) o) ≡ ((b || false) || is_some o)
some_or true o = refl
some_or false o = refl

-- one more name
pub added : {A E : Type 0} (r : Result A E) (s t : NameSet) (name : Name) → OnOk r (Puts s.names name (Some 0) t.names) → OnOk r (Adds s (name ∷ []) t)
unfolding holds has_name
added (Ok x) s t name h = λ other. ap is_some (h other) ∙ some_or (bytes_eq name other) (under s.names other)
added (Err e) s t name h = tt

or_assoc : (a b c : Bool) → (a || (b || c)) ≡ ((a || b) || c)
or_assoc true b c = refl
or_assoc false b c = refl

or_turned : (a b c : Bool) → (b || (a || c)) ≡ ((a || b) || c)
or_turned true true c = refl
or_turned true false c = refl
or_turned false b c = refl

pub has_append : (name : Name) (a b : List Name) → has_name name (a ++ b) ≡ (has_name name a || has_name name b)
unfolding has_name
has_append name [] b = refl
has_append name (m ∷ a) b = ap (λ x. bytes_eq m name || x) (has_append name a b) ∙ or_assoc (bytes_eq m name) (has_name name a) (has_name name b)

pub adds_none : (s : NameSet) → Adds s [] s
unfolding has_name
adds_none s = λ name. refl

pub adds_more : (r s t : NameSet) (a b : List Name) → Adds r a s → Adds s b t → Adds r (a ++ b) t
adds_more r s t a b f g = λ name.
    g name ∙ ap (λ x. has_name name b || x) (f name) ∙ or_turned (has_name name a) (has_name name b) (holds r name) ∙ ap (λ x. x || holds r name) (sym (has_append name a b))

-- the same where the second call succeeds
pub adds_then : {A E : Type 0} (r : Result A E) (q s t : NameSet) (a b : List Name) → Adds q a s → OnOk r (Adds s b t) → OnOk r (Adds q (a ++ b) t)
adds_then (Ok x) q s t a b f g = adds_more q s t a b f g
adds_then (Err e) q s t a b f g = tt

or_swapped : (a b : Bool) → (a || b) ≡ (b || a)
or_swapped true true = refl
or_swapped true false = refl
or_swapped false true = refl
or_swapped false false = refl

-- what a set of some names has, when more are put in
pub holds_more : (s t : NameSet) (a b : List Name) → Holds s a → Adds s b t → Holds t (a ++ b)
holds_more s t a b h g = λ name. g name ∙ ap (λ x. has_name name b || x) (h name) ∙ or_swapped (has_name name b) (has_name name a) ∙ sym (has_append name a b)
