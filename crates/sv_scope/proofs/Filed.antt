-- The parts of a text, one after the other.
use Rattle.std.proofs.Common.{◌≡◌, ℕ, ◌+◌, ◌<◌, ◌≤◌, Bool, true, false, List, [], ◌∷◌, ◌++◌, length, map, drop, get_or, Result, Ok, Err, refl, sym, ap, ◌∙◌, subst, arith}
use Rattle.std.proofs.lemmas.List.{map-append}
use Rattle.sv_outside.specs.declared.refusal.Refusal.{Refusal}
use Rattle.sv_outside.specs.declared.refusal.TextErr.{TextErr}
use Rattle.sv_outside.specs.declared.refusal.TextErr.TheVariants.{No, Memory}
use Rattle.sv_tree.specs.declared.design.Module.{Module}
use Rattle.sv_tree.specs.declared.design.Param.{Param}
use Rattle.sv_tree.specs.declared.design.SourcePart.{SourcePart}
use Rattle.sv_tree.specs.declared.design.SourcePart.TheVariants as part
use Rattle.sv_tree.specs.declared.forms.Typedef.{Typedef}
use Rattle.sv_meaning.specs.Faults.{Judged, ◌>>=◌, provided, fault_if, twice}
use Rattle.sv_hierarchy.specs.Scopes as m
use Rattle.sv_hierarchy.specs.Scopes.{library}
use Rattle.sv_hierarchy.proofs.Found.{there_is}
use Rattle.sv_loops.specs.Answers.{Answers}
use Rattle.sv_modules.specs.Naming.{Adds, Holds, holds}
use Rattle.sv_modules.specs.declared.name_set.NameSet.{NameSet}
use Rattle.sv_modules.proofs.Sets.{holds_more}
use Rattle.sv_modules.proofs.Turns.{drop_next, drop_none}
use Rattle.sv_scope.specs.Filing.{Lists, listed_at, listed_with, one_module, one_part}
use Rattle.sv_scope.specs.declared.file.Listed.{Listed}
use Rattle.sv_levels.proofs.Wired.{refused_first}

-- ---- a module

known_of : Module → ℕ → m.Library → m.Known
known_of t n all = record { tree = t; number = length all; above = n }

new_module : (b : Bool) (t : Module) (k : m.Known) → b ≡ false → provided (fault_if b twice t.name.place) k ≡ Ok k
new_module false t k h = refl
new_module true t k h = cc

old_module : (b : Bool) (t : Module) (k : m.Known) → b ≡ true → provided (fault_if b twice t.name.place) k ≡ Err (record { number = twice; place = t.name.place; count = 0 } ∷ [])
old_module true t k h = refl
old_module false t k h = cc

pub listed_none : (x : Listed) → Holds x.names [] → x.above ≡ [] → Lists x []
listed_none x h e = record { names = h; above = sym e }

pub listed_more : (x : Listed) (t : Module) (n : ℕ) (names : NameSet) (above : List ℕ) (all : m.Library) → Lists x all → holds x.names t.name.text ≡ false → Adds x.names (t.name.text ∷ []) names → above ≡ x.above ++ n ∷ [] →
    Answers (λ (k : m.Known) (u : Unit {0}). Lists (record { names = names; above = above }) (all ++ k ∷ [])) (one_module t n all) (let r : Result (Unit {0}) TextErr = Ok tt in r)
unfolding known_of
listed_more x t n names above all f none adds e =
    let one : one_module t n all ≡ Ok (known_of t n all) = new_module (m.is_there (m.module_named t.name.text all)) t (known_of t n all) (there_is t.name.text all ∙ sym (f.names t.name.text) ∙ none) in
    let lists : Lists (record { names = names; above = above }) (all ++ known_of t n all ∷ []) = record {
      names = subst (Holds names) (sym (map-append (λ (y : m.Known). y.tree.name.text) all (known_of t n all ∷ []))) (holds_more x.names names (map (λ (y : m.Known). y.tree.name.text) all) (t.name.text ∷ []) f.names adds);
      above = map-append (λ (y : m.Known). y.above) all (known_of t n all ∷ []) ∙ ap (λ (ns : List ℕ). ns ++ n ∷ []) f.above ∙ sym e;
    } in
    subst (λ (j : Judged m.Known). let r : Result (Unit {0}) TextErr = Ok tt in Answers (λ (k : m.Known) (u : Unit {0}). Lists (record { names = names; above = above }) (all ++ k ∷ [])) j r) (sym one) lists

pub listed_twice : {D : Type 0} (s : m.Known → D → Type 0) (x : Listed) (t : Module) (n : ℕ) (all : m.Library) (why : Refusal) → Lists x all → holds x.names t.name.text ≡ true → why ≡ record { number = twice; place = t.name.place; count = 0 } →
    Answers s (one_module t n all) (Err (No why))
unfolding known_of
listed_twice s x t n all why f there k =
    subst (λ (y : Refusal). Answers s (one_module t n all) (Err (No y))) (sym k)
    (subst (λ (j : Judged m.Known). Answers s j (Err (No (record { number = twice; place = t.name.place; count = 0 }))))
    (sym (old_module (m.is_there (m.module_named t.name.text all)) t (known_of t n all) (there_is t.name.text all ∙ sym (f.names t.name.text) ∙ there))) (0, omega arith, refl))

-- ---- a part

by_module : (j : Judged m.Known) (more : List SourcePart) (all : m.Library) (st : m.State) → (j >>= λ k. m.library more (all ++ k ∷ []) st) ≡ ((j >>= listed_with all st) >>= λ found. m.library more found.0 found.1)
by_module (Ok k) more all st = refl
by_module (Err why) more all st = refl

by_state : (j : Judged m.State) (more : List SourcePart) (all : m.Library) → (j >>= m.library more all) ≡ ((j >>= listed_at all) >>= λ found. m.library more found.0 found.1)
by_state (Ok s) more all = refl
by_state (Err why) more all = refl

one_more : (x : SourcePart) (more : List SourcePart) (all : m.Library) (st : m.State) → m.library (x ∷ more) all st ≡ (one_part x all st >>= λ found. m.library more found.0 found.1)
unfolding library
one_more (part.Module t) more all st = by_module (one_module t (m.here st).consts all) more all st
one_more (part.Typedef d) more all st = by_state (m.add_typedef d st) more all
one_more (part.Param p) more all st = by_state (m.add_params p st) more all

-- what a part gives
abbrev pub Parts : Listed → m.State → m.Library × m.State → Unit {0} → Type 0
Parts x t found u = Lists x found.0 × (found.1 ≡ t)

module_answers : (j : Judged m.Known) (x : Listed) (all : m.Library) (st t : m.State) (r : Result (Unit {0}) TextErr) → st ≡ t → Answers (λ (k : m.Known) (u : Unit {0}). Lists x (all ++ k ∷ [])) j r →
    Answers (Parts x t) (j >>= listed_with all st) r
module_answers (Ok k) x all st t (Ok u) e h = (h, e)
module_answers (Ok k) x all st t (Err (No g)) e h = absurd h
module_answers (Ok k) x all st t (Err Memory) e h = tt
module_answers (Err why) x all st t (Ok u) e h = absurd h
module_answers (Err why) x all st t (Err (No g)) e h = h
module_answers (Err why) x all st t (Err Memory) e h = tt

walk_answers : (j : Judged m.State) (x : Listed) (all : m.Library) (t : m.State) (r : Result (Unit {0}) TextErr) → Lists x all → Answers (λ (s : m.State) (u : Unit {0}). s ≡ t) j r → Answers (Parts x t) (j >>= listed_at all) r
walk_answers (Ok s) x all t (Ok u) f h = (f, h)
walk_answers (Ok s) x all t (Err (No g)) f h = absurd h
walk_answers (Ok s) x all t (Err Memory) f h = tt
walk_answers (Err why) x all t (Ok u) f h = absurd h
walk_answers (Err why) x all t (Err (No g)) f h = h
walk_answers (Err why) x all t (Err Memory) f h = tt

pub part_module : (p : SourcePart) (d : Module) (x : Listed) (all : m.Library) (st t : m.State) (n : ℕ) (r : Result (Unit {0}) TextErr) → p ≡ part.Module d → st ≡ t → n ≡ (m.here st).consts →
    Answers (λ (k : m.Known) (u : Unit {0}). Lists x (all ++ k ∷ [])) (one_module d n all) r → Answers (Parts x t) (one_part p all st) r
part_module p d x all st t n r e g k h =
    subst (λ (y : SourcePart). Answers (Parts x t) (one_part y all st) r) (sym e)
    (module_answers (one_module d (m.here st).consts all) x all st t r g (subst (λ (c : ℕ). Answers (λ (z : m.Known) (u : Unit {0}). Lists x (all ++ z ∷ [])) (one_module d c all) r) k h))

pub part_typedef : (p : SourcePart) (d : Typedef) (x : Listed) (all : m.Library) (st t : m.State) (r : Result (Unit {0}) TextErr) → p ≡ part.Typedef d → Lists x all →
    Answers (λ (s : m.State) (u : Unit {0}). s ≡ t) (m.add_typedef d st) r → Answers (Parts x t) (one_part p all st) r
part_typedef p d x all st t r e f h = subst (λ (y : SourcePart). Answers (Parts x t) (one_part y all st) r) (sym e) (walk_answers (m.add_typedef d st) x all t r f h)

pub part_param : (p : SourcePart) (d : Param) (x : Listed) (all : m.Library) (st t : m.State) (r : Result (Unit {0}) TextErr) → p ≡ part.Param d → Lists x all →
    Answers (λ (s : m.State) (u : Unit {0}). s ≡ t) (m.add_params d st) r → Answers (Parts x t) (one_part p all st) r
part_param p d x all st t r e f h = subst (λ (y : SourcePart). Answers (Parts x t) (one_part y all st) r) (sym e) (walk_answers (m.add_params d st) x all t r f h)

-- ---- so many parts

-- So many parts of a text are read: some library is listed, and what is left leads on from it.
pub record Filed (parts : List SourcePart) (i : ℕ) (start st : m.State) (x : Listed) : Type 0 where
  pub all : m.Library
  pub lists : Lists x all
  pub rest : m.library parts [] start ≡ m.library (drop i parts) all st

pub filed_none : (parts : List SourcePart) (start : m.State) (x : Listed) → Lists x [] → Filed parts 0 start start x
filed_none parts start x h = record { all = []; lists = h; rest = refl }

next_part : (parts : List SourcePart) (i : ℕ) (p : SourcePart) (all : m.Library) (st : m.State) → i < length parts → p ≡ get_or parts i p →
    m.library (drop i parts) all st ≡ (one_part p all st >>= λ found. m.library (drop (i + 1) parts) found.0 found.1)
next_part parts i p all st h e = ap (λ (ps : List SourcePart). m.library ps all st) (drop_next parts i p h e) ∙ one_more p (drop (i + 1) parts) all st

parts_found : (j : Judged (m.Library × m.State)) (x : Listed) (t : m.State) (u : Unit {0}) → Answers (Parts x t) j (Ok u) → (all : m.Library) × (Lists x all) × (j ≡ Ok (all, t))
parts_found (Ok found) x t u h = (found.0, h.0, ap (λ (s : m.State). Ok (found.0, s)) h.1)
parts_found (Err why) x t u h = absurd h

pub filed_next : (parts : List SourcePart) (i : ℕ) (start st t : m.State) (x y : Listed) (p : SourcePart) (u : Unit {0}) → Filed parts i start st x → i < length parts → p ≡ get_or parts i p →
    ((all : m.Library) → Lists x all → Answers (Parts y t) (one_part p all st) (Ok u)) → Filed parts (i + 1) start t y
filed_next parts i start st t x y p u f h e g =
    let found = parts_found (one_part p f.all st) y t u (g f.all f.lists) in
    record {
      all = found.0;
      lists = found.1;
      rest = f.rest ∙ next_part parts i p f.all st h e ∙ ap (λ (j : Judged (m.Library × m.State)). j >>= λ k. m.library (drop (i + 1) parts) k.0 k.1) found.2;
    }

pub filed_refused : {B D : Type 0} (r : m.Library × m.State → B → Type 0) (s : m.Library × m.State → D → Type 0) (parts : List SourcePart) (i : ℕ) (start st : m.State) (x : Listed) (p : SourcePart) (why : TextErr) → Filed parts i start st x → i < length parts →
    p ≡ get_or parts i p → ((all : m.Library) → Lists x all → Answers r (one_part p all st) (Err why)) → Answers s (m.library parts [] start) (Err why)
filed_refused r s parts i start st x p why f h e g =
    subst (λ (j : Judged (m.Library × m.State)). Answers s j (Err why)) (sym (f.rest ∙ next_part parts i p f.all st h e))
    (refused_first r s (one_part p f.all st) (λ found. m.library (drop (i + 1) parts) found.0 found.1) why (g f.all f.lists))

pub filed_end : (parts : List SourcePart) (i : ℕ) (start st : m.State) (x : Listed) (f : Filed parts i start st x) → length parts ≤ i → m.library parts [] start ≡ Ok (f.all, st)
unfolding library
filed_end parts i start st x f h = f.rest ∙ ap (λ (ps : List SourcePart). m.library ps f.all st) (drop_none parts i h)
