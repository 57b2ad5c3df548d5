-- The top, and what is made of a walk's end.
use Rattle.std.proofs.Common.{◌≡◌, ℕ, suc, ◌-◌, true, List, [], ◌∷◌, length, map, Option, Some, None, Result, Ok, Err, refl, sym, ap, ◌∙◌, subst, arith}
use Rattle.std.specs.List.{slice_get}
use Rattle.std.specs.Result.{IsErrAnd}
use Rattle.sv_outside.specs.declared.refusal.TextErr.{TextErr}
use Rattle.sv_outside.specs.declared.refusal.TextErr.TheVariants.{No, Memory}
use Rattle.sv_tree.specs.declared.design.Module.{Module}
use Rattle.sv_tree.specs.declared.design.Source.{Source}
use Rattle.sv_tree.specs.declared.design.SourcePart.{SourcePart}
use Rattle.sv_meaning.specs.Faults.{Faults, Judged, ◌>>=◌, provided}
use Rattle.sv_meaning.specs.Layouts.{Name}
use Rattle.sv_hierarchy.specs.Libraries.{IsLibraryOf, modules_in}
use Rattle.sv_hierarchy.specs.Scopes as m
use Rattle.sv_hierarchy.specs.Scopes.{library, instances_from}
use Rattle.sv_hierarchy.proofs.Found.{library_is, library_once}
use Rattle.sv_loops.specs.Answers.{Answers}
use Rattle.sv_modules.specs.Libraries.{modules_once}
use Rattle.sv_modules.specs.Listed.{modules_of}
use Rattle.sv_modules.specs.declared.numbered.Modules.{Modules}
use Rattle.sv_meaning.specs.Params.{Connection}
use Rattle.sv_levels.specs.Levels.{levels_are}
use Rattle.sv_scope.specs.Scoped.{IsRead, IsScoped, IsWalked, Reads, ReadsInto}
use Rattle.sv_levels.specs.Tasks.{work_is}
use Rattle.sv_walk.specs.Walks.{state_of}
use Rattle.sv_levels.specs.declared.library.Library.{Library}
use Rattle.sv_walk.specs.declared.walker.Walker.{Walker}
use Rattle.sv_walk.specs.declared.walker.Open.{Open}
use Rattle.sv_scope.specs.declared.whole.DesignScopes.{DesignScopes}
use Rattle.sv_walk.proofs.Opening.{Reached}
use Rattle.sv_levels.proofs.Wired.{refused_first}
use Rattle.sv_levels.proofs.ByNumber.{answers_memory, IsAmong, among_unused, among_one, among_named, own_number}

-- ---- the top

top_among : (all : m.Library) (top : Option Name) (k : m.Known) → m.top_module all top ≡ Ok k → IsAmong all k
top_among all None k h = among_unused (m.all_used all) all k (among_one (m.unused (m.all_used all) all) k h)
top_among all (Some n) k h = among_named n all k (go (m.module_named n all) h)
  where
    go : (o : Option m.Known) → m.top_named o ≡ Ok k → o ≡ Some k
    go None e = cc
    go (Some x) e = cc

-- the top is the module of its number
pub top_at : (modules : List Module) (all : m.Library) (top : Option Name) (n : ℕ) (k : m.Known) → IsLibraryOf modules all → Answers (λ (x : m.Known) (i : ℕ). x.number ≡ i) (m.top_module all top) (Ok n) → slice_get all n ≡ Some k → m.top_module all top ≡ Ok k
top_at modules all top n k h a e = go (m.top_module all top) refl a
  where
    go : (j : Judged m.Known) → m.top_module all top ≡ j → Answers (λ (x : m.Known) (i : ℕ). x.number ≡ i) j (Ok n) → m.top_module all top ≡ Ok k
    go (Ok x) i b =
        let own : slice_get all x.number ≡ Some x = own_number modules all x h (top_among all top x i) in
        let same : Some x ≡ Some k = sym own ∙ ap (λ (l : ℕ). slice_get all l) b ∙ e in
        i ∙ (let y : x ≡ k = cc in ap Ok y)
    go (Err all) i b = absurd b

-- the number of a top is that of a module
pub top_is_there : (modules : List Module) (all : m.Library) (top : Option Name) (n : ℕ) → IsLibraryOf modules all → Answers (λ (x : m.Known) (i : ℕ). x.number ≡ i) (m.top_module all top) (Ok n) → None ≡ slice_get all n → ⊥
top_is_there modules all top n h a e = go (m.top_module all top) refl a
  where
    go : (j : Judged m.Known) → m.top_module all top ≡ j → Answers (λ (x : m.Known) (i : ℕ). x.number ≡ i) j (Ok n) → ⊥
    go (Ok x) i b =
        let own : slice_get all x.number ≡ Some x = own_number modules all x h (top_among all top x i) in
        let same : None ≡ Some x = e ∙ ap (λ (l : ℕ). slice_get all l) (sym b) ∙ own in
        cc
    go (Err why) i b = absurd b

-- ---- instances

pub instances_length : (n : ℕ) (all some : List m.Level) → length (m.instances_from n all some) ≡ length some
unfolding instances_from
instances_length n all [] = refl
instances_length n all (x ∷ some) = ap suc (instances_length (suc n) all some)

pub behind_length : (all : List m.Level) → length (m.behind all) ≡ length all - 1
behind_length [] = omega arith
behind_length (x ∷ all) = omega arith

-- ---- from the top down

pub walked_answers : (j : Judged m.State) (v : Walker) (own : Open) (result : Result (Unit {0}) TextErr) → Answers (λ st (u : Unit {0}). st ≡ state_of v own) j result → Answers (λ st (u : Unit {0}). IsWalked st v) j result
walked_answers (Ok x) v own (Ok u) h = record { levels = ap (λ (st : m.State). st.levels) h; turns = ap (λ (st : m.State). st.turns) h; wires = ap (λ (st : m.State). st.wires) h; works = ap (λ (st : m.State). st.works) h }
walked_answers (Ok x) v own (Err (No e)) h = absurd h
walked_answers (Ok x) v own (Err Memory) h = tt
walked_answers (Err all) v own (Ok u) h = absurd h
walked_answers (Err all) v own (Err (No e)) h = h
walked_answers (Err all) v own (Err Memory) h = tt

-- the top is begun, with no name and nothing given
pub top_begun : (k : m.Known) (st last : m.State) (path : Name) (given : List m.Given) → path ≡ [] → given ≡ [] → last ≡ m.begun k path 0 given st → last ≡ m.begun k [] 0 [] st
top_begun k st last path given e f h = h ∙ ap (λ (n : Name). m.begun k n 0 given st) e ∙ ap (λ (g : List m.Given). m.begun k [] 0 g st) f

pub top_walk : (all : m.Library) (k : m.Known) (st last : m.State) (at : m.Front) (pins : List Connection) → last ≡ m.begun k [] 0 [] st → at ≡ m.here st → pins ≡ [] →
    m.from_top all k st ≡ (m.instance_walk true k.tree at pins last >>= m.below (m.child m.deepest all))
top_walk all k st last at pins e f g =
    ap (λ (s : m.State). m.instance_walk true k.tree (m.here st) [] s >>= m.below (m.child m.deepest all)) (sym e)
    ∙ ap (λ (a : m.Front). m.instance_walk true k.tree a [] last >>= m.below (m.child m.deepest all)) (sym f)
    ∙ ap (λ (p : List Connection). m.instance_walk true k.tree at p last >>= m.below (m.child m.deepest all)) (sym g)

pub ok_walked : (j : Judged m.State) (v : Walker) (u : Unit {0}) → Answers (λ st (x : Unit {0}). IsWalked st v) j (Ok u) → Answers (λ st (w : Walker). IsWalked st w) j (Ok v)
ok_walked (Ok st) v u h = h
ok_walked (Err all) v u h = absurd h

-- ---- the whole

pub library_found : (j : Judged (m.Library × m.State)) (st : m.State) (above : List ℕ) → Answers (λ (found : m.Library × m.State) (x : List ℕ). (map (λ (k : m.Known). k.above) found.0 ≡ x) × (found.1 ≡ st)) j (Ok above) →
    (all : m.Library) × (j ≡ Ok (all, st)) × (map (λ (k : m.Known). k.above) all ≡ above)
library_found (Ok x) st above h = (x.0, ap (λ (s : m.State). Ok (x.0, s)) h.1, h.0)
library_found (Err why) st above h = absurd h

pub library_at : (parts rows : List SourcePart) (start st : m.State) (above : List ℕ) → rows ≡ parts → start ≡ m.file_state →
    Answers (λ (found : m.Library × m.State) (x : List ℕ). (map (λ (k : m.Known). k.above) found.0 ≡ x) × (found.1 ≡ st)) (m.library rows [] start) (Ok above) →
    (all : m.Library) × (m.library parts [] m.file_state ≡ Ok (all, st)) × (map (λ (k : m.Known). k.above) all ≡ above)
library_at parts rows start st above e f h =
    let found = library_found (m.library rows [] start) st above h in
    (found.0, sym (ap (λ (ps : List SourcePart). m.library ps [] start) e ∙ ap (m.library parts []) f) ∙ found.1, found.2)

-- where there is a library, no two modules have one name
pub modules_refused : {A B D : Type 0} (r : List Module → B → Type 0) (s : A → D → Type 0) (j : Judged A) (parts : List SourcePart) (start st : m.State) (all : m.Library) (e : TextErr) → m.library parts [] start ≡ Ok (all, st) →
    Answers r (modules_once parts) (Err e) → Answers s j (Err e)
modules_refused r s j parts start st all e h a = go e (subst (λ (fs : Faults). Answers r (provided fs (modules_in parts)) (Err e)) (library_once parts start st all h) a)
  where
    go : (e : TextErr) → Answers r (Ok (modules_in parts)) (Err e) → Answers s j (Err e)
    go (No why) b = absurd b
    go Memory b = answers_memory s j

pub modules_are : (parts : List SourcePart) (start st : m.State) (all : m.Library) (modules : Modules) → m.library parts [] start ≡ Ok (all, st) →
    Answers (λ (x : List Module) (y : Modules). modules_of y ≡ x) (modules_once parts) (Ok modules) → IsLibraryOf (modules_of modules) all
modules_are parts start st all modules h a =
    let once : modules_of modules ≡ modules_in parts = subst (λ (fs : Faults). Answers (λ (x : List Module) (y : Modules). modules_of y ≡ x) (provided fs (modules_in parts)) (Ok modules)) (library_once parts start st all h) a in
    subst (λ (ms : List Module). IsLibraryOf ms all) (sym once) (library_is parts start st all h)

pub top_refused : {B D : Type 0} (r : m.Known → B → Type 0) (s : m.State → D → Type 0) (source : Source) (top : Option Name) (all : m.Library) (st : m.State) (e : TextErr) → m.library source.parts [] m.file_state ≡ Ok (all, st) →
    Answers r (m.top_module all top) (Err e) → Answers s (m.scopes source top) (Err e)
top_refused r s source top all st e h a =
    subst (λ (j : Judged (m.Library × m.State)). Answers s (j >>= λ file. m.top_module file.0 top >>= λ k. m.from_top file.0 k file.1) (Err e)) (sym h) (refused_first r s (m.top_module all top) (λ k. m.from_top all k st) e a)

pub scopes_are : (source : Source) (top : Option Name) (all : m.Library) (st : m.State) (k : m.Known) → m.library source.parts [] m.file_state ≡ Ok (all, st) → m.top_module all top ≡ Ok k → m.scopes source top ≡ m.from_top all k st
scopes_are source top all st k h e =
    ap (λ (j : Judged (m.Library × m.State)). j >>= λ file. m.top_module file.0 top >>= λ x. m.from_top file.0 x file.1) h
    ∙ ap (λ (j : Judged m.Known). j >>= λ x. m.from_top all x st) e

-- what stands against the parts of a source stands against the source
pub parts_refused : {B : Type 0} (r : m.Library × m.State → B → Type 0) (source : Source) (rows : List SourcePart) (start : m.State) (result : Result B TextErr) (e : TextErr) → rows ≡ source.parts → start ≡ m.file_state → result ≡ Err e →
    Answers r (m.library rows [] start) result → (top : Option Name) → Answers Reached (m.scopes source top) (Err e)
parts_refused r source rows start result e a b f h = λ top.
    refused_first r Reached (m.library source.parts [] m.file_state) (λ file. m.top_module file.0 top >>= λ k. m.from_top file.0 k file.1) e
    (subst (λ (j : Judged (m.Library × m.State)). Answers r j (Err e)) (ap (λ (ps : List SourcePart). m.library ps [] start) a ∙ ap (m.library source.parts []) b) (subst (Answers r (m.library rows [] start)) f h))

-- what is refused of a source
pub reads_refused : (source : Source) (v : Walker) (q : Result (Open × Library) TextErr) (e : TextErr) → IsErrAnd q (λ y. y ≡ e) → ((top : Option Name) → Answers Reached (m.scopes source top) (Err e)) → Reads source v q
reads_refused source v (Ok x) e h g = absurd h
reads_refused source v (Err y) e h g = λ top. subst (λ (z : TextErr). let r : Result (Unit {0}) TextErr = Err z in Answers Reached (m.scopes source top) r) (sym h) (g top)

pub library_refused : (source : Source) (v : Walker) (file : Open) (q : Result Library TextErr) (e : TextErr) → IsErrAnd q (λ y. y ≡ e) → ((top : Option Name) → Answers Reached (m.scopes source top) (Err e)) → ReadsInto source v file q
library_refused source v file (Ok x) e h g = absurd h
library_refused source v file (Err y) e h g = λ top. subst (λ (z : TextErr). let r : Result (Unit {0}) TextErr = Err z in Answers Reached (m.scopes source top) r) (sym h) (g top)

-- the parts of a source are read, and its modules are those of the library
pub reads_all : (source : Source) (v : Walker) (rows : List SourcePart) (start : m.State) (file : Open) (above : List ℕ) (modules : Modules) → rows ≡ source.parts → start ≡ m.file_state →
    Answers (λ (found : m.Library × m.State) (x : List ℕ). (map (λ (k : m.Known). k.above) found.0 ≡ x) × (found.1 ≡ state_of v file)) (m.library rows [] start) (Ok above) →
    Answers (λ (x : List Module) (y : Modules). modules_of y ≡ x) (modules_once source.parts) (Ok modules) → IsRead source v file (record { modules = modules; above = above })
reads_all source v rows start file above modules a b h g =
    let found = library_at source.parts rows start (state_of v file) above a b h in
    record {
      all = found.0;
      read = found.1;
      listed = record { modules = modules_are source.parts m.file_state (state_of v file) found.0 modules found.1 g; above = found.2 };
    }

-- what a walk ended in is what is answered
pub scoped_ok : (j : Judged m.State) (w : Walker) (s : DesignScopes) → Answers (λ st (v : Walker). IsWalked st v) j (Ok w) → levels_are w.levels ≡ levels_are s.levels → w.wires ≡ s.wires → map work_is w.works.items ≡ map work_is s.works.items → w.tally.turns ≡ s.turns →
    Answers (λ st (x : DesignScopes). IsScoped st x) j (Ok s)
scoped_ok (Ok st) w s h a b c d = record { levels = h.levels ∙ a; wires = h.wires ∙ b; works = h.works ∙ c; turns = h.turns ∙ d }
scoped_ok (Err all) w s h a b c d = absurd h
