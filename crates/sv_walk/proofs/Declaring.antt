-- Walks one after the other, and the declarations of a scope.
use Rattle.std.proofs.Common.{◌≡◌, ℕ, suc, ◌+◌, ◌<◌, ◌≤◌, true, false, ◌||◌, not, List, [], ◌∷◌, ◌++◌, length, map, drop, get_or, Result, Ok, Err, refl, sym, ap, ◌∙◌, subst, arith, Vec, Global}
use Rattle.std.proofs.lemmas.List.{length-append}
use Rattle.std.specs.Result.{IsErrAnd}
use Rattle.sv_outside.specs.declared.refusal.Place.{Place}
use Rattle.sv_outside.specs.declared.refusal.Refusal.{Refusal}
use Rattle.sv_outside.specs.declared.refusal.TextErr.{TextErr}
use Rattle.sv_outside.specs.declared.refusal.TextErr.TheVariants.{No, Memory}
use Rattle.sv_meaning.specs.Faults.{Judged, ◌>>=◌, provided, or_then, fault, fault_if, bad_token, twice}
use Rattle.sv_meaning.specs.Layouts.{Name}
use Rattle.sv_meaning.specs.Names.{has_name}
use Rattle.sv_names.specs.declared.layout.What.{What}
use Rattle.sv_names.specs.Kinds.{entry_is, what_is}
use Rattle.sv_typing.proofs.Lists.{none_in}
use Rattle.sv_types.specs.Types.{Refused}
use Rattle.sv_loops.specs.Answers.{Answers}
use Rattle.sv_modules.proofs.Turns.{drop_next, drop_none}
use Rattle.sv_hierarchy.specs.Scopes as m
use Rattle.sv_walk.specs.declared.walker.Walker.{Walker}
use Rattle.sv_walk.specs.declared.walker.Open.{Open}
use Rattle.sv_levels.specs.declared.levels.Levels.{Levels}
use Rattle.sv_levels.specs.Levels.{levels_are}
use Rattle.sv_walk.specs.Walks.{state_of}

-- ---- answers

pub out_of_memory : {A B : Type 0} (r : A → B → Type 0) (j : Judged A) → Answers r j (Err Memory)
out_of_memory r (Ok x) = tt
out_of_memory r (Err all) = tt

-- what `?` hands on where memory is out
pub ran_out : {A D : Type 0} (s : A → D → Type 0) (j : Judged A) (q : Result D TextErr) → IsErrAnd q (λ y. y ≡ Memory) → Answers s j q
ran_out s j (Ok x) i = absurd i
ran_out s j (Err y) i = subst (λ z. Answers s j (Err z)) (sym i) (out_of_memory s j)

-- what is refused first is refused
pub refused_then : {A B C D : Type 0} (r : A → C → Type 0) (s : B → D → Type 0) (j : Judged A) (f : A → Judged B) (e : TextErr) → Answers r j (Err e) → Answers s (j >>= f) (Err e)
refused_then r s (Ok x) f (No g) h = absurd h
refused_then r s (Ok x) f Memory h = out_of_memory s (f x)
refused_then r s (Err all) f (No g) h = h
refused_then r s (Err all) f Memory h = tt

pub refused_as : {A C D : Type 0} (r : A → C → Type 0) (s : A → D → Type 0) (j : Judged A) (e : TextErr) → Answers r j (Err e) → Answers s j (Err e)
refused_as r s (Ok x) (No g) h = absurd h
refused_as r s (Ok x) Memory h = tt
refused_as r s (Err all) (No g) h = h
refused_as r s (Err all) Memory h = tt

pub refused_by : {A B : Type 0} (r : A → B → Type 0) (j : Judged A) (e : TextErr) → Refused j e → Answers r j (Err e)
refused_by r (Ok x) (No g) h = absurd (none_in [] g refl h)
refused_by r (Ok x) Memory h = tt
refused_by r (Err all) (No g) h = h
refused_by r (Err all) Memory h = tt

-- ---- walks

-- what is judged is a walk's state
abbrev pub Leads : Judged m.State → Walker → Open → Result Unit TextErr → Type 0
Leads j w o result = Answers (λ (st : m.State) (u : Unit {0}). st ≡ state_of w o) j result

pub led : (j : Judged m.State) (w : Walker) (o : Open) (u : Unit {0}) → Leads j w o (Ok u) → j ≡ Ok (state_of w o)
led (Ok st) w o u h = ap Ok h
led (Err all) w o u h = absurd h

pub leads : (j : Judged m.State) (w : Walker) (o : Open) (u : Unit {0}) → j ≡ Ok (state_of w o) → Leads j w o (Ok u)
leads j w o u h = subst (λ k. Leads k w o (Ok u)) (sym h) refl

-- what comes after a walk
pub after : {A B : Type 0} (r : A → B → Type 0) (j : Judged m.State) (w : Walker) (o : Open) (u : Unit {0}) (f : m.State → Judged A) (x : Result B TextErr) → Leads j w o (Ok u) → Answers r (f (state_of w o)) x → Answers r (j >>= f) x
after r j w o u f x h g = subst (λ k. Answers r (k >>= f) x) (sym (led j w o u h)) g

pub refused : (j : Judged m.State) (f : m.State → Judged m.State) (w v : Walker) (o p : Open) (e : TextErr) → Leads j w o (Err e) → Leads (j >>= f) v p (Err e)
refused j f w v o p e h = refused_then (λ (st : m.State) (u : Unit {0}). st ≡ state_of w o) (λ (st : m.State) (u : Unit {0}). st ≡ state_of v p) j f e h

-- ---- names

abbrev pub with_name : Name → m.State → m.State
with_name n s = record s { taken = λ other. has_name other (n ∷ []) || s.taken other }

-- what is no name is refused
pub no_name : (p : Place) (n : Name) (s t : m.State) (r : Refusal) → m.is_name n ≡ false → r ≡ record { number = bad_token; place = p; count = 0 } →
    Answers (λ (st : m.State) (u : Unit {0}). st ≡ t) (m.declare_at p n s) (Err (No r))
no_name p n s t r h e =
    let none : provided (fault bad_token p) (with_name n s) ≡ m.declare_at p n s = λ i. provided (or_then (fault_if (not (sym h i)) bad_token p) (fault_if (s.taken n) twice p)) (with_name n s) in
    subst (λ (j : Judged m.State). Answers (λ (st : m.State) (u : Unit {0}). st ≡ t) j (Err (No r))) none (0, omega arith, sym e)

-- and a name that is taken
pub name_taken : (p : Place) (n : Name) (s t : m.State) (r : Refusal) → m.is_name n ≡ true → s.taken n ≡ true → r ≡ record { number = twice; place = p; count = 0 } →
    Answers (λ (st : m.State) (u : Unit {0}). st ≡ t) (m.declare_at p n s) (Err (No r))
name_taken p n s t r h k e =
    let again : provided (fault twice p) (with_name n s) ≡ m.declare_at p n s = λ i. provided (or_then (fault_if (not (sym h i)) bad_token p) (fault_if (sym k i) twice p)) (with_name n s) in
    subst (λ (j : Judged m.State). Answers (λ (st : m.State) (u : Unit {0}). st ≡ t) j (Err (No r))) again (0, omega arith, sym e)

pub name_declared : (p : Place) (n : Name) (s t : m.State) → m.is_name n ≡ true → s.taken n ≡ false → with_name n s ≡ t → m.declare_at p n s ≡ Ok t
name_declared p n s t h k e =
    let once : m.declare_at p n s ≡ Ok (with_name n s) = λ i. provided (or_then (fault_if (not (h i)) bad_token p) (fault_if (k i) twice p)) (with_name n s) in
    once ∙ ap Ok e

-- ---- constructs

pub construct_counted : (w : Walker) (o : Open) (all : Vec Place Global) (p : Place) → all.items ≡ o.constructs.items ++ p ∷ [] → m.next_construct (state_of w o) ≡ Ok (state_of w (record o { constructs = all }))
construct_counted w o all p h =
    let long = length-append o.constructs.items (p ∷ []) in
    let same = ap (λ (list : List Place). length list) h in
    let more : suc (length o.constructs.items) ≡ length all.items = omega (arith, long, same) in
    λ i. Ok (record (state_of w o) { constructs = more i })

-- ---- walks through a list

walk_next : {A : Type 0} (f : A → m.Walk) (all : List A) (i : ℕ) (x : A) (st : m.State) → i < length all → x ≡ get_or all i x → m.walk_all f (drop i all) st ≡ (f x st >>= m.walk_all f (drop (i + 1) all))
unfolding m.walk_all
walk_next f all i x st h e = ap (λ (xs : List _). m.walk_all f xs st) (drop_next all i x h e)

walk_none : {A : Type 0} (f : A → m.Walk) (all : List A) (i : ℕ) (st : m.State) → length all ≤ i → m.walk_all f (drop i all) st ≡ Ok st
unfolding m.walk_all
walk_none f all i st h = ap (λ (xs : List _). m.walk_all f xs st) (drop_none all i h)

pub turn_walked : {A : Type 0} (f : A → m.Walk) (all : List A) (i : ℕ) (x : A) (j : Judged m.State) (w v : Walker) (o p : Open) (u : Unit {0}) → i < length all → x ≡ get_or all i x →
    j ≡ m.walk_all f (drop i all) (state_of w o) → Leads (f x (state_of w o)) v p (Ok u) → j ≡ m.walk_all f (drop (i + 1) all) (state_of v p)
turn_walked f all i x j w v o p u h e k g = k ∙ walk_next f all i x (state_of w o) h e ∙ ap (λ y. y >>= m.walk_all f (drop (i + 1) all)) (led (f x (state_of w o)) v p u g)

pub turn_refused : {A : Type 0} (f : A → m.Walk) (all : List A) (i : ℕ) (x : A) (j : Judged m.State) (w v : Walker) (o p : Open) (e : TextErr) → i < length all → x ≡ get_or all i x →
    j ≡ m.walk_all f (drop i all) (state_of w o) → Leads (f x (state_of w o)) v p (Err e) → Leads j v p (Err e)
turn_refused f all i x j w v o p e h g k r =
    subst (λ y. Leads y v p (Err e)) (sym (k ∙ walk_next f all i x (state_of w o) h g)) (refused (f x (state_of w o)) (m.walk_all f (drop (i + 1) all)) v v p p e r)

pub turns_end : {A : Type 0} (f : A → m.Walk) (all : List A) (i : ℕ) (j : Judged m.State) (w : Walker) (o : Open) (u : Unit {0}) → length all ≤ i → j ≡ m.walk_all f (drop i all) (state_of w o) → Leads j w o (Ok u)
turns_end f all i j w o u h k = leads j w o u (k ∙ walk_none f all i (state_of w o) h)

pub walk_map : {A B : Type 0} (f : B → m.Walk) (g : A → B) (all : List A) (st : m.State) → m.walk_all f (map g all) st ≡ m.walk_all (λ (x : A). f (g x)) all st
unfolding m.walk_all
walk_map f g [] st = refl
walk_map f g (x ∷ all) st = then_same (f (g x) st) (m.walk_all f (map g all)) (m.walk_all (λ (y : _). f (g y)) all) (walk_map f g all)
  where
    then_same : (j : Judged m.State) (a b : m.Walk) → ((s : m.State) → a s ≡ b s) → (j >>= a) ≡ (j >>= b)
    then_same (Ok s) a b h = h s
    then_same (Err e) a b h = refl

-- what `?` hands on
pub handed : (j : Judged m.State) (w v : Walker) (o p : Open) (q : Result (Unit {0}) TextErr) (e : TextErr) → IsErrAnd q (λ y. y ≡ e) → Leads j w o (Err e) → Leads j v p q
handed j w v o p (Ok u) e h g = absurd h
handed j w v o p (Err y) e h g =
    subst (λ z. Leads j v p (Err z)) (sym h) (refused_as (λ (st : m.State) (u : Unit {0}). st ≡ state_of w o) (λ (st : m.State) (u : Unit {0}). st ≡ state_of v p) j e g)

-- ---- constants

pub const_refused : (w v : Walker) (o p q : Open) (place : Place) (name bytes : Name) (what : What) (e : TextErr) → bytes ≡ name → Leads (m.declare_at place bytes (state_of w o)) w p (Err e) →
    Leads (m.add_constant (record { text = name; place = place }, what_is what) (state_of w o)) v q (Err e)
const_refused w v o p q place name bytes what e i h =
    refused (m.declare_at place name (state_of w o)) (λ s. Ok (m.see_const (entry_is (name, what)) s)) w v p q e (subst (λ (b : Name). Leads (m.declare_at place b (state_of w o)) w p (Err e)) i h)

pub const_done : (w : Walker) (levels : Levels) (o p : Open) (place : Place) (name bytes text : Name) (what : What) (u : Unit {0}) → bytes ≡ name → text ≡ name → Leads (m.declare_at place bytes (state_of w o)) w p (Ok u) →
    levels_are levels ≡ m.with_level p.level (m.with_const (entry_is (text, what))) (levels_are w.levels) → Leads (m.add_constant (record { text = name; place = place }, what_is what) (state_of w o)) (record w { levels = levels }) p (Ok u)
const_done w levels o p place name bytes text what u b t d l =
    let same : levels_are levels ≡ m.with_level p.level (m.with_const (entry_is (name, what))) (levels_are w.levels) = l ∙ ap (λ (n : Name). m.with_level p.level (m.with_const (entry_is (n, what))) (levels_are w.levels)) t in
    after (λ (st : m.State) (v : Unit {0}). st ≡ state_of (record w { levels = levels }) p) (m.declare_at place name (state_of w o)) w p u (λ s. Ok (m.see_const (entry_is (name, what)) s)) (Ok u)
    (subst (λ (n : Name). Leads (m.declare_at place n (state_of w o)) w p (Ok u)) b d) (λ i. record (state_of w p) { levels = sym same i })
