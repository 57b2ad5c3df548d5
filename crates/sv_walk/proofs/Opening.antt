-- Instances that are opened.
use Rattle.std.proofs.Common.{◌≡◌, ℕ, zero, suc, ◌+◌, ◌<◌, ◌≤◌, Bool, false, List, [], ◌∷◌, ◌++◌, length, map, drop, get_or, None, Result, Ok, Err, refl, sym, ap, ◌∙◌, subst, arith, Vec, Global}
use mathlib.Core.Path.{fun_ext}
use Rattle.std.specs.Result.{IfOk, IfErr, IsErrAnd}
use Rattle.sv_outside.specs.declared.refusal.Refusal.{Refusal}
use Rattle.sv_outside.specs.declared.refusal.TextErr.{TextErr}
use Rattle.sv_outside.specs.declared.refusal.TextErr.TheVariants.{No, Memory}
use Rattle.sv_tree.specs.declared.design.Module.{Module}
use Rattle.sv_tree.specs.declared.design.ParPort.{ParPort}
use Rattle.sv_tree.specs.declared.design.ParamWord.TheVariants as param_word
use Rattle.sv_tree.specs.declared.design.Port.{Port}
use Rattle.sv_tree.specs.declared.design.Way.TheVariants as way
use Rattle.sv_tree.specs.declared.design.Item.{Item}
use Rattle.sv_meaning.specs.Faults.{Faults, Judged, ◌>>=◌, provided, fault, instance_deep}
use Rattle.sv_meaning.specs.Layouts.{Name, scalar}
use Rattle.sv_meaning.specs.Names.{has_name}
use Rattle.sv_meaning.specs.Params.{Connection, connections, kept}
use Rattle.sv_hierarchy.specs.Scopes as m
use Rattle.sv_hierarchy.specs.Scopes.{walk_all, child}
use Rattle.sv_loops.specs.Answers.{Answers}
use Rattle.sv_loops.proofs.Chains.{answers_ok}
use Rattle.sv_modules.specs.Connections.{connection_is}
use Rattle.sv_modules.specs.declared.connect.Connection.{Connection as Coded}
use Rattle.sv_modules.specs.Naming.{holds}
use Rattle.sv_names.specs.Kinds.{entries_are}
use Rattle.sv_levels.specs.Levels.{front_is, fronts_are, level_is, levels_are}
use Rattle.sv_levels.specs.declared.library.Wiring.{Wiring}
use Rattle.sv_levels.proofs.Wired.{passed_on, refused_first, same_refusal}
use Rattle.sv_levels.specs.Library.{IsWiring, wiring, child_alone}
use Rattle.sv_levels.specs.declared.fronts.Fronts.{Fronts}
use Rattle.sv_levels.specs.declared.levels.Front.{Front}
use Rattle.sv_levels.specs.declared.levels.Level.{Level}
use Rattle.sv_levels.specs.declared.levels.Levels.{Levels}
use Rattle.sv_levels.specs.declared.tasks.Child.{Child}
use Rattle.sv_levels.specs.Tasks.{child_is, given_is, work_is}
use Rattle.sv_walk.specs.Instances.{behind_wiring}
use Rattle.sv_walk.specs.Walks.{IsBare, IsNothing, state_of}
use Rattle.sv_walk.specs.declared.walker.Walker.{Walker}
use Rattle.sv_walk.specs.declared.walker.Open.{Open}
use Rattle.sv_levels.specs.declared.tally.Tally.{Tally}
use Rattle.sv_modules.proofs.Turns.{drop_next, drop_none}

-- ---- answers

-- a relation for what is refused, where it says nothing
abbrev pub Reached : m.State → Unit {0} → Type 0
Reached st u = Unit {0}

abbrev pub Found : m.Library × m.State → Unit {0} → Type 0
Found found u = Unit {0}

-- a walk that was taken leads to its state
pub walked_to : {B : Type 0} (j : Judged m.State) (st : m.State) (u : B) → Answers (λ x (v : B). x ≡ st) j (Ok u) → j ≡ Ok st
walked_to (Ok x) st u h = ap Ok h
walked_to (Err all) st u h = absurd h

-- the same of a walk that finds something
pub found_with : {A B : Type 0} (g : B → A) (j : Judged (A × m.State)) (st : m.State) (y : B) → Answers (λ found x. (found.0 ≡ g x) × (found.1 ≡ st)) j (Ok y) → j ≡ Ok (g y, st)
found_with g (Ok x) st y h = ap Ok (λ i. (h.0 i, h.1 i))
found_with g (Err all) st y h = absurd h

-- ---- an instance without its children

wired_first : {A B C : Type 0} (j : Judged A) (k : Judged B) (f : A → B → Judged C) → (j >>= λ a. k >>= f a) ≡ ((j >>= λ a. k >>= λ b. let p : A × B = (a, b) in Ok p) >>= λ x. f x.0 x.1)
wired_first (Ok a) (Ok b) f = refl
wired_first (Ok a) (Err why) f = refl
wired_first (Err why) k f = refl

alone_is : (k : m.Known) (c : m.Child) (st : m.State) → child_alone k c st ≡ (wiring (m.seen_at st.levels c.at) k.tree c >>= behind_wiring k c st)
alone_is k c st =
    wired_first (connections (m.seen_at st.levels c.at) (m.open_params k.tree) c.params) (connections (m.seen_at st.levels c.at) (m.port_texts (m.ports_of k.tree)) c.pins) (λ a b. behind_wiring k c st (a, b))

wiring_is : (j : Judged (List Connection × List Connection)) (w : Wiring) → Answers IsWiring j (Ok w) → j ≡ Ok (map connection_is w.params.items, map connection_is w.pins.items)
wiring_is (Ok x) w h = λ i. Ok (sym h.0 i, sym h.1 i)
wiring_is (Err why) w h = absurd h

-- where the connections are so
alone_from : (k : m.Known) (c : m.Child) (st : m.State) (w : Wiring) → Answers IsWiring (wiring (m.seen_at st.levels c.at) k.tree c) (Ok w) →
    child_alone k c st ≡ behind_wiring k c st (map connection_is w.params.items, map connection_is w.pins.items)
alone_from k c st w h = alone_is k c st ∙ ap (λ (j : Judged (List Connection × List Connection)). j >>= behind_wiring k c st) (wiring_is (wiring (m.seen_at st.levels c.at) k.tree c) w h)

pub alone_wired : (g : Open → m.State) (k : m.Known) (c : m.Child) (st : m.State) (w : Wiring) (params pins : List Coded) (q : Result Open TextErr) → Answers IsWiring (wiring (m.seen_at st.levels c.at) k.tree c) (Ok w) → params ≡ w.params.items → pins ≡ w.pins.items →
    Answers (λ s o. s ≡ g o) (behind_wiring k c st (map connection_is params, map connection_is pins)) q → Answers (λ s o. s ≡ g o) (child_alone k c st) q
alone_wired g k c st w params pins q h e f a =
    subst (λ (j : Judged m.State). Answers (λ s o. s ≡ g o) j q) (sym (alone_from k c st w h ∙ λ i. behind_wiring k c st (map connection_is (sym e i), map connection_is (sym f i)))) a

-- ---- one value, of any kind

pub value_is : {A B : Type 0} (g : B → A) (j : Judged A) (y : B) → Answers (λ x z. x ≡ g z) j (Ok y) → j ≡ Ok (g y)
value_is g (Ok x) y h = ap Ok h
value_is g (Err all) y h = absurd h

-- ---- walks through lists

pub walk_next : {A B : Type 0} (g : B → A) (f : A → m.Walk) (xs : List B) (i : ℕ) (x : B) (j : Judged m.State) (st next : m.State) → i < length xs → x ≡ get_or xs i x →
    j ≡ m.walk_all f (map g (drop i xs)) st → f (g x) st ≡ Ok next → j ≡ m.walk_all f (map g (drop (i + 1) xs)) next
unfolding walk_all
walk_next {B = B} g f xs i x j st next h e k n =
    k ∙ ap (λ (ys : List B). m.walk_all f (map g ys) st) (drop_next xs i x h e) ∙ ap (λ (y : Judged m.State). y >>= m.walk_all f (map g (drop (i + 1) xs))) n

pub walk_refused : {A B D : Type 0} (g : B → A) (f : A → m.Walk) (s : m.State → D → Type 0) (xs : List B) (i : ℕ) (x : B) (j : Judged m.State) (st : m.State) (r : m.State → D → Type 0) (e : TextErr) → i < length xs → x ≡ get_or xs i x →
    j ≡ m.walk_all f (map g (drop i xs)) st → Answers r (f (g x) st) (Err e) → Answers s j (Err e)
unfolding walk_all
walk_refused {B = B} g f s xs i x j st r e h k n a =
    subst (λ (y : Judged m.State). Answers s y (Err e)) (sym (n ∙ ap (λ (ys : List B). m.walk_all f (map g ys) st) (drop_next xs i x h k)))
    (refused_first r s (f (g x) st) (m.walk_all f (map g (drop (i + 1) xs))) e a)

pub walk_end : {A B : Type 0} (g : B → A) (f : A → m.Walk) (xs : List B) (i : ℕ) (j : Judged m.State) (st : m.State) → length xs ≤ i → j ≡ m.walk_all f (map g (drop i xs)) st → j ≡ Ok st
unfolding walk_all
walk_end {B = B} g f xs i j st h k = k ∙ ap (λ (ys : List B). m.walk_all f (map g ys) st) (drop_none xs i h)

-- ---- an instance below another

three : {A B C : Type 0} (j : Judged A) (k : Judged B) (l : Judged C) (w : A → B → C → Judged m.State) (g : m.State → Judged m.State) →
    (j >>= λ a. k >>= λ b. l >>= λ c. w a b c >>= g) ≡ ((j >>= λ a. k >>= λ b. l >>= λ c. w a b c) >>= g)
three (Ok a) (Ok b) (Ok c) w g = refl
three (Ok a) (Ok b) (Err why) w g = refl
three (Ok a) (Err why) l w g = refl
three (Err why) k l w g = refl

child_is_deep : (n : ℕ) (all : m.Library) (c : m.Child) (st : m.State) → m.child (suc n) all c st ≡ (m.module_of all c >>= λ k. connections (m.seen_at st.levels c.at) (m.open_params k.tree) c.params >>= λ params.
    connections (m.seen_at st.levels c.at) (m.port_texts (m.ports_of k.tree)) c.pins >>= λ pins. m.count_instance c st >>= λ more.
    m.instance_walk false k.tree c.at pins (m.begun k c.path c.at.level (m.given_by c.at params) more) >>= λ own. m.below (m.child n all) own >>= λ last. Ok (m.outer st last))
unfolding child
child_is_deep n all c st = refl

pub child_at : (deep n : ℕ) (all : m.Library) (c : m.Child) (st : m.State) (k : m.Known) → deep ≡ suc n → m.module_of all c ≡ Ok k →
    m.child deep all c st ≡ (child_alone k c st >>= λ own. m.below (m.child n all) own >>= λ last. Ok (m.outer st last))
child_at deep n all c st k e f =
    ap (λ (d : ℕ). m.child d all c st) e ∙ child_is_deep n all c st
    ∙ ap (λ (j : Judged m.Known). j >>= λ x. connections (m.seen_at st.levels c.at) (m.open_params x.tree) c.params >>= λ params.
    connections (m.seen_at st.levels c.at) (m.port_texts (m.ports_of x.tree)) c.pins >>= λ pins. m.count_instance c st >>= λ more.
    m.instance_walk false x.tree c.at pins (m.begun x c.path c.at.level (m.given_by c.at params) more) >>= λ own. m.below (m.child n all) own >>= λ last. Ok (m.outer st last)) f
    ∙ three (connections (m.seen_at st.levels c.at) (m.open_params k.tree) c.params) (connections (m.seen_at st.levels c.at) (m.port_texts (m.ports_of k.tree)) c.pins) (m.count_instance c st)
    (λ params pins more. m.instance_walk false k.tree c.at pins (m.begun k c.path c.at.level (m.given_by c.at params) more)) (λ own. m.below (m.child n all) own >>= λ last. Ok (m.outer st last))

pub child_too_deep : (deep : ℕ) (all : m.Library) (c : m.Child) (st : m.State) → deep ≡ zero → m.child deep all c st ≡ Err (fault instance_deep c.name.place)
unfolding child
child_too_deep deep all c st e = ap (λ (d : ℕ). m.child d all c st) e

pub child_unknown : {B D : Type 0} (r : m.Known → B → Type 0) (s : m.State → D → Type 0) (deep n : ℕ) (all : m.Library) (c : m.Child) (st : m.State) (e : TextErr) → deep ≡ suc n →
    Answers r (m.module_of all c) (Err e) → Answers s (m.child deep all c st) (Err e)
child_unknown r s deep n all c st e i h = subst (λ (j : Judged m.State). Answers s j (Err e)) (sym (ap (λ (d : ℕ). m.child d all c st) i ∙ child_is_deep n all c st)) (refused_first r s (m.module_of all c) _ e h)

-- back in the scope around the instance
pub outer_answers : (j : Judged m.State) (w v : Walker) (current own : Open) (result : Result (Unit {0}) TextErr) → Answers (λ st (u : Unit {0}). st ≡ state_of v own) j result →
    Answers (λ st (u : Unit {0}). st ≡ state_of v current) (j >>= λ last. Ok (m.outer (state_of w current) last)) result
outer_answers (Ok x) w v current own (Ok u) h = ap (m.outer (state_of w current)) h
outer_answers (Ok x) w v current own (Err (No e)) h = absurd h
outer_answers (Ok x) w v current own (Err Memory) h = tt
outer_answers (Err all) w v current own (Ok u) h = absurd h
outer_answers (Err all) w v current own (Err (No e)) h = h
outer_answers (Err all) w v current own (Err Memory) h = tt

-- ---- what stands against an instance without its children

pub no_wiring : {D : Type 0} (s : m.State → D → Type 0) (k : m.Known) (c : m.Child) (st : m.State) (q : Result D TextErr) (e : TextErr) → IsErrAnd q (λ y. y ≡ e) →
    Answers IsWiring (wiring (m.seen_at st.levels c.at) k.tree c) (Err e) → Answers s (child_alone k c st) q
no_wiring s k c st q e h g =
    passed_on Reached s (child_alone k c st) q e h
    (subst (λ (j : Judged m.State). Answers Reached j (Err e)) (sym (alone_is k c st)) (refused_first IsWiring Reached (wiring (m.seen_at st.levels c.at) k.tree c) (behind_wiring k c st) e g))

pub no_room : {B D : Type 0} (r : m.State → B → Type 0) (s : m.State → D → Type 0) (k : m.Known) (c : m.Child) (st : m.State) (x : List Connection × List Connection) (q : Result D TextErr) (e : TextErr) → IsErrAnd q (λ y. y ≡ e) →
    Answers r (m.count_instance c st) (Err e) → Answers s (behind_wiring k c st x) q
no_room r s k c st x q e h g =
    passed_on Reached s (behind_wiring k c st x) q e h (refused_first r Reached (m.count_instance c st) (λ d. m.instance_walk false k.tree c.at x.1 (m.begun k c.path c.at.level (m.given_by c.at x.0) d)) e g)

-- ---- one instance more

abbrev pub Counts : ℕ → ℕ → Tally → Type 0
Counts turns n t = (t.bits ≡ n) × (t.turns ≡ turns)

clear_is : (all : Faults) (turns n : ℕ) (t : Tally) → Answers (Counts turns) (provided all n) (Ok t) → (all ≡ []) × (t.bits ≡ n) × (t.turns ≡ turns)
clear_is [] turns n t h = (refl, h.0, h.1)
clear_is (f ∷ all) turns n t h = absurd h

pub counted_ok : (c : m.Child) (st : m.State) (t : Tally) → Answers (Counts st.turns) (provided (m.size_faults c.name.place (st.bits + 1)) (st.bits + 1)) (Ok t) → m.count_instance c st ≡ Ok (record st { bits = t.bits; turns = t.turns })
counted_ok c st t h =
    let parts = clear_is (m.size_faults c.name.place (st.bits + 1)) st.turns (st.bits + 1) t h in
    let more : suc st.bits ≡ st.bits + 1 = omega arith in
    ap (λ (n : ℕ). provided (m.size_faults c.name.place n) (record st { bits = n })) more
    ∙ ap (λ (fs : Faults). provided fs (record st { bits = st.bits + 1 })) parts.0
    ∙ ap (λ (n : ℕ). Ok (record st { bits = n })) (sym parts.1)
    ∙ ap (λ (n : ℕ). Ok (record st { bits = t.bits; turns = n })) (sym parts.2)

counted_cause : {D : Type 0} (r : m.State → D → Type 0) (all : Faults) (turns n : ℕ) (x : m.State) (e : TextErr) → (let s : Result Tally TextErr = Err e in Answers (Counts turns) (provided all n) s) → Answers r (provided all x) (Err e)
counted_cause r [] turns n x (No e) h = absurd h
counted_cause r [] turns n x Memory h = tt
counted_cause r (f ∷ all) turns n x (No e) h = h
counted_cause r (f ∷ all) turns n x Memory h = tt

pub counted_err : {D : Type 0} (r : m.State → D → Type 0) (c : m.Child) (st : m.State) (e : TextErr) → (let s : Result Tally TextErr = Err e in Answers (Counts st.turns) (provided (m.size_faults c.name.place (st.bits + 1)) (st.bits + 1)) s) →
    Answers r (m.count_instance c st) (Err e)
counted_err r c st e h =
    let more : st.bits + 1 ≡ suc st.bits = omega arith in
    subst (λ (n : ℕ). Answers r (provided (m.size_faults c.name.place n) (record st { bits = n })) (Err e)) more
    (counted_cause r (m.size_faults c.name.place (st.bits + 1)) st.turns (st.bits + 1) (record st { bits = st.bits + 1 }) e h)

-- a scope, where what was done with it came to its end
after_ends : (g : Open → m.State) (j : Judged m.State) (own : Open) (done : Result (Unit {0}) TextErr) (q : Result Open TextErr) → Answers (λ s (u : Unit {0}). s ≡ g own) j done → IfOk q (λ o. (o ≡ own) × (done ≡ Ok (tt {0}))) →
    IfErr q (λ e. done ≡ Err e) → Answers (λ s o. s ≡ g o) j q
after_ends g j own done (Ok o) a h e =
    answers_ok (λ s x. s ≡ g x) j (g own) o (walked_to j (g own) (tt {0}) (subst (λ d. Answers (λ s (u : Unit {0}). s ≡ g own) j d) h.1 a)) (sym (ap g h.0))
after_ends g j own done (Err why) a h e = same_refusal (λ s (u : Unit {0}). s ≡ g own) (λ s o. s ≡ g o) j why (subst (λ d. Answers (λ s (u : Unit {0}). s ≡ g own) j d) e a)

pub wired_ends : (g : Open → m.State) (k : m.Known) (c : m.Child) (st more first : m.State) (x : List Connection × List Connection) (own : Open) (done : Result (Unit {0}) TextErr) (q : Result Open TextErr) → m.count_instance c st ≡ Ok more →
    first ≡ m.begun k c.path c.at.level (m.given_by c.at x.0) more → Answers (λ s (u : Unit {0}). s ≡ g own) (m.instance_walk false k.tree c.at x.1 first) done → IfOk q (λ o. (o ≡ own) × (done ≡ Ok (tt {0}))) → IfErr q (λ e. done ≡ Err e) →
    Answers (λ s o. s ≡ g o) (behind_wiring k c st x) q
wired_ends g k c st more first x own done q n f a h e =
    let counted : behind_wiring k c st x ≡ m.instance_walk false k.tree c.at x.1 first =
    ap (λ (j : Judged m.State). j >>= λ d. m.instance_walk false k.tree c.at x.1 (m.begun k c.path c.at.level (m.given_by c.at x.0) d)) n ∙ ap (λ (s : m.State). m.instance_walk false k.tree c.at x.1 s) (sym f) in
    subst (λ (j : Judged m.State). Answers (λ s o. s ≡ g o) j q) (sym counted) (after_ends g (m.instance_walk false k.tree c.at x.1 first) own done q a h e)

pub too_deep : {D : Type 0} (s : m.State → D → Type 0) (deep : ℕ) (all : m.Library) (c : m.Child) (st : m.State) (e : Refusal) → deep ≡ zero → e ≡ record { number = instance_deep; place = c.name.place; count = 0 } →
    Answers s (m.child deep all c st) (Err (No e))
too_deep s deep all c st e h g =
    subst (λ (j : Judged m.State). Answers s j (Err (No e))) (sym (child_too_deep deep all c st h))
    (subst (λ (f : Refusal). let j : Judged m.State = Err (fault instance_deep c.name.place) in Answers s j (Err (No f))) (sym g) (0, omega arith, refl))

pub own_refused : {B D : Type 0} (r : m.State → B → Type 0) (s : m.State → D → Type 0) (deep n : ℕ) (all : m.Library) (c : m.Child) (st : m.State) (k : m.Known) (e : TextErr) → deep ≡ suc n → m.module_of all c ≡ Ok k →
    Answers r (child_alone k c st) (Err e) → Answers s (m.child deep all c st) (Err e)
own_refused r s deep n all c st k e i f h =
    subst (λ (j : Judged m.State). Answers s j (Err e)) (sym (child_at deep n all c st k i f)) (refused_first r s (child_alone k c st) _ e h)

pub own_walked : (deep n : ℕ) (all : m.Library) (c : m.Child) (st own : m.State) (k : m.Known) → deep ≡ suc n → m.module_of all c ≡ Ok k → child_alone k c st ≡ Ok own →
    m.child deep all c st ≡ (m.below (m.child n all) own >>= λ last. Ok (m.outer st last))
own_walked deep n all c st own k i f g = child_at deep n all c st k i f ∙ ap (λ (j : Judged m.State). j >>= λ x. m.below (m.child n all) x >>= λ last. Ok (m.outer st last)) g

pub below_begins : (w : Walker) (o : Open) (f : m.Child → m.Walk) (xs : List Child) (rest : Vec Child Global) → xs ≡ w.children.items → rest.items ≡ [] →
    m.below f (state_of w o) ≡ m.walk_all f (map child_is (drop 0 xs)) (state_of (record w { children = rest }) o)
below_begins w o f xs rest h e =
    ap (λ (ys : List Child). m.walk_all f (map child_is ys) (record (state_of w o) { children = [] })) (sym h)
    ∙ ap (λ (ys : List Child). m.walk_all f (map child_is xs) (record (state_of w o) { children = map child_is ys })) (sym e)

-- ---- an instance is begun, and the file level

pub one_front : (around none : Fronts) (f : Front) → fronts_are around ≡ fronts_are none ++ front_is f ∷ [] → fronts_are none ≡ [] → fronts_are around ≡ front_is f ∷ []
one_front around none f h e = h ∙ ap (λ (x : List m.Front). x ++ front_is f ∷ []) e

pub begun_is : (w : Walker) (levels : Levels) (children : Vec Child Global) (o current : Open) (k : m.Known) (path : Name) (parent : ℕ) (given : List m.Given) (x : Level) → levels_are levels ≡ levels_are w.levels ++ level_is x ∷ [] →
    x.path ≡ path → x.module ≡ k.number → x.parent ≡ parent → fronts_are x.around ≡ record { level = 0; nets = 0; consts = k.above } ∷ [] → x.nets ≡ [] → x.consts ≡ [] → children.items ≡ [] →
    o.level ≡ length (levels_are w.levels) → o.constructs.items ≡ [] → map given_is o.overridden.list.items ≡ given → ((n : Name) → holds o.taken n ≡ has_name n []) →
    state_of (record w { levels = levels; children = children }) o ≡ m.begun k path parent given (state_of w current)
unfolding has_name
begun_is w levels children o current k path parent given x h p n q a b c e l g i t =
    let taken : holds o.taken ≡ m.nothing_taken = fun_ext t in
    let all : levels_are levels ≡ levels_are w.levels ++ record { path = path; module_number = k.number; parent = parent; around = record { level = 0; nets = 0; consts = k.above } ∷ []; nets = []; consts = [] } ∷ []
    = h ∙ (λ z. levels_are w.levels ++ record { path = p z; module_number = n z; parent = q z; around = a z; nets = entries_are (b z); consts = entries_are (c z) } ∷ []) in
    λ z. record {
      levels = all z;
      me = l z;
      taken = taken z;
      constructs = length (g z);
      overridden = i z;
      bits = w.tally.bits;
      turns = w.tally.turns;
      wires = w.wires;
      works = map work_is w.works.items;
      children = map child_is (e z);
    }

file_is : (w : Walker) (levels : Levels) (o : Open) (x : Level) → IsNothing w → levels_are levels ≡ levels_are w.levels ++ level_is x ∷ [] → x.path ≡ [] → x.module ≡ 0 → x.parent ≡ 0 → fronts_are x.around ≡ [] → x.nets ≡ [] → x.consts ≡ [] →
    o.level ≡ 0 → o.constructs.items ≡ [] → map given_is o.overridden.list.items ≡ [] → ((n : Name) → holds o.taken n ≡ has_name n []) → state_of (record w { levels = levels }) o ≡ m.file_state
unfolding has_name
file_is w levels o x none h p n q a b c l g i t =
    let taken : holds o.taken ≡ m.nothing_taken = fun_ext t in
    let all : levels_are levels ≡ m.no_level ∷ []
    = h ∙ (λ z. none.levels z ++ record { path = p z; module_number = n z; parent = q z; around = a z; nets = entries_are (b z); consts = entries_are (c z) } ∷ []) in
    λ z. record {
      levels = all z;
      me = l z;
      taken = taken z;
      constructs = length (g z);
      overridden = i z;
      bits = none.bits z;
      turns = none.turns z;
      wires = none.wires z;
      works = map work_is (none.works z);
      children = map child_is (none.children z);
    }

pub file_begun : {E : Type 0} (w : Walker) (levels : Levels) (x : Level) (r : Result Open E) → IsNothing w → levels_are levels ≡ levels_are w.levels ++ level_is x ∷ [] → x.path ≡ [] → x.module ≡ 0 → x.parent ≡ 0 → fronts_are x.around ≡ [] → x.nets ≡ [] →
    x.consts ≡ [] → IfOk r (IsBare 0) → IfOk r (λ o. state_of (record w { levels = levels }) o ≡ m.file_state)
file_begun w levels x (Ok o) none h p n q a e c b = file_is w levels o x none h p n q a e c b.level_is b.constructs b.overridden b.taken
file_begun w levels x (Err e) none h p n q a f c b = tt

-- ---- what an instance has without its children

pub instance_no_params : {B D : Type 0} (r : m.State → B → Type 0) (s : m.State → D → Type 0) (top : Bool) (t : Module) (at : m.Front) (pins : List Connection) (st : m.State) (list : List ParPort) (e : TextErr) → list ≡ t.params →
    Answers r (m.header_params param_word.Parameter kept list st) (Err e) → Answers s (m.instance_walk top t at pins st) (Err e)
instance_no_params r s top t at pins st list e h a =
    refused_first r s (m.header_params param_word.Parameter kept t.params st) _ e (subst (λ (ps : List ParPort). Answers r (m.header_params param_word.Parameter kept ps st) (Err e)) h a)

-- what comes behind the parameters
abbrev behind_params : Bool → Module → m.Front → List Connection → m.Walk
behind_params top t at pins st =
    m.header_ports top way.Input (scalar false) (m.ports_of t) st >>= λ found. m.walk_all (λ x. (m.act x).item) t.items (record found.1 { works = found.1.works ++ m.port_works at pins found.0 })

params_first : (top : Bool) (t : Module) (at : m.Front) (pins : List Connection) (st first : m.State) (list : List ParPort) → list ≡ t.params → m.header_params param_word.Parameter kept list st ≡ Ok first →
    m.instance_walk top t at pins st ≡ behind_params top t at pins first
params_first top t at pins st first list h e =
    ap (λ (ps : List ParPort). m.header_params param_word.Parameter kept ps st >>= behind_params top t at pins) (sym h) ∙ ap (λ (j : Judged m.State). j >>= behind_params top t at pins) e

pub instance_no_ports : {B D : Type 0} (r : List m.OpenPort × m.State → B → Type 0) (s : m.State → D → Type 0) (top : Bool) (t : Module) (at : m.Front) (pins : List Connection) (st first : m.State) (list : List ParPort) (ports : List Port) (e : TextErr) →
    list ≡ t.params → ports ≡ m.ports_of t → m.header_params param_word.Parameter kept list st ≡ Ok first → Answers r (m.header_ports top way.Input (scalar false) ports first) (Err e) → Answers s (m.instance_walk top t at pins st) (Err e)
instance_no_ports r s top t at pins st first list ports e h g f a =
    subst (λ (j : Judged m.State). Answers s j (Err e)) (sym (params_first top t at pins st first list h f))
    (refused_first r s (m.header_ports top way.Input (scalar false) (m.ports_of t) first) _ e (subst (λ (ps : List Port). Answers r (m.header_ports top way.Input (scalar false) ps first) (Err e)) g a))

pub instance_opened : (top : Bool) (t : Module) (at : m.Front) (pins : List Connection) (st first second : m.State) (list : List ParPort) (ports : List Port) (rows : List Item) (found : List m.OpenPort) (works : List m.Standing) → list ≡ t.params → ports ≡ m.ports_of t →
    rows ≡ t.items → m.header_params param_word.Parameter kept list st ≡ Ok first → m.header_ports top way.Input (scalar false) ports first ≡ Ok (found, second) → works ≡ second.works ++ m.port_works at pins found →
    m.instance_walk top t at pins st ≡ m.walk_all (λ x. (m.act x).item) rows (record second { works = works })
instance_opened top t at pins st first second list ports rows found works h g k e f w =
    params_first top t at pins st first list h e
    ∙ ap (λ (ps : List Port). m.header_ports top way.Input (scalar false) ps first >>= λ x. m.walk_all (λ y. (m.act y).item) t.items (record x.1 { works = x.1.works ++ m.port_works at pins x.0 })) (sym g)
    ∙ ap (λ (j : Judged (List m.OpenPort × m.State)). j >>= λ x. m.walk_all (λ y. (m.act y).item) t.items (record x.1 { works = x.1.works ++ m.port_works at pins x.0 })) f
    ∙ ap (λ (xs : List Item). m.walk_all (λ y. (m.act y).item) xs (record second { works = second.works ++ m.port_works at pins found })) (sym k)
    ∙ ap (λ (ws : List m.Standing). m.walk_all (λ y. (m.act y).item) rows (record second { works = ws })) (sym w)
