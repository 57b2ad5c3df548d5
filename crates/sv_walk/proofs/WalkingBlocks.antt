-- Blocks that are begun and left, and the turns of loops.
use Rattle.std.proofs.Common.{◌≡◌, ℕ, suc, List, [], ◌∷◌, ◌++◌, length, Bool, true, false, ◌||◌, Option, Some, None, Result, Ok, Err, refl, sym, ap, ◌∙◌, subst, arith}
use Rattle.std.specs.Result.{IfOk, IsErrAnd}
use Rattle.std.proofs.lemmas.Result.{err_from_is_err_and}
use Rattle.fourvec.specs.declared.Bit.{Bit}
use Rattle.sv_outside.specs.declared.refusal.Place.{Place}
use Rattle.sv_outside.specs.declared.refusal.Refusal.{Refusal}
use Rattle.sv_outside.specs.declared.refusal.TextErr.{TextErr}
use Rattle.sv_outside.specs.declared.refusal.TextErr.TheVariants.{No, Memory}
use Rattle.sv_tree.specs.declared.word.Word.{Word}
use Rattle.sv_tree.specs.declared.exprs.Expr.{Expr}
use Rattle.sv_tree.specs.declared.stmts.Step.{Step}
use Rattle.sv_tree.specs.declared.design.Gen.{Gen}
use Rattle.sv_meaning.specs.Faults.{Faults, Judged, provided, ◌>>=◌, fault, is_clear, unknown_name}
use Rattle.sv_meaning.specs.Layouts.{Name, Entry, Scope, What, find, number_is, type_is, signal_is, genvar_is}
use Rattle.sv_meaning.specs.Names.{has_name}
use Rattle.sv_meaning.specs.Deeds.{index_entry, turn_faults, turns}
use Rattle.sv_loops.specs.Answers.{Answers, Gives}
use Rattle.sv_hierarchy.specs.Scopes.{State, Walk, Level, walk_all, name_faults, declare_at, block_place, block_name, block_walk, enclosed, inner, outer, turn_walk, turn_name, count_turn, turns_walk, body_of, under, next_construct, genvar_faults, seen}
use Rattle.sv_walk.specs.declared.walker.Walker.{Walker}
use Rattle.sv_walk.specs.declared.walker.Open.{Open}
use Rattle.sv_levels.specs.Levels.{block_in, level_is, levels_are}
use Rattle.sv_levels.specs.declared.levels.Level.{Level as Coded}
use Rattle.sv_levels.specs.declared.levels.Levels.{Levels}
use Rattle.sv_levels.specs.declared.loops.Turns.{Turns}
use Rattle.sv_modules.specs.Naming.{holds}
use Rattle.sv_walk.specs.Walks.{IsBare, state_of}
use Rattle.sv_walk.specs.Looping.{loop_judged}
use Rattle.sv_walk.specs.Items.{Begins, BeginsLoop, IsLoop, opened_block, opened_turn, before_turns, declare_turns}
use Rattle.sv_walk.proofs.Declaring.{out_of_memory, refused_as, refused_then}
use Rattle.sv_walk.proofs.Walking.{Ends, same_ends, then_ends}

pub same_state : (a b : State) → a.levels ≡ b.levels → a.me ≡ b.me → a.taken ≡ b.taken → a.constructs ≡ b.constructs → a.overridden ≡ b.overridden → a.bits ≡ b.bits → a.turns ≡ b.turns →
    a.wires ≡ b.wires → a.works ≡ b.works → a.children ≡ b.children → a ≡ b
same_state a b levels me taken constructs overridden bits turns wires works children =
    λ i. record { levels = levels i; me = me i; taken = taken i; constructs = constructs i; overridden = overridden i; bits = bits i; turns = turns i; wires = wires i; works = works i; children = children i }

none_taken : (f : Name → Bool) → ((n : Name) → f n ≡ has_name n []) → (n : Name) → f n ≡ false
unfolding has_name
none_taken f h n = h n

-- a block is begun
pub block_begun : {E : Type 0} (w : Walker) (levels : Levels) (o : Open) (part : Name) (nets : List Entry) (x : Coded) (n : ℕ) (r : Result Open E) → levels_are levels ≡ levels_are w.levels ++ level_is x ∷ [] →
    level_is x ≡ block_in (levels_are w.levels) o.level part nets → n ≡ length (levels_are w.levels) → IfOk r (IsBare n) → IfOk r (λ block. state_of (record w { levels = levels }) block ≡ inner part nets (state_of w o))
block_begun w levels o part nets x n (Ok block) h e k b =
    same_state (state_of (record w { levels = levels }) block) (inner part nets (state_of w o)) (h ∙ ap (λ (y : Level). levels_are w.levels ++ y ∷ []) e) (b.level_is ∙ k)
    (λ i. λ name. none_taken (holds block.taken) b.taken name i) (λ i. length (b.constructs i)) b.overridden refl refl refl refl refl
block_begun w levels o part nets x n (Err e) h f k b = tt

-- ---- blocks are left

left_ends : {A : Type 0} (q e : State) (j : Judged State) (r : Result A TextErr) → Ends e j r → Ends (outer q e) (j >>= λ last. Ok (outer q last)) r
left_ends q e (Ok x) (Ok y) h = ap (outer q) h
left_ends q e (Ok x) (Err (No f)) h = absurd h
left_ends q e (Ok x) (Err Memory) h = tt
left_ends q e (Err all) (Ok y) h = absurd h
left_ends q e (Err all) (Err (No f)) h = h
left_ends q e (Err all) (Err Memory) h = tt

pub enclosed_ends : {A : Type 0} (part : Name) (more : List Entry) (body : Walk) (q b e : State) (r : Result A TextErr) → b ≡ inner part more q → Ends e (body b) r → Ends (outer q e) (enclosed part more body q) r
enclosed_ends part more body q b e r g h = left_ends q e (body (inner part more q)) r (subst (λ x. Ends e (body x) r) g h)

pub block_ends : {A : Type 0} (label : Option Word) (p : Place) (n : ℕ) (body : Walk) (s q b e : State) (r : Result A TextErr) →
    declare_at (block_place label p) (block_name label n) s ≡ Ok q → b ≡ inner (block_name label n) [] q → Ends e (body b) r → Ends (outer q e) (block_walk label p n body s) r
block_ends label p n body s q b e r d g h =
    then_ends q (outer q e) (declare_at (block_place label p) (block_name label n) s) (enclosed (block_name label n) [] body) r d (enclosed_ends (block_name label n) [] body q b e r g h)

-- what is refused before the body is refused
pub through_refused : {A B C D E : Type 0} (r : B → E → Type 0) (k : C → D → Type 0) (j : Judged A) (f : A → B) (g : A → Judged C) (e : TextErr) →
    Answers r (j >>= λ x. Ok (f x)) (Err e) → Answers k (j >>= g) (Err e)
through_refused r k (Ok x) f g (No e) h = absurd h
through_refused r k (Ok x) f g Memory h = out_of_memory k (g x)
through_refused r k (Err all) f g (No e) h = h
through_refused r k (Err all) f g Memory h = tt

pub block_refused : {D : Type 0} (label : Option Word) (p : Place) (n : ℕ) (body : Walk) (s u : State) (e : TextErr) (z : Result D TextErr) →
    Answers (λ (x : State) (y : State). x ≡ y) (opened_block label p n s) (Err e) → IsErrAnd z (λ y. y ≡ e) → Ends u (block_walk label p n body s) z
block_refused {D = D} label p n body s u e z h i =
    let w = err_from_is_err_and z i in
    subst (Ends u (block_walk label p n body s)) (sym w.1) (subst (λ y. Ends {A = D} u (block_walk label p n body s) (Err y)) (sym w.2)
    (through_refused (λ (x : State) (y : State). x ≡ y) (λ st (v : D). st ≡ u) (declare_at (block_place label p) (block_name label n) s) (inner (block_name label n) []) (enclosed (block_name label n) [] body) e h))

-- ---- turns

pub answered : {A B : Type 0} (f : B → A) (j : Judged A) (y : B) → Answers (λ x z. x ≡ f z) j (Ok y) → j ≡ Ok (f y)
answered f (Ok x) y h = ap Ok h
answered f (Err all) y h = absurd h

turn_by : (fs : Faults) (name : Name) (more : List Entry) (body : Walk) (s b : State) → (provided fs (record s { turns = suc s.turns }) >>= λ x. Ok (inner name more x)) ≡ Ok b →
    (provided fs (record s { turns = suc s.turns }) >>= enclosed name more body) ≡ (body b >>= λ last. Ok (outer s last))
turn_by [] name more body s b h =
    let t : inner name more (record s { turns = suc s.turns }) ≡ b = cc in
    ap (λ (x : State). body x >>= λ last. Ok (outer s last)) t
turn_by (f ∷ fs) name more body s b h = cc

turn_is : (p : Place) (g v : Name) (body : Walk) (bits : List Bit) (s b : State) → opened_turn p g v bits s ≡ Ok b → turn_walk p g v body bits s ≡ (body b >>= λ last. Ok (outer s last))
turn_is p g v body bits s b h = turn_by (turn_faults p s.turns) (turn_name g bits) (index_entry v bits ∷ []) body s b h

-- a turn whose block is begun
pub turn_ends : {A : Type 0} (p : Place) (g v : Name) (body : Walk) (bits : List Bit) (s b e : State) (r : Result A TextErr) → opened_turn p g v bits s ≡ Ok b → Ends e (body b) r → Ends (outer s e) (turn_walk p g v body bits s) r
turn_ends p g v body bits s b e r h k = same_ends (outer s e) (turn_walk p g v body bits s) (body b >>= λ last. Ok (outer s last)) r (turn_is p g v body bits s b h) (left_ends s e (body b) r k)

-- a turn whose block is not begun
pub not_opened : {B : Type 0} (r : State → B → Type 0) (p : Place) (g v : Name) (body : Walk) (bits : List Bit) (s u : State) (y : Result B TextErr) (e : TextErr) → y ≡ Err e →
    Answers r (opened_turn p g v bits s) y → Answers (λ st (x : Unit {0}). st ≡ u) (turn_walk p g v body bits s) (Err e)
not_opened r p g v body bits s u y e i h =
    through_refused r (λ st (x : Unit {0}). st ≡ u) (count_turn p s) (inner (turn_name g bits) (index_entry v bits ∷ [])) (enclosed (turn_name g bits) (index_entry v bits ∷ []) body) e (subst (Answers r (opened_turn p g v bits s)) i h)

-- ---- loops

declared_constructs : (fs : Faults) (s x q : State) → x.constructs ≡ s.constructs → provided fs x ≡ Ok q → q.constructs ≡ s.constructs
declared_constructs [] s x q e h = let t : x ≡ q = cc in sym (ap (λ (y : State). y.constructs) t) ∙ e
declared_constructs (f ∷ fs) s x q e h = cc

-- before the turns, and the turns
pub loop_turns : (p : Place) (v : Name) (body : Gen) (values : List (List Bit)) (s q : State) → before_turns body values s ≡ Ok q →
    turns_walk (body_of p (under body)) v (suc s.constructs) values (record s { constructs = suc s.constructs }) ≡ walk_all (turn_walk p (block_name (under body).label q.constructs) v (under body).body) values q
unfolding walk_all
loop_turns p v body [] s q h = h
loop_turns p v body (x ∷ more) s q h =
    let s' : State = record s { constructs = suc s.constructs } in
    let n : q.constructs ≡ suc s.constructs =
    declared_constructs (name_faults (s.taken (block_name (under body).label (suc s.constructs))) (block_place (under body).label (under body).start) (block_name (under body).label (suc s.constructs))) s'
    (record s' { taken = λ other. has_name other (block_name (under body).label (suc s.constructs) ∷ []) || s.taken other }) q refl h in
    ap (λ (j : Judged State). j >>= walk_all (turn_walk p (block_name (under body).label (suc s.constructs)) v (under body).body) (x ∷ more)) h
    ∙ ap (λ (k : ℕ). walk_all (turn_walk p (block_name (under body).label k) v (under body).body) (x ∷ more) q) (sym n)

pub loop_refused : (p : Place) (v : Name) (body : Gen) (values : List (List Bit)) (s u : State) (e : TextErr) →
    Answers (λ (x : State) (y : State). x ≡ y) (before_turns body values s) (Err e) →
    Answers (λ st (x : Unit {0}). st ≡ u) (turns_walk (body_of p (under body)) v (suc s.constructs) values (record s { constructs = suc s.constructs })) (Err e)
loop_refused p v body [] s u (No e) h = absurd h
loop_refused p v body [] s u Memory h = tt
loop_refused p v body (x ∷ more) s u e h =
    refused_then (λ (x : State) (y : State). x ≡ y) (λ st (x : Unit {0}). st ≡ u) (declare_at (block_place (under body).label (under body).start) (block_name (under body).label (suc s.constructs)) (record s { constructs = suc s.constructs }))
    (walk_all (turn_walk p (block_name (under body).label (suc s.constructs)) v (under body).body) (x ∷ more)) e h

pub none_declared : (p : Place) (n : Name) (values : List (List Bit)) (t : State) → values ≡ [] → declare_turns p n values t ≡ Ok t
none_declared p n values t e = ap (λ (l : List (List Bit)). declare_turns p n l t) e

pub some_declared : (p : Place) (n : Name) (values : List (List Bit)) (t : State) → (values ≡ [] → ⊥) → declare_turns p n values t ≡ declare_at p n t
some_declared p n [] t h = absurd (h refl)
some_declared p n (x ∷ more) t h = refl

pub before_is : (body : Gen) (values : List (List Bit)) (s : State) →
    before_turns body values s ≡ declare_turns (block_place (under body).label (under body).start) (block_name (under body).label (suc s.constructs)) values (record s { constructs = suc s.constructs })
before_is body [] s = refl
before_is body (x ∷ more) s = refl

-- ---- what is begun is refused, or is not

pub declared_as : (p q : Place) (m n : Name) (s t : State) → p ≡ q → m ≡ n → declare_at p m s ≡ Ok t → declare_at q n s ≡ Ok t
declared_as p q m n s t e f h = sym (λ i. declare_at (e i) (f i) s) ∙ h

pub begins_memory : (label : Option Word) (p : Place) (n : ℕ) (w : Walker) (o : Open) (v : Walker) (q : Open) (z : Result Open TextErr) → IsErrAnd z (λ y. y ≡ Memory) → Begins label p n w o v q z
begins_memory label p n w o v q z i =
    let x = err_from_is_err_and z i in
    subst (Begins label p n w o v q) (sym x.1) (subst (λ y. Begins label p n w o v q (Err y)) (sym x.2) (out_of_memory (λ (a : State) (b : State). a ≡ b) (opened_block label p n (state_of w o))))

pub begins_refused : (label : Option Word) (p : Place) (n : ℕ) (w : Walker) (o : Open) (v : Walker) (q : Open) (t : State) (place : Place) (name : Name) (y : Result (Unit {0}) TextErr) (e : TextErr) (z : Result Open TextErr) →
    place ≡ block_place label p → name ≡ block_name label n → y ≡ Err e → Ends t (declare_at place name (state_of w o)) y → IsErrAnd z (λ d. d ≡ e) → Begins label p n w o v q z
begins_refused label p n w o v q t place name y e z f g h k i =
    let x = err_from_is_err_and z i in
    let d : Ends t (declare_at (block_place label p) (block_name label n) (state_of w o)) y = subst (λ j. Ends t j y) (λ k. declare_at (f k) (g k) (state_of w o)) k in
    subst (Begins label p n w o v q) (sym x.1) (subst (λ d. Begins label p n w o v q (Err d)) (sym x.2)
    (refused_then (λ st (u : Unit {0}). st ≡ t) (λ (a : State) (b : State). a ≡ b) (declare_at (block_place label p) (block_name label n) (state_of w o)) (λ s. Ok (inner (block_name label n) [] s)) e
    (subst (Ends t (declare_at (block_place label p) (block_name label n) (state_of w o))) h d)))

pub loop_memory : (body : Gen) (values : List (List Bit)) (w : Walker) (o q : Open) (z : Result Turns TextErr) → IsErrAnd z (λ y. y ≡ Memory) → BeginsLoop body values w o q z
loop_memory body values w o q z i =
    let x = err_from_is_err_and z i in
    subst (BeginsLoop body values w o q) (sym x.1) (subst (λ y. BeginsLoop body values w o q (Err y)) (sym x.2) (out_of_memory (λ (a : State) (b : State). a ≡ b) (before_turns body values (state_of w o))))

pub loop_counted : (body : Gen) (values : List (List Bit)) (w : Walker) (o q : Open) (t : State) (y : Result (Unit {0}) TextErr) (e : TextErr) (z : Result Turns TextErr) → y ≡ Err e →
    Ends t (next_construct (state_of w o)) y → IsErrAnd z (λ d. d ≡ e) → BeginsLoop body values w o q z
loop_counted body values w o q t y (No r) z h k i =
    let f : Ends {A = Unit {0}} t (next_construct (state_of w o)) (Err (No r)) = subst (Ends t (next_construct (state_of w o))) h k in absurd f
loop_counted body values w o q t y Memory z h k i = loop_memory body values w o q z i

pub loop_undeclared : (body : Gen) (values : List (List Bit)) (w : Walker) (o x q : Open) (t : State) (label : Option Word) (start place : Place) (name : Name) (y : Result (Unit {0}) TextErr) (e : TextErr) (z : Result Turns TextErr) →
    label ≡ (under body).label → start ≡ (under body).start → place ≡ block_place label start → name ≡ block_name label (length x.constructs.items) → next_construct (state_of w o) ≡ Ok (state_of w x) → y ≡ Err e →
    Ends t (declare_turns place name values (state_of w x)) y → IsErrAnd z (λ d. d ≡ e) → BeginsLoop body values w o q z
loop_undeclared body values w o x q t label start place name y e z a b c d f h k i =
    let r = err_from_is_err_and z i in
    let same : record (state_of w o) { constructs = suc (length o.constructs.items) } ≡ state_of w x = cc in
    let n : suc (length o.constructs.items) ≡ length x.constructs.items = ap (λ (s : State). s.constructs) same in
    let is : before_turns body values (state_of w o) ≡ declare_turns place name values (state_of w x) =
    before_is body values (state_of w o)
    ∙ (λ j. declare_turns (block_place (sym a j) (sym b j)) (block_name (sym a j) (n j)) values (same j))
    ∙ sym (λ j. declare_turns (c j) (d j) values (state_of w x)) in
    subst (BeginsLoop body values w o q) (sym r.1) (subst (λ g. BeginsLoop body values w o q (Err g)) (sym r.2)
    (subst (λ j. Answers (λ (s : State) (u : State). s ≡ u) j (Err e)) (sym is)
    (refused_as (λ st (u : Unit {0}). st ≡ t) (λ (s : State) (u : State). s ≡ u) (declare_turns place name values (state_of w x)) e (subst (Ends t (declare_turns place name values (state_of w x))) h k))))

turns_constructs : (p : Place) (n : Name) (values : List (List Bit)) (s t : State) → declare_turns p n values s ≡ Ok t → t.constructs ≡ s.constructs
turns_constructs p n [] s t h = let e : s ≡ t = cc in sym (ap (λ (x : State). x.constructs) e)
turns_constructs p n (x ∷ more) s t h =
    declared_constructs (name_faults (s.taken n) p n) s (record s { taken = λ other. has_name other (n ∷ []) || s.taken other }) t refl h

pub loop_begun : (body : Gen) (values : List (List Bit)) (w : Walker) (o x q : Open) (label : Option Word) (start place : Place) (name part : Name) →
    label ≡ (under body).label → start ≡ (under body).start → place ≡ block_place label start → name ≡ part → part ≡ block_name label (length x.constructs.items) → next_construct (state_of w o) ≡ Ok (state_of w x) →
    declare_turns place name values (state_of w x) ≡ Ok (state_of w q) → IsLoop body values w o q (record { name = part; values = values })
loop_begun body values w o x q label start place name part a b c g d f h =
    let same : record (state_of w o) { constructs = suc (length o.constructs.items) } ≡ state_of w x = cc in
    let n : suc (length o.constructs.items) ≡ length x.constructs.items = ap (λ (s : State). s.constructs) same in
    record {
      before = before_is body values (state_of w o)
          ∙ (λ j. declare_turns (block_place (sym a j) (sym b j)) (block_name (sym a j) (n j)) values (same j))
          ∙ sym (λ j. declare_turns (c j) ((g ∙ d) j) values (state_of w x)) ∙ h;
      values_are = refl;
      name = d ∙ (λ j. block_name (a j) (sym (turns_constructs place name values (state_of w x) (state_of w q) h) j));
    }

-- ---- what is provided

pub provided_refused : {A B C D : Type 0} (r : A → B → Type 0) (k : C → D → Type 0) (fs : Faults) (x : A) (y : C) (e : TextErr) → Answers r (provided fs x) (Err e) → Answers k (provided fs y) (Err e)
provided_refused r k [] x y (No e) h = absurd h
provided_refused r k [] x y Memory h = tt
provided_refused r k (f ∷ fs) x y (No e) h = h
provided_refused r k (f ∷ fs) x y Memory h = tt

pub provided_handed : {A B C D : Type 0} (r : A → B → Type 0) (k : C → D → Type 0) (fs : Faults) (x : A) (y : C) (a : Result B TextErr) (e : TextErr) (z : Result D TextErr) → a ≡ Err e → Answers r (provided fs x) a →
    IsErrAnd z (λ d. d ≡ e) → Answers k (provided fs y) z
provided_handed r k fs x y a e z h g i =
    let p = err_from_is_err_and z i in
    subst (Answers k (provided fs y)) (sym p.1) (subst (λ d. Answers k (provided fs y) (Err d)) (sym p.2) (provided_refused r k fs x y e (subst (Answers r (provided fs x)) h g)))

pub provided_ok : {A B C D : Type 0} (r : A → B → Type 0) (k : C → D → Type 0) (fs : Faults) (x : A) (y : C) (b : B) (d : D) → Answers r (provided fs x) (Ok b) → (r x b → k y d) → Answers k (provided fs y) (Ok d)
provided_ok r k [] x y b d h f = f h
provided_ok r k (g ∷ fs) x y b d h f = absurd h

provided_clear : {A : Type 0} (fs : Faults) (x : A) → is_clear fs ≡ true → provided fs x ≡ Ok x
provided_clear [] x h = refl
provided_clear (f ∷ fs) x h = cc

-- ---- turns are opened

pub turn_opened : (p : Place) (g v : Name) (bits : List Bit) (s x b : State) (part : Name) (nets : List Entry) → count_turn p s ≡ Ok x → b ≡ inner part nets x → part ≡ turn_name g bits → nets ≡ index_entry v bits ∷ [] → opened_turn p g v bits s ≡ Ok b
turn_opened p g v bits s x b part nets h k e f =
    ap (λ (j : Judged State). j >>= λ y. Ok (inner (turn_name g bits) (index_entry v bits ∷ []) y)) h ∙ ap Ok (sym (k ∙ λ i. inner (e i) (f i) x))

pub answers_by : {A B : Type 0} (f : B → A) (j : Judged A) (y : B) → j ≡ Ok (f y) → Answers (λ x z. x ≡ f z) j (Ok y)
answers_by f j y e = subst (λ k. Answers (λ x z. x ≡ f z) k (Ok y)) (sym e) refl

-- ---- the values of a loop

pub loop_valued : (place : Place) (header : Bool) (v : Word) (start test : Expr) (next : Step) (s : State) (at : Scope) (b : Bool) (r : Result (List (List Bit)) TextErr) → at ≡ seen s →
    b ≡ is_clear (genvar_faults header v (find v.text at)) → b ≡ true → Gives (turns place at v.text start test next) r → Gives (loop_judged place header v start test next s) r
loop_valued place header v start test next s at b r e h g k =
    subst (λ (j : Judged (List (List Bit))). Gives j r)
    (sym (ap (λ (j : Judged Scope). j >>= λ x. turns place x v.text start test next)
    (provided_clear (genvar_faults header v (find v.text (seen s))) (seen s) (ap (λ x. is_clear (genvar_faults header v (find v.text x))) (sym e) ∙ sym h ∙ g))))
    (subst (λ x. Gives (turns place x v.text start test next) r) e k)

unknown_is : (header : Bool) (v : Word) (found : Option What) → is_clear (genvar_faults header v found) ≡ false → genvar_faults header v found ≡ fault unknown_name v.place
unknown_is true v found h = cc
unknown_is false v None h = refl
unknown_is false v (Some genvar_is) h = cc
unknown_is false v (Some (number_is b s)) h = refl
unknown_is false v (Some (type_is x)) h = refl
unknown_is false v (Some (signal_is o n x)) h = refl

pub loop_unknown : (place : Place) (header : Bool) (v : Word) (start test : Expr) (next : Step) (s : State) (at : Scope) (b : Bool) (e : Refusal) → at ≡ seen s →
    b ≡ is_clear (genvar_faults header v (find v.text at)) → b ≡ false → e ≡ record { number = unknown_name; place = v.place; count = 0 } → Gives (loop_judged place header v start test next s) (Err (No e))
loop_unknown place header v start test next s at b e f h g k =
    subst (λ (x : Faults). Gives (provided x (seen s) >>= λ y. turns place y v.text start test next) (Err (No e)))
    (sym (unknown_is header v (find v.text (seen s)) (ap (λ x. is_clear (genvar_faults header v (find v.text x))) (sym f) ∙ sym h ∙ g))) (0, omega arith, sym k)
