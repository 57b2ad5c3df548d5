-- Types, and nets and variables of a layout.
use Rattle.std.proofs.Common.{◌≡◌, ℕ, ◌+◌, Bool, List, [], ◌∷◌, ◌++◌, length, Result, Ok, Err, refl, sym, ap, ◌∙◌, subst}
use Rattle.std.specs.Result.{IsErrAnd}
use Rattle.sv_outside.specs.declared.refusal.Place.{Place}
use Rattle.sv_outside.specs.declared.refusal.TextErr.{TextErr}
use Rattle.sv_outside.specs.declared.refusal.TextErr.TheVariants.{No, Memory}
use Rattle.sv_outside.specs.declared.text.Signal.{Signal}
use Rattle.sv_tree.specs.declared.word.Word.{Word}
use Rattle.sv_tree.specs.declared.forms.TypeTree.{TypeTree}
use Rattle.sv_meaning.specs.Faults.{Faults, Judged, provided, ◌>>=◌}
use Rattle.sv_meaning.specs.Forms.{Declared, form}
use Rattle.sv_meaning.specs.Layouts as layouts
use Rattle.sv_meaning.specs.Layouts.{Name}
use Rattle.sv_names.specs.declared.layout.Layout.{Layout}
use Rattle.sv_names.specs.declared.layout.What.TheVariants.{Wire}
use Rattle.sv_names.specs.Kinds.{IsSound, entry_is, layout_is}
use Rattle.sv_names.proofs.Sound.{sound_is}
use Rattle.sv_types.specs.Types.{Refused}
use Rattle.sv_loops.specs.Answers.{Answers}
use Rattle.sv_hierarchy.specs.Scopes as m
use Rattle.sv_levels.specs.declared.levels.Levels.{Levels}
use Rattle.sv_levels.specs.declared.tally.Tally.{Tally}
use Rattle.sv_walk.specs.declared.walker.Walker.{Walker}
use Rattle.sv_walk.specs.declared.walker.Open.{Open}
use Rattle.sv_levels.specs.Levels.{levels_are}
use Rattle.sv_walk.specs.Walks.{state_of}
use Rattle.sv_walk.proofs.Declaring.{Leads, after, refused, refused_then, refused_by}

-- ---- types

-- a layout that is found, and the state behind it
abbrev pub Forms : Judged (layouts.Layout × m.State) → Walker → Open → Result Layout TextErr → Type 0
Forms j w o result = Answers (λ (found : layouts.Layout × m.State) (x : Layout). (found.0 ≡ layout_is x) × (found.1 ≡ state_of w o)) j result

pub formed_is : (t : TypeTree) (w v : Walker) (o p : Open) (x : Layout) (all : List Declared) (u : Unit {0}) → form (m.seen (state_of w o)) t ≡ Ok (layout_is x, all) → Leads (m.add_constants all (state_of w o)) v p (Ok u) →
    Forms (m.formed t (state_of w o)) v p (Ok x)
formed_is t w v o p x all u h g =
    subst (λ (j : Judged (layouts.Layout × List Declared)). Forms (j >>= λ y. (m.add_constants y.1 (state_of w o) >>= λ s. Ok (y.0, s))) v p (Ok x)) (sym h)
    (after (λ (found : layouts.Layout × m.State) (y : Layout). (found.0 ≡ layout_is y) × (found.1 ≡ state_of v p)) (m.add_constants all (state_of w o)) v p u (λ s. Ok (layout_is x, s)) (Ok x) g (refl, refl))

pub unformed : (t : TypeTree) (w v : Walker) (o p : Open) (q : Result Layout TextErr) (e : TextErr) → IsErrAnd q (λ y. y ≡ e) → Refused (form (m.seen (state_of w o)) t) e → Forms (m.formed t (state_of w o)) v p q
unformed t w v o p (Ok x) e i h = absurd i
unformed t w v o p (Err y) e i h =
    subst (λ z. Forms (m.formed t (state_of w o)) v p (Err z)) (sym i)
    (refused_then (λ (x : layouts.Layout × List Declared) (y : Unit {0}). Unit {0}) (λ (found : layouts.Layout × m.State) (y : Layout). (found.0 ≡ layout_is y) × (found.1 ≡ state_of v p)) (form (m.seen (state_of w o)) t)
    (λ y. (m.add_constants y.1 (state_of w o) >>= λ s. Ok (y.0, s))) e (refused_by (λ (x : layouts.Layout × List Declared) (y : Unit {0}). Unit {0}) (form (m.seen (state_of w o)) t) e h))

pub unlisted : (t : TypeTree) (w v : Walker) (o p : Open) (x : Layout) (all : List Declared) (q : Result Layout TextErr) (e : TextErr) → IsErrAnd q (λ y. y ≡ e) → form (m.seen (state_of w o)) t ≡ Ok (layout_is x, all) →
    Leads (m.add_constants all (state_of w o)) v p (Err e) → Forms (m.formed t (state_of w o)) v p q
unlisted t w v o p x all (Ok y) e i h g = absurd i
unlisted t w v o p x all (Err y) e i h g =
    subst (λ z. Forms (m.formed t (state_of w o)) v p (Err z)) (sym i)
    (subst (λ (j : Judged (layouts.Layout × List Declared)). Forms (j >>= λ y. (m.add_constants y.1 (state_of w o) >>= λ s. Ok (y.0, s))) v p (Err e)) (sym h)
    (refused_then (λ (st : m.State) (u : Unit {0}). st ≡ state_of v p) (λ (found : layouts.Layout × m.State) (y : Layout). (found.0 ≡ layout_is y) × (found.1 ≡ state_of v p)) (m.add_constants all (state_of w o)) (λ s. Ok (layout_is x, s)) e g))

found_at : (j : Judged (layouts.Layout × m.State)) (w : Walker) (o : Open) (x : Layout) → Forms j w o (Ok x) → j ≡ Ok (layout_is x, state_of w o)
found_at (Ok found) w o x h = ap Ok (λ i. (h.0 i, h.1 i))
found_at (Err all) w o x h = absurd h

-- what a layout is used for
pub with_formed : (t : TypeTree) (f : layouts.Layout → m.Walk) (st : m.State) (w v : Walker) (o p : Open) (x : Layout) (q : Result (Unit {0}) TextErr) → Forms (m.formed t st) w o (Ok x) → Leads (f (layout_is x) (state_of w o)) v p q → Leads (m.with_form t f st) v p q
with_formed t f st w v o p x q h g = subst (λ (j : Judged (layouts.Layout × m.State)). Leads (j >>= λ y. f y.0 y.1) v p q) (sym (found_at (m.formed t st) w o x h)) g

pub with_unformed : (t : TypeTree) (f : layouts.Layout → m.Walk) (st : m.State) (w v : Walker) (o p : Open) (q : Result (Unit {0}) TextErr) (e : TextErr) → IsErrAnd q (λ y. y ≡ e) → Forms (m.formed t st) w o (Err e) → Leads (m.with_form t f st) v p q
with_unformed t f st w v o p (Ok u) e i h = absurd i
with_unformed t f st w v o p (Err y) e i h =
    subst (λ z. Leads (m.with_form t f st) v p (Err z)) (sym i)
    (refused_then (λ (found : layouts.Layout × m.State) (y : Layout). (found.0 ≡ layout_is y) × (found.1 ≡ state_of w o)) (λ (s : m.State) (u : Unit {0}). s ≡ state_of v p) (m.formed t st) (λ y. f y.0 y.1) e h)

-- ---- wires

pub wire_put : (w : Walker) (o : Open) (level : ℕ) (levels : Levels) (wires : List Signal) (tally : Tally) (input : Bool) (x y : Layout) (n name path bytes : Name) (k : ℕ) → IsSound x → name ≡ n → bytes ≡ n → y ≡ x → k ≡ length w.wires →
    path ≡ m.prefix_of (m.level_at (levels_are w.levels) level).path ++ bytes → levels_are levels ≡ m.with_level level (m.with_net (entry_is (name, Wire k y))) (levels_are w.levels) →
    wires ≡ w.wires ++ record { path = path; width = x.width; input = input } ∷ [] → o.level ≡ level → tally.bits ≡ w.tally.bits + layouts.width (layout_is x) → tally.turns ≡ w.tally.turns →
    m.with_wire input (layout_is x) n (state_of w o) ≡ state_of (record w { levels = levels; wires = wires; tally = tally }) o
wire_put w o level levels wires tally input x y n name path bytes k sound a b c d e f g q h l =
    let l1 : m.with_level o.level (m.with_net (n, layouts.signal_is layouts.of_wires (length w.wires) (layout_is x))) (levels_are w.levels) ≡ levels_are levels =
    (λ i. m.with_level (q i) (m.with_net (sym a i, layouts.signal_is layouts.of_wires (sym d i) (layout_is (sym c i)))) (levels_are w.levels)) ∙ sym f in
    let p1 : m.prefix_of (m.level_at (levels_are w.levels) o.level).path ++ n ≡ path = (λ i. m.prefix_of (m.level_at (levels_are w.levels) (q i)).path ++ sym b i) ∙ sym e in
    let w1 : w.wires ++ record { path = m.prefix_of (m.level_at (levels_are w.levels) o.level).path ++ n; width = layouts.width (layout_is x); input = input } ∷ [] ≡ wires =
    (λ i. w.wires ++ record { path = p1 i; width = sym (sound_is x sound) i; input = input } ∷ []) ∙ sym g in
    λ i. record (state_of w o) { levels = l1 i; bits = sym h i; turns = sym l i; wires = w1 i }

provided_is : {A B : Type 0} (r : A → B → Type 0) (all : Faults) (n : A) (y : B) → Answers r (provided all n) (Ok y) → (all ≡ []) × r n y
provided_is r [] n y h = (refl, h)
provided_is r (f ∷ all) n y h = absurd h

-- the count that stands for the bits and turns
pub counted : (all : Faults) (n more : ℕ) (t : Tally) (turns : ℕ) → Answers (λ (k : ℕ) (y : Tally). (y.bits ≡ k) × (y.turns ≡ turns)) (provided all n) (Ok t) → (all ≡ []) × ((t.bits ≡ n) × (t.turns ≡ turns))
counted all n more t turns h = provided_is (λ (k : ℕ) (y : Tally). (y.bits ≡ k) × (y.turns ≡ turns)) all n t h

pub wire_added : (w v : Walker) (o p : Open) (input : Bool) (x : layouts.Layout) (d : Word) (place : Place) (bytes : Name) (u : Unit {0}) → bytes ≡ d.text → place ≡ d.place →
    Leads (m.declare_at place bytes (state_of w o)) w p (Ok u) → m.size_faults d.place (w.tally.bits + layouts.width x) ≡ [] → m.with_wire input x d.text (state_of w p) ≡ state_of v p →
    Leads (m.add_wire input x d (state_of w o)) v p (Ok tt)
wire_added w v o p input x d place bytes u a b h e g =
    let k : Leads (m.declare_at d.place d.text (state_of w o)) w p (Ok u) = subst (λ (z : Name). Leads (m.declare_at d.place z (state_of w o)) w p (Ok u)) a (subst (λ (z : Place). Leads (m.declare_at z bytes (state_of w o)) w p (Ok u)) b h) in
    after (λ (st : m.State) (y : Unit {0}). st ≡ state_of v p) (m.declare_at d.place d.text (state_of w o)) w p u (λ s. provided (m.size_faults d.place (s.bits + layouts.width x)) (m.with_wire input x d.text s)) (Ok tt) k
    (subst (λ (all : Faults). Leads (provided all (m.with_wire input x d.text (state_of w p))) v p (Ok tt)) (sym e) g)

pub wire_taken : (w v : Walker) (o p q : Open) (input : Bool) (x : layouts.Layout) (d : Word) (bytes : Name) (e : TextErr) → bytes ≡ d.text →
    Leads (m.declare_at d.place bytes (state_of w o)) w p (Err e) → Leads (m.add_wire input x d (state_of w o)) v q (Err e)
wire_taken w v o p q input x d bytes e a h =
    refused (m.declare_at d.place d.text (state_of w o)) (λ s. provided (m.size_faults d.place (s.bits + layouts.width x)) (m.with_wire input x d.text s)) w v p q e
    (subst (λ (z : Name). Leads (m.declare_at d.place z (state_of w o)) w p (Err e)) a h)

not_provided : {A B C D : Type 0} (r : A → C → Type 0) (s : B → D → Type 0) (all : Faults) (a : A) (b : B) (e : TextErr) → Answers r (provided all a) (Err e) → Answers s (provided all b) (Err e)
not_provided r s [] a b (No f) h = absurd h
not_provided r s [] a b Memory h = tt
not_provided r s (f ∷ all) a b (No g) h = h
not_provided r s (f ∷ all) a b Memory h = tt

pub wire_too_large : (w v : Walker) (o p q : Open) (input : Bool) (x : layouts.Layout) (d : Word) (bytes : Name) (n turns : ℕ) (u : Unit {0}) (e : TextErr) → bytes ≡ d.text → n ≡ layouts.width x →
    Leads (m.declare_at d.place bytes (state_of w o)) w p (Ok u) → Answers (λ (k : ℕ) (y : Tally). (y.bits ≡ k) × (y.turns ≡ turns)) (provided (m.size_faults d.place (w.tally.bits + n)) (w.tally.bits + n)) (Err e) →
    Leads (m.add_wire input x d (state_of w o)) v q (Err e)
wire_too_large w v o p q input x d bytes n turns u e a b h g =
    let k : Leads (m.declare_at d.place d.text (state_of w o)) w p (Ok u) = subst (λ (z : Name). Leads (m.declare_at d.place z (state_of w o)) w p (Ok u)) a h in
    after (λ (st : m.State) (y : Unit {0}). st ≡ state_of v q) (m.declare_at d.place d.text (state_of w o)) w p u (λ s. provided (m.size_faults d.place (s.bits + layouts.width x)) (m.with_wire input x d.text s)) (Err e) k
    (not_provided (λ (k : ℕ) (y : Tally). (y.bits ≡ k) × (y.turns ≡ turns)) (λ (st : m.State) (y : Unit {0}). st ≡ state_of v q) (m.size_faults d.place (w.tally.bits + layouts.width x)) (w.tally.bits + layouts.width x)
    (m.with_wire input x d.text (state_of w p)) e
    (subst (λ (z : ℕ). Answers (λ (k : ℕ) (y : Tally). (y.bits ≡ k) × (y.turns ≡ turns)) (provided (m.size_faults d.place (w.tally.bits + z)) (w.tally.bits + z)) (Err e)) b g))
