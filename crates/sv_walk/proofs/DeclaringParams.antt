-- Parameters, and the entries of a module's list.
use Rattle.std.proofs.Common.{◌≡◌, ℕ, ◌+◌, ◌<◌, ◌≤◌, List, ◌∷◌, length, map, drop, get_or, Option, Result, Ok, Err, refl, sym, ap, ◌∙◌, subst}
use Rattle.std.specs.Result.{IsErrAnd}
use Rattle.sv_outside.specs.declared.refusal.TextErr.{TextErr}
use Rattle.sv_tree.specs.declared.word.Word.{Word}
use Rattle.sv_tree.specs.declared.exprs.Expr.{Expr}
use Rattle.sv_tree.specs.declared.design.ParamWord.{ParamWord}
use Rattle.sv_tree.specs.declared.design.Param.{Param}
use Rattle.sv_tree.specs.declared.design.ParPort.{ParPort}
use Rattle.sv_meaning.specs.Faults.{Judged, ◌>>=◌}
use Rattle.sv_meaning.specs.Layouts as layouts
use Rattle.sv_meaning.specs.Layouts.{Name}
use Rattle.sv_meaning.specs.Params.{ParamKind, param_kind, value_as}
use Rattle.sv_names.specs.declared.layout.Known.{Known}
use Rattle.sv_types.specs.Types.{Refused}
use Rattle.sv_types.specs.Values.{JudgesValue}
use Rattle.sv_modules.proofs.Turns.{drop_next, drop_none}
use Rattle.sv_hierarchy.specs.Scopes as m
use Rattle.sv_walk.specs.declared.walker.Walker.{Walker}
use Rattle.sv_walk.specs.declared.walker.Open.{Open}
use Rattle.sv_levels.specs.declared.tasks.Given.{Given}
use Rattle.sv_levels.specs.declared.levels.Front.{Front}
use Rattle.sv_levels.specs.Levels.{front_is, levels_are}
use Rattle.sv_levels.specs.Tasks.{given_is}
use Rattle.sv_walk.specs.Walks.{state_of}
use Rattle.sv_walk.proofs.Declaring.{Leads, led, leads, refused, refused_then, refused_by}

-- ---- a parameter

pub param_added : (j : Judged layouts.What) (x y : layouts.What) (d : Word) (st : m.State) (w : Walker) (o : Open) (q : Result (Unit {0}) TextErr) → j ≡ Ok x → x ≡ y → Leads (m.add_constant (d, y) st) w o q →
    Leads (j >>= λ v. m.add_constant (d, v) st) w o q
param_added j x y d st w o q h i g = subst (λ (k : Judged layouts.What). Leads (k >>= λ v. m.add_constant (d, v) st) w o q) (sym (h ∙ ap Ok i)) g

pub kind_refused : (j : Judged ParamKind) (f : ParamKind → Judged m.State) (w : Walker) (o : Open) (q : Result (Unit {0}) TextErr) (e : TextErr) → IsErrAnd q (λ y. y ≡ e) → Refused j e → Leads (j >>= f) w o q
kind_refused j f w o (Ok u) e i h = absurd i
kind_refused j f w o (Err y) e i h =
    subst (λ z. Leads (j >>= f) w o (Err z)) (sym i)
    (refused_then (λ (x : ParamKind) (u : Unit {0}). Unit {0}) (λ (s : m.State) (u : Unit {0}). s ≡ state_of w o) j f e (refused_by (λ (x : ParamKind) (u : Unit {0}). Unit {0}) j e h))

pub param_refused : (j : Judged layouts.What) (d : Word) (st : m.State) (w : Walker) (o : Open) (q : Result (Unit {0}) TextErr) (e : TextErr) → IsErrAnd q (λ y. y ≡ e) → Refused j e → Leads (j >>= λ v. m.add_constant (d, v) st) w o q
param_refused j d st w o (Ok u) e i h = absurd i
param_refused j d st w o (Err y) e i h =
    subst (λ z. Leads (j >>= λ v. m.add_constant (d, v) st) w o (Err z)) (sym i)
    (refused_then (λ (x : layouts.What) (u : Unit {0}). Unit {0}) (λ (s : m.State) (u : Unit {0}). s ≡ state_of w o) j (λ v. m.add_constant (d, v) st) e (refused_by (λ (x : layouts.What) (u : Unit {0}). Unit {0}) j e h))

-- ---- the parameters of a declaration

pub params_walked : (j : Judged ParamKind) (k : ParamKind) (d : Param) (st : m.State) → j ≡ param_kind (m.seen st) d.form → j ≡ Ok k → m.add_params d st ≡ m.walk_all (m.add_param_item d.word k) d.list st
params_walked j k d st e h = ap (λ (z : Judged ParamKind). z >>= λ x. m.walk_all (m.add_param_item d.word x) d.list st) (sym e ∙ h)

-- ---- a module's list

header_more : (w : ParamWord) (k : ParamKind) (p : ParPort) (more : List ParPort) (st : m.State) → m.header_params w k (p ∷ more) st ≡ (m.kind_or p.word p.form k (m.seen st) >>= λ j. m.add_param (m.word_or p.word w) j p.name p.value st >>= m.header_params (m.word_or p.word w) j more)
unfolding m.header_params
header_more w k p more st = refl

header_step : (w v : ParamWord) (k l : ParamKind) (all : List ParPort) (i : ℕ) (p : ParPort) (st : m.State) → i < length all → p ≡ get_or all i p → v ≡ m.word_or p.word w → m.kind_or p.word p.form k (m.seen st) ≡ Ok l →
    m.header_params w k (drop i all) st ≡ (m.add_param v l p.name p.value st >>= m.header_params v l (drop (i + 1) all))
header_step w v k l all i p st h e a b =
    ap (λ (xs : List ParPort). m.header_params w k xs st) (drop_next all i p h e) ∙ header_more w k p (drop (i + 1) all) st
    ∙ ap (λ (j : Judged ParamKind). j >>= λ x. m.add_param (m.word_or p.word w) x p.name p.value st >>= m.header_params (m.word_or p.word w) x (drop (i + 1) all)) b
    ∙ ap (λ (x : ParamWord). m.add_param x l p.name p.value st >>= m.header_params x l (drop (i + 1) all)) (sym a)

pub header_walked : (w v : ParamWord) (k l : ParamKind) (all : List ParPort) (i : ℕ) (p : ParPort) (j : Judged m.State) (x y : Walker) (o q : Open) (u : Unit {0}) → i < length all → p ≡ get_or all i p → v ≡ m.word_or p.word w → m.kind_or p.word p.form k (m.seen (state_of x o)) ≡ Ok l →
    j ≡ m.header_params w k (drop i all) (state_of x o) → Leads (m.add_param v l p.name p.value (state_of x o)) y q (Ok u) → j ≡ m.header_params v l (drop (i + 1) all) (state_of y q)
header_walked w v k l all i p j x y o q u h e a b s g =
    s ∙ header_step w v k l all i p (state_of x o) h e a b ∙ ap (λ z. z >>= m.header_params v l (drop (i + 1) all)) (led (m.add_param v l p.name p.value (state_of x o)) y q u g)

pub header_refused : (w v : ParamWord) (k l : ParamKind) (all : List ParPort) (i : ℕ) (p : ParPort) (j : Judged m.State) (x y : Walker) (o q : Open) (e : TextErr) → i < length all → p ≡ get_or all i p → v ≡ m.word_or p.word w → m.kind_or p.word p.form k (m.seen (state_of x o)) ≡ Ok l →
    j ≡ m.header_params w k (drop i all) (state_of x o) → Leads (m.add_param v l p.name p.value (state_of x o)) y q (Err e) → Leads j y q (Err e)
header_refused w v k l all i p j x y o q e h g a b s r =
    subst (λ z. Leads z y q (Err e)) (sym (s ∙ header_step w v k l all i p (state_of x o) h g a b))
    (refused (m.add_param v l p.name p.value (state_of x o)) (m.header_params v l (drop (i + 1) all)) y y q q e r)

-- an entry whose type is refused
pub header_untyped : (w : ParamWord) (k : ParamKind) (all : List ParPort) (i : ℕ) (p : ParPort) (j : Judged m.State) (x : Walker) (o : Open) (q : Result (Unit {0}) TextErr) (e : TextErr) → i < length all → p ≡ get_or all i p → j ≡ m.header_params w k (drop i all) (state_of x o) →
    IsErrAnd q (λ y. y ≡ e) → Refused (m.kind_or p.word p.form k (m.seen (state_of x o))) e → Leads j x o q
header_untyped w k all i p j x o q e h g s r f =
    subst (λ z. Leads z x o q) (sym (s ∙ ap (λ (xs : List ParPort). m.header_params w k xs (state_of x o)) (drop_next all i p h g) ∙ header_more w k p (drop (i + 1) all) (state_of x o)))
    (kind_refused (m.kind_or p.word p.form k (m.seen (state_of x o))) (λ l. m.add_param (m.word_or p.word w) l p.name p.value (state_of x o) >>= m.header_params (m.word_or p.word w) l (drop (i + 1) all)) x o q e r f)

pub header_end : (w : ParamWord) (k : ParamKind) (all : List ParPort) (i : ℕ) (j : Judged m.State) (x : Walker) (o : Open) (u : Unit {0}) → length all ≤ i → j ≡ m.header_params w k (drop i all) (state_of x o) → Leads j x o (Ok u)
unfolding m.header_params
header_end w k all i j x o u l s = leads j x o u (s ∙ ap (λ (xs : List ParPort). m.header_params w k xs (state_of x o)) (drop_none all i l))

-- the value by what is declared above
pub value_is : (w : Walker) (o : Open) (k : ParamKind) (word : ParamWord) (name : Word) (value : Expr) (at : Front) (own given : Given) (r : Result Known TextErr) →
    JudgesValue (value_as k (m.meant (levels_are w.levels) (given_is given))) r → front_is at ≡ m.here (state_of w o) →
    given_is own ≡ record { name = name.text; at = m.here (state_of w o); value = value } →
    given_is given ≡ m.given_or (given_is own).name (m.overriding word (map given_is o.overridden.list.items)) (given_is own) →
    JudgesValue (value_as k (m.meant (levels_are w.levels) (m.given_to word name value (state_of w o)))) r
value_is w o k word name value at own given r h e a b =
    let g : given_is given ≡ m.given_to word name value (state_of w o) = b ∙ ap (λ (z : m.Given). m.given_or z.name (m.overriding word (map given_is o.overridden.list.items)) z) a in
    subst (λ (x : m.Given). JudgesValue (value_as k (m.meant (levels_are w.levels) x)) r) g h
