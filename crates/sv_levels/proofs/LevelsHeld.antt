-- A scope by its number.
use Rattle.std.proofs.Common.{◌≡◌, ℕ, zero, suc, ◌+◌, ◌-◌, ◌<◌, ◌≤◌, List, [], ◌∷◌, ◌++◌, length, map, set, get_or, slice_get, option_map, unwrap_or, Option, Some, None, Result, Ok, Err, refl, sym, ap, ◌∙◌, arith}
use Rattle.std.specs.Option.{SomeIff}
use Rattle.std.specs.Result.{IfOk, OnOk}
use Rattle.std.proofs.lemmas.List.{length-map, map-append}
use Rattle.std.proofs.lemmas.Option.{slice_get-map, slice_get_past, slice_get_read}
use Rattle.sv_names.specs.declared.layout.What.{What}
use Rattle.sv_names.specs.Kinds.{Entry, entry_is, entries_are}
use Rattle.sv_meaning.specs.Layouts.{Name}
use Rattle.sv_hierarchy.specs.Scopes as m
use Rattle.sv_levels.specs.declared.fronts.Fronts.{Fronts}
use Rattle.sv_levels.specs.declared.levels.Front.{Front}
use Rattle.sv_levels.specs.declared.levels.Level.{Level}
use Rattle.sv_levels.specs.Levels.{front_of, fronts_are, level_is}

-- what a read of a list tells
pub got : {A : Type 0} (d all : List A) (n : ℕ) (x : A) → d ≡ all → n < length d → x ≡ get_or d n x → slice_get all n ≡ Some x
got d all n x e h g = ap (λ y. slice_get y n) (sym e) ∙ slice_get_read d (length d) n x refl h g

pub not_got : {A : Type 0} (d all : List A) (n : ℕ) → d ≡ all → length d ≤ n → slice_get all n ≡ None
not_got d all n e h = ap (λ y. slice_get y n) (sym e) ∙ slice_get_past d n h

pub ok_as : {A E : Type 0} (r : Result A E) (x y : A) → IfOk r (λ z. z ≡ x) → x ≡ y → IfOk r (λ z. z ≡ y)
ok_as (Ok z) x y h e = h ∙ e
ok_as (Err w) x y h e = tt

pub done_as : {A E : Type 0} (r : Result A E) (P Q : Type 0) → (P → Q) → OnOk r P → OnOk r Q
done_as (Ok x) P Q f h = f h
done_as (Err e) P Q f h = tt

pub level_found : (list : List Level) (n : ℕ) (x : Level) → slice_get list n ≡ Some x → m.level_at (map level_is list) n ≡ level_is x
unfolding m.level_at
level_found [] n x h = cc
level_found (y ∷ list) zero x h = ap (λ o. level_is (unwrap_or o y)) h
level_found (y ∷ list) (suc n) x h = level_found list n x h

pub level_past : (list : List Level) (n : ℕ) → slice_get list n ≡ None → m.level_at (map level_is list) n ≡ m.no_level
unfolding m.level_at
level_past [] n h = refl
level_past (y ∷ list) zero h = cc
level_past (y ∷ list) (suc n) h = level_past list n h

-- one scope is another
pub level_set : (list : List Level) (n : ℕ) (x y : Level) (f : m.Level → m.Level) → slice_get list n ≡ Some x → level_is y ≡ f (level_is x) → map level_is (set list n y) ≡ m.with_level n f (map level_is list)
unfolding m.with_level
level_set [] n x y f h e = cc
level_set (z ∷ list) zero x y f h e = ap (λ u. u ∷ map level_is list) (e ∙ ap (λ o. f (level_is (unwrap_or o z))) (sym h))
level_set (z ∷ list) (suc n) x y f h e = ap (λ u. level_is z ∷ u) (level_set list n x y f h e)

pub level_missed : (list : List Level) (n : ℕ) (f : m.Level → m.Level) → slice_get list n ≡ None → map level_is list ≡ m.with_level n f (map level_is list)
unfolding m.with_level
level_missed [] n f h = refl
level_missed (z ∷ list) zero f h = cc
level_missed (z ∷ list) (suc n) f h = ap (λ u. level_is z ∷ u) (level_missed list n f h)

pub const_added : (list : List Level) (n : ℕ) (x : Level) (name : Name) (what : What) (new : List Entry) → slice_get list n ≡ Some x → new ≡ x.consts ++ (name, what) ∷ [] →
    map level_is (set list n (record x { consts = new })) ≡ m.with_level n (m.with_const (entry_is (name, what))) (map level_is list)
const_added list n x name what new h e =
    let g : entries_are new ≡ entries_are x.consts ++ entry_is (name, what) ∷ [] = ap entries_are e ∙ map-append entry_is x.consts ((name, what) ∷ []) in
    level_set list n x (record x { consts = new }) (m.with_const (entry_is (name, what))) h
    (λ k. record { path = x.path; module_number = (level_is x).module_number; parent = x.parent; around = (level_is x).around; nets = entries_are x.nets; consts = g k })

pub net_added : (list : List Level) (n : ℕ) (x : Level) (name : Name) (what : What) (new : List Entry) → slice_get list n ≡ Some x → new ≡ x.nets ++ (name, what) ∷ [] →
    map level_is (set list n (record x { nets = new })) ≡ m.with_level n (m.with_net (entry_is (name, what))) (map level_is list)
net_added list n x name what new h e =
    let g : entries_are new ≡ entries_are x.nets ++ entry_is (name, what) ∷ [] = ap entries_are e ∙ map-append entry_is x.nets ((name, what) ∷ []) in
    level_set list n x (record x { nets = new }) (m.with_net (entry_is (name, what))) h
    (λ k. record { path = x.path; module_number = (level_is x).module_number; parent = x.parent; around = (level_is x).around; nets = g k; consts = entries_are x.consts })

-- the place behind what is declared in it
pub front_found : (list : List Level) (n : ℕ) (x : Level) (i j : ℕ) → slice_get list n ≡ Some x → i ≡ length x.nets → j ≡ length x.consts →
    ◌≡◌ {A = m.Front} (record { level = n; nets = i; consts = j }) (front_of (map level_is list) n)
front_found list n x i j h a b =
    let e : i ≡ length (m.level_at (map level_is list) n).nets = a ∙ sym (length-map x.nets entry_is) ∙ sym (ap (λ (y : m.Level). length y.nets) (level_found list n x h)) in
    let g : j ≡ length (m.level_at (map level_is list) n).consts = b ∙ sym (length-map x.consts entry_is) ∙ sym (ap (λ (y : m.Level). length y.consts) (level_found list n x h)) in
    λ k. record { level = n; nets = e k; consts = g k }

pub front_past : (list : List Level) (n : ℕ) → slice_get list n ≡ None → ◌≡◌ {A = m.Front} (record { level = n; nets = 0; consts = 0 }) (front_of (map level_is list) n)
front_past list n h =
    λ k. record { level = n; nets = ap (λ (y : m.Level). length y.nets) (sym (level_past list n h)) k; consts = ap (λ (y : m.Level). length y.consts) (sym (level_past list n h)) k }

-- the places around a block that is begun in it
pub around_found : (list : List Level) (n : ℕ) (x : Level) (f : m.Front) → slice_get list n ≡ Some x → f ≡ front_of (map level_is list) n →
    fronts_are x.around ++ f ∷ [] ≡ m.fronts_at (map level_is list) (front_of (map level_is list) n)
around_found list n x f h e = λ i. (sym (level_found list n x h) i).around ++ e i ∷ []

pub around_past : (list : List Level) (n : ℕ) (none : Fronts) (f : m.Front) → slice_get list n ≡ None → fronts_are none ≡ [] → f ≡ front_of (map level_is list) n →
    fronts_are none ++ f ∷ [] ≡ m.fronts_at (map level_is list) (front_of (map level_is list) n)
around_past list n none f h g e = λ i. (g ∙ sym (ap (λ (y : m.Level). y.around) (level_past list n h))) i ++ e i ∷ []

-- ---- instances and blocks

shown : (base : ℕ) (all rest : List m.Level) (n : ℕ) (x : m.Level) → slice_get rest n ≡ Some x →
    slice_get (m.instances_from base all rest) n ≡ Some (record { path = x.path; module_number = x.module_number; parent = m.instance_number x.parent; scope = m.live_at all (m.end_of_level (base + n) x) })
unfolding m.instances_from
shown base all [] n x h = cc
shown base all (y ∷ rest) zero x h =
    let e : base ≡ base + 0 = omega arith in
    ap (λ (o : Option m.Level). Some (record { path = (unwrap_or o y).path; module_number = (unwrap_or o y).module_number; parent = m.instance_number (unwrap_or o y).parent; scope = m.live_at all (m.end_of_level base (unwrap_or o y)) })) h
    ∙ ap (λ (i : ℕ). Some (record { path = x.path; module_number = x.module_number; parent = m.instance_number x.parent; scope = m.live_at all (m.end_of_level i x) })) e
shown base all (y ∷ rest) (suc n) x h =
    let e : suc base + n ≡ base + suc n = omega arith in
    shown (suc base) all rest n x h ∙ ap (λ (i : ℕ). Some (record { path = x.path; module_number = x.module_number; parent = m.instance_number x.parent; scope = m.live_at all (m.end_of_level i x) })) e

past : (base : ℕ) (all rest : List m.Level) (n : ℕ) → slice_get rest n ≡ None → slice_get (m.instances_from base all rest) n ≡ None
unfolding m.instances_from
past base all [] n h = refl
past base all (y ∷ rest) zero h = cc
past base all (y ∷ rest) (suc n) h = past (suc base) all rest n h

behind_get : (all : List m.Level) (n : ℕ) → slice_get (m.behind all) n ≡ slice_get all (suc n)
behind_get [] n = refl
behind_get (x ∷ all) n = refl

pub parent_is : (o : Option ℕ) (p : ℕ) → SomeIff o (1 ≤ p) (p - 1) → o ≡ m.instance_number p
parent_is None zero h = refl
parent_is None (suc p) h = absurd (h (omega arith))
parent_is (Some y) zero h = let z : 1 ≤ zero = h.0 in absurd (omega arith)
parent_is (Some y) (suc p) h = let e : y ≡ p = omega (arith, h.1) in ap Some e

pub instance_past : (list : List Level) (n k : ℕ) → k ≡ n + 1 → slice_get list k ≡ None → slice_get (m.instances_from 1 (map level_is list) (m.behind (map level_is list))) n ≡ None
instance_past list n k e h =
    let i : suc n ≡ k = omega arith in
    past 1 (map level_is list) (m.behind (map level_is list)) n (behind_get (map level_is list) n ∙ ap (slice_get (map level_is list)) i ∙ slice_get-map level_is list k ∙ ap (option_map level_is) h)

pub instance_shown : (list : List Level) (n k : ℕ) (x : Level) (o : Option ℕ) (i j : ℕ) → k ≡ n + 1 → slice_get list k ≡ Some x → o ≡ m.instance_number x.parent → i ≡ length x.nets → j ≡ length x.consts →
    slice_get (m.instances_from 1 (map level_is list) (m.behind (map level_is list))) n
    ≡ Some (record { path = x.path; module_number = (level_is x).module_number; parent = o; scope = m.live_at (map level_is list) (record { level = k; nets = i; consts = j }) })
instance_shown list n k x o i j e h a b c =
    let p : suc n ≡ k = omega arith in
    let q : 1 + n ≡ k = omega arith in
    shown 1 (map level_is list) (m.behind (map level_is list)) n (level_is x) (behind_get (map level_is list) n ∙ ap (slice_get (map level_is list)) p ∙ slice_get-map level_is list k ∙ ap (option_map level_is) h)
    ∙ (λ t. Some (record {
      path = x.path;
      module_number = (level_is x).module_number;
      parent = sym a t;
      scope = m.live_at (map level_is list) (record { level = q t; nets = (length-map x.nets entry_is ∙ sym b) t; consts = (length-map x.consts entry_is ∙ sym c) t });
    }))

-- a front that a loop goes through
pub same_front : (all : List Front) (i : ℕ) (d e : Front) → i < length all → get_or all i d ≡ get_or all i e
same_front [] i d e h = absurd (omega arith)
same_front (x ∷ all) zero d e h = refl
same_front (x ∷ all) (suc i) d e h = same_front all i d e (omega arith)
