-- What fronts of scopes give, one front after the other.
use Rattle.std.proofs.Common.{◌≡◌, ℕ, ◌+◌, ◌<◌, ◌≤◌, List, [], ◌∷◌, ◌++◌, length, map, take, get_or, slice_get, Some, None, sym, ap, ◌∙◌, append_assoc, arith}
use Rattle.std.proofs.lemmas.List.{append-nil, map-append, take-map, take_all}
use Rattle.std.proofs.Math.Seq.{take-nil}
use Rattle.sv_names.specs.declared.names.Names.{Names}
use Rattle.sv_names.specs.Kinds.{Entry, entry_is, entries_are}
use Rattle.sv_names.specs.declared.names.Frame.{Frame}
use Rattle.sv_names.specs.Names.{fronts, fronts_above, stack_of, frames_of, above_of, loops_of, names_are}
use Rattle.sv_meaning.specs.Layouts.{scope_of, Entry as Named}
use Rattle.sv_modules.proofs.Turns.{map_next}
use Rattle.sv_hierarchy.specs.Scopes as m
use Rattle.sv_levels.specs.declared.levels.Front.{Front}
use Rattle.sv_levels.specs.declared.levels.Level.{Level}
use Rattle.sv_levels.specs.Levels.{front_is, level_is, live_frames, live_scope, seen_frames}
use Rattle.sv_levels.proofs.LevelsHeld.{level_found, level_past}

-- the first nets and the first constants of a scope
abbrev pub part : m.Level → ℕ → ℕ → List Named
part x nets consts = take nets x.nets ++ take consts x.consts

pub entered : (levels : List Level) (n nets consts : ℕ) (x : Level) (a b c : List Entry) → slice_get levels n ≡ Some x → b ≡ a ++ take nets x.nets → c ≡ b ++ take consts x.consts →
    entries_are c ≡ entries_are a ++ part (m.level_at (map level_is levels) n) nets consts
entered levels n nets consts x a b c h i j =
    ap entries_are (j ∙ ap (λ y. y ++ take consts x.consts) i ∙ append_assoc a (take nets x.nets) (take consts x.consts))
    ∙ map-append entry_is a (take nets x.nets ++ take consts x.consts)
    ∙ ap (λ y. entries_are a ++ y) (map-append entry_is (take nets x.nets) (take consts x.consts) ∙ (λ k. sym (take-map entry_is nets x.nets) k ++ sym (take-map entry_is consts x.consts) k))
    ∙ ap (λ (y : m.Level). entries_are a ++ part y nets consts) (sym (level_found levels n x h))

pub not_entered : (levels : List Level) (n nets consts : ℕ) (a : List Entry) → slice_get levels n ≡ None → entries_are a ≡ entries_are a ++ part (m.level_at (map level_is levels) n) nets consts
not_entered levels n nets consts a h =
    sym (append-nil (entries_are a)) ∙ ap (λ y. entries_are a ++ y) (λ k. sym (take-nil nets) k ++ sym (take-nil consts) k)
    ∙ ap (λ (y : m.Level). entries_are a ++ part y nets consts) (sym (level_past levels n h))

-- ---- one front more

seen_append : (all : List m.Level) (a : List m.Front) (f : m.Front) → m.seen_along all (a ++ f ∷ []) ≡ m.seen_along all a ++ part (m.level_at all f.level) f.nets f.consts
unfolding m.seen_along
seen_append all [] f = append-nil (part (m.level_at all f.level) f.nets f.consts)
seen_append all (g ∷ a) f = ap (λ x. part (m.level_at all g.level) g.nets g.consts ++ x) (seen_append all a f)
    ∙ sym (append_assoc (part (m.level_at all g.level) g.nets g.consts) (m.seen_along all a) (part (m.level_at all f.level) f.nets f.consts))

live_append : (all : List m.Level) (a : List m.Front) (f : m.Front) → m.live_along all (a ++ f ∷ []) ≡ m.live_along all a ++ ((m.level_at all f.level).nets ++ take f.consts (m.level_at all f.level).consts)
unfolding m.live_along
live_append all [] f = append-nil ((m.level_at all f.level).nets ++ take f.consts (m.level_at all f.level).consts)
live_append all (g ∷ a) f = ap (λ x. ((m.level_at all g.level).nets ++ take g.consts (m.level_at all g.level).consts) ++ x) (live_append all a f)
    ∙ sym (append_assoc ((m.level_at all g.level).nets ++ take g.consts (m.level_at all g.level).consts) (m.live_along all a) ((m.level_at all f.level).nets ++ take f.consts (m.level_at all f.level).consts))

pub seen_next : (all : List m.Level) (fronts : List Front) (i : ℕ) (f : Front) (a b : List Named) → i < length fronts → f ≡ get_or fronts i f → a ≡ seen_frames all (take i fronts) →
    b ≡ a ++ part (m.level_at all f.level) f.nets f.consts → b ≡ seen_frames all (take (i + 1) fronts)
seen_next all fronts i f a b h e p q =
    q ∙ ap (λ x. x ++ part (m.level_at all f.level) f.nets f.consts) p
    ∙ sym (ap (m.seen_along all) (map_next front_is fronts i f h e) ∙ seen_append all (map front_is (take i fronts)) (front_is f))

pub live_next : (all : List m.Level) (fronts : List Front) (i n : ℕ) (f : Front) (a b : List Named) → i < length fronts → f ≡ get_or fronts i f → n ≡ length (m.level_at all f.level).nets → a ≡ live_frames all (take i fronts) →
    b ≡ a ++ part (m.level_at all f.level) n f.consts → b ≡ live_frames all (take (i + 1) fronts)
live_next all fronts i n f a b h e k p q =
    q ∙ ap (λ x. a ++ (x ++ take f.consts (m.level_at all f.level).consts)) (take_all n (m.level_at all f.level).nets (omega arith))
    ∙ ap (λ x. x ++ ((m.level_at all f.level).nets ++ take f.consts (m.level_at all f.level).consts)) p
    ∙ sym (ap (m.live_along all) (map_next front_is fronts i f h e) ∙ live_append all (map front_is (take i fronts)) (front_is f))

-- no fronts
pub none_seen : (all : List m.Level) (stack : List Frame) → stack ≡ [] → entries_are (fronts stack) ≡ seen_frames all []
unfolding m.seen_along fronts
none_seen all stack h = ap (λ (x : List Frame). entries_are (fronts x)) h

pub none_live : (all : List m.Level) (stack : List Frame) → stack ≡ [] → entries_are (fronts stack) ≡ live_frames all []
unfolding m.live_along fronts
none_live all stack h = ap (λ (x : List Frame). entries_are (fronts x)) h

pub none_above : (all : List m.Level) (stack : List Frame) → stack ≡ [] → entries_are (fronts_above stack) ≡ seen_frames all []
unfolding m.seen_along fronts_above
none_above all stack h = ap (λ (x : List Frame). entries_are (fronts_above x)) h

-- all fronts, and no loops
without_loops : (a l : List Entry) (b : List Named) → l ≡ [] → entries_are a ≡ b → entries_are (a ++ l) ≡ b
without_loops a l b e p = ap (λ (x : List Entry). entries_are (a ++ x)) e ∙ ap entries_are (append-nil a) ∙ p

pub all_seen : (names : Names) (all : List m.Level) (fronts : List Front) (i : ℕ) → length fronts ≤ i → entries_are (frames_of names) ≡ seen_frames all (take i fronts) →
    entries_are (above_of names) ≡ seen_frames all (take i fronts) → loops_of names ≡ [] → names_are names ≡ scope_of (seen_frames all fronts)
all_seen names all fronts i h p q r =
    let e = ap (seen_frames all) (take_all i fronts h) in
    let a = without_loops (frames_of names) (loops_of names) (seen_frames all fronts) r (p ∙ e) in
    let b = without_loops (above_of names) (loops_of names) (seen_frames all fronts) r (q ∙ e) in
    λ k. record { all = a k; above = b k }

pub all_live : (names : Names) (all : List m.Level) (fronts : List Front) (i : ℕ) → length fronts ≤ i → entries_are (frames_of names) ≡ live_frames all (take i fronts) →
    entries_are (above_of names) ≡ seen_frames all (take i fronts) → loops_of names ≡ [] → names_are names ≡ live_scope all fronts
all_live names all fronts i h p q r =
    let a = without_loops (frames_of names) (loops_of names) (live_frames all fronts) r (p ∙ ap (live_frames all) (take_all i fronts h)) in
    let b = without_loops (above_of names) (loops_of names) (seen_frames all fronts) r (q ∙ ap (seen_frames all) (take_all i fronts h)) in
    λ k. record { all = a k; above = b k }
