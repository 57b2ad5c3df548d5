-- The last declaration of a name, from the end; and members, from the front.
use Rattle.std.proofs.Common.{◌≡◌, ℕ, zero, suc, ◌<◌, ◌≤◌, Bool, true, false, List, [], ◌∷◌, ◌++◌, length, take, drop, get_or, bytes_eq, Option, Some, None, refl, sym, ap, ◌∙◌, append_assoc, arith, if◌then◌else◌}
use Rattle.std.proofs.lemmas.List.{map-append, take_all, append-nil}
use Rattle.std.proofs.Math.Seq.{take-suc, drop-cons, drop-nil}
use Rattle.sv_names.specs.declared.layout.Field.{Field}
use Rattle.sv_names.specs.declared.names.Frame.{Frame}
use Rattle.sv_names.specs.Names.{fronts, fronts_above}
use Rattle.sv_names.specs.Kinds.{Entry, entry_is, entries_are, what_is, members_of, layout_is}
use Rattle.sv_meaning.specs.Layouts as m

or_chosen : (b : Bool) (e : m.What) (o : Option m.What) (d : Option m.What) → m.or_else (if b then Some e else o) d ≡ (if b then Some e else m.or_else o d)
or_chosen true e o d = refl
or_chosen false e o d = refl

find_push : (n : List ℕ) (all : List m.Entry) (e : m.Name × m.What) → m.last_of n (all ++ e ∷ []) ≡ (if bytes_eq e.0 n then Some e.1 else m.last_of n all)
unfolding m.last_of
find_push n [] e = refl
find_push n (d ∷ all) e = ap (λ o. m.or_else o (if bytes_eq d.0 n then Some d.1 else None)) (find_push n all e) ∙ or_chosen (bytes_eq e.0 n) e.1 (m.last_of n all) _

-- what the last of the first entries adds
pub find_last : (n : List ℕ) (all : List Entry) (k j : ℕ) (e : Entry) → j < length all → k ≡ suc j → e ≡ get_or all j e →
    m.last_of n (entries_are (take k all)) ≡ (if bytes_eq e.0 n then Some (what_is e.1) else m.last_of n (entries_are (take j all)))
find_last n all k j e h i g =
    let t : take k all ≡ take j all ++ e ∷ [] = ap (λ (x : ℕ). take x all) i ∙ take-suc all j e h ∙ ap (λ (x : Entry). take j all ++ x ∷ []) (sym g) in
    ap (λ (x : List Entry). m.last_of n (entries_are x)) t ∙ ap (m.last_of n) (map-append entry_is (take j all) (e ∷ [])) ∙ find_push n (entries_are (take j all)) (entry_is e)

or_twice : (a b c : Option m.What) → m.or_else (m.or_else a b) c ≡ m.or_else a (m.or_else b c)
or_twice None b c = refl
or_twice (Some x) b c = refl

or_none : (o : Option m.What) → o ≡ m.or_else o None
or_none None = refl
or_none (Some x) = refl

find_append : (n : List ℕ) (a b : List m.Entry) → m.last_of n (a ++ b) ≡ m.or_else (m.last_of n b) (m.last_of n a)
unfolding m.last_of
find_append n [] b = or_none (m.last_of n b)
find_append n (e ∷ a) b = ap (λ o. m.or_else o (if bytes_eq e.0 n then Some e.1 else None)) (find_append n a b) ∙ or_twice (m.last_of n b) (m.last_of n a) _

find_both : (n : List ℕ) (a b : List Entry) → m.last_of n (entries_are (a ++ b)) ≡ m.or_else (m.last_of n (entries_are b)) (m.last_of n (entries_are a))
find_both n a b = ap (m.last_of n) (map-append entry_is a b) ∙ find_append n (entries_are a) (entries_are b)

-- a variable of a loop, or else a name of the scope
pub found_above : (n : List ℕ) (a b : List Entry) (k : ℕ) (w : m.What) → k ≡ length b → Some w ≡ m.last_of n (entries_are (take k b)) → Some w ≡ m.last_of n (entries_are (a ++ b))
found_above n a b k w i h =
    let t : take k b ≡ b = take_all k b (omega arith) in
    let g : Some w ≡ m.last_of n (entries_are b) = h ∙ ap (λ (x : List Entry). m.last_of n (entries_are x)) t in
    ap (λ o. m.or_else o (m.last_of n (entries_are a))) g ∙ sym (find_both n a b)

pub found_below : (n : List ℕ) (a b : List Entry) (k : ℕ) (o : Option m.What) → k ≡ length b → None ≡ m.last_of n (entries_are (take k b)) → o ≡ m.last_of n (entries_are a) → o ≡ m.last_of n (entries_are (a ++ b))
found_below n a b k o i h j =
    let t : take k b ≡ b = take_all k b (omega arith) in
    let g : None ≡ m.last_of n (entries_are b) = h ∙ ap (λ (x : List Entry). m.last_of n (entries_are x)) t in
    j ∙ ap (λ x. m.or_else x (m.last_of n (entries_are a))) g ∙ sym (find_both n a b)

pub nothing_above : (a b : List Entry) → b ≡ [] → a ++ b ≡ a
nothing_above a b h = ap (λ x. a ++ x) h ∙ append-nil a

pub one_above : (a b c : List Entry) (e : Entry) → c ≡ b ++ e ∷ [] → a ++ c ≡ (a ++ b) ++ e ∷ []
one_above a b c e h = ap (λ x. a ++ x) h ∙ sym (append_assoc a b (e ∷ []))

-- ---- members

pub members_from : (all : List Field) (i : ℕ) (f : Field) → i < length all → f ≡ get_or all i f →
    members_of (drop i all) ≡ m.member f.name (layout_is f.layout) (members_of (drop (suc i) all))
members_from all i f h g = ap members_of (drop-cons all i f h) ∙ ap (λ (x : Field). members_of (x ∷ drop (suc i) all)) (sym g)

pub drop_all : (all : List Field) (i : ℕ) → length all ≤ i → members_of (drop i all) ≡ m.no_members
drop_all [] i h = ap members_of (drop-nil i)
drop_all (f ∷ all) zero h = absurd (omega arith)
drop_all (f ∷ all) (suc i) h = drop_all all i (omega arith)

pub in_here : (n : List ℕ) (x : m.Name) (t : m.Layout) (all : m.Members) → bytes_eq x n ≡ true → m.member_in n (m.member x t all) ≡ Some (m.width_all all, t)
unfolding m.member_in
in_here n x t all h = ap (λ b. if b then Some (m.width_all all, t) else m.member_in n all) h

pub in_rest : (n : List ℕ) (x : m.Name) (t : m.Layout) (all : m.Members) → bytes_eq x n ≡ false → m.member_in n (m.member x t all) ≡ m.member_in n all
unfolding m.member_in
in_rest n x t all h = ap (λ b. if b then Some (m.width_all all, t) else m.member_in n all) h

-- ---- fronts of scopes, and the parts of them above a place

-- one frame more
joined_append : (front : Frame → List Entry) (join : List Frame → List Entry) → join [] ≡ [] → ((f : Frame) (more : List Frame) → join (f ∷ more) ≡ front f ++ join more)
    → (a : List Frame) (f : Frame) → join (a ++ f ∷ []) ≡ join a ++ front f
joined_append front join none more [] f = more f [] ∙ ap (λ x. front f ++ x) none ∙ append-nil (front f) ∙ ap (λ x. x ++ front f) (sym none)
joined_append front join none more (g ∷ a) f =
    more g (a ++ f ∷ []) ∙ ap (λ x. front g ++ x) (joined_append front join none more a f) ∙ sym (append_assoc (front g) (join a) (front f)) ∙ ap (λ x. x ++ front f) (sym (more g a))

pub no_frames : fronts [] ≡ []
unfolding fronts
no_frames = refl

pub no_frames_above : fronts_above [] ≡ []
unfolding fronts_above
no_frames_above = refl

more_frames : (f : Frame) (more : List Frame) → fronts (f ∷ more) ≡ take f.len f.scope.now ++ fronts more
unfolding fronts
more_frames f more = refl

more_frames_above : (f : Frame) (more : List Frame) → fronts_above (f ∷ more) ≡ take f.above f.scope.now ++ fronts_above more
unfolding fronts_above
more_frames_above f more = refl

pub one_frame : (a : List Frame) (f : Frame) → fronts (a ++ f ∷ []) ≡ fronts a ++ take f.len f.scope.now
one_frame = joined_append (λ f. take f.len f.scope.now) fronts no_frames more_frames

pub one_frame_above : (a : List Frame) (f : Frame) → fronts_above (a ++ f ∷ []) ≡ fronts_above a ++ take f.above f.scope.now
one_frame_above = joined_append (λ f. take f.above f.scope.now) fronts_above no_frames_above more_frames_above

-- ---- what the last of the first frames adds

-- the last entry of a name in a frame and those before it
behind_frame : (n : List ℕ) (front : Frame → List Entry) (join : List Frame → List Entry) → ((a : List Frame) (f : Frame) → join (a ++ f ∷ []) ≡ join a ++ front f)
    → (all : List Frame) (k j : ℕ) (f : Frame) → j < length all → k ≡ suc j → f ≡ get_or all j f
    → m.last_of n (entries_are (join (take k all))) ≡ m.or_else (m.last_of n (entries_are (front f))) (m.last_of n (entries_are (join (take j all))))
behind_frame n front join one all k j f h i g =
    let t : take k all ≡ take j all ++ f ∷ [] = ap (λ (x : ℕ). take x all) i ∙ take-suc all j f h ∙ ap (λ (x : Frame). take j all ++ x ∷ []) (sym g) in
    ap (λ (x : List Frame). m.last_of n (entries_are (join x))) t ∙ ap (λ (x : List Entry). m.last_of n (entries_are x)) (one (take j all) f) ∙ find_both n (join (take j all)) (front f)

pub found_frame : (n : List ℕ) (all : List Frame) (k j : ℕ) (f : Frame) (w : m.What) (x : Option m.What) → j < length all → k ≡ suc j → f ≡ get_or all j f →
    Some w ≡ m.last_of n (entries_are (take f.len f.scope.now)) → m.last_of n (entries_are (fronts (take k all))) ≡ x → Some w ≡ x
found_frame n all k j f w x h i g e z =
    ap (λ o. m.or_else o (m.last_of n (entries_are (fronts (take j all))))) e ∙ sym (behind_frame n (λ x. take x.len x.scope.now) fronts one_frame all k j f h i g) ∙ z

pub passed_frame : (n : List ℕ) (all : List Frame) (k j : ℕ) (f : Frame) (x : Option m.What) → j < length all → k ≡ suc j → f ≡ get_or all j f →
    None ≡ m.last_of n (entries_are (take f.len f.scope.now)) → m.last_of n (entries_are (fronts (take k all))) ≡ x → m.last_of n (entries_are (fronts (take j all))) ≡ x
passed_frame n all k j f x h i g e z =
    ap (λ o. m.or_else o (m.last_of n (entries_are (fronts (take j all))))) e ∙ sym (behind_frame n (λ x. take x.len x.scope.now) fronts one_frame all k j f h i g) ∙ z

pub no_frame : (n : List ℕ) (all : List Frame) (k : ℕ) (x : Option m.What) → k ≡ 0 → m.last_of n (entries_are (fronts (take k all))) ≡ x → None ≡ x
unfolding m.last_of fronts
no_frame n all k x h z = ap (λ (i : ℕ). m.last_of n (entries_are (fronts (take i all)))) (sym h) ∙ z

pub found_frame_above : (n : List ℕ) (all : List Frame) (k j : ℕ) (f : Frame) (w : m.What) (x : Option m.What) → j < length all → k ≡ suc j → f ≡ get_or all j f →
    Some w ≡ m.last_of n (entries_are (take f.above f.scope.now)) → m.last_of n (entries_are (fronts_above (take k all))) ≡ x → Some w ≡ x
found_frame_above n all k j f w x h i g e z =
    ap (λ o. m.or_else o (m.last_of n (entries_are (fronts_above (take j all))))) e ∙ sym (behind_frame n (λ x. take x.above x.scope.now) fronts_above one_frame_above all k j f h i g) ∙ z

pub passed_frame_above : (n : List ℕ) (all : List Frame) (k j : ℕ) (f : Frame) (x : Option m.What) → j < length all → k ≡ suc j → f ≡ get_or all j f →
    None ≡ m.last_of n (entries_are (take f.above f.scope.now)) → m.last_of n (entries_are (fronts_above (take k all))) ≡ x → m.last_of n (entries_are (fronts_above (take j all))) ≡ x
passed_frame_above n all k j f x h i g e z =
    ap (λ o. m.or_else o (m.last_of n (entries_are (fronts_above (take j all))))) e ∙ sym (behind_frame n (λ x. take x.above x.scope.now) fronts_above one_frame_above all k j f h i g) ∙ z

pub no_frame_above : (n : List ℕ) (all : List Frame) (k : ℕ) (x : Option m.What) → k ≡ 0 → m.last_of n (entries_are (fronts_above (take k all))) ≡ x → None ≡ x
unfolding m.last_of fronts_above
no_frame_above n all k x h z = ap (λ (i : ℕ). m.last_of n (entries_are (fronts_above (take i all)))) (sym h) ∙ z
