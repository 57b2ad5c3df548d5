-- The last place of a name, and the links that find it.
use Rattle.std.proofs.Common.{◌≡◌, ℕ, zero, suc, ◌<◌, ◌≤◌, Bool, true, false, cond, List, [], ◌∷◌, ◌++◌, length, take, get_or, bytes_eq, Option, Some, None, Result, Ok, Err, refl, sym, ap, ◌∙◌, subst, arith, ◌⊎◌, inl, inr, ⊎_elim, if◌then◌else◌}
use Rattle.std.specs.Cmp.Lexicographic.{nat_list_eq_equiv, bytes_decides}
use Rattle.std.specs.Option.{MatchOption, option_map, option_flatten, option_to_list, IsSome}
use Rattle.std.specs.Prelude.{vec_len, OnErr}
use Rattle.std.proofs.Math.Nat.{eq-or-lt_of_le}
use Rattle.std.proofs.Math.Seq.{get_or-append_seam}
use Rattle.std.proofs.Math.ListN.{get_or-append}
use Rattle.std.proofs.lemmas.List.{get_or_default, get_or-map, length-map, take-append-le}
use Rattle.name_index.specs.Under.{Keeps, Puts, under}
use Rattle.sv_meaning.specs.Layouts as m
use Rattle.sv_names.specs.Kinds.{Entry, entries_are, what_is, names_of}
use Rattle.sv_names.specs.Linked.{last_among, latest_of, IsLinked}
use Rattle.sv_names.specs.declared.layout.What.TheVariants.{Genvar}
use Rattle.sv_names.specs.declared.links.Links.{Links}
use Rattle.sv_names.proofs.Lookups.{find_last}

abbrev Name : Type 0
Name = List ℕ

-- ---- the last place among the first so many

chosen : (b : Bool) (k p : ℕ) (o : Option ℕ) → (if b then Some k else o) ≡ Some p → ((b ≡ true) × (k ≡ p)) ⊎ ((b ≡ false) × (o ≡ Some p))
chosen true k p o h = inl (refl, cc)
chosen false k p o h = inr (refl, h)

not_chosen : (b : Bool) (k : ℕ) (o : Option ℕ) → (if b then Some k else o) ≡ None → (b ≡ false) × (o ≡ None)
not_chosen true k o h = cc
not_chosen false k o h = (refl, h)

length_push : {A : Type 0} (xs : List A) (x : A) → length (xs ++ x ∷ []) ≡ suc (length xs)
length_push [] x = refl
length_push (y ∷ xs) x = ap suc (length_push xs x)

-- more names behind them change nothing
last_front : (names more : List Name) (name : Name) (k : ℕ) → k ≤ length names → last_among (names ++ more) name k ≡ last_among names name k
unfolding last_among
last_front names more name zero h = refl
last_front names more name (suc k) h =
    let l : k < length names = omega arith in
    ap (λ (x : Name). if bytes_eq x name then Some k else last_among (names ++ more) name k) (get_or-append names more [] k l)
    ∙ ap (λ (o : Option ℕ). if bytes_eq (get_or names k []) name then Some k else o) (last_front names more name k (omega arith))

-- one name more
last_push : (names : List Name) (name other : Name) → last_among (names ++ name ∷ []) other (length (names ++ name ∷ [])) ≡ (if bytes_eq name other then Some (length names) else last_among names other (length names))
unfolding last_among
last_push names name other =
    ap (last_among (names ++ name ∷ []) other) (length_push names name)
    ∙ ap (λ (x : Name). if bytes_eq x other then Some (length names) else last_among (names ++ name ∷ []) other (length names)) (get_or-append_seam names name [] [])
    ∙ ap (λ (o : Option ℕ). if bytes_eq name other then Some (length names) else o) (last_front names (name ∷ []) other (length names) (omega arith))

-- the place that is found is below, and has the name
last_found : (names : List Name) (name : Name) (k p : ℕ) → last_among names name k ≡ Some p → (p < k) × (bytes_eq (get_or names p []) name ≡ true)
unfolding last_among
last_found names name zero p h = cc
last_found names name (suc k) p h =
    ⊎_elim
    (λ y. (omega (arith, y.1), subst (λ (i : ℕ). bytes_eq (get_or names i []) name ≡ true) y.1 y.0))
    (λ n. let r = last_found names name k p n.1 in (omega (arith, r.0), r.1))
    (chosen (bytes_eq (get_or names k []) name) k p (last_among names name k) h)

-- it is found from each bound above it
last_within : (names : List Name) (name : Name) (k j p : ℕ) → last_among names name k ≡ Some p → p < j → j ≤ k → last_among names name j ≡ Some p
unfolding last_among
last_within names name zero j p h l w = cc
last_within names name (suc k) j p h l w =
    ⊎_elim
    (λ (e : j ≡ suc k). subst (λ (i : ℕ). last_among names name i ≡ Some p) (sym e) h)
    (λ (s : j < suc k). ⊎_elim
    (λ y. absurd (omega (arith, y.1)))
    (λ n. last_within names name k j p n.1 l (omega arith))
    (chosen (bytes_eq (get_or names k []) name) k p (last_among names name k) h))
    (eq-or-lt_of_le w)

-- where there is none, there is none below a smaller bound
none_within : (names : List Name) (name : Name) (k j : ℕ) → last_among names name k ≡ None → j ≤ k → last_among names name j ≡ None
unfolding last_among
none_within names name zero j h w = let e : j ≡ 0 = omega arith in subst (λ (i : ℕ). last_among names name i ≡ None) (sym e) h
none_within names name (suc k) j h w =
    ⊎_elim
    (λ (e : j ≡ suc k). subst (λ (i : ℕ). last_among names name i ≡ None) (sym e) h)
    (λ (s : j < suc k). none_within names name k j (not_chosen (bytes_eq (get_or names k []) name) k (last_among names name k) h).1 (omega arith))
    (eq-or-lt_of_le w)

-- ---- the place before each entry that has its name

same_place : (names : List Name) (name : Name) (i : ℕ) → i < length names → last_among (names ++ name ∷ []) (get_or (names ++ name ∷ []) i []) i ≡ last_among names (get_or names i []) i
same_place names name i l =
    ap (λ (x : Name). last_among (names ++ name ∷ []) x i) (get_or-append names (name ∷ []) [] i l) ∙ last_front names (name ∷ []) (get_or names i []) i (omega arith)

end_place : (names : List Name) (name : Name) → last_among (names ++ name ∷ []) (get_or (names ++ name ∷ []) (length names) []) (length names) ≡ last_among names name (length names)
end_place names name =
    ap (λ (x : Name). last_among (names ++ name ∷ []) x (length names)) (get_or-append_seam names name [] []) ∙ last_front names (name ∷ []) name (length names) (omega arith)

push_earlier : (before : List (Option ℕ)) (b : Option ℕ) (names : List Name) (name : Name) → length before ≡ length names → b ≡ last_among names name (length names)
    → ((i : ℕ) → i < length names → get_or before i None ≡ last_among names (get_or names i []) i)
    → (i : ℕ) → i < length (names ++ name ∷ []) → get_or (before ++ b ∷ []) i None ≡ last_among (names ++ name ∷ []) (get_or (names ++ name ∷ []) i []) i
push_earlier before b names name count new old i h =
    let h' : i ≤ length names = omega (arith, length_push names name) in
    ⊎_elim
    (λ (e : i ≡ length names). subst (λ (j : ℕ). get_or (before ++ b ∷ []) j None ≡ last_among (names ++ name ∷ []) (get_or (names ++ name ∷ []) j []) j) (sym e)
    (ap (λ (j : ℕ). get_or (before ++ b ∷ []) j None) (sym count) ∙ get_or-append_seam before b [] None ∙ new ∙ sym (end_place names name)))
    (λ (l : i < length names). let l' : i < length before = omega arith in get_or-append before (b ∷ []) None i l' ∙ old i l ∙ sym (same_place names name i l))
    (eq-or-lt_of_le h')

pop_earlier : (before : List (Option ℕ)) (b : Option ℕ) (names : List Name) (name : Name) → length before ≡ length names
    → ((i : ℕ) → i < length (names ++ name ∷ []) → get_or (before ++ b ∷ []) i None ≡ last_among (names ++ name ∷ []) (get_or (names ++ name ∷ []) i []) i)
    → (b ≡ last_among names name (length names)) × ((i : ℕ) → i < length names → get_or before i None ≡ last_among names (get_or names i []) i)
pop_earlier before b names name count old =
    let at_end : length names < length (names ++ name ∷ []) = omega (arith, length_push names name) in (
      sym (get_or-append_seam before b [] None) ∙ ap (λ (j : ℕ). get_or (before ++ b ∷ []) j None) count ∙ old (length names) at_end ∙ end_place names name,
      λ i l. let l' : i < length before = omega arith in
          let l'' : i < length (names ++ name ∷ []) = omega (arith, length_push names name) in
          sym (get_or-append before (b ∷ []) None i l') ∙ old i l'' ∙ same_place names name i l,
    )

-- ---- the links

-- the last place is written for one name
abbrev Rewritten : Links → Links → Name → Option ℕ → Type 0
Rewritten m n name w = (other : Name) → latest_of n other ≡ cond (bytes_eq name other) w (latest_of m other)

pub linked_none : (links : Links) → ((name : Name) → under links.latest name ≡ None) → links.earlier.items ≡ [] → IsLinked links []
unfolding latest_of last_among
linked_none links e f = record {
  latest = e;
  count = ap length f;
  earlier = λ i l. absurd (omega arith);
}

-- only what the links hold counts
pub linked_along : (m n : Links) (names : List Name) → Keeps m.latest n.latest → n.earlier.items ≡ m.earlier.items → IsLinked m names → IsLinked n names
unfolding latest_of
linked_along m n names e f h = record {
  latest = λ name. e name ∙ h.latest name;
  count = ap length f ∙ h.count;
  earlier = λ i l. ap (λ (x : List (Option ℕ)). get_or x i None) f ∙ h.earlier i l;
}

pub noted : (m n : Links) (name : Name) (b : Option ℕ) (names : List Name)
    → Puts m.latest name (Some (length m.earlier.items)) n.latest
    → n.earlier.items ≡ m.earlier.items ++ b ∷ [] → b ≡ latest_of m name → IsLinked m names → IsLinked n (names ++ name ∷ [])
unfolding latest_of
noted m n name b names r more was linked =
    let b_is : b ≡ last_among names name (length names) = was ∙ linked.latest name in
    record {
      latest = λ other. r other ∙ (λ i. cond (bytes_eq name other) (Some (linked.count i)) (linked.latest other i)) ∙ sym (last_push names name other);
      count = ap length more ∙ length_push m.earlier.items b ∙ ap suc linked.count ∙ sym (length_push names name);
      earlier = λ i l. ap (λ (x : List (Option ℕ)). get_or x i None) more ∙ push_earlier m.earlier.items b names name linked.count b_is linked.earlier i l;
    }

pub forgotten : (m n : Links) (name : Name) (b : Option ℕ) (names : List Name) → m.earlier.items ≡ n.earlier.items ++ b ∷ [] → Rewritten m n name b
    → IsLinked m (names ++ name ∷ []) → IsLinked n names
forgotten m n name b names less r linked =
    let count : length n.earlier.items ≡ length names = omega (arith, ap length less, length_push n.earlier.items b, linked.count, length_push names name) in
    let parts = pop_earlier n.earlier.items b names name count (λ i l. ap (λ (x : List (Option ℕ)). get_or x i None) (sym less) ∙ linked.earlier i l) in
    record {
      latest = λ other. r other ∙ chosen_last other (bytes_eq name other) refl parts.0;
      count = count;
      earlier = parts.1;
    }
  where
    chosen_last : (other : Name) (e : Bool) → bytes_eq name other ≡ e → b ≡ last_among names name (length names) → cond e b (latest_of m other) ≡ last_among names other (length names)
    chosen_last other true y b_is = let s : name ≡ other = (bytes_decides name other).0 y in b_is ∙ ap (λ (o : Name). last_among names o (length names)) s
    chosen_last other false n b_is = linked.latest other ∙ last_push names name other ∙ ap (λ e. if e then Some (length names) else last_among names other (length names)) n

-- the last name is found at the end
pub known_last : (m : Links) (name : Name) (names : List Name) → IsLinked m (names ++ name ∷ []) → latest_of m name ≡ Some (length names)
known_last m name names linked =
    linked.latest name ∙ last_push names name name ∙ ap (λ e. if e then Some (length names) else last_among names name (length names)) (nat_list_eq_equiv.refl name)

-- what was before the last name is taken off
popped_one : (r : Option (Option ℕ)) (o : Option ℕ) (old new : List (Option ℕ)) → 0 < length old → (0 < length old → IsSome r) → old ≡ new ++ option_to_list r → option_flatten r ≡ o → old ≡ new ++ o ∷ []
popped_one None o old new l v h e = let n : false ≡ true = v l in cc
popped_one (Some x) o old new l v h e = h ∙ ap (λ y. new ++ y ∷ []) e

pub popped : (m : Links) (name : Name) (names : List Name) (r : Option (Option ℕ)) (o : Option ℕ) (new : List (Option ℕ)) → IsLinked m (names ++ name ∷ []) → (0 < vec_len m.earlier → IsSome r)
    → m.earlier.items ≡ new ++ option_to_list r → option_flatten r ≡ o → m.earlier.items ≡ new ++ o ∷ []
popped m name names r o new linked some h e =
    let count : 0 < length m.earlier.items = omega (arith, linked.count, length_push names name) in
    popped_one r o m.earlier.items new count (λ _. some (omega (arith, m.earlier.ok.0))) h e

pub on_err : {A E : Type 0} (r : Result A E) (P : Type 0) → P → OnErr r P
on_err (Ok x) P p = tt
on_err (Err e) P p = p

-- ---- the last declaration

declared_by : (b : Bool) (d : Entry) (entries : List Entry) (e : Entry) (k : ℕ) (o : Option m.What) (p : Option ℕ)
    → get_or entries k d ≡ e → o ≡ option_map (λ i. what_is (get_or entries i d).1) p → (if b then Some (what_is e.1) else o) ≡ option_map (λ i. what_is (get_or entries i d).1) (if b then Some k else p)
declared_by true d entries e k o p g h = ap (λ (x : Entry). Some (what_is x.1)) (sym g)
declared_by false d entries e k o p g h = h

found_among : (entries : List Entry) (d : Entry) (name : Name) (k : ℕ) → k ≤ length entries
    → m.last_of name (entries_are (take k entries)) ≡ option_map (λ i. what_is (get_or entries i d).1) (last_among (names_of entries) name k)
unfolding m.last_of last_among
found_among entries d name zero h = refl
found_among entries d name (suc k) h =
    let l : k < length entries = omega arith in
    let e = get_or entries k d in
    find_last name entries (suc k) k e l refl (get_or_default entries k d e l)
    ∙ declared_by (bytes_eq e.0 name) d entries e k (m.last_of name (entries_are (take k entries))) (last_among (names_of entries) name k) refl (found_among entries d name k (omega arith))
    ∙ ap (λ (x : Name). option_map (λ i. what_is (get_or entries i d).1) (if bytes_eq x name then Some k else last_among (names_of entries) name k)) (sym (get_or-map (λ (x : Entry). x.0) entries k d [] l))

-- a place below the bound that is looked from, which holds the name's last entry below a higher bound
pub found_here : (entries : List Entry) (name : Name) (bound before place : ℕ) (e : Entry) → last_among (names_of entries) name bound ≡ Some place → before ≤ bound → before ≤ length entries
    → place < before → e ≡ get_or entries place e → Some (what_is e.1) ≡ m.last_of name (entries_are (take before entries))
found_here entries name bound before place e h w l p g =
    ap (λ (x : Entry). Some (what_is x.1)) g ∙ ap (option_map (λ i. what_is (get_or entries i e).1)) (sym (last_within (names_of entries) name bound before place h p w)) ∙ sym (found_among entries e name before l)

pub found_nowhere : (entries : List Entry) (name : Name) (bound before : ℕ) → last_among (names_of entries) name bound ≡ None → before ≤ bound → before ≤ length entries
    → None ≡ m.last_of name (entries_are (take before entries))
found_nowhere entries name bound before h w l =
    ap (option_map (λ i. what_is (get_or entries i ([], Genvar)).1)) (sym (none_within (names_of entries) name bound before h w)) ∙ sym (found_among entries ([], Genvar) name before l)

-- ---- from one place of a name to the one before

abbrev pub left : Option ℕ → ℕ
left None = 0
left (Some place) = suc place

pub next_place : (entries : List Entry) (name : Name) (bound place : ℕ) (o : Option ℕ) → bound ≤ length entries → last_among (names_of entries) name bound ≡ Some place
    → (place < length (names_of entries) → o ≡ last_among (names_of entries) (get_or (names_of entries) place []) place) → o ≡ last_among (names_of entries) name place
next_place entries name bound place o w h f =
    let found = last_found (names_of entries) name bound place h in
    f (omega (arith, found.0, length-map entries (λ (x : Entry). x.0))) ∙ ap (λ (x : Name). last_among (names_of entries) x place) ((bytes_decides (get_or (names_of entries) place []) name).0 found.1)

pub place_below : (names : List Name) (name : Name) (bound place : ℕ) → last_among names name bound ≡ Some place → place < bound
place_below names name bound place h = (last_found names name bound place h).0

pub falls : (names : List Name) (name : Name) (place : ℕ) (o : Option ℕ) → o ≡ last_among names name place → left o < suc place
falls names name place None e = omega arith
falls names name place (Some p) e = let l : p < place = (last_found names name place p (sym e)).0 in omega arith

-- ---- declarations taken off

pub one_off : (r : Option Entry) (old new : List Entry) (count : ℕ) → MatchOption r ((old ≡ []) × (new ≡ [])) (λ last. old ≡ new ++ last ∷ []) → count < length old → (take count new ≡ take count old) × (length new < length old)
one_off None old new count h l = let n : length old ≡ 0 = ap length h.0 in absurd (omega arith)
one_off (Some last) old new count h l =
    let n : length old ≡ suc (length new) = ap length h ∙ length_push new last in
    let w : count ≤ length new = omega arith in
    (sym (take-append-le count new (last ∷ []) w) ∙ ap (take count) (sym h), omega arith)
