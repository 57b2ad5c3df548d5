-- Designs with one line more, by their lines.
use Rattle.std.proofs.Common.{◌≡◌, ◌≢◌, ◌⊎◌, suc, ◌+◌, ◌-◌, ◌^◌, ◌<◌, eqb, ◌&&◌, true, IsTrue, List, [], ◌∷◌, ◌++◌, length, map, codes, refl, sym, ap, ◌∙◌, subst, inl, inr, append_assoc, arith}
use Rattle.std.specs.Prelude.{Option, Some, None}
use Rattle.std.proofs.lemmas.Bool.{eqb-true, eq-eqb, and_parts, and_from}
use Rattle.std.proofs.lemmas.List.{append-nil, append_cancel_left, length-map, nil_from_length, same_from_push, map_push, length_push}
use Rattle.sv_outside.specs.declared.text.Signal.{Signal}
use Rattle.svex_shape.specs.declared.shape.Shape.{Shape}
use Rattle.driver_resolve.specs.declared.driver.Driver.{Driver}
use Rattle.flat_net.specs.declared.flat.Flat.{Flat}
use Rattle.flat_net.specs.declared.flat.Join.{Join}
use Rattle.flat_text.specs.Lines.{Text, lines_of}
use Rattle.flat_text.specs.FlatTexts.{IsTold, AreLines, Begin}
use Rattle.flat_lines.specs.Fits.{FitsItem}
use Rattle.flat_lines.specs.Items.{Item, a_wire, a_join, a_node, a_drive, the_end, item_line}
use Rattle.flat_read.specs.Designs.{items_of, front_of, with_item, comes}
use Rattle.flat_read.proofs.Telling.{EachItem, items_front, items_back, items_are, items_fit, not_end, lines_are}

none_of : {X : Type 0} (xs : List X) → eqb (length xs) 0 ≡ true → xs ≡ []
none_of xs h = nil_from_length xs (eqb-true (length xs) 0 h)

no_more : {X : Type 0} (xs : List X) → xs ≡ [] → eqb (length xs) 0 ≡ true
no_more xs e = eq-eqb (length xs) 0 (ap length e)

-- ---- the items of a design with one more

insert : {A : Type 0} (make : A → Item) (front tail : List Item) (xs : List A) (a : A) → tail ≡ [] → front ++ (map make (xs ++ a ∷ []) ++ tail) ≡ (front ++ (map make xs ++ tail)) ++ make a ∷ []
insert make front tail xs a e =
    ap (λ t. front ++ (map make (xs ++ a ∷ []) ++ t)) e ∙ ap (λ l. front ++ l) (append-nil (map make (xs ++ a ∷ [])) ∙ map_push make xs a)
    ∙ sym (append_assoc front (map make xs) (make a ∷ [])) ∙ ap (λ l. (front ++ l) ++ make a ∷ []) (sym (append-nil (map make xs))) ∙ ap (λ t. (front ++ (map make xs ++ t)) ++ make a ∷ []) (sym e)

pub next_items : (shown : Flat) (x : Item) → IsTrue (comes shown x) → items_of (with_item shown x) ≡ items_of shown ++ x ∷ []
next_items shown (a_wire s) c =
    let one = and_parts (eqb (length shown.joins) 0) (eqb (length shown.arena) 0 && eqb (length shown.drivers) 0) c in
    let two = and_parts (eqb (length shown.arena) 0) (eqb (length shown.drivers) 0) one.1 in
    let tail : map a_join shown.joins ++ (map a_node shown.arena ++ map a_drive shown.drivers) ≡ [] = λ i. map a_join (none_of shown.joins one.0 i) ++ (map a_node (none_of shown.arena two.0 i) ++ map a_drive (none_of shown.drivers two.1 i)) in
    insert a_wire [] (map a_join shown.joins ++ (map a_node shown.arena ++ map a_drive shown.drivers)) shown.wires s tail
next_items shown (a_join j) c =
    let two = and_parts (eqb (length shown.arena) 0) (eqb (length shown.drivers) 0) c in
    let tail : map a_node shown.arena ++ map a_drive shown.drivers ≡ [] = λ i. map a_node (none_of shown.arena two.0 i) ++ map a_drive (none_of shown.drivers two.1 i) in
    insert a_join (map a_wire shown.wires) (map a_node shown.arena ++ map a_drive shown.drivers) shown.joins j tail
next_items shown (a_node s) c =
    let tail : map a_drive shown.drivers ≡ [] = ap (map a_drive) (none_of shown.drivers c) in
    ap (λ l. map a_wire shown.wires ++ l) (insert a_node (map a_join shown.joins) (map a_drive shown.drivers) shown.arena s tail)
    ∙ sym (append_assoc (map a_wire shown.wires) (map a_join shown.joins ++ (map a_node shown.arena ++ map a_drive shown.drivers)) (a_node s ∷ []))
next_items shown (a_drive d) c =
    ap (λ l. map a_wire shown.wires ++ (map a_join shown.joins ++ (map a_node shown.arena ++ l))) (map_push a_drive shown.drivers d)
    ∙ regroup (map a_wire shown.wires) (map a_join shown.joins) (map a_node shown.arena) (map a_drive shown.drivers) (a_drive d ∷ [])
  where
    regroup : (a b c d e : List Item) → a ++ (b ++ (c ++ (d ++ e))) ≡ (a ++ (b ++ (c ++ d))) ++ e
    regroup a b c d e = simp append_assoc
next_items shown the_end c = cc

pub next_front : (shown : Flat) (x : Item) → IsTrue (comes shown x) → front_of (with_item shown x) ≡ front_of shown ++ item_line x ∷ []
next_front shown x c = ap (λ l. codes "flat 1" ∷ map item_line l) (next_items shown x c) ∙ ap (λ l. codes "flat 1" ∷ l) (map_push item_line (items_of shown) x)

-- ---- the design of items

put : {A : Type 0} → Option A → List A → List A
put None l = l
put (Some a) l = a ∷ l

pick : {A : Type 0} → (Item → Option A) → List Item → List A
pick f [] = []
pick f (x ∷ xs) = put (f x) (pick f xs)

pick_append : {A : Type 0} (f : Item → Option A) (xs ys : List Item) → pick f (xs ++ ys) ≡ pick f xs ++ pick f ys
unfolding pick put
pick_append f [] ys = refl
pick_append {A} f (x ∷ xs) ys = either (f x) (pick_append f xs ys)
  where
    either : (o : Option A) → pick f (xs ++ ys) ≡ pick f xs ++ pick f ys → put o (pick f (xs ++ ys)) ≡ put o (pick f xs) ++ pick f ys
    either None h = h
    either (Some a) h = ap (λ l. a ∷ l) h

pick_map : {A : Type 0} (f : Item → Option A) (make : A → Item) → ((a : A) → f (make a) ≡ Some a) → (xs : List A) → pick f (map make xs) ≡ xs
unfolding pick put
pick_map f make h [] = refl
pick_map f make h (a ∷ xs) = ap (λ o. put o (pick f (map make xs))) (h a) ∙ ap (λ l. a ∷ l) (pick_map f make h xs)

pick_none : {A B : Type 0} (f : Item → Option A) (make : B → Item) → ((b : B) → f (make b) ≡ None) → (xs : List B) → pick f (map make xs) ≡ []
unfolding pick put
pick_none f make h [] = refl
pick_none f make h (b ∷ xs) = ap (λ o. put o (pick f (map make xs))) (h b) ∙ pick_none f make h xs

abbrev as_wire : Item → Option Signal
as_wire (a_wire s) = Some s
as_wire x = None

abbrev as_join : Item → Option Join
as_join (a_join j) = Some j
as_join x = None

abbrev as_node : Item → Option Shape
as_node (a_node s) = Some s
as_node x = None

abbrev as_drive : Item → Option Driver
as_drive (a_drive d) = Some d
as_drive x = None

picks : {A : Type 0} (f : Item → Option A) (shown : Flat) → pick f (items_of shown) ≡ pick f (map a_wire shown.wires) ++ (pick f (map a_join shown.joins) ++ (pick f (map a_node shown.arena) ++ pick f (map a_drive shown.drivers)))
picks f shown =
    pick_append f (map a_wire shown.wires) (map a_join shown.joins ++ (map a_node shown.arena ++ map a_drive shown.drivers))
    ∙ ap (λ l. pick f (map a_wire shown.wires) ++ l) (pick_append f (map a_join shown.joins) (map a_node shown.arena ++ map a_drive shown.drivers)
    ∙ ap (λ l. pick f (map a_join shown.joins) ++ l) (pick_append f (map a_node shown.arena) (map a_drive shown.drivers)))

the_wires : (shown : Flat) → pick as_wire (items_of shown) ≡ shown.wires
the_wires shown = picks as_wire shown
    ∙ (λ i. pick_map as_wire a_wire (λ a. refl) shown.wires i ++ (pick_none as_wire a_join (λ a. refl) shown.joins i ++ (pick_none as_wire a_node (λ a. refl) shown.arena i ++ pick_none as_wire a_drive (λ a. refl) shown.drivers i))) ∙ append-nil shown.wires

the_joins : (shown : Flat) → pick as_join (items_of shown) ≡ shown.joins
the_joins shown = picks as_join shown
    ∙ (λ i. pick_none as_join a_wire (λ a. refl) shown.wires i ++ (pick_map as_join a_join (λ a. refl) shown.joins i ++ (pick_none as_join a_node (λ a. refl) shown.arena i ++ pick_none as_join a_drive (λ a. refl) shown.drivers i))) ∙ append-nil shown.joins

the_nodes : (shown : Flat) → pick as_node (items_of shown) ≡ shown.arena
the_nodes shown = picks as_node shown
    ∙ (λ i. pick_none as_node a_wire (λ a. refl) shown.wires i ++ (pick_none as_node a_join (λ a. refl) shown.joins i ++ (pick_map as_node a_node (λ a. refl) shown.arena i ++ pick_none as_node a_drive (λ a. refl) shown.drivers i))) ∙ append-nil shown.arena

the_drivers : (shown : Flat) → pick as_drive (items_of shown) ≡ shown.drivers
the_drivers shown = picks as_drive shown
    ∙ (λ i. pick_none as_drive a_wire (λ a. refl) shown.wires i ++ (pick_none as_drive a_join (λ a. refl) shown.joins i ++ (pick_none as_drive a_node (λ a. refl) shown.arena i ++ pick_map as_drive a_drive (λ a. refl) shown.drivers i)))

-- designs are the same where their items are
pub same_design : (s t : Flat) → items_of s ≡ items_of t → s ≡ t
same_design s t e = λ i. record {
  arena = (sym (the_nodes s) ∙ ap (pick as_node) e ∙ the_nodes t) i;
  wires = (sym (the_wires s) ∙ ap (pick as_wire) e ∙ the_wires t) i;
  drivers = (sym (the_drivers s) ∙ ap (pick as_drive) e ∙ the_drivers t) i;
  joins = (sym (the_joins s) ∙ ap (pick as_join) e ∙ the_joins t) i;
}

-- what a design has that has one item more
more_of : {A : Type 0} (f : Item → Option A) (s t : Flat) (x : Item) → items_of s ≡ items_of t ++ x ∷ [] → pick f (items_of s) ≡ pick f (items_of t) ++ pick f (x ∷ [])
more_of f s t x e = ap (pick f) e ∙ pick_append f (items_of t) (x ∷ [])

nothing_more : {A : Type 0} (f : Item → Option A) (s t : Flat) (x : Item) → pick f (x ∷ []) ≡ [] → items_of s ≡ items_of t ++ x ∷ [] → pick f (items_of s) ≡ pick f (items_of t)
nothing_more f s t x n e = more_of f s t x e ∙ ap (λ l. pick f (items_of t) ++ l) n ∙ append-nil (pick f (items_of t))

-- kinds stand in their order
wire_last : (s : Signal) (js : List Join) (ns : List Shape) (ds : List Driver) → a_wire s ∷ (map a_join js ++ (map a_node ns ++ map a_drive ds)) ≡ (map a_join js ++ (map a_node ns ++ map a_drive ds)) ++ a_wire s ∷ [] → (js ≡ []) × ((ns ≡ []) × (ds ≡ []))
wire_last s [] [] [] e = (refl, (refl, refl))
wire_last s (j ∷ js) ns ds e = cc
wire_last s [] (n ∷ ns) ds e = cc
wire_last s [] [] (d ∷ ds) e = cc

join_last : (j : Join) (ns : List Shape) (ds : List Driver) → a_join j ∷ (map a_node ns ++ map a_drive ds) ≡ (map a_node ns ++ map a_drive ds) ++ a_join j ∷ [] → (ns ≡ []) × (ds ≡ [])
join_last j [] [] e = (refl, refl)
join_last j (n ∷ ns) ds e = cc
join_last j [] (d ∷ ds) e = cc

node_last : (s : Shape) (ds : List Driver) → a_node s ∷ map a_drive ds ≡ map a_drive ds ++ a_node s ∷ [] → ds ≡ []
node_last s [] e = refl
node_last s (d ∷ ds) e = cc

-- cut the front off
behind_front : (front xs tail : List Item) (x : Item) → front ++ ((xs ++ x ∷ []) ++ tail) ≡ (front ++ (xs ++ tail)) ++ x ∷ [] → x ∷ tail ≡ tail ++ x ∷ []
behind_front front xs tail x e = append_cancel_left (front ++ xs) (x ∷ tail) (tail ++ x ∷ []) (left front xs tail x ∙ e ∙ right front xs tail (x ∷ []))
  where
    left : (a b c : List Item) (x : Item) → (a ++ b) ++ (x ∷ c) ≡ a ++ ((b ++ x ∷ []) ++ c)
    left a b c x = simp append_assoc

    right : (a b c d : List Item) → (a ++ (b ++ c)) ++ d ≡ (a ++ b) ++ (c ++ d)
    right a b c d = simp append_assoc

pub last_item : (s t : Flat) (x : Item) → items_of s ≡ items_of t ++ x ∷ [] → (s ≡ with_item t x) × IsTrue (comes t x)
unfolding pick put
last_item s t (a_wire w) e =
    let wires : s.wires ≡ t.wires ++ w ∷ [] = sym (the_wires s) ∙ more_of as_wire s t (a_wire w) e ∙ ap (λ l. l ++ w ∷ []) (the_wires t) in
    let joins : s.joins ≡ t.joins = sym (the_joins s) ∙ nothing_more as_join s t (a_wire w) refl e ∙ the_joins t in
    let nodes : s.arena ≡ t.arena = sym (the_nodes s) ∙ nothing_more as_node s t (a_wire w) refl e ∙ the_nodes t in
    let drivers : s.drivers ≡ t.drivers = sym (the_drivers s) ∙ nothing_more as_drive s t (a_wire w) refl e ∙ the_drivers t in
    let same : s ≡ with_item t (a_wire w) = λ i. record { arena = nodes i; wires = wires i; drivers = drivers i; joins = joins i } in
    let none = wire_last w t.joins t.arena t.drivers (behind_front [] (map a_wire t.wires) (map a_join t.joins ++ (map a_node t.arena ++ map a_drive t.drivers)) (a_wire w) (ap (λ l. l ++ (map a_join t.joins ++ (map a_node t.arena ++ map a_drive t.drivers))) (sym (map_push a_wire t.wires w)) ∙ sym (ap items_of same) ∙ e)) in
    (same, and_from (eqb (length t.joins) 0) (eqb (length t.arena) 0 && eqb (length t.drivers) 0) (no_more t.joins none.0) (and_from (eqb (length t.arena) 0) (eqb (length t.drivers) 0) (no_more t.arena none.1.0) (no_more t.drivers none.1.1)))
last_item s t (a_join j) e =
    let wires : s.wires ≡ t.wires = sym (the_wires s) ∙ nothing_more as_wire s t (a_join j) refl e ∙ the_wires t in
    let joins : s.joins ≡ t.joins ++ j ∷ [] = sym (the_joins s) ∙ more_of as_join s t (a_join j) e ∙ ap (λ l. l ++ j ∷ []) (the_joins t) in
    let nodes : s.arena ≡ t.arena = sym (the_nodes s) ∙ nothing_more as_node s t (a_join j) refl e ∙ the_nodes t in
    let drivers : s.drivers ≡ t.drivers = sym (the_drivers s) ∙ nothing_more as_drive s t (a_join j) refl e ∙ the_drivers t in
    let same : s ≡ with_item t (a_join j) = λ i. record { arena = nodes i; wires = wires i; drivers = drivers i; joins = joins i } in
    let none = join_last j t.arena t.drivers (behind_front (map a_wire t.wires) (map a_join t.joins) (map a_node t.arena ++ map a_drive t.drivers) (a_join j) (ap (λ l. map a_wire t.wires ++ (l ++ (map a_node t.arena ++ map a_drive t.drivers))) (sym (map_push a_join t.joins j)) ∙ sym (ap items_of same) ∙ e)) in
    (same, and_from (eqb (length t.arena) 0) (eqb (length t.drivers) 0) (no_more t.arena none.0) (no_more t.drivers none.1))
last_item s t (a_node n) e =
    let wires : s.wires ≡ t.wires = sym (the_wires s) ∙ nothing_more as_wire s t (a_node n) refl e ∙ the_wires t in
    let joins : s.joins ≡ t.joins = sym (the_joins s) ∙ nothing_more as_join s t (a_node n) refl e ∙ the_joins t in
    let nodes : s.arena ≡ t.arena ++ n ∷ [] = sym (the_nodes s) ∙ more_of as_node s t (a_node n) e ∙ ap (λ l. l ++ n ∷ []) (the_nodes t) in
    let drivers : s.drivers ≡ t.drivers = sym (the_drivers s) ∙ nothing_more as_drive s t (a_node n) refl e ∙ the_drivers t in
    let same : s ≡ with_item t (a_node n) = λ i. record { arena = nodes i; wires = wires i; drivers = drivers i; joins = joins i } in
    let none = node_last n t.drivers (behind_front (map a_wire t.wires ++ map a_join t.joins) (map a_node t.arena) (map a_drive t.drivers) (a_node n)
    (append_assoc (map a_wire t.wires) (map a_join t.joins) ((map a_node t.arena ++ a_node n ∷ []) ++ map a_drive t.drivers) ∙ ap (λ l. map a_wire t.wires ++ (map a_join t.joins ++ (l ++ map a_drive t.drivers))) (sym (map_push a_node t.arena n)) ∙ sym (ap items_of same) ∙ e
    ∙ ap (λ l. l ++ a_node n ∷ []) (sym (append_assoc (map a_wire t.wires) (map a_join t.joins) (map a_node t.arena ++ map a_drive t.drivers))))) in
    (same, no_more t.drivers none)
last_item s t (a_drive d) e =
    let wires : s.wires ≡ t.wires = sym (the_wires s) ∙ nothing_more as_wire s t (a_drive d) refl e ∙ the_wires t in
    let joins : s.joins ≡ t.joins = sym (the_joins s) ∙ nothing_more as_join s t (a_drive d) refl e ∙ the_joins t in
    let nodes : s.arena ≡ t.arena = sym (the_nodes s) ∙ nothing_more as_node s t (a_drive d) refl e ∙ the_nodes t in
    let drivers : s.drivers ≡ t.drivers ++ d ∷ [] = sym (the_drivers s) ∙ more_of as_drive s t (a_drive d) e ∙ ap (λ l. l ++ d ∷ []) (the_drivers t) in
    ((λ i. record { arena = nodes i; wires = wires i; drivers = drivers i; joins = joins i }), refl)
last_item s t the_end e = absurd ((items_back (λ x. item_line x ≢ codes "end") (items_of t) (the_end ∷ []) (subst (EachItem (λ x. item_line x ≢ codes "end")) e (not_end s))).0 refl)

-- ---- lines of designs

-- the last of what is mapped
pub last_of : {A B : Type 0} (f : A → B) (xs : List A) (ys : List B) (b : B) → map f xs ≡ ys ++ b ∷ [] → (init : List A) × ((x : A) × ((xs ≡ init ++ x ∷ []) × ((map f init ≡ ys) × (f x ≡ b))))
last_of f [] [] b e = cc
last_of f [] (y ∷ ys) b e = cc
last_of f (x ∷ []) [] b e = ([], (x, (refl, (refl, cc))))
last_of f (x ∷ z ∷ xs) [] b e = cc
last_of f (x ∷ xs) (y ∷ ys) b e =
    let later : map f xs ≡ ys ++ b ∷ [] = cc in
    let here : f x ≡ y = cc in
    let found = last_of f xs ys b later in
    (x ∷ found.0, (found.1.0, (ap (λ l. x ∷ l) found.1.1.0, ((λ i. here i ∷ found.1.1.1.0 i), found.1.1.1.1))))

behind_first : (a : Text) (xs ys : List Text) → a ∷ xs ≡ a ∷ ys → xs ≡ ys
behind_first a xs ys e = cc

-- the end stands in no design
no_end : (shown : Flat) (ls : List Text) → map item_line (items_of shown) ≡ ls ++ codes "end" ∷ [] → ⊥
no_end shown ls e =
    let last = last_of item_line (items_of shown) ls (codes "end") e in
    (items_back (λ x. item_line x ≢ codes "end") last.0 (last.1.0 ∷ []) (subst (EachItem (λ x. item_line x ≢ codes "end")) last.1.1.0 (not_end shown))).0 last.1.1.1.1

no_end_before : (shown : Flat) (ls : List Text) (line : Text) → map item_line (items_of shown) ≡ (ls ++ codes "end" ∷ []) ++ line ∷ [] → ⊥
no_end_before shown ls line e =
    let last = last_of item_line (items_of shown) (ls ++ codes "end" ∷ []) line e in
    let inner = last_of item_line last.0 ls (codes "end") last.1.1.1.0 in
    let fronts = items_front (λ x. item_line x ≢ codes "end") last.0 (last.1.0 ∷ []) (subst (EachItem (λ x. item_line x ≢ codes "end")) last.1.1.0 (not_end shown)) in
    (items_back (λ x. item_line x ≢ codes "end") inner.0 (inner.1.0 ∷ []) (subst (EachItem (λ x. item_line x ≢ codes "end")) inner.1.1.0 fronts)).0 inner.1.1.1.1

-- the lines in front are not all
pub not_whole : (shown : Flat) → AreLines (front_of shown) → ⊥
not_whole shown w = no_end shown (map item_line (items_of w.shown)) (behind_first (codes "flat 1") (map item_line (items_of shown)) (map item_line (items_of w.shown) ++ codes "end" ∷ []) (w.are ∙ lines_are w.shown))

-- the lines in front keep the form
pub begins_front : (shown : Flat) → IsTold shown → Begin (front_of shown)
begins_front shown t = inr (inr (record { shown = shown; told = t; are = sym (lines_are shown) }))

pub begins_whole : (shown : Flat) → IsTold shown → Begin (lines_of shown)
begins_whole shown t = inr (inl (record { shown = shown; told = t; are = refl }))

-- no line goes on behind the last
pub nothing_behind : (shown : Flat) (line : Text) → Begin (lines_of shown ++ line ∷ []) → ⊥
nothing_behind shown line (inl e) = never (lines_of shown) line e
  where
    never : (ls : List Text) (l : Text) → ls ++ l ∷ [] ≡ [] → ⊥
    never [] l e = cc
    never (x ∷ ls) l e = cc
nothing_behind shown line (inr (inl w)) =
    let cut = same_from_push (lines_of shown) (front_of w.shown) line (codes "end") (w.are ∙ lines_are w.shown) in
    no_end w.shown (map item_line (items_of shown)) (behind_first (codes "flat 1") (map item_line (items_of w.shown)) (map item_line (items_of shown) ++ codes "end" ∷ []) (sym cut.0 ∙ lines_are shown))
nothing_behind shown line (inr (inr w)) =
    let cut = same_from_push (lines_of shown ++ line ∷ []) (front_of w.shown) (codes "end") (codes "end") (w.are ∙ lines_are w.shown) in
    no_end_before w.shown (map item_line (items_of shown)) line (behind_first (codes "flat 1") (map item_line (items_of w.shown)) ((map item_line (items_of shown) ++ codes "end" ∷ []) ++ line ∷ []) (sym cut.0 ∙ ap (λ l. l ++ line ∷ []) (lines_are shown)))

-- a line with which the form is kept says what may come next
pub goes_on : (shown : Flat) (line : Text) → IsTold shown → length (front_of shown) < 2 ^ 64 - 1 → Begin (front_of shown ++ line ∷ [])
    → (line ≡ codes "end") ⊎ ((x : Item) × ((line ≡ item_line x) × (FitsItem x × (IsTrue (comes shown x) × IsTold (with_item shown x)))))
goes_on shown line t few (inl e) = cc
goes_on shown line t few (inr (inl w)) = inl (same_from_push (front_of shown) (front_of w.shown) line (codes "end") (w.are ∙ lines_are w.shown)).1
goes_on shown line t few (inr (inr w)) =
    let cut = same_from_push (front_of shown ++ line ∷ []) (front_of w.shown) (codes "end") (codes "end") (w.are ∙ lines_are w.shown) in
    let mapped : map item_line (items_of w.shown) ≡ map item_line (items_of shown) ++ line ∷ [] = behind_first (codes "flat 1") (map item_line (items_of w.shown)) (map item_line (items_of shown) ++ line ∷ []) (sym cut.0) in
    let last = last_of item_line (items_of w.shown) (map item_line (items_of shown)) line mapped in
    let count : length (items_of w.shown) ≡ length (items_of shown) + 1 = sym (length-map (items_of w.shown) item_line) ∙ ap length mapped ∙ length_push (map item_line (items_of shown)) line ∙ ap (λ n. n + 1) (length-map (items_of shown) item_line) in
    let own : length (front_of shown) ≡ suc (length (items_of shown)) = ap suc (length-map (items_of shown) item_line) in
    let fits = subst (EachItem FitsItem) last.1.1.0 (items_fit w.shown w.told (omega arith)) in
    let same : last.0 ≡ items_of shown = items_are last.0 (items_of shown) (items_front FitsItem last.0 (last.1.0 ∷ []) fits) (items_fit shown t (omega arith)) last.1.1.1.0 in
    let found = last_item w.shown shown last.1.0 (last.1.1.0 ∙ ap (λ l. l ++ last.1.0 ∷ []) same) in
    inr (last.1.0, (sym last.1.1.1.1, ((items_back FitsItem last.0 (last.1.0 ∷ []) fits).0, (found.1, subst IsTold found.0 w.told))))
