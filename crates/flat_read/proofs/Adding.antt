-- A design with one line more: when it is well formed, and what a reader has to hold then.
use Rattle.std.proofs.Common.{◌≡◌, ◌⊎◌, ℕ, ◌+◌, ◌<◌, ◌≤◌, eqb, ◌&&◌, Bool, true, IsTrue, List, [], ◌∷◌, ◌++◌, length, get_or, slice_index, map, refl, sym, ap, ◌∙◌, subst, inl, inr, arith}
use Rattle.std.specs.Prelude.{Option, Some, None, ◌↔◌}
use Rattle.std.specs.List.{All}
use Rattle.std.proofs.lemmas.Bool.{eqb-true, eq-eqb, and_parts, and_from, cases_eq}
use Rattle.std.proofs.lemmas.List.{nil_from_length, get_or_append_left, get_or_push, length_push, get_or_default, map_push}
use Rattle.std.proofs.lemmas.List.Elements.{All-push, All-nil}
use Rattle.lhs_alias.specs.Segs.{lhs_bits}
use Rattle.lhs_alias.specs.Lies.{LieIn}
use Rattle.lhs_alias.specs.Pairs.{HaveOwnChildren}
use Rattle.lhs_alias.specs.Joined.{Kept}
use Rattle.sv_outside.specs.declared.text.Signal.{Signal}
use Rattle.svex_shape.specs.declared.shape.Shape.{Shape}
use Rattle.svex_shape.specs.declared.shape.Shape.TheVariants.{Const, Var, Unary, Binary, Cond, Pick, Slice, Zext, Sext, DynSlice, DynPut}
use Rattle.svex_shape.specs.Shapes.{OnChildren, ChildrenBelow, FitsWidths, shape_at, width_at}
use Rattle.svex_shape.specs.Values.{each_variable_of, each_variable}
use Rattle.svex_arena.specs.Arenas.{IsArena, Interned, Extends}
use Rattle.svex_arena.specs.Substs.{renamed}
use Rattle.svex_arena.proofs.Numbering.{every_node, map_children}
use Rattle.svex_arena.proofs.Steps.{fits_same, width-extends, variables-step}
use Rattle.driver_resolve.specs.declared.driver.Driver.{Driver}
use Rattle.driver_resolve.specs.Drivers.{widths_of, is_of_wires, IsDriver}
use Rattle.flat_net.specs.declared.flat.Flat.{Flat}
use Rattle.flat_net.specs.declared.flat.Join.{Join}
use Rattle.flat_net.specs.Flats.{IsSignal, IsJoin, links_of}
use Rattle.flat_text.specs.FlatTexts.{IsTold, AreNodes, HasLine, HasSpot}
use Rattle.flat_text.proofs.Renaming.{renamed_same, renamed_children, renamed_fits, IsPart, width_part}
use Rattle.flat_lines.specs.Items.{a_wire, a_join, a_node, a_drive}
use Rattle.flat_read.specs.declared.reader.Reader.{Reader}
use Rattle.flat_read.specs.Designs.{with_item, comes, NamesWire}
use Rattle.flat_lines.specs.Fits.{FitsShape}
use Rattle.flat_read.proofs.Uniting.{one_more, links_none}
use Rattle.flat_read.specs.States.{Holds, AreNumbered, HasMade, Added, over}

none_of : {X : Type 0} (xs : List X) → eqb (length xs) 0 ≡ true → xs ≡ []
none_of xs h = nil_from_length xs (eqb-true (length xs) 0 h)

no_more : {X : Type 0} (xs : List X) → xs ≡ [] → eqb (length xs) 0 ≡ true
no_more xs e = eq-eqb (length xs) 0 (ap length e)

all_none : {X : Type 0} (P : X → Type 0) (xs : List X) → xs ≡ [] → All P xs
all_none P xs e = subst (All P) (sym e) (All-nil P)

pub map_none : {X Y : Type 0} (f : X → Y) (xs : List X) → map f xs ≡ [] → xs ≡ []
map_none f [] h = refl
map_none f (x ∷ xs) h = cc

-- ---- nodes

pub part_of : (shown arena : List Shape) (numbers : List ℕ) → AreNumbered shown arena numbers → IsPart shown arena (λ k. slice_index numbers k)
part_of shown arena numbers n = record { within = n.there; same = n.same }

-- the arena of a design with one node more
pub extended : (shapes : List Shape) (s : Shape) → Extends shapes (shapes ++ s ∷ [])
extended shapes s = record { longer = omega (arith, length_push shapes s); same = λ k l. get_or_append_left shapes (s ∷ []) (Const []) k l }

last_shape : (shapes : List Shape) (s : Shape) → shape_at (shapes ++ s ∷ []) (length shapes) ≡ s
last_shape shapes s = get_or_push shapes s (Const []) (length shapes) refl

-- the last node, or an earlier one
which : (n k : ℕ) → k < n + 1 → (k ≡ n) ⊎ (k < n)
which n k l = elim (cases_eq k n) [ inl e ↦ inl e | inr ne ↦ inr (omega arith) ]

shown_children : (shapes : List Shape) (s : Shape) → ((k : ℕ) → k < length shapes → ChildrenBelow k (shape_at shapes k)) → ChildrenBelow (length shapes) s → (k : ℕ) → k < length (shapes ++ s ∷ []) → ChildrenBelow k (shape_at (shapes ++ s ∷ []) k)
shown_children shapes s children last k l = elim (which (length shapes) k (subst (λ n. k < n) (length_push shapes s) l)) [
  | inl e ↦ subst (λ x. ChildrenBelow k x) (sym (ap (shape_at (shapes ++ s ∷ [])) e ∙ last_shape shapes s)) (subst (λ n. ChildrenBelow n s) (sym e) last)
  | inr lt ↦ subst (λ x. ChildrenBelow k x) (sym ((extended shapes s).same k lt)) (children k lt)
]

pub old_width : (shapes : List Shape) (s : Shape) (k : ℕ) → k < length shapes → width_at (shapes ++ s ∷ []) k ≡ width_at shapes k
old_width shapes s k l = width-extends shapes (shapes ++ s ∷ []) k (extended shapes s) l

shown_fits : (shapes : List Shape) (s : Shape) → AreNodes shapes → ChildrenBelow (length shapes) s → FitsWidths (width_at shapes) s → (k : ℕ) → k < length (shapes ++ s ∷ []) → FitsWidths (width_at (shapes ++ s ∷ [])) (shape_at (shapes ++ s ∷ []) k)
shown_fits shapes s nodes below fits k l = elim (which (length shapes) k (subst (λ n. k < n) (length_push shapes s) l)) [
  | inl e ↦ subst (FitsWidths (width_at (shapes ++ s ∷ []))) (sym (ap (shape_at (shapes ++ s ∷ [])) e ∙ last_shape shapes s))
      (fits_same (width_at (shapes ++ s ∷ [])) (width_at shapes) s (map_children (λ j. j < length shapes) (λ j. width_at (shapes ++ s ∷ []) j ≡ width_at shapes j) (λ j h. old_width shapes s j h) s below) fits)
  | inr lt ↦ subst (FitsWidths (width_at (shapes ++ s ∷ []))) (sym ((extended shapes s).same k lt))
      (fits_same (width_at (shapes ++ s ∷ [])) (width_at shapes) (shape_at shapes k) (map_children (λ j. j < k) (λ j. width_at (shapes ++ s ∷ []) j ≡ width_at shapes j) (λ j h. old_width shapes s j (omega arith)) (shape_at shapes k) (nodes.children k lt)) (nodes.fits k lt))
]

-- numbers with one more
old_number : (numbers : List ℕ) (n k : ℕ) → k < length numbers → slice_index (numbers ++ n ∷ []) k ≡ slice_index numbers k
old_number numbers n k l = get_or_append_left numbers (n ∷ []) 0 k l

numbered_more : (shown old new : List Shape) (numbers : List ℕ) (s : Shape) (n : ℕ) → ((k : ℕ) → k < length shown → ChildrenBelow k (shape_at shown k)) → AreNumbered shown old numbers → ChildrenBelow (length numbers) s
    → Interned old (renamed (λ k. slice_index numbers k) s) new n → Extends old new → AreNumbered (shown ++ s ∷ []) new (numbers ++ n ∷ [])
numbered_more shown old new numbers s n children a below put grown = record {
  as_many = length_push numbers n ∙ ap (λ m. m + 1) a.as_many ∙ sym (length_push shown s);
  there = λ k l. elim (which (length shown) k (subst (λ m. k < m) (length_push shown s) l)) [
    | inl e ↦ subst (λ m. m < length new) (sym (last k e)) put.0
    | inr lt ↦ subst (λ m. m < length new) (sym (old_number numbers n k (subst (λ m. k < m) (sym a.as_many) lt))) (let inside : slice_index numbers k < length old = a.there k lt in omega (arith, grown.longer))
  ];
  same = λ k l. elim (which (length shown) k (subst (λ m. k < m) (length_push shown s) l)) [
    | inl e ↦ ap (shape_at new) (last k e) ∙ put.1 ∙ renamed_same (λ j. slice_index numbers j) (λ j. slice_index (numbers ++ n ∷ []) j) s (map_children (λ j. j < length numbers) (λ j. slice_index numbers j ≡ slice_index (numbers ++ n ∷ []) j) (λ j h. sym (old_number numbers n j h)) s below)
        ∙ ap (renamed (λ j. slice_index (numbers ++ n ∷ []) j)) (sym (ap (shape_at (shown ++ s ∷ [])) e ∙ last_shape shown s))
    | inr lt ↦ ap (shape_at new) (old_number numbers n k (subst (λ m. k < m) (sym a.as_many) lt)) ∙ grown.same (slice_index numbers k) (a.there k lt) ∙ a.same k lt
        ∙ renamed_same (λ j. slice_index numbers j) (λ j. slice_index (numbers ++ n ∷ []) j) (shape_at shown k) (map_children (λ j. j < k) (λ j. slice_index numbers j ≡ slice_index (numbers ++ n ∷ []) j) (λ j h. sym (old_number numbers n j (inside j k h lt))) (shape_at shown k) (children k lt))
        ∙ ap (renamed (λ j. slice_index (numbers ++ n ∷ []) j)) (sym ((extended shown s).same k lt))
  ];
}
  where
    last : (k : ℕ) → k ≡ length shown → slice_index (numbers ++ n ∷ []) k ≡ n
    last k e = get_or_push numbers n 0 k (a.as_many ∙ sym e)

    inside : (j k : ℕ) → j < k → k < length shown → j < length numbers
    inside j k h lt = omega (arith, a.as_many)

-- widths over the graph are widths over the text
fits_in_text : (shown arena : List Shape) (numbers : List ℕ) (s : Shape) → AreNodes shown → IsArena arena → AreNumbered shown arena numbers → ChildrenBelow (length numbers) s → FitsWidths (width_at arena) (renamed (λ k. slice_index numbers k) s) → FitsWidths (width_at shown) s
fits_in_text shown arena numbers s nodes a n below fits =
    fits_same (width_at shown) (λ j. width_at arena (slice_index numbers j)) s
    (map_children (λ j. j < length numbers) (λ j. width_at shown j ≡ width_at arena (slice_index numbers j)) (λ j h. width_part shown arena (λ k. slice_index numbers k) nodes.children a.children (part_of shown arena numbers n) j (subst (λ m. j < m) n.as_many h)) s below)
    (renamed_back_fits (width_at arena) (λ k. slice_index numbers k) s fits)
  where
    renamed_back_fits : (w : ℕ → ℕ) (g : ℕ → ℕ) (s : Shape) → FitsWidths w (renamed g s) → FitsWidths (λ j. w (g j)) s
    renamed_back_fits w g (Const v) h = h
    renamed_back_fits w g (Var name x) h = h
    renamed_back_fits w g (Unary op a) h = h
    renamed_back_fits w g (Binary op a b) h = h
    renamed_back_fits w g (Cond c a b) h = h
    renamed_back_fits w g (Pick c a b) h = h
    renamed_back_fits w g (Slice a lo x) h = h
    renamed_back_fits w g (Zext a x) h = h
    renamed_back_fits w g (Sext a x) h = h
    renamed_back_fits w g (DynSlice a at spot) h = h
    renamed_back_fits w g (DynPut a at spot put) h = h

fits_in_graph : (shown arena : List Shape) (numbers : List ℕ) (s : Shape) → AreNodes shown → IsArena arena → AreNumbered shown arena numbers → ChildrenBelow (length numbers) s → FitsWidths (width_at shown) s → FitsWidths (width_at arena) (renamed (λ k. slice_index numbers k) s)
fits_in_graph shown arena numbers s nodes a n below fits =
    renamed_fits (width_at arena) (λ k. slice_index numbers k) s
    (fits_same (λ j. width_at arena (slice_index numbers j)) (width_at shown) s
    (map_children (λ j. j < length numbers) (λ j. width_at arena (slice_index numbers j) ≡ width_at shown j) (λ j h. sym (width_part shown arena (λ k. slice_index numbers k) nodes.children a.children (part_of shown arena numbers n) j (subst (λ m. j < m) n.as_many h))) s below) fits)

nodes_more : (shown new : List Shape) (numbers : List ℕ) (s : Shape) → AreNodes shown → IsArena new → AreNumbered (shown ++ s ∷ []) new numbers → ChildrenBelow (length shown) s → FitsWidths (width_at shown) s → AreNodes (shown ++ s ∷ [])
nodes_more shown new numbers s nodes a n below fits =
    let children = shown_children shown s nodes.children below in
    record {
      children = children;
      fits = shown_fits shown s nodes below fits;
      some = λ k l. subst (λ m. 0 < m) (sym (width_part (shown ++ s ∷ []) new (λ j. slice_index numbers j) children a.children (part_of (shown ++ s ∷ []) new numbers n) k l)) (a.some (slice_index numbers k) (n.there k l));
      most = λ k l. subst (λ m. m ≤ 128) (sym (width_part (shown ++ s ∷ []) new (λ j. slice_index numbers j) children a.children (part_of (shown ++ s ∷ []) new numbers n) k l)) (a.most (slice_index numbers k) (n.there k l));
    }

has_line : (widths : List ℕ) (s : Shape) → NamesWire widths s → HasSpot s → HasLine widths s
has_line widths (Const v) h g = tt
has_line widths (Var name w) h g = h
has_line widths (Unary op a) h g = tt
has_line widths (Binary op a b) h g = tt
has_line widths (Cond c a b) h g = tt
has_line widths (Pick c a b) h g = tt
has_line widths (Slice a lo w) h g = tt
has_line widths (Zext a w) h g = tt
has_line widths (Sext a w) h g = tt
has_line widths (DynSlice a at spot) h g = g
has_line widths (DynPut a at spot put) h g = g

names_line : (widths : List ℕ) (s : Shape) → HasLine widths s → NamesWire widths s
names_line widths (Const v) h = tt
names_line widths (Var name w) h = h
names_line widths (Unary op a) h = tt
names_line widths (Binary op a b) h = tt
names_line widths (Cond c a b) h = tt
names_line widths (Pick c a b) h = tt
names_line widths (Slice a lo w) h = tt
names_line widths (Zext a w) h = tt
names_line widths (Sext a w) h = tt
names_line widths (DynSlice a at spot) h = tt
names_line widths (DynPut a at spot put) h = tt

-- a reader that differs in its nodes alone
pub record NodeAdded (old new : Reader) (s : Shape) (n : ℕ) : Type 0 where
  pub wires : new.wires ≡ old.wires
  pub widths : new.widths.items ≡ old.widths.items
  pub joins : new.joins ≡ old.joins
  pub made : new.made ≡ old.made
  pub drivers : new.drivers ≡ old.drivers
  pub numbers : new.numbers.items ≡ old.numbers.items ++ n ∷ []
  pub arena : IsArena new.arena
  pub put : Interned old.arena (renamed (λ k. slice_index old.numbers.items k) s) new.arena n
  pub grown : Extends old.arena new.arena

pub node_added : (shown : Flat) (old new : Reader) (s : Shape) (n : ℕ) → Holds shown old → HasSpot s → old.drivers ≡ [] → ChildrenBelow (length old.numbers.items) s → NamesWire old.widths.items s → FitsWidths (width_at old.arena) (renamed (λ k. slice_index old.numbers.items k) s) → NodeAdded old new s n
    → Added shown (a_node s) new
node_added shown old new s n h spot no_drivers below names fits e =
    let none : shown.drivers ≡ [] = map_none (over old.numbers.items) shown.drivers (sym h.drivers ∙ no_drivers) in
    let numbered : AreNumbered (shown.arena ++ s ∷ []) new.arena (old.numbers.items ++ n ∷ []) = numbered_more shown.arena old.arena new.arena old.numbers.items s n h.told.nodes.children h.nodes below e.put e.grown in
    let under : ChildrenBelow (length shown.arena) s = subst (λ m. ChildrenBelow m s) h.nodes.as_many below in
    let line : HasLine (widths_of shown.wires) s = has_line (widths_of shown.wires) s (subst (λ w. NamesWire w s) h.widths names) spot in (
      no_more shown.drivers none,
      record {
        told = record {
          nodes = nodes_more shown.arena new.arena (old.numbers.items ++ n ∷ []) s h.told.nodes e.arena numbered under (fits_in_text shown.arena old.arena old.numbers.items s h.told.nodes h.arena h.nodes below fits);
          forms = All-push (HasLine (widths_of shown.wires)) shown.arena s h.told.forms line;
          sound = record {
            wires = h.told.sound.wires;
            drivers = all_none (IsDriver (widths_of shown.wires) (shown.arena ++ s ∷ [])) shown.drivers none;
            joins = h.told.sound.joins;
            own_children = h.told.sound.own_children;
          };
        };
        wires = e.wires ∙ h.wires;
        widths = e.widths ∙ h.widths;
        joins = e.joins ∙ h.joins;
        made = subst (λ m. HasMade m new.widths.items shown.joins) (sym e.made) (subst (λ w. HasMade old.made w shown.joins) (sym e.widths) h.made);
        arena = e.arena;
        nodes = subst (AreNumbered (shown.arena ++ s ∷ []) new.arena) (sym e.numbers) numbered;
        drivers = e.drivers ∙ no_drivers ∙ sym (ap (map (over new.numbers.items)) none);
      },
    )

-- what stands against a node
pub record NodeFits (old : Reader) (s : Shape) : Type 0 where
  pub below : ChildrenBelow (length old.numbers.items) s
  pub names : NamesWire old.widths.items s
  pub inside : ChildrenBelow (length old.arena) (renamed (λ k. slice_index old.numbers.items k) s)
  pub fits : FitsWidths (width_at old.arena) (renamed (λ k. slice_index old.numbers.items k) s)
  pub drivers : old.drivers ≡ []

pub node_fits : (shown : Flat) (old : Reader) (s : Shape) → Holds shown old → IsTrue (comes shown (a_node s)) → IsTold (with_item shown (a_node s)) → NodeFits old s
node_fits shown old s h c t =
    let long : length shown.arena < length (shown.arena ++ s ∷ []) = omega (arith, length_push shown.arena s) in
    let under : ChildrenBelow (length shown.arena) s = subst (λ x. ChildrenBelow (length shown.arena) x) (last_shape shown.arena s) (t.nodes.children (length shown.arena) long) in
    let below : ChildrenBelow (length old.numbers.items) s = subst (λ m. ChildrenBelow m s) (sym h.nodes.as_many) under in
    let fits : FitsWidths (width_at (shown.arena ++ s ∷ [])) s = subst (FitsWidths (width_at (shown.arena ++ s ∷ []))) (last_shape shown.arena s) (t.nodes.fits (length shown.arena) long) in
    record {
      below = below;
      names = subst (λ w. NamesWire w s) (sym h.widths) (names_line (widths_of shown.wires) s (subst (HasLine (widths_of shown.wires)) (last_shape shown.arena s) (t.forms (length shown.arena) (Const []) long)));
      inside = renamed_children (λ k. k < length old.arena) (λ k. slice_index old.numbers.items k) s (map_children (λ k. k < length shown.arena) (λ k. slice_index old.numbers.items k < length old.arena) (λ k l. h.nodes.there k l) s under);
      fits = fits_in_graph shown.arena old.arena old.numbers.items s h.told.nodes h.arena h.nodes below (fits_same (width_at shown.arena) (width_at (shown.arena ++ s ∷ [])) s (map_children (λ k. k < length shown.arena) (λ k. width_at shown.arena k ≡ width_at (shown.arena ++ s ∷ []) k) (λ k l. sym (old_width shown.arena s k l)) s under) fits);
      drivers = h.drivers ∙ ap (map (over old.numbers.items)) (none_of shown.drivers c);
    }

-- ---- drivers

mention : (widths : List ℕ) (f : ℕ → Bool) (s : Shape) → HasLine widths s → OnChildren (λ i. f i ≡ true) s → each_variable_of (is_of_wires widths) f s ≡ true
unfolding each_variable_of
mention widths f (Const v) h b = refl
mention widths f (Var name w) h b = h
mention widths f (Unary op a) h b = b
mention widths f (Binary op a c) h b = and_from (f a) (f c) b.0 b.1
mention widths f (Cond c a d) h b = and_from (f c) (f a && f d) b.0 (and_from (f a) (f d) b.1 b.2)
mention widths f (Pick c a d) h b = and_from (f c) (f a && f d) b.0 (and_from (f a) (f d) b.1 b.2)
mention widths f (Slice a lo w) h b = b
mention widths f (Zext a w) h b = b
mention widths f (Sext a w) h b = b
mention widths f (DynSlice a at spot) h b = and_from (f a) (f at) b.0 b.1
mention widths f (DynPut a at spot put) h b = and_from (f a) (f at && f put) b.0 (and_from (f at) (f put) b.1 b.2)

-- each node reads wires alone
all_mention : (widths : List ℕ) (shapes : List Shape) → AreNodes shapes → All (HasLine widths) shapes → (k : ℕ) → k < length shapes → each_variable (is_of_wires widths) shapes k ≡ true
all_mention widths shapes nodes forms k l = every_node (λ j. each_variable (is_of_wires widths) shapes j ≡ true) shapes nodes.children turn k l
  where
    turn : (j : ℕ) → j < length shapes → OnChildren (λ i. each_variable (is_of_wires widths) shapes i ≡ true) (shape_at shapes j) → each_variable (is_of_wires widths) shapes j ≡ true
    turn j lt b = variables-step (is_of_wires widths) shapes j (nodes.children j lt) ∙ mention widths (each_variable (is_of_wires widths) shapes) (shape_at shapes j) (forms j (Const []) lt) b

-- what stands against a driver
abbrev pub DriverFits : Reader → Driver → Type 0
DriverFits old d = LieIn old.widths.items d.target × ((d.value < length old.numbers.items) × (width_at old.arena (slice_index old.numbers.items d.value) ≡ length (lhs_bits d.target)))

-- a reader that differs in its drivers alone
pub record DriverAdded (old new : Reader) (d : Driver) : Type 0 where
  pub wires : new.wires ≡ old.wires
  pub widths : new.widths.items ≡ old.widths.items
  pub joins : new.joins ≡ old.joins
  pub made : new.made ≡ old.made
  pub arena : new.arena ≡ old.arena
  pub numbers : new.numbers.items ≡ old.numbers.items
  pub drivers : new.drivers ≡ old.drivers ++ over old.numbers.items d ∷ []

driver_width : (shown : Flat) (old : Reader) (k : ℕ) → Holds shown old → k < length shown.arena → width_at shown.arena k ≡ width_at old.arena (slice_index old.numbers.items k)
driver_width shown old k h l = width_part shown.arena old.arena (λ j. slice_index old.numbers.items j) h.told.nodes.children h.arena.children (part_of shown.arena old.arena old.numbers.items h.nodes) k l

pub driver_added : (shown : Flat) (old new : Reader) (d : Driver) → Holds shown old → DriverFits old d → DriverAdded old new d → Added shown (a_drive d) new
driver_added shown old new d h fits e =
    let there : d.value < length shown.arena = subst (λ m. d.value < m) h.nodes.as_many fits.1.0 in
    let sound : IsDriver (widths_of shown.wires) shown.arena d = record {
      lies = subst (λ w. LieIn w d.target) h.widths fits.0;
      there = there;
      wide = driver_width shown old d.value h there ∙ fits.1.1;
      mentions = all_mention (widths_of shown.wires) shown.arena h.told.nodes h.told.forms d.value there;
    } in (
      refl,
      record {
        told = record {
          nodes = h.told.nodes;
          forms = h.told.forms;
          sound = record {
            wires = h.told.sound.wires;
            drivers = All-push (IsDriver (widths_of shown.wires) shown.arena) shown.drivers d h.told.sound.drivers sound;
            joins = h.told.sound.joins;
            own_children = h.told.sound.own_children;
          };
        };
        wires = e.wires ∙ h.wires;
        widths = e.widths ∙ h.widths;
        joins = e.joins ∙ h.joins;
        made = subst (λ m. HasMade m new.widths.items shown.joins) (sym e.made) (subst (λ w. HasMade old.made w shown.joins) (sym e.widths) h.made);
        arena = subst IsArena (sym e.arena) h.arena;
        nodes = subst (λ a. AreNumbered shown.arena a new.numbers.items) (sym e.arena) (subst (AreNumbered shown.arena old.arena) (sym e.numbers) h.nodes);
        drivers = e.drivers ∙ ap (λ l. l ++ over old.numbers.items d ∷ []) h.drivers ∙ sym (map_push (over old.numbers.items) shown.drivers d) ∙ ap (λ m. map (over m) (shown.drivers ++ d ∷ [])) (sym e.numbers);
      },
    )

pub driver_fits : (shown : Flat) (old : Reader) (d : Driver) → Holds shown old → IsTold (with_item shown (a_drive d)) → DriverFits old d
driver_fits shown old d h t =
    let last : IsDriver (widths_of shown.wires) shown.arena d = subst (IsDriver (widths_of shown.wires) shown.arena) (get_or_push shown.drivers d d (length shown.drivers) refl) (t.sound.drivers (length shown.drivers) d (omega (arith, length_push shown.drivers d))) in
    (subst (λ w. LieIn w d.target) (sym h.widths) last.lies, (subst (λ m. d.value < m) (sym h.nodes.as_many) last.there, sym (driver_width shown old d.value h last.there) ∙ last.wide))

-- ---- wires

-- a reader that differs in its wires alone
pub record WireAdded (old new : Reader) (s : Signal) : Type 0 where
  pub wires : new.wires ≡ old.wires ++ s ∷ []
  pub widths : new.widths.items ≡ old.widths.items ++ s.width ∷ []
  pub joins : new.joins ≡ old.joins
  pub made : new.made ≡ old.made
  pub arena : new.arena ≡ old.arena
  pub numbers : new.numbers.items ≡ old.numbers.items
  pub drivers : new.drivers ≡ old.drivers

abbrev pub WireFits : Reader → Type 0
WireFits old = (old.made ≡ None) × ((old.numbers.items ≡ []) × (old.drivers ≡ []))

nothing : {X Y : Type 0} (xs : List X) (ys : List Y) → length xs ≡ length ys → xs ≡ [] → ys ≡ []
nothing xs ys e h = nil_from_length ys (sym e ∙ ap length h)

pub wire_added : (shown : Flat) (old new : Reader) (s : Signal) → Holds shown old → IsSignal s → WireFits old → WireAdded old new s → Added shown (a_wire s) new
wire_added shown old new s h sound fits e =
    let joins : shown.joins ≡ [] = subst (λ m. HasMade m old.widths.items shown.joins) fits.0 h.made in
    let arena : shown.arena ≡ [] = nothing old.numbers.items shown.arena h.nodes.as_many fits.1.0 in
    let drivers : shown.drivers ≡ [] = map_none (over old.numbers.items) shown.drivers (sym h.drivers ∙ fits.1.1) in
    let widths : List ℕ = widths_of (shown.wires ++ s ∷ []) in (
      and_from (eqb (length shown.joins) 0) (eqb (length shown.arena) 0 && eqb (length shown.drivers) 0) (no_more shown.joins joins) (and_from (eqb (length shown.arena) 0) (eqb (length shown.drivers) 0) (no_more shown.arena arena) (no_more shown.drivers drivers)),
      record {
        told = record {
          nodes = h.told.nodes;
          forms = all_none (HasLine widths) shown.arena arena;
          sound = record {
            wires = All-push IsSignal shown.wires s h.told.sound.wires sound;
            drivers = all_none (IsDriver widths shown.arena) shown.drivers drivers;
            joins = all_none (IsJoin widths) shown.joins joins;
            own_children = h.told.sound.own_children;
          };
        };
        wires = e.wires ∙ ap (λ l. l ++ s ∷ []) h.wires;
        widths = e.widths ∙ ap (λ l. l ++ s.width ∷ []) h.widths ∙ sym (map_push (λ (x : Signal). x.width) shown.wires s);
        joins = e.joins ∙ h.joins;
        made = subst (λ m. HasMade m new.widths.items shown.joins) (sym (e.made ∙ fits.0)) joins;
        arena = subst IsArena (sym e.arena) h.arena;
        nodes = subst (λ a. AreNumbered shown.arena a new.numbers.items) (sym e.arena) (subst (AreNumbered shown.arena old.arena) (sym e.numbers) h.nodes);
        drivers = e.drivers ∙ h.drivers ∙ ap (λ m. map (over m) shown.drivers) (sym e.numbers);
      },
    )

made_none : (made : Option Kept) (widths : List ℕ) (joins : List Join) → HasMade made widths joins → joins ≡ [] → made ≡ None
made_none None widths joins h e = refl
made_none (Some m) widths joins h e = absurd (h.0 e)

pub wire_fits : (shown : Flat) (old : Reader) (s : Signal) → Holds shown old → IsTrue (comes shown (a_wire s)) → WireFits old
wire_fits shown old s h c =
    let first = and_parts (eqb (length shown.joins) 0) (eqb (length shown.arena) 0 && eqb (length shown.drivers) 0) c in
    let rest = and_parts (eqb (length shown.arena) 0) (eqb (length shown.drivers) 0) first.1 in
    (made_none old.made old.widths.items shown.joins h.made (none_of shown.joins first.0), (nothing shown.arena old.numbers.items (sym h.nodes.as_many) (none_of shown.arena rest.0), h.drivers ∙ ap (map (over old.numbers.items)) (none_of shown.drivers rest.1)))

-- ---- joins

-- a reader that differs in its joins alone
pub record JoinAdded (old new : Reader) (j : Join) : Type 0 where
  pub wires : new.wires ≡ old.wires
  pub widths : new.widths.items ≡ old.widths.items
  pub joins : new.joins ≡ old.joins ++ j ∷ []
  pub arena : new.arena ≡ old.arena
  pub numbers : new.numbers.items ≡ old.numbers.items
  pub drivers : new.drivers ≡ old.drivers

abbrev pub JoinComes : Reader → Type 0
JoinComes old = (old.numbers.items ≡ []) × (old.drivers ≡ [])

own_of : (made : Option Kept) (widths : List ℕ) (joins : List Join) (j : Join) → HasMade made widths (joins ++ j ∷ []) → HaveOwnChildren (links_of (joins ++ j ∷ []))
own_of None widths joins j h = absurd (one_more joins j h)
own_of (Some m) widths joins j h = h.1.1.own_children

pub join_added : (shown : Flat) (old new : Reader) (j : Join) → Holds shown old → JoinComes old → IsJoin old.widths.items j → HasMade new.made old.widths.items (shown.joins ++ j ∷ []) → JoinAdded old new j → Added shown (a_join j) new
join_added shown old new j h fits sound made e =
    let arena : shown.arena ≡ [] = nothing old.numbers.items shown.arena h.nodes.as_many fits.0 in
    let drivers : shown.drivers ≡ [] = map_none (over old.numbers.items) shown.drivers (sym h.drivers ∙ fits.1) in (
      and_from (eqb (length shown.arena) 0) (eqb (length shown.drivers) 0) (no_more shown.arena arena) (no_more shown.drivers drivers),
      record {
        told = record {
          nodes = h.told.nodes;
          forms = h.told.forms;
          sound = record {
            wires = h.told.sound.wires;
            drivers = h.told.sound.drivers;
            joins = All-push (IsJoin (widths_of shown.wires)) shown.joins j h.told.sound.joins (subst (λ w. IsJoin w j) h.widths sound);
            own_children = own_of new.made old.widths.items shown.joins j made;
          };
        };
        wires = e.wires ∙ h.wires;
        widths = e.widths ∙ h.widths;
        joins = e.joins ∙ ap (λ l. l ++ j ∷ []) h.joins;
        made = subst (λ w. HasMade new.made w (shown.joins ++ j ∷ [])) (sym e.widths) made;
        arena = subst IsArena (sym e.arena) h.arena;
        nodes = subst (λ a. AreNumbered shown.arena a new.numbers.items) (sym e.arena) (subst (AreNumbered shown.arena old.arena) (sym e.numbers) h.nodes);
        drivers = e.drivers ∙ h.drivers ∙ ap (λ m. map (over m) shown.drivers) (sym e.numbers);
      },
    )

pub join_comes : (shown : Flat) (old : Reader) (j : Join) → Holds shown old → IsTrue (comes shown (a_join j)) → JoinComes old
join_comes shown old j h c =
    let rest = and_parts (eqb (length shown.arena) 0) (eqb (length shown.drivers) 0) c in
    (nothing shown.arena old.numbers.items (sym h.nodes.as_many) (none_of shown.arena rest.0), h.drivers ∙ ap (map (over old.numbers.items)) (none_of shown.drivers rest.1))

pub join_sound : (shown : Flat) (old : Reader) (j : Join) → Holds shown old → IsTold (with_item shown (a_join j)) → IsJoin old.widths.items j
join_sound shown old j h t =
    subst (λ w. IsJoin w j) (sym h.widths) (subst (IsJoin (widths_of shown.wires)) (get_or_push shown.joins j j (length shown.joins) refl) (t.sound.joins (length shown.joins) j (omega (arith, length_push shown.joins j))))

-- ---- what code has tested

pub driver_tested : (old : Reader) (d : Driver) (widths numbers : List ℕ) (b : Bool) → widths ≡ old.widths.items → numbers ≡ old.numbers.items
    → IsTrue b ↔ (LieIn widths d.target × ((d.value < length numbers) × (width_at old.arena (slice_index numbers d.value) ≡ length (lhs_bits d.target)))) → IsTrue b ↔ DriverFits old d
driver_tested old d widths numbers b e f h =
    subst (λ w. IsTrue b ↔ (LieIn w d.target × ((d.value < length old.numbers.items) × (width_at old.arena (slice_index old.numbers.items d.value) ≡ length (lhs_bits d.target))))) e
    (subst (λ n. IsTrue b ↔ (LieIn widths d.target × ((d.value < length n) × (width_at old.arena (slice_index n d.value) ≡ length (lhs_bits d.target))))) f h)

pub number_read : (numbers : List ℕ) (i k r : ℕ) → r ≡ get_or numbers i r → i ≡ k → k < length numbers → r ≡ slice_index numbers k
number_read numbers i k r is e l = is ∙ ap (λ n. get_or numbers n r) e ∙ get_or_default numbers k r 0 l

pub names_tested : (widths wide : List ℕ) (s : Shape) (b : Bool) → wide ≡ widths → IsTrue b ↔ NamesWire wide s → b ≡ true → NamesWire widths s
names_tested widths wide s b e h t = subst (λ w. NamesWire w s) e (h.0 t)

pub below_tested : (n m : ℕ) (s : Shape) (b : Bool) → n ≡ m → IsTrue b ↔ ChildrenBelow n s → b ≡ true → ChildrenBelow m s
below_tested n m s b e h t = subst (λ k. ChildrenBelow k s) e (h.0 t)

-- what code says of the numbers in a slice, of the numbers
pub fits_tested : (arena : List Shape) (given numbers : List ℕ) (s : Shape) → given ≡ numbers → FitsWidths (width_at arena) (renamed (λ k. slice_index given k) s) → FitsWidths (width_at arena) (renamed (λ k. slice_index numbers k) s)
fits_tested arena given numbers s e h = subst (λ n. FitsWidths (width_at arena) (renamed (λ k. slice_index n k) s)) e h

pub put_tested : (old new : List Shape) (given numbers : List ℕ) (s : Shape) (n : ℕ) → given ≡ numbers → Interned old (renamed (λ k. slice_index given k) s) new n → Interned old (renamed (λ k. slice_index numbers k) s) new n
put_tested old new given numbers s n e h = subst (λ l. Interned old (renamed (λ k. slice_index l k) s) new n) e h

pub never_fits : (arena : List Shape) (given numbers : List ℕ) (s : Shape) → given ≡ numbers
    → (ChildrenBelow (length arena) (renamed (λ k. slice_index given k) s) → FitsWidths (width_at arena) (renamed (λ k. slice_index given k) s) → ⊥)
    → ChildrenBelow (length arena) (renamed (λ k. slice_index numbers k) s) → FitsWidths (width_at arena) (renamed (λ k. slice_index numbers k) s) → ⊥
never_fits arena given numbers s e h = subst (λ n. ChildrenBelow (length arena) (renamed (λ k. slice_index n k) s) → FitsWidths (width_at arena) (renamed (λ k. slice_index n k) s) → ⊥) e h

pub has_spot : (s : Shape) → FitsShape s → HasSpot s
has_spot (Const v) h = tt
has_spot (Var name w) h = tt
has_spot (Unary op a) h = tt
has_spot (Binary op a b) h = tt
has_spot (Cond c a b) h = tt
has_spot (Pick c a b) h = tt
has_spot (Slice a lo w) h = tt
has_spot (Zext a w) h = tt
has_spot (Sext a w) h = tt
has_spot (DynSlice a at spot) h = h.1.1.0
has_spot (DynPut a at spot put) h = h.1.1.0.0

-- ---- nothing but the first line

nothing_told : IsTold (record { arena = []; wires = []; drivers = []; joins = [] })
nothing_told = record {
  nodes = record { children = λ k l. absurd (omega arith); fits = λ k l. absurd (omega arith); some = λ k l. absurd (omega arith); most = λ k l. absurd (omega arith) };
  forms = All-nil (HasLine []);
  sound = record { wires = All-nil IsSignal; drivers = All-nil (IsDriver [] []); joins = All-nil (IsJoin []); own_children = subst HaveOwnChildren (sym links_none) (λ i j d lt l. absurd (omega arith)) };
}

pub holds_nothing : (r : Reader) → r.wires ≡ [] → r.widths.items ≡ [] → r.joins ≡ [] → IsArena r.arena → r.numbers.items ≡ [] → r.drivers ≡ [] → r.made ≡ None → Holds (record { arena = []; wires = []; drivers = []; joins = [] }) r
holds_nothing r wires widths joins arena numbers drivers made = record {
  told = nothing_told;
  wires = wires;
  widths = widths;
  joins = joins;
  made = subst (λ m. HasMade m r.widths.items []) (sym made) refl;
  arena = arena;
  nodes = record { as_many = ap length numbers; there = λ k l. absurd (omega arith); same = λ k l. absurd (omega arith) };
  drivers = drivers;
}
