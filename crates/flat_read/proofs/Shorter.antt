-- Lines that keep the form keep it without the last of them.
use Rattle.std.proofs.Common.{◌≡◌, ◌⊎◌, ℕ, ◌<◌, ◌≤◌, List, [], ◌∷◌, ◌++◌, length, map, codes, refl, sym, ap, ◌∙◌, subst, inl, inr, append_assoc, arith}
use Rattle.std.specs.List.{All, zip}
use Rattle.std.proofs.lemmas.List.{append-nil, map-append, length-append, length_push, same_from_push, map_push, get_or_append_left}
use Rattle.std.proofs.lemmas.List.Elements.{All-nil}
use Rattle.lhs_alias.specs.declared.segs.WireBit.{WireBit}
use Rattle.lhs_alias.specs.Segs.{lhs_bits}
use Rattle.lhs_alias.specs.Pairs.{AreDistinct, HaveOwnChildren}
use Rattle.lhs_alias.proofs.SegBits.{All-front}
use Rattle.settling.specs.Settling.{Link}
use Rattle.sv_outside.specs.declared.text.Signal.{Signal}
use Rattle.svex_shape.specs.declared.shape.Shape.{Shape}
use Rattle.svex_shape.specs.Shapes.{ChildrenBelow, FitsWidths, shape_at, width_at}
use Rattle.svex_arena.proofs.Numbering.{map_children}
use Rattle.svex_arena.proofs.Steps.{fits_same}
use Rattle.driver_resolve.specs.declared.driver.Driver.{Driver}
use Rattle.driver_resolve.specs.Drivers.{widths_of, IsDriver}
use Rattle.flat_net.specs.declared.flat.Flat.{Flat}
use Rattle.flat_net.specs.declared.flat.Join.{Join}
use Rattle.flat_net.specs.Flats.{IsSignal, IsJoin, links_of}
use Rattle.flat_text.specs.Lines.{Text}
use Rattle.flat_text.specs.FlatTexts.{IsTold, AreNodes, HasLine, Begin}
use Rattle.flat_lines.specs.Items.{Item, a_wire, a_join, a_node, a_drive, item_line}
use Rattle.flat_read.specs.Designs.{items_of, front_of}
use Rattle.flat_read.proofs.Telling.{lines_are}
use Rattle.flat_read.proofs.Going.{begins_front, last_of}
use Rattle.flat_read.proofs.Uniting.{links_more}
use Rattle.flat_read.proofs.Adding.{extended, old_width}

-- ---- lists with a last element

pub last_view : {X : Type 0} (xs : List X) → (xs ≡ []) ⊎ ((init : List X) × ((x : X) × (xs ≡ init ++ x ∷ [])))
last_view [] = inl refl
last_view (x ∷ xs) = elim (last_view xs) [
  | inl e ↦ inr ([], (x, ap (λ l. x ∷ l) e))
  | inr l ↦ inr (x ∷ l.0, (l.1.0, ap (λ l. x ∷ l) l.1.1))
]

front_all : {X : Type 0} (P : X → Type 0) (xs init : List X) (x : X) → xs ≡ init ++ x ∷ [] → All P xs → All P init
front_all P xs init x e h = All-front P xs init x e h

front_nodes : (shapes : List Shape) (s : Shape) → AreNodes (shapes ++ s ∷ []) → AreNodes shapes
front_nodes shapes s n = record {
  children = λ k l. subst (ChildrenBelow k) ((extended shapes s).same k l) (n.children k (longer k l));
  fits = λ k l.
      let below : ChildrenBelow k (shape_at shapes k) = subst (ChildrenBelow k) ((extended shapes s).same k l) (n.children k (longer k l)) in
      fits_same (width_at shapes) (width_at (shapes ++ s ∷ [])) (shape_at shapes k) (map_children (λ j. j < k) (λ j. width_at shapes j ≡ width_at (shapes ++ s ∷ []) j) (λ j h. sym (old_width shapes s j (omega arith))) (shape_at shapes k) below)
      (subst (FitsWidths (width_at (shapes ++ s ∷ []))) ((extended shapes s).same k l) (n.fits k (longer k l)));
  some = λ k l. subst (λ m. 0 < m) (old_width shapes s k l) (n.some k (longer k l));
  most = λ k l. subst (λ m. m ≤ 128) (old_width shapes s k l) (n.most k (longer k l));
}
  where
    longer : (k : ℕ) → k < length shapes → k < length (shapes ++ s ∷ [])
    longer k l = omega (arith, length_push shapes s)

front_distinct : (a b : List WireBit) → AreDistinct (a ++ b) → AreDistinct a
front_distinct a b h i j d lt l e =
    h i j d lt (omega (arith, l, length-append a b)) (get_or_append_left a b d i (omega (arith, lt, l)) ∙ e ∙ sym (get_or_append_left a b d j l))

front_own : (joins : List Join) (j : Join) → HaveOwnChildren (links_of (joins ++ j ∷ [])) → HaveOwnChildren (links_of joins)
front_own joins j h =
    front_distinct (map (λ (pair : Link). pair.0) (links_of joins)) (map (λ (pair : Link). pair.0) (zip (lhs_bits j.child) (lhs_bits j.parent)))
    (subst AreDistinct (ap (map (λ (pair : Link). pair.0)) (links_more joins j) ∙ map-append (λ (pair : Link). pair.0) (links_of joins) (zip (lhs_bits j.child) (lhs_bits j.parent))) h)

none_all : {X : Type 0} (P : X → Type 0) (xs : List X) → xs ≡ [] → All P xs
none_all P xs e = subst (All P) (sym e) (All-nil P)

-- ---- designs without their last item

-- a told design whose items are these
pub record Tells (items : List Item) : Type 0 where
  pub shown : Flat
  pub told : IsTold shown
  pub are : items_of shown ≡ items

without_driver : (s : Flat) (ds : List Driver) (d : Driver) → s.drivers ≡ ds ++ d ∷ [] → IsTold s → IsTold (record { arena = s.arena; wires = s.wires; drivers = ds; joins = s.joins })
without_driver s ds d e t = record {
  nodes = t.nodes;
  forms = t.forms;
  sound = record { wires = t.sound.wires; drivers = front_all (IsDriver (widths_of s.wires) s.arena) s.drivers ds d e t.sound.drivers; joins = t.sound.joins; own_children = t.sound.own_children };
}

without_node : (s : Flat) (ns : List Shape) (n : Shape) → s.arena ≡ ns ++ n ∷ [] → s.drivers ≡ [] → IsTold s → IsTold (record { arena = ns; wires = s.wires; drivers = s.drivers; joins = s.joins })
without_node s ns n e none t = record {
  nodes = front_nodes ns n (subst AreNodes e t.nodes);
  forms = front_all (HasLine (widths_of s.wires)) s.arena ns n e t.forms;
  sound = record { wires = t.sound.wires; drivers = none_all (IsDriver (widths_of s.wires) ns) s.drivers none; joins = t.sound.joins; own_children = t.sound.own_children };
}

without_join : (s : Flat) (js : List Join) (j : Join) → s.joins ≡ js ++ j ∷ [] → IsTold s → IsTold (record { arena = s.arena; wires = s.wires; drivers = s.drivers; joins = js })
without_join s js j e t = record {
  nodes = t.nodes;
  forms = t.forms;
  sound = record { wires = t.sound.wires; drivers = t.sound.drivers; joins = front_all (IsJoin (widths_of s.wires)) s.joins js j e t.sound.joins; own_children = front_own js j (subst (λ l. HaveOwnChildren (links_of l)) e t.sound.own_children) };
}

without_wire : (s : Flat) (ws : List Signal) (w : Signal) → s.wires ≡ ws ++ w ∷ [] → s.arena ≡ [] → s.joins ≡ [] → s.drivers ≡ [] → IsTold s → IsTold (record { arena = s.arena; wires = ws; drivers = s.drivers; joins = s.joins })
without_wire s ws w e nodes joins drivers t = record {
  nodes = t.nodes;
  forms = none_all (HasLine (widths_of ws)) s.arena nodes;
  sound = record { wires = front_all IsSignal s.wires ws w e t.sound.wires; drivers = none_all (IsDriver (widths_of ws) s.arena) s.drivers drivers; joins = none_all (IsJoin (widths_of ws)) s.joins joins; own_children = t.sound.own_children };
}

-- the items of a design that has no more of the later kinds
pub less_items : (s : Flat) (init : List Item) (x : Item) → IsTold s → items_of s ≡ init ++ x ∷ [] → Tells init
less_items s init x t e = elim (last_view s.drivers) [
  | inr d ↦ record {
    shown = record { arena = s.arena; wires = s.wires; drivers = d.0; joins = s.joins };
    told = without_driver s d.0 d.1.0 d.1.1 t;
    are = (same_from_push (map a_wire s.wires ++ (map a_join s.joins ++ (map a_node s.arena ++ map a_drive d.0))) init (a_drive d.1.0) x (
        sym (ap (λ l. map a_wire s.wires ++ (map a_join s.joins ++ (map a_node s.arena ++ l))) (ap (map a_drive) d.1.1 ∙ map_push a_drive d.0 d.1.0) ∙ four (map a_wire s.wires) (map a_join s.joins) (map a_node s.arena) (map a_drive d.0) (a_drive d.1.0 ∷ [])) ∙ e)).0;
  }
  | inl no_drivers ↦ elim (last_view s.arena) [
    | inr n ↦ record {
      shown = record { arena = n.0; wires = s.wires; drivers = s.drivers; joins = s.joins };
      told = without_node s n.0 n.1.0 n.1.1 no_drivers t;
      are = (same_from_push (map a_wire s.wires ++ (map a_join s.joins ++ (map a_node n.0 ++ map a_drive s.drivers))) init (a_node n.1.0) x (
          ap (λ l. l ++ a_node n.1.0 ∷ []) (ap (λ l. map a_wire s.wires ++ (map a_join s.joins ++ (map a_node n.0 ++ map a_drive l))) no_drivers ∙ ap (λ l. map a_wire s.wires ++ (map a_join s.joins ++ l)) (append-nil (map a_node n.0)))
          ∙ sym (ap (λ l. map a_wire s.wires ++ (map a_join s.joins ++ (map a_node s.arena ++ map a_drive l))) no_drivers ∙ ap (λ l. map a_wire s.wires ++ (map a_join s.joins ++ l)) (append-nil (map a_node s.arena) ∙ ap (map a_node) n.1.1 ∙ map_push a_node n.0 n.1.0) ∙ three (map a_wire s.wires) (map a_join s.joins) (map a_node n.0) (a_node n.1.0 ∷ [])) ∙ e)).0;
    }
    | inl no_nodes ↦ elim (last_view s.joins) [
      | inr j ↦ record {
        shown = record { arena = s.arena; wires = s.wires; drivers = s.drivers; joins = j.0 };
        told = without_join s j.0 j.1.0 j.1.1 t;
        are = (same_from_push (map a_wire s.wires ++ (map a_join j.0 ++ (map a_node s.arena ++ map a_drive s.drivers))) init (a_join j.1.0) x (
            ap (λ l. l ++ a_join j.1.0 ∷ []) ((λ i. map a_wire s.wires ++ (map a_join j.0 ++ (map a_node (no_nodes i) ++ map a_drive (no_drivers i)))) ∙ ap (λ l. map a_wire s.wires ++ l) (append-nil (map a_join j.0)))
            ∙ sym ((λ i. map a_wire s.wires ++ (map a_join s.joins ++ (map a_node (no_nodes i) ++ map a_drive (no_drivers i)))) ∙ ap (λ l. map a_wire s.wires ++ l) (append-nil (map a_join s.joins) ∙ ap (map a_join) j.1.1 ∙ map_push a_join j.0 j.1.0) ∙ two (map a_wire s.wires) (map a_join j.0) (a_join j.1.0 ∷ [])) ∙ e)).0;
      }
      | inl no_joins ↦ elim (last_view s.wires) [
        | inr w ↦ record {
          shown = record { arena = s.arena; wires = w.0; drivers = s.drivers; joins = s.joins };
          told = without_wire s w.0 w.1.0 w.1.1 no_nodes no_joins no_drivers t;
          are = (same_from_push (map a_wire w.0 ++ (map a_join s.joins ++ (map a_node s.arena ++ map a_drive s.drivers))) init (a_wire w.1.0) x (
              ap (λ l. l ++ a_wire w.1.0 ∷ []) ((λ i. map a_wire w.0 ++ (map a_join (no_joins i) ++ (map a_node (no_nodes i) ++ map a_drive (no_drivers i)))) ∙ append-nil (map a_wire w.0))
              ∙ sym ((λ i. map a_wire s.wires ++ (map a_join (no_joins i) ++ (map a_node (no_nodes i) ++ map a_drive (no_drivers i)))) ∙ append-nil (map a_wire s.wires) ∙ ap (map a_wire) w.1.1 ∙ map_push a_wire w.0 w.1.0) ∙ e)).0;
        }
        | inl no_wires ↦ absurd (nothing init x (sym ((λ i. map a_wire (no_wires i) ++ (map a_join (no_joins i) ++ (map a_node (no_nodes i) ++ map a_drive (no_drivers i))))) ∙ e))
      ]
    ]
  ]
]
  where
    four : (a b c d e : List Item) → a ++ (b ++ (c ++ (d ++ e))) ≡ (a ++ (b ++ (c ++ d))) ++ e
    four a b c d e = simp append_assoc

    three : (a b c d : List Item) → a ++ (b ++ (c ++ d)) ≡ (a ++ (b ++ c)) ++ d
    three a b c d = simp append_assoc

    two : (a b c : List Item) → a ++ (b ++ c) ≡ (a ++ b) ++ c
    two a b c = simp append_assoc

    nothing : (l : List Item) (x : Item) → [] ≡ l ++ x ∷ [] → ⊥
    nothing [] x e = cc
    nothing (y ∷ l) x e = cc

-- ---- lines without the last

begins_shorter : (ls : List Text) (l : Text) → Begin (ls ++ l ∷ []) → Begin ls
begins_shorter [] l b = inl refl
begins_shorter (f ∷ ls) l (inl e) = cc
begins_shorter (f ∷ ls) l (inr (inl w)) = subst Begin (sym (same_from_push (f ∷ ls) (front_of w.shown) l (codes "end") (w.are ∙ lines_are w.shown)).0) (begins_front w.shown w.told)
begins_shorter (f ∷ ls) l (inr (inr w)) =
    let cut = same_from_push ((f ∷ ls) ++ l ∷ []) (front_of w.shown) (codes "end") (codes "end") (w.are ∙ lines_are w.shown) in
    let heads : f ≡ codes "flat 1" = head cut.0 in
    let rest : map item_line (items_of w.shown) ≡ ls ++ l ∷ [] = tail cut.0 in
    let last = last_of item_line (items_of w.shown) ls l rest in
    let t = less_items w.shown last.0 last.1.0 w.told last.1.1.0 in
    subst Begin ((λ i. codes "flat 1" ∷ map item_line (t.are i)) ∙ (λ i. sym heads i ∷ last.1.1.1.0 i)) (begins_front t.shown t.told)
  where
    head : f ∷ (ls ++ l ∷ []) ≡ front_of w.shown → f ≡ codes "flat 1"
    head e = cc

    tail : f ∷ (ls ++ l ∷ []) ≡ front_of w.shown → map item_line (items_of w.shown) ≡ ls ++ l ∷ []
    tail e = cc

-- a front of lines that keep the form keeps it
pub begins_front_of : (ls more : List Text) → Begin (ls ++ more) → Begin ls
begins_front_of ls [] b = subst Begin (append-nil ls) b
begins_front_of ls (l ∷ more) b = begins_shorter ls l (begins_front_of (ls ++ l ∷ []) more (subst Begin (sym (append_assoc ls (l ∷ []) more)) b))
