-- The lines of a design, as what they say one after the other.
use Rattle.std.specs.Prelude.{◌==◌, ◌&&◌, ℕ, Bool, true, false, List, [], ◌∷◌, ◌++◌, length, map, codes, IsTrue}
use Rattle.svex_shape.specs.declared.shape.Shape.{Shape}
use Rattle.svex_shape.specs.declared.shape.Shape.TheVariants.{Var}
use Rattle.driver_resolve.specs.Drivers.{is_of_wires}
use Rattle.flat_net.specs.declared.flat.Flat.{Flat}
use Rattle.flat_text.specs.Lines.{Text}
use Rattle.flat_lines.specs.Items.{Item, a_wire, a_join, a_node, a_drive, the_end, item_line}

-- what the lines of a design say, but for the first and the last
abbrev pub items_of : Flat → List Item
items_of shown = map a_wire shown.wires ++ (map a_join shown.joins ++ (map a_node shown.arena ++ map a_drive shown.drivers))

-- all lines but the last
abbrev pub front_of : Flat → List Text
front_of shown = codes "flat 1" ∷ map item_line (items_of shown)

-- a design with what one line more says
abbrev pub with_item : Flat → Item → Flat
with_item shown (a_wire s) = record { arena = shown.arena; wires = shown.wires ++ (s ∷ []); drivers = shown.drivers; joins = shown.joins }
with_item shown (a_join j) = record { arena = shown.arena; wires = shown.wires; drivers = shown.drivers; joins = shown.joins ++ (j ∷ []) }
with_item shown (a_node s) = record { arena = shown.arena ++ (s ∷ []); wires = shown.wires; drivers = shown.drivers; joins = shown.joins }
with_item shown (a_drive d) = record { arena = shown.arena; wires = shown.wires; drivers = shown.drivers ++ (d ∷ []); joins = shown.joins }
with_item shown the_end = shown

-- Whether such a line may come next: wires, joins, nodes and drivers stand in this order.
abbrev pub comes : Flat → Item → Bool
comes shown (a_wire s) = (length shown.joins == 0) && ((length shown.arena == 0) && (length shown.drivers == 0))
comes shown (a_join j) = (length shown.arena == 0) && (length shown.drivers == 0)
comes shown (a_node s) = length shown.drivers == 0
comes shown (a_drive d) = true
comes shown the_end = false

-- the variable of a shape is a present or previous value of a wire, at its width
abbrev pub NamesWire : List ℕ → Shape → Type 0
NamesWire widths (Var name w) = IsTrue (is_of_wires widths name w)
NamesWire widths shape = Unit {0}
