-- What feeds what in a small design, worked out by hand.
use Rattle.std.proofs.Common.{◌≡◌, ℕ, zero, suc, ◌<◌, true, false, List, [], ◌∷◌, ◌++◌, All, Contains, refl, ap, subst, arith, codes, ◌⊎◌, inl, inr}
use Rattle.std.specs.Bool.{⊤}
use Rattle.std.proofs.lemmas.List.Elements.{All-nil, All-cons, All-contains, All-from_recursion}
use Rattle.fourvec.specs.Bits.{vector}
use Rattle.sv_tree.specs.declared.exprs.Expr.{Expr}
use Rattle.sv_tree.specs.declared.stmts.Lvalue.{Name}
use Rattle.sv_tree.specs.declared.design.Way.TheVariants as way
use Rattle.sv_outside.specs.declared.text.Signal.{Signal}
use Rattle.sv_meaning.specs.Patterns.{index}
use Rattle.sv_meaning.specs.Layouts.{Entry, Scope, scope_of, scalar, plain, number_is, signal_is, of_wires}
use Rattle.lhs_alias.specs.declared.segs.WireBit.{WireBit}
use Rattle.lhs_alias.specs.Segs.{bit}
use Rattle.lhs_alias.specs.Pairs.{itself, up}
use Rattle.settling.specs.Settling.{first_bit}
use Rattle.settling.specs.Settling as settling
use Rattle.settling.proofs.Classes.{first-joined}
use Rattle.sv_meaning.specs.Targets as targets
use Rattle.sv_meaning.specs.Designs.{Design, Work, assignment, port, index_scope, is_joined, links_of, links_of_work, names_now, reaches, work_faults, width_at, IsFirst, Feeds, Reaches, once, further}
use Rattle.sv_meaning.specs.Designs as designs
use Rattle.sv_meaning.specs.Blocks as blocks
use Rattle.sv_meaning.proofs.OnTrees.{expressions}
use Rattle.sv_meaning.proofs.Trees.{at, word, lit, name, selected}

abbrev wire : List ℕ → ℕ → Signal
wire n w = record { path = n; width = w; input = false }

-- In a module above `logic a; logic [1:0] b; logic y; assign y = b; leaf u(a, b);`, and in leaf `assign q = p;`: the input p of one bit
-- and the output q of two are joined to a and b.
abbrev above : Scope
above = scope_of ((codes "a", signal_is of_wires 0 (scalar false)) ∷ (codes "b", signal_is of_wires 1 (plain 2 false)) ∷ (codes "y", signal_is of_wires 2 (scalar false)) ∷ [])

abbrev below : Scope
below = scope_of ((codes "p", signal_is of_wires 3 (scalar false)) ∷ (codes "q", signal_is of_wires 4 (plain 2 false)) ∷ [])

abbrev joined : Design
joined = record {
  wires = wire (codes "a") 1 ∷ wire (codes "b") 2 ∷ wire (codes "y") 1 ∷ wire (codes "u.p") 1 ∷ wire (codes "u.q") 2 ∷ [];
  works =
      assignment above (Name (word 1 (codes "y")) []) (name 3 (codes "b"))
      ∷ port above way.Input 3 (scalar false) (name 5 (codes "a")) ∷ port above way.Output 4 (plain 2 false) (name 7 (codes "b"))
      ∷ assignment below (Name (word 9 (codes "q")) []) (name 11 (codes "p")) ∷ [];
  turns = 0;
}

unfoldable designs_by_hand : ⊤
unfolding expressions settling.first_bit targets.targets targets.widths targets.bit_names targets.slots_from targets.chain_slots targets.slots targets.present targets.chain_fixed targets.are_fixed targets.lvalue_faults blocks.has_bit designs.as_targets designs.part_faults designs.are_present designs.bits_of_wire designs.pairs designs.links_of designs.wires_named
designs_by_hand = tt

links : links_of joined.works ≡ (bit 3 0, bit 0 0) ∷ (bit 4 0, bit 1 0) ∷ (bit 4 1, bit 1 1) ∷ []
unfolding designs_by_hand
links = refl

-- a, b and y are first wires; p is none, as its one bit is joined to a
a_is_first : IsFirst joined 0
unfolding designs_by_hand
a_is_first = record { at = 0; in_wire = omega arith; is_first = refl }

b_is_first : IsFirst joined 1
unfolding designs_by_hand
b_is_first = record { at = 1; in_wire = omega arith; is_first = refl }

y_is_first : IsFirst joined 2
unfolding designs_by_hand
y_is_first = record { at = 0; in_wire = omega arith; is_first = refl }

above_p : (k : ℕ) → k < 1 → first_bit (links_of joined.works) (bit 3 k) ≡ bit 3 k → ⊥
unfolding designs_by_hand
above_p zero h e = let wires : 0 ≡ 3 = ap (λ (b : WireBit). b.wire) e in absurd (omega (arith, wires))
above_p (suc k) h e = absurd (omega (arith, h))

p_is_not_first : IsFirst joined 3 → ⊥
p_is_not_first h = above_p h.at h.in_wire h.is_first

-- in the leaf q, which is b, is given p, which is a
a_feeds_b : Feeds joined 0 1
unfolding designs_by_hand
a_feeds_b = record {
  from_first = a_is_first;
  to_first = b_is_first;
  work = assignment below (Name (word 9 (codes "q")) []) (name 11 (codes "p"));
  is_there = (3, omega arith, refl);
  reached = bit 4 1;
  contributes = (1, omega arith, refl);
  into = record { place = 1; in_wire = omega arith; joined = up (2, omega arith, refl) itself };
  name = 3;
  named = (0, omega arith, refl);
  place = 0;
  in_wire = omega arith;
  from = record { place = 0; in_wire = omega arith; joined = up (0, omega arith, refl) itself };
}

b_feeds_y : Feeds joined 1 2
unfolding designs_by_hand
b_feeds_y = record {
  from_first = b_is_first;
  to_first = y_is_first;
  work = assignment above (Name (word 1 (codes "y")) []) (name 3 (codes "b"));
  is_there = (0, omega arith, refl);
  reached = bit 2 0;
  contributes = (0, omega arith, refl);
  into = record { place = 0; in_wire = omega arith; joined = itself };
  name = 1;
  named = (0, omega arith, refl);
  place = 0;
  in_wire = omega arith;
  from = record { place = 0; in_wire = omega arith; joined = itself };
}

a_reaches_y : Reaches joined 0 2
a_reaches_y = further a_feeds_b (once b_feeds_y)

-- y feeds nothing: only b and p are named, and neither is joined to it
abbrev IsNamed : ℕ → Type 0
IsNamed n = (n ≡ 1) ⊎ (n ≡ 3)

abbrev NamesThese : Work → Type 0
NamesThese w = (n : ℕ) → Contains (names_now joined.wires w) n → IsNamed n

name_of : (m n : ℕ) → IsNamed m → Contains (m ∷ []) n → IsNamed n
name_of m n h k = All-contains IsNamed (m ∷ []) n (All-cons IsNamed m [] h (All-nil IsNamed)) k

names : All NamesThese joined.works
unfolding designs_by_hand
names =
    All-from_recursion NamesThese joined.works
    (λ n h. name_of 1 n (inl refl) h, (λ n h. absurd (omega (arith, h.1)), (λ n h. absurd (omega (arith, h.1)), (λ n h. name_of 3 n (inr refl) h, tt))))

apart : (k n : ℕ) → k < width_at joined n → IsNamed n → (j : ℕ) → first_bit (links_of joined.works) (bit n k) ≡ first_bit (links_of joined.works) (bit 2 j) → ⊥
unfolding designs_by_hand
apart k n h (inl e) j p = from_b k (subst (λ (n : ℕ). k < width_at joined n) e h) (subst (λ (n : ℕ). first_bit (links_of joined.works) (bit n k) ≡ first_bit (links_of joined.works) (bit 2 j)) e p)
  where
    from_b : (k : ℕ) → k < 2 → first_bit (links_of joined.works) (bit 1 k) ≡ first_bit (links_of joined.works) (bit 2 j) → ⊥
    from_b zero h e = let wires : 1 ≡ 2 = ap (λ (b : WireBit). b.wire) e in absurd (omega (arith, wires))
    from_b (suc zero) h e = let wires : 1 ≡ 2 = ap (λ (b : WireBit). b.wire) e in absurd (omega (arith, wires))
    from_b (suc (suc k)) h e = absurd (omega (arith, h))
apart k n h (inr e) j p = from_p k (subst (λ (n : ℕ). k < width_at joined n) e h) (subst (λ (n : ℕ). first_bit (links_of joined.works) (bit n k) ≡ first_bit (links_of joined.works) (bit 2 j)) e p)
  where
    from_p : (k : ℕ) → k < 1 → first_bit (links_of joined.works) (bit 3 k) ≡ first_bit (links_of joined.works) (bit 2 j) → ⊥
    from_p zero h e = let wires : 0 ≡ 2 = ap (λ (b : WireBit). b.wire) e in absurd (omega (arith, wires))
    from_p (suc k) h e = absurd (omega (arith, h))

y_feeds_nothing : (b : ℕ) → Feeds joined 2 b → ⊥
y_feeds_nothing b h =
    let named = All-contains NamesThese joined.works h.work names h.is_there h.name h.named in
    apart h.place h.name h.in_wire named h.from.place (first-joined (links_of joined.works) (bit h.name h.place) (bit 2 h.from.place) h.from.joined)

y_reaches_nothing : (b : ℕ) → Reaches joined 2 b → ⊥
y_reaches_nothing b (once h) = y_feeds_nothing b h
y_reaches_nothing b (further h more) = y_feeds_nothing _ h

-- ---- an index that a net below hides from all but constant expressions

-- `logic [1:0] y` above, `logic P` below, and a constant P = 1 further out
abbrev seen_above : List Entry
seen_above = (codes "P", number_is (vector 32 1) true) ∷ (codes "y", signal_is of_wires 0 (plain 2 false)) ∷ []

abbrev hidden : Scope
hidden = record { all = seen_above ++ (codes "P", signal_is of_wires 1 (scalar false)) ∷ []; above = seen_above }

abbrev y_of_P : Expr
y_of_P = selected 1 (codes "y") (index (at 2) (name 3 (codes "P")))

-- An actual y[P] of an output or an inout is joined by the constant; of an input it is an expression, whose index is the net, and not joined.
output_is_joined : is_joined (index_scope way.Output hidden) hidden (scalar false) y_of_P ≡ true
unfolding designs_by_hand
output_is_joined = refl

output_links : links_of_work (port hidden way.Output 2 (scalar false) y_of_P) ≡ (bit 2 0, bit 0 1) ∷ []
unfolding designs_by_hand
output_links = refl

inout_links : links_of_work (port hidden way.Inout 2 (scalar false) y_of_P) ≡ (bit 2 0, bit 0 1) ∷ []
unfolding designs_by_hand
inout_links = refl

input_is_not_joined : is_joined (index_scope way.Input hidden) hidden (scalar false) y_of_P ≡ false
unfolding designs_by_hand
input_is_not_joined = refl

input_names : names_now [] (port hidden way.Input 2 (scalar false) y_of_P) ≡ 0 ∷ 1 ∷ []
unfolding designs_by_hand
input_names = refl

-- assign y[P] drives the bit of the constant
assigned_bit : reaches (assignment hidden (Name (word 1 (codes "y")) (index (at 2) (name 3 (codes "P")) ∷ [])) (lit 4 (codes "1'b1"))) ≡ bit 0 1 ∷ []
unfolding designs_by_hand
assigned_bit = refl

assigned_legal : work_faults (assignment hidden (Name (word 1 (codes "y")) (index (at 2) (name 3 (codes "P")) ∷ [])) (lit 4 (codes "1'b1"))) 0 ≡ []
unfolding designs_by_hand
assigned_legal = refl

-- in a statement the index is the net, so that each bit may be written
written_bits : targets.bits_named (targets.targets hidden hidden (Name (word 1 (codes "y")) (index (at 2) (name 3 (codes "P")) ∷ []))) ≡ bit 0 0 ∷ bit 0 1 ∷ []
unfolding designs_by_hand
written_bits = refl
