-- Labels of case statements as nodes.
use Rattle.std.proofs.Common.{◌≡◌, ℕ, ◌+◌, ◌<◌, Bool, List, [], ◌∷◌, ◌++◌, length, drop, get_or, Option, Some, None, refl, sym, ap, ◌∙◌, inl, inr, subst, arith, IfSome}
use Rattle.std.specs.List.{Contains}
use Rattle.std.proofs.lemmas.List.Elements.{Contains-append_left, Contains-append_right, Contains-append_cases}
use Rattle.std.proofs.lemmas.List.{drop_more, drop_all}
use Rattle.fourvec.specs.declared.Bit.{Bit}
use Rattle.fourvec.specs.declared.Bit.TheVariants.{Zero}
use Rattle.fourvec.specs.Bits.{planes, eq_of, and_of, or_of}
use Rattle.svex_shape.specs.declared.shape.VarName.{VarName}
use Rattle.svex_shape.specs.declared.shape.Shape.{Shape}
use Rattle.svex_shape.specs.Shapes.{width_at}
use Rattle.svex_arena.specs.Arenas.{Extends}
use Rattle.svex_arena.proofs.Keeping.{extends_on}
use Rattle.svex_arena.proofs.Steps.{value-extends, width-extends, variables-extends}
use Rattle.driver_resolve.specs.Drivers.{bitwise}
use Rattle.sv_meaning.specs.Layouts.{Read, NamedSignal}
use Rattle.sv_typed.specs.declared.tree.Typed.{Typed}
use Rattle.sv_typed.specs.Typed.{worth, names_of, names_together, literal_of}
use Rattle.sv_meaning.specs.Deeds.{same_value}
use Rattle.sv_lower.specs.Nodes.{bits_at_node, IsConstant, FromTwo}
use Rattle.sv_actions.specs.declared.action.Case.{Case}
use Rattle.sv_actions.specs.Doing.{label_equals, label_matches}
use Rattle.sv_stores.specs.declared.scene.Scene.{Scene}
use Rattle.sv_stores.specs.Scenes.{store_of, reads_in, HoldsIn, AreNodes, IsScene, Yields}
use Rattle.sv_blocks.specs.Masks.{equal_masked}
use Rattle.sv_stores.proofs.Stores.{store_kept}
use Rattle.sv_stores.proofs.Yielding.{yields_two, yields_later}

-- ---- equality

pub equal_all : (old new : List Shape) (mask : Option (List Bit)) (a b w n : ℕ) → mask ≡ None → w ≡ 1 → FromTwo old new eq_of a b w n → FromTwo old new (equal_masked mask) a b 1 n
equal_all old new mask a b w n e d h = record {
  within = h.within;
  width = h.width ∙ d;
  value = λ bits. h.value bits ∙ sym (ap (λ m. equal_masked m (bits_at_node bits old a) (bits_at_node bits old b)) e);
  mentions = h.mentions;
}

pub equal_some : (old one two three new : List Shape) (mask : Option (List Bit)) (m : List Bit) (a b c x y u v w n : ℕ) → mask ≡ Some m → w ≡ 1 → a < length old → b < length old → Extends old one → Extends one two → Extends two three
    → IsConstant one m c → FromTwo one two and_of a c u x → FromTwo two three and_of b c v y → FromTwo three new eq_of x y w n → FromTwo old new (equal_masked mask) a b 1 n
equal_some old one two three new mask m a b c x y u v w n e d la lb f g h k p q r = record {
  within = r.within;
  width = r.width ∙ d;
  value = λ bits.
      let c_one : bits_at_node bits one c ≡ m = k.value bits in
      let c_two : bits_at_node bits two c ≡ m = value-extends (bitwise bits) one two c g k.within ∙ k.value bits in
      let x_is : bits_at_node bits three x ≡ and_of (bits_at_node bits old a) m =
      value-extends (bitwise bits) two three x h p.within ∙ p.value bits ∙ ap (λ z. and_of z (bits_at_node bits one c)) (value-extends (bitwise bits) old one a f la) ∙ ap (λ z. and_of (bits_at_node bits old a) z) c_one in
      let y_is : bits_at_node bits three y ≡ and_of (bits_at_node bits old b) m =
      q.value bits ∙ ap (λ z. and_of z (bits_at_node bits two c)) (value-extends (bitwise bits) old two b (extends_on old one two f g) lb) ∙ ap (λ z. and_of (bits_at_node bits old b) z) c_two in
      r.value bits ∙ ap (λ z. eq_of z (bits_at_node bits three y)) x_is ∙ ap (λ z. eq_of (and_of (bits_at_node bits old a) m) z) y_is
      ∙ sym (ap (λ z. equal_masked z (bits_at_node bits old a) (bits_at_node bits old b)) e);
  mentions = λ t i j.
      r.mentions t (variables-extends t two three x h p.within ∙ p.mentions t (variables-extends t old one a f la ∙ i) (k.mentions t))
      (q.mentions t (variables-extends t old two b (extends_on old one two f g) lb ∙ j) (variables-extends t one two c g k.within ∙ k.mentions t));
}

-- ---- other functions and other names

pub yields_equal : (scene : Scene) (old new : List Shape) (nodes : List ℕ) (f g : Read → List Bit) (a b : List NamedSignal) (w n : ℕ) → ((read : Read) → f read ≡ g read) → ((s : NamedSignal) → Contains a s → Contains b s)
    → Yields scene old new nodes f a w n → Yields scene old new nodes g b w n
yields_equal scene old new nodes f g a b w n e c h = record {
  within = h.within;
  width = h.width;
  value = λ bits. h.value bits ∙ e (reads_in scene bits (store_of scene old bits nodes));
  mentions = λ p q v. h.mentions p (λ s i. q s (c s i)) v;
}

-- ---- what is compared, which labels find in the arena as it is by then

holds_back : (scene : Scene) (old new : List Shape) (p : VarName → ℕ → Bool) (nodes : List ℕ) → AreNodes scene old nodes → Extends old new → HoldsIn p new nodes → HoldsIn p old nodes
holds_back scene old new p nodes are e h = λ i l. sym (variables-extends p old new (get_or nodes i 0) e (are.within i l)) ∙ h i l

-- a node that was just made, over nodes that were there before it
pub yields_made : (scene : Scene) (old new : List Shape) (nodes : List ℕ) (f : Read → List Bit) (names : List NamedSignal) (w n : ℕ) → IsScene scene → AreNodes scene old nodes → Extends old new
    → Yields scene old new nodes f names w n → Yields scene new new nodes f names w n
yields_made scene old new nodes f names w n sc are e h = record {
  within = h.within;
  width = h.width;
  value = λ bits. h.value bits ∙ sym (ap (λ t. f (reads_in scene bits t)) (store_kept scene old new bits nodes sc are e));
  mentions = λ p a v. h.mentions p a (holds_back scene old new p nodes are e v);
}

-- the same node, as the arena grows
pub yields_kept : (scene : Scene) (old new : List Shape) (nodes : List ℕ) (f : Read → List Bit) (names : List NamedSignal) (w n : ℕ) → IsScene scene → AreNodes scene old nodes → Extends old new
    → Yields scene old old nodes f names w n → Yields scene new new nodes f names w n
yields_kept scene old new nodes f names w n sc are e h = yields_made scene old new nodes f names w n sc are e (yields_later scene old old new nodes f names w n e h)

-- and over a state that has the same nodes by then
pub yields_over : (scene : Scene) (old new : List Shape) (nodes others : List ℕ) (f : Read → List Bit) (names : List NamedSignal) (w n : ℕ) → others ≡ nodes → IsScene scene → AreNodes scene old nodes → Extends old new
    → Yields scene old old nodes f names w n → Yields scene new new others f names w n
yields_over scene old new nodes others f names w n is sc are e h = subst (λ xs. Yields scene new new xs f names w n) (sym is) (yields_kept scene old new nodes f names w n sc are e h)

-- ---- one label

pub label_yields : (scene : Scene) (old mid low new : List Shape) (nodes : List ℕ) (c : Case) (value label : Typed) (mask : Option (List Bit)) (x y n : ℕ) → IsScene scene → AreNodes scene old nodes → Extends old mid → Extends mid low → value ≡ c.value
    → ((a b : List Bit) → equal_masked mask a b ≡ same_value c.masked c.width c.signed (literal_of label) a b)
    → Yields scene old mid nodes (λ read. worth value read c.width c.signed) (names_of value) c.width x → Yields scene mid low nodes (λ read. worth label read c.width c.signed) (names_of label) c.width y
    → FromTwo low new (equal_masked mask) x y 1 n → Yields scene old new nodes (λ read. label_equals c read label) (names_of c.value ++ names_of label) 1 n
label_yields scene old mid low new nodes c value label mask x y n sc are d e is same h k z =
    yields_equal scene old new nodes _ _ (names_of value ++ names_of label) (names_of c.value ++ names_of label) 1 n
    (λ read. same (worth value read c.width c.signed) (worth label read c.width c.signed) ∙ ap (λ t. same_value c.masked c.width c.signed (literal_of label) (worth t read c.width c.signed) (worth label read c.width c.signed)) is)
    (λ s i. subst (λ t. Contains (names_of t ++ names_of label) s) is i)
    (yields_two scene old mid low new nodes (λ read. worth value read c.width c.signed) (λ read. worth label read c.width c.signed) (names_of value) (names_of label) c.width c.width (equal_masked mask) x y 1 n sc are d e h k z)

-- ---- labels, from the last backwards

zero_is : planes 1 0 0 ≡ Zero ∷ []
unfolding planes
zero_is = refl

pub labels_none : (scene : Scene) (old new : List Shape) (nodes : List ℕ) (c : Case) (labels : List Typed) (at : ℕ) (v : List Bit) (n : ℕ) → at ≡ length labels → v ≡ planes 1 0 0 → IsConstant new v n
    → Yields scene old new nodes (λ read. label_matches c read (drop at labels)) (names_of c.value ++ names_together (drop at labels)) 1 n
unfolding label_matches
labels_none scene old new nodes c labels at v n e d h =
    let bits_are : v ≡ Zero ∷ [] = d ∙ zero_is in
    record {
      within = h.within;
      width = h.width ∙ ap length bits_are;
      value = λ bits. h.value bits ∙ bits_are ∙ sym (ap (λ xs. label_matches c (reads_in scene bits (store_of scene old bits nodes)) xs) (drop_all at labels (omega arith)));
      mentions = λ p a v. h.mentions p;
    }

names_on : (labels : List Typed) (i : ℕ) (a : Typed) (s : NamedSignal) → i < length labels → a ≡ get_or labels i a → (Contains (names_of a) s → Contains (names_together (drop i labels)) s) × (Contains (names_together (drop (i + 1) labels)) s → Contains (names_together (drop i labels)) s)
unfolding names_together
names_on labels i a s l e =
    let is : drop i labels ≡ a ∷ drop (i + 1) labels = drop_more labels i a l ∙ ap (λ x. x ∷ drop (i + 1) labels) (sym e) in (
      λ h. subst (λ xs. Contains (names_together xs) s) (sym is) (Contains-append_left (names_of a) (names_together (drop (i + 1) labels)) s h),
      λ h. subst (λ xs. Contains (names_together xs) s) (sym is) (Contains-append_right (names_of a) (names_together (drop (i + 1) labels)) s h),
    )

matches_on : (c : Case) (read : Read) (labels : List Typed) (i : ℕ) (a : Typed) → i < length labels → a ≡ get_or labels i a → or_of (label_equals c read a) (label_matches c read (drop (i + 1) labels)) ≡ label_matches c read (drop i labels)
unfolding label_matches
matches_on c read labels i a l e = sym (ap (label_matches c read) (drop_more labels i a l ∙ ap (λ x. x ∷ drop (i + 1) labels) (sym e)))

either_in : (a b d : List NamedSignal) (s : NamedSignal) → (Contains a s → Contains d s) → (Contains b s → Contains d s) → Contains (a ++ b) s → Contains d s
either_in a b d s f g h = elim (Contains-append_cases a b s h) [ inl x ↦ f x | inr y ↦ g y ]

pub labels_more : (scene : Scene) (old mid low new : List Shape) (nodes : List ℕ) (c : Case) (labels : List Typed) (i j : ℕ) (a : Typed) (more here w n : ℕ) → IsScene scene → AreNodes scene old nodes → Extends old mid → Extends mid low
    → i < length labels → j ≡ i + 1 → a ≡ get_or labels i a → w ≡ 1
    → Yields scene old mid nodes (λ read. label_matches c read (drop j labels)) (names_of c.value ++ names_together (drop j labels)) 1 more
    → Yields scene mid low nodes (λ read. label_equals c read a) (names_of c.value ++ names_of a) 1 here
    → FromTwo low new or_of here more w n
    → Yields scene old new nodes (λ read. label_matches c read (drop i labels)) (names_of c.value ++ names_together (drop i labels)) 1 n
labels_more scene old mid low new nodes c labels i j a more here w n sc are d e l next is one h k z =
    let turned : FromTwo low new (λ m x. or_of x m) more here 1 n = record { within = z.within; width = z.width ∙ one; value = z.value; mentions = λ p u v. z.mentions p v u } in
    yields_equal scene old new nodes _ _ ((names_of c.value ++ names_together (drop j labels)) ++ (names_of c.value ++ names_of a)) (names_of c.value ++ names_together (drop i labels)) 1 n
    (λ read. ap (λ m. or_of (label_equals c read a) (label_matches c read (drop m labels))) next ∙ matches_on c read labels i a l is)
    (λ s. either_in (names_of c.value ++ names_together (drop j labels)) (names_of c.value ++ names_of a) _ s
    (either_in (names_of c.value) (names_together (drop j labels)) _ s (Contains-append_left (names_of c.value) (names_together (drop i labels)) s)
    (λ x. Contains-append_right (names_of c.value) (names_together (drop i labels)) s ((names_on labels i a s l is).1 (subst (λ m. Contains (names_together (drop m labels)) s) next x))))
    (either_in (names_of c.value) (names_of a) _ s (Contains-append_left (names_of c.value) (names_together (drop i labels)) s)
    (λ x. Contains-append_right (names_of c.value) (names_together (drop i labels)) s ((names_on labels i a s l is).0 x))))
    (yields_two scene old mid low new nodes (λ read. label_matches c read (drop j labels)) (λ read. label_equals c read a) (names_of c.value ++ names_together (drop j labels)) (names_of c.value ++ names_of a) 1 1 (λ m x. or_of x m) more here 1 n sc are d e h k turned)

-- ---- widths that fit

pub fits_mask : (old one : List Shape) (a c : ℕ) (m : List Bit) → Extends old one → a < length old → IsConstant one m c → length m ≡ width_at old a → width_at one a ≡ width_at one c
fits_mask old one a c m e l k d = width-extends old one a e l ∙ sym (k.width ∙ d)

pub fits_other : (old one two : List Shape) (a b c : ℕ) (m : List Bit) → Extends old one → Extends one two → b < length old → width_at old a ≡ width_at old b → IsConstant one m c → length m ≡ width_at old a → width_at two b ≡ width_at two c
fits_other old one two a b c m e f l same k d = width-extends old two b (extends_on old one two e f) l ∙ sym same ∙ sym d ∙ sym k.width ∙ sym (width-extends one two c f k.within)

pub fits_both : (old one two three : List Shape) (a b c x y u v : ℕ) → Extends old one → Extends one two → Extends two three → a < length old → b < length old → width_at old a ≡ width_at old b
    → u ≡ width_at one a → v ≡ width_at two b → FromTwo one two and_of a c u x → FromTwo two three and_of b c v y → width_at three x ≡ width_at three y
fits_both old one two three a b c x y u v e f g la lb same du dv p q =
    width-extends two three x g p.within ∙ p.width ∙ du ∙ width-extends old one a e la ∙ same ∙ sym (q.width ∙ dv ∙ width-extends old two b (extends_on old one two e f) lb)

pub same_width : (scene : Scene) (old mid low : List Shape) (nodes : List ℕ) (f g : Read → List Bit) (a b : List NamedSignal) (w x y : ℕ) → Extends mid low → Yields scene old mid nodes f a w x → Yields scene mid low nodes g b w y → width_at low x ≡ width_at low y
same_width scene old mid low nodes f g a b w x y e h k = width-extends mid low x e h.within ∙ h.width ∙ sym k.width

pub mask_width : (scene : Scene) (old mid low : List Shape) (nodes : List ℕ) (f : Read → List Bit) (a : List NamedSignal) (w x : ℕ) (o : Option (List Bit)) → Extends mid low → Yields scene old mid nodes f a w x → IfSome o (λ m. length m ≡ w) → IfSome o (λ m. length m ≡ width_at low x)
mask_width scene old mid low nodes f a w x o e h k = subst (λ n. IfSome o (λ m. length m ≡ n)) (sym (width-extends mid low x e h.within ∙ h.width)) k

pub ones_fit : (mid low : List Shape) (x y : ℕ) → Extends mid low → y < length mid → width_at low x ≡ 1 → width_at mid y ≡ 1 → width_at low x ≡ width_at low y
ones_fit mid low x y e l a b = a ∙ sym (width-extends mid low y e l ∙ b)
