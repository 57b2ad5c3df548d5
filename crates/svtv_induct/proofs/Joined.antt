-- Nodes of the bits of segments, and rows of them.
use Rattle.std.proofs.Common.{◌≡◌, ℕ, ◌+◌, ◌<◌, ◌≤◌, List, [], ◌∷◌, ◌++◌, length, take, drop, get_or, refl, sym, ap, ◌∙◌, subst, inl, inr, arith}
use Rattle.std.specs.Prelude.{Option, None, Some}
use Rattle.std.specs.List.{All}
use Rattle.std.proofs.lemmas.Bool.{cases_eq}
use Rattle.std.proofs.lemmas.List.{get_or-take, get_or_append_left, get_or_push, length-append, length_push, length-take-le, map-append, take-append-drop, take_more}
use Rattle.std.proofs.lemmas.List.Elements.{All-head}
use Rattle.fourvec.specs.declared.Bit.{Bit}
use Rattle.lhs_alias.specs.Lies.{LieIn, LiesIn}
use Rattle.lhs_alias.specs.Segs.{lhs_bits, seg_bits}
use Rattle.lhs_alias.specs.declared.segs.Seg.{Seg}
use Rattle.lhs_alias.specs.declared.segs.WireBit.{WireBit}
use Rattle.lhs_alias.proofs.Lying.{All-left, All-right}
use Rattle.lhs_alias.proofs.SegBits.{length-seg_bits, lhs_bits-append, lhs_bits-take_more}
use Rattle.settling.specs.Settling.{value_at as value_in}
use Rattle.svex_arena.specs.Arenas.{Extends}
use Rattle.svex_arena.proofs.Steps.{width-extends}
use Rattle.svex_shape.specs.declared.shape.Shape.{Shape}
use Rattle.svex_shape.specs.Values.{Vector}
use Rattle.svtv_table.specs.Binding.{HasWidth}
use Rattle.svtv_table.specs.declared.bound.VarDecl.{VarDecl}
use Rattle.svtv_unroll.specs.Rows.{IsRow}
use Rattle.svtv_unroll.specs.Unrolled.{vector_of}
use Rattle.svtv_induct.specs.States.{AreJoined, AreOwn, ArePartsOf, AreWideFirsts, HasParts, HasValue, HaveWires, bits_in, own_bits, own_state, width_of_var}
use Rattle.svtv_induct.proofs.Nodes.{value_as, value_kept, var_has_width}

-- ---- lists that get one element more

pub each_push : {X : Type 0} → (P : ℕ → X → Type 0) (xs : List X) (d x : X) (count : ℕ) → length xs ≡ count → ((n : ℕ) → n < count → P n (get_or xs n d)) → P count x → (n : ℕ) → n < count + 1 → P n (get_or (xs ++ x ∷ []) n d)
each_push P xs d x count many h last n l = elim (cases_eq n count) [
  | inl same ↦ subst (λ k. P k (get_or (xs ++ x ∷ []) k d)) (sym same) (subst (P count) (sym (get_or_push xs x d count many)) last)
  | inr ne ↦ let less : n < count = omega (arith, l, ne) in subst (P n) (sym (get_or_append_left xs (x ∷ []) d n (omega (arith, less, many)))) (h n less)
]

-- ---- nodes for wires, as the graph grows

pub own_kept : (vars : List VarDecl) (old new : List Shape) (widths : List ℕ) (before : ℕ) (nodes : List ℕ) (count : ℕ) → Extends old new → AreOwn vars old widths before nodes count → AreOwn vars new widths before nodes count
own_kept vars old new widths before nodes count e h = record {
  as_many = h.as_many;
  each = λ n l.
      value_kept vars old new (get_or widths n 0) (get_or nodes n 0) (λ choice. vector_of (own_state choice before (length widths) n) (get_or widths n 0)) e (h.each n l);
}

-- the node of a wire, whose variables have these numbers
pub own_at : (vars : List VarDecl) (shapes : List Shape) (widths : List ℕ) (before n first second node : ℕ) → HaveWires vars widths before → n < length widths → first ≡ before + n → second ≡ before + length widths + n
    → HasValue vars shapes (width_of_var vars first) (λ choice. vector_of (own_bits first second choice) (width_of_var vars first)) node
    → HasValue vars shapes (get_or widths n 0) (λ choice. vector_of (own_state choice before (length widths) n) (get_or widths n 0)) node
own_at vars shapes widths before n first second node h l ef es x =
    subst (λ w. HasValue vars shapes w (λ choice. vector_of (own_state choice before (length widths) n) w) node) (h.first n l).wide
    (subst (λ k. HasValue vars shapes (width_of_var vars (before + n)) (λ choice. vector_of (own_bits (before + n) k choice) (width_of_var vars (before + n))) node) es
    (subst (λ k. HasValue vars shapes (width_of_var vars k) (λ choice. vector_of (own_bits k second choice) (width_of_var vars k)) node) ef x))

pub own_push : (vars : List VarDecl) (old new : List Shape) (widths : List ℕ) (before : ℕ) (nodes : List ℕ) (count node : ℕ) → Extends old new → AreOwn vars old widths before nodes count
    → HasValue vars new (get_or widths count 0) (λ choice. vector_of (own_state choice before (length widths) count) (get_or widths count 0)) node → AreOwn vars new widths before (nodes ++ node ∷ []) (count + 1)
own_push vars old new widths before nodes count node e own h =
    let f : ℕ → List Vector → Vector = λ n choice. vector_of (own_state choice before (length widths) n) (get_or widths n 0) in
    record {
      as_many = length_push nodes node ∙ (let s = own.as_many in omega (arith, s));
      each = each_push (λ n k. HasValue vars new (get_or widths n 0) (f n) k) nodes 0 node count own.as_many (λ n l. value_kept vars old new (get_or widths n 0) (get_or nodes n 0) (f n) e (own.each n l)) h;
    }

-- ---- bits of segments

pub taken_first : (segs : List Seg) (d : Seg) → 0 < length segs → lhs_bits (take 1 segs) ≡ seg_bits (get_or segs 0 d)
taken_first [] d l = absurd (omega (arith, l))
taken_first (s ∷ segs) d l = refl

pub taken_most : (n : ℕ) (segs : List Seg) → length (lhs_bits (take n segs)) ≤ length (lhs_bits segs)
taken_most n segs =
    let whole : length (lhs_bits (take n segs ++ drop n segs)) ≡ length (lhs_bits segs) = ap (λ (xs : List Seg). length (lhs_bits xs)) (take-append-drop n segs) in
    let parts : length (lhs_bits (take n segs ++ drop n segs)) ≡ length (lhs_bits (drop n segs) ++ lhs_bits (take n segs)) = ap (λ (xs : List WireBit). length xs) (lhs_bits-append (take n segs) (drop n segs)) in
    omega (arith, whole, parts, length-append (lhs_bits (drop n segs)) (lhs_bits (take n segs)))

pub taken_long : (segs : List Seg) (n : ℕ) (d : Seg) → n < length segs → length (lhs_bits (take (n + 1) segs)) ≡ (get_or segs n d).width + length (lhs_bits (take n segs))
taken_long segs n d l =
    ap (λ (xs : List WireBit). length xs) (lhs_bits-take_more segs n d l) ∙ length-append (seg_bits (get_or segs n d)) (lhs_bits (take n segs))
    ∙ ap (λ k. k + length (lhs_bits (take n segs))) (length-seg_bits (get_or segs n d))

pub some_segs : (segs : List Seg) → 0 < length (lhs_bits segs) → 0 < length segs
some_segs [] l = absurd (omega (arith, l))
some_segs (s ∷ segs) l = omega arith

-- ---- nodes of segments

pub parts_kept : (old new : List Shape) (own : List ℕ) (segs : List Seg) → Extends old new → ArePartsOf old own segs → ArePartsOf new own segs
parts_kept old new own segs e h = record {
  some = h.some;
  most = h.most;
  each = λ k d l.
      let p = h.each k d l in
      let s = get_or segs k d in
      record {
        wire = p.wire;
        there = omega (arith, p.there, e.longer);
        some = p.some;
        within = subst (λ w. s.lo + s.width ≤ w) (sym (width-extends old new (get_or own s.wire 0) e p.there)) p.within;
      };
}

pub parts_first : (old new : List Shape) (own : List ℕ) (segs : List Seg) (d : Seg) (node : ℕ) → 0 < length segs
    → ((vars : List VarDecl) (widths : List ℕ) (before : ℕ) → AreOwn vars old widths before own (length widths) → LiesIn widths (get_or segs 0 d)
    → HasValue vars new (get_or segs 0 d).width (λ choice. bits_in (own_state choice before (length widths)) (seg_bits (get_or segs 0 d))) node)
    → HasParts old own (take 1 segs) new node
parts_first old new own segs d node l h = λ vars widths before all lie.
    let s = get_or segs 0 d in
    let f : List WireBit → List Vector → Vector = λ bits choice. bits_in (own_state choice before (length widths)) bits in
    let one : 0 < length (take 1 segs) = (let t = length-take-le 1 segs l in omega (arith, t)) in
    let lies : LiesIn widths s = subst (LiesIn widths) (get_or-take 1 segs 0 d (omega arith)) (lie 0 d one) in
    subst (λ (bits : List WireBit). HasValue vars new (length bits) (f bits) node) (sym (taken_first segs d l))
    (subst (λ w. HasValue vars new w (f (seg_bits s)) node) (sym (length-seg_bits s)) (h vars widths before all lies))

pub parts_more : (old mid next new : List Shape) (own : List ℕ) (segs : List Seg) (at : ℕ) (d : Seg) (made low node : ℕ) → at < length segs → Extends old mid → Extends mid next → HasParts old own (take at segs) mid made
    → ((vars : List VarDecl) (widths : List ℕ) (before : ℕ) → AreOwn vars mid widths before own (length widths) → LiesIn widths (get_or segs at d)
    → HasValue vars next (get_or segs at d).width (λ choice. bits_in (own_state choice before (length widths)) (seg_bits (get_or segs at d))) low)
    → ((vars : List VarDecl) (a b : ℕ) (f g : List (List Bit) → Vector) → HasValue vars next a f made → HasValue vars next b g low → HasValue vars new (b + a) (λ choice. g choice ++ f choice) node)
    → HasParts old own (take (at + 1) segs) new node
parts_more old mid next new own segs at d made low node l e1 e2 hm hl ha = λ vars widths before all lie.
    let s = get_or segs at d in
    let bits : List WireBit = lhs_bits (take at segs) in
    let f : List WireBit → List Vector → Vector = λ bs choice. bits_in (own_state choice before (length widths)) bs in
    let both : LieIn widths (take at segs ++ s ∷ []) = subst (LieIn widths) (take_more segs at d l) lie in
    let m = value_kept vars mid next (length bits) made (f bits) e2 (hm vars widths before all (All-left (LiesIn widths) (take at segs) (s ∷ []) both)) in
    let p = hl vars widths before (own_kept vars old mid widths before own (length widths) e1 all) (All-head (LiesIn widths) s [] (All-right (LiesIn widths) (take at segs) (s ∷ []) both)) in
    let r = ha vars (length bits) s.width (f bits) (f (seg_bits s)) m p in
    let long : s.width + length bits ≡ length (seg_bits s ++ bits) = sym (length-append (seg_bits s) bits ∙ ap (λ k. k + length bits) (length-seg_bits s)) in
    subst (λ (bs : List WireBit). HasValue vars new (length bs) (f bs) node) (sym (lhs_bits-take_more segs at d l))
    (value_as vars new (length (seg_bits s ++ bits)) node (λ choice. f (seg_bits s) choice ++ f bits choice) (f (seg_bits s ++ bits))
    (λ choice. sym (map-append (value_in (own_state choice before (length widths))) (seg_bits s) bits))
    (subst (λ w. HasValue vars new w (λ choice. f (seg_bits s) choice ++ f bits choice) node) long r))

-- ---- rows

-- what the variables of a wire say of its width
pub wire_has_width : (vars : List VarDecl) (widths : List ℕ) (before n : ℕ) → All (λ v. HasWidth v.width) vars → HaveWires vars widths before → n < length widths → HasWidth (get_or widths n 0)
wire_has_width vars widths before n h w l =
    let one = w.first n l in
    subst (λ k. HasWidth k) one.wide (var_has_width vars (before + n) h one.there)

pub parts_of : (vars : List VarDecl) (shapes : List Shape) (widths : List ℕ) (before : ℕ) (own : List ℕ) (firsts : List (List Seg)) (n : ℕ) → HasWidth (get_or widths n 0) → AreOwn vars shapes widths before own (length widths)
    → AreWideFirsts widths firsts → n < length widths → ArePartsOf shapes own (get_or firsts n [])
parts_of vars shapes widths before own firsts n width h w l = record {
  some = some_segs (get_or firsts n []) (omega (arith, w.wide n l, width.0));
  most = omega (arith, w.wide n l, width.1);
  each = λ k d lt.
      let lies = w.lie n l k d lt in
      let s = get_or (get_or firsts n []) k d in
      let node = h.each s.wire lies.wire in
      record {
        wire = omega (arith, lies.wire, h.as_many);
        there = node.over.there;
        some = lies.whole.some;
        within = subst (λ k. s.lo + s.width ≤ k) (sym node.over.wide) lies.ends;
      };
}

pub joined_none : (vars : List VarDecl) (shapes : List Shape) (widths : List ℕ) (before : ℕ) (firsts : List (List Seg)) → AreJoined vars shapes widths before firsts [] 0
joined_none vars shapes widths before firsts = record { as_many = refl; each = λ n l. absurd (omega (arith, l)) }

pub joined_push : (vars : List VarDecl) (old new : List Shape) (widths : List ℕ) (before : ℕ) (firsts : List (List Seg)) (row : List (Option ℕ)) (count node : ℕ) → Extends old new → AreJoined vars old widths before firsts row count
    → HasValue vars new (get_or widths count 0) (λ choice. bits_in (own_state choice before (length widths)) (lhs_bits (get_or firsts count []))) node → AreJoined vars new widths before firsts (row ++ Some node ∷ []) (count + 1)
joined_push vars old new widths before firsts row count node e j h =
    let f : ℕ → List Vector → Vector = λ n choice. bits_in (own_state choice before (length widths)) (lhs_bits (get_or firsts n [])) in
    record {
      as_many = length_push row (Some node) ∙ (let s = j.as_many in omega (arith, s));
      each = each_push (λ n o. (m : ℕ) × (o ≡ Some m) × HasValue vars new (get_or widths n 0) (f n) m) row None (Some node) count j.as_many
          (λ n l. let own = j.each n l in (own.0, own.1, value_kept vars old new (get_or widths n 0) own.0 (f n) e own.2)) (node, refl, h);
    }

-- one wire more
pub joined_more : (vars : List VarDecl) (first old new : List Shape) (own widths : List ℕ) (before : ℕ) (firsts : List (List Seg)) (segs : List Seg) (row : List (Option ℕ)) (count node : ℕ) → Extends first old → Extends old new
    → AreOwn vars first widths before own (length widths) → AreWideFirsts widths firsts → count < length firsts → segs ≡ get_or firsts count [] → AreJoined vars old widths before firsts row count → HasParts old own segs new node
    → AreJoined vars new widths before firsts (row ++ Some node ∷ []) (count + 1)
joined_more vars first old new own widths before firsts segs row count node e1 e2 all wide l is j h =
    let inside : count < length widths = omega (arith, l, wide.many) in
    let mine = subst (λ (ss : List Seg). HasParts old own ss new node) is h in
    joined_push vars old new widths before firsts row count node e2 j
    (subst (λ w. HasValue vars new w (λ choice. bits_in (own_state choice before (length widths)) (lhs_bits (get_or firsts count []))) node) (wide.wide count inside)
    (mine vars widths before (own_kept vars first old widths before own (length widths) e1 all) (wide.lie count inside)))

pub row_of_joined : (vars : List VarDecl) (shapes : List Shape) (widths : List ℕ) (before : ℕ) (firsts : List (List Seg)) (row : List (Option ℕ)) → AreJoined vars shapes widths before firsts row (length widths) → IsRow vars shapes widths row
row_of_joined vars shapes widths before firsts row j = record {
  size = j.as_many;
  each = λ n l. let one = j.each n l in record { node = one.0; is = one.1; over = one.2.over };
}

-- the row of nodes that the code holds as a slice
pub joined_as : (vars : List VarDecl) (mid new : List Shape) (widths : List ℕ) (before : ℕ) (own held : List ℕ) (firsts : List (List Seg)) (row : List (Option ℕ)) (count : ℕ) → held ≡ own → length widths ≡ count
    → AreOwn vars mid widths before own count → AreWideFirsts widths firsts
    → ((vars : List VarDecl) (widths : List ℕ) (before : ℕ) → AreOwn vars mid widths before held (length widths) → AreWideFirsts widths firsts → AreJoined vars new widths before firsts row (length firsts))
    → AreJoined vars new widths before firsts row (length widths)
joined_as vars mid new widths before own held firsts row count e many h wide joined =
    let mine : AreOwn vars mid widths before held (length widths) =
    subst (λ (nodes : List ℕ). AreOwn vars mid widths before nodes (length widths)) (sym e) (subst (λ k. AreOwn vars mid widths before own k) (sym many) h) in
    subst (λ k. AreJoined vars new widths before firsts row k) wide.many (joined vars widths before mine wide)
