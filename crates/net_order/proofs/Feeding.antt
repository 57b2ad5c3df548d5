-- Segments by their wires, and those that share a bit with one.
use Rattle.std.proofs.Common.{◌≡◌, ◌≢◌, ℕ, ◌+◌, ◌<◌, true, false, List, [], ◌∷◌, ◌++◌, length, get_or, refl, sym, ap, ◌∙◌, subst, inl, inr, arith, map, take}
use Rattle.std.specs.Prelude.{Contains, IsTrue}
use Rattle.std.proofs.lemmas.Bool.{cases_eq, cases_lt, false≢true, eqb-true, and_parts}
use Rattle.std.proofs.lemmas.List.{length_push, get_or_append_left, get_or_push, get_or_past, take_more, map-append}
use Rattle.std.proofs.lemmas.List.Elements.{Contains-get_or, Contains-append_left, Contains-append_right, Contains-push, Contains-push_cases}
use Rattle.lhs_alias.specs.declared.segs.Seg.{Seg}
use Rattle.net_equations.specs.Equations.{seg_at}
use Rattle.net_order.specs.Rows.{shares, AreByWire, IsFedBy, IsFed}

-- ---- lists by wires

-- one list more, which is empty
pub grown : (old mid new : List (List ℕ)) → ((w : ℕ) → get_or mid w [] ≡ get_or old w []) → new ≡ mid ++ [] ∷ [] → (w : ℕ) → get_or new w [] ≡ get_or old w []
grown old mid new h e w = ap (λ l. get_or l w []) e ∙ more ∙ h w
  where
    more : get_or (mid ++ [] ∷ []) w [] ≡ get_or mid w []
    more = elim (cases_lt w (length mid)) [
      | inl lt ↦ get_or_append_left mid ([] ∷ []) [] w lt
      | inr past ↦ elim (cases_eq (length mid) w) [
        | inl is ↦ get_or_push mid [] [] w is ∙ sym (get_or_past mid w [] past)
        | inr ne ↦ get_or_past (mid ++ [] ∷ []) w [] (omega (arith, past, ne, length_push mid [])) ∙ sym (get_or_past mid w [] past)
      ]
    ]

pub by_wire_none : (segs : List Seg) (lists : List (List ℕ)) → lists ≡ [] → AreByWire segs lists 0
by_wire_none segs lists e = record {
  only = λ wire j c. absurd (nothing wire j (subst (λ l. Contains (get_or l wire []) j) e c));
  all = λ j lt. absurd (omega (arith, lt));
}
  where
    nothing : (wire j : ℕ) → Contains (get_or {A = List ℕ} [] wire []) j → ⊥
    nothing wire j c = omega (arith, c.1)

pub by_wire_more : (segs : List Seg) (old new : List (List ℕ)) (n : ℕ) → AreByWire segs old n
    → get_or new (seg_at segs n).wire [] ≡ get_or old (seg_at segs n).wire [] ++ n ∷ []
    → ((w : ℕ) → w ≢ (seg_at segs n).wire → get_or new w [] ≡ get_or old w []) → AreByWire segs new (n + 1)
by_wire_more segs old new n h here others = record {
  only = λ wire j c. elim (cases_eq wire (seg_at segs n).wire) [
    | inl is ↦ elim (Contains-push_cases (get_or old (seg_at segs n).wire []) n j (subst (λ l. Contains l j) here (subst (λ w. Contains (get_or new w []) j) is c))) [
      | inl was ↦ let o = h.only (seg_at segs n).wire j was in (omega (arith, o.0), o.1 ∙ sym is)
      | inr this ↦ (omega (arith, this), ap (λ k. (seg_at segs k).wire) (sym this) ∙ sym is)
    ]
    | inr ne ↦ let o = h.only wire j (subst (λ l. Contains l j) (others wire ne) c) in (omega (arith, o.0), o.1)
  ];
  all = λ j lt. elim (cases_eq j n) [
    | inl is ↦ subst (λ k. Contains (get_or new (seg_at segs k).wire []) j) (sym is) (subst (λ l. Contains l j) (sym here) (subst (Contains (get_or old (seg_at segs n).wire [] ++ n ∷ [])) (sym is) (Contains-push (get_or old (seg_at segs n).wire []) n)))
    | inr ne ↦
        let was : Contains (get_or old (seg_at segs j).wire []) j = h.all j (omega (arith, lt, ne)) in
        elim (cases_eq (seg_at segs j).wire (seg_at segs n).wire) [
          | inl same ↦
              subst (λ w. Contains (get_or new w []) j) (sym same)
              (subst (λ l. Contains l j) (sym here) (Contains-append_left (get_or old (seg_at segs n).wire []) (n ∷ []) j (subst (λ w. Contains (get_or old w []) j) same was)))
          | inr other ↦ subst (λ l. Contains l j) (sym (others (seg_at segs j).wire other)) was
        ]
  ];
}

-- ---- places of segments that share a bit with one

alone : (x y : ℕ) → Contains (x ∷ []) y → y ≡ x
alone x y h = let l : h.0 < 1 = h.1 in let z : h.0 ≡ 0 = omega (arith, l) in sym (subst (λ (i : ℕ). get_or (x ∷ []) i y ≡ y) z h.2)

pub fed_one_yes : (segs : List Seg) (nodes : ℕ) (seg : Seg) (n : ℕ) (old new : List ℕ) → IsTrue (shares seg (seg_at segs n)) → new ≡ old ++ (nodes + n) ∷ [] → IsFedBy segs nodes seg (n ∷ []) old new
fed_one_yes segs nodes seg n old new has e = record {
  keeps = λ x c. subst (λ l. Contains l x) (sym e) (Contains-append_left old ((nodes + n) ∷ []) x c);
  adds = λ j c s. subst (λ l. Contains l (nodes + j)) (sym e) (subst (λ k. Contains (old ++ (nodes + n) ∷ []) (nodes + k)) (sym (alone n j c)) (Contains-push old (nodes + n)));
  only = λ x c. elim (Contains-push_cases old (nodes + n) x (subst (λ l. Contains l x) e c)) [
    | inl was ↦ inl was
    | inr is ↦ inr (n, (Contains-get_or (n ∷ []) 0 0 (omega arith), (has, sym is)))
  ];
}

pub fed_one_no : (segs : List Seg) (nodes : ℕ) (seg : Seg) (n : ℕ) (old : List ℕ) → shares seg (seg_at segs n) ≡ false → IsFedBy segs nodes seg (n ∷ []) old old
fed_one_no segs nodes seg n old no_bit = record {
  keeps = λ x c. c;
  adds = λ j c s. absurd (false≢true (sym no_bit ∙ subst (λ k. shares seg (seg_at segs k) ≡ true) (alone n j c) s));
  only = λ x c. inl c;
}

pub fed_by_none : (segs : List Seg) (nodes : ℕ) (seg : Seg) (numbers old : List ℕ) → numbers ≡ [] → IsFedBy segs nodes seg numbers old old
fed_by_none segs nodes seg numbers old e = record {
  keeps = λ x c. c;
  adds = λ j c s. absurd (let k = subst (λ l. Contains l j) e c in omega (arith, k.1));
  only = λ x c. inl c;
}

pub fed_by_more : (segs : List Seg) (nodes : ℕ) (seg : Seg) (numbers more : List ℕ) (n : ℕ) (old mid new : List ℕ) → more ≡ numbers ++ n ∷ []
    → IsFedBy segs nodes seg numbers old mid → IsFedBy segs nodes seg (n ∷ []) mid new → IsFedBy segs nodes seg more old new
fed_by_more segs nodes seg numbers more n old mid new e h one = record {
  keeps = λ x c. one.keeps x (h.keeps x c);
  adds = λ j c s. elim (Contains-push_cases numbers n j (subst (λ l. Contains l j) e c)) [
    | inl was ↦ one.keeps (nodes + j) (h.adds j was s)
    | inr is ↦ one.adds j (subst (Contains (n ∷ [])) is (Contains-get_or (n ∷ []) 0 0 (omega arith))) s
  ];
  only = λ x c. elim (one.only x c) [
    | inl was ↦ elim (h.only x was) [
      | inl first ↦ inl first
      | inr some ↦ inr (some.0, (subst (λ l. Contains l some.0) (sym e) (Contains-append_left numbers (n ∷ []) some.0 some.1.0), some.1.1))
    ]
    | inr some ↦ inr (some.0, (subst (λ l. Contains l some.0) (sym e) (Contains-append_right numbers (n ∷ []) some.0 some.1.0), some.1.1))
  ];
}

-- ---- of each of some segments

pub fed_none : (segs : List Seg) (nodes : ℕ) (of : List Seg) (row : List ℕ) → of ≡ [] → row ≡ [] → IsFed segs nodes of row
fed_none segs nodes of row e f = record {
  all = λ c j cl jl s. absurd (omega (arith, cl, ap (λ l. length l) e));
  only = λ x c. absurd (let k = subst (λ l. Contains l x) f c in omega (arith, k.1));
}

same-wire : (s t : Seg) → IsTrue (shares s t) → s.wire ≡ t.wire
same-wire s t h = eqb-true s.wire t.wire (and_parts _ _ h).0

pub fed_more : (segs : List Seg) (nodes : ℕ) (of more : List Seg) (seg : Seg) (lists : List (List ℕ)) (row new : List ℕ) → AreByWire segs lists (length segs)
    → more ≡ of ++ seg ∷ [] → IsFed segs nodes of row → IsFedBy segs nodes seg (get_or lists seg.wire []) row new → IsFed segs nodes more new
fed_more segs nodes of more seg lists row new by e h fed = record {
  all = λ c j cl jl s. elim (cases_lt c (length of)) [
    | inl old ↦ fed.keeps (nodes + j) (h.all c j old jl (subst (λ g. IsTrue (shares g (seg_at segs j))) (at-old c old) s))
    | inr past ↦
        let is : c ≡ length of = omega (arith, past, cl, ap (λ l. length l) e, length_push of seg) in
        let yes : IsTrue (shares seg (seg_at segs j)) = subst (λ g. IsTrue (shares g (seg_at segs j))) (ap (seg_at more) is ∙ at-new) s in
        fed.adds j (subst (λ w. Contains (get_or lists w []) j) (sym (same-wire seg (seg_at segs j) yes)) (by.all j jl)) yes
  ];
  only = λ x c. elim (fed.only x c) [
    | inl was ↦
        let o = h.only x was in
        (o.0, (o.1.0, (omega (arith, o.1.1.0, ap (λ l. length l) e, length_push of seg), (o.1.1.1.0, (subst (λ g. IsTrue (shares g (seg_at segs o.1.0))) (sym (at-old o.0 o.1.1.0)) o.1.1.1.1.0, o.1.1.1.1.1)))))
    | inr some ↦
        let within = (by.only seg.wire some.0 some.1.0).0 in
        (length of, (some.0, (omega (arith, ap (λ l. length l) e, length_push of seg), (within, (subst (λ g. IsTrue (shares g (seg_at segs some.0))) (sym at-new) some.1.1.0, some.1.1.1)))))
  ];
}
  where
    at-old : (c : ℕ) → c < length of → seg_at more c ≡ seg_at of c
    at-old c lt = ap (λ l. seg_at l c) e ∙ get_or_append_left of (seg ∷ []) _ c lt

    at-new : seg_at more (length of) ≡ seg
    at-new = ap (λ l. seg_at l (length of)) e ∙ get_or_push of seg _ (length of) refl

pub numbers_below : (segs : List Seg) (lists : List (List ℕ)) (n : ℕ) → AreByWire segs lists n → (wire : ℕ) (numbers : List ℕ) → numbers ≡ get_or lists wire [] → (k d : ℕ) → k < length numbers → get_or numbers k d < n
numbers_below segs lists n h wire numbers e k d lt = (h.only wire (get_or numbers k d) (subst (λ l. Contains l (get_or numbers k d)) e (Contains-get_or numbers k d lt))).0

-- ---- a list that a loop maps

pub map-more : {X Y : Type 0} (f : X → Y) (xs : List X) (i : ℕ) (x : X) (old new : List Y) → i < length xs → x ≡ get_or xs i x → old ≡ map f (take i xs) → new ≡ old ++ f x ∷ [] → new ≡ map f (take (i + 1) xs)
map-more f xs i x old new lt is h e =
    e ∙ ap (λ l. l ++ f x ∷ []) h ∙ sym (ap (map f) (take_more xs i x lt ∙ ap (λ y. take i xs ++ y ∷ []) (sym is)) ∙ map-append f (take i xs) (x ∷ []))
