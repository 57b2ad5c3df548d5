-- Clauses over variables that stand for one another, one to one: what is said of the one is said of the other.
use Rattle.std.proofs.Common.{◌≡◌, ℕ, ◌<◌, ◌⊎◌, inl, inr, Bool, true, false, cond, not, eqb, List, [], ◌∷◌, length, get_or, Option, Some, refl, sym, ap, ◌∙◌, subst, arith}
use Rattle.std.specs.List.{All, AllZip, Contains}
use Rattle.std.proofs.lemmas.Bool.{eqb-true, eq-eqb, ne_eqb, eqb-false}
use Rattle.std.proofs.lemmas.List.Elements.{All-contains, All-nil, All-cons, All-head, All-tail, Contains-get_or, length_all_zip, AllZip-get_or}
use Rattle.cnf.specs.declared.Dim.{Dim}
use Rattle.cnf.specs.Clauses.{negate, Valuation, assume, denied, IsFalsified, IsConflict, IsUnit}
use Rattle.refute_check.specs.Accepted.{clause_at, Derives, IsConsistent}

-- no variable stands for two, and none has two that stand for it
pub record IsOneToOne (R : ℕ → ℕ → Type 0) : Type 0 where
  pub forth : (v w x : ℕ) → R v w → R v x → w ≡ x
  pub back : (v w x : ℕ) → R v x → R w x → v ≡ w

abbrev pub Back : (ℕ → ℕ → Type 0) → ℕ → ℕ → Type 0
Back R v w = R w v

pub flipped : (R : ℕ → ℕ → Type 0) → IsOneToOne R → IsOneToOne (Back R)
flipped R o = record { forth = λ v w x a b. o.back w x v a b; back = λ v w x a b. o.forth x v w a b }

-- literals whose variables stand for one another
abbrev pub Mates : (ℕ → ℕ → Type 0) → Dim → Dim → Type 0
Mates R d e = R d.var e.var × (d.negated ≡ e.negated)

abbrev pub Twins : (ℕ → ℕ → Type 0) → List Dim → List Dim → Type 0
Twins R c f = AllZip (Mates R) c f

-- ---- lists side by side

pub zip_flip : {X : Type 0} (R S : X → X → Type 0) → ((x y : X) → R x y → S y x) → (xs ys : List X) → AllZip R xs ys → AllZip S ys xs
zip_flip R S to [] [] h = h
zip_flip R S to [] (y ∷ ys) h = h
zip_flip R S to (x ∷ xs) [] h = h
zip_flip R S to (x ∷ xs) (y ∷ ys) h = (to x y h.0, zip_flip R S to xs ys h.1)

pub twins_flip : (R : ℕ → ℕ → Type 0) (c f : List Dim) → Twins R c f → Twins (Back R) f c
twins_flip R c f h = zip_flip (Mates R) (Mates (Back R)) (λ d e m. (m.0, sym m.1)) c f h

module _ (R : ℕ → ℕ → Type 0) (o : IsOneToOne R) where
  same_test : (v w x y : ℕ) → R v w → R x y → eqb v x ≡ eqb w y
  same_test v w x y a b = either (eqb v x) refl
    where
      either : (t : Bool) → eqb v x ≡ t → eqb v x ≡ eqb w y
      either true e =
          let same : v ≡ x = eqb-true v x e in
          e ∙ sym (eq-eqb w y (o.forth v w y a (subst (λ (n : ℕ). R n y) (sym same) b)))
      either false e =
          let other : v ≡ x → ⊥ = eqb-false v x e in
          e ∙ sym (ne_eqb w y (λ same. other (o.back v x w a (subst (λ (n : ℕ). R x n) (sym same) b))))

  same_dim : (d e x y : Dim) → Mates R d e → Mates R x y → x ≡ d → y ≡ e
  same_dim d e x y a b same =
      let var : y.var ≡ e.var = o.forth d.var y.var e.var (subst (λ (z : Dim). R z.var y.var) same b.0) a.0 in
      let sign : y.negated ≡ e.negated = sym b.1 ∙ ap (λ (z : Dim). z.negated) same ∙ a.1 in
      λ i. record { var = var i; negated = sign i }

  -- ---- values

  abbrev pub Agree : Valuation → Valuation → Type 0
  Agree a b = (v w : ℕ) → R v w → a v ≡ b w

  pub denied_agree : (c f : List Dim) → Twins R c f → Agree (denied c) (denied f)
  denied_agree [] [] h v w r = refl
  denied_agree [] (e ∷ f) h v w r = absurd h
  denied_agree (d ∷ c) [] h v w r = absurd h
  denied_agree (d ∷ c) (e ∷ f) h v w r =
      ap (λ (t : Bool). cond t (Some d.negated) (denied c v)) (same_test v w d.var e.var r h.0.0)
      ∙ ap (λ (b : Bool). cond (eqb w e.var) (Some b) (denied c v)) h.0.1
      ∙ ap (λ (x : Option Bool). cond (eqb w e.var) (Some e.negated) x) (denied_agree c f h.1 v w r)

  assume_agree : (a b : Valuation) (d e : Dim) → Agree a b → Mates R d e → Agree (assume a d) (assume b e)
  assume_agree a b d e h m v w r =
      ap (λ (t : Bool). cond t (Some (not d.negated)) (a v)) (same_test v w d.var e.var r m.0)
      ∙ ap (λ (n : Bool). cond (eqb w e.var) (Some (not n)) (a v)) m.1
      ∙ ap (λ (x : Option Bool). cond (eqb w e.var) (Some (not e.negated)) x) (h v w r)

  falsified : (a b : Valuation) (d e : Dim) → Agree a b → Mates R d e → IsFalsified a d → IsFalsified b e
  falsified a b d e h m f = sym (h d.var e.var m.0) ∙ f ∙ ap (λ (n : Bool). Some n) m.1

  conflict : (a b : Valuation) (c f : List Dim) → Agree a b → Twins R c f → IsConflict a c → IsConflict b f
  conflict a b [] [] h t k = All-nil (IsFalsified b)
  conflict a b [] (e ∷ f) h t k = absurd t
  conflict a b (d ∷ c) [] h t k = absurd t
  conflict a b (d ∷ c) (e ∷ f) h t k = All-cons (IsFalsified b) e f (falsified a b d e h t.0 (All-head (IsFalsified a) d c k)) (conflict a b c f h t.1 (All-tail (IsFalsified a) d c k))

  -- the literal that stands for one of a clause
  mate : (c f : List Dim) (d : Dim) → Twins R c f → Contains c d → (e : Dim) × Contains f e × Mates R d e
  mate c f d t inside =
      let long = length_all_zip (Mates R) c f t in
      let k = inside.0 in
      let e : Dim = get_or f k d in
      let at : Mates R (get_or c k d) e = AllZip-get_or (Mates R) c f k d d t inside.1 in
      (e, Contains-get_or f k d (omega arith), subst (λ (x : Dim). Mates R x e) inside.2 at)

  others : (a b : Valuation) (d e : Dim) (c f : List Dim) → Agree a b → Mates R d e → Twins R c f → All (λ x. (x ≡ d) ⊎ IsFalsified a x) c → All (λ x. (x ≡ e) ⊎ IsFalsified b x) f
  others a b d e [] [] h m t k = All-nil (λ (x : Dim). (x ≡ e) ⊎ IsFalsified b x)
  others a b d e [] (y ∷ f) h m t k = absurd t
  others a b d e (x ∷ c) [] h m t k = absurd t
  others a b d e (x ∷ c) (y ∷ f) h m t k =
      All-cons (λ (x : Dim). (x ≡ e) ⊎ IsFalsified b x) y f (either (All-head (λ (x : Dim). (x ≡ d) ⊎ IsFalsified a x) x c k)) (others a b d e c f h m t.1 (All-tail (λ (x : Dim). (x ≡ d) ⊎ IsFalsified a x) x c k))
    where
      either : (x ≡ d) ⊎ IsFalsified a x → (y ≡ e) ⊎ IsFalsified b y
      either (inl same) = inl (same_dim d e x y m t.0 same)
      either (inr nay) = inr (falsified a b x y h t.0 nay)

  unit : (a b : Valuation) (c f : List Dim) (d : Dim) → Agree a b → Twins R c f → IsUnit a c d → (e : Dim) × Mates R d e × IsUnit b f e
  unit a b c f d h t u =
      let m = mate c f d t u.inside in
      let e = m.0 in
      let is : IsUnit b f e = record { inside = m.1; opened = sym (h d.var e.var m.2.0) ∙ u.opened; others = others a b d e c f h m.2 t u.others } in
      (e, m.2, is)

  -- ---- steps

  twin_at : (db other : List (List Dim)) (h : ℕ) → AllZip (Twins R) db other → h < length db → Twins R (clause_at db h) (clause_at other h)
  twin_at db other h t within = AllZip-get_or (Twins R) db other h [] [] t within

  pub derives : (db other : List (List Dim)) (a b : Valuation) (hints : List ℕ) → AllZip (Twins R) db other → Agree a b → Derives db a hints → Derives other b hints
  derives db other a b [] t h d = absurd d
  derives db other a b (j ∷ []) t h d =
      let long = length_all_zip (Twins R) db other t in
      let within = d.0 in
      (omega arith, conflict a b (clause_at db j) (clause_at other j) h (twin_at db other j t d.0) d.1)
  derives db other a b (j ∷ i ∷ hints) t h d =
      let long = length_all_zip (Twins R) db other t in
      let within = d.0 in
      let u = unit a b (clause_at db j) (clause_at other j) d.1 h (twin_at db other j t d.0) d.2 in
      (omega arith, u.0, u.2, derives db other (assume a d.1) (assume b u.0) (i ∷ hints) t (assume_agree a b d.1 u.0 h u.1) d.3)

-- a clause in which no literal stands beside its negation
pub consistent : (R : ℕ → ℕ → Type 0) → IsOneToOne R → (c f : List Dim) → Twins R c f → IsConsistent c → IsConsistent f
consistent R o c f t is k d within beside =
    let back : Twins (Back R) f c = twins_flip R c f t in
    let e : Dim = get_or f k d in
    let one = mate (Back R) (flipped R o) f c e back (Contains-get_or f k d within) in
    let two = mate (Back R) (flipped R o) f c (negate e) back beside in
    let var : two.0.var ≡ one.0.var = o.back two.0.var one.0.var e.var two.2.0 one.2.0 in
    let sign : two.0.negated ≡ not one.0.negated = sym two.2.1 ∙ ap (λ (n : Bool). not n) one.2.1 in
    let same : two.0 ≡ negate one.0 = λ i. record { var = var i; negated = sign i } in
    let P : Dim → Type 0 = λ d. Contains c (negate d) → ⊥ in
    let nay : P one.0 = All-contains P c one.0 is one.1 in
    nay (subst (λ (x : Dim). Contains c x) same two.1)
