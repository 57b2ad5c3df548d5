-- Steps through a macro's text.
use Rattle.std.proofs.Common.{◌≡◌, ℕ, suc, ◌+◌, List, [], ◌∷◌, ◌++◌, sym, ◌∙◌, ap, subst, Some, None, append_assoc, arith}
use Rattle.std.proofs.lemmas.List.{append-nil}
use Rattle.sv_outside.specs.declared.text.Token.{Token}
use Rattle.sv_outside.specs.declared.refusal.Place.{Place}
use Rattle.sv_preproc.specs.declared.role.Role.TheVariants as role
use Rattle.sv_preproc.specs.Roles.{role_of}
use Rattle.sv_preproc.specs.Directives.{Macros, Expands, ended, kept, used, placed, name_of, most_counted}
use Rattle.sv_preproc.specs.Reached.{Overruns, many, foreign, unknown, deep, within, past_kept, past_used}
use Rattle.sv_preproc.specs.Seen.{Writes}

-- what the rest gives, the text gives behind what was written so far
abbrev pub SoFar : Macros → Place → ℕ → List Token → List Token → ℕ → List Token → List Token → ℕ → Type 0
SoFar macros place depth text old counted rest out total = (written : List Token) × (m : ℕ) × (out ≡ old ++ written) × (total ≡ counted + m)
    × ((o : List Token) (n : ℕ) → Expands macros place depth rest o n → Expands macros place depth text (written ++ o) (m + n))

pub at_start : (macros : Macros) (place : Place) (depth : ℕ) (text old : List Token) (counted : ℕ) → SoFar macros place depth text old counted text old counted
at_start macros place depth text old counted = ([], 0, sym (append-nil old), omega arith, λ o n h. subst (λ i. Expands macros place depth text o i) (omega arith) h)

pub one_kept : (macros : Macros) (place : Place) (depth : ℕ) (text old : List Token) (counted : ℕ) (rest out : List Token) (total : ℕ) (a : Token) (after new : List Token) (later : ℕ)
    → SoFar macros place depth text old counted rest out total → rest ≡ a ∷ after → role_of a ≡ role.Kept → new ≡ out ++ placed place a ∷ [] → later ≡ total + 1
    → SoFar macros place depth text old counted after new later
one_kept macros place depth text old counted rest out total a after new later s e r w l = (
  s.0 ++ placed place a ∷ [],
  s.1 + 1,
  w ∙ ap (λ i. i ++ placed place a ∷ []) s.2 ∙ append_assoc old s.0 (placed place a ∷ []),
  omega (arith, l, s.3),
  λ o n h. subst (λ i. Expands macros place depth text i (s.1 + 1 + n)) (sym (append_assoc s.0 (placed place a ∷ []) o))
      (subst (λ i. Expands macros place depth text (s.0 ++ placed place a ∷ o) i) (omega arith)
      (s.4 (placed place a ∷ o) (n + 1) (subst (λ i. Expands macros place depth i (placed place a ∷ o) (n + 1)) (sym e) (kept r h)))),
)

pub one_used : (macros : Macros) (place : Place) (depth less : ℕ) (text old : List Token) (counted : ℕ) (rest out : List Token) (total : ℕ) (a : Token) (after inner new : List Token) (later : ℕ)
    → SoFar macros place depth text old counted rest out total → rest ≡ a ∷ after → role_of a ≡ role.Used → macros (name_of a) ≡ Some inner → depth ≡ suc less
    → Writes (Expands macros place less inner) out new (total + 1) later → SoFar macros place depth text old counted after new later
one_used macros place depth less text old counted rest out total a after inner new later s e r k d w =
    let deeper : (o : List Token) (n : ℕ) → Expands macros place depth after o n → Expands macros place depth (a ∷ after) (w.0 ++ o) (w.1 + n + 1)
    = λ o n h. subst (λ i. Expands macros place i (a ∷ after) (w.0 ++ o) (w.1 + n + 1)) (sym d) (used r k w.2 (subst (λ i. Expands macros place i after o n) d h)) in (
      s.0 ++ w.0,
      s.1 + w.1 + 1,
      w.3 ∙ ap (λ i. i ++ w.0) s.2 ∙ append_assoc old s.0 w.0,
      omega (arith, w.4, s.3),
      λ o n h. subst (λ i. Expands macros place depth text i (s.1 + w.1 + 1 + n)) (sym (append_assoc s.0 w.0 o))
          (subst (λ i. Expands macros place depth text (s.0 ++ (w.0 ++ o)) i) (omega arith)
          (s.4 (w.0 ++ o) (w.1 + n + 1) (subst (λ i. Expands macros place depth i (w.0 ++ o) (w.1 + n + 1)) (sym e) (deeper o n h)))),
    )

pub at_end : (macros : Macros) (place : Place) (depth : ℕ) (text old : List Token) (counted : ℕ) (rest out : List Token) (total : ℕ)
    → SoFar macros place depth text old counted rest out total → rest ≡ [] → Writes (Expands macros place depth text) old out counted total
at_end macros place depth text old counted rest out total s e = (
  s.0,
  s.1,
  subst (λ i. Expands macros place depth text i s.1) (append-nil s.0) (subst (λ i. Expands macros place depth text (s.0 ++ []) i) (omega arith)
      (s.4 [] 0 (subst (λ i. Expands macros place depth i [] 0) (sym e) ended))),
  s.2,
  s.3,
)

-- what stops the rest stops the text
abbrev pub Refuses : Macros → Place → ℕ → List Token → ℕ → List Token → ℕ → Type 0
Refuses macros place depth text counted rest total = (number : ℕ) → Overruns macros place depth rest total number → Overruns macros place depth text counted number

pub past_one_kept : (macros : Macros) (place : Place) (depth : ℕ) (text : List Token) (counted : ℕ) (rest : List Token) (total : ℕ) (a : Token) (after : List Token) (later : ℕ)
    → Refuses macros place depth text counted rest total → rest ≡ a ∷ after → role_of a ≡ role.Kept → later ≡ total + 1 → Refuses macros place depth text counted after later
past_one_kept macros place depth text counted rest total a after later f e r l number h =
    f number (subst (λ i. Overruns macros place depth i total number) (sym e) (past_kept r (subst (λ i. Overruns macros place depth after i number) l h)))

pub past_one_used : (macros : Macros) (place : Place) (depth less : ℕ) (text : List Token) (counted : ℕ) (rest out : List Token) (total : ℕ) (a : Token) (after inner new : List Token) (later : ℕ)
    → Refuses macros place depth text counted rest total → rest ≡ a ∷ after → role_of a ≡ role.Used → macros (name_of a) ≡ Some inner → depth ≡ suc less
    → Writes (Expands macros place less inner) out new (total + 1) later → Refuses macros place depth text counted after later
past_one_used macros place depth less text counted rest out total a after inner new later f e r k d w number h =
    f number (subst (λ i. Overruns macros place depth i total number) (sym e) (subst (λ i. Overruns macros place i (a ∷ after) total number) (sym d)
    (past_used r k w.2 (subst (λ i. Overruns macros place i after (total + 1 + w.1) number) d (subst (λ i. Overruns macros place depth after i number) w.4 h)))))

pub overrun_many : (macros : Macros) (place : Place) (depth : ℕ) (rest : List Token) (total : ℕ) (a : Token) (after : List Token) → rest ≡ a ∷ after → total ≡ most_counted
    → Overruns macros place depth rest total 4
overrun_many macros place depth rest total a after e m = subst (λ i. Overruns macros place depth i total 4) (sym e) (many m)

pub overrun_foreign : (macros : Macros) (place : Place) (depth : ℕ) (rest : List Token) (total : ℕ) (a : Token) (after : List Token) → rest ≡ a ∷ after
    → (role_of a ≡ role.Kept → ⊥) → (role_of a ≡ role.Used → ⊥) → Overruns macros place depth rest total 6
overrun_foreign macros place depth rest total a after e k u = subst (λ i. Overruns macros place depth i total 6) (sym e) (foreign k u)

pub overrun_unknown : (macros : Macros) (place : Place) (depth : ℕ) (rest : List Token) (total : ℕ) (a : Token) (after : List Token) → rest ≡ a ∷ after
    → role_of a ≡ role.Used → macros (name_of a) ≡ None → Overruns macros place depth rest total 6
overrun_unknown macros place depth rest total a after e u k = subst (λ i. Overruns macros place depth i total 6) (sym e) (unknown u k)

pub overrun_deep : (macros : Macros) (place : Place) (depth : ℕ) (rest : List Token) (total : ℕ) (a : Token) (inner after : List Token) → rest ≡ a ∷ after
    → role_of a ≡ role.Used → macros (name_of a) ≡ Some inner → depth ≡ 0 → Overruns macros place depth rest total 7
overrun_deep macros place depth rest total a inner after e u k d =
    subst (λ i. Overruns macros place depth i total 7) (sym e) (subst (λ i. Overruns macros place i (a ∷ after) total 7) (sym d) (deep u k))

pub overrun_within : (macros : Macros) (place : Place) (depth less : ℕ) (rest : List Token) (total : ℕ) (a : Token) (inner after : List Token) (number : ℕ) → rest ≡ a ∷ after
    → role_of a ≡ role.Used → macros (name_of a) ≡ Some inner → depth ≡ suc less → Overruns macros place less inner (total + 1) number → Overruns macros place depth rest total number
overrun_within macros place depth less rest total a inner after number e u k d h =
    subst (λ i. Overruns macros place depth i total number) (sym e) (subst (λ i. Overruns macros place i (a ∷ after) total number) (sym d) (within u k h))
