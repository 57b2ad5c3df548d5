-- Constants of labels, one by one.
use Rattle.std.proofs.Common.{◌≡◌, ℕ, zero, suc, ◌≤◌, ◌<◌, Bool, true, false, not, List, [], ◌∷◌, ◌++◌, length, drop, get_or, map, Option, ℤ, pos, ◌+ℤ◌, IsTrue, Result, Ok, Err, IfOk, refl, sym, ap, ◌∙◌, subst, arith, append_assoc}
use Rattle.std.proofs.lemmas.List.{map-append, append-nil}
use Rattle.std.proofs.Math.Seq.{drop-cons, drop-nil}
use Rattle.fourvec.specs.Bits.{is_known, signed_vector}
use Rattle.sv_outside.specs.declared.refusal.TextErr.{TextErr}
use Rattle.sv_outside.specs.declared.refusal.TextErr.TheVariants.{No}
use Rattle.sv_tree.specs.declared.word.Word.{Word}
use Rattle.sv_tree.specs.declared.exprs.Expr.{Expr}
use Rattle.sv_tree.specs.declared.forms.EnumLabel.{EnumLabel}
use Rattle.sv_meaning.specs.Faults.{Faults, Judged, ◌>>=◌, fault_if, or_then, bad_width}
use Rattle.sv_meaning.specs.Layouts as m
use Rattle.sv_meaning.specs.Meanings.{Meaning, whole, constant_at, fixed_faults_at}
use Rattle.sv_meaning.specs.Forms.{Declared, entry_of, entries_of, can_hold, label_value, label_number, label_entry, labels}
use Rattle.sv_names.specs.declared.layout.Known.{Known}
use Rattle.sv_names.specs.declared.names.Names.{Names}
use Rattle.sv_const.specs.Sizes.{IsConstant, JudgesConstant}
use Rattle.sv_typing.proofs.Lists.{in_fault, no_fault}
use Rattle.sv_types.specs.declared.enumerators.Enumerator.{Enumerator}
use Rattle.sv_types.specs.declared.whole.Whole.{Whole}
use Rattle.sv_types.specs.Types.{Refused, whole_is, JudgesWhole, JudgesEntry, declared_is, all_declared, pushed, IsAbove}
use Rattle.sv_types.proofs.Judging.{then_err, then_in, refused_as, provided_ok, provided_err}
use Rattle.sv_types.proofs.Above.{above_then, with_none, with_both}

-- ---- the number of a label

known_clear : (b : Bool) (n : ℕ) (p : _) → fault_if (not b) n p ≡ [] → b ≡ true
known_clear true n p h = refl
known_clear false n p h = cc

second_clear : (a b : Faults) → or_then a b ≡ [] → b ≡ []
second_clear [] b p = p
second_clear (x ∷ a) b p = cc

pub known_of_constant : (w : ℕ) (x : Meaning) (r : Result Known TextErr) → JudgesConstant w x r → IfOk r (λ k. IsTrue (is_known k.value))
known_of_constant w x (Ok k) h = sym (ap is_known h.value) ∙ known_clear (is_known (constant_at w x)) _ _ (second_clear (x.faults true) _ h.clear)
known_of_constant w x (Err e) h = tt

pub value_ok : (w : ℕ) (x : Meaning) (r : Result Known TextErr) (k : Known) (n : Whole) → r ≡ Ok k → JudgesConstant w x r → whole_is n ≡ whole k.signed k.value → label_value w x ≡ Ok (whole_is n)
value_ok w x r k n e h i =
    let g : IsConstant w x k = subst (JudgesConstant w x) e h in
    provided_ok (fixed_faults_at w x) (whole x.sign (constant_at w x)) g.clear ∙ ap Ok (ap (λ s. whole s (constant_at w x)) g.signed ∙ ap (λ v. whole k.signed v) g.value ∙ sym i)

pub value_err : (w : ℕ) (x : Meaning) (r : Result Known TextErr) (v : TextErr) → r ≡ Err v → JudgesConstant w x r → Refused (label_value w x) v
value_err w x r v e h = provided_err (fixed_faults_at w x) (whole x.sign (constant_at w x)) v (subst (JudgesConstant w x) e h)

-- ---- one label

pub entry_ok : (w : ℕ) (s : Bool) (name : Word) (n : ℤ) → can_hold w s n ≡ true → label_entry w s name n ≡ Ok (name, m.number_is (signed_vector w n) s)
entry_ok w s name n h = provided_ok (fault_if (not (can_hold w s n)) bad_width name.place) (name, m.number_is (signed_vector w n) s) (no_fault _ bad_width name.place (ap not h))

pub entry_wide : (w : ℕ) (s : Bool) (name : Word) (n : ℤ) → can_hold w s n ≡ false → Refused (label_entry w s name n) (No (record { number = bad_width; place = name.place; count = 0 }))
entry_wide w s name n h = let e : Declared = (name, m.number_is (signed_vector w n) s) in provided_err (fault_if (not (can_hold w s n)) bad_width name.place) e (No (record { number = bad_width; place = name.place; count = 0 })) (in_fault _ bad_width name.place (ap not h))

-- what comes behind constants
abbrev pub behind : List Declared → Judged (List Declared) → Judged (List Declared)
behind done j = j >>= λ rest. Ok (done ++ rest)

behind_more : (done : List Declared) (e : Declared) (j : Judged (List Declared)) → behind done (j >>= λ rest. Ok (e ∷ rest)) ≡ behind (done ++ e ∷ []) j
behind_more done e (Ok rest) = ap Ok (sym (append_assoc done (e ∷ []) rest))
behind_more done e (Err all) = refl

labels_none : (at : m.Scope) (w : ℕ) (s : Bool) (n : ℤ) → labels at w s n [] ≡ Ok []
unfolding labels
labels_none at w s n = refl

labels_go : (at : m.Scope) (w : ℕ) (s : Bool) (next n : ℤ) (x : EnumLabel) (more : List EnumLabel) (e : Declared) → label_number at w next x.value ≡ Ok n → label_entry w s x.name n ≡ Ok e →
    labels at w s next (x ∷ more) ≡ (labels (m.with_names at (entry_of e ∷ [])) w s (n +ℤ pos 1) more >>= λ rest. Ok (e ∷ rest))
unfolding labels
labels_go at w s next n x more e h i =
    ap (λ (z : Judged ℤ). z >>= λ (k : ℤ). label_entry w s x.name k >>= λ (d : Declared). labels (m.with_names at (entry_of d ∷ [])) w s (k +ℤ pos 1) more >>= λ (rest : List Declared). Ok (d ∷ rest)) h
    ∙ ap (λ (z : Judged Declared). z >>= λ (d : Declared). labels (m.with_names at (entry_of d ∷ [])) w s (n +ℤ pos 1) more >>= λ (rest : List Declared). Ok (d ∷ rest)) i

labels_number : (at : m.Scope) (w : ℕ) (s : Bool) (next : ℤ) (x : EnumLabel) (more : List EnumLabel) (v : TextErr) → Refused (label_number at w next x.value) v → Refused (labels at w s next (x ∷ more)) v
unfolding labels
labels_number at w s next x more v h = then_err (label_number at w next x.value) _ v h

labels_entry : (at : m.Scope) (w : ℕ) (s : Bool) (next n : ℤ) (x : EnumLabel) (more : List EnumLabel) (v : TextErr) → label_number at w next x.value ≡ Ok n → Refused (label_entry w s x.name n) v → Refused (labels at w s next (x ∷ more)) v
unfolding labels
labels_entry at w s next n x more v h k = then_in (label_number at w next x.value) _ n v h (then_err (label_entry w s x.name n) _ v k)

-- ---- all labels

-- what is found of the first labels, and what is left
abbrev pub Counts : m.Scope → ℕ → Bool → List EnumLabel → List Enumerator → ℤ → List EnumLabel → Type 0
Counts at w s all done next rest = labels at w s (pos 0) all ≡ behind (all_declared done) (labels (m.with_names at (entries_of (all_declared done))) w s next rest)

behind_nothing : (j : Judged (List Declared)) → behind [] j ≡ j
behind_nothing (Ok x) = refl
behind_nothing (Err all) = refl

pub counts_begin : (at : m.Scope) (w : ℕ) (s : Bool) (all : List EnumLabel) → Counts at w s all [] (pos 0) all
counts_begin at w s all = sym (behind_nothing (labels (m.with_names at []) w s (pos 0) all) ∙ ap (λ (z : m.Scope). labels z w s (pos 0) all) (with_none at))

split : (all : List EnumLabel) (i : ℕ) (x : EnumLabel) → i < length all → x ≡ get_or all i x → drop i all ≡ x ∷ drop (suc i) all
split all i x h e = drop-cons all i x h ∙ ap (λ (z : EnumLabel). z ∷ drop (suc i) all) (sym e)

declared_more : (done : List Enumerator) (e : Enumerator) → all_declared (done ++ e ∷ []) ≡ all_declared done ++ declared_is e ∷ []
declared_more done e = map-append declared_is done (e ∷ [])

scope_more : (at : m.Scope) (done : List Enumerator) (e : Enumerator) → m.with_names (m.with_names at (entries_of (all_declared done))) (entry_of (declared_is e) ∷ []) ≡ m.with_names at (entries_of (all_declared (done ++ e ∷ [])))
scope_more at done e =
    with_both at (entries_of (all_declared done)) (entry_of (declared_is e) ∷ [])
    ∙ ap (m.with_names at) (sym (ap entries_of (declared_more done e) ∙ map-append entry_of (all_declared done) (declared_is e ∷ [])))

pub counts_go : (at : m.Scope) (w : ℕ) (s : Bool) (all : List EnumLabel) (done : List Enumerator) (next n : ℤ) (i j : ℕ) (x : EnumLabel) (e : Enumerator) → i < length all → j ≡ suc i → x ≡ get_or all i x →
    label_number (m.with_names at (entries_of (all_declared done))) w next x.value ≡ Ok n → label_entry w s x.name n ≡ Ok (declared_is e) → Counts at w s all done next (drop i all) → Counts at w s all (done ++ e ∷ []) (n +ℤ pos 1) (drop j all)
counts_go at w s all done next n i j x e lt ji g h k c =
    let here = m.with_names at (entries_of (all_declared done)) in
    c ∙ ap (λ (z : List EnumLabel). behind (all_declared done) (labels here w s next z)) (split all i x lt g)
    ∙ ap (behind (all_declared done)) (labels_go here w s next n x (drop (suc i) all) (declared_is e) h k)
    ∙ behind_more (all_declared done) (declared_is e) (labels (m.with_names here (entry_of (declared_is e) ∷ [])) w s (n +ℤ pos 1) (drop (suc i) all))
    ∙ ap (λ (z : List Declared). behind z (labels (m.with_names here (entry_of (declared_is e) ∷ [])) w s (n +ℤ pos 1) (drop (suc i) all))) (sym (declared_more done e))
    ∙ ap (λ (z : m.Scope). behind (all_declared (done ++ e ∷ [])) (labels z w s (n +ℤ pos 1) (drop (suc i) all))) (scope_more at done e)
    ∙ ap (λ (z : ℕ). behind (all_declared (done ++ e ∷ [])) (labels (m.with_names at (entries_of (all_declared (done ++ e ∷ [])))) w s (n +ℤ pos 1) (drop z all))) (sym ji)

drop_none : (all : List EnumLabel) (i : ℕ) → length all ≤ i → drop i all ≡ []
drop_none [] i h = drop-nil i
drop_none (r ∷ all) zero h = absurd (omega arith)
drop_none (r ∷ all) (suc i) h = drop_none all i (omega arith)

pub counts_end : (at : m.Scope) (w : ℕ) (s : Bool) (all : List EnumLabel) (done : List Enumerator) (next : ℤ) (i : ℕ) → length all ≤ i → Counts at w s all done next (drop i all) → labels at w s (pos 0) all ≡ Ok (all_declared done)
counts_end at w s all done next i lt c =
    let here = m.with_names at (entries_of (all_declared done)) in
    c ∙ ap (λ (z : List EnumLabel). behind (all_declared done) (labels here w s next z)) (drop_none all i lt) ∙ ap (behind (all_declared done)) (labels_none here w s next) ∙ ap Ok (append-nil (all_declared done))

pub counts_number : (at : m.Scope) (w : ℕ) (s : Bool) (all : List EnumLabel) (done : List Enumerator) (next : ℤ) (i : ℕ) (x : EnumLabel) (v : TextErr) → i < length all → x ≡ get_or all i x →
    Refused (label_number (m.with_names at (entries_of (all_declared done))) w next x.value) v → Counts at w s all done next (drop i all) → Refused (labels at w s (pos 0) all) v
counts_number at w s all done next i x v lt g h c =
    let here = m.with_names at (entries_of (all_declared done)) in
    refused_as _ _ v (c ∙ ap (λ (z : List EnumLabel). behind (all_declared done) (labels here w s next z)) (split all i x lt g))
    (then_err (labels here w s next (x ∷ drop (suc i) all)) _ v (labels_number here w s next x (drop (suc i) all) v h))

pub counts_entry : (at : m.Scope) (w : ℕ) (s : Bool) (all : List EnumLabel) (done : List Enumerator) (next n : ℤ) (i : ℕ) (x : EnumLabel) (v : TextErr) → i < length all → x ≡ get_or all i x →
    label_number (m.with_names at (entries_of (all_declared done))) w next x.value ≡ Ok n → Refused (label_entry w s x.name n) v → Counts at w s all done next (drop i all) → Refused (labels at w s (pos 0) all) v
counts_entry at w s all done next n i x v lt g h k c =
    let here = m.with_names at (entries_of (all_declared done)) in
    refused_as _ _ v (c ∙ ap (λ (z : List EnumLabel). behind (all_declared done) (labels here w s next z)) (split all i x lt g))
    (then_err (labels here w s next (x ∷ drop (suc i) all)) _ v (labels_entry here w s next n x (drop (suc i) all) v h k))

-- ---- labels as code finds them

pub number_ok : (at here : m.Scope) (w : ℕ) (next : ℤ) (o q : Option Expr) (r : Result Whole TextErr) (n : Whole) → r ≡ Ok n → at ≡ here → q ≡ o → JudgesWhole (label_number at w next q) r → label_number here w next o ≡ Ok (whole_is n)
number_ok at here w next o q r n e h g j = (λ i. label_number (sym h i) w next (sym g i)) ∙ subst (JudgesWhole (label_number at w next q)) e j

pub number_err : (at here : m.Scope) (w : ℕ) (next : ℤ) (o q : Option Expr) (r : Result Whole TextErr) (e : TextErr) → r ≡ Err e → at ≡ here → q ≡ o → JudgesWhole (label_number at w next q) r → Refused (label_number here w next o) e
number_err at here w next o q r e k h g j = refused_as (label_number here w next o) (label_number at w next q) e (λ i. label_number (sym h i) w next (sym g i)) (subst (JudgesWhole (label_number at w next q)) k j)

pub entry_of_result : (j : Judged Declared) (r : Result Enumerator TextErr) (e : Enumerator) → r ≡ Ok e → JudgesEntry j r → j ≡ Ok (declared_is e)
entry_of_result j r e k h = subst (JudgesEntry j) k h

pub entry_refused : (j : Judged Declared) (r : Result Enumerator TextErr) (e : TextErr) → r ≡ Err e → JudgesEntry j r → Refused j e
entry_refused j r e k h = subst (JudgesEntry j) k h

pub pushed_more : (done : List Enumerator) (e : Enumerator) → map pushed (done ++ e ∷ []) ≡ map pushed done ++ pushed e ∷ []
pushed_more done e = map-append pushed done (e ∷ [])

pub above_more : (a b c : Names) (done new : List Enumerator) (e : Enumerator) → new ≡ done ++ e ∷ [] → IsAbove a b (map pushed done) → IsAbove b c (pushed e ∷ []) → IsAbove a c (map pushed new)
above_more a b c done new e i h k = subst (IsAbove a c) (sym (ap (map pushed) i ∙ pushed_more done e)) (above_then a b c (map pushed done) (pushed e ∷ []) h k)
