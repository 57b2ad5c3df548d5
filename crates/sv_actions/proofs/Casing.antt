-- Case statements: labels, arms and the rest.
use Rattle.std.proofs.Common.{◌≡◌, ℕ, ◌+◌, ◌≤◌, max, Bool, true, false, ◌&&◌, List, [], ◌∷◌, ◌++◌, map, refl, sym, ap, ◌∙◌, subst, arith, append_assoc, inl, inr, ◌<◌, length, take, drop, get_or, Result, Ok, Err}
use Rattle.std.proofs.lemmas.List.{append-nil, map-append, take_all, take-append-drop}
use Rattle.std.specs.List.{Contains, All, AllZip, AllByRecursion}
use Rattle.std.proofs.lemmas.List.Elements.{All-append, All-from_recursion, recursion_from_All, Contains-append_cases}
use Rattle.fourvec.specs.declared.Bit.{Bit}
use Rattle.fourvec.specs.Bits.{first, or_of}
use Rattle.sv_outside.specs.declared.refusal.TextErr.{TextErr}
use Rattle.settling.specs.Settling.{Store}
use Rattle.lhs_alias.specs.declared.segs.WireBit.{WireBit}
use Rattle.sv_meaning.specs.Faults.{Faults, or_then}
use Rattle.sv_tree.specs.declared.exprs.Expr.{Expr}
use Rattle.sv_meaning.specs.Layouts.{Scope, Read, NamedSignal}
use Rattle.sv_meaning.specs.Meanings.{Meaning, free_faults}
use Rattle.sv_meaning.specs.Values.{mean}
use Rattle.sv_meaning.specs.Deeds.{Deed, CaseArm, after, together, either, merged, same_value, matches, case_chain, case_of, needing_all, labels_of, longest, all_signed, all_faults, all_names}
use Rattle.sv_typed.specs.declared.tree.Typed.{Typed}
use Rattle.sv_typed.specs.Typed.{Stands, IsSound, worth, literal_of, names_of, names_together}
use Rattle.sv_typed.proofs.Sound.{most_bits}
use Rattle.sv_typing.specs.Judging.{IsTyped, IsCause}
use Rattle.sv_typing.proofs.Lists.{contains_left, contains_right, contains_both, both_clear, then_clear, in_left, in_right}
use Rattle.sv_typing.proofs.Judged.{cause_from}
use Rattle.sv_actions.specs.declared.action.Action.{Action}
use Rattle.sv_actions.specs.declared.action.Action.TheVariants as act
use Rattle.sv_actions.specs.declared.action.Action.TheBlock.{shape-the_row-Action-0, hidden-the_row-Action-0, shape-the_row-Arm-1, hidden-the_row-Arm-1}
use Rattle.sv_actions.specs.declared.action.Arm.{Arm}
use Rattle.sv_actions.specs.declared.action.Case.{Case}
use Rattle.sv_actions.specs.declared.statements.Acted.{Acted}
use Rattle.sv_actions.specs.declared.labels.Labels.{Labels}
use Rattle.sv_actions.specs.declared.arms.ActedArms.{ActedArms}
use Rattle.sv_actions.specs.Doing.{label_matches, run, run_arms, run_row, writes, writes_arms, writes_row, names, names_arms, names_row, LabelFits, CaseFits, Fits, FitsArms}
use Rattle.sv_actions.specs.Typing.{Does, IsActed}
use Rattle.sv_actions.specs.Listing.{in_order, bodies, AreLabels, JudgesLabels, IsArm, AreArms, arms_faults}
use Rattle.sv_actions.proofs.Orders.{after_assoc, idle_after, order_more, take_next, stands, joint, joint_in, joint_second, behind_more}
use Rattle.sv_actions.proofs.Acting.{row_run, row_writes, row_names, row_fits, names_stand, does_one}

-- ---- lists of meanings

pub faults_join : (xs ys : List Meaning) → all_faults (xs ++ ys) ≡ all_faults xs ++ all_faults ys
unfolding all_faults
faults_join [] ys = refl
faults_join (m ∷ xs) ys = ap (λ (z : Faults). free_faults m ++ z) (faults_join xs ys) ∙ sym (append_assoc (free_faults m) (all_faults xs) (all_faults ys))

pub faults_one : (m : Meaning) → all_faults (m ∷ []) ≡ free_faults m
unfolding all_faults
faults_one m = append-nil (free_faults m)

names_join : (xs ys : List Meaning) → all_names (xs ++ ys) ≡ all_names xs ++ all_names ys
unfolding all_names
names_join [] ys = refl
names_join (m ∷ xs) ys = ap (λ (z : List NamedSignal). m.names ++ z) (names_join xs ys) ∙ sym (append_assoc m.names (all_names xs) (all_names ys))

max_assoc : (a b c : ℕ) → max (max a b) c ≡ max a (max b c)
max_assoc a b c = omega arith

max_none : (a : ℕ) → max a 0 ≡ a
max_none a = omega arith

and_assoc : (a b c : Bool) → ((a && b) && c) ≡ (a && (b && c))
and_assoc true b c = refl
and_assoc false b c = refl

and_true : (a : Bool) → (a && true) ≡ a
and_true true = refl
and_true false = refl

pub longest_join : (xs ys : List Meaning) → longest (xs ++ ys) ≡ max (longest xs) (longest ys)
unfolding longest
longest_join [] ys = let e : longest ys ≡ max 0 (longest ys) = omega arith in e
longest_join (m ∷ xs) ys = ap (λ (z : ℕ). max m.size z) (longest_join xs ys) ∙ sym (max_assoc m.size (longest xs) (longest ys))

pub longest_one : (m : Meaning) → longest (m ∷ []) ≡ m.size
unfolding longest
longest_one m = max_none m.size

pub signed_join : (xs ys : List Meaning) → all_signed (xs ++ ys) ≡ (all_signed xs && all_signed ys)
unfolding all_signed
signed_join [] ys = refl
signed_join (m ∷ xs) ys = ap (λ (z : Bool). m.sign && z) (signed_join xs ys) ∙ sym (and_assoc m.sign (all_signed xs) (all_signed ys))

pub signed_one : (m : Meaning) → all_signed (m ∷ []) ≡ m.sign
unfolding all_signed
signed_one m = and_true m.sign

pub labels_join : (xs ys : List CaseArm) → labels_of (xs ++ ys) ≡ labels_of xs ++ labels_of ys
unfolding labels_of
labels_join [] ys = refl
labels_join (a ∷ xs) ys = ap (λ (z : List Meaning). a.labels ++ z) (labels_join xs ys) ∙ sym (append_assoc a.labels (labels_of xs) (labels_of ys))

labels_one : (a : CaseArm) → labels_of (a ∷ []) ≡ a.labels
unfolding labels_of
labels_one a = append-nil a.labels

labels_more : (xs : List CaseArm) (a : CaseArm) → labels_of (xs ++ a ∷ []) ≡ labels_of xs ++ a.labels
labels_more xs a = labels_join xs (a ∷ []) ∙ ap (λ (z : List Meaning). labels_of xs ++ z) (labels_one a)

-- ---- labels

pub zip_push : {A B : Type 0} (R : A → B → Type 0) (xs : List A) (ys : List B) (x : A) (y : B) → AllZip R xs ys → R x y → AllZip R (xs ++ x ∷ []) (ys ++ y ∷ [])
zip_push R [] [] x y h k = (k, h)
zip_push R [] (b ∷ ys) x y h k = absurd h
zip_push R (a ∷ xs) [] x y h k = absurd h
zip_push R (a ∷ xs) (b ∷ ys) x y h k = (h.0, zip_push R xs ys x y h.1 k)

pub labels_none : (x : Labels) → x.all ≡ [] → x.width ≡ 0 → x.signed ≡ true → AreLabels [] x
unfolding all_faults longest all_signed
labels_none x a w s = record {
  clear = refl;
  stand = subst (λ (z : List Typed). AllZip Stands z []) (sym a) tt;
  sound = subst (λ (z : List Typed). All IsSound z) (sym a) (All-from_recursion IsSound [] tt);
  width = w;
  signed = s;
}

size_is : (m : Meaning) (t : Typed) → Stands t m → m.size ≡ t.width
unfolding Stands
size_is m t h = ap (λ (x : Meaning). x.size) h.is

sign_is : (m : Meaning) (t : Typed) → Stands t m → m.sign ≡ t.signed
unfolding Stands
sign_is m t h = ap (λ (x : Meaning). x.sign) h.is

pub labels_push : (ms : List Meaning) (m : Meaning) (x y : Labels) (t : Typed) → AreLabels ms x → IsTyped m (m.faults false) t → y.all ≡ x.all ++ t ∷ [] → y.width ≡ max x.width t.width → y.signed ≡ (x.signed && t.signed) → AreLabels (ms ++ m ∷ []) y
labels_push ms m x y t h k a w s = record {
  clear = faults_join ms (m ∷ []) ∙ both_clear (all_faults ms) (all_faults (m ∷ [])) h.clear (faults_one m ∙ k.clear);
  stand = subst (λ (z : List Typed). AllZip Stands z (ms ++ m ∷ [])) (sym a) (zip_push Stands x.all ms t m h.stand k.stands);
  sound = subst (λ (z : List Typed). All IsSound z) (sym a) (All-append IsSound x.all (t ∷ []) h.sound (All-from_recursion IsSound (t ∷ []) (k.sound, tt)));
  width = w ∙ (λ i. max (h.width i) (sym (size_is m t k.stands) i)) ∙ ap (λ (z : ℕ). max (longest ms) z) (sym (longest_one m)) ∙ sym (longest_join ms (m ∷ []));
  signed = s ∙ (λ i. h.signed i && sym (sign_is m t k.stands) i) ∙ ap (λ (z : Bool). all_signed ms && z) (sym (signed_one m)) ∙ sym (signed_join ms (m ∷ []));
}

pub labels_next : (at : Scope) (all : List Expr) (i : ℕ) (e : Expr) (x y : Labels) (t : Typed) → i < length all → e ≡ get_or all i e → AreLabels (map (mean at) (take i all)) x → IsTyped (mean at e) ((mean at e).faults false) t →
    y.all ≡ x.all ++ t ∷ [] → y.width ≡ max x.width t.width → y.signed ≡ (x.signed && t.signed) → AreLabels (map (mean at) (take (i + 1) all)) y
labels_next at all i e x y t lt g h k a w s =
    subst (λ (ms : List Meaning). AreLabels ms y) (sym (ap (map (mean at)) (take_next all i e lt g) ∙ map-append (mean at) (take i all) (e ∷ []))) (labels_push (map (mean at) (take i all)) (mean at e) x y t h k a w s)

pub labels_end : (at : Scope) (all : List Expr) (i : ℕ) (x : Labels) → length all ≤ i → AreLabels (map (mean at) (take i all)) x → AreLabels (map (mean at) all) x
labels_end at all i x h k = subst (λ (z : List Expr). AreLabels (map (mean at) z) x) (take_all i all h) k

pub labels_cause : (at : Scope) (all : List Expr) (i : ℕ) (e : Expr) (why : TextErr) → i < length all → e ≡ get_or all i e → IsCause ((mean at e).faults false) why → IsCause (all_faults (map (mean at) all)) why
labels_cause at all i e why lt g h =
    let split : all ≡ (take i all ++ e ∷ []) ++ drop (i + 1) all = sym (take-append-drop (i + 1) all) ∙ ap (λ (z : List Expr). z ++ drop (i + 1) all) (take_next all i e lt g) in
    let ms = ap (map (mean at)) split ∙ map-append (mean at) (take i all ++ e ∷ []) (drop (i + 1) all) ∙ ap (λ (z : List Meaning). z ++ map (mean at) (drop (i + 1) all)) (map-append (mean at) (take i all) (e ∷ [])) in
    let F = map (mean at) (take i all) in
    let G = map (mean at) (drop (i + 1) all) in
    subst (λ (z : Faults). IsCause z why) (sym (ap all_faults ms ∙ faults_join (F ++ mean at e ∷ []) G ∙ ap (λ (z : Faults). z ++ all_faults G) (faults_join F (mean at e ∷ []) ∙ ap (λ (z : Faults). all_faults F ++ z) (faults_one (mean at e)))))
    (cause_from ((mean at e).faults false) ((all_faults F ++ free_faults (mean at e)) ++ all_faults G) (λ r q. in_left (all_faults F ++ free_faults (mean at e)) (all_faults G) r (in_right (all_faults F) (free_faults (mean at e)) r q)) why h)

pub labels_ok : (ms : List Meaning) (r : Result Labels TextErr) (x : Labels) → r ≡ Ok x → JudgesLabels ms r → AreLabels ms x
labels_ok ms r x e h = subst (JudgesLabels ms) e h

pub labels_err : (ms : List Meaning) (r : Result Labels TextErr) (x : TextErr) → r ≡ Err x → JudgesLabels ms r → IsCause (all_faults ms) x
labels_err ms r x e h = subst (JudgesLabels ms) e h

-- ---- arms

pub arms_none : (made : ℕ) (x : ActedArms) → x.arms ≡ [] → x.width ≡ 0 → x.signed ≡ true → x.made ≡ made → AreArms [] made x
unfolding labels_of all_faults longest all_signed in_order
arms_none made x a w s m = record {
  free = refl;
  clear = refl;
  turned = refl;
  made = m ∙ (let e : made ≡ made + 0 = omega arith in e);
  stand = subst (λ (z : List Arm). AllZip IsArm z []) (sym a) tt;
  width = w;
  signed = s;
}

bodies_more : (xs : List CaseArm) (a : CaseArm) → bodies (xs ++ a ∷ []) ≡ after (bodies xs) a.body
bodies_more xs a = order_more (λ (x : CaseArm). x.body) xs a

pub arms_push : (arms : List CaseArm) (ms : List Meaning) (d : Deed) (made : ℕ) (x y : ActedArms) (l : Labels) (b : Acted) (arm : Arm) → AreArms arms made x → AreLabels ms l → IsActed d x.made b →
    arm.labels ≡ l.all → arm.body ≡ b.actions → y.arms ≡ x.arms ++ arm ∷ [] → y.width ≡ max x.width l.width → y.signed ≡ (x.signed && l.signed) → y.made ≡ b.made → AreArms (arms ++ record { labels = ms; body = d } ∷ []) made y
arms_push arms ms d made x y l b arm h k j al ab a w s m =
    let one : CaseArm = record { labels = ms; body = d } in
    let ls = labels_more arms one in
    let bs = bodies_more arms one in
    record {
      free = ap all_faults ls ∙ faults_join (labels_of arms) ms ∙ both_clear (all_faults (labels_of arms)) (all_faults ms) h.free k.clear;
      clear = ap (λ (z : Deed). z.faults) bs ∙ both_clear (bodies arms).faults d.faults h.clear j.clear;
      turned = ap (λ (z : Deed). z.overrun made) bs ∙ then_clear ((bodies arms).overrun made) (d.overrun (made + (bodies arms).turns)) h.turned (subst (λ (n : ℕ). d.overrun n ≡ []) h.made j.turned);
      made = let t : (bodies (arms ++ one ∷ [])).turns ≡ (bodies arms).turns + d.turns = ap (λ (z : Deed). z.turns) bs in let p = h.made in let q = j.made in omega (arith, m);
      stand = subst (λ (z : List Arm). AllZip IsArm z (arms ++ one ∷ [])) (sym a) (zip_push IsArm x.arms arms arm one h.stand (record {
        labels = subst (λ (z : List Typed). AllZip Stands z ms) (sym al) k.stand;
        sound = subst (λ (z : List Typed). All IsSound z) (sym al) k.sound;
        body = subst (λ (z : List Action). Does z d) (sym ab) j.does;
      }));
      width = w ∙ (λ i. max (h.width i) (k.width i)) ∙ sym (ap longest ls ∙ longest_join (labels_of arms) ms);
      signed = s ∙ (λ i. h.signed i && k.signed i) ∙ sym (ap all_signed ls ∙ signed_join (labels_of arms) ms);
    }

-- the faults of arms with one more
more_faults : (arms : List CaseArm) (one : CaseArm) (made : ℕ) → arms_faults (arms ++ one ∷ []) made ≡ (all_faults (labels_of arms) ++ all_faults one.labels) ++ joint (bodies arms) one.body made
more_faults arms one made =
    (λ i. (ap all_faults (labels_more arms one) ∙ faults_join (labels_of arms) one.labels) i ++ stands (bodies_more arms one i) made)

pub arms_cause_labels : (arms : List CaseArm) (ms : List Meaning) (d : Deed) (made : ℕ) (e : TextErr) → IsCause (all_faults ms) e → IsCause (arms_faults (arms ++ record { labels = ms; body = d } ∷ []) made) e
arms_cause_labels arms ms d made e h =
    let one : CaseArm = record { labels = ms; body = d } in
    subst (λ (z : Faults). IsCause z e) (sym (more_faults arms one made))
    (cause_from (all_faults ms) ((all_faults (labels_of arms) ++ all_faults ms) ++ joint (bodies arms) d made) (λ r q. in_left _ (joint (bodies arms) d made) r (in_right (all_faults (labels_of arms)) (all_faults ms) r q)) e h)

pub arms_cause_body : (arms : List CaseArm) (ms : List Meaning) (d : Deed) (made : ℕ) (x : ActedArms) (e : TextErr) → AreArms arms made x → IsCause (stands d x.made) e → IsCause (arms_faults (arms ++ record { labels = ms; body = d } ∷ []) made) e
arms_cause_body arms ms d made x e h k =
    let one : CaseArm = record { labels = ms; body = d } in
    subst (λ (z : Faults). IsCause z e) (sym (more_faults arms one made))
    (cause_from (joint (bodies arms) d made) ((all_faults (labels_of arms) ++ all_faults ms) ++ joint (bodies arms) d made) (in_right (all_faults (labels_of arms) ++ all_faults ms) (joint (bodies arms) d made)) e
    (joint_second (bodies arms) d made x.made e h.turned h.made k))

-- ---- the chain of arms, and the arms one after the other

chain_is : (z : Bool) (w : ℕ) (s : Bool) (x : Meaning) (arms : List CaseArm) (other : Deed) → case_chain z w s x arms other ≡ record (after (bodies arms) other) { run = (case_chain z w s x arms other).run }
unfolding case_chain in_order
chain_is z w s x [] other = λ i. record (sym (idle_after other) i) { run = other.run }
chain_is z w s x (a ∷ arms) other =
    let R : (Store → Read) → Store → Store = (either (λ read. first (matches z w s x read a.labels)) a.body (case_chain z w s x arms other)).run in
    ap (together R a.body) (chain_is z w s x arms other) ∙ (λ i. record (sym (after_assoc a.body (bodies arms) other) i) { run = R })

-- ---- what the arms do

labels_same : (z : Bool) (w : ℕ) (s : Bool) (v : Typed) (x : Meaning) (read : Read) (ls : List Typed) (ms : List Meaning) → Stands v x → AllZip Stands ls ms →
    label_matches (record { masked = z; width = w; signed = s; value = v }) read ls ≡ matches z w s x read ms
unfolding label_matches matches Stands
labels_same z w s v x read [] [] h k = refl
labels_same z w s v x read [] (m ∷ ms) h k = absurd k
labels_same z w s v x read (l ∷ ls) [] h k = absurd k
labels_same z w s v x read (l ∷ ls) (m ∷ ms) h k =
    sym (ap (λ (y : Meaning). or_of (same_value z w s y.literal (x.value read w s) (y.value read w s)) (matches z w s x read ms)) k.0.is
    ∙ ap (λ (y : Meaning). or_of (same_value z w s (literal_of l) (y.value read w s) (worth l read w s)) (matches z w s x read ms)) h.is
    ∙ ap (λ (b : List Bit). or_of (same_value z w s (literal_of l) (worth v read w s) (worth l read w s)) b) (sym (labels_same z w s v x read ls ms h k.1)))

arms_run : (z : Bool) (w : ℕ) (s : Bool) (v : Typed) (x : Meaning) (look : Store → Read) (store rest : Store) (xs : List Arm) (arms : List CaseArm) (other : Deed) → Stands v x → AllZip IsArm xs arms → rest ≡ other.run look store →
    run_arms (record { masked = z; width = w; signed = s; value = v }) (hidden-the_row-Arm-1 xs) look store rest ≡ (case_chain z w s x arms other).run look store
unfolding run case_chain shape-the_row-Action-0 hidden-the_row-Action-0 shape-the_row-Arm-1 hidden-the_row-Arm-1 denote.Hole.Carrier.hidden
arms_run z w s v x look store rest [] [] other h k e = e
arms_run z w s v x look store rest [] (a ∷ arms) other h k e = absurd k
arms_run z w s v x look store rest (y ∷ xs) [] other h k e = absurd k
arms_run z w s v x look store rest (y ∷ xs) (a ∷ arms) other h k e =
    λ i. merged (first (labels_same z w s v x (look store) y.labels a.labels h k.0.labels i)) ((row_run y.body look store ∙ k.0.body.run look store) i) (arms_run z w s v x look store rest xs arms other h k.1 e i)

arms_writes : (xs : List Arm) (arms : List CaseArm) (other : Deed) (rest : List WireBit) → AllZip IsArm xs arms → rest ≡ other.targets → writes_arms (hidden-the_row-Arm-1 xs) ++ rest ≡ (after (bodies arms) other).targets
unfolding writes in_order shape-the_row-Action-0 hidden-the_row-Action-0 shape-the_row-Arm-1 hidden-the_row-Arm-1 denote.Hole.Carrier.hidden
arms_writes [] [] other rest k e = e
arms_writes [] (a ∷ arms) other rest k e = absurd k
arms_writes (y ∷ xs) [] other rest k e = absurd k
arms_writes (y ∷ xs) (a ∷ arms) other rest k e =
    append_assoc (writes_row (hidden-the_row-Action-0 y.body)) (writes_arms (hidden-the_row-Arm-1 xs)) rest
    ∙ (λ i. (row_writes y.body ∙ k.0.body.writes) i ++ arms_writes xs arms other rest k.1 e i)
    ∙ sym (append_assoc a.body.targets (bodies arms).targets other.targets)

labels_named : (ls : List Typed) (ms : List Meaning) → AllZip Stands ls ms → (n : NamedSignal) → Contains (names_together ls) n → Contains (all_names ms) n
unfolding names_together all_names
labels_named [] [] k n q = q
labels_named [] (m ∷ ms) k n q = absurd k
labels_named (l ∷ ls) [] k n q = absurd k
labels_named (l ∷ ls) (m ∷ ms) k n q = contains_both (names_of l) (names_together ls) m.names (all_names ms) n (names_stand m l n k.0) (labels_named ls ms k.1 n) q

-- names of the arms are those of labels or of bodies
arms_named : (xs : List Arm) (arms : List CaseArm) → AllZip IsArm xs arms → (n : NamedSignal) → Contains (names_arms (hidden-the_row-Arm-1 xs)) n → Contains (all_names (labels_of arms) ++ (bodies arms).names) n
unfolding names labels_of in_order shape-the_row-Action-0 hidden-the_row-Action-0 shape-the_row-Arm-1 hidden-the_row-Arm-1 denote.Hole.Carrier.hidden
arms_named [] [] k n (i, h, e) = absurd (omega arith)
arms_named [] (a ∷ arms) k n q = absurd k
arms_named (y ∷ xs) [] k n q = absurd k
arms_named (y ∷ xs) (a ∷ arms) k n q =
    let P : List NamedSignal → Type 0 = λ l. Contains (l ++ (a.body.names ++ (bodies arms).names)) n in
    let L = all_names a.labels ++ all_names (labels_of arms) in
    let B = a.body.names ++ (bodies arms).names in
    let rest : Contains (names_row (hidden-the_row-Action-0 y.body) ++ names_arms (hidden-the_row-Arm-1 xs)) n → Contains (L ++ B) n = λ p. (elim (Contains-append_cases (names_row (hidden-the_row-Action-0 y.body)) (names_arms (hidden-the_row-Arm-1 xs)) n p) [
      | inl u ↦ contains_right L B n (contains_left a.body.names (bodies arms).names n (k.0.body.names n (subst (λ (l : List NamedSignal). Contains l n) (row_names y.body) u)))
      | inr u ↦ contains_both (all_names (labels_of arms)) (bodies arms).names L B n (contains_right (all_names a.labels) (all_names (labels_of arms)) n) (contains_right a.body.names (bodies arms).names n) (arms_named xs arms k.1 n u)
    ]) in
    subst P (sym (names_join a.labels (labels_of arms)))
    (elim (Contains-append_cases (names_together y.labels) (names_row (hidden-the_row-Action-0 y.body) ++ names_arms (hidden-the_row-Arm-1 xs)) n q) [
      | inl u ↦ contains_left L B n (contains_left (all_names a.labels) (all_names (labels_of arms)) n (labels_named y.labels a.labels k.0.labels n u))
      | inr u ↦ rest u
    ])

labels_fit : (c : Case) (ls : List Typed) (ms : List Meaning) → AllZip Stands ls ms → AllByRecursion IsSound ls → longest ms ≤ c.width → AllByRecursion (LabelFits c) ls
unfolding longest
labels_fit c [] [] k s w = tt
labels_fit c [] (m ∷ ms) k s w = absurd k
labels_fit c (l ∷ ls) [] k s w = absurd k
labels_fit c (l ∷ ls) (m ∷ ms) k s w = let e = size_is m l k.0 in ((s.0, omega arith), labels_fit c ls ms k.1 s.1 (omega arith))

arms_fit : (c : Case) (xs : List Arm) (arms : List CaseArm) → AllZip IsArm xs arms → longest (labels_of arms) ≤ c.width → FitsArms c (hidden-the_row-Arm-1 xs)
unfolding Fits labels_of shape-the_row-Action-0 hidden-the_row-Action-0 shape-the_row-Arm-1 hidden-the_row-Arm-1 denote.Hole.Carrier.hidden
arms_fit c [] [] k w = tt
arms_fit c [] (a ∷ arms) k w = absurd k
arms_fit c (y ∷ xs) [] k w = absurd k
arms_fit c (y ∷ xs) (a ∷ arms) k w =
    let j = longest_join a.labels (labels_of arms) in
    (All-from_recursion (LabelFits c) y.labels (labels_fit c y.labels a.labels k.0.labels (recursion_from_All IsSound y.labels k.0.sound) (omega arith)), (row_fits y.body k.0.body.fits, arms_fit c xs arms k.1 (omega arith)))

-- ---- the case statement

-- at a width and a sign
abbrev pub case_at : Bool → ℕ → Bool → Meaning → List CaseArm → Deed → Deed
case_at z w s x arms other = needing_all (x ∷ labels_of arms) (case_chain z w s x arms other)

value_first : (x : Meaning) (arms : List CaseArm) → all_faults (x ∷ labels_of arms) ≡ free_faults x ++ all_faults (labels_of arms)
unfolding all_faults
value_first x arms = refl

names_first : (x : Meaning) (arms : List CaseArm) → all_names (x ∷ labels_of arms) ≡ x.names ++ all_names (labels_of arms)
unfolding all_names
names_first x arms = refl

match_run : (z : Bool) (w : ℕ) (s : Bool) (v : Typed) (x : Meaning) (look : Store → Read) (store : Store) (xs : List Arm) (ys : List Action) (arms : List CaseArm) (other : Deed) → Stands v x → AllZip IsArm xs arms → Does ys other →
    run (act.Match (record { masked = z; width = w; signed = s; value = v }) xs ys) look store ≡ (case_chain z w s x arms other).run look store
unfolding run shape-the_row-Action-0 hidden-the_row-Action-0 shape-the_row-Arm-1 hidden-the_row-Arm-1 denote.Hole.Carrier.hidden
match_run z w s v x look store xs ys arms other h k d = arms_run z w s v x look store (run_row (hidden-the_row-Action-0 ys) look store) xs arms other h k (row_run ys look store ∙ d.run look store)

match_writes : (c : Case) (xs : List Arm) (ys : List Action) (arms : List CaseArm) (other : Deed) → AllZip IsArm xs arms → Does ys other → writes (act.Match c xs ys) ≡ (after (bodies arms) other).targets
unfolding writes shape-the_row-Action-0 hidden-the_row-Action-0 shape-the_row-Arm-1 hidden-the_row-Arm-1 denote.Hole.Carrier.hidden
match_writes c xs ys arms other k d = arms_writes xs arms other (writes_row (hidden-the_row-Action-0 ys)) k (row_writes ys ∙ d.writes)

match_names : (c : Case) (x : Meaning) (xs : List Arm) (ys : List Action) (arms : List CaseArm) (other : Deed) → Stands c.value x → AllZip IsArm xs arms → Does ys other → (n : NamedSignal) → Contains (names (act.Match c xs ys)) n →
    Contains ((x.names ++ all_names (labels_of arms)) ++ (after (bodies arms) other).names) n
unfolding names shape-the_row-Action-0 hidden-the_row-Action-0 shape-the_row-Arm-1 hidden-the_row-Arm-1 denote.Hole.Carrier.hidden
match_names c x xs ys arms other h k d n q =
    let V = x.names in
    let L = all_names (labels_of arms) in
    let B = (bodies arms).names in
    let rest : Contains (names_arms (hidden-the_row-Arm-1 xs) ++ names_row (hidden-the_row-Action-0 ys)) n → Contains ((V ++ L) ++ (B ++ other.names)) n = λ p. (elim (Contains-append_cases (names_arms (hidden-the_row-Arm-1 xs)) (names_row (hidden-the_row-Action-0 ys)) n p) [
      | inl u ↦ contains_both L B (V ++ L) (B ++ other.names) n (contains_right V L n) (contains_left B other.names n) (arms_named xs arms k n u)
      | inr u ↦ contains_right (V ++ L) (B ++ other.names) n (contains_right B other.names n (d.names n (subst (λ (l : List NamedSignal). Contains l n) (row_names ys) u)))
    ]) in
    elim (Contains-append_cases (names_of c.value) (names_arms (hidden-the_row-Arm-1 xs) ++ names_row (hidden-the_row-Action-0 ys)) n q) [
      | inl u ↦ contains_left (V ++ L) (B ++ other.names) n (contains_left V L n (names_stand x c.value n h u))
      | inr u ↦ rest u
    ]

match_fits : (c : Case) (xs : List Arm) (ys : List Action) (arms : List CaseArm) (other : Deed) → CaseFits c → AllZip IsArm xs arms → longest (labels_of arms) ≤ c.width → Does ys other → Fits (act.Match c xs ys)
unfolding Fits shape-the_row-Action-0 hidden-the_row-Action-0 shape-the_row-Arm-1 hidden-the_row-Arm-1 denote.Hole.Carrier.hidden
match_fits c xs ys arms other f k w d = (f, arms_fit c xs arms k w, row_fits ys d.fits)

-- labels have 128 bits at most
labels_most : (ls : List Typed) (ms : List Meaning) → AllZip Stands ls ms → AllByRecursion IsSound ls → longest ms ≤ 128
unfolding longest
labels_most [] [] k s = omega arith
labels_most [] (m ∷ ms) k s = absurd k
labels_most (l ∷ ls) [] k s = absurd k
labels_most (l ∷ ls) (m ∷ ms) k s = let e = size_is m l k.0 in let b = most_bits l s.0 in let r = labels_most ls ms k.1 s.1 in omega arith

arms_most : (xs : List Arm) (arms : List CaseArm) → AllZip IsArm xs arms → longest (labels_of arms) ≤ 128
unfolding labels_of
arms_most [] [] k = labels_most [] [] tt tt
arms_most [] (a ∷ arms) k = absurd k
arms_most (y ∷ xs) [] k = absurd k
arms_most (y ∷ xs) (a ∷ arms) k =
    let j = longest_join a.labels (labels_of arms) in let p = labels_most y.labels a.labels k.0.labels (recursion_from_All IsSound y.labels k.0.sound) in let r = arms_most xs arms k.1 in omega arith

does_match : (z : Bool) (w : ℕ) (s : Bool) (v : Typed) (x : Meaning) (xs : List Arm) (ys : List Action) (arms : List CaseArm) (other : Deed) → Stands v x → IsSound v → AllZip IsArm xs arms → Does ys other → w ≡ max v.width (longest (labels_of arms)) →
    Does (act.Match (record { masked = z; width = w; signed = s; value = v }) xs ys ∷ []) (case_at z w s x arms other)
does_match z w s v x xs ys arms other h q k d e =
    let c : Case = record { masked = z; width = w; signed = s; value = v } in
    let most = arms_most xs arms k in
    let own = most_bits v q in
    does_one (act.Match c xs ys) (case_at z w s x arms other) (λ look store. match_run z w s v x look store xs ys arms other h k d)
    (match_writes c xs ys arms other k d ∙ sym (ap (λ (y : Deed). y.targets) (chain_is z w s x arms other)))
    (λ n p. subst (λ (l : List NamedSignal). Contains l n) (λ i. sym (names_first x arms) i ++ sym (ap (λ (y : Deed). y.names) (chain_is z w s x arms other)) i) (match_names c x xs ys arms other h k d n p))
    (match_fits c xs ys arms other (record { sound = q; wide = omega arith; most = omega arith }) k (omega arith) d)

acted_at : (z : Bool) (w : ℕ) (s : Bool) (v : Typed) (m : Meaning) (arms : List CaseArm) (d : Deed) (made : ℕ) (x : ActedArms) (y r : Acted) → IsTyped m (m.faults false) v → AreArms arms made x → IsActed d x.made y → w ≡ max v.width (longest (labels_of arms)) →
    r.actions ≡ act.Match (record { masked = z; width = w; signed = s; value = v }) x.arms y.actions ∷ [] → r.made ≡ y.made → IsActed (case_at z w s m arms d) made r
acted_at z w s v m arms d made x y r t h k e a n =
    let c = chain_is z w s m arms d in
    record {
      clear = (λ i. value_first m arms i ++ ap (λ (y : Deed). y.faults) c i)
          ∙ both_clear (free_faults m ++ all_faults (labels_of arms)) ((bodies arms).faults ++ d.faults) (both_clear (free_faults m) (all_faults (labels_of arms)) t.clear h.free) (both_clear (bodies arms).faults d.faults h.clear k.clear);
      turned = ap (λ (y : Deed). y.overrun made) c ∙ then_clear ((bodies arms).overrun made) (d.overrun (made + (bodies arms).turns)) h.turned (subst (λ (l : ℕ). d.overrun l ≡ []) h.made k.turned);
      made = let u : (case_chain z w s m arms d).turns ≡ (bodies arms).turns + d.turns = ap (λ (y : Deed). y.turns) c in let p = h.made in let q = k.made in omega (arith, n);
      does = subst (λ (l : List Action). Does l (case_at z w s m arms d)) (sym a) (does_match z w s v m x.arms y.actions arms d t.stands t.sound h.stand k.does e);
    }

widest : (m : Meaning) (v : Typed) (arms : List CaseArm) (x : ActedArms) (made : ℕ) → Stands v m → AreArms arms made x → max v.width x.width ≡ longest (m ∷ labels_of arms)
unfolding longest
widest m v arms x made h k = λ i. max (sym (size_is m v h) i) (k.width i)

together_signed : (m : Meaning) (v : Typed) (arms : List CaseArm) (x : ActedArms) (made : ℕ) → Stands v m → AreArms arms made x → (v.signed && x.signed) ≡ all_signed (m ∷ labels_of arms)
unfolding all_signed
together_signed m v arms x made h k = λ i. sym (sign_is m v h) i && k.signed i

pub acted_match : (z : Bool) (w : ℕ) (s : Bool) (v : Typed) (m : Meaning) (arms : List CaseArm) (d : Deed) (made : ℕ) (x : ActedArms) (y r : Acted) → IsTyped m (m.faults false) v → AreArms arms made x → IsActed d x.made y → w ≡ max v.width x.width → s ≡ (v.signed && x.signed) →
    r.actions ≡ act.Match (record { masked = z; width = w; signed = s; value = v }) x.arms y.actions ∷ [] → r.made ≡ y.made → IsActed (case_of z m (arms, d)) made r
acted_match z w s v m arms d made x y r t h k e g a n =
    let W = e ∙ widest m v arms x made t.stands h in
    let S = g ∙ together_signed m v arms x made t.stands h in
    subst (λ (q : Deed). IsActed q made r) (λ i. case_at z (W i) (S i) m arms d)
    (acted_at z w s v m arms d made x y r t h k (e ∙ ap (λ (l : ℕ). max v.width l) h.width) a n)

-- ---- refusals

case_faults : (z : Bool) (m : Meaning) (arms : List CaseArm) (d : Deed) (made : ℕ) → stands (case_of z m (arms, d)) made ≡ ((free_faults m ++ all_faults (labels_of arms)) ++ ((bodies arms).faults ++ d.faults)) ++ or_then ((bodies arms).overrun made) (d.overrun (made + (bodies arms).turns))
case_faults z m arms d made =
    let c = chain_is z (longest (m ∷ labels_of arms)) (all_signed (m ∷ labels_of arms)) m arms d in
    λ i. (value_first m arms i ++ ap (λ (y : Deed). y.faults) c i) ++ ap (λ (y : Deed). y.overrun made) c i

case_as : (z : Bool) (m : Meaning) (arms : List CaseArm) (d : Deed) (made : ℕ) (e : TextErr) →
    IsCause (((free_faults m ++ all_faults (labels_of arms)) ++ ((bodies arms).faults ++ d.faults)) ++ or_then ((bodies arms).overrun made) (d.overrun (made + (bodies arms).turns))) e → IsCause (stands (case_of z m (arms, d)) made) e
case_as z m arms d made e h = subst (λ (f : Faults). IsCause f e) (sym (case_faults z m arms d made)) h

pub case_cause_value : (z : Bool) (m : Meaning) (arms : List CaseArm) (d : Deed) (made : ℕ) (e : TextErr) → IsCause (m.faults false) e → IsCause (stands (case_of z m (arms, d)) made) e
case_cause_value z m arms d made e h =
    case_as z m arms d made e (cause_from (m.faults false) _ (λ r q. in_left ((free_faults m ++ all_faults (labels_of arms)) ++ ((bodies arms).faults ++ d.faults)) (or_then ((bodies arms).overrun made) (d.overrun (made + (bodies arms).turns))) r
    (in_left (free_faults m ++ all_faults (labels_of arms)) ((bodies arms).faults ++ d.faults) r (in_left (free_faults m) (all_faults (labels_of arms)) r q))) e h)

pub case_cause_arms : (z : Bool) (m : Meaning) (arms : List CaseArm) (d : Deed) (made : ℕ) (e : TextErr) → IsCause (arms_faults arms made) e → IsCause (stands (case_of z m (arms, d)) made) e
case_cause_arms z m arms d made e h =
    let V = free_faults m ++ all_faults (labels_of arms) in
    let B = (bodies arms).faults ++ d.faults in
    let O = or_then ((bodies arms).overrun made) (d.overrun (made + (bodies arms).turns)) in
    case_as z m arms d made e (cause_from (arms_faults arms made) ((V ++ B) ++ O) (λ r q. elim (Contains-append_cases (all_faults (labels_of arms)) (stands (bodies arms) made) r q) [
      | inl u ↦ in_left (V ++ B) O r (in_left V B r (in_right (free_faults m) (all_faults (labels_of arms)) r u))
      | inr u ↦ contains_both B O (V ++ B) O r (in_right V B r) (λ p. p) (joint_in (bodies arms) d made r u)
    ]) e h)

pub case_cause_rest : (z : Bool) (m : Meaning) (arms : List CaseArm) (d : Deed) (made n : ℕ) (e : TextErr) → (bodies arms).overrun made ≡ [] → n ≡ made + (bodies arms).turns → IsCause (stands d n) e → IsCause (stands (case_of z m (arms, d)) made) e
case_cause_rest z m arms d made n e c k h =
    case_as z m arms d made e (behind_more (free_faults m ++ all_faults (labels_of arms)) ((bodies arms).faults ++ d.faults) (or_then ((bodies arms).overrun made) (d.overrun (made + (bodies arms).turns))) e (joint_second (bodies arms) d made n e c k h))
