-- Actions do what statements do: none, one after the other, an assignment, and one of two.
use Rattle.std.proofs.Common.{◌≡◌, ℕ, ◌+◌, ◌≤◌, false, List, [], ◌∷◌, ◌++◌, take, drop, refl, sym, ap, ◌∙◌, subst, append_assoc, arith, Result, Ok, Err}
use Rattle.std.proofs.lemmas.List.{append-nil}
use Rattle.std.specs.Result.{IfOk, IfErr}
use Rattle.std.specs.List.{Contains, All, AllZip, AllByRecursion}
use Rattle.std.proofs.lemmas.List.Elements.{All-append, All-from_recursion, recursion_from_All}
use Rattle.fourvec.specs.declared.Bit.{Bit}
use Rattle.sv_outside.specs.declared.refusal.TextErr.{TextErr}
use Rattle.sv_outside.specs.declared.refusal.TextErr.TheVariants.{Memory}
use Rattle.settling.specs.Settling.{Store}
use Rattle.sv_meaning.specs.Faults.{Faults, or_then}
use Rattle.sv_meaning.specs.Layouts.{Read, NamedSignal}
use Rattle.sv_meaning.specs.Meanings.{Meaning, free_faults, assigned, truth, all_indices, bits_from}
use Rattle.sv_meaning.specs.Targets.{Target, widths, present, put, write, write_all, with_wire, bits_named}
use Rattle.sv_meaning.specs.Deeds as deeds
use Rattle.sv_meaning.specs.Deeds.{Deed, idle, after, either, assign, if_else, merged}
use Rattle.sv_typed.specs.declared.tree.Typed.{Typed}
use Rattle.sv_typed.specs.Typed.{Stands, IsSound, names_of, names_picked, picked_width}
use Rattle.sv_typing.specs.Judging.{IsTyped, IsCause}
use Rattle.sv_typing.proofs.Lists.{contains_both, both_clear, then_clear, in_left, in_right}
use Rattle.sv_typing.proofs.Judged.{cause_from}
use Rattle.sv_targets.specs.declared.targets.TypedTarget.{TypedTarget}
use Rattle.sv_targets.specs.Targets.{StandsFor, AreTargets, width_of_all}
use Rattle.sv_targets.proofs.Targeting.{widths_are}
use Rattle.sv_targets.proofs.Slotting.{slots_are}
use Rattle.sv_actions.specs.declared.action.Action.{Action}
use Rattle.sv_actions.specs.declared.action.Action.TheVariants as act
use Rattle.sv_actions.specs.declared.action.Action.TheBlock.{shape-the_row-Action-0, hidden-the_row-Action-0, shape-the_row-Arm-1, hidden-the_row-Arm-1}
use Rattle.sv_actions.specs.declared.statements.Acted.{Acted}
use Rattle.sv_actions.specs.Doing.{assigned_bits, truth_bit, write_to, write_into, run, run_row, run_all, writes, writes_row, writes_all, target_names, names, names_row, names_all, TargetFits, Fits, FitsRow}
use Rattle.sv_actions.specs.Typing.{Does, IsActed, JudgesDeed}

-- ---- rows are lists

pub row_run : (all : List Action) (look : Store → Read) (store : Store) → run_row (hidden-the_row-Action-0 all) look store ≡ run_all all look store
unfolding run run_all shape-the_row-Action-0 hidden-the_row-Action-0 shape-the_row-Arm-1 hidden-the_row-Arm-1 denote.Hole.Carrier.hidden
row_run [] look store = refl
row_run (x ∷ all) look store = row_run all look (run x look store)

pub row_writes : (all : List Action) → writes_row (hidden-the_row-Action-0 all) ≡ writes_all all
unfolding writes writes_all shape-the_row-Action-0 hidden-the_row-Action-0 shape-the_row-Arm-1 hidden-the_row-Arm-1 denote.Hole.Carrier.hidden
row_writes [] = refl
row_writes (x ∷ all) = ap (λ z. writes x ++ z) (row_writes all)

pub row_names : (all : List Action) → names_row (hidden-the_row-Action-0 all) ≡ names_all all
unfolding names names_all shape-the_row-Action-0 hidden-the_row-Action-0 shape-the_row-Arm-1 hidden-the_row-Arm-1 denote.Hole.Carrier.hidden
row_names [] = refl
row_names (x ∷ all) = ap (λ z. names x ++ z) (row_names all)

fits_row : (all : List Action) → AllByRecursion Fits all → FitsRow (hidden-the_row-Action-0 all)
unfolding Fits shape-the_row-Action-0 hidden-the_row-Action-0 shape-the_row-Arm-1 hidden-the_row-Arm-1 denote.Hole.Carrier.hidden
fits_row [] h = tt
fits_row (x ∷ all) h = (h.0, fits_row all h.1)

pub row_fits : (all : List Action) → All Fits all → FitsRow (hidden-the_row-Action-0 all)
row_fits all h = fits_row all (recursion_from_All Fits all h)

-- ---- lists

run_join : (xs ys : List Action) (look : Store → Read) (store : Store) → run_all (xs ++ ys) look store ≡ run_all ys look (run_all xs look store)
unfolding run_all
run_join [] ys look store = refl
run_join (x ∷ xs) ys look store = run_join xs ys look (run x look store)

writes_join : (xs ys : List Action) → writes_all (xs ++ ys) ≡ writes_all xs ++ writes_all ys
unfolding writes_all
writes_join [] ys = refl
writes_join (x ∷ xs) ys = ap (λ z. writes x ++ z) (writes_join xs ys) ∙ sym (append_assoc (writes x) (writes_all xs) (writes_all ys))

names_join : (xs ys : List Action) → names_all (xs ++ ys) ≡ names_all xs ++ names_all ys
unfolding names_all
names_join [] ys = refl
names_join (x ∷ xs) ys = ap (λ z. names x ++ z) (names_join xs ys) ∙ sym (append_assoc (names x) (names_all xs) (names_all ys))

none_contained : (n : NamedSignal) → Contains (names_all []) n → Contains idle.names n
unfolding names_all
none_contained n h = h

pub does_idle : Does [] idle
unfolding run_all writes_all
does_idle = record { run = λ look store. refl; writes = refl; names = none_contained; fits = All-from_recursion Fits [] tt }

pub does_after : (a b : Deed) (xs ys : List Action) → Does xs a → Does ys b → Does (xs ++ ys) (after a b)
does_after a b xs ys h k = record {
  run = λ look store. run_join xs ys look store ∙ k.run look (run_all xs look store) ∙ ap (b.run look) (h.run look store);
  writes = writes_join xs ys ∙ (λ i. h.writes i ++ k.writes i);
  names = λ n q. contains_both (names_all xs) (names_all ys) a.names b.names n (h.names n) (k.names n) (subst (λ (z : List NamedSignal). Contains z n) (names_join xs ys) q);
  fits = All-append Fits xs ys h.fits k.fits;
}

run_one : (x : Action) (look : Store → Read) (store : Store) → run_all (x ∷ []) look store ≡ run x look store
unfolding run_all
run_one x look store = refl

writes_one : (x : Action) → writes_all (x ∷ []) ≡ writes x
unfolding writes_all
writes_one x = append-nil (writes x)

names_one : (x : Action) → names_all (x ∷ []) ≡ names x
unfolding names_all
names_one x = append-nil (names x)

-- one action
pub does_one : (x : Action) (d : Deed) → ((look : Store → Read) (store : Store) → run x look store ≡ d.run look store) → writes x ≡ d.targets → ((n : NamedSignal) → Contains (names x) n → Contains d.names n) → Fits x → Does (x ∷ []) d
does_one x d r w n f = record {
  run = λ look store. run_one x look store ∙ r look store;
  writes = writes_one x ∙ w;
  names = λ s q. n s (subst (λ (z : List NamedSignal). Contains z s) (names_one x) q);
  fits = All-from_recursion Fits (x ∷ []) (f, tt);
}

-- ---- what is acted

pub acted_idle : (made : ℕ) (x : Acted) → x.actions ≡ [] → x.made ≡ made → IsActed idle made x
acted_idle made x a m = record {
  clear = refl;
  turned = refl;
  made = m ∙ (let e : made ≡ made + 0 = omega arith in e);
  does = subst (λ (z : List Action). Does z idle) (sym a) does_idle;
}

pub acted_after : (a b : Deed) (made : ℕ) (x y z : Acted) → IsActed a made x → IsActed b x.made y → z.actions ≡ x.actions ++ y.actions → z.made ≡ y.made → IsActed (after a b) made z
acted_after a b made x y z h k e m = record {
  clear = both_clear a.faults b.faults h.clear k.clear;
  turned = then_clear (a.overrun made) (b.overrun (made + a.turns)) h.turned (subst (λ (n : ℕ). b.overrun n ≡ []) h.made k.turned);
  made = let p = h.made in let q = k.made in omega (arith, m);
  does = subst (λ (w : List Action). Does w (after a b)) (sym e) (does_after a b x.actions y.actions h.does k.does);
}

-- ---- assignments

write_same : (judge : Meaning → Faults) (x : TypedTarget) (t : Target) (read : Read) (bits : List Bit) (store : Store) → StandsFor judge x t → write read t bits store ≡ write_to read x bits store
write_same judge x t read bits store h =
    (λ i. with_wire (h.wire i) (put read t.layout t.steps (bits_from (store (h.wire i)) 0 (h.whole i)) bits) store)
    ∙ ap (λ (z : List Bit). with_wire x.wire z store) (h.follows.puts read (bits_from (store x.wire) 0 x.wire_width) bits)

into_is : (judge : Meaning → Faults) (look : Store → Read) (xs : List TypedTarget) (ts : List Target) (bits : List Bit) (store : Store) → AllZip (StandsFor judge) xs ts → write_into look xs bits store ≡ write_all look ts bits store
unfolding write_into write_all
into_is judge look [] [] bits store h = refl
into_is judge look [] (t ∷ ts) bits store h = absurd h
into_is judge look (x ∷ xs) [] bits store h = absurd h
into_is judge look (x ∷ xs) (t ∷ ts) bits store h =
    let w = sym (widths_are judge xs ts h.1) in
    (λ i. write_into look xs (take (w i) bits) (sym (write_same judge x t (look store) (drop (width_of_all xs) bits) store h.0) i))
    ∙ into_is judge look xs ts (take (widths ts) bits) (write (look store) t (drop (width_of_all xs) bits) store) h.1
    ∙ (λ i. write_all look ts (take (widths ts) bits) (write (look store) t (drop (w i) bits) store))

targets_named : (judge : Meaning → Faults) (xs : List TypedTarget) (ts : List Target) → AllZip (StandsFor judge) xs ts → (n : NamedSignal) → Contains (target_names xs) n → Contains (deeds.target_names ts) n
unfolding target_names deeds.target_names
targets_named judge [] [] h n q = q
targets_named judge [] (t ∷ ts) h n q = absurd h
targets_named judge (x ∷ xs) [] h n q = absurd h
targets_named judge (x ∷ xs) (t ∷ ts) h n q = contains_both (names_picked x.picks) (target_names xs) (all_indices t.steps).names (deeds.target_names ts) n (h.0.follows.names n) (targets_named judge xs ts h.1 n) q

targets_fit : (judge : Meaning → Faults) (xs : List TypedTarget) (ts : List Target) → AllZip (StandsFor judge) xs ts → AllByRecursion TargetFits xs
targets_fit judge [] [] h = tt
targets_fit judge [] (t ∷ ts) h = absurd h
targets_fit judge (x ∷ xs) [] h = absurd h
targets_fit judge (x ∷ xs) (t ∷ ts) h = (record { some = h.0.some; most = h.0.most; picks = h.0.follows.sound; ends = ap (picked_width x.picks) (sym h.0.whole) ∙ h.0.follows.width ∙ h.0.width }, targets_fit judge xs ts h.1)

bits_same : (m : Meaning) (v : Typed) (read : Read) (w : ℕ) → Stands v m → assigned m read w ≡ assigned_bits v read w
unfolding Stands
bits_same m v read w h = ap (λ (x : Meaning). assigned x read w) h.is

pub names_stand : (m : Meaning) (v : Typed) (n : NamedSignal) → Stands v m → Contains (names_of v) n → Contains m.names n
unfolding Stands
names_stand m v n h q = h.names n q

assign_run : (judge : Meaning → Faults) (to : List Target) (why : Faults) (m : Meaning) (xs : List TypedTarget) (v : Typed) (look : Store → Read) (store : Store) → AllZip (StandsFor judge) xs to → Stands v m →
    run (act.Assign xs v) look store ≡ (assign to why m).run look store
unfolding run
assign_run judge to why m xs v look store h k =
    into_is judge look xs to (assigned_bits v (look store) (width_of_all xs)) store h
    ∙ (λ i. write_all look to (assigned_bits v (look store) (sym (widths_are judge xs to h) i)) store)
    ∙ ap (λ (z : List Bit). write_all look to z store) (sym (bits_same m v (look store) (widths to) k))

assign_writes : (judge : Meaning → Faults) (to : List Target) (xs : List TypedTarget) (v : Typed) → AllZip (StandsFor judge) xs to → writes (act.Assign xs v) ≡ bits_named to
unfolding writes
assign_writes judge to xs v h = ap present (sym (slots_are judge xs to h))

assign_names : (judge : Meaning → Faults) (to : List Target) (m : Meaning) (xs : List TypedTarget) (v : Typed) → AllZip (StandsFor judge) xs to → Stands v m → (n : NamedSignal) → Contains (names (act.Assign xs v)) n →
    Contains (m.names ++ deeds.target_names to) n
unfolding names
assign_names judge to m xs v h k n q = contains_both (names_of v) (target_names xs) m.names (deeds.target_names to) n (names_stand m v n k) (targets_named judge xs to h n) q

assign_fits : (judge : Meaning → Faults) (to : List Target) (xs : List TypedTarget) (v : Typed) → AllZip (StandsFor judge) xs to → IsSound v → 1 ≤ width_of_all xs → width_of_all xs ≤ 128 → Fits (act.Assign xs v)
unfolding Fits
assign_fits judge to xs v h s some most = (s, All-from_recursion TargetFits xs (targets_fit judge xs to h), some, most)

pub acted_assign : (to : List Target) (why : Faults) (m : Meaning) (xs : List TypedTarget) (v : Typed) (made : ℕ) (z : Acted) → AreTargets free_faults why to xs → IsTyped m (m.faults false) v → 1 ≤ width_of_all xs → width_of_all xs ≤ 128 →
    z.actions ≡ act.Assign xs v ∷ [] → z.made ≡ made → IsActed (assign to why m) made z
acted_assign to why m xs v made z h k some most e n = record {
  clear = both_clear why (m.faults false) h.clear k.clear;
  turned = refl;
  made = n ∙ (let e : made ≡ made + 0 = omega arith in e);
  does = subst (λ (w : List Action). Does w (assign to why m)) (sym e)
      (does_one (act.Assign xs v) (assign to why m) (λ look store. assign_run free_faults to why m xs v look store h.stand k.stands) (assign_writes free_faults to xs v h.stand)
      (assign_names free_faults to m xs v h.stand k.stands) (assign_fits free_faults to xs v h.stand k.sound some most));
}

-- ---- one of two

truth_same : (c : Meaning) (v : Typed) (read : Read) → Stands v c → truth c read ≡ truth_bit v read
unfolding Stands
truth_same c v read h = ap (λ (x : Meaning). truth x read) h.is

choose_run : (c : Meaning) (a b : Deed) (v : Typed) (xs ys : List Action) (look : Store → Read) (store : Store) → Stands v c → Does xs a → Does ys b → run (act.Choose v xs ys) look store ≡ (if_else c a b).run look store
unfolding run shape-the_row-Action-0 hidden-the_row-Action-0 shape-the_row-Arm-1 hidden-the_row-Arm-1 denote.Hole.Carrier.hidden
choose_run c a b v xs ys look store s h k =
    (λ i. merged (truth_bit v (look store)) (row_run xs look store i) (row_run ys look store i))
    ∙ (λ i. merged (sym (truth_same c v (look store) s) i) (h.run look store i) (k.run look store i))

choose_writes : (a b : Deed) (v : Typed) (xs ys : List Action) → Does xs a → Does ys b → writes (act.Choose v xs ys) ≡ a.targets ++ b.targets
unfolding writes shape-the_row-Action-0 hidden-the_row-Action-0 shape-the_row-Arm-1 hidden-the_row-Arm-1 denote.Hole.Carrier.hidden
choose_writes a b v xs ys h k = (λ i. row_writes xs i ++ row_writes ys i) ∙ (λ i. h.writes i ++ k.writes i)

choose_names : (c : Meaning) (a b : Deed) (v : Typed) (xs ys : List Action) → Stands v c → Does xs a → Does ys b → (n : NamedSignal) → Contains (names (act.Choose v xs ys)) n → Contains (c.names ++ (a.names ++ b.names)) n
unfolding names shape-the_row-Action-0 hidden-the_row-Action-0 shape-the_row-Arm-1 hidden-the_row-Arm-1 denote.Hole.Carrier.hidden
choose_names c a b v xs ys s h k n q =
    contains_both (names_of v) (names_all xs ++ names_all ys) c.names (a.names ++ b.names) n (names_stand c v n s)
    (contains_both (names_all xs) (names_all ys) a.names b.names n (h.names n) (k.names n))
    (subst (λ (z : List NamedSignal). Contains z n) (λ i. names_of v ++ (row_names xs i ++ row_names ys i)) q)

choose_fits : (a b : Deed) (v : Typed) (xs ys : List Action) → IsSound v → Does xs a → Does ys b → Fits (act.Choose v xs ys)
unfolding Fits shape-the_row-Action-0 hidden-the_row-Action-0 shape-the_row-Arm-1 hidden-the_row-Arm-1 denote.Hole.Carrier.hidden
choose_fits a b v xs ys s h k = (s, row_fits xs h.fits, row_fits ys k.fits)

pub acted_choose : (c : Meaning) (a b : Deed) (v : Typed) (made : ℕ) (x y z : Acted) → IsTyped c (c.faults false) v → IsActed a made x → IsActed b x.made y → z.actions ≡ act.Choose v x.actions y.actions ∷ [] → z.made ≡ y.made →
    IsActed (if_else c a b) made z
acted_choose c a b v made x y z t h k e m = record {
  clear = both_clear (c.faults false) (a.faults ++ b.faults) t.clear (both_clear a.faults b.faults h.clear k.clear);
  turned = then_clear (a.overrun made) (b.overrun (made + a.turns)) h.turned (subst (λ (n : ℕ). b.overrun n ≡ []) h.made k.turned);
  made = let p = h.made in let q = k.made in omega (arith, m);
  does = subst (λ (w : List Action). Does w (if_else c a b)) (sym e)
      (does_one (act.Choose v x.actions y.actions) (if_else c a b) (λ look store. choose_run c a b v x.actions y.actions look store t.stands h.does k.does) (choose_writes a b v x.actions y.actions h.does k.does)
      (choose_names c a b v x.actions y.actions t.stands h.does k.does) (choose_fits a b v x.actions y.actions t.sound h.does k.does));
}

-- ---- what is done by one action

pub only_judged : (d : Deed) (made n : ℕ) (x : Action) (r : Result Acted TextErr) → IfOk r (λ z. z.actions ≡ x ∷ []) → IfOk r (λ z. z.made ≡ n) → IfErr r (λ e. e ≡ Memory) → ((z : Acted) → z.actions ≡ x ∷ [] → z.made ≡ n → IsActed d made z) → JudgesDeed d made r
only_judged d made n x (Ok z) a m e f = f z a m
only_judged d made n x (Err why) a m e f = subst (λ (y : TextErr). IsCause (d.faults ++ d.overrun made) y) (sym e) tt

pub assign_cause_targets : (to : List Target) (why : Faults) (m : Meaning) (made : ℕ) (e : TextErr) → IsCause why e → IsCause ((assign to why m).faults ++ (assign to why m).overrun made) e
assign_cause_targets to why m made e h = cause_from why ((why ++ free_faults m) ++ []) (λ r q. in_left (why ++ free_faults m) [] r (in_left why (free_faults m) r q)) e h

pub assign_cause_value : (to : List Target) (why : Faults) (m : Meaning) (made : ℕ) (e : TextErr) → IsCause (m.faults false) e → IsCause ((assign to why m).faults ++ (assign to why m).overrun made) e
assign_cause_value to why m made e h = cause_from (m.faults false) ((why ++ free_faults m) ++ []) (λ r q. in_left (why ++ free_faults m) [] r (in_right why (free_faults m) r q)) e h

pub choose_cause : (c : Meaning) (a b : Deed) (made : ℕ) (e : TextErr) → IsCause (c.faults false) e → IsCause ((if_else c a b).faults ++ (if_else c a b).overrun made) e
choose_cause c a b made e h =
    let O = or_then (a.overrun made) (b.overrun (made + a.turns)) in
    cause_from (c.faults false) ((free_faults c ++ (a.faults ++ b.faults)) ++ O) (λ r q. in_left (free_faults c ++ (a.faults ++ b.faults)) O r (in_left (free_faults c) (a.faults ++ b.faults) r q)) e h

pub acted_ok : (d : Deed) (made : ℕ) (r : Result Acted TextErr) (x : Acted) → r ≡ Ok x → JudgesDeed d made r → IsActed d made x
acted_ok d made r x e h = subst (JudgesDeed d made) e h

pub acted_err : (d : Deed) (made : ℕ) (r : Result Acted TextErr) (e : TextErr) → r ≡ Err e → JudgesDeed d made r → IsCause (d.faults ++ d.overrun made) e
acted_err d made r e q h = subst (JudgesDeed d made) q h
