-- The phases that are printed, as they are read again: the changes that each tells.
use Rattle.std.proofs.Common.{◌≡◌, ℕ, ◌+◌, ◌<◌, ◌≤◌, ◌^◌, Bool, true, false, List, [], ◌∷◌, ◌++◌, length, reverse, Option, None, Some, All, refl, sym, ap, ◌∙◌, subst, append_assoc, append-nil, arith}
use Rattle.std.specs.Prelude.{◌==◌, if◌then◌else◌}
use Rattle.std.proofs.lemmas.Bool.{ne_eqb, eqb-true}
use Rattle.std.proofs.lemmas.List.Elements.{All-head, All-tail}
use Rattle.fourvec.specs.declared.Bit.{Bit}
use Rattle.sv_outside.specs.declared.text.Signal.{Signal}
use Rattle.vcd_text.specs.declared.waves.VcdVar.{VcdVar}
use Rattle.vcd_text.specs.Words.{Text, start, words, words_from}
use Rattle.vcd_text.specs.Waves.{Change, Told, nothing_told, with_change, Wave}
use Rattle.vcd_text.specs.Steps.{between, run, at_start}
use Rattle.vcd_print.specs.Printed.{code_of, change_line, scalar_line, vector_line, changed_line, is_same, lines_since, time_line, phase_text, phases_from, declarations, dump_text}
use Rattle.vcd_print.specs.Dumps.{HasBits}
use Rattle.vcd_print.proofs.Lines.{OverTo, over_both, over_nothing, scalar_over, vector_over}
use Rattle.vcd_print.proofs.Decimals.{time_over}
use Rattle.vcd_print.proofs.Declaring.{AreVars, AreWires, Declared, declarations_over}
use Rattle.vcd_text.proofs.Laws.{stands_where}

-- ---- the changes that phases tell

abbrev pub written : ℕ → ℕ → List Bit → Change
written time n v = record { time = time; code = code_of n; bits = reverse v }

abbrev pub changed : ℕ → ℕ → Option (List Bit) → List Bit → List Change
changed time n None v = written time n v ∷ []
changed time n (Some u) v = if is_same u v then [] else written time n v ∷ []

unfoldable pub changes_since : ℕ → ℕ → List (List Bit) → List (List Bit) → List Change
changes_since time n before [] = []
changes_since time n [] (v ∷ more) = changed time n None v ++ changes_since time (n + 1) [] more
changes_since time n (u ∷ before) (v ∷ more) = changed time n (Some u) v ++ changes_since time (n + 1) before more

unfoldable pub changes_from : ℕ → List (List Bit) → List (List (List Bit)) → List Change
changes_from t before [] = []
changes_from t before (values ∷ more) = changes_since t 0 before values ++ changes_from (t + 1) values more

-- ---- what is told within the phases

pub record Telling (vars : List VcdVar) (changes : List Change) (time : ℕ) (t : Told) : Type 0 where
  pub ended : t.ended ≡ true
  pub calm : t.dumping ≡ false
  pub time_is : t.time ≡ time
  pub vars_are : t.vars ≡ vars
  pub changes_are : t.changes ≡ changes

over_change : (told : Told) (n : ℕ) (v : List Bit) (P : Told → Type 0) → told.ended ≡ true → HasBits v → P (with_change told (code_of n) (reverse v)) → OverTo told (change_line n v) P
over_change told n v P ended some h = by_case (length v == 1) refl v refl
  where
    by_case : (b : Bool) → (length v == 1) ≡ b → (w : List Bit) → v ≡ w → OverTo told (change_line n v) P
    by_case false e w is =
        subst (λ x. OverTo told (if x then scalar_line n v else vector_line n v) P) (sym e) (vector_over told n v P ended (ne_eqb (length v) 0 (λ z. omega (arith, some, z))) h)
    by_case true e [] is = absurd (omega (arith, some, ap length is))
    by_case true e (b ∷ []) is =
        subst (λ x. OverTo told (change_line n x) P) (sym is) (scalar_over told n b P ended (subst (λ x. P (with_change told (code_of n) (reverse x))) is h))
    by_case true e (b ∷ c ∷ w) is = let long : length v ≡ 1 = eqb-true (length v) 1 e in absurd (omega (arith, long, ap length is))

change_over : (vars : List VcdVar) (changes : List Change) (time n : ℕ) (v : List Bit) (t : Told) → Telling vars changes time t → HasBits v → OverTo t (change_line n v) (Telling vars (changes ++ written time n v ∷ []) time)
change_over vars changes time n v t d some =
    over_change t n v (Telling vars (changes ++ written time n v ∷ []) time) d.ended some
    (record {
      ended = d.ended;
      calm = d.calm;
      time_is = d.time_is;
      vars_are = d.vars_are;
      changes_are = ap (λ l. l ++ record { time = t.time; code = code_of n; bits = reverse v } ∷ []) d.changes_are ∙ ap (λ k. changes ++ record { time = k; code = code_of n; bits = reverse v } ∷ []) d.time_is;
    })

stays_over : (vars : List VcdVar) (changes : List Change) (time : ℕ) (t : Told) → Telling vars changes time t → OverTo t [] (Telling vars (changes ++ []) time)
stays_over vars changes time t d = over_nothing t (Telling vars (changes ++ []) time) (subst (λ l. Telling vars l time t) (sym (append-nil changes)) d)

changed_over : (vars : List VcdVar) (changes : List Change) (time n : ℕ) (o : Option (List Bit)) (v : List Bit) (t : Told) → Telling vars changes time t → HasBits v
    → OverTo t (changed_line n o v) (Telling vars (changes ++ changed time n o v) time)
changed_over vars changes time n None v t d some = change_over vars changes time n v t d some
changed_over vars changes time n (Some u) v t d some = by_case (is_same u v)
  where
    by_case : (b : Bool) → OverTo t (if b then [] else change_line n v) (Telling vars (changes ++ (if b then [] else written time n v ∷ [])) time)
    by_case true = stays_over vars changes time t d
    by_case false = change_over vars changes time n v t d some

-- a line and those behind it
lines_both : (vars : List VcdVar) (changes here later : List Change) (time : ℕ) (line rest : Text) (t : Told) → OverTo t line (Telling vars (changes ++ here) time)
    → ((x : Told) → Telling vars (changes ++ here) time x → OverTo x rest (Telling vars ((changes ++ here) ++ later) time)) → OverTo t (line ++ rest) (Telling vars (changes ++ (here ++ later)) time)
lines_both vars changes here later time line rest t a b =
    over_both t line rest (Telling vars (changes ++ here) time) (Telling vars (changes ++ (here ++ later)) time) a
    (λ x dx. subst (λ l. OverTo x rest (Telling vars l time)) (append_assoc changes here later) (b x dx))

lines_over : (vars : List VcdVar) (changes : List Change) (time n : ℕ) (before values : List (List Bit)) (t : Told) → All HasBits values → Telling vars changes time t
    → OverTo t (lines_since n before values) (Telling vars (changes ++ changes_since time n before values) time)
unfolding lines_since changes_since
lines_over vars changes time n before [] t some d = stays_over vars changes time t d
lines_over vars changes time n [] (v ∷ more) t some d =
    lines_both vars changes (changed time n None v) (changes_since time (n + 1) [] more) time (changed_line n None v) (lines_since (n + 1) [] more) t
    (changed_over vars changes time n None v t d (All-head HasBits v more some))
    (λ x dx. lines_over vars (changes ++ changed time n None v) time (n + 1) [] more x (All-tail HasBits v more some) dx)
lines_over vars changes time n (u ∷ before) (v ∷ more) t some d =
    lines_both vars changes (changed time n (Some u) v) (changes_since time (n + 1) before more) time (changed_line n (Some u) v) (lines_since (n + 1) before more) t
    (changed_over vars changes time n (Some u) v t d (All-head HasBits v more some))
    (λ x dx. lines_over vars (changes ++ changed time n (Some u) v) time (n + 1) before more x (All-tail HasBits v more some) dx)

phase_over : (vars : List VcdVar) (changes : List Change) (held time : ℕ) (before values : List (List Bit)) (t : Told) → held ≤ time → time < 2 ^ 64 → All HasBits values → Telling vars changes held t
    → OverTo t (phase_text time before values) (Telling vars (changes ++ changes_since time 0 before values) time)
phase_over vars changes held time before values t later small some d =
    over_both t (time_line time) (lines_since 0 before values) (Telling vars changes time) (Telling vars (changes ++ changes_since time 0 before values) time)
    (time_over t time (Telling vars changes time) small d.ended (omega (arith, later, d.time_is)) (record { ended = d.ended; calm = d.calm; time_is = refl; vars_are = d.vars_are; changes_are = d.changes_are }))
    (λ x dx. lines_over vars changes time 0 before values x some dx)

-- what is told behind all phases
pub record Finished (vars : List VcdVar) (changes : List Change) (t : Told) : Type 0 where
  pub ended : t.ended ≡ true
  pub calm : t.dumping ≡ false
  pub vars_are : t.vars ≡ vars
  pub changes_are : t.changes ≡ changes

finished : (vars : List VcdVar) (changes : List Change) (time : ℕ) (t : Told) → Telling vars changes time t → Finished vars changes t
finished vars changes time t d = record { ended = d.ended; calm = d.calm; vars_are = d.vars_are; changes_are = d.changes_are }

phases_over : (vars : List VcdVar) (changes : List Change) (held time : ℕ) (before : List (List Bit)) (phases : List (List (List Bit))) (t : Told) → held ≤ time → time + length phases ≤ 2 ^ 64
    → All (All HasBits) phases → Telling vars changes held t → OverTo t (phases_from time before phases) (Finished vars (changes ++ changes_from time before phases))
unfolding phases_from changes_from
phases_over vars changes held time before [] t later small some d =
    over_nothing t (Finished vars (changes ++ [])) (subst (λ l. Finished vars l t) (sym (append-nil changes)) (finished vars changes held t d))
phases_over vars changes held time before (values ∷ more) t later small some d =
    over_both t (phase_text time before values) (phases_from (time + 1) values more) (Telling vars (changes ++ changes_since time 0 before values) time)
    (Finished vars (changes ++ (changes_since time 0 before values ++ changes_from (time + 1) values more)))
    (phase_over vars changes held time before values t later (omega (arith, small)) (All-head (All HasBits) values more some) d)
    (λ x dx. subst (λ l. OverTo x (phases_from (time + 1) values more) (Finished vars l)) (append_assoc changes (changes_since time 0 before values) (changes_from (time + 1) values more))
    (phases_over vars (changes ++ changes_since time 0 before values) time (time + 1) values more x (omega arith) (omega (arith, small)) (All-tail (All HasBits) values more some) dx))

-- ---- the whole text

-- what the whole text tells
pub record Whole (wires : List Signal) (phases : List (List (List Bit))) (t : Told) : Type 0 where
  pub ended : t.ended ≡ true
  pub calm : t.dumping ≡ false
  pub vars_are : AreVars 0 wires t.vars
  pub changes_are : t.changes ≡ changes_from 0 [] phases

dump_over : (wires : List Signal) (phases : List (List (List Bit))) → AreWires wires → length phases ≤ 2 ^ 64 → All (All HasBits) phases → OverTo nothing_told (dump_text wires phases) (Whole wires phases)
dump_over wires phases are few some =
    over_both nothing_told (declarations wires) (phases_from 0 [] phases) (Declared wires) (Whole wires phases)
    (declarations_over wires nothing_told are (record { scopes_are = refl; early = refl; calm = refl; begin = refl; none = refl; vars_are = tt }))
    (λ x dx p rest.
    let h = phases_over x.vars [] 0 0 [] phases x (omega arith) (omega (arith, few)) some (record { ended = dx.ended; calm = dx.calm; time_is = dx.begin; vars_are = refl; changes_are = dx.none }) p rest in (
      h.0,
      h.1,
      record { ended = h.2.ended; calm = h.2.calm; vars_are = subst (AreVars 0 wires) (sym h.2.vars_are) dx.vars_are; changes_are = h.2.changes_are },
    ))

pub record Reads (wires : List Signal) (phases : List (List (List Bit))) (text : Text) : Type 0 where
  pub vars : List VcdVar
  pub wave : Wave text vars (changes_from 0 [] phases)
  pub are : AreVars 0 wires vars

pub dump_reads : (wires : List Signal) (phases : List (List (List Bit))) → AreWires wires → length phases ≤ 2 ^ 64 → All (All HasBits) phases → Reads wires phases (dump_text wires phases)
unfolding run words_from
dump_reads wires phases are few some =
    let h = dump_over wires phases are few some start [] in
    let text : Text = dump_text wires phases in
    let ran : run at_start (words text) ≡ Some (record { wait = between; told = h.0 }) = ap (λ t. run at_start (words t)) (sym (append-nil text)) ∙ h.1 in
    record {
      vars = h.0.vars;
      wave = subst (Wave text h.0.vars) h.2.changes_are (stands_where text h.0 ran h.2.ended h.2.calm);
      are = h.2.vars_are;
    }
