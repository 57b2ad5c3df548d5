-- The words behind the declarations, one word more, whatever scopes and signals there are.
use Rattle.std.proofs.Common.{◌≡◌, ◌⊎◌, inl, inr, ℕ, Bool, true, false, List, [], ◌∷◌, ◌++◌, Option, None, Some, is_some, Result, Ok, Err, refl, sym, ap, ◌∙◌, append_assoc, append-nil}
use Rattle.std.specs.Prelude.{if◌then◌else◌}
use Rattle.fourvec.specs.declared.Bit.{Bit}
use Rattle.sv_outside.specs.declared.refusal.Place.{Place}
use Rattle.vcd_text.specs.declared.mode.Rest.{Rest}
use Rattle.vcd_text.specs.declared.mode.Rest.TheVariants as rest
use Rattle.vcd_text.specs.declared.waves.VcdVar.{VcdVar}
use Rattle.vcd_text.specs.declared.scan.Scan.{Scan}
use Rattle.vcd_text.specs.declared.scan.Step.{Step}
use Rattle.vcd_text.specs.declared.scan.Step.TheVariants as came
use Rattle.vcd_text.specs.declared.scan.WrittenChange.{WrittenChange}
use Rattle.vcd_text.specs.Words.{Text, Word}
use Rattle.vcd_text.specs.Forms.{bits_of, chain}
use Rattle.vcd_text.specs.Waves.{Change}
use Rattle.vcd_text.specs.Steps.{State, Wait, at, behind, step, is_done, outcome, changes_in}
use Rattle.vcd_text.specs.Scans.{rest_of, state_of, stepped}
use Rattle.vcd_text.proofs.Outcomes.{after, one_word}
use Rattle.vcd_text.proofs.Behind.{IsRest, Both, step_both}
use Rattle.vcd_text.proofs.Telling.{told_after, told_first, told_none}

pub is_rest : (r : Rest) → IsRest (rest_of r)
is_rest rest.Between = tt
is_rest rest.Skipping = tt
is_rest (rest.VectorCode digits) = tt
is_rest rest.RealCode = tt

-- the state of a scan, with scopes, signals and changes so far
abbrev pub full : List Text → List VcdVar → List Change → Scan → State
full scopes vars changes s = at (rest_of s.wait) (behind scopes vars changes s.dumping s.time)

same_some : (s t : State) → Some s ≡ Some t → s ≡ t
same_some s t e = cc

none_some : (o : Option State) (s : State) → o ≡ None → o ≡ Some s → ⊥
none_some o s n e = cc

-- ---- a word

full_taken : (scopes : List Text) (vars : List VcdVar) (changes : List Change) (f b : Option State) (n : State) → Both scopes vars changes f b → b ≡ Some n
    → f ≡ Some (at n.wait (behind scopes vars (changes ++ n.told.changes) n.told.dumping n.told.time))
full_taken scopes vars changes f b n (inl none) e = absurd (none_some b n none.1 e)
full_taken scopes vars changes f b n (inr a) e =
    let same : at a.wait (behind [] [] a.told a.dumping a.time) ≡ n = same_some (at a.wait (behind [] [] a.told a.dumping a.time)) n (sym a.bare_is ∙ e) in
    a.full_is ∙ ap (λ s. Some (at s.wait (behind scopes vars (changes ++ s.told.changes) s.told.dumping s.told.time))) same

full_refused : (scopes : List Text) (vars : List VcdVar) (changes : List Change) (f b : Option State) → Both scopes vars changes f b → b ≡ None → f ≡ None
full_refused scopes vars changes f b (inl none) e = none.0
full_refused scopes vars changes f b (inr a) e = absurd (none_some b (at a.wait (behind [] [] a.told a.dumping a.time)) e a.bare_is)

-- what is waited for next, and the changes that the word tells
pub record Taken (old new : Scan) (w : Word) : Type 0 where
  pub told : List Change
  pub is : step (state_of old) w ≡ Some (at (rest_of new.wait) (behind [] [] told new.dumping new.time))

pub taken : (c : Step) (old new : Scan) (w : Word) → (c ≡ came.Refused → ⊥) → stepped c (state_of new) ≡ step (state_of old) w → Taken old new w
taken came.Taken old new w some e = record { told = []; is = sym e }
taken came.Refused old new w some e = absurd (some refl)
taken (came.Change c) old new w some e = by_case (bits_of c.bits.now) refl
  where
    by_case : (o : Option (List Bit)) → bits_of c.bits.now ≡ o → Taken old new w
    by_case None h = let no : false ≡ true = ap is_some (sym h) ∙ c.said in cc
    by_case (Some bits) h = record {
      told = (record { time = c.time; code = c.code.now; bits = bits }) ∷ [];
      is = sym e ∙ ap (λ o. chain o (λ b. Some (at (rest_of new.wait) (behind [] [] ((record { time = c.time; code = c.code.now; bits = b }) ∷ []) new.dumping new.time)))) h;
    }

pub full_step : (scopes : List Text) (vars : List VcdVar) (changes : List Change) (old new : Scan) (w : Word) → (t : Taken old new w)
    → step (full scopes vars changes old) w ≡ Some (full scopes vars (changes ++ t.told) new)
full_step scopes vars changes old new w t =
    full_taken scopes vars changes (step (full scopes vars changes old) w) (step (state_of old) w) (at (rest_of new.wait) (behind [] [] t.told new.dumping new.time))
    (step_both scopes vars changes old.dumping old.time (rest_of old.wait) w (is_rest old.wait)) t.is

pub word_checked : (end : Place) (scopes : List Text) (vars : List VcdVar) (changes : List Change) (old new : Scan) (w : Word) (more all : List Word) (whole : Result State Place) → (t : Taken old new w)
    → all ≡ w ∷ more → outcome end (full scopes vars changes old) all ≡ whole → outcome end (full scopes vars (changes ++ t.told) new) more ≡ whole
word_checked end scopes vars changes old new w more all whole t is so_far =
    ap (after end w.place more) (sym (full_step scopes vars changes old new w t)) ∙ sym (one_word end (full scopes vars changes old) w more) ∙ ap (outcome end (full scopes vars changes old)) (sym is) ∙ so_far

pub word_stops : (end : Place) (scopes : List Text) (vars : List VcdVar) (changes : List Change) (old : Scan) (w : Word) (more all : List Word) (whole : Result State Place) → None ≡ step (state_of old) w
    → all ≡ w ∷ more → outcome end (full scopes vars changes old) all ≡ whole → whole ≡ Err w.place
word_stops end scopes vars changes old w more all whole stops is so_far =
    sym so_far ∙ ap (outcome end (full scopes vars changes old)) is ∙ one_word end (full scopes vars changes old) w more
    ∙ ap (after end w.place more)
    (full_refused scopes vars changes (step (full scopes vars changes old) w) (step (state_of old) w) (step_both scopes vars changes old.dumping old.time (rest_of old.wait) w (is_rest old.wait)) (sym stops))

-- ---- the end

pub same_done : (scopes : List Text) (vars : List VcdVar) (changes : List Change) (s : Scan) → is_done (full scopes vars changes s) ≡ is_done (state_of s)
unfolding is_done
same_done scopes vars changes s = refl

-- ---- the changes that are told

-- all words are taken: the signals stay, and the changes are those that the words tell
abbrev TellsOn : List VcdVar → List Change → Wait → Bool → ℕ → List Word → State → Type 0
TellsOn vars changes wait dumping time list z = (z.told.vars ≡ vars) × (z.told.changes ≡ changes ++ changes_in (at wait (behind [] [] [] dumping time)) list)

ends_with : (b : Bool) (s z : State) (end : Place) → (if b then Ok s else Err end) ≡ Ok z → s ≡ z
ends_with true s z end e = cc
ends_with false s z end e = cc

no_err : (p : Place) (z : State) → Err p ≡ Ok z → ⊥
no_err p z e = cc

pub told_behind : (end : Place) (scopes : List Text) (vars : List VcdVar) (changes : List Change) (dumping : Bool) (time : ℕ) (wait : Wait) (list : List Word) (z : State) → IsRest wait
    → outcome end (at wait (behind scopes vars changes dumping time)) list ≡ Ok z → TellsOn vars changes wait dumping time list z
unfolding outcome
told_behind end scopes vars changes dumping time wait [] z rest e =
    let same : at wait (behind scopes vars changes dumping time) ≡ z = ends_with (is_done (at wait (behind scopes vars changes dumping time))) (at wait (behind scopes vars changes dumping time)) z end e in (
      ap (λ s. s.told.vars) (sym same),
      ap (λ s. s.told.changes) (sym same) ∙ sym (append-nil changes) ∙ ap (λ l. changes ++ l) (sym (told_none (at wait (behind [] [] [] dumping time)) [] refl)),
    )
told_behind end scopes vars changes dumping time wait (w ∷ more) z rest e =
    by_case (step_both scopes vars changes dumping time wait w rest) (λ told d t next rest h. told_behind end scopes vars (changes ++ told) d t next more z rest h)
  where
    by_case : Both scopes vars changes (step (at wait (behind scopes vars changes dumping time)) w) (step (at wait (behind [] [] [] dumping time)) w)
        → ((told : List Change) (d : Bool) (t : ℕ) (next : Wait) → IsRest next → outcome end (at next (behind scopes vars (changes ++ told) d t)) more ≡ Ok z → TellsOn vars (changes ++ told) next d t more z)
        → TellsOn vars changes wait dumping time (w ∷ more) z
    by_case (inl none) deeper = absurd (no_err w.place z (ap (after end w.place more) (sym none.0) ∙ sym (one_word end (at wait (behind scopes vars changes dumping time)) w more) ∙ e))
    by_case (inr a) deeper =
        let later = deeper a.told a.dumping a.time a.wait a.rest
        (ap (after end w.place more) (sym a.full_is) ∙ sym (one_word end (at wait (behind scopes vars changes dumping time)) w more) ∙ e) in (
          later.0,
          later.1 ∙ append_assoc changes a.told (changes_in (at a.wait (behind [] [] [] a.dumping a.time)) more)
              ∙ ap (λ l. changes ++ l) (sym (told_first (at wait (behind [] [] [] dumping time)) w more ∙ ap (told_after more) a.bare_is)),
        )

pub not_refused : (c : Step) → (c ≡ came.Taken) ⊎ ((w : WrittenChange) × (c ≡ came.Change w)) → c ≡ came.Refused → ⊥
not_refused c (inl e) r = cc
not_refused c (inr e) r = let same = e.1 in cc
