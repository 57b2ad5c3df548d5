-- What comes of the words of a text is what it stands for, or where it breaks the form.
use Rattle.std.proofs.Common.{◌≡◌, ◌⊎◌, inl, inr, Bool, true, false, not, ◌&&◌, List, [], ◌∷◌, ◌++◌, Option, None, Some, Ok, Err, refl, sym, ap, ◌∙◌, subst, append_assoc, append-nil}
use Rattle.std.specs.Prelude.{if◌then◌else◌}
use Rattle.std.specs.List.{flat_map}
use Rattle.std.proofs.lemmas.Bool.{and_parts, and_from, not-true}
use Rattle.sv_outside.specs.declared.refusal.Place.{Place}
use Rattle.vcd_text.specs.declared.waves.VcdVar.{VcdVar}
use Rattle.vcd_text.specs.Words.{Text, Word, words, past, start}
use Rattle.vcd_text.specs.Forms.{chain}
use Rattle.vcd_text.specs.Waves.{item_words, Change, Told, nothing_told, Stand, Wave, Begin, BreaksAt, at_word, at_end}
use Rattle.vcd_text.specs.Steps.{Wait, between, scope_kind, scope_name, scope_end, up_end, var_kind, var_width, var_code, var_name, var_range, var_end, ending_end, skipping, vector_code, real_code, State, at_start, is_between, is_done, step, run, outcome}
use Rattle.vcd_text.proofs.Outcomes.{after, one_word}
use Rattle.vcd_text.proofs.Runs.{reached, Within, chain_is}
use Rattle.vcd_text.proofs.Taking.{Finishes, finishes, items_taken, Fits}

-- ---- what stands, and runs

run_more : (s mid : State) (front more : List Word) → run s front ≡ Some mid → run s (front ++ more) ≡ run mid more
unfolding run
run_more s mid [] more e = ap (λ x. run x more) (let same : s ≡ mid = cc in same)
run_more s mid (w ∷ front) more e =
    let on = chain_is (step s w) (λ n. run n front) mid e in
    ap (λ o. chain o (λ n. run n (front ++ more))) on.1 ∙ run_more on.0 mid front more on.2

between_is : (w : Wait) → is_between w ≡ true → w ≡ between
between_is between e = refl
between_is scope_kind e = cc
between_is scope_name e = cc
between_is (scope_end name) e = cc
between_is up_end e = cc
between_is var_kind e = cc
between_is (var_width kind) e = cc
between_is (var_code kind width) e = cc
between_is (var_name kind width code) e = cc
between_is (var_range kind width code name place) e = cc
between_is (var_end kind width code name place) e = cc
between_is ending_end e = cc
between_is skipping e = cc
between_is (vector_code digits) e = cc
between_is real_code e = cc

-- words that are taken up to an end stand for what is told then
stands : (list : List Word) (last : State) → run at_start list ≡ Some last → is_done last ≡ true → Stand list last.told
unfolding is_done
stands list last e done =
    let r = reached list last e in
    let parts = and_parts (is_between last.wait) (last.told.ended && not last.told.dumping) done in
    let calm = and_parts last.told.ended (not last.told.dumping) parts.1 in
    let over : r.part ≡ [] = subst (λ w. Within last.told w r.part) (between_is last.wait parts.0) r.within in
    record {
      items = r.items;
      is = r.is ∙ ap (λ p. flat_map item_words r.items ++ p) over ∙ append-nil (flat_map item_words r.items);
      tell = r.tell;
      ended = calm.0;
      whole = not-true last.told.dumping calm.1;
    }

-- the same of a whole text
pub stands_where : (text : Text) (told : Told) → run at_start (words text) ≡ Some (record { wait = between; told = told }) → told.ended ≡ true → told.dumping ≡ false → Wave text told.vars told.changes
unfolding is_done
stands_where text told e ended calm = record {
  last = told;
  stand = stands (words text) (record { wait = between; told = told }) e (and_from told.ended (not told.dumping) ended (ap not calm));
  vars_are = refl;
  changes_are = refl;
}

-- and the other way round
runs : (list : List Word) (last : Told) → Stand list last → run at_start list ≡ Some (record { wait = between; told = last })
runs list last s = ap (run at_start) s.is ∙ items_taken nothing_told last s.items s.tell

done_at : (list : List Word) (last : Told) → Stand list last → is_done (record { wait = between; told = last }) ≡ true
unfolding is_done
done_at list last s = and_from last.ended (not last.dumping) s.ended (ap not s.whole)

fits_within : (told : Told) (wait : Wait) (part : List Word) → Within told wait part → Fits wait
fits_within told between part h = tt
fits_within told scope_kind part h = tt
fits_within told scope_name part h = tt
fits_within told (scope_end name) part h = tt
fits_within told up_end part h = tt
fits_within told var_kind part h = tt
fits_within told (var_width kind) part h = tt
fits_within told (var_code kind width) part h = tt
fits_within told (var_name kind width code) part h = tt
fits_within told (var_range kind width code name place) part h = tt
fits_within told (var_end kind width code name place) part h = tt
fits_within told ending_end part h = tt
fits_within told skipping part h = tt
fits_within told (vector_code digits) part h = h.0
fits_within told real_code part h = tt

-- words that are taken go on to a dump
begins : (list : List Word) (s : State) → run at_start list ≡ Some s → Begin list
begins list s e =
    let r = reached list s e in
    let f : Finishes s = finishes s.wait s.told (fits_within s.told s.wait r.part r.within) in
    record {
      rest = f.rest;
      last = f.last.told;
      stand = stands (list ++ f.rest) f.last (run_more at_start s list f.rest e ∙ f.runs) f.done;
    }

-- ---- outcomes

if_ok : (b : Bool) (s t : State) (end : Place) → (if b then Ok s else Err end) ≡ Ok t → (b ≡ true) × (s ≡ t)
if_ok true s t end e = (refl, cc)
if_ok false s t end e = cc

if_err : (b : Bool) (s : State) (end p : Place) → (if b then Ok s else Err end) ≡ Err p → (b ≡ false) × (end ≡ p)
if_err true s end p e = cc
if_err false s end p e = (refl, cc)

ok_word : (end here : Place) (more : List Word) (t : State) (o : Option State) → after end here more o ≡ Ok t
    → ((n : State) → outcome end n more ≡ Ok t → (run n more ≡ Some t) × (is_done t ≡ true)) → (chain o (λ n. run n more) ≡ Some t) × (is_done t ≡ true)
ok_word end here more t None e f = cc
ok_word end here more t (Some n) e f = f n e

outcome_ok : (end : Place) (s : State) (list : List Word) (t : State) → outcome end s list ≡ Ok t → (run s list ≡ Some t) × (is_done t ≡ true)
unfolding outcome run
outcome_ok end s [] t e = let h = if_ok (is_done s) s t end e in (ap (λ x. Some x) h.1, ap is_done (sym h.1) ∙ h.0)
outcome_ok end s (w ∷ more) t e = ok_word end w.place more t (step s w) (sym (one_word end s w more) ∙ e) (λ n h. outcome_ok end n more t h)

-- a word is not taken
pub record StopsIn (s : State) (list : List Word) (p : Place) : Type 0 where
  pub front : List Word
  pub more : List Word
  pub w : Word
  pub mid : State
  pub is : list ≡ front ++ w ∷ more
  pub ran : run s front ≡ Some mid
  pub stop : step mid w ≡ None
  pub place : w.place ≡ p

-- all words are taken, and it is no end
pub record StopsBehind (end : Place) (s : State) (list : List Word) (p : Place) : Type 0 where
  pub mid : State
  pub ran : run s list ≡ Some mid
  pub undone : is_done mid ≡ false
  pub place : end ≡ p

abbrev Stops : Place → State → List Word → Place → Type 0
Stops end s list p = StopsIn s list p ⊎ StopsBehind end s list p

err_word : (end : Place) (s : State) (w : Word) (more : List Word) (p : Place) (o : Option State) → step s w ≡ o → after end w.place more o ≡ Err p
    → ((n : State) → outcome end n more ≡ Err p → Stops end n more p) → Stops end s (w ∷ more) p
unfolding run
err_word end s w more p None e h f = inl (record { front = []; more = more; w = w; mid = s; is = refl; ran = refl; stop = e; place = cc })
err_word end s w more p (Some n) e h f = behind (f n h)
  where
    behind : Stops end n more p → Stops end s (w ∷ more) p
    behind (inl x) = inl (record { front = w ∷ x.front; more = x.more; w = x.w; mid = x.mid; is = ap (λ l. w ∷ l) x.is; ran = ap (λ o. chain o (λ m. run m x.front)) e ∙ x.ran; stop = x.stop; place = x.place })
    behind (inr x) = inr (record { mid = x.mid; ran = ap (λ o. chain o (λ m. run m more)) e ∙ x.ran; undone = x.undone; place = x.place })

outcome_err : (end : Place) (s : State) (list : List Word) (p : Place) → outcome end s list ≡ Err p → Stops end s list p
unfolding outcome run
outcome_err end s [] p e = let h = if_err (is_done s) s end p e in inr (record { mid = s; ran = refl; undone = h.0; place = h.1 })
outcome_err end s (w ∷ more) p e = err_word end s w more p (step s w) refl (sym (one_word end s w more) ∙ e) (λ n h. outcome_err end n more p h)

-- ---- a text

same_some : (s t : State) → Some s ≡ Some t → s ≡ t
same_some s t e = cc

no_some : (s : State) (o : Option State) → o ≡ None → o ≡ Some s → ⊥
no_some s None n e = cc
no_some s (Some t) n e = cc

not_both : (b : Bool) → b ≡ true → b ≡ false → ⊥
not_both true t f = cc
not_both false t f = cc

pub what_stands : (text : Text) (s : State) → outcome (past start text) at_start (words text) ≡ Ok s → Wave text s.told.vars s.told.changes
what_stands text s e =
    let h = outcome_ok (past start text) at_start (words text) s e in
    record { last = s.told; stand = stands (words text) s h.0 h.1; vars_are = refl; changes_are = refl }

pub nothing_else : (text : Text) (s : State) (vars : List VcdVar) (changes : List Change) → outcome (past start text) at_start (words text) ≡ Ok s → Wave text vars changes
    → (s.told.vars ≡ vars) × (s.told.changes ≡ changes)
nothing_else text s vars changes e w =
    let h = outcome_ok (past start text) at_start (words text) s e in
    let same : s ≡ record { wait = between; told = w.last } = same_some s (record { wait = between; told = w.last }) (sym h.0 ∙ runs (words text) w.last w.stand) in
    (ap (λ x. x.told.vars) same ∙ w.vars_are, ap (λ x. x.told.changes) same ∙ w.changes_are)

-- where a word is not taken, no dump goes on so
stuck : (list : List Word) (p : Place) → (x : StopsIn at_start list p) → (rest : List Word) (last : Told) → Stand (x.front ++ x.w ∷ rest) last → ⊥
unfolding run
stuck list p x rest last s =
    let none : run at_start (x.front ++ x.w ∷ rest) ≡ None = run_more at_start x.mid x.front (x.w ∷ rest) x.ran ∙ ap (λ o. chain o (λ n. run n rest)) x.stop in
    no_some (record { wait = between; told = last }) (run at_start (x.front ++ x.w ∷ rest)) none (runs (x.front ++ x.w ∷ rest) last s)

unended : (end : Place) (list : List Word) (p : Place) → StopsBehind end at_start list p → (last : Told) → Stand list last → ⊥
unended end list p x last s =
    let same : x.mid ≡ record { wait = between; told = last } = same_some x.mid (record { wait = between; told = last }) (sym x.ran ∙ runs list last s) in
    not_both (is_done x.mid) (ap is_done same ∙ done_at list last s) x.undone

pub breaks : (text : Text) (p : Place) → outcome (past start text) at_start (words text) ≡ Err p → BreaksAt text p
breaks text p e = by_case (outcome_err (past start text) at_start (words text) p e)
  where
    by_case : Stops (past start text) at_start (words text) p → BreaksAt text p
    by_case (inl x) =
        subst (BreaksAt text) x.place
        (at_word x.front x.more x.w x.is (begins x.front x.mid x.ran)
        (λ b. stuck (words text) p x b.rest b.last (subst (λ l. Stand l b.last) (append_assoc x.front (x.w ∷ []) b.rest) b.stand)))
    by_case (inr x) =
        subst (BreaksAt text) x.place (at_end (begins (words text) x.mid x.ran) (λ last s. unended (past start text) (words text) p x last s))

pub is_not_refused : (text : Text) (p : Place) (vars : List VcdVar) (changes : List Change) → outcome (past start text) at_start (words text) ≡ Err p → Wave text vars changes → ⊥
is_not_refused text p vars changes e w = by_case (outcome_err (past start text) at_start (words text) p e)
  where
    by_case : Stops (past start text) at_start (words text) p → ⊥
    by_case (inl x) = stuck (words text) p x x.more w.last (subst (λ l. Stand l w.last) x.is w.stand)
    by_case (inr x) = unended (past start text) (words text) p x w.last w.stand
