-- Among the declarations the text may not end; behind them it stands for the signals and for the changes that its words tell.
use Rattle.std.proofs.Common.{◌≡◌, Bool, true, false, ◌&&◌, List, [], Result, Ok, Err, IfOk, OnOk, refl, sym, ◌∙◌, subst}
use Rattle.sv_outside.specs.declared.refusal.Place.{Place}
use Rattle.vcd_text.specs.declared.declarations.Declarations.{Declarations}
use Rattle.sv_outside.specs.declared.refusal.TextErr.{TextErr}
use Rattle.vcd_text.specs.declared.waves.VcdVar.{VcdVar}
use Rattle.vcd_text.specs.declared.waves.Waves.{Waves}
use Rattle.vcd_text.specs.Words.{Text, words, words_from, start, past}
use Rattle.vcd_text.specs.Waves.{Change, Wave}
use Rattle.vcd_text.specs.Steps.{between, is_between, is_done, outcome, at_start, at_changes, changes_in}
use Rattle.vcd_text.specs.Readers.{wait_of, state_of}
use Rattle.vcd_text.specs.Changes.{outcome_of, EndsIn}
use Rattle.vcd_text.proofs.Checking.{told_behind}
use Rattle.vcd_text.proofs.Laws.{what_stands, nothing_else}

both_false : (b : Bool) → (b && false) ≡ false
both_false true = refl
both_false false = refl

pub never_done : (d : Declarations) → is_done (state_of d) ≡ false
unfolding is_done
never_done d = both_false (is_between (wait_of d.mode))

-- a whole text, of which a front is the declarations
pub record Parted (text : Text) (vars : List VcdVar) (p : Place) (rest : Text) : Type 0 where
  pub scopes : List Text
  pub is : outcome (past start text) at_start (words text) ≡ outcome_of scopes vars p rest

pub stands_for : (text : Text) (vars : List VcdVar) (p : Place) (rest : Text) → (d : Parted text vars p rest) → EndsIn d.scopes vars p rest → Wave text vars (changes_in at_changes (words_from p rest))
stands_for text vars p rest d ends =
    let told = told_behind (past p rest) d.scopes vars [] false 0 between (words_from p rest) ends.0 tt ends.1 in
    subst (λ vs. Wave text vs (changes_in at_changes (words_from p rest))) told.0 (subst (Wave text ends.0.told.vars) told.1 (what_stands text ends.0 (d.is ∙ ends.1)))

pub stands_alone : (text : Text) (vars : List VcdVar) (p : Place) (rest : Text) (vs : List VcdVar) (cs : List Change) → (d : Parted text vars p rest) → EndsIn d.scopes vars p rest → Wave text vs cs
    → (vars ≡ vs) × (changes_in at_changes (words_from p rest) ≡ cs)
stands_alone text vars p rest vs cs d ends w =
    let told = told_behind (past p rest) d.scopes vars [] false 0 between (words_from p rest) ends.0 tt ends.1 in
    let same = nothing_else text ends.0 vs cs (d.is ∙ ends.1) w in
    (sym told.0 ∙ same.0, sym told.1 ∙ same.1)

-- ---- what is answered

pub read_stands : (text : Text) (vars : List VcdVar) (p : Place) (rest : Text) (result : Result Waves TextErr) → Parted text vars p rest
    → IfOk result (λ w. (w.vars ≡ vars) × (w.changes ≡ changes_in at_changes (words_from p rest))) → OnOk result ((scopes : List Text) (vs : List VcdVar) → EndsIn scopes vs p rest)
    → IfOk result (λ w. Wave text w.vars w.changes)
read_stands text vars p rest (Ok w) d told ends =
    subst (λ vs. Wave text vs w.changes) (sym told.0) (subst (λ cs. Wave text vars cs) (sym told.1) (stands_for text vars p rest d (ends d.scopes vars)))
read_stands text vars p rest (Err e) d told ends = tt

pub read_alone : (text : Text) (vars : List VcdVar) (p : Place) (rest : Text) (result : Result Waves TextErr) (vs : List VcdVar) (cs : List Change) → Parted text vars p rest
    → IfOk result (λ w. (w.vars ≡ vars) × (w.changes ≡ changes_in at_changes (words_from p rest))) → OnOk result ((scopes : List Text) (vs : List VcdVar) → EndsIn scopes vs p rest)
    → Wave text vs cs → IfOk result (λ w. (w.vars ≡ vs) × (w.changes ≡ cs))
read_alone text vars p rest (Ok w) vs cs d told ends wave =
    let same = stands_alone text vars p rest vs cs d (ends d.scopes vars) wave in
    (told.0 ∙ same.0, told.1 ∙ same.1)
read_alone text vars p rest (Err e) vs cs d told ends wave = tt
