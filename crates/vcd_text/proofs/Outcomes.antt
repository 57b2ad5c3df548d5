-- What comes of words, one word more.
use Rattle.std.proofs.Common.{◌≡◌, true, false, List, [], ◌∷◌, Option, None, Some, Result, Ok, Err, refl, sym, ap, ◌∙◌}
use Rattle.std.specs.Prelude.{if◌then◌else◌}
use Rattle.sv_outside.specs.declared.refusal.Place.{Place}
use Rattle.sv_outside.specs.declared.refusal.Refusal.{Refusal}
use Rattle.sv_outside.specs.declared.refusal.TextErr.TheVariants.{No}
use Rattle.vcd_text.specs.Words.{Word}
use Rattle.vcd_text.specs.Steps.{State, step, outcome, is_done}
use Rattle.vcd_text.specs.Refusals.{refused, IsRefusedAt}

abbrev pub after : Place → Place → List Word → Option State → Result State Place
after end here more None = Err here
after end here more (Some next) = outcome end next more

pub one_word : (end : Place) (s : State) (w : Word) (more : List Word) → outcome end s (w ∷ more) ≡ after end w.place more (step s w)
unfolding outcome
one_word end s w more = refl

-- a word that may come
pub word_taken : (end : Place) (s next : State) (w : Word) (more all : List Word) (whole : Result State Place) → Some next ≡ step s w → all ≡ w ∷ more → outcome end s all ≡ whole
    → outcome end next more ≡ whole
word_taken end s next w more all whole took is so_far = ap (after end w.place more) took ∙ sym (one_word end s w more) ∙ ap (outcome end s) (sym is) ∙ so_far

-- a word that may not
pub word_refused : (end : Place) (s : State) (w : Word) (more all : List Word) (whole : Result State Place) → None ≡ step s w → all ≡ w ∷ more → outcome end s all ≡ whole
    → whole ≡ Err w.place
word_refused end s w more all whole stops is so_far = sym so_far ∙ ap (outcome end s) is ∙ one_word end s w more ∙ ap (after end w.place more) (sym stops)

-- all words
pub all_taken : (end : Place) (s : State) (all : List Word) (whole : Result State Place) → all ≡ [] → is_done s ≡ true → outcome end s all ≡ whole → whole ≡ Ok s
unfolding outcome
all_taken end s all whole none done so_far = sym so_far ∙ ap (outcome end s) none ∙ ap (λ b. if b then Ok s else Err end) done

pub ends_early : (end : Place) (s : State) (all : List Word) (whole : Result State Place) → all ≡ [] → is_done s ≡ false → outcome end s all ≡ whole → whole ≡ Err end
unfolding outcome
ends_early end s all whole none done so_far = sym so_far ∙ ap (outcome end s) none ∙ ap (λ b. if b then Ok s else Err end) done

-- the refusal at a place
pub refused_at : (whole : Result State Place) (p q : Place) (r : Refusal) → whole ≡ Err p → p ≡ q → No (refused 47 q) ≡ No r → IsRefusedAt whole r
refused_at whole p q r stops same is =
    let e : refused 47 q ≡ r = cc in
    (stops ∙ ap (λ x. Err x) (same ∙ ap (λ x. x.place) e), sym e ∙ ap (λ x. refused 47 x.place) e)
