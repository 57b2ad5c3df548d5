-- A phase more.
use Rattle.std.proofs.Common.{◌≡◌, ℕ, ◌+◌, ◌<◌, List, [], ◌∷◌, ◌++◌, length, map, take, get_or, All, refl, sym, ap, ◌∙◌, append_assoc, append-nil, arith, length-append}
use Rattle.std.proofs.lemmas.List.{take_more, map-append}
use Rattle.std.proofs.lemmas.List.Elements.{All-push, All-nil}
use Rattle.fourvec.specs.declared.Bit.{Bit}
use Rattle.sv_outside.specs.declared.text.Signal.{Signal}
use Rattle.vcd_text.specs.Words.{Text}
use Rattle.vcd_print.specs.Printed.{declarations, phase_text, phases_from, dump_text}
use Rattle.vcd_print.specs.Dumps.{Printed, last_behind, last_phase, HasBits, IsDump}

pub last_pushed : (before : List (List Bit)) (phases : List (List (List Bit))) (values : List (List Bit)) → last_behind before (phases ++ values ∷ []) ≡ values
unfolding last_behind
last_pushed before [] values = refl
last_pushed before (p ∷ phases) values = last_pushed p phases values

pub phases_pushed : (t : ℕ) (before : List (List Bit)) (phases : List (List (List Bit))) (values : List (List Bit))
    → phases_from t before (phases ++ values ∷ []) ≡ phases_from t before phases ++ phase_text (t + length phases) (last_behind before phases) values
unfolding phases_from last_behind
phases_pushed t before [] values =
    append-nil (phase_text t before values) ∙ ap (λ n. phase_text n before values) (let e : t ≡ t + 0 = omega arith in e)
phases_pushed t before (p ∷ phases) values =
    ap (λ x. phase_text t before p ++ x) (phases_pushed (t + 1) p phases values)
    ∙ sym (append_assoc (phase_text t before p) (phases_from (t + 1) p phases) (phase_text ((t + 1) + length phases) (last_behind p phases) values))
    ∙ ap (λ n. (phase_text t before p ++ phases_from (t + 1) p phases) ++ phase_text n (last_behind p phases) values)
    (let e : (t + 1) + length phases ≡ t + length (p ∷ phases) = omega arith in e)

pub no_phases : (wires : List Signal) → dump_text wires [] ≡ declarations wires
unfolding phases_from
no_phases wires = append-nil (declarations wires)

pub begun : (wires : List Signal) (text : Text) → text ≡ declarations wires → All (λ w. w.width < 256) wires → IsDump wires [] (record { text = text; phases = 0 })
begun wires text is widths = record { text_is = is ∙ sym (no_phases wires); count_is = refl; widths = widths; values = All-nil (All HasBits) }

pub phase_added : (wires : List Signal) (phases : List (List (List Bit))) (old new : Printed) (before values : List (List Bit)) → before ≡ last_phase phases → IsDump wires phases old
    → new.text ≡ old.text ++ phase_text old.phases before values → new.phases ≡ old.phases + 1 → All HasBits values → IsDump wires (phases ++ values ∷ []) new
phase_added wires phases old new before values last d text count bits = record {
  text_is = text ∙ ap (λ x. x ++ phase_text old.phases before values) d.text_is ∙ append_assoc (declarations wires) (phases_from 0 [] phases) (phase_text old.phases before values)
      ∙ ap (λ n. declarations wires ++ (phases_from 0 [] phases ++ phase_text n before values)) d.count_is
      ∙ ap (λ b. declarations wires ++ (phases_from 0 [] phases ++ phase_text (length phases) b values)) last
      ∙ ap (λ n. declarations wires ++ (phases_from 0 [] phases ++ phase_text n (last_phase phases) values)) (let e : length phases ≡ 0 + length phases = omega arith in e)
      ∙ ap (λ x. declarations wires ++ x) (sym (phases_pushed 0 [] phases values));
  count_is = omega (arith, count, d.count_is, length-append phases (values ∷ []));
  widths = d.widths;
  values = All-push (All HasBits) phases values d.values bits;
}

pub map_one_more : {V : Type 0} (f : V → List (List Bit)) (xs : List V) (i : ℕ) (x : V) (v : List (List Bit)) → i < length xs → x ≡ get_or xs i x → v ≡ f x → map f (take (i + 1) xs) ≡ map f (take i xs) ++ v ∷ []
map_one_more f xs i x v h at is =
    ap (map f) (take_more xs i x h) ∙ map-append f (take i xs) (get_or xs i x ∷ []) ∙ ap (λ y. map f (take i xs) ++ f y ∷ []) (sym at) ∙ ap (λ y. map f (take i xs) ++ y ∷ []) (sym is)
