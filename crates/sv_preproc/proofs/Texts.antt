-- The texts of macros after a change.
use Rattle.std.proofs.Common.{◌≡◌, ℕ, List, [], Bool, true, false, refl, sym, ◌∙◌, ap, subst, Option}
use mathlib.Core.Path.{fun_ext}
use mathlib.Core.Logic.{⊎_elim}
use Rattle.std.specs.Prelude.{option_map, cond}
use Rattle.std.specs.BTreeMap as tree
use Rattle.std.specs.BTreeMap.{BTreeMap}
use Rattle.std.specs.Ordering.{eq_by_cmp, is_eq, nat_cmp}
use Rattle.std.specs.Map.{update, lookup, IsKeyTest, AreApart, KeepsOthers}
use Rattle.std.specs.Str.{bytes_eq}
use Rattle.std.specs.Cmp.Lexicographic.{nat_list_eq_equiv, bytes_decides, slice_cmp}
use Rattle.std.proofs.lemmas.Bool.{cases_Bool, cond-true, cond-false}
use Rattle.std.proofs.lemmas.Map.Text.{is_eq-slice_cmp}
use Rattle.std.specs.Prelude.{Vec}
use Rattle.std.specs.declared.alloc.Global.{Global}
use Rattle.sv_outside.specs.declared.text.Token.{Token}
use Rattle.sv_preproc.specs.declared.macros.Macros.{Macros}
use Rattle.sv_preproc.specs.Directives as spec
use Rattle.sv_preproc.specs.Seen.{texts}

abbrev alike : List ℕ → List ℕ → Bool
alike bs cs = is_eq (slice_cmp nat_cmp bs cs)

alike_congr : (bs cs ks : List ℕ) → alike bs cs ≡ true → alike bs ks ≡ alike cs ks
alike_congr bs cs ks y = is_eq-slice_cmp bs ks ∙ nat_list_eq_equiv.congr bs cs ks (sym (is_eq-slice_cmp bs cs) ∙ y) ∙ sym (is_eq-slice_cmp cs ks)

apart : (bs cs ks : List ℕ) → bytes_eq bs cs ≡ false → alike bs ks ≡ true → alike cs ks ≡ false
apart bs cs ks n y =
    is_eq-slice_cmp cs ks ∙ nat_list_eq_equiv.symm cs ks ∙ sym (nat_list_eq_equiv.congr bs ks cs (sym (is_eq-slice_cmp bs ks) ∙ y)) ∙ n

-- g is w at bs, and f at other bytes
by_bytes : {W : Type 0} (f g : List ℕ → W) (bs : List ℕ) (w : W) → g bs ≡ w → ((cs : List ℕ) → bytes_eq bs cs ≡ false → g cs ≡ f cs) → (cs : List ℕ) → g cs ≡ cond (bytes_eq bs cs) w (f cs)
by_bytes f g bs w here other cs =
    ⊎_elim
    (λ y. subst (λ l. g l ≡ w) ((bytes_decides bs cs).0 y) here ∙ sym (cond-true (bytes_eq bs cs) w (f cs) y))
    (λ n. other cs n ∙ sym (cond-false (bytes_eq bs cs) w (f cs) n))
    (cases_Bool (bytes_eq bs cs))

module _ {K X : Type 0} (bytes : K → List ℕ) where
  others_keep : (test : K → Bool) (old new : List (K × X)) → KeepsOthers (eq_by_cmp (λ x y. slice_cmp nat_cmp (bytes x) (bytes y))) test old new
      → (other : K → Bool) → IsKeyTest (eq_by_cmp (λ x y. slice_cmp nat_cmp (bytes x) (bytes y))) other → AreApart test other → lookup other new ≡ lookup other old
  unfolding KeepsOthers
  others_keep test old new h = h

module _ {K X : Type 0} (bytes : K → List ℕ) where
  abbrev under : BTreeMap K X → List ℕ → Option X
  under m name = tree.get_by (λ k. slice_cmp nat_cmp name (bytes k)) m

  pub under_updated : (m n : BTreeMap K X) (bs : List ℕ) (w : Option X) → tree.UpdatesBy (λ x y. slice_cmp nat_cmp (bytes x) (bytes y)) (λ k. slice_cmp nat_cmp bs (bytes k)) m n w
      → (cs : List ℕ) → under n cs ≡ cond (bytes_eq bs cs) w (under m cs)
  under_updated m n bs w h = by_bytes (under m) (under n) bs w h.1
      (λ cs e. others_keep bytes _ _ _ h.3 _ (λ x y. alike_congr cs (bytes x) (bytes y)) (λ k. apart bs cs (bytes k) e))

map_either : {X Y : Type 0} (f : X → Y) (v : Bool) (a b : Option X) → option_map f (cond v a b) ≡ cond v (option_map f a) (option_map f b)
map_either f true a b = refl
map_either f false a b = refl

pub no_texts : (m : Macros) → m.texts.entries ≡ [] → texts m ≡ spec.no_macros
unfolding texts
no_texts m e = fun_ext (λ name. ap (λ es. option_map (λ text. text.items) (lookup (λ key. alike name key.items) es)) e)

pub updated : (m n : Macros) (name : List ℕ) (w : Option (Vec Token Global)) → tree.UpdatesBy (λ x y. slice_cmp nat_cmp x.items y.items) (λ key. slice_cmp nat_cmp name key.items) m.texts n.texts w
    → texts n ≡ update bytes_eq (texts m) name (option_map (λ text. text.items) w)
unfolding texts
updated m n name w h = fun_ext (λ cs. ap (option_map (λ text. text.items)) (under_updated (λ key. key.items) m.texts n.texts name w h cs) ∙ map_either (λ text. text.items) (bytes_eq name cs) w _)
