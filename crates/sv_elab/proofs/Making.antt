-- What is made of one task after another.
use Rattle.std.proofs.Common.{◌≡◌, ◌≢◌, ℕ, ◌+◌, List, [], ◌∷◌, ◌++◌, refl, sym, ap, ◌∙◌, subst, arith, append_assoc}
use Rattle.std.specs.List.{All, zip}
use Rattle.std.proofs.lemmas.List.{append-nil}
use Rattle.std.proofs.lemmas.List.Elements.{All-nil, All-append, All-weaker, Contains-append_left, Contains-append_right}
use Rattle.sv_outside.specs.declared.text.Signal.{Signal}
use Rattle.sv_outside.specs.declared.refusal.TextErr.{TextErr}
use Rattle.sv_outside.specs.declared.refusal.TextErr.TheVariants.{No, Memory}
use Rattle.lhs_alias.specs.Segs.{lhs_bits}
use Rattle.lhs_alias.specs.Pairs.{HaveOwnChildren}
use Rattle.settling.specs.Settling.{Store, Link}
use Rattle.svex_shape.specs.declared.shape.Shape.{Shape}
use Rattle.svex_arena.specs.Arenas.{Extends}
use Rattle.svex_arena.proofs.Steps.{variables-extends}
use Rattle.driver_resolve.specs.declared.driver.Driver.{Driver}
use Rattle.driver_resolve.specs.Drivers.{Phase, driver_gives, drivers_give, widths_of, IsDriver, is_of_wires}
use Rattle.flat_net.specs.declared.flat.Join.{Join}
use Rattle.flat_net.specs.Flats as f
use Rattle.sv_meaning.specs.Faults.{Faults}
use Rattle.sv_meaning.specs.Designs as d
use Rattle.sv_meaning.specs.Designs.{Work, gives, contributions_of, names_now, work_faults, work_turns, faults_from}
use Rattle.sv_typing.specs.Judging.{IsCause}
use Rattle.sv_stmt.specs.Passed.{IsPlaced}
use Rattle.sv_stmt.proofs.Passed.{gives_kept, placed_kept, mentions_kept}
use Rattle.sv_elab.specs.declared.works.Parts.{Parts}
use Rattle.sv_elab.specs.declared.whole.Making.{Making}
use Rattle.sv_elab.specs.Elaborated.{names_only, Stem, AllStem, none, more}
use Rattle.sv_elab.specs.Working.{join_list, IsWorked, turns_in, IsMade}
use Rattle.scope_laws.proofs.Pairs.{pairs_none}
use Rattle.sv_elab.proofs.Lists.{left_all, right_all}

-- ---- what stands against works

faults_push : (made : ℕ) (works : List Work) (w : Work) → faults_from made (works ++ w ∷ []) ≡ faults_from made works ++ work_faults w (made + turns_in works)
unfolding faults_from turns_in
faults_push made [] w = append-nil (work_faults w made) ∙ (let e : made ≡ made + 0 = omega arith in ap (work_faults w) e)
faults_push made (x ∷ works) w =
    ap (λ (z : Faults). work_faults x made ++ z) (faults_push (made + work_turns x) works w ∙ (let e : made + work_turns x + turns_in works ≡ made + (work_turns x + turns_in works) = omega arith in ap (λ n. faults_from (made + work_turns x) works ++ work_faults w n) e))
    ∙ sym (append_assoc (work_faults x made) (faults_from (made + work_turns x) works) (work_faults w (made + (work_turns x + turns_in works))))

turns_push : (works : List Work) (w : Work) → turns_in (works ++ w ∷ []) ≡ turns_in works + work_turns w
unfolding turns_in
turns_push [] w = omega arith
turns_push (x ∷ works) w = let a = turns_push works w in omega arith

faults_join : (made : ℕ) (a b : List Work) → faults_from made (a ++ b) ≡ faults_from made a ++ faults_from (made + turns_in a) b
unfolding faults_from turns_in
faults_join made [] b = let e : made ≡ made + 0 = omega arith in ap (λ n. faults_from n b) e
faults_join made (x ∷ a) b =
    ap (λ (z : Faults). work_faults x made ++ z) (faults_join (made + work_turns x) a b ∙ (let e : made + work_turns x + turns_in a ≡ made + (work_turns x + turns_in a) = omega arith in ap (λ n. faults_from (made + work_turns x) a ++ faults_from n b) e))
    ∙ sym (append_assoc (work_faults x made) (faults_from (made + work_turns x) a) (faults_from (made + (work_turns x + turns_in a)) b))

cause_in : (a b c : Faults) (e : TextErr) → IsCause b e → IsCause (a ++ (b ++ c)) e
cause_in a b c (No r) h = Contains-append_right a (b ++ c) r (Contains-append_left b c r h)
cause_in a b c Memory h = tt

-- a refusal of one of the works
pub one_cause : (made : ℕ) (works front rest : List Work) (w : Work) (e : TextErr) → works ≡ front ++ w ∷ rest → IsCause (work_faults w (made + turns_in front)) e → IsCause (faults_from made works) e
unfolding faults_from
one_cause made works front rest w e is h =
    subst (λ (z : Faults). IsCause z e) (sym (ap (faults_from made) is ∙ faults_join made front (w ∷ rest)))
    (cause_in (faults_from made front) (work_faults w (made + turns_in front)) (faults_from (made + turns_in front + work_turns w) rest) e h)

-- ---- drivers

placed_of : (ws : List ℕ) (shapes : List Shape) (all : List Driver) → All (IsDriver ws shapes) all → All (IsPlaced shapes) all
placed_of ws shapes all h = All-weaker (IsDriver ws shapes) (IsPlaced shapes) (λ x k. record { there = k.there; wide = k.wide }) all h

driver_kept : (ws : List ℕ) (old new : List Shape) → Extends old new → (x : Driver) → IsDriver ws old x → IsDriver ws new x
driver_kept ws old new e x h =
    let p = placed_kept old new e x (record { there = h.there; wide = h.wide }) in record { lies = h.lies; there = p.there; wide = p.wide; mentions = variables-extends (is_of_wires ws) old new x.value e h.there ∙ h.mentions }

stem_kept : (wires : List Signal) (old new : List Shape) → Extends old new → (w : Work) (all : List Driver) → All (IsPlaced old) all → Stem wires old w all → Stem wires new w all
stem_kept wires old new e w all h k = record { gives = λ p. gives_kept old new all p e h ∙ k.gives p; names = mentions_kept (names_only (names_now wires w)) old new e all h k.names }

stems_kept : (wires : List Signal) (old new : List Shape) → Extends old new → (works : List Work) (all : List Driver) → All (IsPlaced old) all → AllStem wires old works all → AllStem wires new works all
stems_kept wires old new e _ _ h none = none
stems_kept wires old new e _ _ h (more {before} {w} {drivers} {own} s k) =
    more (stems_kept wires old new e before drivers (left_all (IsPlaced old) drivers own h) s) (stem_kept wires old new e w own (right_all (IsPlaced old) drivers own h) k)

gives_append : (shapes : List Shape) (a b : List Driver) (p : Phase) → drivers_give shapes (a ++ b) p ≡ drivers_give shapes a p ++ drivers_give shapes b p
unfolding drivers_give
gives_append shapes [] b p = refl
gives_append shapes (x ∷ a) b p = ap (λ g. driver_gives shapes p x ++ g) (gives_append shapes a b p) ∙ sym (append_assoc (driver_gives shapes p x) (drivers_give shapes a p) (drivers_give shapes b p))

contributions_push : (works : List Work) (w : Work) (prev now : Store) → contributions_of (works ++ w ∷ []) prev now ≡ contributions_of works prev now ++ gives w prev now
unfolding contributions_of
contributions_push [] w prev now = append-nil (gives w prev now)
contributions_push (x ∷ works) w prev now = ap (λ g. gives x prev now ++ g) (contributions_push works w prev now) ∙ sym (append_assoc (gives x prev now) (contributions_of works prev now) (gives w prev now))

pub all_given : (wires : List Signal) (shapes : List Shape) (works : List Work) (all : List Driver) → AllStem wires shapes works all → (p : Phase) → drivers_give shapes all p ≡ contributions_of works p.previous p.present
unfolding drivers_give contributions_of
all_given wires shapes _ _ none p = refl
all_given wires shapes _ _ (more {before} {w} {drivers} {own} s k) p =
    gives_append shapes drivers own p
    ∙ ap (λ g. g ++ drivers_give shapes own p) (all_given wires shapes before drivers s p)
    ∙ ap (λ g. contributions_of before p.previous p.present ++ g) (k.gives p)
    ∙ sym (contributions_push before w p.previous p.present)

-- ---- joins

links_append : (a b : List Join) → f.links_of (a ++ b) ≡ f.links_of a ++ f.links_of b
unfolding f.links_of
links_append [] b = refl
links_append (x ∷ a) b = ap (λ (z : List Link). zip (lhs_bits x.child) (lhs_bits x.parent) ++ z) (links_append a b) ∙ sym (append_assoc (zip (lhs_bits x.child) (lhs_bits x.parent)) (f.links_of a) (f.links_of b))

works_links : (works : List Work) (w : Work) → d.links_of (works ++ w ∷ []) ≡ d.links_of works ++ d.links_of_work w
unfolding d.links_of
works_links [] w = append-nil (d.links_of_work w)
works_links (x ∷ works) w = ap (λ (z : List Link). d.links_of_work x ++ z) (works_links works w) ∙ sym (append_assoc (d.links_of_work x) (d.links_of works) (d.links_of_work w))

-- ---- one task more

pub nothing_made : (wires : List Signal) (turns : ℕ) (x : Making) → x.made ≡ turns → x.drivers ≡ [] → x.joins ≡ [] → IsMade wires [] turns x
unfolding faults_from turns_in d.links_of f.links_of
nothing_made wires turns x m e l = record {
  clear = refl;
  made = (let z : x.made ≡ turns + 0 = omega arith in z);
  stem = subst (AllStem wires x.arena []) (sym e) none;
  sound = subst (All (IsDriver (widths_of wires) x.arena)) (sym e) (All-nil (IsDriver (widths_of wires) x.arena));
  links = ap f.links_of l;
  joins_are = subst (All (f.IsJoin (widths_of wires))) (sym l) (All-nil (f.IsJoin (widths_of wires)));
  own_children = subst (λ (z : List Join). HaveOwnChildren (f.links_of z)) (sym l) (pairs_none ◌≢◌);
}

pub made_more : (wires : List Signal) (works : List Work) (w : Work) (turns : ℕ) (old new : Making) (x : Parts) → IsMade wires works turns old → IsWorked wires w old.made new.arena x → Extends old.arena new.arena → new.drivers ≡ old.drivers ++ x.drivers
    → new.joins ≡ old.joins ++ join_list x.join → HaveOwnChildren (f.links_of old.joins ++ d.links_of_work w) → new.made ≡ x.made → IsMade wires (works ++ w ∷ []) turns new
made_more wires works w turns old new x h k e dr li own ma =
    let joined : f.links_of new.joins ≡ f.links_of old.joins ++ d.links_of_work w =
    ap f.links_of li ∙ links_append old.joins (join_list x.join) ∙ ap (λ (z : List Link). f.links_of old.joins ++ z) k.links in
    record {
      clear = faults_push turns works w ∙ ap (λ (z : Faults). z ++ work_faults w (turns + turns_in works)) h.clear ∙ ap (work_faults w) (sym h.made) ∙ k.clear;
      made = (let a = turns_push works w in let b = h.made in let c = k.made in omega arith);
      stem = subst (AllStem wires new.arena (works ++ w ∷ [])) (sym dr) (more (stems_kept wires old.arena new.arena e works old.drivers (placed_of (widths_of wires) old.arena old.drivers h.sound) h.stem) k.stem);
      sound = subst (All (IsDriver (widths_of wires) new.arena)) (sym dr)
          (All-append (IsDriver (widths_of wires) new.arena) old.drivers x.drivers (All-weaker (IsDriver (widths_of wires) old.arena) (IsDriver (widths_of wires) new.arena) (driver_kept (widths_of wires) old.arena new.arena e) old.drivers h.sound) k.sound);
      links = joined ∙ ap (λ (z : List Link). z ++ d.links_of_work w) h.links ∙ sym (works_links works w);
      joins_are = subst (All (f.IsJoin (widths_of wires))) (sym li) (All-append (f.IsJoin (widths_of wires)) old.joins (join_list x.join) h.joins_are k.join_is);
      own_children = subst HaveOwnChildren (sym joined) own;
    }
