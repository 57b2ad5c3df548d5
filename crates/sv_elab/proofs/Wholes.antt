-- Whole designs.
use Rattle.std.proofs.Common.{◌≡◌, ◌≢◌, ℕ, suc, ◌+◌, ◌<◌, ◌≤◌, eqb, true, List, [], ◌∷◌, ◌++◌, length, map, take, drop, get_or, Option, Result, Ok, Err, refl, sym, ap, ◌∙◌, subst, arith, IsTrue}
use Rattle.std.specs.Prelude.{nat_lt, IfOk, IfErr}
use Rattle.std.specs.List.{All, AllPairs, Contains}
use Rattle.std.proofs.lemmas.List.{take_all, length-map, map-append}
use Rattle.std.proofs.lemmas.List.Elements.{All-map}
use Rattle.std.proofs.lemmas.Bool.Decides.{nat_tests}
use Rattle.fourvec.proofs.Order.{both}
use Rattle.sv_outside.specs.declared.text.Signal.{Signal}
use Rattle.sv_outside.specs.declared.refusal.TextErr.{TextErr}
use Rattle.sv_outside.specs.declared.refusal.TextErr.TheVariants.{No, Memory}
use Rattle.lhs_alias.specs.Pairs.{HaveOwnChildren}
use Rattle.settling.specs.Settling.{Store, Link, SettlesBy}
use Rattle.settling.specs.Overriding.{overridden}
use Rattle.sv_meaning.proofs.Overriding.{outside_counts}
use Rattle.driver_resolve.specs.Drivers.{Phase, drivers_give, widths_of, is_wire, stimuli_from, overriding_from}
use Rattle.flat_net.specs.declared.flat.Flat.{Flat}
use Rattle.flat_net.specs.Flats as f
use Rattle.sv_tree.specs.declared.design.Source.{Source}
use Rattle.sv_meaning.specs.Faults.{Faults, Judged, provided, ◌>>=◌}
use Rattle.sv_meaning.specs.Layouts.{Name, NamedSignal}
use Rattle.sv_meaning.specs.Designs as d
use Rattle.sv_meaning.specs.Designs.{Work, Design, design_faults, work_faults, faults_from, contributions_of}
use Rattle.sv_typing.specs.Judging.{IsCause}
use Rattle.sv_loops.specs.Answers.{Answers}
use Rattle.sv_hierarchy.specs.Scopes as h
use Rattle.sv_hierarchy.specs.Scopes.{State, Standing, live_at, design_of, design, scopes}
use Rattle.sv_scope.specs.declared.whole.DesignScopes.{DesignScopes}
use Rattle.sv_levels.specs.declared.tasks.Work as walker
use Rattle.sv_levels.specs.Tasks.{work_is}
use Rattle.sv_levels.specs.Wires.{HasBits}
use Rattle.sv_scope.specs.Scoped.{IsScoped, design_is, levels_of, wires_of, works_of, turns_of}
use Rattle.scope_laws.specs.Wires.{HavePaths, IsWire, connected_wires}
use Rattle.scope_laws.proofs.Seen.{seen_are_wires, ports_are_wires}
use Rattle.scope_laws.proofs.Closing.{ports_stand_above}
use Rattle.scope_laws.proofs.Connecting.{wires_are_distinct}
use Rattle.scope_laws.proofs.Printing.{wires_are_printed}
use Rattle.sv_stmt.specs.Blocks.{AreWires}
use Rattle.sv_elab.specs.declared.whole.Making.{Making}
use Rattle.sv_elab.specs.Elaborated.{IsElaborated, sound_design}
use Rattle.sv_elab.specs.Working.{TaskFits, TaskIsFree, TaskStandsAbove, AreSound, IsMade}
use Rattle.sv_elab.proofs.Wires.{stimuli_are, settings_are}
use Rattle.sv_lower.proofs.Trees.{taken_more}
use Rattle.sv_elab.proofs.Lists.{map_twice, split_map}
use Rattle.sv_elab.proofs.Making.{all_given, one_cause}
use Rattle.sv_elab.proofs.Owning.{next_free}

-- ---- names are wires

wire_is : (wires : List Signal) (s : NamedSignal) → IsWire wires s → IsTrue (is_wire (widths_of wires) s.number s.width)
wire_is wires s h =
    let l : s.number < length (widths_of wires) = (let a = h.there in omega (arith, length-map wires (λ (x : Signal). x.width))) in
    let e = h.width in
    let a : nat_lt s.number (length (widths_of wires)) ≡ true = grind (arith, nat_tests, l) in
    let b : eqb (get_or (widths_of wires) s.number 0) s.width ≡ true = grind (arith, nat_tests, e) in
    both (nat_lt s.number (length (widths_of wires))) (eqb (get_or (widths_of wires) s.number 0) s.width) a b

task_fits : (source : Source) (top : Option Name) (st : State) → scopes source top ≡ Ok st → (x : Standing) → Contains st.works x → TaskFits (widths_of st.wires) x.task
task_fits source top st e x i = go x.at x.task i
  where
    go : (at : h.Front) (t : h.Task) → Contains st.works (record { at = at; task = t }) → TaskFits (widths_of st.wires) t
    go at (h.assigning to y) k = tt
    go at (h.running b) k = tt
    go at (h.connecting way n y actual) k = let g = ports_are_wires source top st e at way n y actual k in ((let a = g.there in omega (arith, length-map st.wires (λ (z : Signal). z.width))), g.width)

task_above : (source : Source) (top : Option Name) (st : State) → scopes source top ≡ Ok st → (x : Standing) → Contains st.works x → TaskStandsAbove (live_at st.levels x.at) x.task
task_above source top st e x i = go x.at x.task i
  where
    go : (at : h.Front) (t : h.Task) → Contains st.works (record { at = at; task = t }) → TaskStandsAbove (live_at st.levels at) t
    go at (h.assigning to y) k = tt
    go at (h.running b) k = tt
    go at (h.connecting way n y actual) k = ports_stand_above source top st e at way n y actual k

pub sound_scopes : (source : Source) (top : Option Name) (st : State) (s : DesignScopes) → scopes source top ≡ Ok st → IsScoped st s → AreSound s
sound_scopes source top st s e k = record {
  names = λ at.
      subst (λ levels. AreWires (live_at levels at) (widths_of (wires_of s))) k.levels
      (subst (λ wires. AreWires (live_at st.levels at) (widths_of wires)) k.wires (record {
        owner = λ x g. (seen_are_wires source top st e at x g).owner;
        wire = λ x g. wire_is st.wires x (seen_are_wires source top st e at x g);
      }));
  ports = λ x i.
      subst (λ wires. TaskFits (widths_of wires) x.task) k.wires (task_fits source top st e x (subst (λ works. Contains works x) (sym k.works) i));
  above = λ x i.
      subst (λ levels. TaskStandsAbove (live_at levels x.at) x.task) k.levels (task_above source top st e x (subst (λ works. Contains works x) (sym k.works) i));
  apart = subst (λ works. AllPairs ◌≢◌ (connected_wires works)) k.works (wires_are_distinct source top st e);
  paths = subst (λ wires. HavePaths wires) k.wires (wires_are_printed source top st e);
}

-- ---- the flat design

same_sides : (a b : Type 0) → a ≡ b → (a → b) × (b → a)
same_sides a b e = (λ x. subst (λ t. t) e x, λ x. subst (λ t. t) (sym e) x)

pub elaborated : (design : Design) (flat : Flat) (x : Making) → All f.IsSignal design.wires → flat.wires ≡ design.wires → flat.arena ≡ x.arena → flat.drivers ≡ x.drivers → flat.joins ≡ x.joins → IsMade design.wires design.works design.turns x → IsElaborated design flat
elaborated design flat x signals w a dr jo m = record {
  clear = m.clear;
  sound = record {
    wires = subst (All f.IsSignal) (sym w) signals;
    drivers =
        subst (λ wires. All (Rattle.driver_resolve.specs.Drivers.IsDriver (widths_of wires) flat.arena) flat.drivers) (sym w)
        (subst (λ shapes. All (Rattle.driver_resolve.specs.Drivers.IsDriver (widths_of design.wires) shapes) flat.drivers) (sym a)
        (subst (All (Rattle.driver_resolve.specs.Drivers.IsDriver (widths_of design.wires) x.arena)) (sym dr) m.sound));
    joins = subst (λ wires. All (f.IsJoin (widths_of wires)) flat.joins) (sym w) (subst (All (f.IsJoin (widths_of design.wires))) (sym jo) m.joins_are);
    own_children = subst (λ all. HaveOwnChildren (f.links_of all)) (sym jo) m.own_children;
  };
  wires = w;
  stem = stems;
  links = linked;
  given = gifts;
  settles = λ stim o prev now. same_sides _ _ (ap (λ links. SettlesBy links (d.given_in design stim o prev now) now) (sym linked) ∙ ap (λ all. SettlesBy (f.links_of flat.joins) all now) (sym (gifts stim o prev now)));
}
  where
    stems : Rattle.sv_elab.specs.Elaborated.AllStem design.wires flat.arena design.works flat.drivers
    stems = subst (λ shapes. Rattle.sv_elab.specs.Elaborated.AllStem design.wires shapes design.works flat.drivers) (sym a) (subst (Rattle.sv_elab.specs.Elaborated.AllStem design.wires x.arena design.works) (sym dr) m.stem)

    linked : f.links_of flat.joins ≡ d.links_of design.works
    linked = ap f.links_of jo ∙ m.links

    gifts : (stim : Store) (o : d.Overriding) (prev now : Store) → f.given_in flat o.wires (d.outside stim o) prev now ≡ d.given_in design stim o prev now
    gifts stim o prev now =
        let own = drivers_give flat.arena flat.drivers (record { stim = d.outside stim o; previous = prev; present = now }) in
        ap (λ links. overridden links (overriding_from 0 flat.wires o.wires (d.outside stim o)) (own ++ stimuli_from 0 flat.wires (d.outside stim o))) linked
        ∙ ap (λ wires. overridden (d.links_of design.works) (overriding_from 0 wires o.wires (d.outside stim o)) (own ++ stimuli_from 0 wires (d.outside stim o))) w
        ∙ ap (λ all. overridden (d.links_of design.works) all (own ++ stimuli_from 0 design.wires (d.outside stim o))) (settings_are 0 design.wires o stim)
        ∙ ap (λ g. overridden (d.links_of design.works) (d.overriding_from 0 design.wires o) (g ++ stimuli_from 0 design.wires (d.outside stim o)))
        (all_given design.wires flat.arena design.works flat.drivers stems (record { stim = d.outside stim o; previous = prev; present = now }))
        ∙ ap (λ g. overridden (d.links_of design.works) (d.overriding_from 0 design.wires o) (contributions_of design.works prev now ++ g)) (sym (stimuli_are 0 design.wires (d.outside stim o)))
        ∙ outside_counts (d.links_of design.works) o stim design.wires (contributions_of design.works prev now)

-- ---- answers

-- what is found of scopes, or why there is nothing
pub answered : (source : Source) (top : Option Name) (st : State) (s : DesignScopes) (r : Result Flat TextErr) → scopes source top ≡ Ok st → IsScoped st s
    → ((flat : Flat) → r ≡ Ok flat → IsElaborated (design_is s) flat) → ((e : TextErr) → r ≡ Err e → IsCause (design_faults (design_is s)) e)
    → Answers (λ x flat. IsElaborated x flat) (sound_design source top) r
answered source top st s r e k ok err =
    subst (λ (z : Judged State). Answers (λ x flat. IsElaborated x flat) ((z >>= λ y. Ok (design_of y)) >>= λ x. provided (design_faults x) x) r) (sym e)
    (subst (λ (z : Design). Answers (λ x flat. IsElaborated x flat) (provided (design_faults z) z) r) (sym same) (go r ok err))
  where
    same : design_of st ≡ design_is s
    same = λ i. record { wires = k.wires i; works = map (h.work_at (k.levels i)) (k.works i); turns = k.turns i }

    clear : (x : Flat) (all : Faults) → all ≡ [] → IsElaborated (design_is s) x → Answers (λ y flat. IsElaborated y flat) (provided all (design_is s)) (Ok x)
    clear x [] g i = i
    clear x (f ∷ all) g i = cc

    refused : (y : TextErr) (all : Faults) → IsCause all y → Answers (λ z flat. IsElaborated z flat) (provided all (design_is s)) (Err y)
    refused (No y) [] (n, l, g) = absurd (omega arith)
    refused (No y) (f ∷ all) i = i
    refused Memory [] i = tt
    refused Memory (f ∷ all) i = tt

    go : (q : Result Flat TextErr) → ((flat : Flat) → q ≡ Ok flat → IsElaborated (design_is s) flat) → ((y : TextErr) → q ≡ Err y → IsCause (design_faults (design_is s)) y) → Answers (λ z flat. IsElaborated z flat) (provided (design_faults (design_is s)) (design_is s)) q
    go (Ok flat) a b = let i = a flat refl in clear flat (design_faults (design_is s)) i.clear i
    go (Err y) a b = refused y (design_faults (design_is s)) (b y refl)

pub unanswered : (source : Source) (top : Option Name) (e : TextErr) → Answers (λ st s. IsScoped st s) (scopes source top) (Err e) → Answers (λ x flat. IsElaborated x flat) (sound_design source top) (Err e)
unanswered source top (No r) h = go (scopes source top) h
  where
    go : (z : Judged State) → Answers {B = DesignScopes} (λ st s. IsScoped st s) z (Err (No r)) → Answers {B = Flat} (λ x flat. IsElaborated x flat) ((z >>= λ y. Ok (design_of y)) >>= λ x. provided (design_faults x) x) (Err (No r))
    go (Ok y) g = absurd g
    go (Err all) g = g
unanswered source top Memory h = go (design source top >>= λ x. provided (design_faults x) x)
  where
    go : (z : Judged Design) → Answers {B = Flat} (λ x flat. IsElaborated x flat) z (Err Memory)
    go (Ok x) = tt
    go (Err all) = tt

pub found_sound : (source : Source) (top : Option Name) (s : DesignScopes) → Answers (λ st x. IsScoped st x) (scopes source top) (Ok s) → AreSound s
found_sound source top s h = go (scopes source top) refl h
  where
    go : (z : Judged State) → scopes source top ≡ z → Answers (λ st x. IsScoped st x) z (Ok s) → AreSound s
    go (Ok st) e g = sound_scopes source top st s e g
    go (Err all) e g = absurd g

pub found_answered : (source : Source) (top : Option Name) (s : DesignScopes) (r : Result Flat TextErr) → Answers (λ st x. IsScoped st x) (scopes source top) (Ok s) → IfOk r (λ flat. IsElaborated (design_is s) flat) → IfErr r (λ e. IsCause (design_faults (design_is s)) e)
    → Answers (λ x flat. IsElaborated x flat) (sound_design source top) r
found_answered source top s r h ok err = go (scopes source top) refl h
  where
    given : (q : Result Flat TextErr) → IfOk q (λ flat. IsElaborated (design_is s) flat) → (flat : Flat) → q ≡ Ok flat → IsElaborated (design_is s) flat
    given (Ok x) i flat e = let same : x ≡ flat = cc in subst (λ y. IsElaborated (design_is s) y) same i
    given (Err x) i flat e = cc

    refused : (q : Result Flat TextErr) → IfErr q (λ e. IsCause (design_faults (design_is s)) e) → (y : TextErr) → q ≡ Err y → IsCause (design_faults (design_is s)) y
    refused (Ok x) i y e = cc
    refused (Err x) i y e = let same : x ≡ y = cc in subst (IsCause (design_faults (design_is s))) same i

    go : (z : Judged State) → scopes source top ≡ z → Answers (λ st x. IsScoped st x) z (Ok s) → Answers (λ x flat. IsElaborated x flat) (sound_design source top) r
    go (Ok st) e g = answered source top st s r e g (given r ok) (refused r err)
    go (Err all) e g = absurd g

pub flat_found : (design : Design) (r : Result Flat TextErr) → IfOk r (λ flat. IsElaborated design flat) → IfOk r f.IsFlat
flat_found design (Ok flat) h = h.sound
flat_found design (Err e) h = tt

-- ---- one task after another

abbrev pub work_here : DesignScopes → walker.Work → Work
work_here s w = h.work_at (levels_of s) (work_is w)

pub fit_widths : (all : List Signal) → All HasBits all → All (λ width. (1 ≤ width) × (width ≤ 128)) (widths_of all)
fit_widths all g = All-map (λ width. (1 ≤ width) × (width ≤ 128)) (λ (x : Signal). x.width) all g

pub are_signals : (all : List Signal) → HavePaths all → All HasBits all → All f.IsSignal all
are_signals all paths widths k d l = record { some = (widths k d l).0; most = (widths k d l).1; named = (paths k d l).some; printed = (paths k d l).printed }

pub walk_more : (s : DesignScopes) (items : List walker.Work) (i : ℕ) (x : walker.Work) (making : Making) → i < length items → x ≡ get_or items i x → IsMade (wires_of s) (map (work_here s) (take i items) ++ work_here s x ∷ []) (turns_of s) making
    → IsMade (wires_of s) (map (work_here s) (take (i + 1) items)) (turns_of s) making
walk_more s items i x making l e g =
    subst (λ (all : List Work). IsMade (wires_of s) all (turns_of s) making) (sym (ap (map (work_here s)) (taken_more items i x l e) ∙ map-append (work_here s) (take i items) (x ∷ []))) g

pub walk_free : (s : DesignScopes) (items : List walker.Work) (i : ℕ) (x : walker.Work) (making : Making) → AreSound s → map work_is items ≡ works_of s → i < length items → x ≡ get_or items i x
    → IsMade (wires_of s) (map (work_here s) (take i items)) (turns_of s) making → TaskIsFree (f.links_of making.joins) (work_is x).task
walk_free s items i x making sound is l g k =
    let front = map work_is (take i items) in
    let rest = map work_is (drop (suc i) items) in
    let apart : AllPairs ◌≢◌ (connected_wires (front ++ work_is x ∷ rest)) = subst (λ (all : List Standing). AllPairs ◌≢◌ (connected_wires all)) (sym is ∙ split_map work_is items i x l g) sound.apart in
    let links : f.links_of making.joins ≡ d.links_of (map (h.work_at (levels_of s)) front) = k.links ∙ ap d.links_of (sym (map_twice (h.work_at (levels_of s)) work_is (take i items))) in
    subst (λ (z : List Link). TaskIsFree z (work_is x).task) (sym links) (next_free (levels_of s) front rest (work_is x) apart)

whole_works : (s : DesignScopes) (items : List walker.Work) → map work_is items ≡ works_of s → map (h.work_at (levels_of s)) (works_of s) ≡ map (work_here s) items
whole_works s items is = ap (map (h.work_at (levels_of s))) (sym is) ∙ map_twice (h.work_at (levels_of s)) work_is items

pub walk_end : (s : DesignScopes) (items : List walker.Work) (i : ℕ) (making : Making) → map work_is items ≡ works_of s → length items ≤ i → IsMade (wires_of s) (map (work_here s) (take i items)) (turns_of s) making
    → IsMade (wires_of s) (map (h.work_at (levels_of s)) (works_of s)) (turns_of s) making
walk_end s items i making is l g =
    subst (λ (all : List Work). IsMade (wires_of s) all (turns_of s) making) (ap (map (work_here s)) (take_all i items l) ∙ sym (whole_works s items is)) g

pub walk_cause : (s : DesignScopes) (items : List walker.Work) (i : ℕ) (x : walker.Work) (e : TextErr) (making : Making) → map work_is items ≡ works_of s → i < length items → x ≡ get_or items i x → IsMade (wires_of s) (map (work_here s) (take i items)) (turns_of s) making
    → IsCause (work_faults (work_here s x) making.made) e → IsCause (design_faults (design_is s)) e
walk_cause s items i x e making is l g k c =
    one_cause (turns_of s) (map (h.work_at (levels_of s)) (works_of s)) (map (work_here s) (take i items)) (map (work_here s) (drop (suc i) items)) (work_here s x) e (whole_works s items is ∙ split_map (work_here s) items i x l g)
    (subst (λ n. IsCause (work_faults (work_here s x) n) e) k.made c)
