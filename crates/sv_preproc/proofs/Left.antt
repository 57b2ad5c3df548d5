-- What is left behind a place: what it gives, the file gives behind what was written.
use Rattle.std.proofs.Common.{◌≡◌, ℕ, suc, ◌+◌, ◌≤◌, List, [], ◌∷◌, ◌++◌, Bool, true, false, refl, sym, ◌∙◌, ap, subst, arith, append_assoc, Some, None}
use Rattle.std.proofs.lemmas.List.{append-nil}
use Rattle.std.specs.Prelude.{◌&&◌, ◌||◌, not}
use Rattle.sv_outside.specs.declared.text.Token.{Token}
use Rattle.sv_token.specs.declared.lexer.Lined.{Lined}
use Rattle.sv_preproc.specs.declared.known.Frame.{Frame}
use Rattle.sv_preproc.specs.declared.role.Role.{Role}
use Rattle.sv_preproc.specs.declared.role.Role.TheVariants as role
use Rattle.sv_preproc.specs.Roles.{role_of, is_word}
use Rattle.sv_preproc.specs.Directives as spec
use Rattle.sv_preproc.specs.Directives.{Item, item, State, Part, branch, choice, Contents, Relation, Turn, Choose, Elsif, Level, Stands, Holds, IsFile, Expands, Macros, has, is_taken, name_of, with_definition, with_count, entered, deepest_use, most_counted}
use Rattle.sv_preproc.specs.Reached.{Point, begun, behind, first_branch, Ends, endif, last_branch, one_more, Passes, Reaches, at_once, onwards}
use Rattle.sv_preproc.proofs.Grows.{stands_grow, one_level}

-- Behind a branch its conditional goes on, and then the branch round it; a last branch ends its conditional.
abbrev pub Behind : Contents → ℕ → Bool → Frame → State → List Lined → List Token → State → List Lined → Type 0
Behind C room true frame s from out after to = (e : Lined) × (from ≡ e ∷ to) × (role_of e.token ≡ role.Endif) × (out ≡ []) × (after ≡ s)
Behind C room false frame s from out after to = Holds C room (choice frame.live frame.taken) s from out after to

-- What is left stands for these tokens: the rest of the innermost branch, and behind it that of each branch round it. The conditionals are listed from the innermost.
abbrev pub Left : Contents → ℕ → List Frame → Bool → State → List Lined → List Token → State → Type 0
Left C room [] live s from out last = Holds C room (branch live) s from out last []
Left C room (frame ∷ frames) live s from out last = (front : List Token) × (others : List Token) × (more : List Token) × (one : State) × (two : State) × (middle : List Lined) × (back : List Lined)
    × Holds C room (branch live) s from front one middle × Behind C room frame.last frame one middle others two back
    × Left C room frames frame.live two back more last × (out ≡ front ++ (others ++ more))

-- in all, the file gives these tokens
abbrev pub Gives : Contents → ℕ → Point → List Token → State → Type 0
Gives C room p out last = (o : List Token) × (out ≡ p.written ++ o) × Left C room p.frames p.live p.state p.rest o last

turned : (C : Contents) (n room : ℕ) (live : Bool) (s : State) (i : Item) (from : List Lined) (o : List Token) (z : State) (t : List Lined) → item live from ≡ i → Turn C (Stands C n) room live s i from o z t
    → Holds C room (branch live) s from o z t
turned C n room live s i from o z t e h = (suc n, one_level C n room (branch live) s from o z t (subst (λ j. Turn C (Stands C n) room live s j from o z t) (sym e) h))

chosen : (C : Contents) (n room : ℕ) (live taken : Bool) (s : State) (r : Role) (a : Lined) (ts : List Lined) (o : List Token) (z : State) (t : List Lined) → role_of a.token ≡ r
    → Choose (Stands C n) r room live taken s ts o z t → Holds C room (choice live taken) s (a ∷ ts) o z t
chosen C n room live taken s r a ts o z t e h = (suc n, one_level C n room (choice live taken) s (a ∷ ts) o z t (subst (λ j. Choose (Stands C n) j room live taken s ts o z t) (sym e) h))

-- what stands before the rest of a branch stands before all that is left
prepend : (C : Contents) (room : ℕ) (frames : List Frame) (live : Bool) (s r : State) (from rest : List Lined) (piece : List Token)
    → ((o : List Token) (z : State) (t : List Lined) → Holds C room (branch live) r rest o z t → Holds C room (branch live) s from (piece ++ o) z t)
    → (o : List Token) (last : State) → Left C room frames live r rest o last → Left C room frames live s from (piece ++ o) last
prepend C room [] live s r from rest piece step o last h = step o last [] h
prepend C room (frame ∷ frames) live s r from rest piece step o last h =
    (piece ++ h.0, h.1, h.2, h.3, h.4, h.5, h.6, step h.0 h.3 h.5 h.7, h.8, h.9, ap (λ i. piece ++ i) h.10 ∙ sym (append_assoc piece h.0 (h.1 ++ h.2)))

first_of_two : (m n : ℕ) → m ≤ m + n
first_of_two m n = omega arith

second_of_two : (m n : ℕ) → n ≤ m + n
second_of_two m n = omega arith

left_opened : (C : Contents) (room : ℕ) (frames : List Frame) (live wanted : Bool) (s : State) (from : List Lined) (name : List ℕ) (rest : List Lined) (o : List Token) (last : State)
    → item live from ≡ spec.opened wanted name rest
    → Left C room (first_branch live (is_taken wanted name s.macros) ∷ frames) (live && is_taken wanted name s.macros) s rest o last → Left C room frames live s from o last
left_opened C room frames live wanted s from name rest o last e h =
    let all : ℕ = h.7.0 + h.8.0 in
    let holds : Bool = is_taken wanted name s.macros in
    subst (λ i. Left C room frames live s from i last) (append_assoc h.0 h.1 h.2 ∙ sym h.10)
    (prepend C room frames live s h.4 from h.6 (h.0 ++ h.1) (λ o z t g. turned C (all + g.0) room live s (spec.opened wanted name rest) from ((h.0 ++ h.1) ++ o) z t e (
      h.0,
      h.1,
      o,
      h.3,
      h.4,
      h.5,
      h.6,
      stands_grow C h.7.0 (all + g.0) (omega arith) room (branch (live && holds)) s rest h.0 h.3 h.5 h.7.1,
      stands_grow C h.8.0 (all + g.0) (omega arith) room (choice live holds) h.3 h.5 h.1 h.4 h.6 h.8.1,
      append_assoc h.0 h.1 o,
      stands_grow C g.0 (all + g.0) (second_of_two all g.0) room (branch live) h.4 h.6 o z t g.1,
    )) h.2 last h.9)

pub branch_ends : (C : Contents) (room : ℕ) (live : Bool) (s : State) (from : List Lined) → item live from ≡ spec.ended → Holds C room (branch live) s from [] s from
branch_ends C room live s from e = turned C 0 room live s spec.ended from [] s from e (refl, refl, refl)

ended_by : (live : Bool) (r : Role) (a : Lined) (ts : List Lined) → role_of a.token ≡ r → spec.item_by live r a ts ≡ spec.ended → item live (a ∷ ts) ≡ spec.ended
ended_by live r a ts e f = subst (λ i. spec.item_by live i a ts ≡ spec.ended) (sym e) f

left_endif : (C : Contents) (room : ℕ) (frames : List Frame) (frame : Frame) (live : Bool) (s : State) (a : Lined) (ts : List Lined) (o : List Token) (last : State) → role_of a.token ≡ role.Endif
    → Left C room frames frame.live s ts o last → Left C room (frame ∷ frames) live s (a ∷ ts) o last
left_endif C room frames frame live s a ts o last r h =
    ([], [], o, s, s, a ∷ ts, ts, branch_ends C room live s (a ∷ ts) (ended_by live role.Endif a ts r refl), by frame.last, h, refl)
  where
    by : (v : Bool) → Behind C room v frame s (a ∷ ts) [] s ts
    by true = (a, refl, r, refl, refl)
    by false = chosen C 0 room frame.live frame.taken s role.Endif a ts [] s ts r (refl, refl, refl)

left_else : (C : Contents) (room : ℕ) (frames : List Frame) (frame : Frame) (live : Bool) (s : State) (a : Lined) (ts : List Lined) (o : List Token) (last : State) → role_of a.token ≡ role.Else → frame.last ≡ false
    → Left C room (record { live = frame.live; taken = true; last = true } ∷ frames) (frame.live && not frame.taken) s ts o last → Left C room (frame ∷ frames) live s (a ∷ ts) o last
left_else C room frames frame live s a ts o last r f h =
    let b = h.8 in
    let others : o ≡ h.0 ++ h.2 = h.10 ∙ ap (λ i. h.0 ++ (i ++ h.2)) b.3 in
    let inner = subst (λ i. Stands C h.7.0 room (branch (frame.live && not frame.taken)) s ts h.0 h.3 i) b.1 h.7.1 in (
      [],
      h.0,
      h.2,
      s,
      h.3,
      a ∷ ts,
      h.6,
      branch_ends C room live s (a ∷ ts) (ended_by live role.Else a ts r refl),
      subst (λ v. Behind C room v frame s (a ∷ ts) h.0 h.3 h.6) (sym f) (chosen C h.7.0 room frame.live frame.taken s role.Else a ts h.0 h.3 h.6 r (b.0, b.2, inner)),
      subst (λ z. Left C room frames frame.live z h.6 h.2 last) b.4 h.9,
      others,
    )

left_elsif : (C : Contents) (room : ℕ) (frames : List Frame) (frame : Frame) (live : Bool) (s : State) (a name : Lined) (ts : List Lined) (o : List Token) (last : State) → role_of a.token ≡ role.Elsif → frame.last ≡ false
    → is_word name.token.kind ≡ true
    → Left C room (record { live = frame.live; taken = frame.taken || has name.token.text s.macros; last = false } ∷ frames) (frame.live && not frame.taken && has name.token.text s.macros) s ts o last
    → Left C room (frame ∷ frames) live s (a ∷ name ∷ ts) o last
left_elsif C room frames frame live s a name ts o last r f n h =
    let all : ℕ = h.7.0 + h.8.0 in (
      [],
      h.0 ++ h.1,
      h.2,
      s,
      h.4,
      a ∷ name ∷ ts,
      h.6,
      branch_ends C room live s (a ∷ name ∷ ts) (ended_by live role.Elsif a (name ∷ ts) r refl),
      subst (λ v. Behind C room v frame s (a ∷ name ∷ ts) (h.0 ++ h.1) h.4 h.6) (sym f) (chosen C all room frame.live frame.taken s role.Elsif a (name ∷ ts) (h.0 ++ h.1) h.4 h.6 r (
        h.0,
        h.1,
        h.3,
        h.5,
        n,
        stands_grow C h.7.0 all (first_of_two h.7.0 h.8.0) room (branch (frame.live && not frame.taken && has name.token.text s.macros)) s ts h.0 h.3 h.5 h.7.1,
        stands_grow C h.8.0 all (second_of_two h.7.0 h.8.0) room (choice frame.live (frame.taken || has name.token.text s.macros)) h.3 h.5 h.1 h.4 h.6 h.8.1,
        refl,
      )),
      h.9,
      h.10 ∙ sym (append_assoc h.0 h.1 h.2),
    )

-- over a directive that ends a branch
left_ends : (C : Contents) (room : ℕ) (frame : Frame) (round : List Frame) (live : Bool) (s : State) (a : Lined) (ts : List Lined) (now : Bool) (frames : List Frame) (rest : List Lined) (o : List Token) (last : State)
    → Ends s.macros frame round a ts now frames rest → Left C room frames now s rest o last → Left C room (frame ∷ round) live s (a ∷ ts) o last
left_ends C room frame round live s a ts now frames rest o last (endif r) h = left_endif C room round frame live s a ts o last r h
left_ends C room frame round live s a ts now frames rest o last (last_branch r l) h = left_else C room round frame live s a ts o last r l h
left_ends C room frame round live s a ts now frames rest o last (one_more {name = name} r l e w) h =
    subst (λ i. Left C room (frame ∷ round) live s (a ∷ i) o last) (sym e) (left_elsif C room round frame live s a name rest o last r l w h)

-- ---- over one item

from_piece : (C : Contents) (room : ℕ) (p : Point) (s : State) (piece : List Token) (rest : List Lined) (out : List Token) (last : State)
    → ((o : List Token) (z : State) (t : List Lined) → Holds C room (branch p.live) s rest o z t → Holds C room (branch p.live) p.state p.rest (piece ++ o) z t)
    → Gives C room (behind p s (p.written ++ piece) rest) out last → Gives C room p out last
from_piece C room p s piece rest out last step h =
    (piece ++ h.0, h.1 ∙ append_assoc p.written piece h.0, prepend C room p.frames p.live p.state s p.rest rest piece step h.0 last h.2)

from_nothing : (C : Contents) (room : ℕ) (p : Point) (s : State) (rest : List Lined) (out : List Token) (last : State)
    → ((o : List Token) (z : State) (t : List Lined) → Holds C room (branch p.live) s rest o z t → Holds C room (branch p.live) p.state p.rest o z t)
    → Gives C room (behind p s p.written rest) out last → Gives C room p out last
from_nothing C room p s rest out last step h = (h.0, h.1, prepend C room p.frames p.live p.state s p.rest rest [] step h.0 last h.2)

at : (C : Contents) (room : ℕ) (p q : Point) (out : List Token) (last : State) → p ≡ q → Gives C room p out last → Gives C room q out last
at C room p q out last e h = subst (λ i. Gives C room i out last) e h

pub step_back : (C : Contents) (room : ℕ) (i : Item) (p q : Point) → item p.live p.rest ≡ i → Passes C room i p q → (out : List Token) (last : State) → Gives C room q out last → Gives C room p out last
step_back C room (spec.kept a rest) p q e h out last g =
    from_piece C room p p.state (a ∷ []) rest out last (λ o z t k. turned C k.0 room p.live p.state (spec.kept a rest) p.rest (a ∷ o) z t e (o, refl, k.1)) (at C room q _ out last h g)
step_back C room (spec.passed rest) p q e h out last g =
    from_nothing C room p p.state rest out last (λ o z t k. turned C k.0 room p.live p.state (spec.passed rest) p.rest o z t e k.1) (at C room q _ out last h g)
step_back C room (spec.used a rest) p q e h out last g =
    from_piece C room p (with_count p.state h.2) h.1 rest out last
    (λ o z t k. turned C k.0 room p.live p.state (spec.used a rest) p.rest (h.1 ++ o) z t e (h.0, h.1, o, h.2, h.3, h.4, refl, k.1)) (at C room q _ out last h.5 g)
step_back C room (spec.defined name text rest) p q e h out last g =
    from_nothing C room p (with_definition p.state name (Some text)) rest out last (λ o z t k. turned C k.0 room p.live p.state (spec.defined name text rest) p.rest o z t e k.1) (at C room q _ out last h g)
step_back C room (spec.forgotten name rest) p q e h out last g =
    from_nothing C room p (with_definition p.state name None) rest out last (λ o z t k. turned C k.0 room p.live p.state (spec.forgotten name rest) p.rest o z t e k.1) (at C room q _ out last h g)
step_back C room (spec.included a name rest) p q e h out last g =
    from_piece C room p h.4 h.3 rest out last
    (λ o z t k. turned C (h.7.0 + k.0) room p.live p.state (spec.included a name rest) p.rest (h.3 ++ o) z t e (
      h.0,
      h.1,
      h.2,
      h.3,
      o,
      h.4,
      h.5,
      h.6,
      stands_grow C h.7.0 (h.7.0 + k.0) (first_of_two h.7.0 k.0) h.0 (branch true) (entered p.state name h.2) h.2 h.3 h.4 [] h.7.1,
      refl,
      stands_grow C k.0 (h.7.0 + k.0) (second_of_two h.7.0 k.0) room (branch p.live) h.4 rest o z t k.1,
    )) (at C room q _ out last h.8 g)
step_back C room (spec.opened wanted name rest) p q e h out last g =
    let k = at C room q _ out last h g in
    (k.0, k.1, left_opened C room p.frames p.live wanted p.state p.rest name rest k.0 last e k.2)
step_back C room spec.ended p q e h out last g =
    let k = at C room q _ out last h.7 g in
    let t = h.6 in (
      k.0,
      k.1,
      subst (λ i. Left C room i p.live p.state p.rest k.0 last) (sym t.2)
          (subst (λ i. Left C room (t.0 ∷ t.1) p.live p.state i k.0 last) (sym h.5)
          (left_ends C room t.0 t.1 p.live p.state h.0 h.1 h.2 h.3 h.4 k.0 last t.3 k.2)),
    )
step_back C room (spec.broken number place) p q e h out last g = absurd h

-- ---- over all items that are passed

pub reaches_back : {C : Contents} {room : ℕ} {p q : Point} → Reaches C room p q → (out : List Token) (last : State) → Gives C room q out last → Gives C room p out last
reaches_back at_once out last g = g
reaches_back {C = C} {room = room} (onwards {q = q} {r = r} h s) out last g = reaches_back h out last (step_back C room (item q.live q.rest) q r refl s out last g)

-- reading that comes to the end reads the file
pub reads_all : {C : Contents} {room : ℕ} {s : State} {old : List Token} {tokens : List Lined} {p : Point} → Reaches C room (begun s old tokens) p → p.rest ≡ [] → p.frames ≡ []
    → (front : List Token) × Holds C room (branch true) s tokens front p.state [] × (p.written ≡ old ++ front)
reads_all {C} {room} {s} {old} {tokens} {p} h e f =
    let left : Left C room p.frames p.live p.state p.rest [] p.state = subst (λ i. Left C room i p.live p.state p.rest [] p.state) (sym f)
    (subst (λ i. Holds C room (branch p.live) p.state i [] p.state []) (sym e) (branch_ends C room p.live p.state [] refl)) in
    let g = reaches_back h p.written p.state ([], sym (append-nil p.written), left) in
    (g.0, g.2, g.1)
