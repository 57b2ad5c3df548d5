-- What a place gives, the next place gives: where reading comes, the file's list goes on.
use Rattle.std.proofs.Common.{◌≡◌, ℕ, zero, suc, List, [], ◌∷◌, ◌++◌, Bool, true, false, refl, sym, ◌∙◌, ap, subst, arith, length, drop, append_assoc, Some, None}
use Rattle.std.specs.Prelude.{◌&&◌, ◌||◌, not}
use Rattle.sv_outside.specs.declared.text.Token.{Token}
use Rattle.sv_token.specs.declared.lexer.Lined.{Lined}
use Rattle.sv_preproc.specs.declared.known.Frame.{Frame}
use Rattle.sv_preproc.specs.declared.role.Role.{Role}
use Rattle.sv_preproc.specs.declared.role.Role.TheVariants as role
use Rattle.sv_preproc.specs.Roles.{role_of}
use Rattle.sv_preproc.specs.Directives as spec
use Rattle.sv_preproc.specs.Directives.{Item, item, State, Part, branch, choice, Contents, Relation, Turn, Choose, Elsif, Level, Stands, Holds, IsFile, Expands, Macros, has, is_taken, name_of, with_definition, with_count, entered, deepest_use, most_counted}
use Rattle.sv_preproc.specs.Reached.{Point, behind, first_branch, Ends, endif, last_branch, one_more, Passes, Reaches, at_once, onwards}
use Rattle.sv_preproc.proofs.Left.{Behind, Left, Gives}
use Rattle.sv_preproc.proofs.Unique.{Agree, one_file, one_expansion, same_text, holds_one}

pub turn_of : (D : Contents) (room : ℕ) (live : Bool) (s : State) (i : Item) (from : List Lined) (o : List Token) (z : State) (t : List Lined) → item live from ≡ i → Holds D room (branch live) s from o z t
    → (levels : ℕ) × Turn D (Stands D levels) room live s i from o z t
unfolding Stands
turn_of D room live s i from o z t e h = by h.0 h.1
  where
    by : (n : ℕ) → Stands D n room (branch live) s from o z t → (levels : ℕ) × Turn D (Stands D levels) room live s i from o z t
    by zero k = absurd k
    by (suc n) k = (n, subst (λ j. Turn D (Stands D n) room live s j from o z t) e k)

pub choice_of : (D : Contents) (room : ℕ) (live taken : Bool) (s : State) (r : Role) (a : Lined) (ts : List Lined) (o : List Token) (z : State) (t : List Lined) → role_of a.token ≡ r
    → Holds D room (choice live taken) s (a ∷ ts) o z t → (levels : ℕ) × Choose (Stands D levels) r room live taken s ts o z t
unfolding Stands
choice_of D room live taken s r a ts o z t e h = by h.0 h.1
  where
    by : (n : ℕ) → Stands D n room (choice live taken) s (a ∷ ts) o z t → (levels : ℕ) × Choose (Stands D levels) r room live taken s ts o z t
    by zero k = absurd k
    by (suc n) k = (n, subst (λ j. Choose (Stands D n) j room live taken s ts o z t) e k)

pub no_choice : (D : Contents) (room : ℕ) (live taken : Bool) (s : State) (o : List Token) (z : State) (t : List Lined) → Holds D room (choice live taken) s [] o z t → ⊥
unfolding Stands
no_choice D room live taken s o z t h = by h.0 h.1
  where
    by : (n : ℕ) → Stands D n room (choice live taken) s [] o z t → ⊥
    by zero k = k
    by (suc n) k = k

-- what stands behind a piece of a branch is left behind it
unprepend : (D : Contents) (room : ℕ) (frames : List Frame) (live : Bool) (s r : State) (from rest : List Lined) (piece : List Token)
    → ((o : List Token) (z : State) (t : List Lined) → Holds D room (branch live) s from o z t → (p : List Token) × (o ≡ piece ++ p) × Holds D room (branch live) r rest p z t)
    → (o : List Token) (last : State) → Left D room frames live s from o last → (p : List Token) × (o ≡ piece ++ p) × Left D room frames live r rest p last
unprepend D room [] live s r from rest piece step o last h = step o last [] h
unprepend D room (frame ∷ frames) live s r from rest piece step o last h =
    let k = step h.0 h.3 h.5 h.7 in
    (k.0 ++ (h.1 ++ h.2), h.10 ∙ ap (λ i. i ++ (h.1 ++ h.2)) k.1 ∙ append_assoc piece k.0 (h.1 ++ h.2), (k.0, h.1, h.2, h.3, h.4, h.5, h.6, k.2, h.8, h.9, refl))

right_opened : (D : Contents) (room : ℕ) (frames : List Frame) (live wanted : Bool) (s : State) (from : List Lined) (name : List ℕ) (rest : List Lined) (o : List Token) (last : State)
    → item live from ≡ spec.opened wanted name rest → Left D room frames live s from o last
    → Left D room (first_branch live (is_taken wanted name s.macros) ∷ frames) (live && is_taken wanted name s.macros) s rest o last
right_opened D room [] live wanted s from name rest o last e h =
    let k = turn_of D room live s (spec.opened wanted name rest) from o last [] e h in
    let t = k.1 in
    (t.0, t.1, t.2, t.3, t.4, t.5, t.6, (k.0, t.7), (k.0, t.8), (k.0, t.10), t.9)
right_opened D room (frame ∷ frames) live wanted s from name rest o last e h =
    let k = turn_of D room live s (spec.opened wanted name rest) from h.0 h.3 h.5 e h.7 in
    let t = k.1 in
    let more : List Token = t.2 ++ (h.1 ++ h.2) in
    let whole : o ≡ t.0 ++ (t.1 ++ more) = h.10 ∙ ap (λ i. i ++ (h.1 ++ h.2)) t.9 ∙ append_assoc t.0 (t.1 ++ t.2) (h.1 ++ h.2) ∙ ap (λ i. t.0 ++ i) (append_assoc t.1 t.2 (h.1 ++ h.2)) in
    (t.0, t.1, more, t.3, t.4, t.5, t.6, (k.0, t.7), (k.0, t.8), (t.2, h.1, h.2, h.3, h.4, h.5, h.6, (k.0, t.10), h.8, h.9, refl), whole)

-- at a directive that ends a branch, the branch has nothing more
pub record Stays (D : Contents) (room : ℕ) (frame : Frame) (round : List Frame) (s : State) (from : List Lined) (o : List Token) (last : State) : Type 0 where
  pub others : List Token
  pub more : List Token
  pub two : State
  pub back : List Lined
  pub on : Behind D room frame.last frame s from others two back
  pub left : Left D room round frame.live two back more last
  pub all : o ≡ others ++ more

pub stays : (D : Contents) (room : ℕ) (frame : Frame) (round : List Frame) (live : Bool) (s : State) (from : List Lined) (o : List Token) (last : State) → item live from ≡ spec.ended
    → Left D room (frame ∷ round) live s from o last → Stays D room frame round s from o last
stays D room frame round live s from o last e h =
    let t = (turn_of D room live s spec.ended from h.0 h.3 h.5 e h.7).1 in
    record {
      others = h.1;
      more = h.2;
      two = h.4;
      back = h.6;
      on = subst (λ i. Behind D room frame.last frame i from h.1 h.4 h.6) t.1 (subst (λ i. Behind D room frame.last frame h.3 i h.1 h.4 h.6) t.2 h.8);
      left = h.9;
      all = h.10 ∙ ap (λ i. i ++ (h.1 ++ h.2)) t.0;
    }

tail_is : (a e : Lined) (ts rest : List Lined) → a ∷ ts ≡ e ∷ rest → ts ≡ rest
tail_is a e ts rest h = ap (drop 1) h

pub head_is : (a e : Lined) (ts rest : List Lined) → a ∷ ts ≡ e ∷ rest → a ≡ e
head_is a e ts rest h = cc

right_endif : (D : Contents) (room : ℕ) (frame : Frame) (round : List Frame) (s : State) (a : Lined) (ts : List Lined) (o : List Token) (last : State) → role_of a.token ≡ role.Endif
    → Stays D room frame round s (a ∷ ts) o last → Left D room round frame.live s ts o last
right_endif D room frame round s a ts o last r h = by frame.last h.on
  where
    end : (h.others ≡ []) → (h.two ≡ s) → (h.back ≡ ts) → Left D room round frame.live s ts o last
    end e f g = subst (λ i. Left D room round frame.live i ts o last) f (subst (λ i. Left D room round frame.live h.two i o last) g
        (subst (λ i. Left D room round frame.live h.two h.back i last) (sym (h.all ∙ ap (λ i. i ++ h.more) e)) h.left))

    by : (v : Bool) → Behind D room v frame s (a ∷ ts) h.others h.two h.back → Left D room round frame.live s ts o last
    by true k = end k.3 k.4 (sym (tail_is a k.0 ts h.back k.1))
    by false k = let c = (choice_of D room frame.live frame.taken s role.Endif a ts h.others h.two h.back r k).1 in end c.0 c.1 c.2

open_choice : (D : Contents) (room : ℕ) (frame : Frame) (s : State) (from : List Lined) (out : List Token) (z : State) (t : List Lined) → frame.last ≡ false → Behind D room frame.last frame s from out z t
    → Holds D room (choice frame.live frame.taken) s from out z t
open_choice D room frame s from out z t l h = subst (λ v. Behind D room v frame s from out z t) l h

right_else : (D : Contents) (room : ℕ) (frame : Frame) (round : List Frame) (s : State) (a : Lined) (ts : List Lined) (o : List Token) (last : State) → role_of a.token ≡ role.Else → frame.last ≡ false
    → Stays D room frame round s (a ∷ ts) o last → Left D room (record { live = frame.live; taken = true; last = true } ∷ round) (frame.live && not frame.taken) s ts o last
right_else D room frame round s a ts o last r l h =
    let k = choice_of D room frame.live frame.taken s role.Else a ts h.others h.two h.back r (open_choice D room frame s (a ∷ ts) h.others h.two h.back l h.on) in
    let c = k.1 in
    (h.others, [], h.more, h.two, h.two, c.0 ∷ h.back, h.back, (k.0, c.2), (c.0, refl, c.1, refl, refl), h.left, h.all)

right_elsif : (D : Contents) (room : ℕ) (frame : Frame) (round : List Frame) (s : State) (a name : Lined) (ts : List Lined) (o : List Token) (last : State) → role_of a.token ≡ role.Elsif → frame.last ≡ false
    → Stays D room frame round s (a ∷ name ∷ ts) o last
    → Left D room (record { live = frame.live; taken = frame.taken || has name.token.text s.macros; last = false } ∷ round) (frame.live && not frame.taken && has name.token.text s.macros) s ts o last
right_elsif D room frame round s a name ts o last r l h =
    let k = choice_of D room frame.live frame.taken s role.Elsif a (name ∷ ts) h.others h.two h.back r (open_choice D room frame s (a ∷ name ∷ ts) h.others h.two h.back l h.on) in
    let c = k.1 in
    (c.0, c.1, h.more, c.2, h.two, c.3, h.back, (k.0, c.5), (k.0, c.6), h.left, h.all ∙ ap (λ i. i ++ h.more) c.7 ∙ append_assoc c.0 c.1 h.more)

right_ends : (D : Contents) (room : ℕ) (frame : Frame) (round : List Frame) (s : State) (a : Lined) (ts : List Lined) (now : Bool) (frames : List Frame) (rest : List Lined) (o : List Token) (last : State)
    → Ends s.macros frame round a ts now frames rest → Stays D room frame round s (a ∷ ts) o last → Left D room frames now s rest o last
right_ends D room frame round s a ts now frames rest o last (endif r) h = right_endif D room frame round s a ts o last r h
right_ends D room frame round s a ts now frames rest o last (last_branch r l) h = right_else D room frame round s a ts o last r l h
right_ends D room frame round s a ts now frames rest o last (one_more {name = name} r l e w) h =
    right_elsif D room frame round s a name rest o last r l (subst (λ i. Stays D room frame round s (a ∷ i) o last) e h)

-- ---- over one item

to_piece : (D : Contents) (room : ℕ) (p : Point) (s : State) (piece : List Token) (rest : List Lined) (out : List Token) (last : State)
    → ((o : List Token) (z : State) (t : List Lined) → Holds D room (branch p.live) p.state p.rest o z t → (m : List Token) × (o ≡ piece ++ m) × Holds D room (branch p.live) s rest m z t)
    → Gives D room p out last → Gives D room (behind p s (p.written ++ piece) rest) out last
to_piece D room p s piece rest out last step h =
    let k = unprepend D room p.frames p.live p.state s p.rest rest piece step h.0 last h.2 in
    (k.0, h.1 ∙ ap (λ i. p.written ++ i) k.1 ∙ sym (append_assoc p.written piece k.0), k.2)

to_nothing : (D : Contents) (room : ℕ) (p : Point) (s : State) (rest : List Lined) (out : List Token) (last : State)
    → ((o : List Token) (z : State) (t : List Lined) → Holds D room (branch p.live) p.state p.rest o z t → Holds D room (branch p.live) s rest o z t)
    → Gives D room p out last → Gives D room (behind p s p.written rest) out last
to_nothing D room p s rest out last step h =
    let k = unprepend D room p.frames p.live p.state s p.rest rest [] (λ o z t g. (o, refl, step o z t g)) h.0 last h.2 in
    (k.0, h.1 ∙ ap (λ i. p.written ++ i) k.1, k.2)

at : (D : Contents) (room : ℕ) (p q : Point) (out : List Token) (last : State) → q ≡ p → Gives D room p out last → Gives D room q out last
at D room p q out last e h = subst (λ i. Gives D room i out last) (sym e) h

pub suc_is : (m n : ℕ) → suc m ≡ suc n → m ≡ n
suc_is m n e = omega (arith, e)

pub step_on : (C D : Contents) → Agree C D → (room : ℕ) (i : Item) (p q : Point) → item p.live p.rest ≡ i → Passes C room i p q → (out : List Token) (last : State) → Gives D room p out last → Gives D room q out last
step_on C D one room (spec.kept a rest) p q e h out last g = at D room _ q out last h (to_piece D room p p.state (a ∷ []) rest out last
    (λ o z t k. let u = turn_of D room p.live p.state (spec.kept a rest) p.rest o z t e k in (u.1.0, u.1.1, (u.0, u.1.2))) g)
step_on C D one room (spec.passed rest) p q e h out last g = at D room _ q out last h (to_nothing D room p p.state rest out last
    (λ o z t k. turn_of D room p.live p.state (spec.passed rest) p.rest o z t e k) g)
step_on C D one room (spec.used a rest) p q e h out last g = at D room _ q out last h.5 (to_piece D room p (with_count p.state h.2) h.1 rest out last
    (λ o z t k.
    let u = turn_of D room p.live p.state (spec.used a rest) p.rest o z t e k in
    let v = u.1 in
    let same = same_text (name_of a) p.state.macros h.0 v.0 h.3 v.4 in
    let ex = one_expansion h.4 (subst (λ i. Expands p.state.macros a.place deepest_use i v.1 v.3) (sym same) v.5) in
    (v.2, v.6 ∙ ap (λ i. i ++ v.2) (sym ex.0), (u.0, subst (λ n. Stands D u.0 room (branch p.live) (with_count p.state n) rest v.2 z t) (sym ex.1) v.7))) g)
step_on C D one room (spec.defined name text rest) p q e h out last g = at D room _ q out last h (to_nothing D room p (with_definition p.state name (Some text)) rest out last
    (λ o z t k. turn_of D room p.live p.state (spec.defined name text rest) p.rest o z t e k) g)
step_on C D one room (spec.forgotten name rest) p q e h out last g = at D room _ q out last h (to_nothing D room p (with_definition p.state name None) rest out last
    (λ o z t k. turn_of D room p.live p.state (spec.forgotten name rest) p.rest o z t e k) g)
step_on C D one room (spec.included a name rest) p q e h out last g = at D room _ q out last h.8 (to_piece D room p h.4 h.3 rest out last
    (λ o z t k.
    let u = turn_of D room p.live p.state (spec.included a name rest) p.rest o z t e k in
    let v = u.1 in
    let less = suc_is h.0 v.0 (sym h.5 ∙ v.6) in
    let file = one_file C D one (length p.state.files) name h.1 v.1 h.2 v.2 h.6 v.7 in
    let inner : Holds D h.0 (branch true) (entered p.state name h.2) h.2 v.3 v.5 []
    = (u.0, subst (λ i. Stands D u.0 i (branch true) (entered p.state name h.2) h.2 v.3 v.5 []) (sym less) (subst (λ i. Stands D u.0 v.0 (branch true) (entered p.state name i) i v.3 v.5 []) (sym file.1) v.8)) in
    let same = holds_one C D one h.0 (branch true) (entered p.state name h.2) h.2 h.3 h.4 [] v.3 v.5 [] h.7 inner in
    (v.4, v.9 ∙ ap (λ i. i ++ v.4) (sym same.out), (u.0, subst (λ i. Stands D u.0 room (branch p.live) i rest v.4 z t) (sym same.state) v.10))) g)
step_on C D one room (spec.opened wanted name rest) p q e h out last g =
    at D room _ q out last h (g.0, g.1, right_opened D room p.frames p.live wanted p.state p.rest name rest g.0 last e g.2)
step_on C D one room spec.ended p q e h out last g =
    let t = h.6 in
    let left = subst (λ i. Left D room i p.live p.state p.rest g.0 last) t.2 g.2 in
    let stay = stays D room t.0 t.1 p.live p.state p.rest g.0 last e left in
    at D room _ q out last h.7 (g.0, g.1, right_ends D room t.0 t.1 p.state h.0 h.1 h.2 h.3 h.4 g.0 last t.3 (subst (λ i. Stays D room t.0 t.1 p.state i g.0 last) h.5 stay))
step_on C D one room (spec.broken number place) p q e h out last g = absurd h

pub reaches_on : {C D : Contents} {room : ℕ} {p q : Point} → Agree C D → Reaches C room p q → (out : List Token) (last : State) → Gives D room p out last → Gives D room q out last
reaches_on one at_once out last g = g
reaches_on {C = C} {D = D} {room = room} one (onwards {q = q} {r = r} h s) out last g = step_on C D one room (item q.live q.rest) q r refl s out last (reaches_on one h out last g)
