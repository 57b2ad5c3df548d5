-- Where reading stops for a reason, there is no list of tokens.
use Rattle.std.proofs.Common.{◌≡◌, ℕ, suc, ◌+◌, ◌≤◌, List, [], ◌∷◌, ◌++◌, Bool, true, false, refl, sym, ◌∙◌, ap, subst, arith, length, length-append, Some, None, ◌⊎◌, inl, inr}
use Rattle.sv_outside.specs.declared.text.Token.{Token}
use Rattle.sv_outside.specs.declared.refusal.Place.{Place}
use Rattle.sv_outside.specs.declared.refusal.Refusal.{Refusal}
use Rattle.sv_outside.specs.Text.{TokenList}
use Rattle.sv_token.specs.declared.lexer.Lined.{Lined}
use Rattle.sv_token.specs.Cut.{IsRefused, start}
use Rattle.sv_token.proofs.Cutting.{none_refused}
use Rattle.sv_preproc.specs.declared.known.Frame.{Frame}
use Rattle.sv_preproc.specs.declared.role.Role.{Role}
use Rattle.sv_preproc.specs.declared.role.Role.TheVariants as role
use Rattle.sv_preproc.specs.Roles.{role_of, is_word}
use Rattle.sv_preproc.specs.Directives as spec
use Rattle.sv_preproc.specs.Directives.{Item, item, State, branch, choice, Contents, Turn, Elsif, Stands, Holds, IsFile, IsText, Expands, Macros, has, is_taken, name_of, with_count, entered, deepest_use, deepest_include, most_counted, at_first}
use Rattle.sv_preproc.specs.Reached as reached
use Rattle.sv_preproc.specs.Reached.{Point, begun, Reaches, Overruns, IsMisplaced, IsFaulty, IsUnfit, Stop, no, unread, Stops, StopsIn}
use Rattle.sv_preproc.proofs.Left.{Behind, Left, Gives}
use Rattle.sv_preproc.proofs.Counts.{holds_rise}
use Rattle.sv_preproc.proofs.Ahead.{turn_of, choice_of, no_choice, stays, reaches_on, head_is, suc_is}
use Rattle.sv_preproc.proofs.Unique.{Agree, one_file, one_expansion, same_text}

-- ---- macros' texts

unlike : (a b : Role) → (a ≡ b → ⊥) → (r : Role) → r ≡ a → r ≡ b → ⊥
unlike a b n r e f = n (sym e ∙ f)

kept_used : (a : Token) → role_of a ≡ role.Kept → role_of a ≡ role.Used → ⊥
kept_used a e f = let bad : role.Kept ≡ role.Used = sym e ∙ f in cc

pub none_overrun : {macros : Macros} {place : Place} {depth counted number n : ℕ} {text out : List Token} → Overruns macros place depth text counted number → Expands macros place depth text out n
    → counted + n ≤ most_counted → ⊥
none_overrun (reached.many e) (spec.kept r x) w = absurd (omega (arith, e, w))
none_overrun (reached.many e) (spec.used r l x y) w = absurd (omega (arith, e, w))
none_overrun (reached.foreign k u) (spec.kept r x) w = k r
none_overrun (reached.foreign k u) (spec.used r l x y) w = u r
none_overrun (reached.unknown {a = a} u m) (spec.kept r x) w = kept_used a r u
none_overrun (reached.unknown u m) (spec.used {inner = i} r l x y) w = let bad : None ≡ Some i = sym m ∙ l in cc
none_overrun (reached.deep {a = a} u m) (spec.kept r x) w = kept_used a r u
none_overrun (reached.within {a = a} u m h) (spec.kept r x) w = kept_used a r u
none_overrun {macros = macros} {place = place} (reached.within {depth = depth} {counted = counted} {a = a} {inner = i} u k h) (spec.used {m = m} {inner = j} {front = front} r l x y) w =
    let same = same_text (name_of a) macros j i l k in
    none_overrun h (subst (λ t. Expands macros place depth t front m) same x) (omega (arith, w))
none_overrun (reached.past_kept r h) (spec.kept q x) w = none_overrun h x (omega (arith, w))
none_overrun (reached.past_kept {a = a} r h) (spec.used q l x y) w = kept_used a r q
none_overrun (reached.past_used {a = a} u k x h) (spec.kept q y) w = kept_used a q u
none_overrun {macros = macros} {place = place} (reached.past_used {depth = depth} {a = a} {inner = i} u k x h) (spec.used {m = m} {inner = j} {front = front} q l y z) w =
    let same = same_text (name_of a) macros j i l k in
    let one = one_expansion x (subst (λ t. Expands macros place depth t front m) same y) in
    none_overrun h z (omega (arith, w, one.1))

-- ---- one place

behind_rises : (D : Contents) (room : ℕ) (v : Bool) (frame : Frame) (s : State) (from : List Lined) (o : List Token) (z : State) (t : List Lined) → Behind D room v frame s from o z t → s.counted ≤ z.counted
behind_rises D room true frame s from o z t k = omega (arith, ap (λ i. i.counted) k.4)
behind_rises D room false frame s from o z t k = holds_rise D room (choice frame.live frame.taken) s from o z t k

left_rises : (D : Contents) (room : ℕ) (frames : List Frame) (live : Bool) (s : State) (from : List Lined) (o : List Token) (last : State) → Left D room frames live s from o last → s.counted ≤ last.counted
left_rises D room [] live s from o last h = holds_rise D room (branch live) s from o last [] h
left_rises D room (frame ∷ frames) live s from o last h =
    let a = holds_rise D room (branch live) s from h.0 h.3 h.5 h.7 in
    let b = behind_rises D room frame.last frame h.3 h.5 h.1 h.4 h.6 h.8 in
    let c = left_rises D room frames frame.live h.4 h.6 h.2 last h.9 in omega (arith, a, b, c)

-- the first branch that is left
pub front_of : (D : Contents) (room : ℕ) (frames : List Frame) (live : Bool) (s : State) (from : List Lined) (o : List Token) (last : State) → Left D room frames live s from o last
    → (front : List Token) × (z : State) × (t : List Lined) × Holds D room (branch live) s from front z t × (z.counted ≤ last.counted)
front_of D room [] live s from o last h = (o, last, [], h, omega arith)
front_of D room (frame ∷ frames) live s from o last h =
    let b = behind_rises D room frame.last frame h.3 h.5 h.1 h.4 h.6 h.8 in
    let c = left_rises D room frames frame.live h.4 h.6 h.2 last h.9 in
    (h.0, h.3, h.5, h.7, omega (arith, b, c))

else_is_not_endif : (r : Role) → (r ≡ role.Else) ⊎ (r ≡ role.Elsif) → r ≡ role.Endif → ⊥
else_is_not_endif r (inl e) f = let bad : role.Else ≡ role.Endif = sym e ∙ f in cc
else_is_not_endif r (inr e) f = let bad : role.Elsif ≡ role.Endif = sym e ∙ f in cc

not_outside : (D : Contents) (room : ℕ) (frames : List Frame) (live : Bool) (s : State) (a : Lined) (ts : List Lined) (o : List Token) (last : State) → item live (a ∷ ts) ≡ spec.ended → frames ≡ []
    → Left D room frames live s (a ∷ ts) o last → ⊥
not_outside D room frames live s a ts o last e f h =
    let t = (turn_of D room live s spec.ended (a ∷ ts) o last [] e (subst (λ i. Left D room i live s (a ∷ ts) o last) f h)).1 in
    let bad : [] ≡ a ∷ ts = t.2 in cc

no_word : (D : Contents) (levels room : ℕ) (live taken : Bool) (s : State) (ts us : List Lined) (o : List Token) (z : State) (t : List Lined)
    → ((name : Lined) (rest : List Lined) → ts ≡ name ∷ rest → is_word name.token.kind ≡ false) → ts ≡ us → Elsif (Stands D levels) room live taken s us o z t → ⊥
no_word D levels room live taken s ts [] o z t n f c = c
no_word D levels room live taken s ts (name ∷ us) o z t n f c = let bad : true ≡ false = sym c.4 ∙ n name us f in cc

none_nameless : (D : Contents) (room : ℕ) (frame : Frame) (s : State) (a : Lined) (ts : List Lined) (o : List Token) (z : State) (t : List Lined) → role_of a.token ≡ role.Elsif
    → ((name : Lined) (rest : List Lined) → ts ≡ name ∷ rest → is_word name.token.kind ≡ false) → (v : Bool) → Behind D room v frame s (a ∷ ts) o z t → ⊥
none_nameless D room frame s a ts o z t r n true b =
    let same = head_is a b.0 ts t b.1 in else_is_not_endif (role_of a.token) (inr r) (subst (λ i. role_of i.token ≡ role.Endif) (sym same) b.2)
none_nameless D room frame s a ts o z t r n false b =
    let c = choice_of D room frame.live frame.taken s role.Elsif a ts o z t r b in no_word D c.0 room frame.live frame.taken s ts ts o z t n refl c.1

none_on : (D : Contents) (room : ℕ) (frame : Frame) (s : State) (o : List Token) (z : State) (t : List Lined) (v : Bool) → Behind D room v frame s [] o z t → ⊥
none_on D room frame s o z t true b = let bad : [] ≡ b.0 ∷ t = b.1 in cc
none_on D room frame s o z t false b = no_choice D room frame.live frame.taken s o z t b

none_misplaced : (D : Contents) (room : ℕ) (frames : List Frame) (live : Bool) (s : State) (a : Lined) (ts : List Lined) (o : List Token) (last : State) (number : ℕ) → item live (a ∷ ts) ≡ spec.ended
    → IsMisplaced frames a ts number → Left D room frames live s (a ∷ ts) o last → ⊥
none_misplaced D room frames live s a ts o last number e (reached.unopened f) h = not_outside D room frames live s a ts o last e f h
none_misplaced D room frames live s a ts o last number e (reached.after_last {frame = frame} {round = round} f l r) h =
    let k = stays D room frame round live s (a ∷ ts) o last e (subst (λ i. Left D room i live s (a ∷ ts) o last) f h) in
    let b = subst (λ v. Behind D room v frame s (a ∷ ts) k.others k.two k.back) l k.on in
    let same = head_is a b.0 ts k.back b.1 in
    else_is_not_endif (role_of a.token) r (subst (λ i. role_of i.token ≡ role.Endif) (sym same) b.2)
none_misplaced D room [] live s a ts o last number e (reached.nameless r n) h = not_outside D room [] live s a ts o last e refl h
none_misplaced D room (frame ∷ round) live s a ts o last number e (reached.nameless r n) h =
    let k = stays D room frame round live s (a ∷ ts) o last e h in
    none_nameless D room frame s a ts k.others k.two k.back r n frame.last k.on

none_unclosed : (D : Contents) (room : ℕ) (frame : Frame) (round : List Frame) (live : Bool) (s : State) (o : List Token) (last : State) → Left D room (frame ∷ round) live s [] o last → ⊥
none_unclosed D room frame round live s o last h =
    let k = stays D room frame round live s [] o last refl h in
    none_on D room frame s k.others k.two k.back frame.last k.on

pub none_faulty : (D : Contents) (room : ℕ) (end : Place) (p : Point) (number : ℕ) (place : Place) (out : List Token) (last : State) → IsFaulty room end p number place → Gives D room p out last
    → last.counted ≤ most_counted → ⊥
none_faulty D room end p number place out last (reached.broken e) g w =
    let f = front_of D room p.frames p.live p.state p.rest g.0 last g.2 in
    (turn_of D room p.live p.state (spec.broken number place) p.rest f.0 f.1 f.2 e f.3).1
none_faulty D room end p number place out last (reached.deep {a = a} {name = name} {rest = rest} e r) g w =
    let f = front_of D room p.frames p.live p.state p.rest g.0 last g.2 in
    let t = (turn_of D room p.live p.state (spec.included a name rest) p.rest f.0 f.1 f.2 e f.3).1 in
    absurd (omega (arith, r, t.6))
none_faulty D room end p number place out last (reached.unknown {a = a} {rest = rest} e m) g w =
    let f = front_of D room p.frames p.live p.state p.rest g.0 last g.2 in
    let t = (turn_of D room p.live p.state (spec.used a rest) p.rest f.0 f.1 f.2 e f.3).1 in
    let bad : None ≡ Some t.0 = sym m ∙ t.4 in cc
none_faulty D room end p number place out last (reached.overrun {a = a} {text = text} {rest = rest} e m v) g w =
    let f = front_of D room p.frames p.live p.state p.rest g.0 last g.2 in
    let u = turn_of D room p.live p.state (spec.used a rest) p.rest f.0 f.1 f.2 e f.3 in
    let t = u.1 in
    let same = same_text (name_of a) p.state.macros t.0 text t.4 m in
    let rise : p.state.counted + t.3 ≤ f.1.counted = holds_rise D room (branch p.live) (with_count p.state t.3) rest t.2 f.1 f.2 (u.0, t.7) in
    let less = f.4 in
    none_overrun v (subst (λ i. Expands p.state.macros a.place deepest_use i t.1 t.3) same t.5) (omega (arith, rise, less, w))
none_faulty D room end p number place out last (reached.misplaced {a = a} {ts = ts} e i m) g w =
    none_misplaced D room p.frames p.live p.state a ts g.0 last number (subst (λ r. item p.live r ≡ spec.ended) e i) m (subst (λ r. Left D room p.frames p.live p.state r g.0 last) e g.2)
none_faulty D room end p number place out last (reached.unclosed {frame = frame} {round = round} e f) g w =
    none_unclosed D room frame round p.live p.state g.0 last (subst (λ i. Left D room (frame ∷ round) p.live p.state i g.0 last) e (subst (λ i. Left D room i p.live p.state p.rest g.0 last) f g.2))

-- ---- files

pub none_unfit : (C D : Contents) → Agree C D → (s : State) (name : List ℕ) (refusal : Refusal) (text : List ℕ) (tokens : List Lined) → IsUnfit C s name refusal → IsFile D (length s.files) name text tokens
    → s.counted + length tokens ≤ most_counted → ⊥
none_unfit C D one s name refusal text tokens (reached.uncut other h r) f w =
    let same = one name other text h f.held in
    let few : length tokens ≤ most_counted = omega (arith, w) in
    none_refused f.cut (f.short, few) (subst (λ i. IsRefused (length s.files) i refusal) same r)
none_unfit C D one s name refusal text tokens (reached.many {text = other} before a after h k) f w =
    let same = one_file C D one (length s.files) name other text (before ++ a ∷ after) tokens h f in
    let longer : length tokens ≡ length before + suc (length after) = ap length (sym same.1) ∙ length-append before (a ∷ after) in
    absurd (omega (arith, longer, k, w))

pub none_stop : {C D : Contents} {room : ℕ} {s : State} {tokens : List Lined} {end : Place} {name at : List ℕ} {stop : Stop} → Agree C D → Stops C room s tokens end name stop at
    → (refusal : Refusal) → stop ≡ no refusal → (out : List Token) (last : State) → Holds D room (branch true) s tokens out last [] → last.counted ≤ most_counted → ⊥
none_stop {D = D} {room = room} {end = end} one (reached.faulty {number = number} {old = old} {place = place} {p = p} h f) refusal e out last g w =
    none_faulty D room end p number place (old ++ out) last f (reaches_on one h (old ++ out) last (out, refl, g)) w
none_stop one (reached.missing {a = a} h i r) refusal e out last g w = let bad : unread a.place ≡ no refusal = e in cc
none_stop {C = C} {D = D} {room = room} one (reached.unfit {old = old} {rest = rest} {file = file} {p = p} {a = a} {refusal = other} h i r u) refusal e out last g w =
    let k = reaches_on one h (old ++ out) last (out, refl, g) in
    let f = front_of D room p.frames p.live p.state p.rest k.0 last k.2 in
    let v = turn_of D room p.live p.state (spec.included a file rest) p.rest f.0 f.1 f.2 i f.3 in
    let t = v.1 in
    let inner : p.state.counted + length t.2 ≤ t.5.counted = holds_rise D t.0 (branch true) (entered p.state file t.2) t.2 t.3 t.5 [] (v.0, t.8) in
    let outer = holds_rise D room (branch p.live) t.5 rest t.4 f.1 f.2 (v.0, t.10) in
    let less = f.4 in
    none_unfit C D one p.state file other t.1 t.2 u t.7 (omega (arith, inner, outer, less, w))
none_stop {C = C} {D = D} {room = room} one (reached.deeper {less = less} {old = old} {rest = rest} {others = others} {file = file} {text = text} {p = p} {a = a} h i r f q) refusal e out last g w =
    let k = reaches_on one h (old ++ out) last (out, refl, g) in
    let b = front_of D room p.frames p.live p.state p.rest k.0 last k.2 in
    let v = turn_of D room p.live p.state (spec.included a file rest) p.rest b.0 b.1 b.2 i b.3 in
    let t = v.1 in
    let same = one_file C D one (length p.state.files) file text t.1 others t.2 f t.7 in
    let fewer = suc_is t.0 less (sym t.6 ∙ r) in
    let inner : Holds D less (branch true) (entered p.state file others) others t.3 t.5 []
    = (v.0, subst (λ n. Stands D v.0 n (branch true) (entered p.state file others) others t.3 t.5 []) fewer (subst (λ l. Stands D v.0 t.0 (branch true) (entered p.state file l) l t.3 t.5 []) (sym same.1) t.8)) in
    let outer = holds_rise D room (branch p.live) t.5 rest t.4 b.1 b.2 (v.0, t.10) in
    let under = b.4 in
    none_stop one q refusal e t.3 t.5 inner (omega (arith, outer, under, w))

pub none_stops : {C D : Contents} {main at : List ℕ} {stop : Stop} → Agree C D → StopsIn C main stop at → (refusal : Refusal) → stop ≡ no refusal → (result : TokenList) (last : State) → IsText D main result last
    → last.counted ≤ most_counted → ⊥
none_stops one reached.missing refusal e result last t w = let bad : unread (start 0) ≡ no refusal = e in cc
none_stops {C} {D} {main} one (reached.unfit {refusal = other} u) refusal e result last t w =
    let rise : at_first.counted + length t.tokens ≤ last.counted = holds_rise D deepest_include (branch true) (entered at_first main t.tokens) t.tokens result.list last [] t.stands in
    none_unfit C D one at_first main other t.text t.tokens u t.file (omega (arith, rise, w))
none_stops {C} {D} {main} one (reached.deeper {text = text} {tokens = tokens} f q) refusal e result last t w =
    let same = one_file C D one 0 main text t.text tokens t.tokens f t.file in
    none_stop one q refusal e result.list last (subst (λ i. Holds D deepest_include (branch true) (entered at_first main i) i result.list last []) (sym same.1) t.stands) w
