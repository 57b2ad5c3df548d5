-- A text is cut in one way.
use Rattle.std.proofs.Common.{◌≡◌, ℕ, ◌+◌, ◌<◌, ◌≤◌, List, [], ◌∷◌, ◌++◌, length, take, drop, map, Bool, true, false, refl, sym, ◌∙◌, ap, subst, arith, length-append, length-drop, length-take, if◌then◌else◌}
use Rattle.std.specs.Prelude.{◌==◌}
use Rattle.std.proofs.lemmas.List.{append-nil, length-map, take-append-drop}
use Rattle.sv_outside.specs.declared.text.Kind.{Kind}
use Rattle.sv_outside.specs.declared.text.Token.{Token}
use Rattle.sv_token.specs.declared.lexer.Lined.{Lined}
use Rattle.sv_outside.specs.declared.refusal.Place.{Place}
use Rattle.sv_outside.specs.declared.refusal.Refusal.{Refusal}
use Rattle.sv_token.specs.declared.front.Front.TheVariants.{Nothing, Gap, Piece}
use Rattle.sv_token.specs.Forms.{may_stand}
use Rattle.sv_token.specs.Cut.{Spot, outset, start, past, past_byte, past_gap, past_token, lined, front, Cuts, here, gap, token, LexesLines, Lexes, IsWithin, IsRefused, long, bad_byte, bad_token, many, refused, reason, most_bytes, most_tokens}

abbrev moved : Bool → Place → Place
moved v p = if v then record { file = p.file; line = p.line + 1; column = 1 } else record { file = p.file; line = p.line; column = p.column + 1 }

byte_line : (v : Bool) (p : Place) → (moved v p).line ≤ p.line + 1
byte_line true p = omega arith
byte_line false p = omega arith

byte_column : (v : Bool) (p : Place) → (moved v p).column ≤ p.column + 1
byte_column true p = omega arith
byte_column false p = omega arith

pub past_line : (p : Place) (bs : List ℕ) → (past p bs).line ≤ p.line + length bs
unfolding past
past_line p [] = omega arith
past_line p (b ∷ bs) = omega (arith, past_line (past_byte p b) bs, byte_line (b == 10) p)

pub past_column : (p : Place) (bs : List ℕ) → (past p bs).column ≤ p.column + length bs
unfolding past
past_column p [] = omega arith
past_column p (b ∷ bs) = omega (arith, past_column (past_byte p b) bs, byte_column (b == 10) p)

front_empty : front [] ≡ Nothing
unfolding front
front_empty = refl

-- one more gap, one more token
pub one_gap : {p q : Spot} {text rest : List ℕ} {tokens : List Lined} (n : ℕ) → Cuts p text tokens q rest → front rest ≡ Gap n → Cuts p text tokens (past_gap q n rest) (drop n rest)
one_gap n here e = gap n e here
one_gap n (gap m f c) e = gap m f (one_gap n c e)
one_gap n (token k m f c) e = token k m f (one_gap n c e)

pub one_token : {p q : Spot} {text rest : List ℕ} {tokens : List Lined} (k : Kind) (n : ℕ) → Cuts p text tokens q rest → front rest ≡ Piece k n
    → Cuts p text (tokens ++ lined k n rest q ∷ []) (past_token q n rest) (drop n rest)
one_token k n here e = token k n e here
one_token k n (gap m f c) e = gap m f (one_token k n c e)
one_token k n (token j m f c) e = token j m f (one_token k n c e)

same_gap : (m n : ℕ) (text : List ℕ) → front text ≡ Gap m → front text ≡ Gap n → m ≡ n
same_gap m n text e f = let h : Gap m ≡ Gap n = sym e ∙ f in cc

same_piece : (j k : Kind) (m n : ℕ) (text : List ℕ) → front text ≡ Piece j m → front text ≡ Piece k n → (j ≡ k) × (m ≡ n)
same_piece j k m n text e f = let h : Piece j m ≡ Piece k n = sym e ∙ f in (cc, cc)

apart : (m n : ℕ) (k : Kind) (text : List ℕ) → front text ≡ Gap m → front text ≡ Piece k n → ⊥
apart m n k text e f = let h : Gap m ≡ Piece k n = sym e ∙ f in cc

same_head : (j k : Kind) (m n : ℕ) (text : List ℕ) (p : Spot) (us vs : List Lined) → j ≡ k → m ≡ n → us ≡ vs → lined j m text p ∷ us ≡ lined k n text p ∷ vs
same_head j k m n text p us vs e f h = rw (e, f, h) refl

-- whoever cuts the whole text passes each spot that is reached
pub through : {p q r : Spot} {text rest : List ℕ} {tokens others : List Lined} → Cuts p text tokens q rest → Cuts p text others r []
    → (more : List Lined) × (others ≡ tokens ++ more) × Cuts q rest more r []
through {others = others} here d = (others, refl, d)
through (gap n e c) here = let h : Gap n ≡ Nothing = sym e ∙ front_empty in absurd (cc)
through {p = p} {r = r} {text = text} {others = others} (gap n e c) (gap m f d) =
    let same = same_gap m n text f e in
    through c (subst (λ k. Cuts (past_gap p k text) (drop k text) others r []) same d)
through {text = text} (gap n e c) (token k m f d) = absurd (apart n m k text e f)
through (token k n e c) here = let h : Piece k n ≡ Nothing = sym e ∙ front_empty in absurd (cc)
through {text = text} (token k n e c) (gap m f d) = absurd (apart m n k text f e)
through {p = p} {r = r} {text = text} (token k n e c) (token {tokens = us} j m f d) =
    let same = same_piece j k m n text f e in
    let deeper = through c (subst (λ i. Cuts (past_token p i text) (drop i text) us r []) same.1 d) in
    (deeper.0, same_head j k m n text p us _ same.0 same.1 deeper.1, deeper.2)

stays : {q r : Spot} {rest : List ℕ} {more : List Lined} → front rest ≡ Nothing → Cuts q rest more r [] → (rest ≡ []) × (more ≡ [])
stays e here = (refl, refl)
stays e (gap n f c) = let h : Gap n ≡ Nothing = sym f ∙ e in absurd (cc)
stays e (token k n f c) = let h : Piece k n ≡ Nothing = sym f ∙ e in absurd (cc)

takes_one : {q r : Spot} {rest : List ℕ} {more : List Lined} (k : Kind) (n : ℕ) → front rest ≡ Piece k n → Cuts q rest more r [] → 0 < length more
takes_one k n e here = let h : Piece k n ≡ Nothing = sym e ∙ front_empty in absurd (cc)
takes_one {rest = rest} k n e (gap m f c) = absurd (apart m n k rest f e)
takes_one k n e (token j m f c) = omega arith

past-append : (p : Place) (a b : List ℕ) → past p (a ++ b) ≡ past (past p a) b
unfolding past
past-append p [] b = refl
past-append p (x ∷ a) b = past-append (past_byte p x) a b

past_rest : (p : Place) (n : ℕ) (text : List ℕ) → past (past p (take n text)) (drop n text) ≡ past p text
past_rest p n text = sym (past-append p (take n text) (drop n text)) ∙ ap (past p) (take-append-drop n text)

past_none : (p : Place) → past p [] ≡ p
unfolding past
past_none p = refl

-- the end of a cutting is the end of the text
pub ends : {p q : Spot} {text : List ℕ} {tokens : List Lined} → Cuts p text tokens q [] → q.place ≡ past p.place text
ends {p = p} here = sym (past_none p.place)
ends {p = p} {text = text} (gap n e c) = ends c ∙ past_rest p.place n text
ends {p = p} {text = text} (token k n e c) = ends c ∙ past_rest p.place n text

same_spot : (q : Spot) (place : Place) → q.place ≡ place → q ≡ record { place = place; line = q.line }
same_spot q place e = let P : Place → Type 0 = λ i. q ≡ record { place = i; line = q.line } in subst P e refl

-- a cutting to the end is one of the whole text
pub whole : {file : ℕ} {text : List ℕ} {tokens : List Lined} {spot : Spot} → Cuts (outset file) text tokens spot [] → LexesLines file text tokens
whole {file = file} {text = text} {tokens = tokens} {spot = spot} c = (spot.line, subst (λ p. Cuts (outset file) text tokens p []) (same_spot spot (past (start file) text) (ends c)) c)

-- what a stuck spot says of all tokens
pub none_stuck : {file b : ℕ} {text rest : List ℕ} {tokens others : List Lined} {spot : Spot} → Cuts (outset file) text tokens spot (b ∷ rest) → front (b ∷ rest) ≡ Nothing
    → LexesLines file text others → ⊥
none_stuck c e l = let h = (stays e (through c l.1).2).0 in cc

pub none_many : {file n : ℕ} {k : Kind} {text rest : List ℕ} {tokens others : List Lined} {spot : Spot} → Cuts (outset file) text tokens spot rest → front rest ≡ Piece k n
    → length tokens ≡ most_tokens → LexesLines file text others → IsWithin text others → ⊥
none_many {n = n} {k = k} {tokens = tokens} c e m l w =
    let t = through c l.1 in
    let more = takes_one k n e t.2 in
    let all : length tokens + length t.0 ≤ most_tokens = rw (t.1, length-append) at w.1 in
    omega (arith, all, more, m)

-- what is within the limits and cut is not refused
pub none_refused : {file : ℕ} {text : List ℕ} {tokens : List Lined} {r : Refusal} → LexesLines file text tokens → IsWithin text tokens → IsRefused file text r → ⊥
none_refused l w (long h) = absurd (omega (arith, h, w.0))
none_refused l w (bad_byte c e m) = none_stuck c e l
none_refused l w (bad_token c e m) = none_stuck c e l
none_refused l w (many c e m) = none_many c e m l w

pub is_long : (file : ℕ) (text : List ℕ) → most_bytes < length text → IsRefused file text (refused 4 (start file))
is_long file text h = long h

pub is_stuck : {file b : ℕ} {text rest : List ℕ} {tokens : List Lined} {spot : Spot} → Cuts (outset file) text tokens spot (b ∷ rest) → front (b ∷ rest) ≡ Nothing
    → IsRefused file text (refused (reason b) spot.place)
is_stuck {file} {b} {text} {rest} {tokens} {spot} c e = by (may_stand b) refl
  where
    by : (v : Bool) → may_stand b ≡ v → IsRefused file text (refused (if v then 2 else 1) spot.place)
    by true h = bad_token c e h
    by false h = bad_byte c e h

pub is_many : {file n : ℕ} {k : Kind} {text rest : List ℕ} {tokens : List Lined} {spot : Spot} → Cuts (outset file) text tokens spot rest → front rest ≡ Piece k n
    → length tokens ≡ most_tokens → IsRefused file text (refused 4 spot.place)
is_many c e m = many c e m

pub is_stuck_at : {file b number : ℕ} {text rest after : List ℕ} {tokens : List Lined} {spot : Spot} → Cuts (outset file) text tokens spot rest → rest ≡ b ∷ after
    → front rest ≡ Nothing → number ≡ reason b → IsRefused file text (refused number spot.place)
is_stuck_at {file} {b} {number} {text} {rest} {after} {tokens} {spot} c e f n =
    rw n (is_stuck (subst (λ r. Cuts (outset file) text tokens spot r) e c) (subst (λ r. front r ≡ Nothing) e f))

pub none_stuck_at : {file b : ℕ} {text rest after : List ℕ} {tokens others : List Lined} {spot : Spot} → Cuts (outset file) text tokens spot rest → rest ≡ b ∷ after
    → front rest ≡ Nothing → LexesLines file text others → ⊥
none_stuck_at {file} {b} {text} {rest} {after} {tokens} {others} {spot} c e f l =
    none_stuck (subst (λ r. Cuts (outset file) text tokens spot r) e c) (subst (λ r. front r ≡ Nothing) e f) l

pub place_line_kept : (p : Place) (rest : List ℕ) (n m : ℕ) → n ≤ length rest → p.line + length rest ≤ m → (past p (take n rest)).line + length (drop n rest) ≤ m
place_line_kept p rest n m w h = omega (arith, past_line p (take n rest), length-take n rest, length-drop n rest, w, h)

pub column_kept : (p : Place) (rest : List ℕ) (n m : ℕ) → n ≤ length rest → p.column + length rest ≤ m → (past p (take n rest)).column + length (drop n rest) ≤ m
column_kept p rest n m w h = omega (arith, past_column p (take n rest), length-take n rest, length-drop n rest, w, h)

at_most_next : (v : Bool) (line : ℕ) → (if v then line + 1 else line) ≤ line + 1
at_most_next true line = omega arith
at_most_next false line = omega arith

pub line_kept : (v : Bool) (line : ℕ) (rest : List ℕ) (n m : ℕ) → 0 < n → n ≤ length rest → line + length rest ≤ m → (if v then line + 1 else line) + length (drop n rest) ≤ m
line_kept v line rest n m p w h = omega (arith, at_most_next v line, length-drop n rest, p, w, h)

pub shorter : (line : ℕ) (rest : List ℕ) (n m : ℕ) → line + length rest ≤ m → line + length (drop n rest) ≤ m
shorter line rest n m h = omega (arith, length-drop n rest, h)

ended : {q r : Spot} {more : List Lined} → Cuts q [] more r [] → (more ≡ []) × (q ≡ r)
ended here = (refl, refl)
ended (gap n f c) = let h : Gap n ≡ Nothing = sym f ∙ front_empty in absurd (cc)
ended (token k n f c) = let h : Piece k n ≡ Nothing = sym f ∙ front_empty in absurd (cc)

-- one list of tokens
pub one_cut : {p q r : Spot} {text : List ℕ} {a b : List Lined} → Cuts p text a q [] → Cuts p text b r [] → a ≡ b
one_cut {a = a} c d = let t = through c d in sym (t.1 ∙ ap (λ m. a ++ m) (ended t.2).0 ∙ append-nil a)

pub one_way : {file : ℕ} {text : List ℕ} {a b : List Lined} → LexesLines file text a → LexesLines file text b → a ≡ b
one_way c d = one_cut c.1 d.1

pub one_list_of : {file : ℕ} {text : List ℕ} {a b : List Token} → Lexes file text a → Lexes file text b → a ≡ b
one_list_of c d = c.2 ∙ ap (λ lines. map (λ l. l.token) lines) (one_way c.1 d.1) ∙ sym d.2

-- as many tokens as lines
pub stripped_within : (text : List ℕ) (lines : List Lined) (tokens : List Token) → tokens ≡ map (λ l. l.token) lines → IsWithin text lines → IsWithin text tokens
stripped_within text lines tokens e w = (w.0, rw (e, length-map) w.1)

pub lines_within : (text : List ℕ) (lines : List Lined) (tokens : List Token) → tokens ≡ map (λ l. l.token) lines → IsWithin text tokens → IsWithin text lines
lines_within text lines tokens e w = (w.0, rw (e, length-map) at w.1)
