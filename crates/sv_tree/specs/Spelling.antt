-- What a tree is spelled by: relations between the tokens that stand from one place on and those that stand from a later one.
-- The grammar is that of IEEE 1800-2017, annex A, cut to what the tool reads; each file names the sections of its part.
use Rattle.std.specs.Prelude.{◌≡◌, ℕ, List, [], ◌∷◌, IsTrue, codes, Option, Some, None}
use Rattle.sv_outside.specs.Words.{is_id}
use Rattle.sv_outside.specs.declared.text.Kind.TheVariants as k
use Rattle.sv_outside.specs.declared.refusal.Place.{Place}
use Rattle.sv_tree.specs.declared.word.Word.{Word}
use Rattle.sv_outside.specs.declared.text.Token.{Token}

infixr 30 ◌⨟◌
abbrev pub Text : Type 0
Text = List ℕ

abbrev pub Spelled : Type 1
Spelled = List Token → List Token → Type 0

-- the first token is such, and the rest such
abbrev pub Begins : (Token → List Token → Type 0) → List Token → Type 0
Begins P [] = ⊥
Begins P (a ∷ t) = P a t

abbrev pub token : (Token → Type 0) → Spelled
token P from to = Begins (λ a t. P a × (t ≡ to)) from

abbrev pub nothing : Spelled
nothing from to = from ≡ to

abbrev pub never : Spelled
never from to = ⊥

-- what is spelled has a first token, which is at that place
abbrev pub first_at : Place → Spelled → Spelled
first_at p P from to = Begins (λ a t. a.place ≡ p) from × P from to

-- one after the other
abbrev pub ◌⨟◌ : Spelled → Spelled → Spelled
◌⨟◌ P Q from to = (t : List Token) × P from t × Q t to

-- under a condition
abbrev pub when : Type 0 → Spelled → Spelled
when C P from to = C × P from to

abbrev pub mark : Text → Spelled
mark text = token (λ a. (a.kind ≡ k.Mark) × (a.text ≡ text))

abbrev pub mark_at : Text → Place → Spelled
mark_at text p = token (λ a. (a.kind ≡ k.Mark) × (a.text ≡ text) × (a.place ≡ p))

abbrev pub key : Text → Spelled
key text = token (λ a. (a.kind ≡ k.Word) × (a.text ≡ text))

abbrev pub key_at : Text → Place → Spelled
key_at text p = token (λ a. (a.kind ≡ k.Word) × (a.text ≡ text) × (a.place ≡ p))

abbrev pub system_at : Text → Place → Spelled
system_at text p = token (λ a. (a.kind ≡ k.System) × (a.text ≡ text) × (a.place ≡ p))

abbrev pub literal : Word → Spelled
literal w = token (λ a. (a.kind ≡ k.Literal) × (a.text ≡ w.text) × (a.place ≡ w.place))

-- an identifier (A.9.3): a word that is not reserved
abbrev pub name : Word → Spelled
name w = token (λ a. (a.kind ≡ k.Word) × (a.text ≡ w.text) × (a.place ≡ w.place) × IsTrue (is_id w.text))

-- ---- lists

abbrev pub maybe : {A : Type 0} → (A → Spelled) → Option A → Spelled
maybe P None = nothing
maybe P (Some x) = P x

abbrev pub each : {A : Type 0} → (A → Spelled) → List A → Spelled
each P [] = nothing
each P (x ∷ more) = P x ⨟ each P more

-- each after a comma
abbrev pub after_commas : {A : Type 0} → (A → Spelled) → List A → Spelled
after_commas P [] = nothing
after_commas P (x ∷ more) = mark (codes ",") ⨟ P x ⨟ after_commas P more

-- at least one, and commas between them
abbrev pub commas : {A : Type 0} → (A → Spelled) → List A → Spelled
commas P [] = never
commas P (x ∷ more) = P x ⨟ after_commas P more

-- the label after an `end`, which repeats a name
abbrev pub label : Word → Option Word → Spelled
label n None = nothing
label n (Some w) = when (w.text ≡ n.text) (mark (codes ":") ⨟ name w)

abbrev pub label_of : Option Word → Option Word → Spelled
label_of (Some n) end = label n end
label_of None None = nothing
label_of None (Some w) = never
