-- Names of one place: what is seen where neither the stack of scopes nor the loops have changed.
use Rattle.std.proofs.Common.{◌≡◌, List, [], ◌++◌, sym, ap, ◌∙◌, append_assoc}
use Rattle.std.proofs.lemmas.List.{map-append}
use Rattle.sv_names.specs.declared.names.Names.{Names}
use Rattle.sv_names.specs.Kinds.{Entry, entries_are, entry_is}
use Rattle.sv_names.specs.Names.{names_are, constants_are, stack_of, frames_of, above_of, loops_of, entries_of, entries_above, fronts, fronts_above}
use Rattle.sv_names.proofs.Lookups.{no_frames, no_frames_above}
use Rattle.sv_meaning.specs.Layouts as m

-- where no scope is entered

pub nothing_seen : (a : Names) → stack_of a ≡ [] → frames_of a ≡ []
nothing_seen a h = ap fronts h ∙ no_frames

pub nothing_declared : (a : Names) → stack_of a ≡ [] → above_of a ≡ []
nothing_declared a h = ap fronts_above h ∙ no_frames_above

-- where nothing is entered or left

pub same_names : (a b : Names) → stack_of a ≡ stack_of b → loops_of a ≡ loops_of b → names_are a ≡ names_are b
same_names a b h g = λ i. record { all = entries_are (fronts (h i) ++ g i); above = entries_are (fronts_above (h i) ++ g i) }

pub same_constants : (a b : Names) → stack_of a ≡ stack_of b → loops_of a ≡ loops_of b → constants_are a ≡ constants_are b
same_constants a b h g = λ i. m.scope_of (entries_are (fronts_above (h i) ++ g i))

-- with more loops

behind_all : (a b : Names) (more : List Entry) → stack_of b ≡ stack_of a → loops_of b ≡ loops_of a ++ more → entries_are (entries_of b) ≡ entries_are (entries_of a) ++ entries_are more
behind_all a b more h g =
    ap entries_are ((λ i. fronts (h i) ++ g i) ∙ sym (append_assoc (fronts (stack_of a)) (loops_of a) more)) ∙ map-append entry_is (entries_of a) more

behind_above : (a b : Names) (more : List Entry) → stack_of b ≡ stack_of a → loops_of b ≡ loops_of a ++ more → entries_are (entries_above b) ≡ entries_are (entries_above a) ++ entries_are more
behind_above a b more h g =
    ap entries_are ((λ i. fronts_above (h i) ++ g i) ∙ sym (append_assoc (fronts_above (stack_of a)) (loops_of a) more)) ∙ map-append entry_is (entries_above a) more

pub more_names : (a b : Names) (more : List Entry) → stack_of b ≡ stack_of a → loops_of b ≡ loops_of a ++ more → names_are b ≡ m.with_names (names_are a) (entries_are more)
more_names a b more h g = λ i. record { all = behind_all a b more h g i; above = behind_above a b more h g i }

pub more_constants : (a b : Names) (more : List Entry) → stack_of b ≡ stack_of a → loops_of b ≡ loops_of a ++ more → constants_are b ≡ m.with_names (constants_are a) (entries_are more)
more_constants a b more h g = λ i. m.scope_of (behind_above a b more h g i)
