-- Why a design is refused, and what it is.
use Rattle.std.proofs.Common.{◌≡◌, Option, Ok, Err, refl, sym, subst, inl, inr}
use Rattle.std.specs.List.{Contains}
use Rattle.flat_net.specs.declared.flat.Flat.{Flat}
use Rattle.sv_elab.specs.Elaborated.{IsElaborated, sound_design}
use Rattle.sv_loops.specs.Answers.{Answers}
use Rattle.sv_meaning.specs.Designs.{Design}
use Rattle.sv_meaning.specs.Faults.{Faults, Judged}
use Rattle.sv_outside.specs.Text.{TokenList}
use Rattle.sv_outside.specs.declared.refusal.Refusal.{Refusal}
use Rattle.sv_outside.specs.declared.refusal.TextErr.{TextErr}
use Rattle.sv_outside.specs.declared.refusal.TextErr.TheVariants as e
use Rattle.sv_parser.specs.Answers.{IsSpelled}
use Rattle.sv_parser.specs.Whole.{IsParsed}
use Rattle.sv_preproc.specs.Directives.{IsWholeText}
use Rattle.sv_preproc.specs.Laws.{Possible}
use Rattle.sv_tree.specs.declared.design.Source.{Source}
use Rattle.svtv_files.specs.Files.{Text, Told, IsDesignFile}
use Rattle.svtv_files.specs.Refusals.{RefusesDesign, UnreadDesign}
use Rattle.svtv_files.specs.Stopping.{Stops, StopsText, IsInOneOf, IsInFile}
use Rattle.svtv_files.proofs.Filed.{unparsed_lies, faulty_lies}
use Rattle.svtv_files.specs.declared.stop.Stop.{Stop}
use Rattle.svtv_files.specs.declared.stop.Stop.TheVariants.{Refused, Unread, Memory}

pub text_stops : (told : Told) (name : Text) (top : Option Text) (stop : Stop) → StopsText told name stop → Stops (RefusesDesign told name top) (UnreadDesign told name) stop
text_stops told name top (Refused file r) h = inl h
text_stops told name top (Unread file place) h = h
text_stops told name top Memory h = tt

pub parse_stops : (told : Told) (name : Text) (top : Option Text) (tokens : TokenList) (error : TextErr) (stop : Stop) → IsWholeText (Possible told) name tokens
    → IsParsed tokens.list tokens.end (Err error) → IsInFile tokens error stop → Stops (RefusesDesign told name top) (UnreadDesign told name) stop
parse_stops told name top tokens (e.No r) (Refused file own) text p h =
    subst (λ (x : Refusal). RefusesDesign told name top file x) (sym h.0) (inr (inl (record { tokens = tokens; text = text; why = p; place = h.1 })))
parse_stops told name top tokens (e.No r) (Unread file place) text p h = absurd h
parse_stops told name top tokens (e.No r) Memory text p h = tt
parse_stops told name top tokens e.Memory (Refused file own) text p h = absurd h
parse_stops told name top tokens e.Memory (Unread file place) text p h = absurd h
parse_stops told name top tokens e.Memory Memory text p h = tt

judged_ok : (j : Judged Design) (flat : Flat) → Answers (λ d f. IsElaborated d f) j (Ok flat) → (d : Design) × (j ≡ Ok d) × IsElaborated d flat
judged_ok (Ok d) flat h = (d, refl, h)
judged_ok (Err all) flat h = absurd h

judged_no : (j : Judged Design) (r : Refusal) → Answers {B = Flat} (λ d f. IsElaborated d f) j (Err (e.No r)) → (all : Faults) × (j ≡ Err all) × Contains all r
judged_no (Ok d) r h = absurd h
judged_no (Err all) r h = (all, refl, h)

-- what is refused stands in one of the files
pub parse_lies : (told : Told) (name : Text) (tokens : TokenList) (error : TextErr) → IsWholeText (Possible told) name tokens → IsParsed tokens.list tokens.end (Err error) → IsInOneOf tokens error
parse_lies told name tokens (e.No r) text p = unparsed_lies told name tokens r text p
parse_lies told name tokens e.Memory text p = tt

pub elaborate_lies : (told : Told) (name : Text) (top : Option Text) (tokens : TokenList) (tree : Source) (error : TextErr) → IsWholeText (Possible told) name tokens
    → IsSpelled tree tokens.list → Answers {B = Flat} (λ d f. IsElaborated d f) (sound_design tree top) (Err error) → IsInOneOf tokens error
elaborate_lies told name top tokens tree (e.No r) text s a = let j = judged_no (sound_design tree top) r a in faulty_lies told name tokens tree top j.0 r text s j.1 j.2
elaborate_lies told name top tokens tree e.Memory text s a = tt

pub elaborate_stops : (told : Told) (name : Text) (top : Option Text) (tokens : TokenList) (tree : Source) (error : TextErr) (stop : Stop) → IsWholeText (Possible told) name tokens
    → IsSpelled tree tokens.list → Answers {B = Flat} (λ d f. IsElaborated d f) (sound_design tree top) (Err error) → IsInFile tokens error stop → Stops (RefusesDesign told name top) (UnreadDesign told name) stop
elaborate_stops told name top tokens tree (e.No r) (Refused file own) text s a h =
    let j = judged_no (sound_design tree top) r a in
    subst (λ (x : Refusal). RefusesDesign told name top file x) (sym h.0)
    (inr (inr (record { tokens = tokens; text = text; tree = tree; spelled = s; faults = j.0; means = j.1; stands = j.2; place = h.1 })))
elaborate_stops told name top tokens tree (e.No r) (Unread file place) text s a h = absurd h
elaborate_stops told name top tokens tree (e.No r) Memory text s a h = tt
elaborate_stops told name top tokens tree e.Memory (Refused file own) text s a h = absurd h
elaborate_stops told name top tokens tree e.Memory (Unread file place) text s a h = absurd h
elaborate_stops told name top tokens tree e.Memory Memory text s a h = tt

-- the design of a source that is taken
pub is_design : (told : Told) (name : Text) (top : Option Text) (tokens : TokenList) (tree : Source) (flat : Flat) → IsWholeText (Possible told) name tokens → IsSpelled tree tokens.list
    → Answers (λ d f. IsElaborated d f) (sound_design tree top) (Ok flat) → (design : Design) × IsDesignFile told name top design × IsElaborated design flat
is_design told name top tokens tree flat text s a =
    let j = judged_ok (sound_design tree top) flat a in
    (j.0, record { tokens = tokens; text = text; tree = tree; spelled = s; means = j.1 }, j.2)
