-- What is said of a call that prints nothing (this project's rules).
use Rattle.std.specs.Prelude.{ℕ, ◌==◌, ◌||◌, List, [], ◌∷◌, ◌++◌, slice_index_or, codes, decimal, if◌then◌else◌}
use Rattle.sv_outside.specs.declared.refusal.Refusal.{Refusal}
use Rattle.sv_outside.specs.declared.refusal.Place.{Place}
use Rattle.svtv_report.specs.Texts.{Text, line_feed}

-- the words of the refusals, from number 1 on; 40 never comes
abbrev pub words : List Text
words =
    codes "BadByte" ∷ codes "BadToken" ∷ codes "IncludeDeep" ∷ codes "TooLong" ∷ codes "Unbalanced" ∷ codes "MacroUnknown" ∷ codes "MacroDeep" ∷ codes "Syntax" ∷ codes "TooDeep" ∷ codes "TopUnclear"
    ∷ codes "UnknownModule" ∷ codes "UnknownName" ∷ codes "Twice" ∷ codes "Width" ∷ codes "ConstUnknown" ∷ codes "LiteralRange" ∷ codes "PortUnknown" ∷ codes "PortTwice" ∷ codes "BadTarget" ∷ codes "LoopLong"
    ∷ codes "InstanceDeep" ∷ codes "TooManyBits" ∷ codes "BadSelect" ∷ codes "WrongAssign" ∷ codes "OutOfScope" ∷ codes "Shape" ∷ codes "Phases" ∷ codes "CellBad" ∷ codes "SignalUnknown" ∷ codes "SignalTwice"
    ∷ codes "VarWidth" ∷ codes "SampleTwice" ∷ codes "GoalSyntax" ∷ codes "GoalTwice" ∷ codes "VarMissing" ∷ codes "VarUnknown" ∷ codes "VarTwice" ∷ codes "ValueBad" ∷ codes "LoopTooWide" ∷ codes "Unbuilt"
    ∷ codes "GoalUnknown" ∷ codes "CertSyntax" ∷ codes "CertId" ∷ codes "RatHint" ∷ codes "InvariantHyp" ∷ codes "SampleUnlike" ∷ codes "VcdSyntax" ∷ codes "VcdSignal" ∷ []

abbrev pub word_of : ℕ → Text
word_of number = slice_index_or ([] ∷ words) number []

abbrev pub colon : Text
colon = codes ":"

-- `NAME:LINE:COLUMN: `
abbrev pub place_text : Text → Place → Text
place_text name p = name ++ (colon ++ (decimal p.line ++ (colon ++ (decimal p.column ++ codes ": "))))

-- two refusals are told with a count
abbrev pub count_text : Refusal → Text
count_text r = if r.number == 10 || r.number == 39 then codes " " ++ decimal r.count else []

-- `NAME:LINE:COLUMN: E<number> <Word>`, with the count of those that have one
abbrev pub refusal_text : Text → Refusal → Text
refusal_text name r = place_text name r.place ++ (codes "E" ++ (decimal r.number ++ (codes " " ++ (word_of r.number ++ (count_text r ++ line_feed)))))

abbrev pub read_fault_text : Text → Place → Text
read_fault_text name p = place_text name p ++ (codes "read fault" ++ line_feed)

abbrev pub usage_text : Text
usage_text = codes "usage: svtv prove DESIGN TABLE GOALS [--top M] [--budget N]" ++ (line_feed ++ (codes "       svtv sim DESIGN TABLE VALUES [--top M] [--vcd]" ++ (line_feed ++ (codes "       svtv dump DESIGN [--top M]" ++ (line_feed ++ (codes "       svtv selftest N" ++ (line_feed ++ (codes "       svtv cert DESIGN TABLE GOALS GOAL [--top M] [--budget N]" ++ (line_feed ++ (codes "       svtv check CERT" ++ (line_feed ++ (codes "       svtv induct DESIGN RESET PERIOD INVS [--top M] [--budget N]" ++ (line_feed ++ (codes "       svtv wave VCD PATH" ++ line_feed))))))))))))))

abbrev pub memory_text : Text
memory_text = codes "svtv: out of memory" ++ line_feed
