-- What is printed for what a word asks for.
use Rattle.std.specs.Prelude.{◌≡◌, ℕ, ◌/◌, ◌%◌, if◌then◌else◌, List, [], ◌∷◌, ◌++◌, codes, flat_map}
use Rattle.std.specs.Fmt.{decimal}
use Rattle.line_streams.specs.Cuts.{lines_of}
use Rattle.lsr_explain.specs.Nearest.{IsRanking}
use Rattle.lsr_explain.specs.Topics.{is_indented, text_of}
use Rattle.lsr_explain.specs.declared.nearest.Near.{Near}
use Rattle.lsr_explain.specs.declared.topics.Kind.{Kind}
use Rattle.lsr_explain.specs.declared.topics.Kind.TheVariants as kinds
use Rattle.lsr_explain.specs.declared.topics.Topic.{Topic}
use Rattle.lsr_explain.specs.declared.explaining.Answer.{Answer}
use Rattle.lsr_explain.specs.declared.explaining.Answer.TheVariants as answers

-- the word that a router or the program tells such a topic with
abbrev pub told_word : Kind → List ℕ
told_word kinds.Refusal = codes "refused "
told_word kinds.RsvpError = codes "error "
told_word kinds.ConfigFault = codes "config "
told_word kinds.RunFault = codes "entry N: "
told_word kinds.Ending = []

-- the lines up to the first that doesn't begin with a space
unfoldable pub explained : List (List ℕ) → List ℕ
explained [] = []
explained (line ∷ lines) = if is_indented line then line ++ (codes "\n" ++ explained lines) else []

-- the heading of a topic after the word that it is told with, and its explanation
abbrev pub topic_text : Topic → List ℕ
topic_text topic = (told_word topic.kind ++ (topic.heading.now ++ codes "\n")) ++ explained (lines_of topic.behind.now)

-- which object an error's value tells: its class and its C-Type (RFC 2205, B)
abbrev pub object_line : ℕ → List ℕ
object_line value =
    codes "  Here N is " ++ (decimal value ++ (codes ": class " ++ (decimal (value / 256) ++ (codes ", C-Type " ++ (decimal (value % 256) ++ codes ".\n")))))

-- a line that is a heading, after two spaces; of others nothing
abbrev pub heading_line : List ℕ → List ℕ
heading_line line = if is_indented line then [] else codes "  " ++ (line ++ codes "\n")

-- the headings
abbrev pub headings_text : List (List ℕ) → List ℕ
headings_text lines = flat_map heading_line lines

-- the headings of the topics of a kind, with a line over them
abbrev pub section_text : List ℕ → Kind → List ℕ
section_text title kind = title ++ headings_text (lines_of (text_of kind))

-- what can be asked of a run's answers
abbrev pub answers_text : List ℕ
answers_text =
    section_text (codes "Refusals (refused N NAME), by number or name:\n") kinds.Refusal
    ++ section_text (codes "Errors of RSVP (error CODE VALUE), by CODE/VALUE or name; N stands for any value:\n") kinds.RsvpError

-- what can be asked of the error stream
abbrev pub faults_text : List ℕ
faults_text =
    section_text (codes "Faults of a configuration (config FAULT KEY), by FAULT:\n") kinds.ConfigFault
    ++ (section_text (codes "Faults of a recorded run (entry N: FAULT), by FAULT:\n") kinds.RunFault
    ++ section_text (codes "What else ends a run, by its first word:\n") kinds.Ending)

-- all that can be asked
abbrev pub topics_text : List ℕ
topics_text = answers_text ++ faults_text

-- a heading after the word that it is told with
abbrev pub near_text : Near → List ℕ
near_text near = codes "  " ++ (told_word near.kind ++ (near.heading.now ++ codes "\n"))

-- the first three headings
abbrev pub nearest_text : List Near → List ℕ
nearest_text (first ∷ second ∷ third ∷ others) = near_text first ++ (near_text second ++ near_text third)
nearest_text few = []

-- what is told of a word that asks for nothing: the three headings that come closest to it
abbrev pub unknown_text : List Near → List ℕ
unknown_text ranked =
    codes "error: no refusal, error or fault has this number or name\n" ++ (nearest_text ranked ++ codes "  these come closest to it; `lsr explain list` has all\n")

-- what is printed on the output
abbrev pub shown_text : Answer → List ℕ
shown_text (answers.Topic topic) = topic_text topic
shown_text (answers.Object topic value) = topic_text topic ++ object_line value
shown_text answers.List = topics_text
shown_text answers.Unknown = []

-- what is told on the error stream of a word and its answer
abbrev pub IsTold : List ℕ → Answer → List ℕ → Type 0
IsTold word (answers.Topic topic) told = told ≡ []
IsTold word (answers.Object topic value) told = told ≡ []
IsTold word answers.List told = told ≡ []
IsTold word answers.Unknown told = (ranked : List Near) × IsRanking word ranked × (told ≡ unknown_text ranked)

-- the status: 2 where the word asks for nothing
abbrev pub answer_status : Answer → ℕ
answer_status (answers.Topic topic) = 0
answer_status (answers.Object topic value) = 0
answer_status answers.List = 0
answer_status answers.Unknown = 2
