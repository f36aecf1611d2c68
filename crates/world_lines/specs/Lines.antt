-- What a line of a world's file says, word by word.
use Rattle.std.specs.Prelude.{◌≡◌, ◌≤◌, ◌==◌, ℕ, false, List, [], ◌∷◌, codes, length}
use Rattle.std.specs.List.{list_any}
use Rattle.abstract_paths.specs.declared.commands.Command.{Command}
use Rattle.lsr_lines.specs.Commands.{BeginsWith, SaysCommand, words_of}
use Rattle.lsr_lines.specs.Numbers.{NamesLink, NamesWhole}
use Rattle.world_lines.specs.declared.lines.Act.{Act}
use Rattle.world_lines.specs.declared.lines.Act.TheVariants as acts
use Rattle.world_lines.specs.declared.lines.Wire.{Wire}
use Rattle.world_lines.specs.declared.lines.WorldLine.{WorldLine}
use Rattle.world_lines.specs.declared.lines.WorldLine.TheVariants as lines

-- the word is this name, which isn't empty
abbrev pub IsNamed : List ℕ → List ℕ → Type 0
IsNamed word name = (word ≡ name) × (1 ≤ length name)

-- `NAME FILE`
abbrev pub SaysFile : List (List ℕ) → List ℕ → List ℕ → Type 0
SaysFile (first ∷ second ∷ []) name file = IsNamed first name × IsNamed second file
SaysFile words name file = ⊥

-- `NAME LINK NAME LINK`
abbrev pub SaysWire : List (List ℕ) → Wire → Type 0
SaysWire (name ∷ link ∷ other ∷ other_link ∷ []) w =
    IsNamed name w.name.now × NamesLink link w.link × IsNamed other w.other.now × NamesLink other_link w.other_link
SaysWire words w = ⊥

-- `N`, a number of 64 bits
abbrev pub SaysNumber : List (List ℕ) → ℕ → Type 0
SaysNumber (digits ∷ []) number = NamesWhole digits number
SaysNumber words number = ⊥

-- `LINK`
abbrev pub SaysLink : List (List ℕ) → ℕ → Type 0
SaysLink (digits ∷ []) link = NamesLink digits link
SaysLink words link = ⊥

-- What is to happen at a router, by a line's first word and those after the router's name.
abbrev pub SaysAct : List ℕ → List (List ℕ) → Act → Type 0
SaysAct word others (acts.Tick moment) = (word ≡ codes "tick") × SaysNumber others moment
SaysAct word others (acts.LinkUp link) = (word ≡ codes "up") × SaysLink others link
SaysAct word others (acts.LinkDown link) = (word ≡ codes "down") × SaysLink others link
SaysAct word others acts.Restart = (word ≡ codes "restart") × (others ≡ [])
SaysAct word others (acts.Command command) = (word ≡ codes "do") × SaysCommand others command

-- `WORD NAME ..`: what is to happen at the router of this name
abbrev pub SaysAt : List (List ℕ) → List ℕ → Act → Type 0
SaysAt (word ∷ second ∷ others) name act = IsNamed second name × SaysAct word others act
SaysAt words name act = ⊥

-- What words say: `router NAME FILE`, `wire NAME LINK NAME LINK`, `deliver I`, `repeat I`; or of one router `tick NAME N`, `up NAME
-- LINK`, `down NAME LINK`, `restart NAME` or `do NAME COMMAND`.
abbrev pub Says : List (List ℕ) → WorldLine → Type 0
Says words (lines.Router name file) = BeginsWith (codes "router") (λ others. SaysFile others name.now file.now) words
Says words (lines.Wire wire) = BeginsWith (codes "wire") (λ others. SaysWire others wire) words
Says words (lines.Deliver number) = BeginsWith (codes "deliver") (λ others. SaysNumber others number) words
Says words (lines.Repeat number) = BeginsWith (codes "repeat") (λ others. SaysNumber others number) words
Says words (lines.At name act) = SaysAt words name.now act

-- What a line says. No carriage return is in it.
abbrev pub SaysLine : List ℕ → WorldLine → Type 0
SaysLine line said = (list_any (λ byte. byte == 13) line ≡ false) × Says (words_of line) said

-- words that command a router
abbrev pub BringsCommand : List ℕ → List (List ℕ) → Type 0
BringsCommand word others = (command : Command) × SaysAct word others (acts.Command command)

abbrev pub BringsLine : List (List ℕ) → Type 0
BringsLine words = (name : List ℕ) × (command : Command) × SaysAt words name (acts.Command command)

-- a line that commands a router
abbrev pub CommandsRouter : List ℕ → Type 0
CommandsRouter line = (list_any (λ byte. byte == 13) line ≡ false) × BringsLine (words_of line)
