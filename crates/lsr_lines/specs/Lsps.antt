-- What the words of an LSP's key say, and which line asks about an LSP.
use Rattle.std.specs.Prelude.{◌==◌, ℕ, Bool, List, [], ◌∷◌, codes, Option, Some, None}
use Rattle.std.specs.List.{slice_split}
use Rattle.std.specs.Net.Grammar.{IsIpv4Text}
use Rattle.lsr_lines.specs.Commands.{BeginsWith, SaysNumber, words_of}
use Rattle.lsr_lines.specs.Numbers.{NamesUpTo}
use Rattle.lsr_lines.specs.declared.lsps.LspName.{LspName}
use Rattle.lsr_lines.specs.declared.lsps.SenderName.{SenderName}
use Rattle.lsr_lines.specs.declared.lsps.SessionName.{SessionName}
use denote.Ref.{Bor}

-- a slash
abbrev pub is_slash : ℕ → Bool
is_slash byte = byte == 47

-- The parts of a word: one slash parts each two of them.
abbrev pub parts_of : List ℕ → List (List ℕ)
parts_of word = slice_split is_slash word

-- the parts of what is left of a word, if anything is
abbrev pub parts_left : Option (Bor (List ℕ)) → List (List ℕ)
parts_left None = []
parts_left (Some word) = parts_of word.now

-- `ENDPOINT/TUNNEL/EXTENDED`
abbrev pub SaysSession : List (List ℕ) → SessionName → Type 0
SaysSession (endpoint ∷ tunnel ∷ extended ∷ []) s =
    IsIpv4Text endpoint s.endpoint × NamesUpTo 65535 tunnel s.tunnel × IsIpv4Text extended s.extended
SaysSession parts s = ⊥

-- `SENDER/LSP`
abbrev pub SaysSender : List (List ℕ) → SenderName → Type 0
SaysSender (sender ∷ lsp ∷ []) s = IsIpv4Text sender s.sender × NamesUpTo 65535 lsp s.lsp
SaysSender parts s = ⊥

-- `ENDPOINT/TUNNEL/EXTENDED SENDER/LSP`, as `show paths` prints the key of an LSP
abbrev pub SaysLsp : List (List ℕ) → LspName → Type 0
SaysLsp (session ∷ sender ∷ []) lsp = SaysSession (parts_of session) lsp.session × SaysSender (parts_of sender) lsp.sender
SaysLsp words lsp = ⊥

-- `show WORD KEY`
abbrev pub AsksAbout : List ℕ → List ℕ → LspName → Type 0
AsksAbout word line lsp = BeginsWith (codes "show") (BeginsWith word (λ words. SaysLsp words lsp)) (words_of line)

-- `show lsp N`
abbrev pub AsksOfTunnel : List ℕ → ℕ → Type 0
AsksOfTunnel line number = BeginsWith (codes "show") (BeginsWith (codes "lsp") (λ words. SaysNumber words number)) (words_of line)
