-- Which line asks for what.
use Rattle.std.specs.Prelude.{◌≡◌, ◌≤◌, ◌⊎◌, ℕ, length, List, ◌∷◌, ◌++◌, Ok, codes}
use Rattle.hex.specs.Hex.{decode_of}
use Rattle.lsr_lines.specs.Numbers.{NamesLink, NamesWhole}
use Rattle.lsr_lines.specs.Commands.{words_of, BringsTunnel, SaysCommand}
use Rattle.lsr_lines.specs.Lsps.{AsksAbout, AsksOfTunnel}
use Rattle.lsr_lines.specs.declared.lines.Request.{Request}
use Rattle.lsr_lines.specs.declared.lines.Request.TheVariants as requests
use Rattle.lsr_lines.specs.declared.shown.Shown.{Shown}
use Rattle.lsr_lines.specs.declared.shown.Shown.TheVariants as shows

-- A word with one space after it, then a link, then bytes in hexadecimal digits of either case, perhaps none; the
-- words are parted by one space.
pub record AsksToTake (word line : List ℕ) (link : ℕ) (bytes : List ℕ) : Type 0 where
  pub link_digits : List ℕ
  pub hex_digits : List ℕ
  pub parts : line ≡ word ++ (link_digits ++ (32 ∷ hex_digits))
  pub names : NamesLink link_digits link
  pub spelled : decode_of hex_digits ≡ Ok bytes

-- a line that brings a byte or more after the word
pub record BringsAfter (word line : List ℕ) : Type 0 where
  pub link : ℕ
  pub bytes : List ℕ
  pub asks : AsksToTake word line link bytes
  pub some : 1 ≤ length bytes

-- A line that brings bytes: `rx LINK HEX` with a message, or `frame LINK HEX` with a frame, that isn't empty.
abbrev pub BringsBytes : List ℕ → Type 0
BringsBytes line = BringsAfter (codes "rx ") line ⊎ BringsAfter (codes "frame ") line

-- A line that brings more than numbers: bytes, or a tunnel.
abbrev pub BringsMore : List ℕ → Type 0
BringsMore line = BringsBytes line ⊎ BringsTunnel line

-- A word with one space after it, and then a number alone; `Names` says which digits are which number.
pub record AsksOf (Names : List ℕ → ℕ → Type 0) (word line : List ℕ) (number : ℕ) : Type 0 where
  pub digits : List ℕ
  pub parts : line ≡ word ++ digits
  pub names : Names digits number

-- What a line asks to be shown: `show` with what is shown; `show path KEY`, `show resv KEY` or `show lsp KEY` with an LSP; or
-- `show lsp N` with the number of a tunnel.
abbrev pub AsksToSee : List ℕ → Shown → Type 0
AsksToSee line shows.Paths = line ≡ codes "show paths"
AsksToSee line shows.Resvs = line ≡ codes "show resvs"
AsksToSee line shows.Table = line ≡ codes "show table"
AsksToSee line shows.Labels = line ≡ codes "show labels"
AsksToSee line shows.Links = line ≡ codes "show links"
AsksToSee line shows.Tunnels = line ≡ codes "show tunnels"
AsksToSee line shows.Bypasses = line ≡ codes "show bypasses"
AsksToSee line shows.Summary = line ≡ codes "show summary"
AsksToSee line shows.Config = line ≡ codes "show config"
AsksToSee line shows.Lsps = line ≡ codes "show lsps"
AsksToSee line (shows.Path lsp) = AsksAbout (codes "path") line lsp
AsksToSee line (shows.Resv lsp) = AsksAbout (codes "resv") line lsp
AsksToSee line (shows.TunnelLsps number) = AsksOfTunnel line number
AsksToSee line (shows.Lsp lsp) = AsksAbout (codes "lsp") line lsp

-- What a line asks for: `rx LINK HEX`, `frame LINK HEX`, `tick N`, `up LINK`, `down LINK`, `restart`, `start`, a command
-- about a tunnel, a bypass or a static route, `show recent`, or `show` with what is shown of the router.
abbrev pub AsksFor : List ℕ → Request → Type 0
AsksFor line (requests.Receive arrival) = AsksToTake (codes "rx ") line arrival.link arrival.bytes.items
AsksFor line (requests.Frame arrival) = AsksToTake (codes "frame ") line arrival.link arrival.bytes.items
AsksFor line (requests.Tick moment) = AsksOf NamesWhole (codes "tick ") line moment
AsksFor line (requests.LinkUp link) = AsksOf NamesLink (codes "up ") line link
AsksFor line (requests.LinkDown link) = AsksOf NamesLink (codes "down ") line link
AsksFor line requests.Restart = line ≡ codes "restart"
AsksFor line requests.Start = line ≡ codes "start"
AsksFor line (requests.Command command) = SaysCommand (words_of line) command
AsksFor line requests.Recent = line ≡ codes "show recent"
AsksFor line (requests.Show shown) = AsksToSee line shown
