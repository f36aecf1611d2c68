-- What `show summary` prints: how much there is of everything, and how much there may be.
use Rattle.std.specs.Prelude.{ℕ, Bool, true, false, ◌+◌, ◌-◌, ◌*◌, nat_le, List, ◌++◌, codes, length}
use Rattle.std.specs.Fmt.{decimal}
use Rattle.std.specs.List.{count_by}
use Rattle.lsr_facts.specs.declared.router.LabelRange.{LabelRange}
use Rattle.lsr_facts.specs.declared.router.Router.{Router}
use Rattle.lsr_facts.specs.declared.state.State.{State}

-- at least nine tenths of the limit
abbrev pub is_near : ℕ → ℕ → Bool
is_near count limit = nat_le (limit * 9) (count * 10)

-- the mark of what is near its limit
abbrev pub near_mark : Bool → List ℕ
near_mark true = codes " near"
near_mark false = codes ""

-- `COUNT of LIMIT`, with a mark where it is near that
unfoldable pub limit_words : ℕ → ℕ → List ℕ
limit_words count limit = decimal count ++ (codes " of " ++ (decimal limit ++ (near_mark (is_near count limit) ++ codes "\n")))

-- `NAME COUNT of LIMIT`
unfoldable pub limited_line : List ℕ → ℕ → ℕ → List ℕ
limited_line name count limit = name ++ (codes " " ++ limit_words count limit)

-- the link is up
abbrev pub has_up : ℕ × Bool → Bool
has_up link = link.1

-- `links COUNT up of COUNT`
unfoldable pub links_line : Router → State → List ℕ
links_line r s = codes "links " ++ (decimal (count_by has_up s.facts.up) ++ (codes " up of " ++ (decimal (length r.links) ++ codes "\n")))

-- the paths, reservations and repairs, at most 1,024 of each
unfoldable pub lsps_lines : State → List ℕ
lsps_lines s =
    limited_line (codes "paths") (length s.facts.paths) 1024
    ++ (limited_line (codes "resvs") (length s.resvs) 1024 ++ limited_line (codes "repairs") (length s.repairs) 1024)

-- the tunnels that begin here, the bypasses and the static routes
unfoldable pub tables_lines : State → List ℕ
tables_lines s =
    limited_line (codes "tunnels") (length s.facts.tunnels) 256
    ++ (limited_line (codes "bypasses") (length s.facts.bypasses) 64 ++ limited_line (codes "routes") (length s.facts.routes) 256)

-- how many labels the range has
abbrev pub label_room : LabelRange → ℕ
label_room labels = labels.last + 1 - labels.first

-- how many labels of the range are held, and how many rest
unfoldable pub labels_lines : Router → State → List ℕ
labels_lines r s =
    limited_line (codes "labels") (length s.labels) (label_room r.labels) ++ limited_line (codes "resting") (length s.resting) (label_room r.labels)

-- how much there is of everything but bandwidth
unfoldable pub counts_text : Router → State → List ℕ
counts_text r s = links_line r s ++ (lsps_lines s ++ (tables_lines s ++ labels_lines r s))

-- `link N reserved BYTES of LIMIT`, in bytes per second
abbrev pub reserved_line : ℕ → ℕ → ℕ → List ℕ
reserved_line number reserved limit = codes "link " ++ (decimal number ++ (codes " reserved " ++ limit_words reserved limit))

-- `bypass N assigned BYTES of CAPACITY`, in bytes per second
abbrev pub assigned_line : ℕ → ℕ → ℕ → List ℕ
assigned_line number assigned capacity = codes "bypass " ++ (decimal number ++ (codes " assigned " ++ limit_words assigned capacity))
