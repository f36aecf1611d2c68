-- What `show paths` prints.
use Rattle.std.specs.Prelude.{ℕ, List, ◌++◌, codes, flat_map, length}
use Rattle.std.specs.Fmt.{decimal}
use Rattle.std.specs.Net.Addr.{ipv4_octets}
use Rattle.std.specs.Net.Text.{ipv4_text}
use Rattle.lsr_facts.specs.declared.key.Key.{Key}
use Rattle.lsr_facts.specs.declared.path_fact.PathFact.{PathFact}
use Rattle.lsr_facts.specs.declared.path_fact.Role.{Role}
use Rattle.lsr_facts.specs.declared.path_fact.Role.TheVariants as roles

-- what the router is on a path's way
abbrev pub role_word : Role → List ℕ
role_word roles.Transit = codes "transit"
role_word roles.Tail = codes "tail"
role_word roles.Head = codes "head"

-- `ENDPOINT/TUNNEL/EXTENDED SENDER/LSP`, what tells one LSP from all others (RFC 3209, 4.6)
abbrev pub key_text : Key → List ℕ
key_text key =
    ipv4_text (ipv4_octets key.session.endpoint) ++ (codes "/" ++ (decimal key.session.tunnel ++ (codes "/"
    ++ (ipv4_text (ipv4_octets key.session.extended) ++ (codes " "
    ++ (ipv4_text (ipv4_octets key.sender.sender) ++ (codes "/" ++ decimal key.sender.lsp)))))))

-- `path KEY ROLE OUT ORIGINS`: the link that it leaves by, 0 for a tail, and how many origins it has
abbrev pub path_line : Key × PathFact → List ℕ
path_line row =
    codes "path " ++ (key_text row.0 ++ (codes " " ++ (role_word row.1.role ++ (codes " "
    ++ (decimal row.1.out_link ++ (codes " " ++ (decimal (length row.1.origins) ++ codes "\n")))))))

-- a line for each path, in their order
abbrev pub paths_text : List (Key × PathFact) → List ℕ
paths_text paths = flat_map path_line paths
