-- What is told of a router between two looks at its state.
use Rattle.std.specs.Prelude.{ℕ, Bool, false, List, [], ◌++◌, codes, flat_map, if◌then◌else◌}
use Rattle.std.specs.Bool.{beq}
use Rattle.std.specs.FinMap.Entries.{find}
use Rattle.std.specs.Fmt.{decimal}
use Rattle.std.specs.Option.{option_map_or}
use Rattle.std.specs.Ordering.{nat_cmp}
use Rattle.lsr_facts.specs.declared.router.Router.{Router}
use Rattle.lsr_facts.specs.declared.state.State.{State}
use Rattle.lsr_text.specs.Rows.{state_word}
use Rattle.lsr_watch.specs.Lsps.{came_lines, lost_lines, repaired_lines}
use Rattle.lsr_watch.specs.Tunnels.{tunnels_lines}

-- `router stopped by restart` or `router started`, where it was the other
abbrev pub running_line : State → State → List ℕ
running_line before after =
    if beq before.facts.cold after.facts.cold then []
    else if after.facts.cold then codes "router stopped by restart: what messages had set up is gone; type start\n"
    else codes "router started\n"

-- the link was up, or down, as it is now
abbrev pub was_so : State → ℕ × Bool → Bool
was_so before link = option_map_or (λ was. beq was link.1) (find nat_cmp link.0 before.facts.up) false

-- `link N up` or `link N down`, where it was the other
abbrev pub link_line : State → ℕ × Bool → List ℕ
link_line before link =
    if was_so before link then [] else codes "link " ++ (decimal link.0 ++ (codes " " ++ (state_word link.1 ++ codes "\n")))

-- the links that went down or came up
unfoldable pub links_lines : State → State → List ℕ
links_lines before after = flat_map (link_line before) after.facts.up

-- the LSPs that came up, then those that went down, then those that are repaired
unfoldable pub lsps_lines : State → State → List ℕ
lsps_lines before after = came_lines before after ++ (lost_lines before after ++ repaired_lines before after)

-- What is told between two looks at what a router knows: whether it runs, of links, of LSPs, and of the tunnels that begin here.
unfoldable pub changes_text : Router → State → State → List ℕ
changes_text r before after = running_line before after ++ (links_lines before after ++ (lsps_lines before after ++ tunnels_lines r before after))
