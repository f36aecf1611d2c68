-- The priorities at which paths have reservations kept, and what edits make of them (RFC 3209, 4.7.1).
use Rattle.std.specs.Prelude.{ℕ, ◌==◌, if◌then◌else◌, List, Option, Some, None, is_some}
use Rattle.std.specs.FinMap.Entries.{find, put}
use Rattle.std.specs.Option.{option_and_then, option_map, option_map_or, option_or}
use Rattle.lsr_facts.specs.Orders.{key_cmp}
use Rattle.lsr_facts.specs.declared.key.Key.{Key}
use Rattle.lsr_facts.specs.declared.path_fact.PathFact.{PathFact}
use Rattle.lsr_facts.specs.Priorities.{holding_of}
use Rattle.lsr_facts.specs.declared.resv_fact.ResvFact.{ResvFact}
use Rattle.abstract_router.specs.Preempting.{attr_at}
use Rattle.admission.specs.Bandwidths.{Edit}

-- the priority at which an LSP's path has its reservation kept
abbrev pub holding_at : List (Key × PathFact) → Key → ℕ
holding_at paths key = holding_of (attr_at paths key)

-- an edit of a reservation, and the priority at which it is kept where these are the paths
abbrev pub kept_edit : List (Key × PathFact) → Key × Option ResvFact → Key × Edit
kept_edit paths edit = (edit.0, option_map (λ fact. (fact, holding_at paths edit.0)) edit.1)

-- what an LSP has of these reservations, where its path has it kept at another priority after than before
abbrev pub moved : List (Key × PathFact) → List (Key × PathFact) → List (Key × ResvFact) → Key → Edit
moved before after resvs key =
    option_and_then (λ fact. if holding_at after key == holding_at before key then None else Some (fact, holding_at after key)) (find key_cmp key resvs)

-- the edit of an LSP: that of its reservation, or else, if its path is edited, what it has and keeps at another priority
abbrev pub edit_at : {E : Type 0} → Option Edit → Option E → Edit → Option Edit
edit_at kept path elsewhere = option_or kept (option_and_then (λ path. option_map Some elsewhere) path)

-- edits, and among them one of an LSP that has none yet, if it is to have one
abbrev pub with_edit : Key → Edit → List (Key × Edit) → List (Key × Edit)
with_edit key now edits = if is_some (find key_cmp key edits) then edits else option_map_or (λ given. put key_cmp key (Some given) edits) now edits
