-- What becomes of a stack of labels, the top first, by the actions of labels (RFC 3031, 3.10 to 3.13; RFC 3032, 2.1 and 2.4.1).
use Rattle.std.specs.Prelude.{◌≡◌, ◌==◌, ◌-◌, ◌<◌, ◌≤◌, ◌++◌, ℕ, nat_le, nat_lt, if◌then◌else◌, All, List, [], ◌∷◌, flat_map, length, Option, Some, None}
use Rattle.label_stacks.specs.declared.entry.StackEntry.{StackEntry}
use Rattle.forwarding_table.specs.declared.action.Action.{Action}
use Rattle.forwarding_table.specs.declared.action.Action.TheVariants.{Swap, SwapPush, Pop, PushHead}
use Rattle.forwarding_table.specs.declared.forwarding.Fault.TheVariants.{NoLabel, HopLimit, TooLong}
use Rattle.forwarding_table.specs.declared.forwarding.Forwarding.{Forwarding}
use Rattle.forwarding_table.specs.declared.forwarding.Forwarding.TheVariants.{Deliver, Send, Drop}
use Rattle.forwarding_table.specs.Labels.{explicit_null, implicit_null}

-- an entry's action: explicit null is popped, and any other label is looked up
abbrev pub action_at : (ℕ → Option Action) → StackEntry → Option Action
action_at look entry = if entry.label == explicit_null then Some Pop else look entry.label

-- the entry of a label in place of another entry: its class stays, and its TTL is 1 less (RFC 3032, 2.4.1)
abbrev pub entry_for : StackEntry → ℕ → StackEntry
entry_for last label = record { label = label; class = last.class; ttl = last.ttl - 1 }

-- what is written for a label: its entry, and for implicit null nothing (RFC 3032, 2.1)
abbrev pub written_for : StackEntry → ℕ → List StackEntry
written_for last label = if label == implicit_null then [] else entry_for last label ∷ []

-- the stack with these labels, the first on top, in place of the last entry that was looked at
abbrev pub relabelled : List ℕ → StackEntry → List StackEntry → List StackEntry
relabelled labels last below = flat_map (written_for last) labels ++ below

-- that stack is sent, unless the entry's TTL ran out, or it would have more than eight entries
abbrev pub passed_on : List ℕ → ℕ → StackEntry → List StackEntry → Forwarding
passed_on labels link last below =
    if nat_le last.ttl 1 then Drop HopLimit
    else if nat_lt 8 (length (relabelled labels last below)) then Drop TooLong
    else Send link (relabelled labels last below)

-- what an action makes of an entry and those below it, where `popped` is what becomes of those below alone
abbrev pub forward_by : Option Action → StackEntry → List StackEntry → Forwarding → Forwarding
forward_by None last below popped = Drop NoLabel
forward_by (Some (Swap label link)) last below popped = passed_on (label ∷ []) link last below
forward_by (Some (SwapPush inner outer link)) last below popped = passed_on (outer ∷ inner ∷ []) link last below
forward_by (Some Pop) last below popped = popped
forward_by (Some (PushHead inner label link)) last below popped = Drop NoLabel

-- An empty stack is for this router. Of any other the top's action decides.
abbrev pub forward_of : (ℕ → Option Action) → List StackEntry → Forwarding
forward_of look [] = Deliver
forward_of look (top ∷ below) = forward_by (action_at look top) top below (forward_of look below)

-- A stack that is sent: under entries that were popped stood one that was looked at last. Those in its place have its
-- class and a lower TTL, and those below it are as they came. There are at most eight.
pub record IsSent (look : ℕ → Option Action) (stack out : List StackEntry) : Type 0 where
  pub popped : List StackEntry
  pub last : StackEntry
  pub below : List StackEntry
  pub written : List StackEntry
  pub came : stack ≡ popped ++ last ∷ below
  pub all_popped : All (λ entry. action_at look entry ≡ Some Pop) popped
  pub goes : out ≡ written ++ below
  pub lower : All (λ entry. entry.ttl < last.ttl) written
  pub same_class : All (λ entry. entry.class ≡ last.class) written
  pub few : length out ≤ 8
