-- What becomes of what LSPs are promised of bypasses (RFC 4090, 4.3: bandwidth protection).
use Rattle.std.specs.Prelude.{◌&&◌, ◌==◌, if◌then◌else◌, List, Option, Some, None}
use Rattle.std.specs.FinMap.Entries.{find}
use Rattle.lsr_facts.specs.Orders.{key_cmp}
use Rattle.lsr_facts.specs.declared.assignment.Assignment.{Assignment}
use Rattle.lsr_facts.specs.declared.key.Key.{Key}

-- what becomes of a promise that was this and is that from now on: nothing where it is the same
abbrev pub promise_becomes : Option Assignment → Option Assignment → Option (Option Assignment)
promise_becomes None None = None
promise_becomes None (Some now) = Some (Some now)
promise_becomes (Some was) None = Some None
promise_becomes (Some was) (Some now) = if (was.bypass == now.bypass) && (was.rate == now.rate) then None else Some (Some now)

-- what becomes of an LSP's promise, of all before and from now on
abbrev pub promise_edit : List (Key × Assignment) → List (Key × Assignment) → Key → Option (Option Assignment)
promise_edit before after key = promise_becomes (find key_cmp key before) (find key_cmp key after)
