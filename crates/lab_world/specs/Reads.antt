-- What is read of a world.
use Rattle.std.specs.Prelude.{◌≡◌, ◌≢◌, ◌&&◌, ◌==◌, ℕ, Bool, List, None}
use Rattle.std.specs.List.{list_any}
use Rattle.lsr_facts.specs.Claims.{is_same_session}
use Rattle.lsr_facts.specs.declared.refusal.Refusal.{Refusal}
use Rattle.lsr_facts.specs.declared.refusal.Refusal.TheVariants.{NoMemory, NoRouter}
use Rattle.abstract_world.specs.Worlds.{WorldState, at}
use Rattle.abstract_world.specs.declared.sent.Given.{Given}

-- Why nothing is told of the router of a place: it isn't there, or memory ran out for it.
abbrev pub IsUnknown : WorldState → ℕ → Refusal → Type 0
IsUnknown w place NoRouter = at w place ≡ None
IsUnknown w place NoMemory = at w place ≢ None
IsUnknown w place refusal = ⊥

-- they are one: the same label, which the same router gave to the same LSP
abbrev pub is_same_given : Given → Given → Bool
is_same_given a b = (a.router == b.router) && is_same_session a.session b.session && (a.lsp == b.lsp) && (a.label == b.label)

-- it is one of these
abbrev pub is_given : Given → List Given → Bool
is_given wanted given = list_any (λ row. is_same_given row wanted) given
