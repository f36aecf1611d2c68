-- Which reservations stand in each other's way: those of one session on a link are all in one style (RFC 2205, 1.3 and B, 5).
use Rattle.std.specs.Prelude.{ℕ, ◌==◌, ◌&&◌, not, Bool}
use Rattle.std.specs.Ordering.{is_eq}
use Rattle.lsr_facts.specs.Orders.{key_cmp}
use Rattle.lsr_facts.specs.declared.key.Key.{Key}
use Rattle.lsr_facts.specs.Claims.{is_fixed, is_same_session, is_shared}
use Rattle.lsr_facts.specs.declared.resv_fact.ResvFact.{ResvFact}
use Rattle.lsr_facts.specs.declared.resv_fact.ResvStyle.{ResvStyle}
use Rattle.lsr_facts.specs.declared.resv_fact.ResvStyle.TheVariants.{FixedFilter, SharedExplicit}

-- both are shared, or neither is
abbrev pub is_same_style : ResvStyle → ResvStyle → Bool
is_same_style FixedFilter style = is_fixed style
is_same_style SharedExplicit style = is_shared style

-- another LSP of the session is reserved on the link in the other style
abbrev pub conflicts : ℕ → ResvStyle → Key → Key × ResvFact → Bool
conflicts link style key resv =
    is_same_session key.session resv.0.session && not (is_eq (key_cmp key resv.0)) && (resv.1.link == link) && not (is_same_style style resv.1.style)
