-- How the code's answers stand for those of the definitions.
use Rattle.std.specs.Prelude.{◌≡◌, Result, Ok, Err}
use Rattle.lsr_facts.specs.Errors.{bad_explicit_route, bad_strict_node, bad_loose_node, bad_initial_subobject, no_route}
use Rattle.lsr_facts.specs.declared.choice.Choice.{Choice}
use Rattle.lsr_facts.specs.declared.choice.Choice.TheVariants as choices
use Rattle.lsr_facts.specs.declared.errors.RsvpError.{RsvpError}
use Rattle.explicit_routes.specs.declared.fault.RouteError.{RouteError}
use Rattle.explicit_routes.specs.declared.fault.RouteError.TheVariants.{BadExplicitRoute, BadStrictNode, BadLooseNode, BadInitialSubobject, NoRoute}
use Rattle.explicit_routes.specs.declared.fault.RouteFault.{RouteFault}
use Rattle.explicit_routes.specs.declared.fault.RouteFault.TheVariants.{Error, Memory}
use Rattle.explicit_routes.specs.declared.lent.Way.{Way}
use Rattle.explicit_routes.specs.declared.lent.Way.TheVariants as ways

-- code and value of an error (RFC 3209, 7.3)
abbrev pub error_of : RouteError → RsvpError
error_of BadExplicitRoute = bad_explicit_route
error_of BadStrictNode = bad_strict_node
error_of BadLooseNode = bad_loose_node
error_of BadInitialSubobject = bad_initial_subobject
error_of NoRoute = no_route

-- The answer is the wanted choice, or the wanted error. Out of memory can come in place of any.
abbrev pub IsChosen : Result Choice RsvpError → Result Choice RouteFault → Type 0
IsChosen wanted (Ok choice) = wanted ≡ Ok choice
IsChosen wanted (Err (Error error)) = wanted ≡ Err (error_of error)
IsChosen wanted (Err Memory) = Unit {0}

-- a way as it is once what it lends is copied
abbrev pub choice_of : Way → Choice
choice_of ways.Tail = choices.Tail
choice_of (ways.Link link rest) = choices.Link link rest

-- The answer lends the wanted choice, or is the wanted error.
abbrev pub IsWay : Result Choice RsvpError → Result Way RouteError → Type 0
IsWay wanted (Ok way) = wanted ≡ Ok (choice_of way)
IsWay wanted (Err error) = wanted ≡ Err (error_of error)
