-- The most that one router keeps. The numbers are those of the program's constants: a limit is raised there.
use Rattle.std.specs.Prelude.{ℕ}
use Rattle.lsr_facts.specs.declared.limits.TheConstants.{MAX_BYPASSES, MAX_LINKS, MAX_LSPS, MAX_ORIGINS, MAX_ROUTES, MAX_TUNNELS}

-- links of a router
abbrev pub max_links : ℕ
max_links = MAX_LINKS

-- static routes of a router
abbrev pub max_routes : ℕ
max_routes = MAX_ROUTES

-- tunnels that begin at a router
abbrev pub max_tunnels : ℕ
max_tunnels = MAX_TUNNELS

-- bypasses of a router
abbrev pub max_bypasses : ℕ
max_bypasses = MAX_BYPASSES

-- LSPs of a router
abbrev pub max_lsps : ℕ
max_lsps = MAX_LSPS

-- origins of an LSP
abbrev pub max_origins : ℕ
max_origins = MAX_ORIGINS
