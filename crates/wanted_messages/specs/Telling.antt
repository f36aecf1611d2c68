-- What is said of an LSP upstream, as the code holds it.
use Rattle.abstract_router.specs.Upstreams.{Reserved}
use Rattle.wanted_messages.specs.declared.reserved.Reserved as code

-- what is said of an LSP, by what the code holds of it
abbrev pub said : code.Reserved → Reserved
said a = record { style = a.style; flowspec = a.flowspec; flags = a.flags; recorded = a.recorded; passing = a.passing }
