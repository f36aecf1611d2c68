-- The tables of records, and where in a document something stands.
use Rattle.lsr_config.specs.declared.key.Key.{Key}
use Rattle.lsr_config.specs.declared.key.Key.TheVariants as key
use Rattle.config_text.specs.declared.section.Section.{Section}
use Rattle.config_text.specs.declared.section.Section.TheVariants as sections

-- the key under which the records of a table stand
abbrev pub section_key : Section → Key
section_key sections.Links = key.Link
section_key sections.Routes = key.Route
section_key sections.Tunnels = key.Tunnel
section_key sections.Bypasses = key.Bypass
