-- What is told of an error that came for an LSP of a tunnel, by the name that `lsr explain` has for it.
use Rattle.std.specs.Prelude.{ℕ, Bool, false, ◌==◌, ◌&&◌, List, [], ◌∷◌, ◌++◌, codes, Option, Some, None, if◌then◌else◌}
use Rattle.std.specs.Fmt.{decimal}
use Rattle.std.specs.Net.Addr.{ipv4_octets}
use Rattle.std.specs.Net.Text.{ipv4_text}
use Rattle.std.specs.Option.{option_or}
use Rattle.std.specs.declared.net.ipv4_addr.Ipv4Addr.{Ipv4Addr}
use Rattle.lsr_explain.specs.Topics.{topic_of, words_of}
use Rattle.lsr_explain.specs.declared.topics.Kind.{Kind}
use Rattle.lsr_facts.specs.Routers.{is_same}
use Rattle.lsr_facts.specs.declared.tunnel.Noted.{Noted}

-- `CODE/VALUE`
abbrev pub error_word : ℕ → ℕ → List ℕ
error_word code value = decimal code ++ (codes "/" ++ decimal value)

-- what is explained of an error: of its code and value, or else of its code with any value
unfoldable pub error_topic : ℕ → ℕ → Option (Kind × List (List ℕ))
error_topic code value = option_or (topic_of (error_word code value)) (topic_of (decimal code ++ codes "/N"))

-- the name in a heading, after its number, with the space between them
abbrev pub name_after : Option (List ℕ × List ℕ) → List ℕ
name_after None = []
name_after (Some words) = codes " " ++ words.1

-- the name in the heading that lines begin with
abbrev pub heading_name : List (List ℕ) → List ℕ
heading_name [] = []
heading_name (heading ∷ lines) = name_after (words_of heading)

-- the name of what is explained
abbrev pub topic_name : Option (Kind × List (List ℕ)) → List ℕ
topic_name None = []
topic_name (Some topic) = heading_name topic.1

-- the name of an error, after a space; nothing where it has none
unfoldable pub error_name : ℕ → ℕ → List ℕ
error_name code value = topic_name (error_topic code value)

-- ` from NODE`: the router that found it
unfoldable pub node_words : Ipv4Addr → List ℕ
node_words node = codes " from " ++ (ipv4_text (ipv4_octets node) ++ codes "\n")

-- ` NAME from NODE`
unfoldable pub told_words : Noted → List ℕ
told_words e = error_name e.code e.value ++ node_words e.node

-- `tunnel N error CODE/VALUE NAME from NODE`
unfoldable pub noted_line : ℕ → Noted → List ℕ
noted_line number e = codes "tunnel " ++ (decimal number ++ (codes " error " ++ (decimal e.code ++ (codes "/" ++ (decimal e.value ++ told_words e)))))

-- this error was noted before: the same code and value, of the same router
abbrev pub is_noted : Noted → Option Noted → Bool
is_noted e None = false
is_noted e (Some was) = (was.code == e.code) && (was.value == e.value) && is_same was.node e.node

-- that an error is noted, if there is one and it is another than before
abbrev pub error_line : ℕ → Option Noted → Option Noted → List ℕ
error_line number was None = []
error_line number was (Some e) = if is_noted e was then [] else noted_line number e
